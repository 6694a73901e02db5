-- What a driver does that sends the data of each command back: it sends one message for each, and never fails its port.
use Rattle.std.proofs.Common.{◌≡◌, ℕ, ◌+◌, ◌||◌, List, [], ◌∷◌, ◌++◌, length, Bool, true, false, eqb, None, refl, ap, ◌∙◌, arith}
use Rattle.std.specs.Prelude.{if◌then◌else◌}
use Rattle.std.proofs.lemmas.Bool.{and_parts}
use Rattle.driver_model.specs.Calls as driver
use Rattle.driver_model.specs.Calls.{Callback, DriverCall, Echo}
use Rattle.driver_model.specs.Drivers.{effects_of}
use Rattle.driver_model.specs.Echo.{echo_effects}
use Rattle.driver_model.specs.Same.{same_effect, same_effects}
use Rattle.port_model.specs.declared.effect.Effect.{Effect}
use Rattle.port_model.specs.declared.effect.Effect.TheVariants.{Message, Reply, ReplyBadarg, Fail}
use Rattle.port_history.specs.Counts.{data_of_calls, with_data}
use Rattle.port_history.specs.Laws.{has_effects, is_answered_by}
use Rattle.port_history.specs.Opening.{Opening, Taken}
use Rattle.port_history.specs.Service.{effects_after}
use Rattle.port_history.specs.State.{State, row_calls, signal_calls}
use Rattle.port_history.specs.Ties.{failure}

-- how many of these effects are data
abbrev pub one_message : Effect → ℕ
one_message (Message flag bytes) = 1
one_message effect = 0

abbrev pub message_count : List Effect → ℕ
message_count [] = 0
message_count (effect ∷ effects) = one_message effect + message_count effects

-- one of these effects fails the port
abbrev is_fail : Effect → Bool
is_fail (Fail reason) = true
is_fail effect = false

abbrev fails : List Effect → Bool
fails [] = false
fails (effect ∷ effects) = is_fail effect || fails effects

same-message : (x y : Effect) → same_effect x y ≡ true → one_message x ≡ one_message y
same-message (Message flag bytes) (Message other others) e = refl
same-message (Message flag bytes) y e = absurd cc
same-message x (Message other others) e = absurd cc
same-message x y e = refl

same-fail : (x y : Effect) → same_effect x y ≡ true → is_fail x ≡ is_fail y
same-fail (Fail reason) (Fail other) e = refl
same-fail (Fail reason) y e = absurd cc
same-fail x (Fail other) e = absurd cc
same-fail x y e = refl

same-messages : (xs ys : List Effect) → same_effects xs ys ≡ true → message_count xs ≡ message_count ys
same-messages [] [] e = refl
same-messages [] (y ∷ ys) e = absurd cc
same-messages (x ∷ xs) [] e = absurd cc
same-messages (x ∷ xs) (y ∷ ys) e = let p = and_parts (same_effect x y) (same_effects xs ys) e in λ i. same-message x y p.0 i + same-messages xs ys p.1 i

same-fails : (xs ys : List Effect) → same_effects xs ys ≡ true → fails xs ≡ fails ys
same-fails [] [] e = refl
same-fails [] (y ∷ ys) e = absurd cc
same-fails (x ∷ xs) [] e = absurd cc
same-fails (x ∷ xs) (y ∷ ys) e = let p = and_parts (same_effect x y) (same_effects xs ys) e in λ i. same-fail x y p.0 i || same-fails xs ys p.1 i

messages-append : (xs ys : List Effect) → message_count (xs ++ ys) ≡ message_count xs + message_count ys
messages-append [] ys = omega arith
messages-append (x ∷ xs) ys = let rest = messages-append xs ys in omega (arith, rest)

fails-append : (xs ys : List Effect) → fails xs ≡ false → fails ys ≡ false → fails (xs ++ ys) ≡ false
fails-append [] ys a b = b
fails-append (Fail reason ∷ xs) ys a b = absurd cc
fails-append (x ∷ xs) ys a b = fails-append xs ys a b

unfailed : (effects : List Effect) → fails effects ≡ false → failure effects ≡ None
unfailed [] e = refl
unfailed (Fail reason ∷ effects) e = absurd cc
unfailed (effect ∷ effects) e = unfailed effects e

-- what a callback does: data for data alone
if-messages : (b : Bool) (bytes : List ℕ) → (message_count (if b then Reply bytes ∷ [] else ReplyBadarg ∷ []) ≡ 0) × (fails (if b then Reply bytes ∷ [] else ReplyBadarg ∷ []) ≡ false)
if-messages true bytes = (refl, refl)
if-messages false bytes = (refl, refl)

echo-messages : (callback : Callback) (others : List (List ℕ)) → length (with_data callback others) ≡ message_count (echo_effects callback) + length others
echo-messages (driver.Outputv bytes) others = omega arith
echo-messages (driver.Control op bytes) others = let none = (if-messages (eqb op 1) bytes).0 in omega (arith, none)
echo-messages (driver.Call op bytes) others = let none = (if-messages (eqb op 1) bytes).0 in omega (arith, none)
echo-messages callback others = omega arith

echo-fails : (callback : Callback) → fails (echo_effects callback) ≡ false
echo-fails (driver.Control op bytes) = (if-messages (eqb op 1) bytes).1
echo-fails (driver.Call op bytes) = (if-messages (eqb op 1) bytes).1
echo-fails callback = refl

calls-messages : (port : Opening) (earlier calls : List DriverCall) → port.kind ≡ Echo → message_count (effects_after port earlier calls) ≡ length (data_of_calls calls)
calls-messages port earlier [] echo = refl
calls-messages port earlier (call ∷ before) echo =
    let all = before ++ earlier in
    let rest = calls-messages port earlier before echo in
    let parts = messages-append (effects_after port earlier before) (effects_of port.kind port.config (call ∷ all)) in
    let here : message_count (effects_of port.kind port.config (call ∷ all)) ≡ message_count (echo_effects call.callback) = ap (λ k. message_count (effects_of k port.config (call ∷ all))) echo in
    let sent = echo-messages call.callback (data_of_calls before) in
    omega (arith, rest, parts, here, sent)

calls-fails : (port : Opening) (earlier calls : List DriverCall) → port.kind ≡ Echo → fails (effects_after port earlier calls) ≡ false
calls-fails port earlier [] echo = refl
calls-fails port earlier (call ∷ before) echo =
    fails-append (effects_after port earlier before) (effects_of port.kind port.config (call ∷ before ++ earlier)) (calls-fails port earlier before echo)
    (ap (λ k. fails (effects_of k port.config (call ∷ before ++ earlier))) echo ∙ echo-fails call.callback)

data-append : (calls earlier : List DriverCall) → length (data_of_calls (calls ++ earlier)) ≡ length (data_of_calls calls) + length (data_of_calls earlier)
data-append [] earlier = omega arith
data-append (call ∷ before) earlier =
    let rest = data-append before earlier in
    let one = echo-messages call.callback (data_of_calls (before ++ earlier)) in
    let other = echo-messages call.callback (data_of_calls before) in
    omega (arith, rest, one, other)

-- the effects of a handled row of such a driver
pub record EchoesRow (s : State) (t : Taken) (calls : List DriverCall) : Type 0 where
  pub messages : length (data_of_calls (calls ++ s.calls)) ≡ message_count t.effects + length (data_of_calls s.calls)
  pub unfailed : failure t.effects ≡ None

pub echoes-row : (port : Opening) (s : State) (t : Taken) → port.kind ≡ Echo → has_effects port s t ≡ true → EchoesRow s t (row_calls port s t)
echoes-row port s t echo kept =
    let calls = row_calls port s t in
    let same = (and_parts (same_effects t.effects (effects_after port s.calls calls)) (is_answered_by port s (signal_calls s t) t.outside) kept).0 in
    let sent = same-messages t.effects (effects_after port s.calls calls) same in
    let made = calls-messages port s.calls calls echo in
    let all = data-append calls s.calls in
    record {
      messages = omega (arith, sent, made, all);
      unfailed = unfailed t.effects (same-fails t.effects (effects_after port s.calls calls) same ∙ calls-fails port s.calls calls echo);
    }

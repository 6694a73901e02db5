-- What the program gives.
use Rattle.std.proofs.Common.{◌≡◌, ◌+◌, ◌<◌, ◌≤◌, ℕ, zero, suc, List, [], ◌∷◌, ◌++◌, ◌⊎◌, length, drop, Bool, true, false, ◌||◌, None, Some, IfSome, refl, sym, ◌∙◌, ap, inl, inr, arith, length-append, subst}
use Rattle.std.specs.Prelude.{ℤ, map, nat_lt, codes, if◌then◌else◌}
use Rattle.std.proofs.lemmas.Bool.{le-leb}
use Rattle.std.proofs.lemmas.List.{append-nil}
use Rattle.std.proofs.lemmas.List.Elements.{All-nil}
use Rattle.packet_framing.specs.declared.message.Message.{Message as Unframed}
use Rattle.packet_framing.specs.Messages.{IsServed, rest_of}
use Rattle.packet_framing.specs.Unframed.{Unframes, HasOversize}
use Rattle.packet_framing.proofs.Laws.{rest_is}
use Rattle.port_config.specs.declared.config.Config.{Config}
use Rattle.port_signal.specs.declared.outside.Outside.TheVariants.{Got}
use Rattle.port_model.specs.declared.effect.Effect.{Effect}
use Rattle.port_model.specs.declared.effect.Effect.TheVariants.{Fail}
use Rattle.driver_model.specs.Calls.{ReadyInput, DriverCall, call_of, cut_of, Program, Running, Spawn, is_empty}
use Rattle.driver_model.specs.Spawn.{asked, given, program_failed, spawn_queue, taken_bytes, unended_bytes, is_oversize, is_refused, rest, program, most_taken, most_at_once, got_effects, brought, sent}
use Rattle.driver_model.specs.Programs.{Tells}
use Rattle.outside.specs.Children.{ChildView, Stand, Shows, after_fetch}
use Rattle.port_driver.specs.Context.{Context}
use Rattle.port_driver.specs.Driven.{Did}
use Rattle.port_driver.proofs.Driven.{Goes}
use Rattle.spawn_driver.specs.declared.unframing.Found.{Found}
use Rattle.spawn_driver.specs.declared.unframing.Found.TheVariants.{Messages, TooMany, Oversize}
use Rattle.spawn_driver.specs.Serving.{told, told_of, status_of}
use Rattle.spawn_driver.specs.Steps.{Finds, Receives, effects_in}
use Rattle.spawn_driver.proofs.Lists.{left-quiet, front-quiet}
use Rattle.spawn_driver.proofs.Rests.{rest_of-append}
use Rattle.spawn_driver.proofs.Oversize.{told-not-oversize, oversize-found}
use Rattle.spawn_driver.proofs.Messages.{brought-are}
use Rattle.spawn_driver.proofs.Plain.{IsPlain, plain-nil, plain-fail, plain-messages, Did-plain}
use Rattle.spawn_driver.proofs.Histories.{kept-is, goes, given-within, not-refused, same-program, tells-call, statuses-go-on, status-stays}

drop-nil : (n : ℕ) (xs : List ℕ) → xs ≡ [] → drop n xs ≡ []
drop-nil zero xs none = none
drop-nil (suc n) xs none = rw none refl

-- a program whose output was taken whole has its status still
fetched-status : (stand : Stand) (n : ℕ) (status : ℤ) → status_of stand ≡ Some status → status_of (record stand { gives = drop n stand.gives }) ≡ Some status
fetched-status stand n status told' =
    elim (stand.gives) as (λ (g : List ℕ). stand.gives ≡ g → status_of (record stand { gives = drop n stand.gives }) ≡ Some status) [
      | [] ↦ λ none. let e = rw none at told' in rw (drop-nil n stand.gives none) e
      | (byte ∷ bytes) ↦ λ some. let bad : None ≡ Some status = sym (ap (λ g. if is_empty g then stand.ended else None) some) ∙ told' in absurd (cc)
    ] refl

-- the call that got these bytes
abbrev got_call : ℕ → ℕ → List ℕ → List Effect → DriverCall
got_call event caller bytes effects = call_of (ReadyInput event) caller (Got bytes ∷ []) effects

got-tells : (config : Config) (earlier : List DriverCall) (event caller : ℕ) (bytes : List ℕ) (effects : List Effect) (old new : ChildView) → Shows (after_fetch old bytes) new
    → Tells config earlier (told_of old old.stand) → Tells config (got_call event caller bytes effects ∷ earlier) (told_of new new.stand)
got-tells config earlier event caller bytes effects old new shows before =
    tells-call config earlier (got_call event caller bytes effects) (told_of old old.stand) (told_of new new.stand) (ap (λ c. c.command) shows.shown)
    (ap (λ c. c.given) shows.shown ∙ (before.given ∙ sym (front-quiet (given config earlier) (asked config earlier) [] (given-within config earlier))))
    (ap (λ c. c.fetched) shows.shown ∙ ap (λ xs. old.fetched ++ xs) (sym (append-nil bytes))) (ap (λ c. c.at_end) shows.shown)
    (statuses-go-on old.stand new.stand (λ stand. record stand { gives = drop (length bytes) stand.gives }) (Got bytes ∷ []) shows.stand
    (λ st st' on is. record {
      keeps = λ status e. status-stays (record st { gives = drop (length bytes) st.gives }) st' status on (fetched-status st (length bytes) status e);
      ended = λ e. absurd (cc);
      told = All-nil _;
    }))
    before

got-goes : (config : Config) (earlier : List DriverCall) (event caller : ℕ) (bytes left : List ℕ) (refused : Bool) (effects : List Effect) (old new : ChildView)
    → 0 < length bytes → length bytes ≤ 65536 → Shows (after_fetch old bytes) new
    → refused ≡ is_refused config (got_call event caller bytes effects ∷ earlier)
    → left ≡ (if refused then [] else rest_of config.mode (unended_bytes earlier ++ (bytes ++ [])))
    → effects ≡ got_effects config earlier (got_call event caller bytes effects) bytes → IfSome (told old) (Tells config earlier)
    → Goes Spawn config earlier (got_call event caller bytes effects)
    (Running (record (program config earlier) { rest = left; refused = refused; taken = length (taken_bytes earlier) + length bytes })) (told new) (spawn_queue config earlier) effects
got-goes config earlier event caller bytes left refused effects old new some within shows refuses leaves has before =
    let call : DriverCall = got_call event caller bytes effects in
    goes config earlier call (record (program config earlier) { rest = left; refused = refused; taken = length (taken_bytes earlier) + length bytes }) (spawn_queue config earlier)
    (told new) effects
    (same-program (record (program config earlier) { rest = left; refused = refused; taken = length (taken_bytes earlier) + length bytes }) (program config (call ∷ earlier)) refl refl refl
    (leaves ∙ ap (λ r. if r then [] else rest_of config.mode (unended_bytes earlier ++ (bytes ++ []))) refuses) refuses
    (omega (arith, length-append (taken_bytes earlier) (bytes ++ []), length-append bytes [])) refl refl)
    (sym (left-quiet (program_failed earlier) (given config earlier) (asked config earlier) (given-within config earlier))) has
    (rw (le-leb 1 (length bytes) some, le-leb (length bytes) most_at_once within) refl)
    (got-tells config earlier event caller bytes effects old new shows before)

or-second : (r a b : Bool) → a ≡ true → true ≡ (r || (a || b))
or-second true a b e = refl
or-second false a b e = rw e refl

or-third : (r a b : Bool) → b ≡ true → true ≡ (r || (a || b))
or-third true a b e = refl
or-third false true b e = refl
or-third false false b e = sym e

or-first : (r a b : Bool) → r ≡ true → true ≡ (r || (a || b))
or-first r a b e = rw e refl

or-none : (r a b : Bool) → r ≡ false → a ≡ false → b ≡ false → false ≡ (r || (a || b))
or-none r a b e f g = rw (e, f, g) refl

-- how many bytes were taken after these
got-size : (earlier : List DriverCall) (bytes : List ℕ) → length (taken_bytes earlier) + length bytes ≡ length (taken_bytes earlier ++ (bytes ++ []))
got-size earlier bytes = omega (arith, length-append (taken_bytes earlier) (bytes ++ []), length-append bytes [])

-- too many bytes were taken
many-goes : (config : Config) (earlier : List DriverCall) (event caller : ℕ) (bytes : List ℕ) (old new : ChildView) → 0 < length bytes → length bytes ≤ 65536
    → Shows (after_fetch old bytes) new → nat_lt most_taken (length (taken_bytes earlier) + length bytes) ≡ true → IfSome (told old) (Tells config earlier)
    → Goes Spawn config earlier (got_call event caller bytes (Fail (codes "enospc") ∷ []))
    (Running (record (program config earlier) { rest = []; refused = true; taken = length (taken_bytes earlier) + length bytes })) (told new) (spawn_queue config earlier)
    (Fail (codes "enospc") ∷ [])
many-goes config earlier event caller bytes old new some within shows many before =
    let many' = rw (got-size earlier bytes) at many in
    got-goes config earlier event caller bytes [] true (Fail (codes "enospc") ∷ []) old new some within shows (or-second _ _ _ many') refl (rw many' refl) before

-- a header told too many, now or before
oversize-goes : (config : Config) (earlier : List DriverCall) (event caller : ℕ) (bytes : List ℕ) (old new : ChildView) → IsServed config.mode → 0 < length bytes
    → length bytes ≤ 65536 → Shows (after_fetch old bytes) new → nat_lt most_taken (length (taken_bytes earlier) + length bytes) ≡ false
    → (is_refused config earlier ≡ true) ⊎ ((len : ℕ) × HasOversize config.mode (rest config earlier ++ bytes) len) → IfSome (told old) (Tells config earlier)
    → Goes Spawn config earlier (got_call event caller bytes (Fail (codes "emsgsize") ∷ []))
    (Running (record (program config earlier) { rest = []; refused = true; taken = length (taken_bytes earlier) + length bytes })) (told new) (spawn_queue config earlier)
    (Fail (codes "emsgsize") ∷ [])
oversize-goes config earlier event caller bytes old new served some within shows few over before =
    let few' = rw (got-size earlier bytes) at few in
    let refused : true ≡ is_refused config (got_call event caller bytes (Fail (codes "emsgsize") ∷ []) ∷ earlier) = refuses over in
    got-goes config earlier event caller bytes [] true (Fail (codes "emsgsize") ∷ []) old new some within shows refused refl
    (ap (λ (r : Bool). if◌then◌else◌ {A = List Effect} r (Fail (codes "emsgsize") ∷ []) (brought config.mode [] (unended_bytes earlier) bytes)) refused
    ∙ ap (λ (f : Bool). if◌then◌else◌ {A = List Effect} f (Fail (codes "enospc") ∷ [])
    (if is_refused config (got_call event caller bytes (Fail (codes "emsgsize") ∷ []) ∷ earlier) then Fail (codes "emsgsize") ∷ []
    else brought config.mode [] (unended_bytes earlier) bytes)) (sym few')) before
  where
    refuses : (is_refused config earlier ≡ true) ⊎ ((len : ℕ) × HasOversize config.mode (rest config earlier ++ bytes) len)
        → true ≡ is_refused config (got_call event caller bytes (Fail (codes "emsgsize") ∷ []) ∷ earlier)
    refuses (inl was) = or-first (is_refused config earlier) (nat_lt most_taken (length (taken_bytes earlier ++ (bytes ++ [])))) (is_oversize config.mode (rest_of config.mode (unended_bytes earlier ++ (bytes ++ [])))) was
    refuses (inr now) =
        elim (is_refused config earlier) as (λ (r : Bool). is_refused config earlier ≡ r → true ≡ is_refused config (got_call event caller bytes (Fail (codes "emsgsize") ∷ []) ∷ earlier)) [
          | true ↦ λ e. or-first (is_refused config earlier) (nat_lt most_taken (length (taken_bytes earlier ++ (bytes ++ [])))) (is_oversize config.mode (rest_of config.mode (unended_bytes earlier ++ (bytes ++ [])))) e
          | false ↦ λ e.
              let here : rest config earlier ≡ rest_of config.mode (unended_bytes earlier) = ap (λ r. if r then [] else rest_of config.mode (unended_bytes earlier)) e in
              let over' = rw here at now.1 in
              let found = oversize-found config.mode (unended_bytes earlier) bytes now.0 served (not-refused config earlier e).1 within over' in
              or-third (is_refused config earlier) (nat_lt most_taken (length (taken_bytes earlier ++ (bytes ++ [])))) (is_oversize config.mode (rest_of config.mode (unended_bytes earlier ++ (bytes ++ [])))) (ap (λ xs. is_oversize config.mode (rest_of config.mode (unended_bytes earlier ++ xs))) (append-nil bytes) ∙ found)
        ] refl

-- messages were found
messages-goes : (config : Config) (earlier : List DriverCall) (event caller : ℕ) (bytes left : List ℕ) (ms : List Unframed) (old new : ChildView) → IsServed config.mode
    → 0 < length bytes → length bytes ≤ 65536 → Shows (after_fetch old bytes) new → nat_lt most_taken (length (taken_bytes earlier) + length bytes) ≡ false
    → is_refused config earlier ≡ false → Unframes config.mode (rest config earlier ++ bytes) ms left → IfSome (told old) (Tells config earlier)
    → Goes Spawn config earlier (got_call event caller bytes (map sent ms))
    (Running (record (program config earlier) { rest = left; taken = length (taken_bytes earlier) + length bytes })) (told new) (spawn_queue config earlier)
    (map sent ms)
messages-goes config earlier event caller bytes left ms old new served some within shows few opened unframes before =
    let few' = rw (got-size earlier bytes) at few in
    let here : rest config earlier ≡ rest_of config.mode (unended_bytes earlier) = ap (λ r. if r then [] else rest_of config.mode (unended_bytes earlier)) opened in
    let unframes' = rw here at unframes in
    let left' : left ≡ rest_of config.mode (unended_bytes earlier ++ (bytes ++ [])) =
    rest_is config.mode (rest_of config.mode (unended_bytes earlier) ++ bytes) ms left unframes'
    ∙ (sym (rest_of-append config.mode served (unended_bytes earlier) bytes) ∙ ap (λ xs. rest_of config.mode (unended_bytes earlier ++ xs)) (sym (append-nil bytes))) in
    let small : is_oversize config.mode (rest_of config.mode (unended_bytes earlier ++ (bytes ++ []))) ≡ false =
    ap (is_oversize config.mode) (sym left') ∙ told-not-oversize config.mode (rest_of config.mode (unended_bytes earlier) ++ bytes) ms left unframes' in
    let refused : false ≡ is_refused config (got_call event caller bytes (map sent ms) ∷ earlier) = or-none _ _ _ opened few' small in
    subst (λ (r : Bool). Goes Spawn config earlier (got_call event caller bytes (map sent ms))
    (Running (record (program config earlier) { rest = left; refused = r; taken = length (taken_bytes earlier) + length bytes })) (told new) (spawn_queue config earlier) (map sent ms))
    (sym opened) (got-goes config earlier event caller bytes left false (map sent ms) old new some within shows refused left'
    (brought-are config.mode served (unended_bytes earlier) bytes ms left unframes'
    ∙ (ap (λ (r : Bool). if◌then◌else◌ {A = List Effect} r (Fail (codes "emsgsize") ∷ []) (brought config.mode (cut_of (map sent ms)) (unended_bytes earlier) bytes)) refused
    ∙ ap (λ (f : Bool). if◌then◌else◌ {A = List Effect} f (Fail (codes "enospc") ∷ [])
    (if is_refused config (got_call event caller bytes (map sent ms) ∷ earlier) then Fail (codes "emsgsize") ∷ []
    else brought config.mode (cut_of (map sent ms)) (unended_bytes earlier) bytes)) (sym few'))) before)

pub Did-got : (event : ℕ) (bytes : List ℕ) (old_child new_child : ChildView) (old new : Program) (before after : Context) → IsServed old.config.mode → 0 < length bytes
    → length bytes ≤ 65536 → Shows (after_fetch old_child bytes) new_child → Receives bytes old new before after
    → Did Spawn (ReadyInput event) (Running old) (Running new) (told old_child) (told new_child) before after []
Did-got event bytes old_child new_child old new before after served some within shows receives =
    Did-plain (ReadyInput event) (Running old) (Running new) (told old_child) (told new_child) before after before.queue (before.outside ++ Got bytes ∷ []) (Got bytes ∷ [])
    (effects_in receives.found) receives.context refl (found-plain receives.found)
    (λ config earlier stands.
    let e = kept-is config earlier old before.queue stands.holds in
    let served' = rw e.0 at served in
    rw e.1 (found-goes config earlier receives.found old e.0 new served' receives.finds stands.told))
  where
    found-plain : (found : Found) → IsPlain (effects_in found)
    found-plain (Messages messages) = let p = plain-messages messages.items [] plain-nil in rw (append-nil (map sent messages.items)) at p
    found-plain TooMany = plain-fail (codes "enospc")
    found-plain Oversize = plain-fail (codes "emsgsize")

    found-goes : (config : Config) (earlier : List DriverCall) (found : Found) (kept : Program) → kept ≡ program config earlier → (now : Program) → IsServed config.mode
        → Finds (record kept { taken = kept.taken + length bytes }) now bytes found → IfSome (told old_child) (Tells config earlier)
        → Goes Spawn config earlier (got_call event before.caller bytes (effects_in found)) (Running now) (told new_child) (spawn_queue config earlier) (effects_in found)
    found-goes config earlier (Messages messages) kept is now served' finds told' =
        let f = rw is at finds in
        subst (λ (k : Program). Goes Spawn config earlier (got_call event before.caller bytes (map sent messages.items)) (Running k) (told new_child) (spawn_queue config earlier) (map sent messages.items))
        (sym f.3) (messages-goes config earlier event before.caller bytes now.rest messages.items old_child new_child served' some within shows f.0 f.1 f.2 told')
    found-goes config earlier TooMany kept is now served' finds told' =
        let f = rw is at finds in
        rw f.1 (many-goes config earlier event before.caller bytes old_child new_child some within shows f.0 told')
    found-goes config earlier Oversize kept is now served' finds told' =
        let f = rw is at finds in
        rw f.1 (oversize-goes config earlier event before.caller bytes old_child new_child served' some within shows f.0 f.2 told')

-- What a driver does that sends each command back: it never fails its port, and of what a port of commands alone is told only a command has an effect.
use Rattle.std.proofs.Common.{◌≡◌, ℕ, ◌==◌, ◌&&◌, Bool, true, false, cond, List, [], ◌∷◌, ◌++◌, None, refl, ap}
use Rattle.std.proofs.lemmas.Bool.{and_parts, eqb-true}
use Rattle.std.proofs.lemmas.Bool.Decides.{Decides-int_eq, Decides-eqb}
use Rattle.std.proofs.lemmas.Slice.Eq.{slice_eq-Decides}
use Rattle.port_history.specs.port_model.io_vector.declared.flag.Flag.{Flag}
use Rattle.port_history.specs.port_model.io_vector.declared.flag.Flag.TheVariants.{Plain, Eol, Noeol}
use Rattle.port_history.specs.port_model.declared.event.Dir.{Dir}
use Rattle.port_history.specs.port_model.declared.event.Dir.TheVariants.{Read, Write}
use Rattle.port_history.specs.port_model.declared.effect.Effect.{Effect}
use Rattle.port_history.specs.port_model.declared.effect.Effect.TheVariants.{Message, Eof, Status, Busy, Select, Unuse, Async, Watch, Reply, ReplyBadarg, Fail}
use Rattle.driver_model.specs.Calls as driver
use Rattle.driver_model.specs.Calls.{Callback, DriverCall, Kind, Echo, Valve}
use Rattle.driver_model.specs.Drivers.{effects_of}
use Rattle.driver_model.specs.Echo.{echo_effects}
use Rattle.driver_model.specs.Valve.{valve_effects}
use Rattle.driver_model.specs.Same.{same_bytes, same_bool, same_flag, same_dir, same_effect, same_effects}
use Rattle.port_history.specs.Opening.{Opening}
use Rattle.port_history.specs.Service.{effects_after}
use Rattle.port_history.specs.Ties.{failure}
use Rattle.driver_model.specs.port_config.declared.config.Config.{Config}
use Rattle.echoed_history.specs.Commands.{echoes}

-- two effects that are the same are one
bytes : (bs cs : List ℕ) → same_bytes bs cs ≡ true → bs ≡ cs
bytes bs cs = (slice_eq-Decides Decides-eqb bs cs (same_bytes bs cs) refl).0

bool : (b c : Bool) → same_bool b c ≡ true → b ≡ c
bool true true e = refl
bool true false e = absurd cc
bool false true e = absurd cc
bool false false e = refl

flags : (f g : Flag) → same_flag f g ≡ true → f ≡ g
flags Plain Plain e = refl
flags Eol Eol e = refl
flags Noeol Noeol e = refl
flags f g e = absurd cc

dirs : (d c : Dir) → same_dir d c ≡ true → d ≡ c
dirs Read Read e = refl
dirs Write Write e = refl
dirs d c e = absurd cc

one : (x y : Effect) → same_effect x y ≡ true → x ≡ y
one (Message f bs) (Message g cs) e = let p = and_parts (same_flag f g) (same_bytes bs cs) e in λ i. Message (flags f g p.0 i) (bytes bs cs p.1 i)
one Eof Eof e = refl
one (Status n) (Status m) e = ap Status ((Decides-int_eq n m).0 e)
one (Busy b) (Busy c) e = ap Busy (bool b c e)
one (Select n d b) (Select m c a) e =
    let p = and_parts (n == m && same_dir d c) (same_bool b a) e in
    let q = and_parts (n == m) (same_dir d c) p.0 in
    λ i. Select (eqb-true n m q.0 i) (dirs d c q.1 i) (bool b a p.1 i)
one (Unuse n) (Unuse m) e = ap Unuse (eqb-true n m e)
one (Async n k c b) (Async m l d a) e =
    let p = and_parts (n == m && k == l && c == d) (same_bytes b a) e in
    let q = and_parts (n == m && k == l) (c == d) p.0 in
    let r = and_parts (n == m) (k == l) q.0 in
    λ i. Async (eqb-true n m r.0 i) (eqb-true k l r.1 i) (eqb-true c d q.1 i) (bytes b a p.1 i)
one (Watch n) (Watch m) e = ap Watch (eqb-true n m e)
one (Reply bs) (Reply cs) e = ap Reply (bytes bs cs e)
one ReplyBadarg ReplyBadarg e = refl
one (Fail bs) (Fail cs) e = ap Fail (bytes bs cs e)
one x y e = absurd cc

pub same-effects : (xs ys : List Effect) → same_effects xs ys ≡ true → xs ≡ ys
same-effects [] [] e = refl
same-effects (x ∷ xs) (y ∷ ys) e = let p = and_parts (same_effect x y) (same_effects xs ys) e in λ i. one x y p.0 i ∷ same-effects xs ys p.1 i
same-effects [] (y ∷ ys) e = absurd cc
same-effects (x ∷ xs) [] e = absurd cc

echo-fails : (callback : Callback) → failure (echo_effects callback) ≡ None
echo-fails (driver.Outputv bytes) = refl
echo-fails (driver.Control op bytes) = elim (op == 1) as (λ b. failure (cond b (Reply bytes ∷ []) (ReplyBadarg ∷ [])) ≡ None) [
  | true ↦ refl
  | false ↦ refl
]
echo-fails (driver.Call op bytes) = elim (op == 1) as (λ b. failure (cond b (Reply bytes ∷ []) (ReplyBadarg ∷ [])) ≡ None) [
  | true ↦ refl
  | false ↦ refl
]
echo-fails callback = refl

valve-fails : (callback : Callback) → failure (valve_effects callback) ≡ None
valve-fails (driver.Outputv bytes) = refl
valve-fails (driver.Control op bytes) = control (op == 1) (op == 2)
  where
    control : (a b : Bool) → failure (cond a (Busy true ∷ Reply [] ∷ []) (cond b (Busy false ∷ Reply [] ∷ []) (ReplyBadarg ∷ []))) ≡ None
    control true b = refl
    control false true = refl
    control false false = refl
valve-fails (driver.Call op bytes) = refl
valve-fails callback = refl

never-fails : (kind : Kind) (config : Config) (calls : List DriverCall) → echoes kind ≡ true → failure (effects_of kind config calls) ≡ None
never-fails kind config [] is = refl
never-fails Echo config (call ∷ earlier) is = echo-fails call.callback
never-fails (Valve soft) config (call ∷ earlier) is = valve-fails call.callback
never-fails kind config calls is = absurd cc

no-failure : (xs ys : List Effect) → failure xs ≡ None → failure ys ≡ None → failure (xs ++ ys) ≡ None
no-failure [] ys a b = b
no-failure (Fail reason ∷ xs) ys a b = absurd cc
no-failure (x ∷ xs) ys a b = no-failure xs ys a b

pub row-never-fails : (port : Opening) (earlier calls : List DriverCall) → echoes port.kind ≡ true → failure (effects_after port earlier calls) ≡ None
row-never-fails port earlier [] is = refl
row-never-fails port earlier (call ∷ before) is =
    no-failure (effects_after port earlier before) (effects_of port.kind port.config (call ∷ before ++ earlier)) (row-never-fails port earlier before is)
    (never-fails port.kind port.config (call ∷ before ++ earlier) is)

-- the callback has no effect of such a driver
abbrev pub is_silent : Callback → Bool
is_silent (driver.Outputv bytes) = false
is_silent (driver.Control op bytes) = false
is_silent (driver.Call op bytes) = false
is_silent callback = true

pub silent : (kind : Kind) (config : Config) (call : DriverCall) (earlier : List DriverCall) → echoes kind ≡ true → is_silent call.callback ≡ true → effects_of kind config (call ∷ earlier) ≡ []
silent Echo config call earlier is quiet = elim call.callback as (λ c. is_silent c ≡ true → echo_effects c ≡ []) [
  | driver.Outputv bytes ↦ λ e. absurd cc
  | driver.Control op bytes ↦ λ e. absurd cc
  | driver.Call op bytes ↦ λ e. absurd cc
  | _ ↦ λ e. refl
] quiet
silent (Valve soft) config call earlier is quiet = elim call.callback as (λ c. is_silent c ≡ true → valve_effects c ≡ []) [
  | driver.Outputv bytes ↦ λ e. absurd cc
  | driver.Control op bytes ↦ λ e. absurd cc
  | driver.Call op bytes ↦ λ e. absurd cc
  | _ ↦ λ e. refl
] quiet
silent kind config call earlier is quiet = absurd cc

pub sends-back : (kind : Kind) (config : Config) (call : DriverCall) (earlier : List DriverCall) (bytes : List ℕ) → echoes kind ≡ true → call.callback ≡ driver.Outputv bytes
    → effects_of kind config (call ∷ earlier) ≡ Message Plain bytes ∷ []
sends-back Echo config call earlier bytes is out = ap echo_effects out
sends-back (Valve soft) config call earlier bytes is out = ap valve_effects out
sends-back kind config call earlier bytes is out = absurd cc

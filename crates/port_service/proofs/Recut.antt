-- How a driver's messages were cut matters to what it does for a program alone.
use Rattle.std.proofs.Common.{◌≡◌, ℕ, ◌+◌, List, [], ◌∷◌, Option, Some, None, refl, sym, ap, ◌∙◌, subst}
use Rattle.std.specs.Prelude.{IfSome}
use Rattle.std.proofs.lemmas.List.Sums.{sum_by-cons}
use Rattle.port_driver.specs.port_config.declared.config.Config.{Config}
use Rattle.port_model.specs.port_signal.declared.outside.Outside.{Outside}
use Rattle.port_model.specs.declared.effect.Effect.{Effect}
use Rattle.port_driver.specs.driver_model.Calls.{Callback, DriverCall, call_of, cut_of, Own, Counted, Kind, Echo, Tally, Valve, Store, Digest, Spawn, Refuse1, Refuse2, Refuse3}
use Rattle.port_driver.specs.driver_model.Tally.{commands, command_bytes, command_count, command_length}
use Rattle.port_driver.specs.driver_model.Drivers.{holds, effects_of, call_answered, job_count, jobs_by, held_events, held_by}
use Rattle.port_driver.specs.driver_model.Programs.{ToldProgram, Tells}
use Rattle.port_driver.specs.Context.{Context, SameEvents}
use Rattle.port_driver.specs.Driven.{held_of, Stands}

-- these effects are cut alike for a driver of this kind: only for a program does it matter
abbrev pub SameCut : Kind → List Effect → List Effect → Type 0
SameCut Spawn effects others = cut_of effects ≡ cut_of others
SameCut kind effects others = Unit {0}

pub SameCut-refl : (kind : Kind) (effects : List Effect) → SameCut kind effects effects
SameCut-refl Echo effects = tt
SameCut-refl Tally effects = tt
SameCut-refl (Valve soft) effects = tt
SameCut-refl Store effects = tt
SameCut-refl Digest effects = tt
SameCut-refl Spawn effects = refl
SameCut-refl Refuse1 effects = tt
SameCut-refl Refuse2 effects = tt
SameCut-refl Refuse3 effects = tt

pub recut-effects : (kind : Kind) (config : Config) (earlier : List DriverCall) (callback : Callback) (caller : ℕ) (outside : List Outside) (a b : List Effect) → SameCut kind a b
    → effects_of kind config (call_of callback caller outside a ∷ earlier) ≡ effects_of kind config (call_of callback caller outside b ∷ earlier)
recut-effects Echo config earlier callback caller outside a b same = refl
recut-effects Tally config earlier callback caller outside a b same = refl
recut-effects (Valve soft) config earlier callback caller outside a b same = refl
recut-effects Store config earlier callback caller outside a b same = refl
recut-effects Digest config earlier callback caller outside a b same = refl
recut-effects Spawn config earlier callback caller outside a b same =
    ap (λ x. effects_of Spawn config ((record { callback = callback; caller = caller; outside = outside; cut = x }) ∷ earlier)) same
recut-effects Refuse1 config earlier callback caller outside a b same = refl
recut-effects Refuse2 config earlier callback caller outside a b same = refl
recut-effects Refuse3 config earlier callback caller outside a b same = refl

tally-recut : (config : Config) (earlier : List DriverCall) (c d : DriverCall) → c.callback ≡ d.callback → holds Tally config (c ∷ earlier) ≡ holds Tally config (d ∷ earlier)
tally-recut config earlier c d e =
    let n : commands (c ∷ earlier) ≡ commands (d ∷ earlier) =
    sum_by-cons (λ k. command_count k.callback) c earlier ∙ (ap (λ k. command_count k + commands earlier) e ∙ sym (sum_by-cons (λ k. command_count k.callback) d earlier)) in
    let b : command_bytes (c ∷ earlier) ≡ command_bytes (d ∷ earlier) =
    sum_by-cons (λ k. command_length k.callback) c earlier ∙ (ap (λ k. command_length k + command_bytes earlier) e ∙ sym (sum_by-cons (λ k. command_length k.callback) d earlier)) in
    ap (λ x. held_of (Counted x (command_bytes (c ∷ earlier))) []) n ∙ ap (λ x. held_of (Counted (commands (d ∷ earlier)) x) []) b

recut-holds : (kind : Kind) (config : Config) (earlier : List DriverCall) (callback : Callback) (caller : ℕ) (outside : List Outside) (a b : List Effect) → SameCut kind a b
    → holds kind config (call_of callback caller outside a ∷ earlier) ≡ holds kind config (call_of callback caller outside b ∷ earlier)
recut-holds Echo config earlier callback caller outside a b same = refl
recut-holds Tally config earlier callback caller outside a b same = tally-recut config earlier (call_of callback caller outside a) (call_of callback caller outside b) refl
recut-holds (Valve soft) config earlier callback caller outside a b same = refl
recut-holds Store config earlier callback caller outside a b same = refl
recut-holds Digest config earlier callback caller outside a b same = refl
recut-holds Spawn config earlier callback caller outside a b same =
    ap (λ x. holds Spawn config ((record { callback = callback; caller = caller; outside = outside; cut = x }) ∷ earlier)) same
recut-holds Refuse1 config earlier callback caller outside a b same = refl
recut-holds Refuse2 config earlier callback caller outside a b same = refl
recut-holds Refuse3 config earlier callback caller outside a b same = refl

recut-told : (program : Option ToldProgram) (config : Config) (earlier : List DriverCall) (callback : Callback) (caller : ℕ) (outside : List Outside) (a b : List Effect)
    → IfSome program (Tells config (call_of callback caller outside a ∷ earlier)) → IfSome program (Tells config (call_of callback caller outside b ∷ earlier))
recut-told None config earlier callback caller outside a b told = tt
recut-told (Some program) config earlier callback caller outside a b told = record {
  command = told.command;
  given = told.given;
  taken = told.taken;
  at_end = told.at_end;
  ended = told.ended;
  status = told.status;
}

-- a driver stands as it does, however its last messages are said to be cut
pub recut-stands : (kind : Kind) (config : Config) (earlier : List DriverCall) (callback : Callback) (caller : ℕ) (outside : List Outside) (a b : List Effect) (own : Own)
    (program : Option ToldProgram) (context : Context) → SameCut kind a b
    → Stands kind config (call_of callback caller outside a ∷ earlier) own program context → Stands kind config (call_of callback caller outside b ∷ earlier) own program context
recut-stands kind config earlier callback caller outside a b own program context same s =
    let e = recut-effects kind config earlier callback caller outside a b same in
    record {
      holds = s.holds ∙ recut-holds kind config earlier callback caller outside a b same;
      jobs = s.jobs ∙ ap (λ es. job_count kind config earlier + jobs_by es) e;
      events = subst (λ es. SameEvents context.held (held_by es (held_events kind config earlier))) e s.events;
      told = recut-told program config earlier callback caller outside a b s.told;
    }

-- an offered answer doesn't depend on it
pub recut-answered : (kind : Kind) (config : Config) (earlier : List DriverCall) (callback : Callback) (caller : ℕ) (outside : List Outside) (a b : List Effect)
    → call_answered kind config earlier (call_of callback caller outside a) ≡ call_answered kind config earlier (call_of callback caller outside b)
recut-answered Echo config earlier callback caller outside a b = refl
recut-answered Tally config earlier callback caller outside a b = refl
recut-answered (Valve soft) config earlier callback caller outside a b = refl
recut-answered Store config earlier callback caller outside a b = refl
recut-answered Digest config earlier callback caller outside a b = refl
recut-answered Spawn config earlier callback caller outside a b = refl
recut-answered Refuse1 config earlier callback caller outside a b = refl
recut-answered Refuse2 config earlier callback caller outside a b = refl
recut-answered Refuse3 config earlier callback caller outside a b = refl

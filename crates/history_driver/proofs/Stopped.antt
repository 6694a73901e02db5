-- The call of `stop` changes nothing of what is told of a driver, and has no effect.
use Rattle.std.proofs.Common.{◌≡◌, ◌+◌, ℕ, List, [], ◌∷◌, refl, sym, ap, ◌∙◌, arith}
use Rattle.std.specs.Prelude.{None}
use Rattle.std.proofs.lemmas.List.Sums.{sum_by-cons}
use Rattle.port_config.specs.declared.config.Config.{Config}
use Rattle.driver_model.specs.Calls.{Stop, DriverCall, call_of, Own, Counted, Submitted, Kind, Echo, Tally, Valve, Store, Digest, Spawn, Refuse1, Refuse2, Refuse3}
use Rattle.driver_model.specs.Digest.{submitted}
use Rattle.driver_model.specs.Spawn.{asked, given, holds_busy, program, program_failed, spawn_queue}
use Rattle.driver_model.specs.Tally.{commands, command_bytes, command_count, command_length}
use Rattle.driver_model.specs.Drivers.{holds, effects_of}
use Rattle.port_driver.specs.Context.{Context}
use Rattle.port_driver.specs.Driven.{held_of, Stands}
use Rattle.spawn_driver.proofs.Histories.{given-within, holds-is, unread-program}
use Rattle.spawn_driver.proofs.Lists.{left-quiet}

stop-tally : (config : Config) (calls : List DriverCall) (caller : ℕ) → holds Tally config calls ≡ holds Tally config (call_of Stop caller [] [] ∷ calls)
stop-tally config calls caller =
    let call : DriverCall = call_of Stop caller [] [] in
    let n : commands calls ≡ commands (call ∷ calls) = let e = sum_by-cons (λ k. command_count k.callback) call calls in omega (arith, e) in
    let b : command_bytes calls ≡ command_bytes (call ∷ calls) = let e = sum_by-cons (λ k. command_length k.callback) call calls in omega (arith, e) in
    ap (λ x. held_of (Counted x (command_bytes calls)) []) n ∙ ap (λ x. held_of (Counted (commands (call ∷ calls)) x) []) b

stop-digest : (config : Config) (calls : List DriverCall) (caller : ℕ) → holds Digest config calls ≡ holds Digest config (call_of Stop caller [] [] ∷ calls)
stop-digest config calls caller =
    let n : submitted calls ≡ submitted calls + 0 = omega arith in
    ap (λ x. held_of (Submitted x) []) n

stop-spawn : (config : Config) (calls : List DriverCall) (caller : ℕ) → holds Spawn config calls ≡ holds Spawn config (call_of Stop caller [] [] ∷ calls)
stop-spawn config calls caller =
    let call : DriverCall = call_of Stop caller [] [] in
    holds-is config (call ∷ calls) (program config calls) (spawn_queue config calls)
    (unread-program config calls call (holds_busy config calls) (program_failed calls) refl refl refl refl refl refl)
    (sym (left-quiet (program_failed calls) (given config calls) (asked config calls) (given-within config calls)))

stop-holds : (kind : Kind) (config : Config) (calls : List DriverCall) (caller : ℕ) → holds kind config calls ≡ holds kind config (call_of Stop caller [] [] ∷ calls)
stop-holds Echo config calls caller = refl
stop-holds Tally config calls caller = stop-tally config calls caller
stop-holds (Valve soft) config calls caller = refl
stop-holds Store config calls caller = refl
stop-holds Digest config calls caller = stop-digest config calls caller
stop-holds Spawn config calls caller = stop-spawn config calls caller
stop-holds Refuse1 config calls caller = refl
stop-holds Refuse2 config calls caller = refl
stop-holds Refuse3 config calls caller = refl

pub stop-effects : (kind : Kind) (config : Config) (calls : List DriverCall) (caller : ℕ) → effects_of kind config (call_of Stop caller [] [] ∷ calls) ≡ []
stop-effects Echo config calls caller = refl
stop-effects Tally config calls caller = refl
stop-effects (Valve soft) config calls caller = refl
stop-effects Store config calls caller = refl
stop-effects Digest config calls caller = refl
stop-effects Spawn config calls caller = refl
stop-effects Refuse1 config calls caller = refl
stop-effects Refuse2 config calls caller = refl
stop-effects Refuse3 config calls caller = refl

pub stop-stands : (kind : Kind) (config : Config) (calls : List DriverCall) (caller : ℕ) (own : Own) (context : Context) → Stands kind config calls own None context
    → Stands kind config (call_of Stop caller [] [] ∷ calls) own None context
stop-stands kind config calls caller own context s =
    let none = stop-effects kind config calls caller in
    record {
      holds = s.holds ∙ stop-holds kind config calls caller;
      jobs = rw none (let j = s.jobs in omega (arith, j));
      events = rw none s.events;
      told = tt;
    }

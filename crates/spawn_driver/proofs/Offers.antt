-- What the program takes of the queue, and its failures.
use Rattle.std.proofs.Common.{◌≡◌, ◌≤◌, ℕ, min, List, [], ◌∷◌, ◌++◌, length, take, drop, Bool, true, false, ◌&&◌, refl, sym, ◌∙◌, ap, arith}
use Rattle.std.specs.Prelude.{nat_le, codes, if◌then◌else◌}
use Rattle.std.proofs.lemmas.Bool.{le-leb}
use Rattle.std.proofs.lemmas.List.{append-nil}
use Rattle.port_config.specs.declared.config.Config.{Config}
use Rattle.port_signal.specs.declared.outside.Outside.{Outside}
use Rattle.port_signal.specs.declared.outside.Outside.TheVariants.{Took, Again, Failed}
use Rattle.port_model.specs.declared.effect.Effect.{Effect}
use Rattle.port_model.specs.declared.effect.Effect.TheVariants.{Select, Fail}
use Rattle.port_model.specs.declared.event.Dir.TheVariants.{Write}
use Rattle.driver_model.specs.Calls.{Callback, ReadyInput, ReadyOutput, DriverCall, call_of, Program, Running, Spawn, is_empty}
use Rattle.driver_model.specs.Spawn.{framed, asked, given, took_by, got_by, has_end, program_failed, spawn_queue, held_busy, holds_busy, read_after, write_after, read_event, write_event, program, spawn_effects, spawn_answered, most_at_once}
use Rattle.driver_model.specs.Programs.{Tells, statuses_in}
use Rattle.outside.specs.Children.{ChildView, Shows}
use Rattle.port_driver.specs.Context.{Context}
use Rattle.port_driver.specs.Driven.{Did}
use Rattle.port_driver.proofs.Driven.{Goes}
use Rattle.spawn_driver.specs.Recorded.{with_effects, write_deselected, busy_cleared}
use Rattle.spawn_driver.specs.Serving.{told, told_of}
use Rattle.spawn_driver.specs.Steps.{Takes}
use Rattle.spawn_driver.proofs.Lists.{left-quiet, left-took, front-quiet, front-took}
use Rattle.spawn_driver.proofs.Plain.{IsPlain, plain-nil, plain-fail, plain-if-busy, Did-plain}
use Rattle.spawn_driver.proofs.Histories.{kept-is, goes, given-within, unread-program, tells-same}

took-goes : (config : Config) (earlier : List DriverCall) (event caller count : ℕ) (queue : List ℕ) (old new : ChildView) → count ≤ min (length (spawn_queue config earlier)) 65536
    → queue ≡ drop count (spawn_queue config earlier) → Shows (record old { given = old.given ++ take count (spawn_queue config earlier) }) new
    → Tells config earlier (told_of old old.stand)
    → Goes Spawn config earlier
    (call_of (ReadyOutput event) caller (Took count ∷ []) (busy_cleared config.busy_low (holds_busy config earlier) queue ++ write_deselected (write_event earlier) queue))
    (Running (record (program config earlier) { busy = holds_busy config earlier && nat_le config.busy_low (length queue) })) (told new) queue
    (busy_cleared config.busy_low (holds_busy config earlier) queue ++ write_deselected (write_event earlier) queue)
took-goes config earlier event caller count queue old new within dropped shows before =
    let effects = busy_cleared config.busy_low (holds_busy config earlier) queue ++ write_deselected (write_event earlier) queue in
    let call : DriverCall = call_of (ReadyOutput event) caller (Took count ∷ []) effects in
    let few : count ≤ length (spawn_queue config earlier) = omega arith in
    let q : queue ≡ spawn_queue config (call ∷ earlier) =
    dropped ∙ sym (left-took (program_failed earlier) (given config earlier) count (asked config earlier) (given-within config earlier) few) in
    goes config earlier call (record (program config earlier) { busy = holds_busy config earlier && nat_le config.busy_low (length queue) }) queue (told new) effects
    (unread-program config earlier call (holds_busy config earlier && nat_le config.busy_low (length queue)) (program_failed earlier) refl refl refl refl
    (ap (λ q'. holds_busy config earlier && nat_le config.busy_low (length q')) q) refl)
    q
    (ap (λ q'. busy_cleared config.busy_low (holds_busy config earlier) q' ++ write_deselected (write_event earlier) q') q)
    (le-leb count (min (length (spawn_queue config earlier)) most_at_once) within)
    (tells-same config earlier call old new (ap (λ c. c.command) shows.shown)
    (ap (λ c. c.given) shows.shown ∙ (ap (λ g. g ++ take count (spawn_queue config earlier)) before.given
    ∙ sym (front-took (program_failed earlier) (given config earlier) count (asked config earlier) (given-within config earlier) few)))
    (ap (λ c. c.fetched) shows.shown ∙ sym (append-nil old.fetched)) (ap (λ c. c.at_end) shows.shown) shows.stand refl refl before)

pub Did-took : (event count : ℕ) (old_child new_child : ChildView) (old new : Program) (before after : Context) → count ≤ min (length before.queue) 65536
    → Shows (record old_child { given = old_child.given ++ take count before.queue }) new_child → Takes count old new before after
    → Did Spawn (ReadyOutput event) (Running old) (Running new) (told old_child) (told new_child) before after []
Did-took event count old_child new_child old new before after within shows takes =
    Did-plain (ReadyOutput event) (Running old) (Running new) (told old_child) (told new_child) before after after.queue (before.outside ++ Took count ∷ []) (Took count ∷ [])
    (busy_cleared old.config.busy_low old.busy after.queue ++ write_deselected old.write after.queue) takes.context refl
    (plain-if-busy _ _ _ (plain-deselected (is_empty after.queue) old.write))
    (λ config earlier stands.
    let e = kept-is config earlier old before.queue stands.holds in
    let within' = rw e.1 at within in
    let shows' = rw e.1 at shows in
    let dropped = rw e.1 at takes.queue in
    rw (takes.program, e.0) (took-goes config earlier event before.caller count after.queue old_child new_child within' dropped shows' stands.told))
  where
    plain-deselected : (b : Bool) (event : ℕ) → IsPlain (if b then Select event Write false ∷ [] else [])
    plain-deselected true event = record { jobs = refl; none = refl }
    plain-deselected false event = plain-nil

-- a callback in which the call of the program failed
pub record MayFail (callback : Callback) : Type 0 where
  pub framed : (config : Config) → framed config callback ≡ []
  pub busy : (config : Config) (busy : Bool) (size : ℕ) → held_busy config busy size callback (Failed ∷ []) ≡ busy
  pub read : (event : ℕ) → read_after callback event ≡ event
  pub write : (event : ℕ) → write_after callback event ≡ event
  pub effects : (config : Config) (earlier : List DriverCall) (caller : ℕ)
      → Fail (codes "eio") ∷ [] ≡ spawn_effects config earlier (call_of callback caller (Failed ∷ []) (Fail (codes "eio") ∷ []))
  pub answered : (config : Config) (earlier : List DriverCall) → spawn_answered config earlier (Failed ∷ []) callback ≡ true

and-true : (b : Bool) → (b && true) ≡ b
and-true true = refl
and-true false = refl

pub output-may-fail : (event : ℕ) → MayFail (ReadyOutput event)
output-may-fail event = record {
  framed = λ config. refl;
  busy = λ config busy size. and-true busy;
  read = λ e. refl;
  write = λ e. refl;
  effects = λ config earlier caller. refl;
  answered = λ config earlier. refl;
}

pub input-may-fail : (event : ℕ) → MayFail (ReadyInput event)
input-may-fail event = record {
  framed = λ config. refl;
  busy = λ config busy size. refl;
  read = λ e. refl;
  write = λ e. refl;
  effects = λ config earlier caller. refl;
  answered = λ config earlier. refl;
}

-- an answer by which nothing is given, taken or told
pub record IsNothing (answer : Outside) : Type 0 where
  pub took : took_by (answer ∷ []) ≡ 0
  pub got : got_by (answer ∷ []) ≡ []
  pub end : has_end (answer ∷ []) ≡ false
  pub statuses : statuses_in (answer ∷ []) ≡ []

pub failed-nothing : IsNothing Failed
failed-nothing = record { took = refl; got = refl; end = refl; statuses = refl }

pub again-nothing : IsNothing Again
again-nothing = record { took = refl; got = refl; end = refl; statuses = refl }

-- what is told after a call that gave and took nothing
pub tells-nothing : (config : Config) (earlier : List DriverCall) (callback : Callback) (caller : ℕ) (answer : Outside) (effects : List Effect) (old new : ChildView)
    → IsNothing answer → Shows old new → Tells config earlier (told_of old old.stand)
    → Tells config (call_of callback caller (answer ∷ []) effects ∷ earlier) (told_of new new.stand)
tells-nothing config earlier callback caller answer effects old new nothing shows before =
    tells-same config earlier (call_of callback caller (answer ∷ []) effects) old new (ap (λ c. c.command) shows.shown)
    (ap (λ c. c.given) shows.shown ∙ (before.given ∙ rw nothing.took (sym (front-quiet (given config earlier) (asked config earlier) (framed config callback) (given-within config earlier)))))
    (ap (λ c. c.fetched) shows.shown ∙ (sym (append-nil old.fetched) ∙ ap (λ xs. old.fetched ++ xs) (sym nothing.got))) (ap (λ c. c.at_end) shows.shown) shows.stand nothing.end
    nothing.statuses before

failed-goes : (config : Config) (earlier : List DriverCall) (callback : Callback) (caller : ℕ) (old new : ChildView) → MayFail callback → Shows old new
    → Tells config earlier (told_of old old.stand)
    → Goes Spawn config earlier (call_of callback caller (Failed ∷ []) (Fail (codes "eio") ∷ [])) (Running (record (program config earlier) { failed = true })) (told new) []
    (Fail (codes "eio") ∷ [])
failed-goes config earlier callback caller old new may shows before =
    let call : DriverCall = call_of callback caller (Failed ∷ []) (Fail (codes "eio") ∷ []) in
    goes config earlier call (record (program config earlier) { failed = true }) [] (told new) (Fail (codes "eio") ∷ [])
    (unread-program config earlier call (holds_busy config earlier) true refl refl (may.read (read_event earlier)) (may.write (write_event earlier))
    (sym (may.busy config (holds_busy config earlier) (length (spawn_queue config (call ∷ earlier))))) refl)
    refl (may.effects config earlier caller) (may.answered config earlier)
    (tells-nothing config earlier callback caller Failed (Fail (codes "eio") ∷ []) old new failed-nothing shows before)

pub Did-failed : (callback : Callback) (old_child new_child : ChildView) (old new : Program) (before after : Context) → MayFail callback → Shows old_child new_child
    → new ≡ record old { failed = true } → after ≡ record (with_effects before (Fail (codes "eio") ∷ [])) { queue = []; outside = before.outside ++ Failed ∷ [] }
    → Did Spawn callback (Running old) (Running new) (told old_child) (told new_child) before after []
Did-failed callback old_child new_child old new before after may shows same context =
    Did-plain callback (Running old) (Running new) (told old_child) (told new_child) before after [] (before.outside ++ Failed ∷ []) (Failed ∷ []) (Fail (codes "eio") ∷ [])
    context refl (plain-fail (codes "eio"))
    (λ config earlier stands.
    let e = kept-is config earlier old before.queue stands.holds in
    rw (same, e.0) (failed-goes config earlier callback before.caller old_child new_child may shows stands.told))

waits-goes : (config : Config) (earlier : List DriverCall) (event caller : ℕ) (old new : ChildView) → Shows old new → Tells config earlier (told_of old old.stand)
    → Goes Spawn config earlier (call_of (ReadyInput event) caller (Again ∷ []) []) (Running (program config earlier)) (told new) (spawn_queue config earlier) []
waits-goes config earlier event caller old new shows before =
    let call : DriverCall = call_of (ReadyInput event) caller (Again ∷ []) [] in
    goes config earlier call (program config earlier) (spawn_queue config earlier) (told new) []
    (unread-program config earlier call (holds_busy config earlier) (program_failed earlier) refl refl refl refl refl refl)
    (sym (left-quiet (program_failed earlier) (given config earlier) (asked config earlier) (given-within config earlier))) refl refl
    (tells-nothing config earlier (ReadyInput event) caller Again [] old new again-nothing shows before)

pub Did-waits : (event : ℕ) (old_child new_child : ChildView) (old : Program) (before after : Context) → Shows old_child new_child
    → after ≡ record before { outside = before.outside ++ Again ∷ [] }
    → Did Spawn (ReadyInput event) (Running old) (Running old) (told old_child) (told new_child) before after []
Did-waits event old_child new_child old before after shows context =
    Did-plain (ReadyInput event) (Running old) (Running old) (told old_child) (told new_child) before after before.queue (before.outside ++ Again ∷ []) (Again ∷ []) []
    (context ∙ ap (λ effects. record before { effects = effects; outside = before.outside ++ Again ∷ [] }) (sym (append-nil before.effects))) refl plain-nil
    (λ config earlier stands.
    let e = kept-is config earlier old before.queue stands.holds in
    rw (e.0, e.1) (waits-goes config earlier event before.caller old_child new_child shows stands.told))

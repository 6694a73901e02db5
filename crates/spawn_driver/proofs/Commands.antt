-- Commands, and what the program takes of their frames.
use Rattle.std.proofs.Common.{◌≡◌, ℕ, List, [], ◌∷◌, ◌++◌, length, Bool, true, false, ◌||◌, ◌&&◌, IfSome, refl, sym, ◌∙◌, ap}
use Rattle.std.specs.Prelude.{nat_le, codes, not, if◌then◌else◌}
use Rattle.std.proofs.lemmas.List.{append-nil}
use Rattle.packet_framing.specs.Frames.{frame_of}
use Rattle.port_config.specs.declared.config.Config.{Config}
use Rattle.port_model.specs.declared.effect.Effect.TheVariants.{Busy, Fail}
use Rattle.driver_model.specs.Calls.{Outputv, DriverCall, call_of, Program, Running, Spawn, is_empty}
use Rattle.driver_model.specs.Spawn.{fits, asked, given, program_failed, spawn_queue, holds_busy, write_event, program}
use Rattle.driver_model.specs.Programs.{Tells}
use Rattle.outside.specs.Children.{ChildView}
use Rattle.port_driver.specs.Context.{Context}
use Rattle.port_driver.specs.Driven.{Did}
use Rattle.port_driver.proofs.Driven.{Goes}
use Rattle.spawn_driver.specs.Recorded.{with_effects, write_selected, busy_set}
use Rattle.spawn_driver.specs.Serving.{told}
use Rattle.spawn_driver.specs.Steps.{QueuesFrame, Queues}
use Rattle.spawn_driver.proofs.Lists.{left-framed, left-quiet}
use Rattle.spawn_driver.proofs.Plain.{IsPlain, plain-nil, plain-fail, plain-if-select, Did-plain}
use Rattle.spawn_driver.proofs.Quiet.{quiet-tells}
use Rattle.spawn_driver.proofs.Histories.{kept-is, goes, given-within, unread-program}

-- a command whose frame was queued
output-goes : (config : Config) (earlier : List DriverCall) (bytes : List ℕ) (caller : ℕ) (queue : List ℕ) (child : ChildView)
    → fits config.mode (length bytes) ≡ true
    → queue ≡ (if program_failed earlier then spawn_queue config earlier else spawn_queue config earlier ++ frame_of config.mode bytes)
    → IfSome (told child) (Tells config earlier)
    → Goes Spawn config earlier
    (call_of (Outputv bytes) caller [] (write_selected (write_event earlier) (is_empty (spawn_queue config earlier)) queue ++ busy_set config.busy_high (holds_busy config earlier) queue))
    (Running (record (program config earlier) { busy = holds_busy config earlier || nat_le config.busy_high (length queue) })) (told child) queue
    (write_selected (write_event earlier) (is_empty (spawn_queue config earlier)) queue ++ busy_set config.busy_high (holds_busy config earlier) queue)
output-goes config earlier bytes caller queue child fit queued before =
    let effects = write_selected (write_event earlier) (is_empty (spawn_queue config earlier)) queue ++ busy_set config.busy_high (holds_busy config earlier) queue in
    let call : DriverCall = call_of (Outputv bytes) caller [] effects in
    let q : queue ≡ spawn_queue config (call ∷ earlier) =
    queued ∙ rw fit (sym (left-framed (program_failed earlier) (given config earlier) (asked config earlier) (frame_of config.mode bytes) (given-within config earlier))) in
    let size : length queue ≡ length (spawn_queue config (call ∷ earlier)) = ap length q in
    goes config earlier call (record (program config earlier) { busy = holds_busy config earlier || nat_le config.busy_high (length queue) }) queue (told child) effects
    (unread-program config earlier call (holds_busy config earlier || nat_le config.busy_high (length queue)) (program_failed earlier) refl refl refl refl
    (ap (λ n. holds_busy config earlier || nat_le config.busy_high n) size
    ∙ ap (λ f. holds_busy config earlier || (f && nat_le config.busy_high (length (spawn_queue config (call ∷ earlier))))) (sym fit)) refl)
    q
    (ap (λ q'. write_selected (write_event earlier) (is_empty (spawn_queue config earlier)) q' ++ busy_set config.busy_high (holds_busy config earlier) q') q
    ∙ ap (λ f. if f then write_selected (write_event earlier) (is_empty (spawn_queue config earlier)) (spawn_queue config (call ∷ earlier))
    ++ busy_set config.busy_high (holds_busy config earlier) (spawn_queue config (call ∷ earlier)) else Fail (codes "einval") ∷ []) (sym fit))
    refl (quiet-tells config earlier (Outputv bytes) caller effects child before)

-- a command that no frame can have
refused-goes : (config : Config) (earlier : List DriverCall) (bytes : List ℕ) (caller : ℕ) (child : ChildView) → fits config.mode (length bytes) ≡ false
    → IfSome (told child) (Tells config earlier)
    → Goes Spawn config earlier (call_of (Outputv bytes) caller [] (Fail (codes "einval") ∷ [])) (Running (program config earlier)) (told child) (spawn_queue config earlier)
    (Fail (codes "einval") ∷ [])
refused-goes config earlier bytes caller child fit before =
    let call : DriverCall = call_of (Outputv bytes) caller [] (Fail (codes "einval") ∷ []) in
    let q : spawn_queue config earlier ≡ spawn_queue config (call ∷ earlier) =
    rw fit (sym (left-quiet (program_failed earlier) (given config earlier) (asked config earlier) (given-within config earlier))) in
    goes config earlier call (program config earlier) (spawn_queue config earlier) (told child) (Fail (codes "einval") ∷ [])
    (unread-program config earlier call (holds_busy config earlier) (program_failed earlier) refl refl refl refl
    (sym (ap (λ f. holds_busy config earlier || (f && nat_le config.busy_high (length (spawn_queue config (call ∷ earlier))))) fit ∙ or-none (holds_busy config earlier))) refl)
    q (rw fit refl) refl (quiet-tells config earlier (Outputv bytes) caller (Fail (codes "einval") ∷ []) child before)
  where
    or-none : (b : Bool) → (b || false) ≡ b
    or-none true = refl
    or-none false = refl

plain-busy : (b : Bool) → IsPlain (if b then Busy true ∷ [] else [])
plain-busy true = record { jobs = refl; none = refl }
plain-busy false = plain-nil

pub Did-output : (bytes : List ℕ) (child : ChildView) (old new : Program) (before after : Context) → Queues bytes old new before after
    → Did Spawn (Outputv bytes) (Running old) (Running new) (told child) (told child) before after []
Did-output bytes child old new before after queues =
    elim (fits old.config.mode (length bytes)) as (λ (f : Bool). fits old.config.mode (length bytes) ≡ f
    → Did Spawn (Outputv bytes) (Running old) (Running new) (told child) (told child) before after []) [
      | true ↦ λ fit. queued (queues.framed fit) fit
      | false ↦ λ fit. let r = queues.refused fit in refused r.0 r.1 fit
    ] refl
  where
    queued : QueuesFrame (frame_of old.config.mode bytes) old new before after → fits old.config.mode (length bytes) ≡ true
        → Did Spawn (Outputv bytes) (Running old) (Running new) (told child) (told child) before after []
    queued q fit =
        Did-plain (Outputv bytes) (Running old) (Running new) (told child) (told child) before after after.queue before.outside []
        (write_selected old.write (is_empty before.queue) after.queue ++ busy_set old.config.busy_high old.busy after.queue) q.context (sym (append-nil before.outside))
        (plain-if-select _ _ _ _ _ (plain-busy (nat_le old.config.busy_high (length after.queue) && not old.busy)))
        (λ config earlier stands.
        let e = kept-is config earlier old before.queue stands.holds in
        let fit' = rw e.0 at fit in
        let queue' = rw (e.0, e.1) at q.queue in
        rw (q.program, e.0, e.1) (output-goes config earlier bytes before.caller after.queue child fit' queue' stands.told))

    refused : new ≡ old → after ≡ with_effects before (Fail (codes "einval") ∷ []) → fits old.config.mode (length bytes) ≡ false
        → Did Spawn (Outputv bytes) (Running old) (Running new) (told child) (told child) before after []
    refused same context fit =
        Did-plain (Outputv bytes) (Running old) (Running new) (told child) (told child) before after before.queue before.outside []
        (Fail (codes "einval") ∷ []) context (sym (append-nil before.outside)) (plain-fail (codes "einval"))
        (λ config earlier stands.
        let e = kept-is config earlier old before.queue stands.holds in
        let fit' = rw e.0 at fit in
        rw (same, e.0, e.1) (refused-goes config earlier bytes before.caller child fit' stands.told))

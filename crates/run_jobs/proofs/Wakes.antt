-- The ports that a job woke by one call after another.
use Rattle.std.proofs.Common.{◌≡◌, List, [], length, Result, Ok, Err, true≢false, ◌∙◌, refl, subst, sym}
use Rattle.port_words.specs.declared.home.homes.Ticket.{Ticket}
use Rattle.port_sched.specs.declared.body.PortBody.{Ghosts}
use Rattle.port_sched.specs.declared.waking.JobSeats.{JobSeats}
use Rattle.port_sched.specs.Homes.{AreHomes}
use Rattle.port_sched.specs.Serving.{KeptBy}
use Rattle.port_sched.specs.Waking.{Woke, Wakes, Refuses}
use Rattle.port_sched.proofs.Wakings.{woke_none, woke_then}
use Rattle.run_jobs.specs.Telling.{WakesBy}

module _ {B : Type 0} {g : Ghosts B} where
  pub nothing_woken : (j : JobSeats B g) → AreHomes j.homes.items → Woke [] j j
  nothing_woken j homes = record { homes = homes; all_put = λ _. refl; tickets = woke_none j.homes.items j.entry }

  pub woken_then : (kept : List Ticket) (first second third : JobSeats B g) → Woke [] first second → Woke kept second third → Woke kept first third
  woken_then kept first second third one two = record { homes = two.homes; all_put = two.all_put; tickets = woke_then kept _ _ _ _ _ _ one.tickets two.tickets }

  -- a call that found memory kept nothing
  pub woken_ok : (kept : List Ticket) (first second : JobSeats B g) → kept ≡ [] → Woke kept first second → Woke [] first second
  woken_ok kept first second none woke = subst (λ (k : List Ticket). Woke k first second) none woke

  -- one call of wake
  pub waken : {A E : Type 0} (r : Result A E) (old new : JobSeats B g) (kept : List Ticket) → Refuses r old.refused new.refused → AreHomes new.homes.items → KeptBy r kept
      → Wakes kept old.homes.items old.entry new.homes.items new.entry → WakesBy r old new
  waken (Ok x) old new kept refuses homes keeps wakes = (kept, keeps, record { homes = homes; all_put = λ _. keeps; tickets = wakes })
  waken (Err e) old new kept refuses homes keeps wakes = (kept, keeps, record { homes = homes; all_put = λ none. absurd (true≢false (sym refuses ∙ none)); tickets = wakes })

  -- the seats stay those of as many ports
  pub homes_many : (kept : List Ticket) (old new : JobSeats B g) → Woke kept old new → length new.homes.items ≡ length old.homes.items
  homes_many kept old new woke = woke.tickets.steps.count

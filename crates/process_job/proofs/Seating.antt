-- What a job does with its seats, by one call after another.
use Rattle.std.proofs.Common.{◌≡◌, ◌≤◌, List, [], length, Result, Ok, Err, Some, refl, sym, subst, ap, ◌∙◌, true≢false, arith}
use Rattle.port_words.specs.declared.home.homes.Ticket.{Ticket}
use Rattle.port_words.specs.over.Over.{OverKnown, over_known, finished_view, stopped_view}
use Rattle.port_sched.specs.declared.body.PortBody.{Ghosts}
use Rattle.port_sched.specs.declared.waking.JobSeats.{JobSeats}
use Rattle.port_sched.specs.Homes.{AreHomes}
use Rattle.port_sched.specs.Serving.{KeptBy}
use Rattle.port_sched.specs.Running.{Looked}
use Rattle.port_sched.specs.Waking.{Woke, Wakes, Refuses}
use Rattle.port_sched.proofs.Wakings.{woke_none, woke_then}
use Rattle.port_sched.proofs.Looks.{looked_none, looked_then}
use Rattle.process_end.specs.Views.{ProcView}
use Rattle.no_memory.specs.declared.NoMemory.{NoMemory}
use Rattle.process_job.specs.declared.halt.Halt.{Halt}
use Rattle.process_job.specs.declared.halt.Halt.TheVariants as halt
use Rattle.process_job.specs.declared.seats.ProcessSeats.{ProcessSeats}
use Rattle.std.specs.Prelude.{IsErrAnd}
use Rattle.process_job.specs.Seats.{HasPorts, HasFinished, SeatsGo, SeatsAfter, SeatsHalted, SawStop}
use Rattle.process_job.specs.declared.job.ProcessWork.{ProcessWork}
use Rattle.process_job.specs.declared.job.EndedProcess.{EndedProcess}
use Rattle.process_job.specs.declared.job.ProcessEnd.{ProcessEnd}
use Rattle.process_job.specs.Jobs.{EndsAs, EndsHalted, RanWork}
use Rattle.process_job.specs.Waiting.{OverAfter, HaltedAs}

module _ {B : Type 0} {g : Ghosts B} where
  abbrev pub seats_with : JobSeats B g → OverKnown → ProcessSeats B g
  seats_with ports over = record { ports = ports; over = over }

  pub woken_none : (j : JobSeats B g) → AreHomes j.homes.items → Woke [] j j
  woken_none j homes = record { homes = homes; all_put = λ _. refl; tickets = woke_none j.homes.items j.entry }

  pub woken_then : (kept : List Ticket) (one two three : JobSeats B g) → Woke [] one two → Woke kept two three → Woke kept one three
  woken_then kept one two three f h = record { homes = h.homes; all_put = h.all_put; tickets = woke_then kept _ _ _ _ _ _ f.tickets h.tickets }

  pub seats_none : (s : ProcessSeats B g) → AreHomes s.ports.homes.items → SeatsGo [] s s
  seats_none s homes = record { woke = woken_none s.ports homes; looked = looked_none s.over }

  pub seats_then : (kept : List Ticket) (one two three : ProcessSeats B g) → SeatsGo [] one two → SeatsGo kept two three → SeatsGo kept one three
  seats_then kept one two three f h = record {
    woke = woken_then kept one.ports two.ports three.ports f.woke h.woke;
    looked = looked_then one.over two.over three.over f.looked h.looked;
  }

  pub after_then : {A : Type 0} (r : Result A Halt) (one two three : ProcessSeats B g) → SeatsGo [] one two → SeatsAfter r two three → SeatsAfter r one three
  after_then (Ok x) one two three f h = seats_then [] one two three f h
  after_then (Err e) one two three f h = (h.0, seats_then h.0 one two three f h.1, h.2)

  pub halted_then : (e : Halt) (one two three : ProcessSeats B g) → SeatsGo [] one two → SeatsHalted e two three → SeatsHalted e one three
  halted_then e one two three f h = (h.0, seats_then h.0 one two three f h.1, h.2)

  -- a call answers for what it halts
  pub after_halt : {A : Type 0} (r : Result A Halt) (e : Halt) (one two : ProcessSeats B g) → IsErrAnd r (λ h. h ≡ e) → SeatsHalted e one two → SeatsAfter r one two
  after_halt (Ok x) e one two is f = absurd is
  after_halt (Err h) e one two is f = subst (λ v. SeatsHalted v one two) (sym is) f

  -- no memory was found
  pub no_memory : (kept : List Ticket) (one two : ProcessSeats B g) → length kept ≤ 1 → SeatsGo kept one two → SeatsHalted halt.NoMemory one two
  no_memory kept one two few f = (kept, f, few)

  -- OVER alone was looked at
  pub seats_looked : (one two : ProcessSeats B g) → AreHomes one.ports.homes.items → two.ports ≡ one.ports → Looked one.over two.over → SeatsGo [] one two
  seats_looked one two homes same looked = record { woke = subst (Woke [] one.ports) (sym same) (woken_none one.ports homes); looked = looked }

  pub halted_looked : (e : Halt) (one two : ProcessSeats B g) → AreHomes one.ports.homes.items → two.ports ≡ one.ports → Looked one.over two.over → HaltedAs e two.over → SeatsHalted e one two
  halted_looked halt.Stopped one two homes same looked as_stop = ([], seats_looked one two homes same looked, (refl, as_stop))
  halted_looked halt.NoMemory one two homes same looked as_none = ([], seats_looked one two homes same looked, omega arith)

  -- the same ports
  pub ports_kept : (kept : List Ticket) (old new : ProcessSeats B g) (p q : ProcView) → SeatsGo kept old new → HasPorts old p → length q.lanes ≡ length p.lanes → HasPorts new q
  ports_kept kept old new p q f h many = record { homes = f.woke.homes; many = f.woke.tickets.steps.count ∙ h.many ∙ sym many }

  pub ran_halt : (work : ProcessWork) (r : Result EndedProcess Halt) (e : Halt) (one two : ProcessSeats B g) → IsErrAnd r (λ h. h ≡ e) → SeatsHalted e one two → RanWork work r one two
  ran_halt work (Ok x) e one two is f = absurd is
  ran_halt work (Err h) e one two is f = subst (λ v. SeatsHalted v one two) (sym is) f

  pub ended_halt : (work : ProcessWork) (e : Halt) (one two : ProcessSeats B g) (over : OverKnown) (end : ProcessEnd) → SeatsHalted e one two → EndsHalted e two.over over end
      → (kept : List Ticket) × Woke kept one.ports two.ports × EndsAs work kept one.over over (Some end)
  ended_halt work halt.Stopped one two over end h f = (
    h.0,
    h.1.woke,
    subst (λ x. EndsAs work h.0 one.over over (Some x)) (sym f.0) (subst (λ o. Looked one.over o × SawStop o × (h.0 ≡ [])) (sym f.1) (h.1.looked, h.2.1, h.2.0)),
  )
  ended_halt work halt.NoMemory one two over end h f = (
    h.0,
    h.1.woke,
    subst (λ x. EndsAs work h.0 one.over over (Some x)) (sym f.0)
        ((two.over, f.1.0, h.1.looked, f.1.1 ∙ ap (λ (k : OverKnown). over_known k.word (stopped_view two.over.known f.1.0)) h.1.looked.1), h.2),
  )

  -- one call of wake
  pub waken : {A : Type 0} (r : Result A NoMemory) (old new : ProcessSeats B g) (kept : List Ticket) → Refuses r old.ports.refused new.ports.refused → AreHomes new.ports.homes.items → KeptBy r kept
      → Wakes kept old.ports.homes.items old.ports.entry new.ports.homes.items new.ports.entry → new.over ≡ old.over → SeatsGo kept old new
  waken (Ok x) old new kept refuses homes keeps wakes same = record { woke = record { homes = homes; all_put = λ _. keeps; tickets = wakes }; looked = subst (Looked old.over) (sym same) (looked_none old.over) }
  waken (Err e) old new kept refuses homes keeps wakes same = record {
    woke = record { homes = homes; all_put = λ none. absurd (true≢false (sym refuses ∙ none)); tickets = wakes };
    looked = subst (Looked old.over) (sym same) (looked_none old.over);
  }

-- OVER alone
pub over_halt : {A : Type 0} (r : Result A Halt) (e : Halt) (one two : OverKnown) → IsErrAnd r (λ h. h ≡ e) → Looked one two → HaltedAs e two → OverAfter r one two
over_halt (Ok x) e one two is looked halted = absurd is
over_halt (Err h) e one two is looked halted = (looked, subst (λ v. HaltedAs v two) (sym is) halted)

pub finished_then : (one two three : OverKnown) → Looked one two → HasFinished two three → HasFinished one three
finished_then one two three f h = (h.0, h.1, looked_then one two h.0 f h.2, h.3 ∙ ap (λ (k : OverKnown). over_known k.word (finished_view h.0.known h.1)) f.1)

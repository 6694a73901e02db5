-- What follows a turn: the next turn is queued, or the run ends for want of memory.
use Rattle.std.specs.Prelude.{◌≡◌, ◌⊎◌, ℕ, ◌≤◌, Bool, true, false, List, [], ◌∷◌, length, Option, Some, Result, Ok, Err, IfOk, IsErr}
use Rattle.port_words.specs.declared.home.homes.Ticket.{Ticket}
use Rattle.port_words.specs.home.Seats.{HomeKnown}
use Rattle.run_queue.specs.Seats.{RunKnown, put_by_owner}
use Rattle.port_sched.specs.declared.body.Turn.{Turn}
use Rattle.port_sched.specs.declared.body.Turn.TheVariants as t
use Rattle.port_sched.specs.declared.scheduling.SchedEnd.{SchedEnd}
use Rattle.port_sched.specs.declared.scheduling.SchedEnd.TheVariants as end
use Rattle.port_sched.specs.Homes.{HomesUse, FoundNotIdleAt}

-- what a turn's answer leads to: no memory, more to do, or nothing more. Nothing follows where there was no turn
abbrev pub GoesOn : {E : Type 0} → Option Turn → Result Bool E → Type 0
GoesOn (Some t.NoMemory) answer = IsErr answer
GoesOn (Some t.More) answer = IfOk answer (λ more. more ≡ true)
GoesOn turn answer = answer ≡ Ok false

abbrev pub IsMore : Option Turn → Type 0
IsMore (Some t.More) = Unit {0}
IsMore turn = ⊥

-- the tickets that a call keeps: none, or one at most where it found no memory
abbrev pub KeptBy : {A E : Type 0} → Result A E → List Ticket → Type 0
KeptBy (Ok answer) kept = kept ≡ []
KeptBy (Err error) kept = length kept ≤ 1

abbrev pub KeptAtEnd : SchedEnd → List Ticket → Type 0
KeptAtEnd end.Done kept = kept ≡ []
KeptAtEnd end.NoMemory kept = length kept ≤ 1

module _ {B : Type 0} where
  -- the ticket of this port's next turn was made and pushed; or its RUN was found not idle
  abbrev pub QueuedNext : ℕ → List (HomeKnown B) → RunKnown → List (HomeKnown B) → RunKnown → Type 0
  QueuedNext port homes run homes' run' =
      ((ticket : Ticket) × (ticket.port ≡ port) × HomesUse [] (ticket ∷ []) homes homes' × (run' ≡ put_by_owner ticket run))
      ⊎ (HomesUse [] [] homes homes' × (run' ≡ run) × FoundNotIdleAt port homes')

  -- the ticket of this port's next turn was made and is kept, since its push found no memory
  abbrev pub KeptNext : ℕ → List (HomeKnown B) → RunKnown → List (HomeKnown B) → RunKnown → Type 0
  KeptNext port homes run homes' run' = (ticket : Ticket) × (ticket.port ≡ port) × HomesUse [] (ticket ∷ []) homes homes' × (run' ≡ run)

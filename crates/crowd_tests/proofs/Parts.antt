-- The parts of a process, port by port.
use Rattle.std.proofs.Common.{arith, zero, suc, ◌≡◌, ℕ, ◌+◌, ◌<◌, List, [], ◌∷◌, length, Bool, refl, sym, ap, subst}
use Rattle.std.specs.Prelude.{slice_index_or}
use Rattle.std.proofs.lemmas.List.Elements.{All-nil, All-cons}
use Rattle.atomic_table.specs.Seated.{TableId}
use Rattle.task_queue.specs.Ends.{Taking}
use Rattle.port_words.specs.busy.Views.{fresh_sender}
use Rattle.port_words.specs.declared.busy.view.BusySetup.{BusySetup}
use Rattle.port_words.specs.busy.Known.{SendKnown, PortKnown, fresh_seats, AreSeatsOf}
use Rattle.port_model.specs.declared.mail.Mail.{Mail}
use Rattle.process_end.specs.Views.{LaneEnd}
use Rattle.process_end.specs.Ports.{AreParts}
use Rattle.crowd_tests.specs.Sides.{IsFresh, IsFreshSeat, AreFreshSeats}

by-place : (P : ℕ → Type 0) (n : ℕ) → P 0 → ((k : ℕ) → k < n → P (suc k)) → (k : ℕ) → k < suc n → P k
by-place P n here there zero lt = here
by-place P n here there (suc k) lt = there k (omega arith)

pub parts-none : (number : ℕ) (mailbox : Taking Mail (Unit {0})) → mailbox.taken ≡ [] → AreParts number mailbox [] [] []
parts-none number mailbox untaken = record {
  seats_many = refl;
  soft_many = refl;
  ends = λ k d lt. absurd (omega arith);
  tables = λ k d e lt. absurd (omega arith);
  fresh = λ k e lt. absurd (omega arith);
  untaken = untaken;
}

pub parts-more : (number : ℕ) (mailbox : Taking Mail (Unit {0})) (lane : LaneEnd) (lanes : List LaneEnd) (seat : SendKnown) (seats : List SendKnown) (soft : Bool) (softs : List Bool)
    → lane.number ≡ number → IsFresh lane seat → AreParts number mailbox lanes seats softs → AreParts number mailbox (lane ∷ lanes) (seat ∷ seats) (soft ∷ softs)
parts-more number mailbox lane lanes seat seats soft softs own side p = record {
  seats_many = ap suc p.seats_many;
  soft_many = ap suc p.soft_many;
  ends = λ k d lt. by-place
      (λ j. ((slice_index_or (lane ∷ lanes) j d).number ≡ number) × (number < (slice_index_or (lane ∷ lanes) j d).key.processes) × ((slice_index_or (lane ∷ lanes) j d).sent ≡ []))
      (length lanes) (own, subst (λ n. n < lane.key.processes) own side.process, side.unsent) (λ j l. p.ends j d l) k lt;
  tables = λ k d e lt. by-place (λ j. (slice_index_or (lane ∷ lanes) j d).key.table ≡ (slice_index_or (seat ∷ seats) j e).table)
      (length lanes) side.table (λ j l. p.tables j d e l) k lt;
  fresh = λ k e lt. by-place (λ j. (slice_index_or (seat ∷ seats) j e).sender ≡ fresh_sender (slice_index_or (seat ∷ seats) j e).sender.ledger.number)
      (length lanes) side.fresh (λ j l. p.fresh j e l) k lt;
  untaken = p.untaken;
}

-- one port
one-part : (number : ℕ) (mailbox : Taking Mail (Unit {0})) (lane : LaneEnd) (seat : SendKnown) (soft : Bool)
    → lane.number ≡ number → IsFresh lane seat → mailbox.taken ≡ [] → AreParts number mailbox (lane ∷ []) (seat ∷ []) (soft ∷ [])
one-part number mailbox lane seat soft own side untaken = parts-more number mailbox lane [] seat [] soft [] own side (parts-none number mailbox untaken)

pub one-parts : (number : ℕ) (mailbox : Taking Mail (Unit {0})) (lanes : List LaneEnd) (seats : List SendKnown) (softs : List Bool) (lane : LaneEnd) (seat : SendKnown) (soft : Bool)
    → lanes ≡ lane ∷ [] → seats ≡ seat ∷ [] → softs ≡ soft ∷ [] → lane.number ≡ number → IsFresh lane seat → mailbox.taken ≡ [] → AreParts number mailbox lanes seats softs
one-parts number mailbox lanes seats softs lane seat soft l e f own side untaken =
    subst (λ ls. AreParts number mailbox ls seats softs) (sym l)
    (subst (λ es. AreParts number mailbox (lane ∷ []) es softs) (sym e)
    (subst (λ fs. AreParts number mailbox (lane ∷ []) (seat ∷ []) fs) (sym f) (one-part number mailbox lane seat soft own side untaken)))

seats-fresh : (table : TableId) (setup : BusySetup) (from count : ℕ) → AreFreshSeats table (fresh_seats table setup from count)
seats-fresh table setup from zero = All-nil _
seats-fresh table setup from (suc count) = All-cons (IsFreshSeat table) _ _ (record { table_is = refl; fresh = refl }) (seats-fresh table setup (from + 1) count)

pub opened-fresh : (setup : BusySetup) (port : PortKnown) (seats : List SendKnown) → AreSeatsOf setup port seats → AreFreshSeats port.table seats
opened-fresh setup port seats h = subst (AreFreshSeats port.table) (sym h.senders_are) (seats-fresh port.table setup 0 setup.senders)

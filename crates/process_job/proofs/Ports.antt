-- The ends and seats of a process after a call or a look.
use Rattle.std.proofs.Common.{◌≡◌, ℕ, ◌<◌, length, List, [], ◌∷◌, ◌++◌, true, ◌||◌, Option, Some, None, refl, sym, ap, ◌∙◌, subst}
use Rattle.std.specs.Prelude.{slice_index_or}
use Rattle.std.specs.List.{list_any}
use Rattle.std.proofs.lemmas.List.Folds.{list_any-append}
use Rattle.port_words.specs.busy.Known.{SendKnown}
use Rattle.port_words.specs.busy.Stat.{tells_closed}
use Rattle.process_end.specs.process_receipts.declared.receipt.Outcome.{Outcome}
use Rattle.process_end.specs.process_receipts.declared.receipt.Outcome.TheVariants.{Accepted, Suspended, Dropped, Closed, NotSupported, TooLong, SentOut}
use Rattle.process_end.specs.process_receipts.declared.receipt.Receipt.{Receipt}
use Rattle.process_end.specs.process_receipts.Asks.{Asked}
use Rattle.process_end.specs.process_receipts.Ledgers.{saw_closed}
use Rattle.process_end.specs.Views.{LaneEnd, ProcView}
use Rattle.process_end.specs.Steps.{looked, HasAdded, HasSent, HasStepped}
use Rattle.process_end.specs.Calls.{TouchesPort, HasMade}
use Rattle.process_end.specs.Looked.{HasFoundWords, HasLookedAt}
use Rattle.process_end.proofs.Made.{each-place}
use Rattle.process_job.specs.Going.{IsSameEnd, IsSameSeat, AreSamePorts}

pub seat_same : (s : SendKnown) → IsSameSeat s s
seat_same s = record { table = refl; setup = refl; number = refl; closed = λ e. e }

pub seat_then : (r s t : SendKnown) → IsSameSeat r s → IsSameSeat s t → IsSameSeat r t
seat_then r s t one two = record {
  table = two.table ∙ one.table;
  setup = two.setup ∙ one.setup;
  number = two.number ∙ one.number;
  closed = λ e. two.closed (one.closed e);
}

pub closed_more : (stats more : List ℕ) → saw_closed stats ≡ true → saw_closed (stats ++ more) ≡ true
closed_more stats more e = list_any-append tells_closed stats more ∙ ap (λ b. b || list_any tells_closed more) e

seat_looked : (s : SendKnown) (stat : ℕ) → IsSameSeat s (looked s stat)
seat_looked s stat = record { table = refl; setup = refl; number = refl; closed = closed_more s.sender.stats (stat ∷ []) }

pub same_ports : (lanes : List LaneEnd) (seats : List SendKnown) → AreSamePorts lanes lanes seats seats
same_ports lanes seats = record { lanes_many = refl; seats_many = refl; ends = λ k d. refl; same_seats = λ k d. seat_same (slice_index_or seats k d) }

pub ports_then : (a b c : List LaneEnd) (r s t : List SendKnown) → AreSamePorts a b r s → AreSamePorts b c s t → AreSamePorts a c r t
ports_then a b c r s t one two = record {
  lanes_many = two.lanes_many ∙ one.lanes_many;
  seats_many = two.seats_many ∙ one.seats_many;
  ends = λ k d. two.ends k d ∙ ap (λ (e : LaneEnd). record e { sent = (slice_index_or c k d).sent }) (one.ends k d);
  same_seats = λ k d. seat_then _ _ _ (one.same_seats k d) (two.same_seats k d);
}

-- one port is touched
pub ports_touched : (port : ℕ) (lanes new_lanes : List LaneEnd) (seats new_seats : List SendKnown) → TouchesPort port lanes new_lanes seats new_seats
    → ((d : LaneEnd) → IsSameEnd (slice_index_or lanes port d) (slice_index_or new_lanes port d))
    → ((d : SendKnown) → IsSameSeat (slice_index_or seats port d) (slice_index_or new_seats port d))
    → AreSamePorts lanes new_lanes seats new_seats
ports_touched port lanes new_lanes seats new_seats t end seat = record {
  lanes_many = t.many.0;
  seats_many = t.many.1;
  ends = λ k d. each-place (λ j. IsSameEnd (slice_index_or lanes j d) (slice_index_or new_lanes j d)) port (end d)
      (λ j apart. subst (λ e. IsSameEnd (slice_index_or lanes j d) e) (sym (t.lanes_same j d apart)) refl) k;
  same_seats = λ k d. each-place (λ j. IsSameSeat (slice_index_or seats j d) (slice_index_or new_seats j d)) port (seat d)
      (λ j apart. subst (λ e. IsSameSeat (slice_index_or seats j d) e) (sym (t.seats_same j d apart)) (seat_same (slice_index_or seats j d))) k;
}

seat_by : (s t : SendKnown) → t ≡ s → IsSameSeat s t
seat_by s t e = subst (IsSameSeat s) (sym e) (seat_same s)

seat_saw : (s t : SendKnown) (stat : ℕ) → t ≡ looked s stat → IsSameSeat s t
seat_saw s t stat e = subst (IsSameSeat s) (sym e) (seat_looked s stat)

seat_added : (ask : Asked) (s t : SendKnown) (size stat msgq : ℕ) → HasAdded ask.how size (looked s stat) t msgq → IsSameSeat s t
seat_added ask s t size stat msgq h = subst (IsSameSeat s) (sym h.adds.seat) (record { table = refl; setup = refl; number = refl; closed = closed_more s.sender.stats (stat ∷ []) })

pub seat_stepped : (ask : Asked) (s t : SendKnown) (outcome : Outcome) (stat msgq : Option ℕ) → HasStepped ask s t outcome stat msgq → IsSameSeat s t
seat_stepped ask s t outcome None None h = seat_by s t h
seat_stepped ask s t outcome (Some stat) None h = seat_saw s t stat h.0
seat_stepped ask s t Dropped (Some stat) (Some msgq) h =
    subst (IsSameSeat s) (sym h.0.seat) (record { table = refl; setup = refl; number = refl; closed = closed_more s.sender.stats (stat ∷ []) })
seat_stepped ask s t Accepted (Some stat) (Some msgq) h = seat_added ask s t _ stat msgq h.0
seat_stepped ask s t Suspended (Some stat) (Some msgq) h = seat_added ask s t _ stat msgq h.0
seat_stepped ask s t Closed (Some stat) (Some msgq) h = seat_added ask s t _ stat msgq h.0
seat_stepped ask s t NotSupported (Some stat) (Some msgq) h = seat_added ask s t _ stat msgq h.0
seat_stepped ask s t TooLong (Some stat) (Some msgq) h = seat_added ask s t _ stat msgq h.0
seat_stepped ask s t SentOut (Some stat) (Some msgq) h = seat_added ask s t _ stat msgq h.0
seat_stepped ask s t outcome None (Some msgq) h = absurd h

end_sent : (ask : Asked) (lane new : LaneEnd) (outcome : Outcome) → HasSent ask lane new outcome → IsSameEnd lane new
end_sent ask lane new Accepted h = h.same
end_sent ask lane new Suspended h = h.same
end_sent ask lane new outcome h = h ∙ ap (λ l. record lane { sent = l }) (sym (ap (λ (e : LaneEnd). e.sent) h))

pub ports_made : (ask : Asked) (receipt : Receipt) (old new : ProcView) → HasMade old ask new receipt → AreSamePorts old.lanes new.lanes old.seats new.seats
ports_made ask receipt old new h = ports_touched ask.port old.lanes new.lanes old.seats new.seats h.touched
    (λ d. end_sent ask (slice_index_or old.lanes ask.port d) (slice_index_or new.lanes ask.port d) receipt.outcome (h.sent d))
    (λ d. seat_stepped ask (slice_index_or old.seats ask.port d) (slice_index_or new.seats ask.port d) receipt.outcome receipt.stat receipt.msgq (h.steps d))

pub ports_looked : (port : ℕ) (old new : ProcView) (stat : ℕ) → HasLookedAt port old new stat → AreSamePorts old.lanes new.lanes old.seats new.seats
ports_looked port old new stat h = ports_touched port old.lanes new.lanes old.seats new.seats h.touched
    (λ d. subst (λ p. IsSameEnd (slice_index_or old.lanes port d) (slice_index_or p.lanes port d)) (sym h.rest) refl)
    (λ d. seat_saw _ _ stat (h.seat d))

pub ports_found : (port : ℕ) (old new : ProcView) (msgq stat : ℕ) → HasFoundWords port old new msgq stat → AreSamePorts old.lanes new.lanes old.seats new.seats
ports_found port old new msgq stat h = ports_touched port old.lanes new.lanes old.seats new.seats h.touched
    (λ d. subst (λ p. IsSameEnd (slice_index_or old.lanes port d) (slice_index_or p.lanes port d)) (sym h.rest) refl)
    (λ d. subst (IsSameSeat (slice_index_or old.seats port d)) (sym (h.finds d).step)
    (record { table = refl; setup = refl; number = refl; closed = closed_more (slice_index_or old.seats port d).sender.stats (stat ∷ []) }))

-- the lanes of the same ports are of as many processes
pub among_kept : (processes : ℕ) (lanes new_lanes : List LaneEnd) (seats new_seats : List SendKnown) → AreSamePorts lanes new_lanes seats new_seats
    → ((k : ℕ) (d : LaneEnd) → k < length lanes → (slice_index_or lanes k d).key.processes ≡ processes)
    → (k : ℕ) (d : LaneEnd) → k < length new_lanes → (slice_index_or new_lanes k d).key.processes ≡ processes
among_kept processes lanes new_lanes seats new_seats same among k d inside =
    ap (λ (e : LaneEnd). e.key.processes) (same.ends k d) ∙ among k d (subst (λ n. k < n) same.lanes_many inside)

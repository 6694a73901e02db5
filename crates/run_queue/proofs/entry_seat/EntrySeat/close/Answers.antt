use Rattle.std.proofs.Common.{◌≡◌, ap, ◌∙◌, arith, not}
use Rattle.std.proofs.lemmas.List.Sums.{sum_by-append}
use Rattle.run_queue.specs.Account.{put_weight, taken_weight, all_parts}
use Rattle.run_queue.specs.Seats.{EntryKnown}
use Rattle.run_queue.proofs.Accounts.{was_empty_left}
use Rattle.run_queue.proofs.EndLemmas.{none_then}
use Rattle.run_queue.proofs.entry_seat.EntrySeat.close.Goals as goal

pub returns-then-is_none : goal.returns-then-is_none
returns-then-is_none g c =
    let taken = c.tickets.invariant.0 in
    let is = c.tickets.invariant.1 in
    let saw = (none_then c.take.result c.take.ensures.none (c.is_none.ensures ∙ ap not c.if-is_none.true)).1 in
    let whole : c.tickets.self.hand.parts ≡ all_parts = ap (λ (e : EntryKnown). e.hand.parts) is ∙ c.requires in
    let left = was_empty_left c.tickets.self.hand whole saw in (
      taken,
      λ weight.
          let one = left weight in
          let put = ap (λ (e : EntryKnown). put_weight weight e.hand) is in
          let took = ap (λ (e : EntryKnown). taken_weight weight e.hand) is in
          let sums = sum_by-append weight c.args.self.hand.taken taken in
          omega arith,
    )

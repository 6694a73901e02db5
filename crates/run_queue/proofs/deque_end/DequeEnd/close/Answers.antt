use Rattle.std.proofs.Common.{◌≡◌, [], ◌++◌, map, option_to_list, subst, sym, arith, refl}
use Rattle.std.specs.List.{sum_by}
use Rattle.std.proofs.lemmas.List.Sums.{sum_by-cons}
use Rattle.crossbeam_deque.specs.Handles.{worker_view}
use Rattle.run_queue.specs.Account.{parts_of, all_parts}
use Rattle.run_queue.specs.Ends.{guest_view, owner_view}
use Rattle.run_queue.specs.Seats.{DequeKnown, hands_of}
use Rattle.run_queue.proofs.Accounts.{learns}
use Rattle.run_queue.proofs.deque_end.DequeEnd.close.Goals as goal

pub len_as-requires : goal.len_as-requires
len_as-requires c =
    let guests = map guest_view c.self.inside.guests.items in
    let whole = subst (λ (k : DequeKnown). sum_by parts_of (hands_of k) ≡ all_parts) (sym c.self.view_is) c.requires.parts in
    let owned = subst (λ o. sum_by parts_of (option_to_list (owner_view o) ++ guests) ≡ all_parts) c.in-Some.is whole in
    let all : parts_of (worker_view c.absorb_all.result) ≡ all_parts = (let one = sum_by-cons parts_of (worker_view c.absorb_all.result) [] in
    let none : sum_by parts_of [] ≡ 0 = refl in
    let same = c.absorb_all.ensures.parts in
    omega arith) in
    learns _ _ all

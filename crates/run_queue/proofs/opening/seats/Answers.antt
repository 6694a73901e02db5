use Rattle.std.proofs.Common.{◌≡◌, suc, ◌-◌, [], ◌∷◌, Some, map, length, drop, slice_get, sym, ap, ◌∙◌, subst, arith, length-append}
use Rattle.std.proofs.lemmas.List.Elements.{All-pop}
use Rattle.port_words.proofs.lemmas.sums.Counting.{once_below-not}
use Rattle.run_queue.specs.Account.{hand, all_parts, other_parts}
use Rattle.run_queue.specs.Ends.{owner_ids, parts_given}
use Rattle.run_queue.specs.Seats.{EntryKnown, run_known, entry_known, guest_end, with_own, changed_at, AreFresh, fresh_seat}
use Rattle.run_queue.proofs.OpeningLemmas.{drop_one, ids_count, id_at, same_parts, fresh_push}
use Rattle.run_queue.proofs.opening.seats.Goals as goal

pub seat-requires-clause-row : goal.seat-requires-clause-row
seat-requires-clause-row c =
    let all = c.args.owners.items in
    let n = length c.seats.all.items in
    let inv = c.seats.invariant in
    let here = (drop_one all n c.in-Some.owner c.next.new.self.rest.items (sym inv.0 ∙ c.in-Some.ensures.steps.0)).0 in
    let len : c.len.result ≡ n = c.len.ensures ∙ c.seats.all.ok.0 in (
      owner_ids all,
      (All-pop (λ row. row.items ≡ map (guest_end c.args.most) (owner_ids all)) c.seats.rows.items c.pop.new.self.items (Some c.in-Some-pop.row) c.in-Some-pop.ensures.items inv.3).1,
      ids_count all ∙ c.requires.owners.1,
      ap (λ m. slice_get (owner_ids all) m) len ∙ id_at all n c.in-Some.owner here,
    )

pub seat-requires-clause-owner : goal.seat-requires-clause-owner
seat-requires-clause-owner c =
    let all = c.args.owners.items in
    let n = length c.seats.all.items in
    let here = (drop_one all n c.in-Some.owner c.next.new.self.rest.items (sym c.seats.invariant.0 ∙ c.in-Some.ensures.steps.0)).0 in
    let none = once_below-not 0 n (omega arith) in
    same_parts (parts_given c.args.most 0 n) (all_parts - c.args.most) c.in-Some.owner (omega arith) (c.requires.owners.0 n c.in-Some.owner here)

pub seats-preserved : goal.seats-preserved
seats-preserved c =
    let all = c.args.owners.items in
    let ids = owner_ids all in
    let n = length c.seats.all.items in
    let most = c.args.most in
    let injector = c.args.first.now.injector in
    let parts = c.args.first.now.hand.parts in
    let inv = c.seats.invariant in
    let rest = c.next.new.self.rest.items in
    let steps = c.in-Some.ensures.steps in
    let gone = (drop_one all n c.in-Some.owner rest (sym inv.0 ∙ steps.0)).1 in
    let len : c.len.result ≡ n = c.len.ensures ∙ c.seats.all.ok.0 in
    let size : length c.push.new.self.items ≡ suc n = (let e = ap length c.in_ok-push.ensures.items in let a = length-append c.seats.all.items (c.seat.result ∷ []) in omega arith) in
    let rows = All-pop (λ row. row.items ≡ map (guest_end most) ids) c.seats.rows.items c.pop.new.self.items (Some c.in-Some-pop.row) c.in-Some-pop.ensures.items inv.3 in
    let count : most ≡ length ids = sym (ids_count all ∙ c.requires.owners.1) in
    let row : c.in-Some-pop.row.items ≡ map (guest_end (length ids)) ids = rows.1 ∙ ap (λ m. map (guest_end m) ids) count in
    let entry : c.in_ok-entry.entry ≡ entry_known injector (hand 1 [] []) = c.in_ok-entry.ensures.ok.0 ∙ ap (λ (e : EntryKnown). entry_known e.injector (hand 1 [] [])) inv.5 in
    let seat : c.seat.result ≡ fresh_seat ids injector n 1 = c.seat.ensures ∙ (λ i. run_known (len i) 1 (changed_at (with_own (hand (all_parts - count i) [] [])) (len i) (row i)) (entry i)) in
    let left : parts - n - 1 ≡ parts - length c.push.new.self.items = omega arith in (
      sym gone ∙ ap (λ m. drop m all) (sym size),
      (let e = ap length steps.0 in let one = steps.1 in let was = inv.1 in omega arith),
      (let one = c.in-Some-pop.ensures.len in let was = inv.2 in omega arith),
      rows.0,
      subst (AreFresh ids injector) (sym c.in_ok-push.ensures.items) (fresh_push ids injector c.seats.all.items c.seat.result inv.4 seat),
      c.in_ok-entry.ensures.ok.1 ∙ ap (λ (e : EntryKnown). entry_known e.injector (other_parts e.hand)) inv.5 ∙ ap (λ m. entry_known injector (hand m [] [])) left,
    )

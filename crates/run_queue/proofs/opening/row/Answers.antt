use Rattle.std.proofs.Common.{◌≡◌, [], ◌∷◌, ◌++◌, Some, length, map, slice_get, sym, ap, ◌∙◌, subst, arith}
use Rattle.run_queue.specs.Ends.{AreGiven, owner_ids}
use Rattle.run_queue.specs.Seats.{guest_end}
use Rattle.run_queue.proofs.OpeningLemmas.{take_next, ids_count, given_next}
use Rattle.run_queue.proofs.opening.row.Goals as goal

pub ends-preserved : goal.ends-preserved
ends-preserved c =
    let n = c.ends.at in
    let inv = c.ends.invariant in
    let all = map (guest_end c.args.most) (owner_ids c.args.owners.now.items) in
    let ids = c.in_ok-guest_at.ensures.owners.1 ∙ inv.1 in
    let item : slice_get all n ≡ Some c.in_ok-guest_at.field-0 = ap (λ is. slice_get (map (guest_end c.args.most) is) n) (sym inv.1) ∙ c.in_ok-guest_at.ensures.end in (
      c.in_ok-guest_at.ensures.owners.0,
      ids,
      (let one = ids_count c.guest_at.new.owners.items in let two = ids_count c.args.owners.now.items in let e = ap length ids in omega arith),
      c.in_ok-push.ensures.items ∙ ap (λ l. l ++ c.in_ok-guest_at.field-0 ∷ []) inv.3 ∙ sym (take_next all n c.in_ok-guest_at.field-0 item),
    )

pub returns-clause-owners : goal.returns-clause-owners
returns-clause-owners c =
    let whole : c.ends.at ≡ length c.ends.owners.items = grind (arith, c.ends-test.false, c.ends.auto.at-end, c.len-at-end.ensures, c.args.owners.now.ok.0, c.ends.invariant.2) in
    (given_next c.args.seat c.ends.owners.items (subst (λ m. AreGiven c.args.seat m c.ends.owners.items) whole c.ends.invariant.0), c.ends.invariant.1)

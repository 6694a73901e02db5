use Rattle.std.proofs.Common.{◌≡◌, ◌++◌, ◌<◌, ◌^◌, length, take, drop, arith, refl, ap, sym, ◌∙◌, subst, append-nil}
use Rattle.std.specs.Prelude.{Some, IfSome, option_to_list}
use Rattle.waiting_parcels.specs.Queues.{lists, arrivals, in_order, IsQueued}
use Rattle.waiting_parcels.proofs.Kept.{queued-le, kept-queued, items-queued, kept-newest}
use Rattle.waiting_parcels.proofs.Taking.{written-back}
use Rattle.waiting_parcels.proofs.list.WaitingList.reserve.Goals as goal

pub overflow_add-self : goal.overflow_add-self
overflow_add-self c = let few = queued-le _ _ _ _ _ c.self.invariant in grind (arith, few)

pub invariant_of-self-in-Ok : goal.invariant_of-self-in-Ok
invariant_of-self-in-Ok c =
    let queues = c.self.inside.queues in
    let long : length c.put_behind.new.queues ≡ length queues.items = c.put_behind.auto.queues ∙ ap length c.deref_mut.ensures.value in
    let back : take queues.len (c.put_behind.new.queues ++ drop (length c.put_behind.new.queues) queues.items) ≡ c.put_behind.new.queues =
    written-back queues.len c.put_behind.new.queues queues.items long queues.ok.0 in
    let newest : c.self.inside.newest ≡ Some c.in-Some.item = sym c.take.ensures.value ∙ c.in-Some.is in
    let within : c.in-Some.item.sender < length (lists queues.items) = subst (λ o. IfSome o (λ i. i.sender < length (lists queues.items))) newest c.self.invariant.came in
    let small : c.self.inside.next < 2 ^ 63 = omega (arith, c.self.invariant.small, c.if-self.false) in
    rw (back, c.take.ensures.after)
    (kept-queued (lists queues.items) (lists c.put_behind.new.queues) c.self.inside.waiting.items c.put_behind.new.waiting.items c.self.inside.queued c.self.inside.next c.self.inside.newest
    (record { stamp = c.self.inside.next; item = c.in-Some.item }) c.self.invariant within refl small
    (rw c.deref_mut.ensures.value at c.in-Ok.ensures.ok))

pub invariant_of-self-in-Err : goal.invariant_of-self-in-Err
invariant_of-self-in-Err c =
    let queues = c.self.inside.queues in
    let long : length c.put_behind.new.queues ≡ length queues.items = c.put_behind.auto.queues ∙ ap length c.deref_mut.ensures.value in
    let back : take queues.len (c.put_behind.new.queues ++ drop (length c.put_behind.new.queues) queues.items) ≡ c.put_behind.new.queues =
    written-back queues.len c.put_behind.new.queues queues.items long queues.ok.0 in
    let same : lists c.put_behind.new.queues ≡ lists queues.items = c.in-Err.ensures.queues ∙ ap lists c.deref_mut.ensures.value in
    let newest : c.self.inside.newest ≡ Some c.in-Some.item = sym c.take.ensures.value ∙ c.in-Some.is in
    let within : c.in-Some.item.sender < length (lists queues.items) = subst (λ o. IfSome o (λ i. i.sender < length (lists queues.items))) newest c.self.invariant.came in
    let refused : c.in-Err.refused.item ≡ c.in-Some.item = ap (λ a. a.item) c.in-Err.ensures.back in
    rw (back, same, c.in-Err.ensures.waiting, refused)
    (kept-newest (lists queues.items) c.self.inside.waiting.items c.self.inside.queued c.self.inside.next c.self.inside.newest (Some c.in-Some.item) c.self.invariant within)

pub returns-in-Ok-clause-items : goal.returns-in-Ok-clause-items
returns-in-Ok-clause-items c =
    let queues = c.self.inside.queues in
    let long : length c.put_behind.new.queues ≡ length queues.items = c.put_behind.auto.queues ∙ ap length c.deref_mut.ensures.value in
    let back : take queues.len (c.put_behind.new.queues ++ drop (length c.put_behind.new.queues) queues.items) ≡ c.put_behind.new.queues =
    written-back queues.len c.put_behind.new.queues queues.items long queues.ok.0 in
    let newest : c.self.inside.newest ≡ Some c.in-Some.item = sym c.take.ensures.value ∙ c.in-Some.is in
    let within : c.in-Some.item.sender < length (lists queues.items) = subst (λ o. IfSome o (λ i. i.sender < length (lists queues.items))) newest c.self.invariant.came in
    let queued : IsQueued (lists queues.items) (lists c.put_behind.new.queues) c.self.inside.waiting.items c.put_behind.new.waiting.items (record { stamp = c.self.inside.next; item = c.in-Some.item }) =
    rw c.deref_mut.ensures.value at c.in-Ok.ensures.ok in
    rw (back, c.take.ensures.after, append-nil)
    (items-queued (lists queues.items) (lists c.put_behind.new.queues) c.self.inside.waiting.items c.put_behind.new.waiting.items c.self.inside.next
    (record { stamp = c.self.inside.next; item = c.in-Some.item }) c.self.invariant.past within refl queued
    ∙ (ap (λ o. in_order c.self.inside.next (arrivals (lists queues.items)) ++ option_to_list o) (sym newest) ∙ ap (λ v. v.items) c.self.view_is))

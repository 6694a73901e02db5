use Rattle.std.proofs.Common.{◌≡◌, ◌<◌, length, sym, ap, ◌∙◌, subst}
use Rattle.std.specs.Prelude.{Option, Some, None, IfSome, IfNone}
use Rattle.waiting_parcels.specs.Waiting.{NoneGoes}
use Rattle.waiting_parcels.specs.Queues.{lists}
use Rattle.waiting_parcels.proofs.Choosing.{GoesFirst-head, NoneGoes-head}
use Rattle.waiting_parcels.proofs.Kept.{kept-taken}
use Rattle.waiting_parcels.proofs.Taking.{written-back, queued-some, went-first, went-last, none-goes, none-last}
use Rattle.waiting_parcels.proofs.list.WaitingList.take_first.Goals as goal

pub overflow_sub-self : goal.overflow_sub-self
overflow_sub-self c =
    queued-some _ _ _ _ _ c.self.invariant c.args.busy c.in-Some.head _ _ _ (rw (c.deref.ensures.value, c.deref-2.ensures.value) at c.in-Some.ensures)
    (rw c.deref_mut.ensures.value at c.take_from-arrival.ensures)

pub invariant_of-self : goal.invariant_of-self
invariant_of-self c =
    let long : length c.take_from-arrival.new.queues ≡ length c.self.inside.queues.items = c.take_from-arrival.auto.queues ∙ ap length c.deref_mut.ensures.value in
    let back = written-back c.self.inside.queues.len c.take_from-arrival.new.queues c.self.inside.queues.items long c.self.inside.queues.ok.0 in
    let head = rw (c.deref.ensures.value, c.deref-2.ensures.value) at c.in-Some.ensures in
    rw back
    (kept-taken _ _ _ _ _ _ _ _ _ c.self.invariant head.within (rw c.deref_mut.ensures.value at c.take_from-arrival.ensures))

pub returns-in-Some-clause-some : goal.returns-in-Some-clause-some
returns-in-Some-clause-some c =
    let long : length c.take_from-arrival.new.queues ≡ length c.self.inside.queues.items = c.take_from-arrival.auto.queues ∙ ap length c.deref_mut.ensures.value in
    let back = written-back c.self.inside.queues.len c.take_from-arrival.new.queues c.self.inside.queues.items long c.self.inside.queues.ok.0 in
    rw (back, ← c.self.view_is)
    (went-first _ _ _ _ _ c.self.invariant c.args.busy c.in-Some.head _ _ _ (rw (c.deref.ensures.value, c.deref-2.ensures.value) at c.in-Some.ensures)
    (rw c.deref_mut.ensures.value at c.take_from-arrival.ensures))

pub returns-in-Some-clause-head : goal.returns-in-Some-clause-head
returns-in-Some-clause-head c free = GoesFirst-head c.args.busy c.args.self.now.items c.take_from-arrival.result.item _ (returns-in-Some-clause-some c) free

none_is : {X : Type 0} (o : Option X) (P : Type 0) → P → IfNone o P
none_is None P p = p
none_is (Some x) P p = tt

none-left : (c : goal.After-from_residual) → NoneGoes c.args.busy c.args.self.now.items
none-left c =
    rw (← c.self.view_is)
    (none-goes _ _ _ _ _ c.self.invariant c.args.busy (rw (c.deref.ensures.value, c.deref-2.ensures.value) at c.in_default.ensures) (sym c.take.ensures.value ∙ c.in_err-item.was))

pub returns-in_err-item-clause-none : goal.returns-in_err-item-clause-none
returns-in_err-item-clause-none c = none_is c.from_residual.result (NoneGoes c.args.busy c.args.self.now.items) (none-left c)

pub returns-in_err-item-clause-free : goal.returns-in_err-item-clause-free
returns-in_err-item-clause-free c free some = absurd (NoneGoes-head c.args.busy c.args.self.now.items (none-left c) free some)

pub returns-then-last_may_go-clause-some : goal.returns-then-last_may_go-clause-some
returns-then-last_may_go-clause-some c =
    let newest : c.self.inside.newest ≡ Some c.in_ok-item.item = sym c.take.ensures.value ∙ c.in_ok-item.was in
    let within : c.in_ok-item.item.sender < length (lists c.self.inside.queues.items) =
    subst (λ o. IfSome o (λ i. i.sender < length (lists c.self.inside.queues.items))) newest c.self.invariant.came in
    rw (c.take.ensures.after, ← c.self.view_is)
    (went-last _ _ _ _ _ c.self.invariant c.args.busy c.in_ok-item.item (rw (c.deref.ensures.value, c.deref-2.ensures.value) at c.in_default.ensures) newest within
    (rw c.deref-3.ensures.value at (sym c.last_may_go.ensures ∙ c.if-last_may_go.true)))

pub returns-then-last_may_go-clause-head : goal.returns-then-last_may_go-clause-head
returns-then-last_may_go-clause-head c free = GoesFirst-head c.args.busy c.args.self.now.items c.in_ok-item.item _ (returns-then-last_may_go-clause-some c) free

pub returns-clause-none : goal.returns-clause-none
returns-clause-none c =
    let newest : c.self.inside.newest ≡ Some c.in_ok-item.item = sym c.take.ensures.value ∙ c.in_ok-item.was in
    let within : c.in_ok-item.item.sender < length (lists c.self.inside.queues.items) =
    subst (λ o. IfSome o (λ i. i.sender < length (lists c.self.inside.queues.items))) newest c.self.invariant.came in
    rw (← c.self.view_is)
    (none-last _ _ _ _ _ c.self.invariant c.args.busy c.in_ok-item.item (rw (c.deref.ensures.value, c.deref-2.ensures.value) at c.in_default.ensures) newest within
    (rw c.deref-3.ensures.value at (sym c.last_may_go.ensures ∙ c.if-last_may_go.false)))

pub returns-clause-free : goal.returns-clause-free
returns-clause-free c free some = absurd (NoneGoes-head c.args.busy c.args.self.now.items (returns-clause-none c) free some)

use Rattle.std.proofs.Common.{◌≡◌, ◌<◌, get_or, length, refl, sym, ◌∙◌, ap, subst}
use Rattle.std.proofs.lemmas.List.Elements.{All-get_or}
use Rattle.waiting_parcels.specs.Queues.{lists, queue_of, goes_at, IsChoice}
use Rattle.waiting_parcels.proofs.Choosing.{choice-more}
use Rattle.waiting_parcels.proofs.Places.{queue_of-lists}
use Rattle.waiting_parcels.proofs.queues.first_to_go.Goals as goal

pub loop-place-preserved : goal.loop-place-preserved
loop-place-preserved c =
    let sender = get_or c.args.waiting.now c.loop-place.place 0 in
    let known : sender < length c.args.queues.now = All-get_or (λ n. n < length c.args.queues.now) c.args.waiting.now c.loop-place.place 0 c.loop-place-test.true c.requires in
    let stamp : c.stamp_to_go-stamp.result ≡ goes_at c.args.busy (queue_of sender (lists c.args.queues.now)) =
    c.stamp_to_go-stamp.ensures
    ∙ ap (goes_at c.args.busy) (ap (λ q. q.items) c.index-queues-sender.is ∙ sym (queue_of-lists c.args.queues.now sender c.index-queues-sender.result known)) in
    subst (IsChoice c.args.busy (lists c.args.queues.now) c.args.waiting.now _) (sym c.earlier-first.ensures)
    (choice-more c.args.busy (lists c.args.queues.now) c.args.waiting.now c.loop-place.place sender c.loop-place.first c.stamp_to_go-stamp.result
    c.loop-place-test.true refl stamp c.loop-place.invariant)

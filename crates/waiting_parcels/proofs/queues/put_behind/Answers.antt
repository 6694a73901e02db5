use Rattle.std.proofs.Common.{◌≡◌, ◌++◌, ◌∷◌, [], eqb, length, get_or, ap, ◌∙◌, sym}
use Rattle.std.proofs.lemmas.Bool.{cond-true, cond-false}
use Rattle.waiting_parcels.proofs.Places.{lists-same, is-queued}
use Rattle.waiting_parcels.proofs.queues.put_behind.Goals as goal
use Rattle.waiting_parcels.proofs.queues.put_behind.Goals.{then-starts-2, else-starts-2, else-starts-via-then-starts+else-is_err, else-starts-via-else-starts}

pub returns-after-starts-2-clause-ok : goal.returns-after-starts-2-clause-ok
returns-after-starts-2-clause-ok c =
    let queue = get_or c.args.queues.now c.args.arrival.item.sender c.index-queues-sender.result in
    let starts : eqb (length queue.items) 0 ≡ c.is_empty-starts.result = sym (c.is_empty-starts.ensures ∙ ap (λ n. eqb n 0) queue.ok.0) in
    let waiting : c.else-starts.waiting.items ≡ c.args.waiting.now.items =
    elim c.else-starts.branch [
      | else-starts-via-then-starts+else-is_err w ↦ ap (λ v. v.items) w.waiting-is ∙ w.reserve.ensures.items
      | else-starts-via-else-starts w ↦ ap (λ v. v.items) w.waiting-is
    ] in
    is-queued c.args.queues.now c.args.waiting.now.items c.if-starts-2.waiting.items c.index-queues-sender.result c.push_back.new.self c.args.arrival
    c.requires c.in-Ok.ensures.items
    (elim c.if-starts-2.branch [
      | then-starts-2 w ↦
          ap (λ v. v.items) w.waiting-is
          ∙ (w.push_reserved.ensures.items ∙ (ap (λ ws. ws ++ c.args.arrival.item.sender ∷ []) waiting ∙ sym (cond-true (eqb (length queue.items) 0) _ _ (starts ∙ w.if-starts-2.true))))
      | else-starts-2 w ↦ ap (λ v. v.items) w.waiting-is ∙ (waiting ∙ sym (cond-false (eqb (length queue.items) 0) _ _ (starts ∙ w.if-starts-2.false)))
    ])

pub returns-in-Err-clause-queues : goal.returns-in-Err-clause-queues
returns-in-Err-clause-queues c = lists-same c.args.queues.now c.args.arrival.item.sender c.index-queues-sender.result c.push_back.new.self c.in-Err.ensures.items

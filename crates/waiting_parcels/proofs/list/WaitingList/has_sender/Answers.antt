use Rattle.std.proofs.Common.{◌≡◌, ◌<◌, eqb, true, false, not, ◌||◌, length, arith, ap, sym, ◌∙◌}
use Rattle.std.specs.Prelude.{option_to_list}
use Rattle.waiting_parcels.specs.Waiting.{has_sender}
use Rattle.waiting_parcels.specs.Queues.{lists, queue_of}
use Rattle.waiting_parcels.proofs.Places.{queue_of-lists, length-lists}
use Rattle.waiting_parcels.proofs.Taking.{has_sender-list}
use Rattle.waiting_parcels.proofs.list.WaitingList.has_sender.Goals as goal

pub returns-then-not-is_empty : goal.returns-then-not-is_empty
returns-then-not-is_empty c =
    let queues = c.self.inside.queues in
    let within : c.args.sender < length queues.items = omega (arith, c.requires, ap (λ v. v.senders) c.self.view_is, queues.ok.0) in
    let empty : c.is_empty.result ≡ eqb (length (queue_of c.args.sender (lists queues.items))) 0 =
    c.is_empty.ensures
    ∙ (ap (λ n. eqb n 0) (c.index.result.now.ok.0 ∙ ap (λ q. length q.items) c.index.ensures)
    ∙ sym (ap (λ q. eqb (length q) 0) (queue_of-lists queues.items c.args.sender c.index.result.now within))) in
    let some : not c.is_empty.result ≡ true = ap not c.if-not-is_empty.true in
    some
    ∙ sym (sym (ap (λ v. has_sender c.args.sender v.items) c.self.view_is)
    ∙ (has_sender-list _ _ _ _ _ c.self.invariant c.args.sender c.is_empty.result (omega (arith, within, length-lists queues.items)) empty
    ∙ ap (λ b. b || has_sender c.args.sender (option_to_list c.self.inside.newest)) some))

pub returns-else-not-is_empty : goal.returns-else-not-is_empty
returns-else-not-is_empty c =
    let queues = c.self.inside.queues in
    let within : c.args.sender < length queues.items = omega (arith, c.requires, ap (λ v. v.senders) c.self.view_is, queues.ok.0) in
    let empty : c.is_empty.result ≡ eqb (length (queue_of c.args.sender (lists queues.items))) 0 =
    c.is_empty.ensures
    ∙ (ap (λ n. eqb n 0) (c.index.result.now.ok.0 ∙ ap (λ q. length q.items) c.index.ensures)
    ∙ sym (ap (λ q. eqb (length q) 0) (queue_of-lists queues.items c.args.sender c.index.result.now within))) in
    let none : not c.is_empty.result ≡ false = ap not c.if-not-is_empty.false in
    c.is_from.ensures
    ∙ sym (sym (ap (λ v. has_sender c.args.sender v.items) c.self.view_is)
    ∙ (has_sender-list _ _ _ _ _ c.self.invariant c.args.sender c.is_empty.result (omega (arith, within, length-lists queues.items)) empty
    ∙ ap (λ b. b || has_sender c.args.sender (option_to_list c.self.inside.newest)) none))

use Rattle.std.proofs.Common.{◌≡◌, ℕ, ◌+◌, List, ◌++◌, length, ap, ◌∙◌, append_assoc, length-append, arith}
use Rattle.std.specs.List.{concat}
use Rattle.std.proofs.lemmas.Bool.{false≢true}
use Rattle.driver_tests.proofs.Behind.{concat_behind}
use Rattle.port_driver.specs.Context.{Context}
use Rattle.driver_tests.proofs.queues.put_two.Goals as goal

pub unreachable-requires-in_default-enq : goal.unreachable-requires-in_default-enq
unreachable-requires-in_default-enq c =
    let old = c.args.ctx.now in
    let one : concat c.enq.new.self.segments ≡ old.queue ++ c.args.first = ap concat c.in-Ok.ensures.ok ∙ (concat_behind c.in_ok-queue.queue.now.segments c.args.first ∙ ap (λ bs. bs ++ c.args.first) c.in_ok-queue.ensures.bytes) in
    let counted = ap length one ∙ length-append old.queue c.args.first in
    false≢true (c.in_default-enq.ensures.succeeds (omega (arith, c.in-Ok.ensures.room, c.in_ok-queue.ensures.room)) (omega (arith, counted, c.requires)))

pub returns-clause-ok : goal.returns-clause-ok
returns-clause-ok c =
    let old = c.args.ctx.now in
    let one : concat c.enq.new.self.segments ≡ old.queue ++ c.args.first = ap concat c.in-Ok.ensures.ok ∙ (concat_behind c.in_ok-queue.queue.now.segments c.args.first ∙ ap (λ bs. bs ++ c.args.first) c.in_ok-queue.ensures.bytes) in
    let two : concat c.enq-2.new.self.segments ≡ old.queue ++ (c.args.first ++ c.args.second) = ap concat c.in-Ok-enq.ensures.ok ∙ (concat_behind c.enq.new.self.segments c.args.second ∙ (ap (λ bs. bs ++ c.args.second) one ∙ append_assoc old.queue c.args.first c.args.second)) in
    let with_queue : List ℕ → Context = λ q. record { caller = old.caller; next_job = old.next_job; held = old.held; queue = q; outside = old.outside; effects = old.effects } in
    ap with_queue two

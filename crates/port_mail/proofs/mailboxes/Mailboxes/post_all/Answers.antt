use Rattle.std.proofs.Common.{length, ap, arith}
use Rattle.port_mail.proofs.Posting.{Puts-failed}
use Rattle.port_mail.proofs.Steps.{posts-next, posts-fail}
use Rattle.port_mail.proofs.mailboxes.Mailboxes.post_all.Goals as goal

pub loop-to-preserved : goal.loop-to-preserved
loop-to-preserved g c = record {
  count = omega (arith, c.loop-to.invariant.count, ap length c.in-Some.ensures.steps.0, c.in-Some.ensures.steps.1);
  midway =
      posts-next c.args.links.now.ties.ended c.args.self.now c.loop-to.self c.post.new.self c.loop-to.to-iterator.rest.items c.next.new.self.rest.items c.in-Some.field-0 _
      c.in-Some.ensures.steps.0 c.loop-to.invariant.midway c.in_ok-post.ensures;
}

pub returns-in_err-post : goal.returns-in_err-post
returns-in_err-post g c =
    Puts-failed c.from_residual.result _ _ _ _ c.from_residual.ensures.0
    (posts-fail c.args.links.now.ties.ended c.args.self.now c.loop-to.self c.post.new.self c.loop-to.to-iterator.rest.items c.next.new.self.rest.items c.in-Some.field-0 _
    c.in-Some.ensures.steps.0 c.loop-to.invariant.midway c.in_err-post.ensures)

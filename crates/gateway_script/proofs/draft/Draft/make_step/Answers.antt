use Rattle.std.proofs.Common.{arith}
use Rattle.gateway_script.specs.Draft.{plan_of}
use Rattle.gateway_script.proofs.Numbers.{IsPlan-step}
use Rattle.gateway_script.proofs.draft.Draft.make_step.Goals as goal

pub returns-clause-draft : goal.returns-clause-draft
returns-clause-draft c =
    let old = c.args.self.now in
    record {
      plan = rw c.in_ok-push.ensures.list (IsPlan-step (plan_of old) c.args.line c.args.process c.args.act c.requires.draft.plan (omega (arith, c.len.ensures)) c.requires.process c.requires.within c.requires.number);
      steps = c.in_ok-push.ensures.steps;
    }

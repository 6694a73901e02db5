use Rattle.std.proofs.Common.{arith}
use Rattle.gateway_script.specs.Draft.{plan_of}
use Rattle.gateway_script.proofs.Plans.{IsPlan-port}
use Rattle.gateway_script.proofs.draft.Draft.declare_port.Goals as goal

pub returns-clause-draft : goal.returns-clause-draft
returns-clause-draft c =
    let a = c.args in
    record {
      plan = rw c.in_ok-push.ensures.items (IsPlan-port (plan_of a.self.now) (record { line = a.line; name = a.name; owner = a.owner; driver = a.driver; config = a.config }) c.requires.draft.plan (omega (arith, c.len.ensures, c.if-len-ge-MAX_NAMED.false)) c.requires.owner c.requires.config);
      steps = c.requires.draft.steps;
    }

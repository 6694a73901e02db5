use Rattle.std.proofs.Common.{◌++◌, ap, ◌∙◌, subst}
use Rattle.std.proofs.lemmas.List.{append_assoc}
use Rattle.port_body.specs.Steps.{SettlesFirst, SettlesNext}
use Rattle.port_body.proofs.Same.{lane_port_trans}
use Rattle.port_body.proofs.lane_port.LanePort.settle_rest.Goals as goal

pub returns-in_err-settle_next-clause-same : goal.returns-in_err-settle_next-clause-same
returns-in_err-settle_next-clause-same g c = lane_port_trans c.args.self.now c.loop.self c.settle_next.new.self c.loop.invariant.8 c.settle_next.ensures.same

pub loop-preserved : goal.loop-preserved
loop-preserved g c =
    let first : SettlesFirst c.loop.self c.settle_next.new.self =
    subst (λ b. SettlesNext b c.loop.self c.settle_next.new.self) c.if-not-branch.false c.in_ok-settle_next.ensures.next in
    let behind = c.loop.invariant.6 in (
      tt,
      tt,
      c.in_ok-settle_next.ensures.holds,
      first.shut,
      first.owners,
      first.looked,
      (behind.0 ++ first.behind, first.rows ∙ (ap (λ rows. rows ++ first.behind) behind.1 ∙ append_assoc c.args.self.now.port.rows behind.0 first.behind)),
      first.lane ∙ c.loop.invariant.7,
      lane_port_trans c.args.self.now c.loop.self c.settle_next.new.self c.loop.invariant.8 c.settle_next.ensures.same,
      first.room,
    )

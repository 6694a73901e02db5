use Rattle.std.specs.List.{flat_map}
use Rattle.port_links.specs.port_history.Mail.{effect_mail}
use Rattle.port_mail.proofs.Posting.{Midway-start, Puts-failed}
use Rattle.port_mail.proofs.Steps.{effects-next, effects-fail, effects-end}
use Rattle.port_mail.proofs.mailboxes.Mailboxes.post_effects.Goals as goal

pub loop-effect-init : goal.loop-effect-init
loop-effect-init g c = Midway-start c.args.links.now.ties.ended c.args.self.now (flat_map (effect_mail c.args.port c.args.owner) c.args.effects.now)

pub loop-effect-preserved : goal.loop-effect-preserved
loop-effect-preserved g c =
    effects-next _ _ _ _ (effect_mail c.args.port c.args.owner) c.args.effects.now c.loop-effect.effect-index c.effect-item.result _
    c.loop-effect-test.true c.effect-item.is c.loop-effect.invariant c.in_ok-post_effect.ensures

pub returns-in_err-post_effect : goal.returns-in_err-post_effect
returns-in_err-post_effect g c =
    Puts-failed c.from_residual.result _ _ _ _ c.from_residual.ensures.0
    (effects-fail _ _ _ _ (effect_mail c.args.port c.args.owner) c.args.effects.now c.loop-effect.effect-index c.effect-item.result _
    c.loop-effect-test.true c.effect-item.is c.loop-effect.invariant c.in_err-post_effect.ensures)

pub returns : goal.returns
returns g c =
    effects-end _ _ _ (effect_mail c.args.port c.args.owner) c.args.effects.now c.loop-effect.effect-index _ c.loop-effect-test.false c.loop-effect.invariant

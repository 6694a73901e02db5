use Rattle.std.proofs.Common.{◌≡◌, [], ◌∷◌, refl, subst}
use Rattle.port_events.specs.Parts.{Does, HasNoRoom, following}
use Rattle.port_events.proofs.Parts.{midway-start, midway-next, midway-full, following-at, following-done, keeps-none, keeps-then, same-port}
use Rattle.port_events.specs.declared.fault.EventFault.TheVariants.{NoRoom}
use Rattle.port_events.proofs.Handling.{on-err}
use Rattle.port_events.proofs.port_events.PortEvents.follow.Goals as goal

pub loop-effect-init : goal.loop-effect-init
loop-effect-init g c = record { midway = midway-start _ _ _; same = keeps-none c.args.self.now c.args.self.now refl }

pub loop-effect-preserved : goal.loop-effect-preserved
loop-effect-preserved g c = record {
  midway = midway-next _ _ _ _ c.args.self.now c.loop-effect.self c.follow_effect.new.self _ _ _ c.loop-effect.invariant.midway
      (following-at c.args.self.now.port c.args.effects.now c.loop-effect.effect-index c.effect-item.result c.loop-effect-test.true c.effect-item.is)
      (subst (λ port. Does (following port (c.effect-item.result ∷ [])) c.loop-effect.self c.follow_effect.new.self c.loop-effect.given_back.items c.follow_effect.new.given_back.items)
      (same-port c.args.self.now c.loop-effect.self c.loop-effect.invariant.same) c.in_ok-follow_effect.ensures.ok);
  same = keeps-then c.args.self.now c.loop-effect.self c.follow_effect.new.self c.loop-effect.invariant.same c.follow_effect.ensures.same;
}

pub returns-in_err-follow_effect-clause-room : goal.returns-in_err-follow_effect-clause-room
returns-in_err-follow_effect-clause-room g c =
    on-err c.from_residual.result _ (λ fault. fault ≡ NoRoom → HasNoRoom (following c.args.self.now.port c.args.effects.now) c.args.self.now) c.from_residual.ensures.1 (λ full.
    midway-full _ _ _ _ c.args.self.now c.loop-effect.self _ _ c.loop-effect.invariant.midway
    (following-at c.args.self.now.port c.args.effects.now c.loop-effect.effect-index c.effect-item.result c.loop-effect-test.true c.effect-item.is)
    (subst (λ port. HasNoRoom (following port (c.effect-item.result ∷ [])) c.loop-effect.self)
    (same-port c.args.self.now c.loop-effect.self c.loop-effect.invariant.same) (c.in_err-follow_effect.ensures.room full)))

pub returns-in_err-follow_effect-clause-same : goal.returns-in_err-follow_effect-clause-same
returns-in_err-follow_effect-clause-same g c = keeps-then c.args.self.now c.loop-effect.self c.follow_effect.new.self c.loop-effect.invariant.same c.follow_effect.ensures.same

pub returns-clause-ok : goal.returns-clause-ok
returns-clause-ok g c = following-done c.args.self.now.port c.args.effects.now c.loop-effect.effect-index _ c.args.self.now c.loop-effect.self _ _ c.loop-effect-test.false c.loop-effect.invariant.midway

use Rattle.std.proofs.Common.{[], ◌∷◌, ◌+◌, drop, refl, sym, ap, ◌∙◌, subst}
use Rattle.std.proofs.lemmas.List.{drop_all, drop_more}
use Rattle.port_history.specs.Ties.{watched_by}
use Rattle.port_service.specs.Serves.{Watches}
use Rattle.port_service.proofs.Watched.{watched-cons}
use Rattle.port_service.proofs.watching.note_watches.Goals as goal

pub loop-effect-init : goal.loop-effect-init
loop-effect-init c = record { len = refl; watches = λ before w. (before, (w, refl)) }

pub loop-effect-preserved : goal.loop-effect-preserved
loop-effect-preserved c = record {
  len = c.note_effect.ensures.len ∙ c.loop-effect.invariant.len;
  watches = λ before w.
      let i = c.loop-effect.invariant.watches before w in
      let more = drop_more c.args.effects.now c.loop-effect.effect-index c.effect-item.result c.loop-effect-test.true in
      let all = ap (λ e. e ∷ drop (c.loop-effect.effect-index + 1) c.args.effects.now) (sym c.effect-item.is) in (
        watched_by (c.effect-item.result ∷ []) i.0,
        (
          c.note_effect.ensures.watches i.0 i.1.0,
          watched-cons c.effect-item.result (drop (c.loop-effect.effect-index + 1) c.args.effects.now) i.0
              ∙ (ap (λ es. watched_by es i.0) (sym (more ∙ all)) ∙ i.1.1),
        ),
      );
}

pub returns-clause-watches : goal.returns-clause-watches
returns-clause-watches c = λ before w.
    let i = c.loop-effect.invariant.watches before w in
    subst (Watches c.loop-effect.watched.items) (sym (ap (λ es. watched_by es i.0) (drop_all c.loop-effect.effect-index c.args.effects.now c.loop-effect-test.false)) ∙ i.1.1) i.1.0

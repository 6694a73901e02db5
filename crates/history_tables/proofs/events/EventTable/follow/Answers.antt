use Rattle.std.proofs.Common.{[], ◌∷◌, ◌+◌, drop, refl, sym, ap, ◌∙◌, subst}
use Rattle.std.proofs.lemmas.List.{drop_all, drop_more}
use Rattle.port_history.specs.Events.{selected_by}
use Rattle.history_tables.specs.EventsKept.{Holds}
use Rattle.history_tables.proofs.EventSteps.{selected-cons}
use Rattle.history_tables.proofs.events.EventTable.follow.Goals as goal

pub loop-effect-init : goal.loop-effect-init
loop-effect-init c = record { holds = λ events w. (events, (w, refl)) }

pub loop-effect-preserved : goal.loop-effect-preserved
loop-effect-preserved c = record {
  holds = λ events w.
      let i = c.loop-effect.invariant.holds events w in
      let more = drop_more c.args.effects.now c.loop-effect.effect-index c.effect-item.result c.loop-effect-test.true in
      let all = ap (λ e. e ∷ drop (c.loop-effect.effect-index + 1) c.args.effects.now) (sym c.effect-item.is) in (
        selected_by (c.effect-item.result ∷ []) i.0,
        (
          c.in_ok-follow_effect.ensures i.0 i.1.0,
          selected-cons c.effect-item.result (drop (c.loop-effect.effect-index + 1) c.args.effects.now) i.0
              ∙ (ap (λ es. selected_by es i.0) (sym (more ∙ all)) ∙ i.1.1),
        ),
      );
}

pub returns : goal.returns
returns c = λ events w.
    let i = c.loop-effect.invariant.holds events w in
    subst (Holds c.loop-effect.self) (sym (ap (λ es. selected_by es i.0) (drop_all c.loop-effect.effect-index c.args.effects.now c.loop-effect-test.false)) ∙ i.1.1) i.1.0

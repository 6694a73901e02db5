use Rattle.std.proofs.Common.{[], ◌∷◌, ◌+◌, drop, refl, sym, ap, ◌∙◌, subst}
use Rattle.std.proofs.lemmas.List.{drop_all, drop_more}
use Rattle.port_history.specs.Ties.{watched_by}
use Rattle.history_tables.specs.Tied.{Watches}
use Rattle.history_tables.proofs.Sets.{watched-cons}
use Rattle.history_tables.proofs.watched.WatchedProcesses.note.Goals as goal

pub loop-effect-init : goal.loop-effect-init
loop-effect-init c = record { watches = λ watched w. (watched, (w, refl)) }

pub loop-effect-preserved : goal.loop-effect-preserved
loop-effect-preserved c = record {
  watches = λ watched w.
      let i = c.loop-effect.invariant.watches watched w in
      let more = drop_more c.args.effects.now c.loop-effect.effect-index c.effect-item.result c.loop-effect-test.true in
      let all = ap (λ e. e ∷ drop (c.loop-effect.effect-index + 1) c.args.effects.now) (sym c.effect-item.is) in (
        watched_by (c.effect-item.result ∷ []) i.0,
        (
          c.in_ok-note_effect.ensures i.0 i.1.0,
          watched-cons c.effect-item.result (drop (c.loop-effect.effect-index + 1) c.args.effects.now) i.0
              ∙ (ap (λ es. watched_by es i.0) (sym (more ∙ all)) ∙ i.1.1),
        ),
      );
}

pub returns : goal.returns
returns c = λ watched w.
    let i = c.loop-effect.invariant.watches watched w in
    subst (Watches c.loop-effect.self) (sym (ap (λ es. watched_by es i.0) (drop_all c.loop-effect.effect-index c.args.effects.now c.loop-effect-test.false)) ∙ i.1.1) i.1.0

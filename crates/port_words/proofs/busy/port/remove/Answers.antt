use Rattle.std.proofs.Common.{◌∙◌, ◌++◌, ◌∷◌, [], ap, sym, arith, subst}
use Rattle.port_words.specs.busy.Steps.{TellsQueue}
use Rattle.port_words.specs.busy.Known.{with_weight}
use Rattle.port_words.proofs.lemmas.busy.TryLemmas.{port_again, tried_again}
use Rattle.port_words.proofs.lemmas.busy.BusyLemmas.{port_hears}
use Rattle.port_words.proofs.busy.port.remove.Goals as goal

pub load-word-requires : goal.load-word-requires
load-word-requires g c =
    let wide = ap (λ z. z.words) c.requires.table.0 in
    let two = c.requires.table.1 in
    let after = c.join_into-size.ensures.seat.2 in
    (c.join_into-size.ensures.seat.0 ∙ c.requires.table.0, omega arith, port_hears _ _ _ _ (ap (λ m. m.0.setup) after ∙ c.requires.port.0 ∙ sym c.requires.table.2) (ap (λ m. m.0.port) after ∙ c.requires.port.1))

pub tries-preserved : goal.tries-preserved
tries-preserved g c =
    let before = c.tries.invariant in
    let err = c.in-Err.ensures.err in
    let same = c.in-Err.ensures.same in
    let n = c.in-Err.found in
    let is = port_again (with_weight c.args.seat.now.me.0 c.args.weight.name) c.tries.seat.me before.0 c.tries.word n before.1 in
    (before.0 ++ c.tries.word ∷ [], err.1 ∙ is, subst (λ m. TellsQueue m.0 n) is err.2, same.0 ∙ before.3, same.1 ∙ before.4, tried_again before.0 c.tries.word n before.5 err.0)

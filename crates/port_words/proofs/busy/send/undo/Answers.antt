use Rattle.std.proofs.Common.{◌∙◌, ◌++◌, ◌∷◌, [], ap, arith, subst}
use Rattle.port_words.specs.busy.Steps.{TellsQueue, own}
use Rattle.port_words.proofs.lemmas.busy.TryLemmas.{sender_again, tried_again}
use Rattle.port_words.proofs.lemmas.busy.BusyLemmas.{sender_hears_at}
use Rattle.port_words.specs.busy.Known.{with_weight}
use Rattle.port_words.proofs.busy.send.undo.Goals as goal

pub load-word-requires : goal.load-word-requires
load-word-requires g c =
    let own = c.join_into-size.ensures.seat.0 ∙ c.requires.table.0 in
    let wide = ap (λ z. z.words) c.requires.table.0 in
    let two = c.requires.table.1 in
    (own, omega arith, sender_hears_at _ _ _ _ _ _ _ c.requires.table.2 (c.join_into-size.ensures.seat.2 ∙ λ i. (with_weight (c.requires.view i).0 c.args.weight.name, (c.requires.view i).1)))

pub tries-preserved : goal.tries-preserved
tries-preserved g c =
    let before = c.tries.invariant in
    let err = c.in-Err.ensures.err in
    let same = c.in-Err.ensures.same in
    let n = c.in-Err.found in
    let is = err.1 ∙ sender_again c.args.setup (own c.args.seat.now.me.0) c.args.weight.name c.tries.seat.me before.0 c.tries.word n before.1 in
    (before.0 ++ c.tries.word ∷ [], is, subst (λ m. TellsQueue m.0 n) is err.2, same.0 ∙ before.3, same.1 ∙ before.4, tried_again before.0 c.tries.word n before.5 err.0)

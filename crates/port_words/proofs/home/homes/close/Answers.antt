use Rattle.std.proofs.Common.{◌++◌, ◌∷◌, [], ap, arith}
use Rattle.port_words.proofs.lemmas.home.HomeLemmas.{looks, fewer_left, last_body}
use Rattle.port_words.proofs.home.homes.close.Goals as goal

pub load-run-requires : goal.load-run-requires
load-run-requires g c =
    let wide = ap (λ z. z.words) c.requires.table.0 in
    let one = c.requires.table.1 in
    (c.requires.table.0, omega arith, looks _ _ _ _ _ _ c.requires.all.0)

pub returns-in-Ok : goal.returns-in-Ok
returns-in-Ok g c = last_body g.B.Lodged.name c.args.seat.me.0 c.tries.seat.me.0 (c.tries.invariant.0 ++ c.tries.run ∷ []) c.tries.run c.in-Ok.body c.requires.all.1 (ap (λ m. m.0) c.tries.invariant.1) c.in-Ok.ensures.ok.0 c.in-Ok.ensures.ok.1

pub tries-smaller : goal.tries-smaller
tries-smaller g c = fewer_left _ _ _ _ _ (ap (λ m. m.0) c.tries.invariant.1) c.in-Err.ensures.err.1 c.in-Err.ensures.err.0

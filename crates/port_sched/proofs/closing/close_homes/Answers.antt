use Rattle.std.proofs.Common.{◌++◌, [], ◌∷◌, length, sym, ap, ◌∙◌, arith, append_assoc, append-nil}
use Rattle.std.proofs.lemmas.List.Elements.{All-tail, All-same}
use Rattle.port_sched.specs.Closing.{IsWhole}
use Rattle.port_sched.proofs.Closings.{last_more}
use Rattle.port_sched.proofs.closing.close_homes.Goals as goal

pub homes-init : goal.homes-init
homes-init g c =
    let gives = c.into_iter-home-iterator.ensures.into_iter_gives in (
      ([], [], gives.0, sym (append-nil c.args.bodies.now.items), tt),
      gives.1 ∙ c.args.homes.ok.0 ∙ ap length (sym gives.0),
      All-same IsWhole _ _ gives.0 c.requires.whole,
      (let room = c.requires.room in let len = gives.1 in omega arith),
    )

pub homes-preserved : goal.homes-preserved
homes-preserved g c =
    let inv = c.homes.invariant in
    let steps = c.in-Some.ensures.steps in
    let home = c.in-Some.home in
    let body = c.close_home.result in
    let rest = c.next.new.self.rest.items in (
      (
        inv.0.0 ++ home ∷ [],
        inv.0.1 ++ body ∷ [],
        append_assoc inv.0.0 (home ∷ []) rest ∙ ap (λ l. inv.0.0 ++ l) (sym steps.0) ∙ inv.0.2,
        c.add.ensures.items ∙ ap (λ l. l ++ body ∷ []) inv.0.3 ∙ append_assoc c.args.bodies.now.items inv.0.1 (body ∷ []),
        last_more g.B.Lodged.name inv.0.0 inv.0.1 home body inv.0.4 c.close_home.ensures,
      ),
      (let e = ap length steps.0 in let one = steps.1 in let was = inv.1 in omega arith),
      All-tail IsWhole home rest (All-same IsWhole _ _ (sym steps.0) inv.2),
      (let len = c.add.ensures.len in let room = c.add.ensures.capacity in let one = steps.1 in let was = inv.3 in omega arith),
    )

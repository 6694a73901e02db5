use Rattle.std.proofs.Common.{◌≡◌, ◌-◌, ◌∙◌, length, vec_len, get_or, sym, ap, subst, arith}
use Rattle.std.proofs.lemmas.List.{get_or-take, length-take-le}
use Rattle.run_lanes.specs.Opened.{CanBegin}
use Rattle.port_bench.proofs.opening.peers.Goals as goal

pub processes-preserved : goal.processes-preserved
processes-preserved c =
    let all = c.processes.all in
    let before = c.processes.invariant in
    let few = before.0 in
    let size = all.ok.0 in
    let rest = c.pop.ensures.rest in
    let len : length c.pop.new.self.items ≡ vec_len all - 1 = ap length rest ∙ length-take-le (vec_len all - 1) all.items (omega arith) in (
      omega arith,
      λ process d within.
          subst (CanBegin 1 process)
          (sym (ap (λ items. get_or items process d) rest ∙ get_or-take (vec_len all - 1) all.items process d (omega (arith, len, within))))
          (before.1 process d (omega (arith, len, size, within))),
    )

use Rattle.std.proofs.Common.{◌≡◌, ◌<◌, ◌+◌, length, get_or, sym, ◌∙◌, subst, refl, arith}
use Rattle.std.proofs.lemmas.List.{get_or_default}
use Rattle.port_body.specs.Body.{BodyView}
use Rattle.closed_ports.specs.Settling.{IsSamePort}
use Rattle.closed_ports.proofs.Settled.{SettleBelow, more-settled, more-unsettled}
use Rattle.closed_ports.proofs.settling.settle_all.Goals as goal
use Rattle.closed_ports.proofs.settling.settle_all.Goals.{then-not-settle, else-not-settle}

pub ports-preserved : goal.ports-preserved
ports-preserved g c =
    let first = c.args.bodies.now.items in
    let bodies = c.ports.bodies.items in
    let port = c.ports.port in
    let was = c.index_mut.result.now in
    let body = c.settle.new.body in
    let inv = c.ports.invariant in
    let test = c.ports-test.true in
    let len : c.len-port-end.result ≡ length first = c.len-port-end.ensures ∙ c.args.bodies.now.ok.0 in
    let within : port < length first = omega (arith, test, len) in
    let inside : port < length bodies = let m = inv.many in omega (arith, within, m) in
    let stands : (d : BodyView) → was ≡ get_or bodies port d = λ d. c.index_mut.ensures.value ∙ get_or_default bodies port was d inside in
    let same : IsSamePort was body = record { name = c.settle.ensures.name; same = c.settle.ensures.same } in
    elim c.if-not-settle.branch [
      | then-not-settle w ↦ subst (SettleBelow (port + 1) first _) (sym w.all-is)
          (more-unsettled port first bodies _ c.ports.all was body within inv stands refl same (c.settle.ensures.unsettled w.if-not-settle.true))
      | else-not-settle w ↦ subst (SettleBelow (port + 1) first _) (sym w.all-is)
          (more-settled port first bodies _ c.ports.all was body within inv stands refl same (c.settle.ensures.settled w.if-not-settle.false))
    ]

use Rattle.std.proofs.Common.{ap, subst, ◌∙◌}
use Rattle.std.specs.List.{flat_map}
use Rattle.std.proofs.lemmas.List.{take_all}
use Rattle.sha2.specs.Hashers.{Holds256}
use Rattle.run_report.proofs.Lists.{saved_all}
use Rattle.run_report.proofs.data.data_summary.Goals as goal

pub returns-clause-digest : goal.returns-clause-digest
returns-clause-digest c =
    let whole = take_all c.loop-port.port-index c.deref-port-items.result.now c.loop-port-test.false ∙ c.deref-port-items.ensures.value in
    c.finalize.ensures _
    (subst (Holds256 c.loop-port.hasher) (ap (flat_map (λ x. x)) whole ∙ saved_all c.args.ports c.args.mails.now c.in_ok-lists.lists.items c.in_ok-lists.ensures.lists) c.loop-port.invariant)

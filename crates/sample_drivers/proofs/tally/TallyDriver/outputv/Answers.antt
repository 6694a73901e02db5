use Rattle.std.proofs.Common.{ap, arith}
use Rattle.sample_drivers.proofs.Tallies.{tally_counted}
use Rattle.sample_drivers.proofs.tally.TallyDriver.outputv.Goals as goal

pub returns-clause-did : goal.returns-clause-did
returns-clause-did c =
    let vc = ap (λ t. t.commands) c.self.view_is in
    let vb = ap (λ t. t.bytes) c.self.view_is in
    tally_counted _ _ _ _ _ _ (omega (arith, vc, c.in_ok-commands.ensures.value)) (omega (arith, vb, c.in_ok-self-inside.ensures.value, c.size.ensures.value))

use Rattle.std.proofs.Common.{ap, sym, ◌∙◌}
use Rattle.std.proofs.lemmas.Result.{on_ok_weaker}
use Rattle.spawn_driver.specs.Serving.{Serving, SpawnView}
use Rattle.spawn_driver.proofs.Commands.{Did-output}
use Rattle.spawn_driver.proofs.driver.SpawnDriverDriver.outputv.Goals as goal

pub returns-clause-did : goal.returns-clause-did
returns-clause-did g c =
    let program = sym (ap (λ (v : SpawnView). v.program) c.self.view_is) ∙ c.in-Some.is in
    let child = ap (λ (s : Serving). s.child) c.program.view_is in
    let kept = ap (λ (s : Serving). s.kept) c.program.view_is in
    rw (program, ← child, ← kept) (on_ok_weaker _ (λ q. Did-output _ (g.S.Program.Child.shows c.program.inside.child) _ _ _ _ q) c.output.ensures.ok)

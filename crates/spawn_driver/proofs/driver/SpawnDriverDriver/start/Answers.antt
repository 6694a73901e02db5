use Rattle.std.proofs.Common.{ap, ◌∙◌}
use Rattle.driver_model.specs.Calls.{Program}
use Rattle.spawn_driver.proofs.Starts.{Began-start}
use Rattle.spawn_driver.proofs.Callbacks.{Rose-refused, at-ok}
use Rattle.spawn_driver.proofs.driver.SpawnDriverDriver.start.Goals as goal

pub returns-clause-began : goal.returns-clause-began
returns-clause-began g c =
    let kept = ap (λ (p : Program). record p { read = c.events.result.0; write = c.events.result.1 }) (c.kept.view_is ∙ c.in-Ok.ensures) in
    let starts = rw c.as_slice-2.ensures at c.in-Ok-start.ensures.start.starts in
    Began-start c.args.config.now (g.S.Program.Child.shows c.in-Ok-start.child) _ c.args.ctx.now c.select.new.ctx c.events.result.0 c.events.result.1 kept c.requires.queue c.requires.events c.requires.jobs starts
    (at-ok c.select.result c.if-is_err.ensures.value c.select.ensures.ok)

pub returns-in-Err-Failed-clause-refusal : goal.returns-in-Err-Failed-clause-refusal
returns-in-Err-Failed-clause-refusal g c =
    let rose = rw c.in-Err-Failed.field-0-is at c.in-Err-Failed.ensures.start in
    Rose-refused _ _ (g.S.Spawner.faults c.start.new.self) c.self.view_is c.self.invariant c.requires.fresh rose

use Rattle.std.proofs.Common.{◌≡◌, []}
use Rattle.std.specs.List.{concat}
use Rattle.driver_model.specs.Calls.{Outputv}
use Rattle.spawn_driver.proofs.Silent.{no-answers, does, output-told}
use Rattle.spawn_driver.proofs.recorded_program.RecordedProgram.outputv.Goals as goal

pub returns-clause-told : goal.returns-clause-told
returns-clause-told c = λ row.
    let queues = rw c.self.view_is at c.in_ok-output.ensures.ok in
    let none : c.args.outside.now ≡ [] = no-answers c.args.outside.now c.if-not-is_empty.ensures in
    rw none (does (Outputv (concat c.args.payload.now)) [] row _ _ _ _ c.in_ok-output.ensures.adds.caller (output-told (concat c.args.payload.now) row _ _ _ _ queues))

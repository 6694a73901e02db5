use Rattle.std.proofs.Common.{ap, ◌++◌, ◌∙◌}
use Rattle.recorded_port.specs.Asks.{command_sizes}
use Rattle.recorded_port.specs.View.{removed_sizes}
use Rattle.recorded_port.proofs.Grown.{same-seated}
use Rattle.recorded_port.proofs.Same.{same-trans}
use Rattle.recorded_port.proofs.TaskRows.{settled-seat, weight-sizes}
use Rattle.recorded_port.proofs.recorded_port.RecordedPort.take.Goals as goal

pub returns-clause-settled : goal.returns-clause-settled
returns-clause-settled g c =
    let task = c.into_parts-task.result.0 in
    let marked = c.write_marks.ensures.marks (command_sizes task.signal) c.in_ok-write_task.ensures.writes.recorded in
    settled-seat c.write_marks.new.self c.remove.new.self (command_sizes task.signal) marked.recorded marked.none_due c.remove.ensures.rest c.remove.ensures.marks
    (c.remove.ensures.sizes ∙ ap (λ x. removed_sizes c.write_marks.new.self.seat ++ x) (weight-sizes c.into_parts-task.result.1 task c.into_parts-task.ensures.parcel))
    c.remove.ensures.found

pub returns-clause-same : goal.returns-clause-same
returns-clause-same g c =
    same-trans c.args.self.now c.write_task.new.self c.remove.new.self c.write_task.ensures.same
    (same-trans c.write_task.new.self c.write_marks.new.self c.remove.new.self c.write_marks.ensures.same
    (same-seated c.write_marks.new.self c.remove.new.self c.remove.ensures.rest c.remove.ensures.same))

use Rattle.std.proofs.Common.{◌≡◌, [], drop, subst}
use Rattle.recorded_port.specs.Taking.{WritesNext}
use Rattle.recorded_port.proofs.RowParts.{two-marks}
use Rattle.recorded_port.proofs.Same.{same-trans}
use Rattle.recorded_port.proofs.TaskRows.{written-two}
use Rattle.recorded_port.proofs.recorded_port.RecordedPort.write_marks.Goals as goal

pub returns-then-write_next_mark-clause-marks : goal.returns-then-write_next_mark-clause-marks
returns-then-write_next_mark-clause-marks g c = λ left recorded.
    let first = subst (λ b. WritesNext b c.args.self.now c.write_next_mark.new.self left) c.if-write_next_mark.true (c.write_next_mark.ensures.next left recorded) in
    written-two c.write_next_mark-then-write_next_mark.result _ _ _ left
    (subst (λ x. drop 1 (drop 1 x) ≡ []) recorded.at.state.due (two-marks c.args.self.now.port.state.change c.args.self.now.port.state.closes))
    first (c.write_next_mark-then-write_next_mark.ensures.next left first.recorded)

pub returns-then-write_next_mark-clause-same : goal.returns-then-write_next_mark-clause-same
returns-then-write_next_mark-clause-same g c =
    same-trans c.args.self.now c.write_next_mark.new.self c.write_next_mark-then-write_next_mark.new.self c.write_next_mark.ensures.same c.write_next_mark-then-write_next_mark.ensures.same

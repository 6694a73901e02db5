use Rattle.std.proofs.Common.{ap, sym, ◌∙◌, subst}
use Rattle.std.specs.Prelude.{◌+◌, if◌then◌else◌}
use Rattle.std.proofs.lemmas.Result.{on_ok_weaker}
use Rattle.run_report.proofs.Walked.{LateStep, walked-late}
use Rattle.run_report.proofs.walk.PortWalk.take_late.Goals as goal

pub returns-clause-walked : goal.returns-clause-walked
returns-clause-walked c =
    on_ok_weaker c.count_late.result
    (λ counted port older seq task e w.
    walked-late port older c.args.self.now (record { links = c.note_late.new.self; counts = c.count_late.new.self }) c.args.from seq task w
    (subst (λ signal. LateStep c.args.from signal c.args.self.now (record { links = c.note_late.new.self; counts = c.count_late.new.self })) (sym e) (record {
      processes = ap (λ l. l.processes) c.note_late.ensures;
      ties = ap (λ l. l.ties) c.note_late.ensures;
      commands = ap (λ x. x.commands) counted;
      late = ap (λ x. x.late) counted ∙ ap (λ b. c.args.self.now.counts.late + (if b then 1 else 0)) c.is_command.ensures;
      bytes = ap (λ x. x.bytes) counted;
      end = ap (λ x. x.end) counted;
    })))
    c.count_late.ensures

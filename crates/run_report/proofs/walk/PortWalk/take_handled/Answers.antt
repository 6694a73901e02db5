use Rattle.std.proofs.Common.{ap, sym, ◌∙◌, subst}
use Rattle.std.specs.Prelude.{None, is_some, unwrap_or, ◌+◌, if◌then◌else◌}
use Rattle.std.proofs.lemmas.Result.{on_ok_weaker}
use Rattle.port_history.specs.Service.{first_reason}
use Rattle.port_history.specs.Ties.{failure, signal_reason}
use Rattle.run_report.specs.Walks.{untied_for}
use Rattle.run_report.proofs.Walked.{HandledStep, walked-handled}
use Rattle.run_report.proofs.walk.PortWalk.take_handled.Goals as goal

pub returns-clause-walked : goal.returns-clause-walked
returns-clause-walked c =
    let old = c.args.self.now in
    let reason = c.closing_reason-reason.result in
    on_ok_weaker c.count_handled.result
    (λ counted port older seq task outside e w.
    walked-handled port older old (record { links = c.untie.new.links; counts = c.count_handled.new.self }) c.args.from seq task outside c.args.effects.now w
    (subst (λ signal. HandledStep c.args.from signal c.args.effects.now port old (record { links = c.untie.new.links; counts = c.count_handled.new.self })) (sym e) (record {
      reason = reason;
      why = c.closing_reason-reason.ensures
          ∙ ap (λ b. if b then None else first_reason (failure c.args.effects.now) (signal_reason old.links.ties c.args.from c.args.signal.now)) c.is_some-is_closed.ensures;
      processes = c.untie.ensures.processes ∙ c.note_signal.ensures.processes;
      ties = c.in_ok-untie.ensures.ties ∙ ap (untied_for reason) (c.in_ok-note_signal.ensures.ok port (sym w.processes));
      commands = ap (λ x. x.commands) counted
          ∙ ap (λ x. x.commands + (if is_some c.bytes_given-bytes.result then 1 else 0)) c.note_end.ensures
          ∙ ap (λ b. old.counts.commands + (if is_some b then 1 else 0)) c.bytes_given-bytes.ensures;
      late = ap (λ x. x.late) counted ∙ ap (λ x. x.late) c.note_end.ensures;
      bytes = ap (λ x. x.bytes) counted
          ∙ ap (λ x. x.bytes + unwrap_or c.bytes_given-bytes.result 0) c.note_end.ensures
          ∙ ap (λ b. old.counts.bytes + unwrap_or b 0) c.bytes_given-bytes.ensures;
      end = ap (λ x. x.end) counted ∙ ap (λ x. x.end) c.note_end.ensures;
    })))
    c.count_handled.ensures

use Rattle.std.proofs.Common.{refl, reverse, ◌∙◌, subst}
use Rattle.std.specs.List.{count_by}
use Rattle.std.proofs.lemmas.List.{take_all}
use Rattle.run_report.specs.Ports.{opening_of}
use Rattle.run_report.specs.Processes.{HasMore, is_command_of}
use Rattle.run_report.specs.Walks.{IsWalked}
use Rattle.run_report.proofs.Counted.{reverse-take_more, from-row, more-row}
use Rattle.run_report.proofs.Walked.{walked-whole}
use Rattle.run_report.proofs.counting.count_port.Goals as goal

pub take-requires : goal.take-requires
take-requires c =
    from-row c.args.processes c.as_slice-row-items.result.now _ c.loop-row.row-index c.row-item.result
    c.loop-row.invariant.processes (rw c.as_slice-row-items.ensures c.requires.senders) c.loop-row-test.true c.row-item.is

pub loop-row-preserved : goal.loop-row-preserved
loop-row-preserved c = record {
  walked = λ opening o p.
      rw (reverse-take_more c.as_slice-row-items.result.now c.loop-row.row-index c.row-item.result c.loop-row-test.true c.row-item.is)
      (c.in_ok-take.ensures.walked opening _ (c.loop-row.invariant.walked opening o p));
  processes = c.take.ensures.processes ∙ c.loop-row.invariant.processes;
  commands = more-row c.as_slice-row-items.result.now c.loop-row.row-index c.row-item.result _ _ _ c.loop-row-test.true c.row-item.is
      c.loop-row.invariant.commands c.in_ok-count_row.ensures;
}

pub returns : goal.returns
returns c =
    let whole = take_all c.loop-row.row-index c.as_slice-row-items.result.now c.loop-row-test.false ∙ c.as_slice-row-items.ensures in
    record {
      counts = c.into_counts.ensures ∙ walked-whole c.args.processes c.args.port.now c.loop-row.walk
          (subst (λ rows. IsWalked (opening_of c.args.processes c.args.port.now) (reverse rows) c.loop-row.walk) whole
          (c.loop-row.invariant.walked (opening_of c.args.processes c.args.port.now) refl refl));
      commands = subst (λ rows. HasMore (λ process. count_by (is_command_of process) rows) c.args.commands.now.items c.loop-row.commands.items) whole c.loop-row.invariant.commands;
    }

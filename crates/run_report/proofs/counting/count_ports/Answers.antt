use Rattle.std.proofs.Common.{◌++◌, ◌∷◌, [], ap, sym, ◌∙◌, map, subst, replicate}
use Rattle.std.proofs.lemmas.List.{take_all}
use Rattle.run_report.specs.Ports.{counts_of}
use Rattle.run_report.specs.Processes.{HasMore, commands_of}
use Rattle.run_report.proofs.Counted.{map_more, more-of-none, more-port}
use Rattle.run_report.proofs.counting.count_ports.Goals as goal

pub loop-port-preserved : goal.loop-port-preserved
loop-port-preserved c =
    let ports = c.args.ports.now in
    let i = c.loop-port.port-index in
    let port = c.port-item.result in
    record {
      ports = c.in_ok-push.ensures.items ∙ ap (λ x. c.loop-port.counts.items ++ x ∷ []) c.in_ok-count_port.ensures.counts
          ∙ ap (λ xs. xs ++ counts_of c.args.processes port ∷ []) c.loop-port.invariant.ports
          ∙ sym (map_more (counts_of c.args.processes) ports i port c.loop-port-test.true c.port-item.is);
      commands = more-port ports i port _ _ _ c.loop-port-test.true c.port-item.is c.loop-port.invariant.commands c.in_ok-count_port.ensures.commands;
    }

pub returns : goal.returns
returns c =
    let whole = take_all c.loop-port.port-index c.args.ports.now c.loop-port-test.false in
    let counted = more-of-none c.args.processes _ _ (subst (λ ports. HasMore (λ process. commands_of process ports) (replicate c.args.processes 0) c.loop-port.commands.items) whole c.loop-port.invariant.commands) in
    record {
      ports = c.loop-port.invariant.ports ∙ ap (map (counts_of c.args.processes)) whole;
      places = counted.0;
      commands = counted.1;
    }

use Rattle.run_output.specs.Reported.{port_report, process_report}
use Rattle.run_output.proofs.Paired.{few-paired}
use Rattle.run_output.proofs.reporting.report_of.Goals as goal

pub of_vec-requires : goal.of_vec-requires
of_vec-requires c =
    let few = few-paired (λ p. port_report p.0 p.1) c.args.names.ports.items c.args.ran.ports.items c.requires.ports in
    rw (c.in_ok-ports.ports.ok.0, c.in_ok-ports.ensures) few

pub of_vec-requires-2 : goal.of_vec-requires-2
of_vec-requires-2 c =
    let few = few-paired (λ p. process_report p.0 p.1) c.args.names.processes.items c.args.ran.processes.items c.requires.processes in
    rw (c.in_ok-processes.processes.ok.0, c.in_ok-processes.ensures) few

use Rattle.journal_text.proofs.PrintedPorts.{port_from}
use Rattle.journal_text.proofs.printing_ports.put_port.Goals as goal

pub returns : goal.returns
returns c =
    port_from c.args.port.now c.args.out.now.items c.put_port_line.new.out.items c.put.new.out.items c.put_history.new.out.items c.in_ok-put_port_line.ensures c.in_ok-put.ensures c.in_ok-put_history.ensures

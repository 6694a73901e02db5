use Rattle.process_end.proofs.Gone.{once-kept}
use Rattle.process_end.proofs.proc.Proc.exit_process.Goals as goal

pub returns-in-Ok-clause-once : goal.returns-in-Ok-clause-once
returns-in-Ok-clause-once g c = once-kept c.tell_ports.new.self c.into_end.result.lanes.items c.into_end.result.seats.items c.into_end.ensures.keeps
    c.into_end.ensures.lanes c.into_end.ensures.seats

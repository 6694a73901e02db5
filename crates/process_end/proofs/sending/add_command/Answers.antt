use Rattle.process_end.proofs.sending.add_command.Goals as goal

pub returns-in-Err-clause-undone : goal.returns-in-Err-clause-undone
returns-in-Err-clause-undone g c = record {
  between = c.add_command.new.self;
  msgq = c.in-Added.msgq;
  weight = c.in-Added.weight;
  left = c.take_back.result;
  adds = rw (c.add_how.ensures, c.size-size.ensures) at c.in-Added.ensures;
  takes_back = rw c.in-Err.ensures.refused.0 at c.take_back.ensures;
}

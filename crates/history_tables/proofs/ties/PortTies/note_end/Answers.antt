use Rattle.history_tables.proofs.Sets.{inserted, removed}
use Rattle.history_tables.proofs.ties.PortTies.note_end.Goals as goal

pub returns : goal.returns
returns c = λ ties is. record {
  owner = is.owner;
  linked = removed c.args.process c.args.self.now.linked c.remove.new.self ties.linked c.remove.ensures.updates.0 is.linked;
  ended = inserted c.args.process c.args.self.now.ended c.insert.new.self ties.ended c.in_ok-insert.ensures.updates.0 is.ended;
}

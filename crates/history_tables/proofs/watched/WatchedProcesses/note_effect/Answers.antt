use Rattle.history_tables.proofs.Sets.{inserted}
use Rattle.history_tables.proofs.watched.WatchedProcesses.note_effect.Goals as goal

pub returns-in_ok-insert : goal.returns-in_ok-insert
returns-in_ok-insert c = λ watched is. rw c.in-Watch.is (record { each = inserted c.in-Watch.process c.args.self.now.processes c.insert.new.self watched c.in_ok-insert.ensures.updates.0 is.each })

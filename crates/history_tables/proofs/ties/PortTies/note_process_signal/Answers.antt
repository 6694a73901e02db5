use Rattle.history_tables.proofs.Sets.{inserted, removed}
use Rattle.std.proofs.Common.{◌≡◌, ℕ}
use Rattle.std.specs.Prelude.{Result, Ok, Err, OnOk}
use Rattle.port_history.specs.Opening.{Opening}
use Rattle.port_history.specs.Ties.{Ties, without}
use Rattle.history_tables.specs.declared.ties.PortTies.{PortTies}
use Rattle.history_tables.specs.Tied.{Tied}
use Rattle.history_tables.proofs.ties.PortTies.note_process_signal.Goals as goal

ended : {F : Type 0} (r : Result (Unit {0}) F) (old new : PortTies) (process processes : ℕ) → OnOk r ((ties : Ties) → Tied old ties → Tied new (without process ties))
    → OnOk r ((port : Opening) (ties : Ties) → port.processes ≡ processes → Tied old ties → Tied new (without process ties))
ended (Ok value) old new process processes done = λ port ties count is. done ties is
ended (Err fault) old new process processes done = done

pub returns-in_ok-insert-in-Link : goal.returns-in_ok-insert-in-Link
returns-in_ok-insert-in-Link c = λ port ties count is. rw c.in-Link.is (record {
  owner = is.owner;
  linked = inserted c.args.from c.args.self.now.linked c.insert.new.self ties.linked c.in_ok-insert-in-Link.ensures.updates.0 is.linked;
  ended = is.ended;
})

pub returns-in-Unlink : goal.returns-in-Unlink
returns-in-Unlink c = λ port ties count is. rw c.in-Unlink.is (record {
  owner = is.owner;
  linked = removed c.args.from c.args.self.now.linked c.remove.new.self ties.linked c.remove.ensures.updates.0 is.linked;
  ended = is.ended;
})

pub returns-in-Gone : goal.returns-in-Gone
returns-in-Gone c = rw c.in-Gone.is (ended c.note_end.result c.args.self.now c.note_end.new.self c.args.from c.args.processes c.note_end.ensures)

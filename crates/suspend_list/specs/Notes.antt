-- When a suspended process waits on.
use Rattle.std.specs.Prelude.{◌≡◌, ℕ, ◌%◌, false}
use Rattle.port_words.specs.busy.Queue.{period_of}
use Rattle.port_words.specs.busy.Stat.{tells_closed}
use Rattle.suspend_list.specs.declared.note.StopNote.{StopNote}

-- the queue is busy, in the period in which the process was suspended, and the port is open
pub record MustWait (note : StopNote) (msgq stat : ℕ) : Type 0 where
  pub same_period : period_of msgq ≡ period_of note.msgq
  pub busy : period_of msgq % 2 ≡ 1
  pub opened : tells_closed stat ≡ false

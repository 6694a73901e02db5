-- How the poll set comes back.
use Rattle.std.proofs.Common.{◌≡◌, ℕ, List, Option, Some, option_map, Result, Ok, Err, refl, ap, ◌∙◌}
use Rattle.std.specs.Prelude.{IsSomeAnd}
use Rattle.outside.specs.Causes.{Rose}
use Rattle.driver_model.specs.Calls.{Kind}
use Rattle.port_driver.specs.declared.life.Life.{Life}
use Rattle.driver_hosts.specs.declared.hosted.Hosted.{Hosted}
use Rattle.run_laws.specs.run_output.Ends.{SinkView}
use Rattle.run_report.specs.declared.cause.Cause.{Cause}
use Rattle.run_report.specs.declared.cause.Cause.TheVariants.{Done, Usage, Script, ReadFault, WriteFault, NoDriver, StartRefused, PollFault, NoMemory, Illegal, Limit, JournalText}
use Rattle.run_report.specs.declared.report.Report.{Report}
use Rattle.script_input.specs.declared.input.RunWrites.{RunWrites}
use Rattle.script_input.specs.Files.{FilesView}
use Rattle.script_input.specs.Words.{AskedRun, Source}
use Rattle.run_laws.specs.run_output.script_run.declared.running.RunFault.{RunFault}
use Rattle.run_laws.specs.run_output.script_run.declared.running.RunFault.TheVariants as ran
use Rattle.run_laws.specs.run_output.script_run.declared.running.ScriptRan.{ScriptRan}
use Rattle.run_laws.specs.run_output.script_run.Ends.{PollIsBack}
use Rattle.gateway.specs.Causes.{PollEnds}
use Rattle.gateway.specs.Stages.{run_cause, InputEnds, WriteEnds}

module _ {D S : Type 0} (kind : D → Kind) (stage : D → Life) (faults : D → ℕ) (waits : S → ℕ) where
  -- nothing was run
  pub poll-unread : (words : Result AskedRun ℕ) (hosts : List (Hosted D)) (before after : FilesView) (poll : S) (cause : Cause) → InputEnds kind stage faults words hosts before after cause
      → PollEnds waits poll cause (Some poll)
  poll-unread words hosts before after poll Done l = absurd l
  poll-unread words hosts before after poll (Usage at) l = refl
  poll-unread words hosts before after poll (Script fault) l = refl
  poll-unread words hosts before after poll (ReadFault line) l = refl
  poll-unread words hosts before after poll WriteFault l = absurd l
  poll-unread words hosts before after poll (NoDriver line handed) l = refl
  poll-unread words hosts before after poll (StartRefused line refusal) l = absurd l
  poll-unread words hosts before after poll PollFault l = absurd l
  poll-unread words hosts before after poll NoMemory l = tt
  poll-unread words hosts before after poll (Illegal port row law) l = absurd l
  poll-unread words hosts before after poll (Limit line) l = refl
  poll-unread words hosts before after poll (JournalText at) l = absurd l

module _ {S : Type 0} (waits : S → ℕ) where
  -- the run wasn't made
  pub poll-unmade : (old : S) (new : Option S) (fault : RunFault) → PollIsBack waits old (Err fault) new → PollEnds waits old (run_cause fault) new
  poll-unmade old new (ran.NoDriver line handed) b = b
  poll-unmade old new (ran.StartRefused line refusal) b = b
  poll-unmade old new ran.PollFault b = rw b.1 b.2
  poll-unmade old new ran.NoMemory b = tt

  pub poll-rose : (old : S) (new : Option S) (fault : RunFault) → PollIsBack waits old (Err fault) new → fault ≡ ran.PollFault → IsSomeAnd (option_map waits new) (λ w. Rose (waits old) w)
  poll-rose old new (ran.NoDriver line handed) b e = absurd cc
  poll-rose old new (ran.StartRefused line refusal) b e = absurd cc
  poll-rose old new ran.PollFault b e = rw b.1 b.2
  poll-rose old new ran.NoMemory b e = absurd cc

  -- the run was made
  pub poll-kept : (old : S) (new : Option S) (left : ScriptRan) → PollIsBack waits old (Ok left) new → option_map waits new ≡ Some (waits old)
  poll-kept old new left b = ap (option_map waits) b.1 ∙ ap Some b.2

  pub poll-made : (old : S) (new : Option S) (left : ScriptRan) (source : Source) (writes : RunWrites) (report : Report) (files files' : FilesView) (sink sink' : SinkView) (cause : Cause) (told : Option Report)
      → PollIsBack waits old (Ok left) new → WriteEnds source writes report files files' sink sink' cause told → PollEnds waits old cause new
  poll-made old new left source writes report files files' sink sink' Done told b w = rw b.1 b.2
  poll-made old new left source writes report files files' sink sink' (Usage at) told b w = absurd w
  poll-made old new left source writes report files files' sink sink' (Script fault) told b w = absurd w
  poll-made old new left source writes report files files' sink sink' (ReadFault line) told b w = absurd w
  poll-made old new left source writes report files files' sink sink' WriteFault told b w = rw b.1 b.2
  poll-made old new left source writes report files files' sink sink' (NoDriver line handed) told b w = absurd w
  poll-made old new left source writes report files files' sink sink' (StartRefused line refusal) told b w = absurd w
  poll-made old new left source writes report files files' sink sink' PollFault told b w = absurd w
  poll-made old new left source writes report files files' sink sink' NoMemory told b w = tt
  poll-made old new left source writes report files files' sink sink' (Illegal port row law) told b w = absurd w
  poll-made old new left source writes report files files' sink sink' (Limit line) told b w = absurd w
  poll-made old new left source writes report files files' sink sink' (JournalText at) told b w = absurd w

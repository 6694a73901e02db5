use Rattle.std.proofs.Common.{drop}
use Rattle.history_replay.specs.declared.replaying.Verdict.{Verdict}
use Rattle.history_replay.specs.Verdicts.{Replays}
use Rattle.history_replay.proofs.replaying.replay.Given as goal

abbrev pub invariant-loop-at : goal.invariant-loop-at
invariant-loop-at l = (told : Verdict) → Replays l.at l.processes (drop l.at l.report-items) told → Replays 0 l.processes l.report-items told

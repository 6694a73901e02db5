use Rattle.std.proofs.Common.{take}
use Rattle.std.specs.Prelude.{All}
use Rattle.threaded_jobs.specs.Ended.{HasFinished}
use Rattle.threaded_jobs.proofs.ended.all_finished.Given as goal

-- the workers so far have finished
abbrev pub invariant-loop-worker : goal.invariant-loop-worker
invariant-loop-worker l = All HasFinished (take l.worker-index l.workers)

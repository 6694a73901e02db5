use Rattle.std.proofs.Common.{Some}
use Rattle.task_queue.proofs.channel.lane.Given as goal

-- the key of the new lane is the one that was handed in
abbrev pub ghosts-open : goal.ghosts-open
ghosts-open g a = record { key = Some a.key.now.value }

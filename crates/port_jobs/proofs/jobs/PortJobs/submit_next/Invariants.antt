use Rattle.std.proofs.Common.{◌≡◌, true, take, drop}
use Rattle.port_jobs.specs.Jobs.{Submits, are_next}
use Rattle.port_jobs.proofs.jobs.PortJobs.submit_next.Given as goal

-- the jobs of the effects so far were submitted, and those of the others are the next ones
abbrev pub invariant-loop-effect : goal.invariant-loop-effect
invariant-loop-effect g l = record {
  submits : Submits l.initial.self l.self (take l.effect-index l.effects);
  next : are_next l.self.submitted (drop l.effect-index l.effects) ≡ true;
}

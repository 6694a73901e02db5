use Rattle.std.proofs.Common.{◌≡◌, ℕ, List, ◌++◌, drop, length, true}
use Rattle.port_history.specs.Jobs.{Submitted, submitted_by}
use Rattle.history_tables.specs.JobsKept.{Keeps, are_next}
use Rattle.history_tables.proofs.jobs.JobTable.submit.Given as goal

-- the table has the jobs of the effects so far, and the rest of the effects submits the next ones
abbrev pub invariant-loop-effect : goal.invariant-loop-effect
invariant-loop-effect l = record {
  keeps : (jobs : List Submitted) (done : List ℕ) → Keeps l.initial.self jobs done → are_next (length jobs) l.effects ≡ true
      → (now : List Submitted) × (Keeps l.self now done × ((are_next (length now) (drop l.effect-index l.effects) ≡ true) × (now ++ submitted_by (drop l.effect-index l.effects) ≡ jobs ++ submitted_by l.effects)));
}

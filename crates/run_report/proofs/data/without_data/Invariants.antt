use Rattle.std.proofs.Common.{[]}
use Rattle.run_report.specs.Data.{Holds}
use Rattle.run_report.proofs.data.without_data.Given as goal

abbrev pub invariant-loop : goal.invariant-loop
invariant-loop l = Holds l.counter [] l.lists.items

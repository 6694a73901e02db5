use Rattle.std.proofs.Common.{◌≡◌, ◌-◌, ◌++◌}
use Rattle.script_load.specs.Load.{values}
use Rattle.script_load.proofs.numbers.values.Given as goal

-- the others follow
abbrev pub invariant-loop : goal.invariant-loop
invariant-loop l = l.all.items ++ values (l.count - l.counter) l.x ≡ values l.count l.number

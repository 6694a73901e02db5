use Rattle.std.proofs.Common.{◌≡◌, ◌++◌, length}
use Rattle.script_input.proofs.StepsDealt.{Dealt}
use Rattle.script_input.proofs.dealing.deal_steps.Given as goal

-- the steps so far were dealt
abbrev pub invariant-loop-step : goal.invariant-loop-step
invariant-loop-step l = record {
  rest : l.yielded ++ l.step-iterator.rest.items ≡ l.fn.steps.items;
  count : l.contents.rest.len ≡ length l.contents.rest.items;
  dealt : Dealt l.processes l.yielded l.initial.contents.rest.items l.contents.rest.items l.process_steps.items;
}

use Rattle.std.proofs.Common.{◌≡◌}
use Rattle.crossbeam_deque.specs.Injected.{IsInjectorPassOf, injector_view}
use Rattle.run_queue.proofs.entry_seat.take_by.Given as goal

abbrev pub invariant-tries : goal.invariant-tries
invariant-tries g l = IsInjectorPassOf l.injector l.pass × (injector_view l.pass ≡ injector_view l.initial.pass)

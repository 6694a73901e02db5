use Rattle.std.proofs.Common.{◌≤◌, take, length}
use Rattle.outside.specs.Sublist.{IsSublist}
use Rattle.outside_programs.proofs.real_poll.RealPoll.ready.Given as goal

-- the events so far are some of those that were looked at
abbrev pub invariant-loop-event : goal.invariant-loop-event
invariant-loop-event g l = record {
  within : l.event-index ≤ length l.armed;
  part : IsSublist l.events.items (take l.event-index l.armed);
}

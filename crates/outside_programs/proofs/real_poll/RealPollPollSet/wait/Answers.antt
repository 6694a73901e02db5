use Rattle.std.proofs.Common.{refl, rules}
use Rattle.outside.proofs.Sublists.{IsSublist-distinct}
use Rattle.outside_programs.proofs.real_poll.RealPollPollSet.wait.Goals as goal

pub returns-clause-wait : goal.returns-clause-wait
returns-clause-wait g c = (refl, c.in_ok-events.ensures, IsSublist-distinct _ _ _ c.in_ok-events.ensures c.requires, search rules)

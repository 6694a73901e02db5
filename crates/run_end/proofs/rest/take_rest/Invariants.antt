use Rattle.run_lanes.specs.Ends.{taken_in}
use Rattle.run_end.specs.Rest.{TookMore}
use Rattle.run_end.proofs.rest.take_rest.Given as goal

abbrev pub invariant-mails : goal.invariant-mails
invariant-mails g l = TookMore (taken_in l.fn.mailbox l.fn.ends.items) l.mailbox l.fn.mails.items l.mails.items

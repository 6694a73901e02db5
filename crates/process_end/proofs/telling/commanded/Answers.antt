use Rattle.std.proofs.Common.{ap}
use Rattle.process_receipts.specs.Asks.{is_suspended}
use Rattle.process_end.proofs.telling.commanded.Goals as goal

pub invariant_of-result : goal.invariant_of-result
invariant_of-result c = c.requires.free (ap is_suspended c.in-Accepted.is)

pub invariant_of-result-in-Dropped : goal.invariant_of-result-in-Dropped
invariant_of-result-in-Dropped c = c.requires.free (ap is_suspended c.in-Dropped.is)

pub invariant_of-result-in-Closed : goal.invariant_of-result-in-Closed
invariant_of-result-in-Closed c = c.requires.free (ap is_suspended c.in-Closed.is)

pub invariant_of-result-in-NotSupported : goal.invariant_of-result-in-NotSupported
invariant_of-result-in-NotSupported c = c.requires.free (ap is_suspended c.in-NotSupported.is)

pub invariant_of-result-in-TooLong : goal.invariant_of-result-in-TooLong
invariant_of-result-in-TooLong c = c.requires.free (ap is_suspended c.in-TooLong.is)

pub invariant_of-result-in-SentOut : goal.invariant_of-result-in-SentOut
invariant_of-result-in-SentOut c = c.requires.free (ap is_suspended c.in-SentOut.is)

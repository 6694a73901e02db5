use Rattle.process_receipts.specs.declared.how.How.TheVariants.{Plain}
use Rattle.process_receipts.specs.Asks.{asked}
use Rattle.process_end.proofs.Answered.{answered-free}
use Rattle.process_end.proofs.proc.Proc.signal.Goals as goal

pub invariant_of-self : goal.invariant_of-self
invariant_of-self g c = answered-free c.ask.result c.self.inside.sides c.ask.new.self (asked c.args.line c.args.port c.signal_of-signal.result Plain)
    c.ask.ensures.free c.ask.ensures.made c.ask.ensures.still_free c.signal_of-signal.ensures.plain

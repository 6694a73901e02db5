use Rattle.gateway_script.proofs.Ranges.{statement-ranges}
use Rattle.gateway_script.proofs.reader.take_line.Goals as goal

pub take_in-requires-clause-ranges : goal.take_in-requires-clause-ranges
take_in-requires-clause-ranges c = statement-ranges c.args.line.now c.in_ok-statement.statement c.in_ok-statement.ensures

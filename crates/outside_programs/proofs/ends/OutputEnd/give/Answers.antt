use Rattle.std.proofs.Common.{rules}
use Rattle.std.proofs.lemmas.List.{take_rest}
use Rattle.outside_programs.proofs.Fronts.{front_and_rest}
use Rattle.outside_programs.proofs.ends.OutputEnd.give.Goals as goal

-- src/ends.rt
pub returns-clause-front : goal.returns-clause-front
returns-clause-front c = front_and_rest c.args.self.now.chunk.items c.in-Ok.bytes.items c.args.self.now.used c.min-count.result (search (rules, take_rest))

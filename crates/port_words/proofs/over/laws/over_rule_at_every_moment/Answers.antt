use Rattle.std.proofs.Common.{arith}
use Rattle.port_words.proofs.lemmas.sums.Counting.{once_below-le}
use Rattle.port_words.proofs.over.laws.over_rule_at_every_moment.Goals as goal

pub returns-clause-counts : goal.returns-clause-counts
returns-clause-counts c size s rule = let low = rule.finished in let high = rule.stopped in omega arith

pub returns-clause-numbers : goal.returns-clause-numbers
returns-clause-numbers c size s rule n = let one = rule.numbers n in let most = once_below-le size.seats n in omega arith

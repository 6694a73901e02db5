use Rattle.std.proofs.Common.{sym, arith}
use Rattle.port_terms.specs.Written.{written_all}
use Rattle.port_terms.proofs.Sizes.{length_string}
use Rattle.port_terms.proofs.measures.+size.Goals as goal

pub list_size-returns-then-is_string : goal.list_size-returns-then-is_string
list_size-returns-then-is_string t c = omega (arith, c.count.ensures.few, length_string c.args.terms.now (written_all c.args.terms.now) (omega arith) (sym c.if-is_string.ensures))

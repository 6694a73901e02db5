use Rattle.std.proofs.Common.{sym, arith}
use Rattle.port_terms.proofs.Lists.{string_is_bytes}
use Rattle.port_terms.proofs.Spelled.{bytes_are_terms, none_are_terms}
use Rattle.port_terms.proofs.writing.+put.Goals as goal

pub put_list-returns-then-count-eq0-clause-limits : goal.put_list-returns-then-count-eq0-clause-limits
put_list-returns-then-count-eq0-clause-limits t c = (c.count.ensures.few, none_are_terms c.args.terms.now (omega arith))

pub put_list-returns-then-is_string-clause-limits : goal.put_list-returns-then-is_string-clause-limits
put_list-returns-then-is_string-clause-limits t c = (c.count.ensures.few, bytes_are_terms c.args.terms.now (string_is_bytes c.args.terms.now (sym c.if-is_string.ensures)))

use Rattle.std.specs.Arc.{arc_value}
use Rattle.port_words.proofs.lemmas.busy.BusyLemmas.{Dealing}
use Rattle.port_words.proofs.busy.port.busy_table.Given as goal

abbrev pub invariant-numbers : goal.invariant-numbers
invariant-numbers l = Dealing (arc_value l.table).shared.table_id l.setup l.counter l.rest.table_id l.rest.me l.seats.items

use Rattle.std.specs.Arc.{arc_value}
use Rattle.port_words.proofs.lemmas.over.OverLemmas.{Dealing}
use Rattle.port_words.proofs.over.word.over_word.Given as goal

abbrev pub invariant-numbers : goal.invariant-numbers
invariant-numbers l = Dealing (arc_value l.word).shared.table_id l.size l.counter l.rest.table_id l.rest.me l.seats.items

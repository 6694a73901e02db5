use Rattle.port_words.proofs.lemmas.busy.BusyLemmas.{opens, sender_cuts, weights_cuts, both_join, finds_stat, marks, sender_hears, port_hears, learns, adds, undoes, removes}
use Rattle.port_words.proofs.busy.laws.busy_rule_kept_by_each_step.Goals as goal

pub returns-clause-new : goal.returns-clause-new
returns-clause-new c = opens

pub returns-clause-sender : goal.returns-clause-sender
returns-clause-sender c = sender_cuts

pub returns-clause-weight : goal.returns-clause-weight
returns-clause-weight c = weights_cuts

pub returns-clause-join : goal.returns-clause-join
returns-clause-join c = both_join

pub returns-clause-stat_look : goal.returns-clause-stat_look
returns-clause-stat_look c = finds_stat

pub returns-clause-mark : goal.returns-clause-mark
returns-clause-mark c = marks

pub returns-clause-sender_look : goal.returns-clause-sender_look
returns-clause-sender_look c = sender_hears

pub returns-clause-port_look : goal.returns-clause-port_look
returns-clause-port_look c setup slots id me same is_port = (port_hears setup slots id me same is_port, learns setup slots id me same is_port)

pub returns-clause-add : goal.returns-clause-add
returns-clause-add c = adds

pub returns-clause-undo : goal.returns-clause-undo
returns-clause-undo c = undoes

pub returns-clause-removal : goal.returns-clause-removal
returns-clause-removal c = removes

use Rattle.std.proofs.Common.{sym, ap, ◌∙◌}
use Rattle.history_tables.proofs.EventSteps.{found-at, missing-at}
use Rattle.history_tables.specs.EventsKept.{event_in}
use Rattle.history_tables.proofs.events.EventTable.get.Goals as goal

pub returns-in-Some : goal.returns-in-Some
returns-in-Some c = λ events is.
    ap event_in c.index.ensures ∙ (sym (found-at c.args.event c.args.self.now.used.items c.in-Some.place c.index.result.now (sym c.place.ensures ∙ c.in-Some.is)) ∙ is.each c.args.event)

pub returns-in-None : goal.returns-in-None
returns-in-None c = λ events is.
    c.unused.ensures ∙ (sym (missing-at c.args.event c.args.self.now.used.items c.unused.result (sym c.place.ensures ∙ c.in-None.is)) ∙ is.each c.args.event)

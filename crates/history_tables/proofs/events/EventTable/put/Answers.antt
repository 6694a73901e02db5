use Rattle.std.proofs.Common.{map, sym, ap, ◌∙◌}
use Rattle.port_history.specs.Events.{event_of}
use Rattle.history_tables.specs.EventsKept.{event_in}
use Rattle.history_tables.proofs.EventSteps.{puts, replaced-at, pushed-at, unkept-at}
use Rattle.history_tables.proofs.events.EventTable.put.Goals as goal

pub returns-in-Some : goal.returns-in-Some
returns-in-Some c =
    puts c.args.self.now _ c.args.state (λ n. replaced-at c.args.state n c.args.self.now.used.items c.in-Some.place c.args.state (sym c.place.ensures ∙ c.in-Some.is))

pub returns-in_ok-push-in-None : goal.returns-in_ok-push-in-None
returns-in_ok-push-in-None c =
    puts c.args.self.now _ c.args.state
    (λ n. ap (λ xs. event_of n (map event_in xs)) c.in_ok-push-in-None.ensures.items ∙ pushed-at c.args.state n c.args.self.now.used.items c.args.state (sym c.place.ensures ∙ c.in-None.is))

pub returns-else-not-is_at_rest : goal.returns-else-not-is_at_rest
returns-else-not-is_at_rest c =
    puts c.args.self.now _ c.args.state
    (λ n. unkept-at c.args.state n c.args.self.now.used.items c.args.state (sym c.place.ensures ∙ c.in-None.is) (sym c.is_at_rest.ensures ∙ c.if-not-is_at_rest.false))

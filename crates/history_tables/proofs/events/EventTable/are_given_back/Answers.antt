use Rattle.std.proofs.Common.{◌≡◌, ◌∙◌, sym, ap, true, false, arith}
use Rattle.port_history.specs.Laws.{is_given_back}
use Rattle.port_history.specs.Events.{event_of}
use Rattle.history_tables.specs.declared.events.EventState.{EventState}
use Rattle.history_tables.proofs.EventSteps.{held-back, given-back, from-index, more-given-back}
use Rattle.history_tables.proofs.events.EventTable.are_given_back.Goals as goal

pub returns-then-not-is_given_back : goal.returns-then-not-is_given_back
returns-then-not-is_given_back c = λ events is.
    held-back c.args.self.now events c.index-state.result.now.number is
    (sym (ap is_given_back (c.get.ensures events is)) ∙ (sym c.is_given_back.ensures ∙ c.if-not-is_given_back.true))

pub loop-i-preserved : goal.loop-i-preserved
loop-i-preserved c = record {
  given = λ events d is.
      more-given-back c.args.self.now.used.items events c.loop-i.i d c.index-state.result.now (omega (arith, c.args.self.now.used.ok.0)) c.index-state.ensures (c.loop-i.invariant.given events d is)
      (sym (ap is_given_back (c.get.ensures events is)) ∙ (sym c.is_given_back.ensures ∙ c.if-not-is_given_back.false));
}

pub returns : goal.returns
returns c = λ events is.
    given-back c.args.self.now events is
    (from-index (λ (e : EventState). is_given_back (event_of e.number events) ≡ true) c.args.self.now.used.items nothing
    (λ k below. c.loop-i.invariant.given events nothing is k (omega (arith, c.args.self.now.used.ok.0)))) where
      nothing : EventState
      nothing = record { number = 0; held = false; waits = false; reads = false; writes = false; armed_to_read = false; armed_to_write = false }

use Rattle.std.proofs.Common.{[], refl, sym, subst, ◌∙◌}
use Rattle.std.proofs.lemmas.List.{append-nil}
use Rattle.port_history.specs.Events.{arm}
use Rattle.port_events.specs.Asks.{arm_asks}
use Rattle.port_events.specs.Parts.{IsDone, each, one, none}
use Rattle.port_events.proofs.AllHeld.{armed-all, none-held}
use Rattle.port_events.proofs.Handling.{then-ok}
use Rattle.port_events.proofs.port_events.PortEvents.arm_selected.Goals as goal

pub returns-clause-ok : goal.returns-clause-ok
returns-clause-ok g c = then-ok c.arm_each.result (λ does events a.
    armed-all c.args.self.now.port events c.args.self.now c.arm_each.new.self [] [] a
    (subst (λ ns. IsDone (each (one arm (arm_asks c.args.self.now.port) none) ns) events c.args.self.now c.arm_each.new.self [] [])
    (c.as_slice.ensures.value ∙ c.held-held.ensures events a) (does events a))) c.arm_each.ensures.ok

pub returns-then-is_given_back-clause-ok : goal.returns-then-is_given_back-clause-ok
returns-then-is_given_back-clause-ok g c = λ events a.
    let nobody = none-held events (sym (c.is_given_back.ensures events a) ∙ c.if-is_given_back.true) in
    armed-all c.args.self.now.port events c.args.self.now c.args.self.now [] [] a
    (subst (λ ns. IsDone (each (one arm (arm_asks c.args.self.now.port) none) ns) events c.args.self.now c.args.self.now [] []) (sym nobody)
    (record { agrees = a; asked = sym (append-nil c.args.self.now.asks.sent); given_back = refl; room = refl }))

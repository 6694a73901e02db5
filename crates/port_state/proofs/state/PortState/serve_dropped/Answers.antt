use Rattle.std.proofs.Common.{◌≡◌, true, is_some, refl, sym, ap, ◌∙◌, subst}
use Rattle.port_model.specs.declared.signal.Signal.TheVariants.{Dropped}
use Rattle.std.specs.Prelude.{map}
use Rattle.port_mail.specs.port_links.Posts.{sent_of}
use Rattle.port_mail.specs.port_links.port_history.Service.{effects_after}
use Rattle.port_mail.specs.Rows.{IsHandling}
use Rattle.port_state.proofs.Rows.{quiet, quiet-state, quiet-effects, quiet-exits, quiet-closer}
use Rattle.port_state.proofs.state.PortState.serve_dropped.Goals as goal

pub returns : goal.returns
returns g c = rw (← c.self.view_is, c.new.ensures, c.new-2.ensures) (record {
  outside = refl;
  serves = λ port s task e told none.
      let stopped : s.stopped ≡ true = sym told.stopped ∙ (ap (λ x. x.stopped) c.self.view_is ∙ c.requires.stopped) in
      let q = quiet port s c.args.seq task c.args.event e stopped in
      let h = c.new-handling.ensures in
      record {
        state = quiet-state port s c.args.seq task _ told none stopped q;
        effects = quiet-effects port s _ refl refl q;
        effects_are = sym (ap (λ x. effects_after port s.calls x) q.calls);
        closes = sym (ap is_some q.closes);
        mail = record {
          before = subst (λ x. IsHandling c.new-handling.result port x (Dropped c.args.event)) told.ties (h.ties port (sym told.number) (sym told.processes));
          from = sym h.task.1;
          seq = sym h.task.2;
          signal = e;
          effects = refl;
          exits = ap (map sent_of) c.new-3.ensures.items ∙ sym (quiet-exits port s _ q);
          stops = sym q.stops_none;
          closer = told.closer ∙ sym (quiet-closer port s _ q);
        };
      };
})

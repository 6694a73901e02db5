use Rattle.std.proofs.Common.{◌≡◌, [], ◌∷◌, sym, ◌∙◌, ap, subst}
use Rattle.std.proofs.lemmas.Result.{on_ok_weaker}
use Rattle.packet_framing.specs.declared.mode.Mode.{Mode}
use Rattle.packet_framing.specs.declared.mode.Mode.TheVariants.{Stream}
use Rattle.port_signal.specs.declared.outside.Outside.TheVariants.{Got}
use Rattle.driver_model.specs.Calls.{Program, cut_of}
use Rattle.port_driver.specs.Context.{Context}
use Rattle.spawn_driver.specs.Recorded.{with_answers}
use Rattle.spawn_driver.specs.Told.{IsCutAs, ReceivesAsTold}
use Rattle.spawn_driver.proofs.kept.Kept.take_as_told.Goals as goal

pub returns-in_ok-found-in-Stream-clause-ok : goal.returns-in_ok-found-in-Stream-clause-ok
returns-in_ok-found-in-Stream-clause-ok c =
    let stream : Stream ≡ c.args.self.now.config.mode = sym c.in-Stream.is ∙ ap (λ (p : Program). p.config.mode) c.self.view_is in
    let finds = rw (c.in_ok-count-in-Stream.ensures.ok, c.len.ensures.value) at c.in_ok-found-in-Stream.ensures.found in
    on_ok_weaker {Q = ReceivesAsTold c.args.bytes.now c.args.row.now c.args.self.now c.cut.new.self c.args.ctx.now c.report.new.ctx} _
    (λ q. record {
      receives = record {
        found = c.in_ok-found-in-Stream.found;
        finds = finds;
        context = ap (λ (x : Context). with_answers x (Got c.args.bytes.now ∷ [])) q;
      };
      cut = subst (λ (mode : Mode). IsCutAs mode (cut_of c.args.row.now) c.args.bytes.now c.in_ok-found-in-Stream.found) stream c.in_ok-found-in-Stream.ensures.cut;
    })
    c.report.ensures.ok

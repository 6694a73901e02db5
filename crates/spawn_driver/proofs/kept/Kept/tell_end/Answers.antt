use Rattle.std.proofs.Common.{ℕ, [], ◌∷◌, Bool, false, ◌||◌, ap, ◌∙◌}
use Rattle.std.specs.Prelude.{if◌then◌else◌, codes}
use Rattle.port_model.specs.declared.event.Dir.TheVariants.{Read}
use Rattle.port_model.specs.declared.effect.Effect.TheVariants.{Eof, Select, Fail}
use Rattle.driver_model.specs.Calls.{Program}
use Rattle.driver_model.specs.Spawn.{has_failed}
use Rattle.spawn_driver.specs.Recorded.{with_effects}
use Rattle.spawn_driver.specs.Steps.{answers_to}
use Rattle.spawn_driver.proofs.Recorded.{ended-context}
use Rattle.spawn_driver.proofs.kept.Kept.tell_end.Goals as goal

pub returns-clause-ok : goal.returns-clause-ok
returns-clause-ok c =
    let last = c.in_ok-send_last.ensures.ok in
    let status = c.in_ok-has_failed.ensures.ok in
    let eof = ap (λ (p : Program). p.config.eof) c.self.view_is in
    let read = ap (λ (p : Program). p.read) c.self.view_is in
    let tells = c.in_ok-tell_eof.ensures.ok ∙ ap (λ (x : Bool). with_effects c.send_last.new.ctx (if x then Eof ∷ [] else [])) eof in
    let selects = c.in_ok-select.ensures.ok ∙ ap (λ (n : ℕ). with_effects c.tell_status.new.ctx (Select n Read false ∷ [])) read in
    let ends = c.in_ok-end_port.ensures.ok
    ∙ (ap (λ (x : Bool). with_effects c.select.new.ctx (if x || c.in_ok-has_failed.has_failed then [] else Fail (codes "normal") ∷ [])) eof
    ∙ ap (λ (x : Bool). with_effects c.select.new.ctx (if c.args.self.now.config.eof || x then [] else Fail (codes "normal") ∷ [])) c.in_ok-has_failed.ensures.failed) in
    record {
      program = status.program ∙ ap (λ (p : Program). record p { failed = has_failed (answers_to c.args.status) || p.failed }) last.program;
      context = ended-context c.args.ctx.now c.send_last.new.ctx c.tell_eof.new.ctx c.tell_status.new.ctx c.select.new.ctx c.end_port.new.ctx _ _ _ _ _
          (answers_to c.args.status) last.context tells status.context selects ends;
    }

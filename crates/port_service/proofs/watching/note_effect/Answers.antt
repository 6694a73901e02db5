use Rattle.std.proofs.Common.{◌||◌, eqb, sym, ap, ◌∙◌, subst, ◌<◌}
use Rattle.port_service.proofs.Watched.{has-with}
use Rattle.port_service.proofs.watching.note_effect.Goals as goal

pub returns-in-Watch-clause-watches : goal.returns-in-Watch-clause-watches
returns-in-Watch-clause-watches c = λ before watches process within. rw c.in-Watch.is (
    let within' = subst (λ n. process < n) c.note_process.ensures.len within in
    c.note_process.ensures.flags process within' ∙ (ap (λ b. eqb c.in-Watch.process process || b) (watches process within') ∙ sym (has-with process _ before)))

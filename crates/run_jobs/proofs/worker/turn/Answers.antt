use Rattle.std.proofs.Common.{[], ◌∷◌, refl, sym, ap, ◌∙◌, subst, arith}
use Rattle.run_jobs.specs.Telling.{Sends}
use Rattle.run_jobs.specs.Working.{answer_to}
use Rattle.run_jobs.proofs.Tells.{sends_none, tells_ok}
use Rattle.run_jobs.proofs.Wakes.{nothing_woken}
use Rattle.run_jobs.proofs.Works.{answer_is}
use Rattle.run_jobs.proofs.worker.turn.Goals as goal

pub returns-in-Ok-clause-step : goal.returns-in-Ok-clause-step
returns-in-Ok-clause-step g c =
    let t = c.in-Did.ensures.turned in
    (t.0, t.1, subst (λ a. Sends (a ∷ []) c.args.lanes.now.items c.answer.new.lanes.items) (answer_is t.0 c.in-Did.done t.2) (tells_ok _ tt _ _ _ refl c.in-Ok.ensures.told))

pub returns-in-Did-clause-step : goal.returns-in-Did-clause-step
returns-in-Did-clause-step g c =
    let t = c.in-Did.ensures.turned in
    let tells = c.in-Err.ensures.told in
    (t.0, t.1, (tells.told, tells.left, ap (λ a. a ∷ []) (sym (answer_is t.0 c.in-Did.done t.2)) ∙ tells.whole, tells.sends))

pub returns-clause-step : goal.returns-clause-step
returns-clause-step g c =
    let job = c.in-NoMemory.field-0 in
    (job, c.in-NoMemory.ensures.turned, ([], answer_to job ∷ [], refl, sends_none c.args.lanes.now.items))

pub returns-clause-woke : goal.returns-clause-woke
returns-clause-woke g c = ([], omega arith, nothing_woken c.args.seats.now c.requires.homes)

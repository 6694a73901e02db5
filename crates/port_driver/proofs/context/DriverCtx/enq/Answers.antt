use Rattle.std.proofs.Common.{ℕ, List, [], ◌∷◌, ◌++◌, ap, ◌∙◌}
use Rattle.std.specs.List.{concat}
use Rattle.std.proofs.lemmas.List.{append-nil}
use Rattle.std.proofs.lemmas.List.Folds.{concat-append}
use Rattle.port_driver.specs.Context.{Context}
use Rattle.port_driver.proofs.context.DriverCtx.enq.Goals as goal

pub returns-clause-ok : goal.returns-clause-ok
returns-clause-ok c =
    let old = c.self.inside in
    let with_queue : List ℕ → Context = λ q. record { caller = old.caller; next_job = old.next_job; held = old.held.items; queue = q; outside = old.outside.items; effects = old.effects.items } in
    rw (← c.self.view_is)
    (ap with_queue (ap concat c.in-Ok.ensures.ok ∙ (concat-append old.queue.segments (c.args.piece ∷ []) ∙ ap (λ bs. concat old.queue.segments ++ bs) (append-nil c.args.piece))))

use Rattle.std.proofs.Common.{ℕ}
use Rattle.std.proofs.lemmas.Result.{on_ok_weaker}
use Rattle.driver_model.specs.Calls.{ReadyInput}
use Rattle.spawn_driver.specs.Told.{GoesOnBy, fetch_answers}
use Rattle.spawn_driver.proofs.Silent.{waits-told, fetch-failed, ended-told}
use Rattle.spawn_driver.proofs.Cuts.{got-told}
use Rattle.spawn_driver.proofs.kept.Kept.follow.Goals as goal

pub returns-in-Got-clause-ok : goal.returns-in-Got-clause-ok
returns-in-Got-clause-ok c =
    let fetched = rw c.in-Got.is at c.requires.told in
    on_ok_weaker
    {Q = (event : ℕ) → GoesOnBy (ReadyInput event) (fetch_answers c.args.told.now) c.args.row.now c.args.self.now c.take_as_told.new.self c.args.ctx.now c.take_as_told.new.ctx} _
    (λ q event. rw c.in-Got.is (got-told event _ _ _ _ _ _ c.take_as_told.ensures.served fetched q)) c.take_as_told.ensures.ok

pub returns-in-Again-clause-ok : goal.returns-in-Again-clause-ok
returns-in-Again-clause-ok c = λ event. rw c.in-Again.is (waits-told event _ _ _)

pub returns-in-Failed-clause-ok : goal.returns-in-Failed-clause-ok
returns-in-Failed-clause-ok c =
    on_ok_weaker
    {Q = (event : ℕ) → GoesOnBy (ReadyInput event) (fetch_answers c.args.told.now) c.args.row.now c.args.self.now c.give_up.new.self c.args.ctx.now c.give_up.new.ctx} _
    (λ q event. rw c.in-Failed.is (fetch-failed event _ _ _ _ _ c.give_up.ensures.program q)) c.give_up.ensures.ok

pub returns-in-End-clause-ok : goal.returns-in-End-clause-ok
returns-in-End-clause-ok c =
    let asked = rw c.in-End.is at c.requires.told in
    on_ok_weaker
    {Q = (event : ℕ) → GoesOnBy (ReadyInput event) (fetch_answers c.args.told.now) c.args.row.now c.args.self.now c.tell_end.new.self c.args.ctx.now c.tell_end.new.ctx} _
    (λ q event. rw c.in-End.is (ended-told event _ _ _ _ _ _ asked q)) c.tell_end.ensures.ok

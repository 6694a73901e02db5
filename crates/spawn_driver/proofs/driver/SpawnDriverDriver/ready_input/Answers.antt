use Rattle.std.proofs.Common.{◌≡◌, Some, ap, sym, ◌∙◌}
use Rattle.std.proofs.lemmas.Result.{on_ok_weaker}
use Rattle.driver_model.specs.Calls.{Program}
use Rattle.spawn_driver.specs.Serving.{Serving, SpawnView}
use Rattle.spawn_driver.proofs.Offers.{Did-failed, Did-waits, input-may-fail}
use Rattle.spawn_driver.proofs.Fetches.{Did-got}
use Rattle.spawn_driver.proofs.Endings.{Did-ended, status-unasked, tells-unasked}
use Rattle.spawn_driver.proofs.Callbacks.{Did-program, Did-asked}
use Rattle.spawn_driver.proofs.driver.SpawnDriverDriver.ready_input.Goals as goal

pub returns-in-Again-clause-did : goal.returns-in-Again-clause-did
returns-in-Again-clause-did g c =
    let view = rw c.in-Some.is at c.child.view_is in
    let serves : Serving = record {
      child = g.S.Program.Child.shows c.in-Some.field-0.child;
      faults = g.S.Program.Child.faults c.in-Some.field-0.child;
      kept = c.in-Some.field-0.kept;
    } in
    let program : c.args.self.now.program ≡ Some serves = sym (ap (λ (v : SpawnView). v.program) c.self.view_is) ∙ sym view in
    let child = g.S.Program.Child.shows c.fetch.new.self in
    on_ok_weaker _ (λ q. Did-program _ _ serves child _ _ _ program (Did-waits _ serves.child child _ _ _ c.in-Again.ensures.fetch.1.shows q)) c.answered.ensures.ok

pub returns-in-End-clause-did : goal.returns-in-End-clause-did
returns-in-End-clause-did g c =
    let view = rw c.in-Some.is at c.child.view_is in
    let serves : Serving = record {
      child = g.S.Program.Child.shows c.in-Some.field-0.child;
      faults = g.S.Program.Child.faults c.in-Some.field-0.child;
      kept = c.in-Some.field-0.kept;
    } in
    let program : c.args.self.now.program ≡ Some serves = sym (ap (λ (v : SpawnView). v.program) c.self.view_is) ∙ sym view in
    let child = g.S.Program.Child.shows c.status-status.new.self in
    let asks = sym (ap (λ (p : Program). p.config.exit_status) c.kept.view_is) ∙ c.if-kept.true in
    let ended = c.in-End.ensures.fetch in
    on_ok_weaker _
    (λ q. Did-program _ _ serves child _ _ _ program
    (Did-asked _ c.status-status.result _ _ serves (g.S.Program.Child.shows c.fetch.new.self) child _ _ _ asks ended.nothing ended.shows
    c.status-status.ensures.status q))
    c.end.ensures.ok

pub returns-in-End-2-clause-did : goal.returns-in-End-2-clause-did
returns-in-End-2-clause-did g c =
    let view = rw c.in-Some.is at c.child.view_is in
    let serves : Serving = record {
      child = g.S.Program.Child.shows c.in-Some.field-0.child;
      faults = g.S.Program.Child.faults c.in-Some.field-0.child;
      kept = c.in-Some.field-0.kept;
    } in
    let program : c.args.self.now.program ≡ Some serves = sym (ap (λ (v : SpawnView). v.program) c.self.view_is) ∙ sym view in
    let child = g.S.Program.Child.shows c.fetch.new.self in
    let asks = sym (ap (λ (p : Program). p.config.exit_status) c.kept.view_is) ∙ c.if-kept.false in
    let ended = c.in-End-2.ensures.fetch in
    on_ok_weaker _
    (λ q. Did-program _ _ serves child _ _ _ program
    (Did-ended _ _ serves.child child _ _ _ _ (status-unasked _ asks)
    (λ config earlier effects before. tells-unasked config earlier c.args._event c.args.ctx.now.caller effects serves.child child ended.nothing ended.shows before)
    q))
    c.end-in-End-2.ensures.ok

pub returns-in-Failed-clause-did : goal.returns-in-Failed-clause-did
returns-in-Failed-clause-did g c =
    let view = rw c.in-Some.is at c.child.view_is in
    let serves : Serving = record {
      child = g.S.Program.Child.shows c.in-Some.field-0.child;
      faults = g.S.Program.Child.faults c.in-Some.field-0.child;
      kept = c.in-Some.field-0.kept;
    } in
    let program : c.args.self.now.program ≡ Some serves = sym (ap (λ (v : SpawnView). v.program) c.self.view_is) ∙ sym view in
    let child = g.S.Program.Child.shows c.fetch.new.self in
    on_ok_weaker _
    (λ q. Did-program _ _ serves child _ _ _ program
    (Did-failed _ serves.child child _ _ _ _ (input-may-fail _) c.in-Failed.ensures.fetch.1.shows c.note_failure.ensures.program q))
    c.note_failure.ensures.ok

pub returns-in_ok-of_vec-in-Bytes-clause-did : goal.returns-in_ok-of_vec-in-Bytes-clause-did
returns-in_ok-of_vec-in-Bytes-clause-did g c =
    let view = rw c.in-Some.is at c.child.view_is in
    let serves : Serving = record {
      child = g.S.Program.Child.shows c.in-Some.field-0.child;
      faults = g.S.Program.Child.faults c.in-Some.field-0.child;
      kept = c.in-Some.field-0.kept;
    } in
    let program : c.args.self.now.program ≡ Some serves = sym (ap (λ (v : SpawnView). v.program) c.self.view_is) ∙ sym view in
    let child = g.S.Program.Child.shows c.fetch.new.self in
    let gave = c.in-Bytes.ensures.fetch.1 in
    let same = sym c.in_ok-of_vec-in-Bytes.ensures in
    let some = rw same at gave.some in
    let within = rw same at gave.within in
    let shows = rw same at gave.shows in
    on_ok_weaker _ (λ q. Did-program _ _ serves child _ _ _ program (Did-got _ _ serves.child child _ _ _ _ c.receive.ensures.served some within shows q)) c.receive.ensures.ok

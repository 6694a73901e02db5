use Rattle.std.proofs.Common.{◌≡◌, Some, ap, sym, ◌∙◌}
use Rattle.std.proofs.lemmas.Result.{on_ok_weaker}
use Rattle.spawn_driver.specs.Serving.{Serving, SpawnView}
use Rattle.spawn_driver.proofs.Offers.{Did-failed, output-may-fail}
use Rattle.spawn_driver.proofs.Callbacks.{Did-program, Did-offered}
use Rattle.spawn_driver.proofs.driver.SpawnDriverDriver.ready_output.Goals as goal

pub returns-in-Took-clause-did : goal.returns-in-Took-clause-did
returns-in-Took-clause-did g c =
    let view = rw c.in-Some.is at c.child.view_is in
    let serves : Serving = record {
      child = g.S.Program.Child.shows c.in-Some.field-0.child;
      faults = g.S.Program.Child.faults c.in-Some.field-0.child;
      kept = c.in-Some.field-0.kept;
    } in
    let program : c.args.self.now.program ≡ Some serves = sym (ap (λ (v : SpawnView). v.program) c.self.view_is) ∙ sym view in
    let child = g.S.Program.Child.shows c.offer.new.self in
    on_ok_weaker _ (λ q. Did-program _ _ serves child _ _ _ program (Did-offered _ _ _ _ _ serves child _ _ _ (c.as_slice.ensures ∙ c.in_ok-bytes.ensures) c.in-Took.ensures.offer q)) c.note_taken.ensures.ok

pub returns-clause-did : goal.returns-clause-did
returns-clause-did g c =
    let view = rw c.in-Some.is at c.child.view_is in
    let serves : Serving = record {
      child = g.S.Program.Child.shows c.in-Some.field-0.child;
      faults = g.S.Program.Child.faults c.in-Some.field-0.child;
      kept = c.in-Some.field-0.kept;
    } in
    let program : c.args.self.now.program ≡ Some serves = sym (ap (λ (v : SpawnView). v.program) c.self.view_is) ∙ sym view in
    let child = g.S.Program.Child.shows c.offer.new.self in
    on_ok_weaker _
    (λ q. Did-program _ _ serves child _ _ _ program
    (Did-failed _ serves.child child _ _ _ _ (output-may-fail _) c.in-Failed.ensures.offer.shows c.note_failure.ensures.program q))
    c.note_failure.ensures.ok

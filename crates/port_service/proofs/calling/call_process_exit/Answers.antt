use Rattle.port_service.proofs.Calls.{Called-none, Called-did}
use Rattle.std.proofs.lemmas.Result.{on_ok_weaker}
use Rattle.port_service.proofs.calling.call_process_exit.Goals as goal

pub returns-then-not-watched-clause-called : goal.returns-then-not-watched-clause-called
returns-then-not-watched-clause-called g c = rw c.if-not-watched.true (Called-none _ _ _ _)

pub returns-clause-called : goal.returns-clause-called
returns-clause-called g c =
    on_ok_weaker c.process_exit.result (λ did. rw c.if-not-watched.false (Called-did _ _ _ _ _ _ _ _ (rw c.caller-process.ensures at did))) c.process_exit.ensures.did

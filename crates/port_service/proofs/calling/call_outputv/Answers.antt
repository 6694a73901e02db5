use Rattle.port_service.proofs.Calls.{Called-none, Called-did}
use Rattle.std.proofs.lemmas.Result.{on_ok_weaker}
use Rattle.port_service.proofs.calling.call_outputv.Goals as goal

pub returns-then-not-owns-clause-called : goal.returns-then-not-owns-clause-called
returns-then-not-owns-clause-called g c = rw c.if-not-owns.true (Called-none _ _ _ _)

pub returns-clause-called : goal.returns-clause-called
returns-clause-called g c = on_ok_weaker c.outputv.result (λ did. rw c.if-not-owns.false (Called-did _ _ _ _ _ _ _ _ did)) c.outputv.ensures.did

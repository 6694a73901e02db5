use Rattle.std.proofs.Common.{ap}
use Rattle.std.proofs.lemmas.Result.{on_ok_weaker}
use Rattle.port_driver.specs.Context.{Context}
use Rattle.port_service.proofs.Calls.{Called-none, Called-did, Called-answered}
use Rattle.port_service.proofs.Counted.{counts-to}
use Rattle.port_service.proofs.calling.call_driver.Goals as goal

pub returns-in_ok-answer-in-Control-clause-called : goal.returns-in_ok-answer-in-Control-clause-called
returns-in_ok-answer-in-Control-clause-called g c =
    on_ok_weaker c.reply.result (λ e. rw c.in-Control.is (Called-answered _ _ _ _ _ _ _ _ _ _ c.in_ok-answer-in-Control.ensures.did e)) c.reply.ensures.ok

pub returns-in_ok-answer-in-Call-clause-called : goal.returns-in_ok-answer-in-Call-clause-called
returns-in_ok-answer-in-Call-clause-called g c =
    on_ok_weaker c.reply-in-Call.result (λ e. rw c.in-Call.is (Called-answered _ _ _ _ _ _ _ _ _ _ c.in_ok-answer-in-Call.ensures.did e)) c.reply-in-Call.ensures.ok

pub returns-in-Read-clause-called : goal.returns-in-Read-clause-called
returns-in-Read-clause-called g c = on_ok_weaker c.ready_input.result (λ did. rw (c.in-Ready.is, c.in-Read.is) (Called-did _ _ _ _ _ _ _ _ did)) c.ready_input.ensures.did

pub returns-in-Write-clause-called : goal.returns-in-Write-clause-called
returns-in-Write-clause-called g c = on_ok_weaker c.ready_output.result (λ did. rw (c.in-Ready.is, c.in-Write.is) (Called-did _ _ _ _ _ _ _ _ did)) c.ready_output.ensures.did

pub returns-in-AsyncDone-clause-called : goal.returns-in-AsyncDone-clause-called
returns-in-AsyncDone-clause-called g c = on_ok_weaker c.ready_async.result (λ did. rw c.in-AsyncDone.is (Called-did _ _ _ _ _ _ _ _ did)) c.ready_async.ensures.did

pub returns-in-Close-clause-called : goal.returns-in-Close-clause-called
returns-in-Close-clause-called g c = rw c.in-Close.is (Called-none _ _ _ _)

pub returns-in-OwnerClose-clause-called : goal.returns-in-OwnerClose-clause-called
returns-in-OwnerClose-clause-called g c = rw c.in-OwnerClose.is (Called-none _ _ _ _)

pub returns-in-Connect-clause-called : goal.returns-in-Connect-clause-called
returns-in-Connect-clause-called g c = rw c.in-Connect.is (Called-none _ _ _ _)

pub returns-in-OwnerConnect-clause-called : goal.returns-in-OwnerConnect-clause-called
returns-in-OwnerConnect-clause-called g c = rw c.in-OwnerConnect.is (Called-none _ _ _ _)

pub returns-in-Link-clause-called : goal.returns-in-Link-clause-called
returns-in-Link-clause-called g c = rw c.in-Link.is (Called-none _ _ _ _)

pub returns-in-Unlink-clause-called : goal.returns-in-Unlink-clause-called
returns-in-Unlink-clause-called g c = rw c.in-Unlink.is (Called-none _ _ _ _)

pub returns-in-Monitor-clause-called : goal.returns-in-Monitor-clause-called
returns-in-Monitor-clause-called g c = rw c.in-Monitor.is (Called-none _ _ _ _)

pub returns-in-Demonitor-clause-called : goal.returns-in-Demonitor-clause-called
returns-in-Demonitor-clause-called g c = rw c.in-Demonitor.is (Called-none _ _ _ _)

pub returns-in-Exit-clause-called : goal.returns-in-Exit-clause-called
returns-in-Exit-clause-called g c = rw c.in-Exit.is (Called-none _ _ _ _)

pub returns-in-Dropped-clause-called : goal.returns-in-Dropped-clause-called
returns-in-Dropped-clause-called g c = rw c.in-Dropped.is (Called-none _ _ _ _)

pub returns-in_ok-answer-in-Control-clause-counted : goal.returns-in_ok-answer-in-Control-clause-counted
returns-in_ok-answer-in-Control-clause-counted g c =
    on_ok_weaker c.reply.result (λ e. counts-to c.args.ctx.now.outside _ _ _ _ (ap (λ (x : Context). x.outside) e) c.in_ok-answer-in-Control.ensures.counted) c.reply.ensures.ok

pub returns-in_ok-answer-in-Call-clause-counted : goal.returns-in_ok-answer-in-Call-clause-counted
returns-in_ok-answer-in-Call-clause-counted g c =
    on_ok_weaker c.reply-in-Call.result (λ e. counts-to c.args.ctx.now.outside _ _ _ _ (ap (λ (x : Context). x.outside) e) c.in_ok-answer-in-Call.ensures.counted) c.reply-in-Call.ensures.ok

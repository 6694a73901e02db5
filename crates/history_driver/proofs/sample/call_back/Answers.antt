use Rattle.std.proofs.lemmas.Result.{on_ok_weaker}
use Rattle.history_driver.proofs.Replied.{Made-replied}
use Rattle.history_driver.proofs.sample.call_back.Goals as goal

pub returns-in_ok-answer-in-Control-clause-made : goal.returns-in_ok-answer-in-Control-clause-made
returns-in_ok-answer-in-Control-clause-made g c =
    on_ok_weaker c.reply.result (λ e. rw c.in-Control.is (Made-replied _ _ _ _ _ _ _ _ _ _ c.in_ok-answer-in-Control.ensures.did c.in_ok-answer-in-Control.ensures.kept.room.caller e))
    c.reply.ensures.ok

pub returns-in_ok-answer-in-Call-clause-made : goal.returns-in_ok-answer-in-Call-clause-made
returns-in_ok-answer-in-Call-clause-made g c =
    on_ok_weaker c.reply-in-Call.result (λ e. rw c.in-Call.is (Made-replied _ _ _ _ _ _ _ _ _ _ c.in_ok-answer-in-Call.ensures.did c.in_ok-answer-in-Call.ensures.kept.room.caller e))
    c.reply-in-Call.ensures.ok

use Rattle.std.proofs.Common.{sym, ◌∙◌}
use Rattle.std.proofs.lemmas.Result.{on_ok_weaker}
use Rattle.port_service.proofs.Calls.{Flushed-if, Flushed-if-not}
use Rattle.port_service.proofs.closing.flush_queued.Goals as goal

pub returns-then-not-is_flushed-clause-flushed : goal.returns-then-not-is_flushed-clause-flushed
returns-then-not-is_flushed-clause-flushed g c = Flushed-if-not _ _ _ _ _ (sym c.is_flushed.ensures ∙ c.if-not-is_flushed.true)

pub returns-clause-flushed : goal.returns-clause-flushed
returns-clause-flushed g c = on_ok_weaker c.flush.result (λ did. Flushed-if _ _ _ _ _ _ _ _ (sym c.is_flushed.ensures ∙ c.if-not-is_flushed.false) did) c.flush.ensures.did

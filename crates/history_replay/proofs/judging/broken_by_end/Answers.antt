use Rattle.std.proofs.Common.{refl, sym, ◌∙◌}
use Rattle.history_replay.proofs.judging.broken_by_end.Goals as goal

pub returns-then-not-is_settled : goal.returns-then-not-is_settled
returns-then-not-is_settled c = λ port s is. rw (sym (c.is_settled.ensures port s is) ∙ c.if-not-is_settled.true) refl

pub returns-then-not-keeps_end : goal.returns-then-not-keeps_end
returns-then-not-keeps_end c = λ port s is.
    rw (sym (c.is_settled.ensures port s is) ∙ c.if-not-is_settled.false, sym (c.keeps_end.ensures port s is) ∙ c.if-not-keeps_end.true) refl

pub returns : goal.returns
returns c = λ port s is.
    rw (sym (c.is_settled.ensures port s is) ∙ c.if-not-is_settled.false, sym (c.keeps_end.ensures port s is) ∙ c.if-not-keeps_end.false) refl

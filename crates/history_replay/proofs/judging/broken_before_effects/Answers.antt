use Rattle.std.proofs.Common.{refl, sym, ◌∙◌}
use Rattle.history_replay.proofs.judging.broken_before_effects.Goals as goal

pub returns-then-not-keeps_order : goal.returns-then-not-keeps_order
returns-then-not-keeps_order c = λ port s is. rw (sym (c.keeps_order.ensures port s is) ∙ c.if-not-keeps_order.true) refl

pub returns-then-not-keeps_lifetime : goal.returns-then-not-keeps_lifetime
returns-then-not-keeps_lifetime c = λ port s is. rw (sym (c.keeps_order.ensures port s is) ∙ c.if-not-keeps_order.false, sym (c.keeps_lifetime.ensures port s is) ∙ c.if-not-keeps_lifetime.true) refl

pub returns-then-not-keeps_busy : goal.returns-then-not-keeps_busy
returns-then-not-keeps_busy c = λ port s is. rw (sym (c.keeps_order.ensures port s is) ∙ c.if-not-keeps_order.false, sym (c.keeps_lifetime.ensures port s is) ∙ c.if-not-keeps_lifetime.false, sym (c.keeps_busy.ensures port s is) ∙ c.if-not-keeps_busy.true) refl

pub returns : goal.returns
returns c = λ port s is. rw (sym (c.keeps_order.ensures port s is) ∙ c.if-not-keeps_order.false, sym (c.keeps_lifetime.ensures port s is) ∙ c.if-not-keeps_lifetime.false, sym (c.keeps_busy.ensures port s is) ∙ c.if-not-keeps_busy.false) refl

use Rattle.std.proofs.Common.{refl, sym, ◌∙◌}
use Rattle.history_replay.proofs.judging.broken_behind_effects.Goals as goal

pub returns-then-not-keeps_marks : goal.returns-then-not-keeps_marks
returns-then-not-keeps_marks c = λ port s is. rw (sym (c.keeps_marks.ensures port s is) ∙ c.if-not-keeps_marks.true) refl

pub returns-then-not-keeps_listed : goal.returns-then-not-keeps_listed
returns-then-not-keeps_listed c = λ port s is. rw (sym (c.keeps_marks.ensures port s is) ∙ c.if-not-keeps_marks.false, sym (c.keeps_listed.ensures port s is) ∙ c.if-not-keeps_listed.true) refl

pub returns-then-not-keeps_resumed : goal.returns-then-not-keeps_resumed
returns-then-not-keeps_resumed c = λ port s is. rw (sym (c.keeps_marks.ensures port s is) ∙ c.if-not-keeps_marks.false, sym (c.keeps_listed.ensures port s is) ∙ c.if-not-keeps_listed.false, sym (c.keeps_resumed.ensures port s is) ∙ c.if-not-keeps_resumed.true) refl

pub returns-then-not-keeps_ready : goal.returns-then-not-keeps_ready
returns-then-not-keeps_ready c = λ port s is. rw (sym (c.keeps_marks.ensures port s is) ∙ c.if-not-keeps_marks.false, sym (c.keeps_listed.ensures port s is) ∙ c.if-not-keeps_listed.false, sym (c.keeps_resumed.ensures port s is) ∙ c.if-not-keeps_resumed.false, sym (c.keeps_ready.ensures port s is) ∙ c.if-not-keeps_ready.true) refl

pub returns-then-not-keeps_jobs : goal.returns-then-not-keeps_jobs
returns-then-not-keeps_jobs c = λ port s is. rw (sym (c.keeps_marks.ensures port s is) ∙ c.if-not-keeps_marks.false, sym (c.keeps_listed.ensures port s is) ∙ c.if-not-keeps_listed.false, sym (c.keeps_resumed.ensures port s is) ∙ c.if-not-keeps_resumed.false, sym (c.keeps_ready.ensures port s is) ∙ c.if-not-keeps_ready.false, sym (c.in_ok-keeps_jobs.ensures port s is) ∙ c.if-not-keeps_jobs.true) refl

pub returns : goal.returns
returns c = λ port s is. rw (sym (c.keeps_marks.ensures port s is) ∙ c.if-not-keeps_marks.false, sym (c.keeps_listed.ensures port s is) ∙ c.if-not-keeps_listed.false, sym (c.keeps_resumed.ensures port s is) ∙ c.if-not-keeps_resumed.false, sym (c.keeps_ready.ensures port s is) ∙ c.if-not-keeps_ready.false, sym (c.in_ok-keeps_jobs.ensures port s is) ∙ c.if-not-keeps_jobs.false) refl

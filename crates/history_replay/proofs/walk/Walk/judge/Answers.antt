use Rattle.std.proofs.Common.{Some, None, sym, ◌∙◌, subst}
use Rattle.history_state.specs.Kept.{IsStateOf}
use Rattle.history_replay.specs.Walked.{TellsEffects}
use Rattle.history_replay.proofs.Steps.{breaks-before, breaks-effects, behind-effects}
use Rattle.history_replay.proofs.walk.Walk.judge.Goals as goal

pub returns-in-Some-clause-tells : goal.returns-in-Some-clause-tells
returns-in-Some-clause-tells c = λ port s at. breaks-before port s c.args.row.now c.in-Some.law (c.in-Some.ensures port s at.state_is)

pub returns-in_default-2-clause-tells : goal.returns-in_default-2-clause-tells
returns-in_default-2-clause-tells c = λ port s at.
    breaks-effects port s c.args.row.now (c.in_default.ensures port s at.state_is)
    (subst (λ told. TellsEffects port s c.args.row.now told c.judge_effects.new.self.driver) c.in_default-2.is (c.in_ok-closing.ensures.tells port s at))

pub returns-in-Some-3-clause-tells : goal.returns-in-Some-3-clause-tells
returns-in-Some-3-clause-tells c = λ port s at.
    let told = subst (λ told. TellsEffects port s c.args.row.now told c.judge_effects.new.self.driver) c.in-Some-2.is (c.in_ok-closing.ensures.tells port s at) in
    let is : IsStateOf c.judge_effects.new.self.state port s = subst (λ h. IsStateOf h port s) (sym c.judge_effects.ensures.stays) at.state_is in
    behind-effects port s c.args.row.now (Some c.in-Some-3.law) (c.in_default.ensures port s at.state_is) told.0 (sym c.in-Some-3.is ∙ c.in_ok-law.ensures port s is)

pub returns-clause-tells : goal.returns-clause-tells
returns-clause-tells c = λ port s at.
    let told = subst (λ told. TellsEffects port s c.args.row.now told c.judge_effects.new.self.driver) c.in-Some-2.is (c.in_ok-closing.ensures.tells port s at) in
    let is : IsStateOf c.judge_effects.new.self.state port s = subst (λ h. IsStateOf h port s) (sym c.judge_effects.ensures.stays) at.state_is in
    (behind-effects port s c.args.row.now None (c.in_default.ensures port s at.state_is) told.0 (sym c.in_default-3.is ∙ c.in_ok-law.ensures port s is), told.1)

use Rattle.std.proofs.Common.{sym, ap, ◌∙◌, refl}
use Rattle.std.proofs.lemmas.Result.{IfOk-weaker}
use Rattle.port_history.specs.Service.{callback_of}
use Rattle.history_driver.proofs.Calls.{called-none, called-some, none-empty}
use Rattle.history_driver.proofs.running.RunningDriver.call_signal.Goals as goal

pub returns-in-Some-clause-called : goal.returns-in-Some-clause-called
returns-in-Some-clause-called c =
    IfOk-weaker c.call.result _ _ (λ answered did. λ port s seq task e k kind caller stands.
    let callback = c.in-Some.ensures port s k ∙ ap (λ x. callback_of s.ties s.watched c.args.handled.from x) (c.signal.ensures ∙ sym e) in
    called-some port s _ _ _ _ c.args.ctx.now _ answered callback refl refl caller c.requires.effects (rw kind at did) stands) c.call.ensures.told

pub returns-in-None-clause-called : goal.returns-in-None-clause-called
returns-in-None-clause-called c = λ port s seq task e k kind caller stands.
    let callback = c.in-None.ensures port s k ∙ ap (λ x. callback_of s.ties s.watched c.args.handled.from x) (c.signal.ensures ∙ sym e) in
    called-none port s _ _ _ _ callback (c.is_empty.ensures ∙ none-empty c.args.handled.outside.now) caller c.requires.effects stands

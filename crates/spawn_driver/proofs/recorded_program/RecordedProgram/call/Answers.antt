use Rattle.std.proofs.Common.{sym, ◌∙◌, ap, inl, inr}
use Rattle.std.proofs.lemmas.Result.{IfOk-weaker}
use Rattle.recorded_calls.specs.Told.{callback_of}
use Rattle.spawn_driver.proofs.Silent.{control-unasked, call-unasked, async-unasked, exit-unasked, flush-unasked, is_none-length, unasked-told, refused-told, did-told}
use Rattle.spawn_driver.proofs.recorded_program.RecordedProgram.call.Goals as goal

pub returns-in-Outputv-clause-told : goal.returns-in-Outputv-clause-told
returns-in-Outputv-clause-told c =
    IfOk-weaker _ _ _ (λ answered told. did-told _ _ _ _ _ _ answered (ap callback_of c.in-Outputv.is) (told _)) c.outputv.ensures.told

pub returns-in-Control-clause-told : goal.returns-in-Control-clause-told
returns-in-Control-clause-told c =
    IfOk-weaker _ _ _
    (λ answered refuses. elim c.in-Control.is [
      | inl w ↦ did-told _ _ _ _ _ _ answered (ap callback_of w.2) (refused-told _ _ _ _ _ _ answered (control-unasked _ _) refuses)
      | inr w ↦ did-told _ _ _ _ _ _ answered (ap callback_of w.2) (refused-told _ _ _ _ _ _ answered (call-unasked _ _) refuses)
    ])
    c.refuse.ensures.refuses

pub returns-in-ReadyInput-clause-told : goal.returns-in-ReadyInput-clause-told
returns-in-ReadyInput-clause-told c =
    IfOk-weaker _ _ _ (λ answered told. did-told _ _ _ _ _ _ answered (ap callback_of c.in-ReadyInput.is) (told _)) c.ready_input.ensures.told

pub returns-in-ReadyOutput-clause-told : goal.returns-in-ReadyOutput-clause-told
returns-in-ReadyOutput-clause-told c =
    IfOk-weaker _ _ _ (λ answered told. did-told _ _ _ _ _ _ answered (ap callback_of c.in-ReadyOutput.is) (told _ _)) c.ready_output.ensures.told

pub returns-in-ReadyAsync-clause-told : goal.returns-in-ReadyAsync-clause-told
returns-in-ReadyAsync-clause-told c =
    let none = c.is_empty.ensures ∙ sym (is_none-length c.args.call.now.outside.now) in
    elim c.in-ReadyAsync.is [
      | inl w ↦ did-told _ _ _ _ _ _ _ (ap callback_of w.2) (unasked-told _ _ _ _ _ _ (async-unasked _ _) none)
      | inr (inl w) ↦ did-told _ _ _ _ _ _ _ (ap callback_of w.1) (unasked-told _ _ _ _ _ _ (exit-unasked _) none)
      | inr (inr w) ↦ did-told _ _ _ _ _ _ _ (ap callback_of w) (unasked-told _ _ _ _ _ _ flush-unasked none)
    ]

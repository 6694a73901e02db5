use Rattle.std.proofs.Common.{◌≡◌, ◌≤◌, [], ◌∷◌, length, min, ap, ◌∙◌, arith}
use Rattle.port_signal.specs.declared.outside.Outside.TheVariants.{Took, Failed}
use Rattle.driver_model.specs.Calls.{ReadyOutput}
use Rattle.spawn_driver.proofs.Silent.{one-answer, does, took-told, offer-failed}
use Rattle.spawn_driver.proofs.recorded_program.RecordedProgram.ready_output.Goals as goal

pub returns-in_ok-drop_taken-in-Took-clause-told : goal.returns-in_ok-drop_taken-in-Took-clause-told
returns-in_ok-drop_taken-in-Took-clause-told c = λ event row.
    let takes = rw c.self.view_is at c.in_ok-drop_taken-in-Took.ensures.ok in
    let size : c.sizeq.result ≡ length c.args.ctx.now.queue = c.sizeq.ensures.value ∙ ap length c.queue.ensures in
    let within : c.in-Took.taken ≤ min (length c.args.ctx.now.queue) 65536 = omega (arith, size, c.min.ensures, c.from.ensures, c.if-min-from.false) in
    let one : c.args.outside.now ≡ Took c.in-Took.taken ∷ [] =
    one-answer c.args.outside.now _ _ c.in-len1.len_at_least c.in-len1.len_below c.answer-item.is c.in-Took.is in
    rw one (does (ReadyOutput event) (Took c.in-Took.taken ∷ []) row _ _ _ _ c.in_ok-drop_taken-in-Took.ensures.adds.caller
    (took-told event c.in-Took.taken row _ _ _ _ within takes))

pub returns-in_ok-give_up-in-Failed-clause-told : goal.returns-in_ok-give_up-in-Failed-clause-told
returns-in_ok-give_up-in-Failed-clause-told c = λ event row.
    let same = rw c.self.view_is at c.in_ok-give_up-in-Failed.ensures.program in
    let one : c.args.outside.now ≡ Failed ∷ [] =
    one-answer c.args.outside.now _ _ c.in-len1.len_at_least c.in-len1.len_below c.answer-item.is c.in-Failed.is in
    rw one (does (ReadyOutput event) (Failed ∷ []) row _ _ _ _ c.in_ok-give_up-in-Failed.ensures.adds.caller
    (offer-failed event row _ _ _ _ same c.in_ok-give_up-in-Failed.ensures.ok))

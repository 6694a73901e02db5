use Rattle.std.proofs.Common.{[], ◌∷◌, map, take}
use Rattle.std.proofs.lemmas.Result.{err_from_is_err_and}
use Rattle.run_output.specs.Writes.{save_write}
use Rattle.run_output.proofs.Written.{wrote-then, saves-more, saves-fault}
use Rattle.run_output.proofs.writing.write_saves.Goals as goal

pub loop-save-preserved : goal.loop-save-preserved
loop-save-preserved g c =
    let f = save_write c.args.report.now in
    rw (saves-more f c.args.saves.now c.loop-save.save-index c.save-item.result c.loop-save-test.true c.save-item.is)
    (wrote-then (map f (take c.loop-save.save-index c.args.saves.now)) (f c.save-item.result ∷ []) _ _ _ c.loop-save.invariant c.in_ok-write_save.ensures)

pub returns-in_err-write_save : goal.returns-in_err-write_save
returns-in_err-write_save g c =
    let p = err_from_is_err_and c.from_residual.result c.from_residual.ensures.1 in
    rw (p.1, p.2) (saves-fault (save_write c.args.report.now) c.args.saves.now c.loop-save.save-index c.save-item.result _ _ _ c.in_err-write_save.field-0.0 c.loop-save-test.true c.save-item.is
    c.loop-save.invariant c.in_err-write_save.ensures)

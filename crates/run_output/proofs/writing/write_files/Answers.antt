use Rattle.std.proofs.lemmas.Result.{err_from_is_err_and}
use Rattle.run_output.proofs.Journal.{saves-failed, journal-then, no-journal}
use Rattle.run_output.proofs.writing.write_files.Goals as goal

pub returns-in_err-write_saves : goal.returns-in_err-write_saves
returns-in_err-write_saves g c =
    let p = err_from_is_err_and c.from_residual.result c.from_residual.ensures.1 in
    rw (p.1, p.2) (saves-failed c.args.writes.now c.args.report.now c.as_slice.result.now _ _ c.in_err-write_saves.field-0.0 c.as_slice.ensures.value c.in_err-write_saves.ensures)

pub returns-in-Some : goal.returns-in-Some
returns-in-Some g c = journal-then c.args.writes.now c.args.report.now c.as_slice.result.now c.in-Some.name c.as_str.result.now _ _ _ c.write_journal.result c.as_slice.ensures.value
    c.in-Some.is c.as_str.ensures c.in_ok-write_saves.ensures c.write_journal.ensures

pub returns-in-None : goal.returns-in-None
returns-in-None g c = no-journal c.args.writes.now c.args.report.now c.as_slice.result.now _ _ c.as_slice.ensures.value c.in-None.is c.in_ok-write_saves.ensures

use Rattle.std.proofs.lemmas.Result.{err_from_is_err_and}
use Rattle.run_output.proofs.Written.{output-fault, output-then}
use Rattle.run_output.proofs.writing.write_output.Goals as goal

pub returns-in_err-write_files : goal.returns-in_err-write_files
returns-in_err-write_files g c =
    let p = err_from_is_err_and c.from_residual.result c.from_residual.ensures.1 in
    rw (p.1, p.2) (output-fault _ _ _ _ _ c.in_err-write_files.field-0.0 c.in_err-write_files.ensures)

pub returns : goal.returns
returns g c = output-then _ _ _ _ _ _ c.write_report.result c.in_ok-write_files.ensures c.write_report.ensures

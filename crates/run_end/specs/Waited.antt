-- What the steps of a process that wait for data show, once it has ended.
use Rattle.std.specs.Prelude.{List, ◌++◌}
use Rattle.port_model.specs.declared.mail.Mail.{Mail}
use Rattle.process_job.specs.Waits.{WaitsAreShown}
use Rattle.run_end.specs.Ran.{RanProcess, HasRunWhole}

-- each wait of a process that has ended is shown, also once it was given more mail
abbrev pub AllWaitsAreShown : Type 0
AllWaitsAreShown = (p : RanProcess) (more : List Mail) → HasRunWhole p → WaitsAreShown (p.mails ++ more) p.end.receipts p.steps p.files

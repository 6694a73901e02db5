-- What is written of a report.
use Rattle.std.specs.Prelude.{ℕ, List, [], ◌∷◌, ◌++◌, map, Option, Some, None, slice_get}
use Rattle.outside.specs.Log.{NamedBytes}
use Rattle.port_model.specs.declared.mail.Mail.{Mail}
use Rattle.port_history.specs.Counts.{saved_of}
use Rattle.script_plan.specs.declared.decl.SaveDecl.{SaveDecl}
use Rattle.journal_text.specs.Books.{BookView, journal_text}
use Rattle.run_report.specs.declared.report.ProcessRecord.{ProcessRecord}
use Rattle.run_report.specs.declared.report.Report.{Report}
use Rattle.script_input.specs.declared.input.RunWrites.{RunWrites}

-- the mail of a process, if there is one
abbrev pub mails_of : Option ProcessRecord → List Mail
mails_of None = []
mails_of (Some process) = process.mails

-- what a save writes: the data that its process got from its port
abbrev pub save_write : Report → SaveDecl → NamedBytes
save_write report save = record { name = save.file; bytes = saved_of save.port (mails_of (slice_get report.processes save.process)) }

-- the names of the processes and the ports, each with its history
abbrev pub book_of : Report → BookView
book_of report = record { names = map (λ p. p.name) report.processes; ports = report.ports }

-- what is written to the file for the journal
abbrev pub journal_write : Report → List ℕ → NamedBytes
journal_write report name = record { name = name; bytes = journal_text 1 (book_of report) }

-- the journal, where the script has a file for it
abbrev pub journal_writes : Report → Option (List ℕ) → List NamedBytes
journal_writes report None = []
journal_writes report (Some name) = journal_write report name ∷ []

-- the saves, in the order of the script, and then the journal
abbrev pub writes_of : RunWrites → Report → List NamedBytes
writes_of writes report = map (save_write report) writes.saves.items ++ journal_writes report writes.journal

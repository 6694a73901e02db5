-- All files: the saves, and the journal behind them.
use Rattle.std.proofs.Common.{◌≡◌, ℕ, List, [], ◌∷◌, ◌++◌, map, ap, sym, ◌∙◌, subst}
use Rattle.std.specs.Prelude.{Some, None, Result, Err}
use Rattle.std.proofs.lemmas.List.{append-nil}
use Rattle.script_input.specs.Files.{FilesView}
use Rattle.script_input.specs.declared.input.RunWrites.{RunWrites}
use Rattle.script_plan.specs.declared.decl.SaveDecl.{SaveDecl}
use Rattle.run_report.specs.declared.report.Report.{Report}
use Rattle.run_output.specs.declared.writing.OutputFault.{OutputFault}
use Rattle.run_output.specs.Ends.{WroteAll, FilesEnd}
use Rattle.run_output.specs.Writes.{save_write, journal_write, journal_writes, writes_of}
use Rattle.run_output.proofs.Written.{ends-then, fault-first}

-- a save failed
pub saves-failed : (writes : RunWrites) (report : Report) (saves : List SaveDecl) (old new : FilesView) (fault : OutputFault) → saves ≡ writes.saves.items
    → FilesEnd (map (save_write report) saves) old new (Err fault) → FilesEnd (writes_of writes report) old new (Err fault)
saves-failed writes report saves old new fault e failed =
    let all : map (save_write report) saves ++ journal_writes report writes.journal ≡ writes_of writes report =
    ap (λ saves. map (save_write report) saves ++ journal_writes report writes.journal) e in
    subst (λ all. FilesEnd all old new (Err fault)) all (fault-first (map (save_write report) saves) (journal_writes report writes.journal) old new fault failed)

-- the saves were written, and then the journal
pub journal-then : (writes : RunWrites) (report : Report) (saves : List SaveDecl) (name shown : List ℕ) (old mid new : FilesView) (r : Result (Unit {0}) OutputFault) → saves ≡ writes.saves.items
    → writes.journal ≡ Some name → shown ≡ name → WroteAll (map (save_write report) saves) old mid → FilesEnd (journal_write report shown ∷ []) mid new r → FilesEnd (writes_of writes report) old new r
journal-then writes report saves name shown old mid new r e journal same done last =
    let f = save_write report in
    let all : map f saves ++ journal_write report shown ∷ [] ≡ writes_of writes report =
    ap (λ name. map f saves ++ journal_write report name ∷ []) same ∙ ap (λ saves. map f saves ++ journal_write report name ∷ []) e
    ∙ ap (λ journal. map f writes.saves.items ++ journal_writes report journal) (sym journal) in
    subst (λ all. FilesEnd all old new r) all (ends-then (map f saves) (journal_write report shown ∷ []) old mid new r done last)

-- there is no file for a journal
pub no-journal : (writes : RunWrites) (report : Report) (saves : List SaveDecl) (old new : FilesView) → saves ≡ writes.saves.items → writes.journal ≡ None
    → WroteAll (map (save_write report) saves) old new → WroteAll (writes_of writes report) old new
no-journal writes report saves old new e journal done =
    let f = save_write report in
    let all : map f saves ≡ writes_of writes report =
    ap (map f) e ∙ sym (append-nil (map f writes.saves.items)) ∙ ap (λ journal. map f writes.saves.items ++ journal_writes report journal) (sym journal) in
    subst (λ all. WroteAll all old new) all done

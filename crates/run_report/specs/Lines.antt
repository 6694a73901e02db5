-- The lines of the commands that run nothing.
use Rattle.std.specs.Prelude.{ℕ, List, [], ◌∷◌, ◌++◌, length, codes, sum_by}
use Rattle.std.specs.Fmt.{decimal}
use Rattle.script_plan.specs.Plan.{Plan}
use Rattle.journal_text.specs.declared.book.PortReport.{PortReport}

-- how many processes, ports and steps a script has
unfoldable pub check_text_of : Plan → List ℕ
check_text_of plan =
    codes "ok processes=" ++ decimal (length plan.processes) ++ codes " ports=" ++ decimal (length plan.ports)
    ++ codes " steps=" ++ decimal (length plan.steps) ++ 10 ∷ []

-- how many rows the ports have together
abbrev pub rows_of : List PortReport → ℕ
rows_of ports = sum_by (λ port. length port.journal.rows) ports

-- how many ports a journal has, and how many rows
unfoldable pub replay_text_of : List PortReport → List ℕ
replay_text_of ports = codes "legal ports=" ++ decimal (length ports) ++ codes " rows=" ++ decimal (rows_of ports) ++ 10 ∷ []

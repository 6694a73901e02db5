-- Histories of owners, links and monitors.
use Rattle.std.specs.Prelude.{List, [], ◌∷◌, codes}
use Rattle.port_signal.specs.declared.answer.Answer.TheVariants.{True}
use Rattle.port_model.specs.declared.signal.Signal.TheVariants.{OwnerClose, Connect, OwnerConnect, Link, Monitor, Demonitor, Exit, Gone}
use Rattle.port_model.specs.declared.mail.Mail.{Mail}
use Rattle.port_model.specs.declared.mail.Mail.TheVariants as mail
use Rattle.port_model.specs.declared.row.Row.{Row}
use Rattle.worked_histories.specs.Rows.{handled, late, closed}

-- process 0 connects its port to process 1 and ends: the port stays open until process 1 ends
abbrev pub connected_port : List Row
connected_port = handled 0 0 (Connect 1) [] ∷ handled 0 1 (Gone (codes "normal")) [] ∷ handled 1 0 (Gone (codes "normal")) [] ∷ closed ∷ []

abbrev pub connected_mail : List Mail
connected_mail = mail.Reply 0 0 True ∷ []

-- process 1 monitors the port twice and takes the first monitor away; the owner closes the port
abbrev pub monitored_port : List Row
monitored_port =
    handled 1 0 (Monitor 0) [] ∷ handled 1 1 (Monitor 1) [] ∷ handled 1 2 (Demonitor 0) [] ∷ handled 0 0 OwnerClose [] ∷ closed ∷ []

abbrev pub watcher_mail : List Mail
watcher_mail = mail.Down 0 1 (codes "normal") ∷ []

-- the owner is told of the end as it is linked, and then that its close is done
abbrev pub closer_mail : List Mail
closer_mail = mail.Exit 0 (codes "normal") ∷ mail.Closed 0 ∷ []

-- an owner form of another process is a bad signal, which closes nothing
abbrev pub bad_close : List Row
bad_close = handled 1 0 OwnerClose [] ∷ []

abbrev pub bad_close_mail : List Mail
bad_close_mail = mail.Exit 0 (codes "badsig") ∷ []

-- a linked process exits as it should, which closes nothing; then it is killed, and `kill` is told as `killed`
abbrev pub killed_port : List Row
killed_port = handled 1 0 Link [] ∷ handled 1 1 (Exit (codes "normal")) [] ∷ handled 1 2 (Exit (codes "kill")) [] ∷ closed ∷ late 0 0 Link ∷ []

abbrev pub killed_mail : List Mail
killed_mail = mail.Exit 0 (codes "killed") ∷ mail.Exit 0 (codes "noproc") ∷ []

-- a process that has ended can't be the owner
abbrev pub ended_owner : List Row
ended_owner = handled 1 0 (Gone (codes "normal")) [] ∷ handled 0 0 (OwnerConnect 1) [] ∷ []

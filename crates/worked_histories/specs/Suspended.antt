-- Histories of busy ports, suspended senders and forced commands.
use Rattle.std.specs.Prelude.{List, [], ◌∷◌, ◌++◌, true, false, codes}
use Rattle.io_vector.specs.declared.flag.Flag.TheVariants.{Plain}
use Rattle.port_model.specs.declared.signal.Sender.TheVariants.{Process}
use Rattle.port_model.specs.declared.signal.Signal.TheVariants.{Close}
use Rattle.port_model.specs.declared.effect.Effect.TheVariants.{Message, Busy, Reply}
use Rattle.port_model.specs.declared.mail.Mail.{Mail}
use Rattle.port_model.specs.declared.mail.Mail.TheVariants as mail
use Rattle.port_model.specs.declared.row.Row.{Row}
use Rattle.port_model.specs.declared.row.Row.TheVariants.{Handled, Late, Listed, Resumed}
use Rattle.driver_model.specs.Calls.{Valve}
use Rattle.port_history.specs.Opening.{Opening}
use Rattle.worked_histories.specs.Rows.{port_of, suspending, forced, command, control, handled, busy, free, closed}

abbrev pub valve_port : Opening
valve_port = port_of (Valve false)

abbrev pub soft_port : Opening
soft_port = port_of (Valve true)

abbrev pub sets_busy : Row
sets_busy = handled 1 0 (control 1) (Busy true ∷ Reply [] ∷ [])

abbrev pub frees : Row
frees = handled 1 1 (control 2) (Busy false ∷ Reply [] ∷ [])

abbrev pub is_listed : Row
is_listed = Listed (Process 0) 0

abbrev pub is_resumed : Row
is_resumed = Resumed (Process 0) 0 1

abbrev pub suspended_command : Row
suspended_command = Handled (Process 0) 0 (suspending (command (codes "x"))) [] (Message Plain (codes "x") ∷ [])

abbrev pub closing : List Row
closing = handled 0 1 Close [] ∷ closed ∷ []

-- process 1 sets a valve busy, a command suspends its sender, process 1 frees the valve, and the sender is resumed with the word 1
abbrev pub suspended_sender : List Row
suspended_sender = sets_busy ∷ busy ∷ is_listed ∷ frees ∷ free ∷ is_resumed ∷ suspended_command ∷ []

-- what the sender gets: its resume, which says that the port is open, and its data
abbrev pub suspended_mail : List Mail
suspended_mail = mail.Resume 0 0 1 false ∷ mail.Message 0 Plain (codes "x") ∷ []

abbrev pub resumed_before_listed : List Row
resumed_before_listed = sets_busy ∷ busy ∷ is_resumed ∷ frees ∷ free ∷ is_listed ∷ suspended_command ∷ []

abbrev pub resumed_while_busy : List Row
resumed_while_busy = sets_busy ∷ busy ∷ is_listed ∷ is_resumed ∷ []

-- an odd period, 2^40 and one byte
abbrev pub resumed_by_a_busy_queue : List Row
resumed_by_a_busy_queue = sets_busy ∷ busy ∷ is_listed ∷ frees ∷ free ∷ Resumed (Process 0) 0 1099511627777 ∷ []

abbrev pub resumed_for_another : List Row
resumed_for_another = sets_busy ∷ busy ∷ is_listed ∷ frees ∷ free ∷ Resumed (Process 0) 1 1 ∷ []

abbrev pub resumed_twice : List Row
resumed_twice = suspended_sender ++ is_resumed ∷ []

abbrev pub never_listed : List Row
never_listed = sets_busy ∷ busy ∷ frees ∷ free ∷ suspended_command ∷ []

abbrev pub listed_behind_its_command : List Row
listed_behind_its_command = handled 0 0 (command (codes "x")) (Message Plain (codes "x") ∷ []) ∷ is_listed ∷ []

abbrev pub handled_while_busy : List Row
handled_while_busy = sets_busy ∷ busy ∷ handled 0 0 (command (codes "x")) (Message Plain (codes "x") ∷ []) ∷ []

abbrev pub busy_without_its_mark : List Row
busy_without_its_mark = sets_busy ∷ is_listed ∷ []

-- a forced command is handled while a valve_soft is busy
abbrev pub forced_command : List Row
forced_command =
    sets_busy ∷ busy ∷ Handled (Process 0) 0 (forced (command (codes "x"))) [] (Message Plain (codes "x") ∷ []) ∷ frees ∷ free ∷ []

-- a listed sender is resumed as the port closes, though it is busy, and its command is late
abbrev pub resumed_by_the_close : List Row
resumed_by_the_close =
    sets_busy ∷ busy ∷ is_listed ∷ handled 1 1 Close [] ∷ closed ∷ is_resumed ∷ Late (Process 0) 0 (suspending (command (codes "x"))) ∷ []

abbrev pub left_listed : List Row
left_listed = sets_busy ∷ busy ∷ is_listed ∷ handled 1 1 Close [] ∷ closed ∷ Late (Process 0) 0 (suspending (command (codes "x"))) ∷ []

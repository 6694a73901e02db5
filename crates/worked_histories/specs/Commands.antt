-- Histories of commands, closes and what is kept for later.
use Rattle.std.specs.Prelude.{List, [], ◌∷◌, ◌++◌, codes}
use Rattle.io_vector.specs.declared.flag.Flag.TheVariants.{Plain}
use Rattle.port_signal.specs.declared.answer.Answer.TheVariants.{True, Badarg}
use Rattle.port_model.specs.declared.signal.Signal.TheVariants.{Close}
use Rattle.port_model.specs.declared.effect.Effect.{Effect}
use Rattle.port_model.specs.declared.effect.Effect.TheVariants.{Message, ReplyBadarg}
use Rattle.port_model.specs.declared.mail.Mail.{Mail}
use Rattle.port_model.specs.declared.mail.Mail.TheVariants as mail
use Rattle.port_model.specs.declared.row.Row.{Row}
use Rattle.driver_model.specs.Calls.{Echo, Store}
use Rattle.port_history.specs.Opening.{Opening}
use Rattle.worked_histories.specs.Rows.{port_of, command, control, handled, late, busy, closed}

abbrev pub echo_port : Opening
echo_port = port_of Echo

abbrev pub data_of : List Effect
data_of = Message Plain (codes "abc") ∷ []

abbrev pub first_command : Row
first_command = handled 0 0 (command (codes "abc")) data_of

abbrev pub second_command : Row
second_command = handled 0 1 (command (codes "d")) (Message Plain (codes "d") ∷ [])

abbrev pub close : Row
close = handled 0 2 Close []

-- two commands and a close on an echo port
abbrev pub two_commands : List Row
two_commands = first_command ∷ second_command ∷ close ∷ closed ∷ []

-- what the owner gets of them: it is linked, so it is told of the end too
abbrev pub two_commands_mail : List Mail
two_commands_mail =
    mail.Message 0 Plain (codes "abc") ∷ mail.Message 0 Plain (codes "d") ∷ mail.Reply 0 2 True ∷ mail.Exit 0 (codes "normal") ∷ []

abbrev pub exchanged_commands : List Row
exchanged_commands = second_command ∷ first_command ∷ close ∷ closed ∷ []

abbrev pub repeated_data : List Row
repeated_data = handled 0 0 (command (codes "abc")) (data_of ++ data_of) ∷ []

abbrev pub close_without_its_mark : List Row
close_without_its_mark = first_command ∷ second_command ∷ close ∷ []

abbrev pub mark_of_nothing : List Row
mark_of_nothing = first_command ∷ busy ∷ []

abbrev pub two_closes : List Row
two_closes = two_commands ++ handled 0 3 Close [] ∷ closed ∷ []

abbrev pub late_while_open : List Row
late_while_open = first_command ∷ late 0 1 Close ∷ []

-- process 1 closes the port, and a control of the owner comes late
abbrev pub late_control : List Row
late_control = handled 1 0 Close [] ∷ closed ∷ late 0 0 (control 1) ∷ []

abbrev pub late_control_mail : List Mail
late_control_mail = mail.Exit 0 (codes "normal") ∷ mail.Reply 0 0 Badarg ∷ []

-- a control that isn't served
abbrev pub unserved_control : List Row
unserved_control = handled 1 0 (control 9) (ReplyBadarg ∷ []) ∷ []

abbrev pub store_port : Opening
store_port = port_of Store

-- a store that holds bytes is closed: they are flushed in the closing row
abbrev pub flushed_store : List Row
flushed_store = handled 0 0 (command (codes "ab")) [] ∷ handled 0 1 Close (Message Plain (codes "ab") ∷ []) ∷ closed ∷ []

abbrev pub store_without_its_flush : List Row
store_without_its_flush = handled 0 0 (command (codes "ab")) [] ∷ handled 0 1 Close [] ∷ closed ∷ []

-- What a report counts in the rows of a port and in the mail of a process.
use Rattle.std.specs.Prelude.{ℕ, ◌==◌, List, [], ◌∷◌, ◌++◌, length, Bool, true, false, Option, if◌then◌else◌}
use Rattle.std.specs.List.{count_by, sum_by, flat_map, range_with_len}
use Rattle.std.specs.Option.{option_map}
use Rattle.async_jobs.specs.io_vector.declared.flag.Flag.{Flag}
use Rattle.async_jobs.specs.io_vector.declared.flag.Flag.TheVariants.{Eol}
use Rattle.driver_model.specs.port_signal.Reasons.{told_reason}
use Rattle.driver_model.specs.port_model.Signals.{is_command}
use Rattle.driver_model.specs.port_model.declared.row.Row.{Row}
use Rattle.driver_model.specs.port_model.declared.row.Row.TheVariants.{Late}
use Rattle.driver_model.specs.port_model.declared.mail.Mail.{Mail}
use Rattle.driver_model.specs.port_model.declared.mail.Mail.TheVariants.{Message}
use Rattle.driver_model.specs.Calls.{Callback, DriverCall, Outputv}
use Rattle.port_history.specs.Opening.{Opening}
use Rattle.port_history.specs.State.{state}

-- the data with which a callback was called, where it was `outputv`
abbrev pub with_data : Callback → List (List ℕ) → List (List ℕ)
with_data (Outputv bytes) others = bytes ∷ others
with_data callback others = others

-- the data of the commands that called the driver, by all calls
abbrev pub data_of_calls : List DriverCall → List (List ℕ)
data_of_calls [] = []
data_of_calls (call ∷ earlier) = with_data call.callback (data_of_calls earlier)

-- how many commands called the driver, and how many bytes they have together
abbrev pub handled_commands : Opening → List Row → ℕ
handled_commands port history = length (data_of_calls (state port history).calls)

abbrev pub handled_bytes : Opening → List Row → ℕ
handled_bytes port history = sum_by length (data_of_calls (state port history).calls)

-- a command, in either form, that came when it couldn't be handled any more
abbrev pub is_late_command : Row → Bool
is_late_command (Late from seq task) = is_command task.signal
is_late_command row = false

abbrev pub late_commands : List Row → ℕ
late_commands rows = count_by is_late_command rows

-- the reason for which the port closed, as linked processes were told it: none where no row closed it
abbrev pub end_reason : Opening → List Row → Option (List ℕ)
end_reason port history = option_map told_reason (state port history).reason

-- the mail is data of a port
abbrev pub is_data : Mail → Bool
is_data (Message port flag bytes) = true
is_data mail = false

abbrev pub data_messages : List Mail → ℕ
data_messages mails = count_by is_data mails

-- what is written after the bytes of a data message: byte 10 where a line ended
abbrev pub line_end : Flag → List ℕ
line_end Eol = 10 ∷ []
line_end flag = []

-- what is written of a mail, where the data of a port is saved
abbrev pub saved_mail : ℕ → Mail → List ℕ
saved_mail port (Message from flag bytes) = if from == port then bytes ++ line_end flag else []
saved_mail port mail = []

-- the data of a port, in the order in which it came, and the data of the first port, then of the second, and so on
abbrev pub saved_of : ℕ → List Mail → List ℕ
saved_of port mails = flat_map (saved_mail port) mails

abbrev pub saved_data : ℕ → List Mail → List ℕ
saved_data ports mails = flat_map (λ port. saved_of port mails) (range_with_len 0 ports)

-- What a step comes to.
use Rattle.std.specs.Prelude.{◌≡◌, ◌⊎◌, ℕ, ◌<◌, ◌≤◌, true, List, [], ◌∷◌, map, Result, Ok, Err}
use Rattle.process_end.specs.process_receipts.declared.how.How.{How}
use Rattle.process_end.specs.process_receipts.declared.how.How.TheVariants as how
use Rattle.process_end.specs.process_receipts.Asks.{Asked, asked}
use Rattle.process_end.specs.port_lanes.Parcels.{names_below}
use Rattle.port_model.specs.declared.mail.Mail.{Mail}
use Rattle.port_words.specs.busy.Known.{SendKnown}
use Rattle.process_end.specs.declared.answers.Ask.{Ask}
use Rattle.process_end.specs.declared.answers.Ask.TheVariants as ask
use Rattle.process_end.specs.Commanded.{signal_of}
use Rattle.script_plan.specs.declared.step.Act.{Act}
use Rattle.script_plan.specs.declared.step.Act.TheVariants.{Command, File, Send, Control, Call, Close, Connect, SendClose, SendConnect, Link, Unlink, Monitor, Demonitor, Exit, Expect, Bytes, Die}
use Rattle.process_job.specs.declared.action.StepAction.{StepAction}
use Rattle.process_job.specs.declared.action.StepAction.TheVariants as action
use Rattle.process_job.specs.declared.action.CommandForm.{CommandForm}
use Rattle.process_job.specs.declared.action.FileCommands.{FileCommands}
use Rattle.process_job.specs.declared.action.PlainCall.{PlainCall}
use Rattle.process_job.specs.declared.log.DataWanted.TheVariants as wanted
use Rattle.process_job.specs.Asks.{command_ask, how_of, pieces}
use Rattle.process_job.specs.Counts.{HasData}
use Rattle.process_job.specs.Waits.{FoundClosed}

abbrev pub form_of : ℕ → ℕ → How → CommandForm
form_of line port how = record { line = line; port = port; how = how }

abbrev pub signal_action : ℕ → ℕ → Ask → StepAction
signal_action line port ask = action.Signal (record { line = line; port = port; ask = ask })

-- what a step comes to, or the reason for which it ends the process; `content` is that of its file
abbrev pub action_of : ℕ → Act → List ℕ → Result StepAction (List ℕ)
action_of line (Command port bytes force nosuspend) content = Ok (action.Command (form_of line port (how_of force nosuspend)) bytes)
action_of line (File port size file force nosuspend) content = Ok (action.File (record { form = form_of line port (how_of force nosuspend); size = size; content = content }))
action_of line (Send port bytes) content = Ok (action.Command (form_of line port how.Owner) bytes)
action_of line (Control port op bytes) content = Ok (signal_action line port (ask.Control op bytes))
action_of line (Call port op bytes) content = Ok (signal_action line port (ask.Call op bytes))
action_of line (Close port) content = Ok (signal_action line port ask.Close)
action_of line (Connect port to) content = Ok (signal_action line port (ask.Connect to))
action_of line (SendClose port) content = Ok (signal_action line port ask.OwnerClose)
action_of line (SendConnect port to) content = Ok (signal_action line port (ask.OwnerConnect to))
action_of line (Link port) content = Ok (signal_action line port ask.Link)
action_of line (Unlink port) content = Ok (signal_action line port ask.Unlink)
action_of line (Monitor port number) content = Ok (signal_action line port (ask.Monitor number))
action_of line (Demonitor port number) content = Ok (signal_action line port (ask.Demonitor number))
action_of line (Exit port reason) content = Ok (signal_action line port (ask.Exit reason))
action_of line (Expect port count) content = Ok (action.Wait port (wanted.Messages count))
action_of line (Bytes port count) content = Ok (action.Wait port (wanted.Bytes count))
action_of line (Die reason) content = Err reason

abbrev pub ask_by : CommandForm → List ℕ → Asked
ask_by form bytes = command_ask form.line form.port form.how bytes

abbrev pub ask_of : PlainCall → Asked
ask_of call = asked call.line call.port (signal_of call.ask) how.Plain

abbrev pub file_asks : FileCommands → List Asked
file_asks file = map (ask_by file.form) (pieces file.size file.content)

-- the calls of an action, in order
abbrev pub asks_by : StepAction → List Asked
asks_by (action.Command form bytes) = ask_by form bytes ∷ []
asks_by (action.File file) = file_asks file
asks_by (action.Signal call) = ask_of call ∷ []
asks_by (action.Wait port wanted) = []

abbrev pub EndedWait : StepAction → List Mail → List SendKnown → Type 0
EndedWait (action.Wait port wanted) mails seats = HasData port wanted mails ⊎ FoundClosed port seats
EndedWait _ mails seats = Unit {0}

-- what an action names is among so many processes and ports
abbrev pub ActionWithin : ℕ → ℕ → StepAction → Type 0
ActionWithin processes ports (action.Command form bytes) = form.port < ports
ActionWithin processes ports (action.File file) = (file.form.port < ports) × (1 ≤ file.size)
ActionWithin processes ports (action.Signal call) = (call.port < ports) × (names_below processes (signal_of call.ask) ≡ true)
ActionWithin processes ports (action.Wait port wanted) = port < ports

-- What the history of a port tells that sends each command back, where its owner sends it commands and then closes it or ends, and its other processes send it their ends.
use Rattle.std.specs.Prelude.{◌≡◌, List, true}
use Rattle.std.specs.List.{flat_map}
use Rattle.port_body.specs.LanePort.{rows_from}
use Rattle.port_history.specs.Counts.{late_commands, saved_of}
use Rattle.port_history.specs.Lawful.{IsFinished, Lawful}
use Rattle.port_history.specs.Mail.{mails}
use Rattle.port_history.specs.Opening.{Opening}
use Rattle.port_history.specs.port_model.declared.row.Row.{Row}
use Rattle.port_history.specs.port_model.declared.signal.Sender.TheVariants.{Process}
use Rattle.port_history.specs.port_model.Tasks.{TaskView}
use Rattle.echoed_history.specs.Commands.{AreCommands, ClosesBehind, OthersEnd, echoes, task_data}

-- what is saved of the port for its owner is the data of the owner's commands, in their order, and none came late
pub record SendsBack (port : Opening) (history : List Row) : Type 0 where
  pub saved : saved_of port.number (mails port port.owner history) ≡ flat_map task_data (rows_from (Process port.owner) history)
  pub none_late : late_commands history ≡ 0

-- the owner's commands came back, whether it closed the port behind them, ended, or did neither
abbrev pub CommandsComeBack : Type 0
CommandsComeBack = (port : Opening) (commands closings : List TaskView) (history : List Row) → echoes port.kind ≡ true → Lawful port history
    → ClosesBehind port.owner commands closings history → OthersEnd port.owner history → SendsBack port history

-- as long as it did neither, the history isn't finished
abbrev pub NotFinishedBefore : Type 0
NotFinishedBefore = (port : Opening) (history : List Row) → echoes port.kind ≡ true → Lawful port history → AreCommands (rows_from (Process port.owner) history) → OthersEnd port.owner history
    → IsFinished port history → ⊥

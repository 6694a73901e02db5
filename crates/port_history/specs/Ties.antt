-- The owner of a port, the processes that are linked to it or have ended, its monitors, and why a signal closes it.
use Rattle.std.specs.Prelude.{ℕ, ◌==◌, List, [], ◌∷◌, Bool, ◌&&◌, not, nat_lt, if◌then◌else◌, Option, Some, None, codes}
use Rattle.driver_model.specs.port_signal.declared.monitor.Monitor.{Monitor as MonitorEntry}
use Rattle.driver_model.specs.port_signal.Links.{has, with_process, without_process, with_monitor, without_monitor, without_watcher, exit_closes, end_closes}
use Rattle.driver_model.specs.port_model.declared.signal.Sender.{Sender}
use Rattle.driver_model.specs.port_model.declared.signal.Sender.TheVariants.{Process}
use Rattle.driver_model.specs.port_model.declared.signal.Signal.{Signal}
use Rattle.driver_model.specs.port_model.declared.signal.Signal.TheVariants.{Close, OwnerClose, Connect, OwnerConnect, Link, Unlink, Monitor, Demonitor, Exit, Gone}
use Rattle.driver_model.specs.port_model.declared.effect.Effect.{Effect}
use Rattle.driver_model.specs.port_model.declared.effect.Effect.TheVariants.{Watch, Fail}
use Rattle.port_history.specs.Opening.{Opening}

-- the linked processes and those that have ended in rising order, the monitors by process and number
pub record Ties : Type 0 where
  pub owner : ℕ
  pub linked : List ℕ
  pub monitors : List MonitorEntry
  pub ended : List ℕ

-- the opener is the owner, and is linked
abbrev pub opened : ℕ → Ties
opened owner = record { owner = owner; linked = owner ∷ []; monitors = []; ended = [] }

-- there is such a process, and it hasn't ended
abbrev pub may_own : Opening → Ties → ℕ → Bool
may_own port ties process = nat_lt process port.processes && not (has process ties.ended)

abbrev pub with_owner : ℕ → Ties → Ties
with_owner process ties = record ties { owner = process; linked = with_process process ties.linked }

abbrev pub monitor_of : ℕ → ℕ → MonitorEntry
monitor_of process number = record { process = process; number = number }

-- a process has ended: it has no link and no monitor any more
abbrev pub without : ℕ → Ties → Ties
without process ties = record ties {
  linked = without_process process ties.linked;
  monitors = without_watcher process ties.monitors;
  ended = with_process process ties.ended;
}

-- the ties after a handled signal of a process that doesn't close the port
abbrev pub tied_by : Opening → Ties → ℕ → Signal → Ties
tied_by port ties from (Connect process) = if may_own port ties process then with_owner process ties else ties
tied_by port ties from (OwnerConnect process) = if (from == ties.owner) && may_own port ties process then with_owner process ties else ties
tied_by port ties from Link = record ties { linked = with_process from ties.linked }
tied_by port ties from Unlink = record ties { linked = without_process from ties.linked }
tied_by port ties from (Monitor number) = record ties { monitors = with_monitor (monitor_of from number) ties.monitors }
tied_by port ties from (Demonitor number) = record ties { monitors = without_monitor (monitor_of from number) ties.monitors }
tied_by port ties from (Gone reason) = without from ties
tied_by port ties from signal = ties

-- the same of any sender: only processes send signals that tie
abbrev pub tied : Opening → Ties → Sender → Signal → Ties
tied port ties (Process process) signal = tied_by port ties process signal
tied port ties from signal = ties

-- the ties after a late signal: that a process has ended is noted
abbrev pub tied_late : Ties → Sender → Signal → Ties
tied_late ties (Process process) (Gone reason) = without process ties
tied_late ties from signal = ties

-- a port that closes has no link and no monitor any more
abbrev pub untied : Ties → Ties
untied ties = record ties { linked = []; monitors = [] }

-- the reason for which a signal of a process closes an open port, if it does
abbrev pub closes_for : Ties → ℕ → Signal → Option (List ℕ)
closes_for ties from Close = Some (codes "normal")
closes_for ties from OwnerClose = if from == ties.owner then Some (codes "normal") else None
closes_for ties from (Exit reason) = if exit_closes ties.owner from reason then Some reason else None
closes_for ties from (Gone reason) = if end_closes ties.owner ties.linked from reason then Some reason else None
closes_for ties from signal = None

abbrev pub signal_reason : Ties → Sender → Signal → Option (List ℕ)
signal_reason ties (Process process) signal = closes_for ties process signal
signal_reason ties from signal = None

-- the reason of the first failure among these effects
abbrev pub failure : List Effect → Option (List ℕ)
failure [] = None
failure (Fail reason ∷ effects) = Some reason
failure (effect ∷ effects) = failure effects

-- with the processes that these effects watch
abbrev pub watched_by : List Effect → List ℕ → List ℕ
watched_by [] watched = watched
watched_by (Watch process ∷ effects) watched = watched_by effects (with_process process watched)
watched_by (effect ∷ effects) watched = watched_by effects watched

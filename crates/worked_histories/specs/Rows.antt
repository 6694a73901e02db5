-- Short words for the rows of the worked histories. Rows are written oldest first.
use Rattle.std.specs.Prelude.{ℕ, List, [], ◌∷◌, true, false, Option, Some, reverse}
use Rattle.io_vector.specs.declared.flag.Flag.TheVariants.{Plain}
use Rattle.port_config.specs.declared.config.Config.{Config}
use Rattle.port_config.specs.Config.{plain}
use Rattle.port_signal.specs.declared.outside.Outside.{Outside}
use Rattle.port_signal.specs.declared.mark.MarkKind.TheVariants.{Busy as BusyMark, Free as FreeMark, Closed as ClosedMark}
use Rattle.port_model.specs.declared.event.Dir.{Dir}
use Rattle.port_model.specs.declared.signal.Sender.TheVariants.{Process, Poller, Worker}
use Rattle.port_model.specs.declared.signal.Signal.{Signal}
use Rattle.port_model.specs.declared.signal.Signal.TheVariants.{Command, Control, Ready, Dropped, AsyncDone}
use Rattle.port_model.specs.declared.effect.Effect.{Effect}
use Rattle.port_model.specs.declared.effect.Effect.TheVariants.{Message}
use Rattle.port_model.specs.declared.row.Row.{Row}
use Rattle.port_model.specs.declared.row.Row.TheVariants.{Handled, Late, Mark}
use Rattle.port_model.specs.Tasks.{TaskView}
use Rattle.driver_model.specs.Calls.{Kind}
use Rattle.port_history.specs.Opening.{Opening}
use Rattle.port_history.specs.Lawful.{Broken, verdict}

-- port 0 of process 0, one of two, with a driver of this kind and this config
abbrev pub port_with : Kind → Config → ℕ → ℕ → Opening
port_with kind config read write = record { number = 0; processes = 2; kind = kind; config = config; owner = 0; read = read; write = write }

abbrev pub port_of : Kind → Opening
port_of kind = port_with kind plain 0 0

abbrev pub task : Signal → TaskView
task signal = record { signal = signal; suspends = false; forced = false }

-- a command that suspends its sender
abbrev pub suspending : Signal → TaskView
suspending signal = record { signal = signal; suspends = true; forced = false }

abbrev pub forced : Signal → TaskView
forced signal = record { signal = signal; suspends = false; forced = true }

abbrev pub command : List ℕ → Signal
command bytes = Command (bytes ∷ [])

abbrev pub control : ℕ → Signal
control op = Control op []

-- a handled signal of a process, for which the outside was asked nothing
abbrev pub handled : ℕ → ℕ → Signal → List Effect → Row
handled process seq signal effects = Handled (Process process) seq (task signal) [] effects

abbrev pub late : ℕ → ℕ → Signal → Row
late process seq signal = Late (Process process) seq (task signal)

-- a ready event, with what the outside answered
abbrev pub ready : ℕ → ℕ → Dir → List Outside → List Effect → Row
ready seq event dir answers effects = Handled Poller seq (task (Ready event dir)) answers effects

abbrev pub dropped : ℕ → ℕ → Row
dropped seq event = Handled Poller seq (task (Dropped event)) [] []

-- a job that a worker has done
abbrev pub done : ℕ → ℕ → ℕ → List ℕ → Row
done worker seq number output = Handled (Worker worker) seq (task (AsyncDone number output)) [] (Message Plain output ∷ [])

abbrev pub late_done : ℕ → ℕ → ℕ → List ℕ → Row
late_done worker seq number output = Late (Worker worker) seq (task (AsyncDone number output))

abbrev pub busy : Row
busy = Mark BusyMark

abbrev pub free : Row
free = Mark FreeMark

abbrev pub closed : Row
closed = Mark ClosedMark

-- where these rows first break a law
abbrev pub judged : Opening → List Row → Option Broken
judged port rows = verdict port (reverse rows)

-- they break this law first, at this row
abbrev pub breaks : ℕ → ℕ → Option Broken
breaks law row = Some (record { row = row; law = law })

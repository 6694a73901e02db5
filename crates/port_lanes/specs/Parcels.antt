-- What lies in a port's lane, and which end may put it.
use Rattle.std.specs.Prelude.{◌≡◌, ℕ, Bool, true, nat_lt, Option, IfSome, is_some}
use Rattle.port_words.specs.busy.Known.{WeightKnown}
use Rattle.port_history.specs.port_model.declared.signal.Signal.{Signal}
use Rattle.port_history.specs.port_model.declared.signal.Signal.TheVariants.{Connect, OwnerConnect}
use Rattle.port_history.specs.port_model.Signals.{data_size, is_command}
use Rattle.port_history.specs.port_model.Tasks.{TaskView}
use Rattle.port_history.specs.Laws.{may_send}
use Rattle.port_lanes.specs.Keys.{Key, sender_at}

pub record ParcelView : Type 0 where
  pub task : TaskView
  pub weight : Option WeightKnown

-- a command has a weight, of the size of its data, and nothing else has one
pub record IsParcel (parcel : ParcelView) : Type 0 where
  pub weighed : is_some parcel.weight ≡ is_command parcel.task.signal
  pub size : IfSome parcel.weight (λ w. w.name.size ≡ data_size parcel.task.signal)

-- the process that a signal names is one of so many
abbrev pub names_below : ℕ → Signal → Bool
names_below processes (Connect process) = nat_lt process processes
names_below processes (OwnerConnect process) = nat_lt process processes
names_below processes signal = true

-- the sender with this end may send the signal, which names a process that is there, and the weight is of the port's table
pub record FitsLane (key : Key) (number : ℕ) (parcel : ParcelView) : Type 0 where
  pub sender : may_send (sender_at key number) parcel.task.signal ≡ true
  pub named : names_below key.processes parcel.task.signal ≡ true
  pub table : IfSome parcel.weight (λ w. w.table ≡ key.table)

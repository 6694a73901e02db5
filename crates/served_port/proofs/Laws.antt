-- A task's row keeps the laws where it is handled exactly as the port's state says.
use Rattle.std.proofs.Common.{◌≡◌, ℕ, Bool, true, false, ◌&&◌, List, refl, ap}
use Rattle.std.specs.Prelude.{not, if◌then◌else◌}
use Rattle.port_model.specs.port_signal.declared.outside.Outside.{Outside}
use Rattle.port_model.specs.declared.effect.Effect.{Effect}
use Rattle.port_model.specs.declared.row.Row.TheVariants.{Handled, Late}
use Rattle.port_model.specs.declared.signal.Sender.{Sender}
use Rattle.port_model.specs.declared.signal.Sender.TheVariants.{Process, Poller, Worker, Timer}
use Rattle.port_model.specs.declared.signal.Signal.{Signal}
use Rattle.port_model.specs.declared.signal.Signal.TheVariants as signal
use Rattle.port_model.specs.Tasks.{TaskView}
use Rattle.port_events.specs.port_history.Events.{event_of}
use Rattle.port_events.specs.port_history.Jobs.{is_submitted}
use Rattle.port_events.specs.port_history.Laws.{may_send, is_ready, is_served, has_effects, keeps_lifetime}
use Rattle.port_events.specs.port_history.Opening.{Opening, taken_of}
use Rattle.port_events.specs.port_history.State.{State}
use Rattle.served_port.specs.Outcomes.{is_handled, is_told_in, KeepsServed}

told : (b h : Bool) → b ≡ h → (if b then h else not h) ≡ true
told true true e = refl
told true false e = absurd cc
told false true e = absurd cc
told false false e = refl

ready-kept : (s : State) (from : Sender) (sig : Signal) (h : Bool) → may_send from sig ≡ true → is_handled s from sig ≡ h → is_served s h sig ≡ true
ready-kept s from (signal.Command payload) h may e = refl
ready-kept s from (signal.OwnerCommand payload) h may e = refl
ready-kept s from (signal.Control op bytes) h may e = refl
ready-kept s from (signal.Call op bytes) h may e = refl
ready-kept s from signal.Close h may e = refl
ready-kept s from signal.OwnerClose h may e = refl
ready-kept s from (signal.Connect process) h may e = refl
ready-kept s from (signal.OwnerConnect process) h may e = refl
ready-kept s from signal.Link h may e = refl
ready-kept s from signal.Unlink h may e = refl
ready-kept s from (signal.Monitor number) h may e = refl
ready-kept s from (signal.Demonitor number) h may e = refl
ready-kept s from (signal.Exit reason) h may e = refl
ready-kept s from (signal.Gone reason) h may e = refl
ready-kept s (Process process) (signal.Ready event dir) h may e = absurd cc
ready-kept s Poller (signal.Ready event dir) h may e = told (is_ready s event dir) h e
ready-kept s (Worker worker) (signal.Ready event dir) h may e = absurd cc
ready-kept s Timer (signal.Ready event dir) h may e = absurd cc
ready-kept s (Process process) (signal.Dropped event) h may e = absurd cc
ready-kept s Poller (signal.Dropped event) h may e = told (event_of event s.events).waits h e
ready-kept s (Worker worker) (signal.Dropped event) h may e = absurd cc
ready-kept s Timer (signal.Dropped event) h may e = absurd cc
ready-kept s from (signal.AsyncDone number output) h may e = refl

jobs-kept : (s : State) (from : Sender) (sig : Signal) (h : Bool) → may_send from sig ≡ true → is_handled s from sig ≡ h → is_told_in s h sig ≡ true
jobs-kept s from (signal.Command payload) h may e = refl
jobs-kept s from (signal.OwnerCommand payload) h may e = refl
jobs-kept s from (signal.Control op bytes) h may e = refl
jobs-kept s from (signal.Call op bytes) h may e = refl
jobs-kept s from signal.Close h may e = refl
jobs-kept s from signal.OwnerClose h may e = refl
jobs-kept s from (signal.Connect process) h may e = refl
jobs-kept s from (signal.OwnerConnect process) h may e = refl
jobs-kept s from signal.Link h may e = refl
jobs-kept s from signal.Unlink h may e = refl
jobs-kept s from (signal.Monitor number) h may e = refl
jobs-kept s from (signal.Demonitor number) h may e = refl
jobs-kept s from (signal.Exit reason) h may e = refl
jobs-kept s from (signal.Gone reason) h may e = refl
jobs-kept s from (signal.Ready event dir) h may e = refl
jobs-kept s from (signal.Dropped event) h may e = refl
jobs-kept s (Process process) (signal.AsyncDone number output) h may e = absurd cc
jobs-kept s Poller (signal.AsyncDone number output) h may e = absurd cc
jobs-kept s (Worker worker) (signal.AsyncDone number output) h may e = told (is_submitted number s.jobs && not s.stopped) h e
jobs-kept s Timer (signal.AsyncDone number output) h may e = absurd cc

handled-lifetime : (s : State) (from : Sender) (seq : ℕ) (task : TaskView) (outside : List Outside) (effects : List Effect) → is_handled s from task.signal ≡ true
    → keeps_lifetime s (Handled from seq task outside effects) ≡ true
handled-lifetime s (Process process) seq task outside effects e = e
handled-lifetime s Poller seq task outside effects e = refl
handled-lifetime s (Worker worker) seq task outside effects e = refl
handled-lifetime s Timer seq task outside effects e = refl

late-lifetime : (s : State) (from : Sender) (seq : ℕ) (task : TaskView) → is_handled s from task.signal ≡ false → keeps_lifetime s (Late from seq task) ≡ true
late-lifetime s (Process process) seq task e = ap not e
late-lifetime s Poller seq task e = refl
late-lifetime s (Worker worker) seq task e = refl
late-lifetime s Timer seq task e = refl

pub handled-keeps : (port : Opening) (s : State) (from : Sender) (seq : ℕ) (task : TaskView) (outside : List Outside) (effects : List Effect)
    → is_handled s from task.signal ≡ true → has_effects port s (taken_of from seq task outside effects) ≡ true → may_send from task.signal ≡ true
    → KeepsServed port s (Handled from seq task outside effects)
handled-keeps port s from seq task outside effects handled has may = record {
  lifetime = handled-lifetime s from seq task outside effects handled;
  effects = has;
  ready = ready-kept s from task.signal true may handled;
  jobs = jobs-kept s from task.signal true may handled;
}

pub late-keeps : (port : Opening) (s : State) (from : Sender) (seq : ℕ) (task : TaskView) → is_handled s from task.signal ≡ false → may_send from task.signal ≡ true
    → KeepsServed port s (Late from seq task)
late-keeps port s from seq task late may = record {
  lifetime = late-lifetime s from seq task late;
  effects = refl;
  ready = ready-kept s from task.signal false may late;
  jobs = jobs-kept s from task.signal false may late;
}

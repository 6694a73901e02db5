-- What handling a task left, as a history says it.
use Rattle.std.specs.Prelude.{◌≡◌, ℕ, ◌<◌, ◌≤◌, List, [], ◌++◌, Bool, true, false, Option, None, IsSomeAnd, length, slice_index_or}
use Rattle.port_model.specs.port_signal.Links.{has}
use Rattle.port_model.specs.port_signal.Reasons.{is_kill}
use Rattle.port_driver.specs.driver_model.Calls.{Own}
use Rattle.port_driver.specs.driver_model.Programs.{ToldProgram}
use Rattle.port_driver.specs.Context.{Context}
use Rattle.port_driver.specs.Driven.{Stands}
use Rattle.port_model.specs.declared.signal.Sender.{Sender}
use Rattle.port_history.specs.Opening.{Opening, Taken, is_process}
use Rattle.port_history.specs.Service.{caller_of, effects_after}
use Rattle.port_history.specs.State.{State, closing_reason, signal_calls, row_calls, stops}
use Rattle.port_history.specs.Laws.{is_answered_by}
use Rattle.port_service.specs.declared.handling.Caller.{Caller}
use Rattle.port_service.specs.Callbacks.{is_flagged, is_told_of}
use Rattle.port_service.specs.Service.{ServiceView}

-- the caller of a task: the process that sent it, and else the owner, and whether the owner sent it
pub record IsCaller (s : State) (caller : Caller) : Type 0 where
  pub process : caller.process ≡ caller_of s.ties caller.from
  pub owns : caller.owns ≡ is_process s.ties.owner caller.from

-- a context of a driver that has this next job, these events and this queue
abbrev pub standing : ℕ → List ℕ → List ℕ → Context
standing next_job held queue = record { caller = 0; next_job = next_job; held = held; queue = queue; outside = []; effects = [] }

-- the port is open, or it is closing: it has a reason that is no kill, and its driver wasn't stopped
pub record IsServed (s : State) (closing : Bool) : Type 0 where
  pub opened : closing ≡ false → s.reason ≡ None
  pub closing_for : closing ≡ true → IsSomeAnd s.reason (λ reason. is_kill reason ≡ false)
  pub runs : s.stopped ≡ false

-- the flags tell of each process whether it is among those of the history
abbrev pub Watches : List Bool → List ℕ → Type 0
Watches flags watched = (process : ℕ) → process < length flags → slice_index_or flags process false ≡ has process watched

-- the flags tell of this sender what the history does
abbrev pub IsFlagged : List Bool → List ℕ → Sender → Type 0
IsFlagged flags watched from = is_flagged flags from ≡ is_told_of watched from

-- the row of a handled task: its effects are those of its calls, the outside answered what they asked for, the port closes for this reason, if it
-- does, its driver is stopped as is said, and it stands so after all calls
pub record Serves (port : Opening) (s : State) (t : Taken) (reason : Option (List ℕ)) (stopped : Bool) (own : Own) (program : Option ToldProgram) (context : Context) : Type 0 where
  pub effects : t.effects ≡ effects_after port s.calls (row_calls port s t)
  pub answered : is_answered_by port s (signal_calls s t) t.outside ≡ true
  pub closes : reason ≡ closing_reason s t
  pub stops_it : stopped ≡ stops port s t
  pub stands : Stands port.kind port.config (row_calls port s t ++ s.calls) own program context

-- so it stands with at most 64 events
pub record Served (port : Opening) (s : State) (t : Taken) (reason : Option (List ℕ)) (stopped : Bool) (service : ServiceView) : Type 0 where
  pub held : List ℕ
  pub few : length held ≤ 64
  pub serves : Serves port s t reason stopped service.own service.program (standing service.next_job held service.queue)

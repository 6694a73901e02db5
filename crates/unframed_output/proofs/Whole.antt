-- What the program took by the end of its port.
use Rattle.std.proofs.Common.{◌≡◌, ◌≤◌, ℕ, zero, suc, List, [], ◌∷◌, ◌++◌, ◌⊎◌, length, drop, Bool, true, false, ◌&&◌, ◌||◌, not, eqb, cond, Option, Some, None, refl, sym, ◌∙◌, ap, subst, inl, inr, arith, append_assoc}
use Rattle.std.specs.Prelude.{is_some}
use Rattle.std.specs.List.{list_all}
use Rattle.std.proofs.lemmas.Bool.{and_parts}
use Rattle.std.proofs.lemmas.List.{append-nil}
use Rattle.driver_model.specs.port_config.declared.config.Config.{Config}
use Rattle.driver_model.specs.port_signal.Links.{has}
use Rattle.driver_model.specs.port_signal.Reasons.{is_kill}
use Rattle.driver_model.specs.port_signal.declared.outside.Outside.{Outside}
use Rattle.driver_model.specs.port_model.declared.event.Dir.TheVariants.{Read, Write}
use Rattle.driver_model.specs.port_model.declared.signal.Sender.{Sender}
use Rattle.driver_model.specs.port_model.declared.signal.Sender.TheVariants.{Process, Poller, Worker, Timer}
use Rattle.driver_model.specs.port_model.declared.signal.Signal.{Signal}
use Rattle.driver_model.specs.port_model.declared.signal.Signal.TheVariants.{AsyncDone, Call, Command, Control, OwnerCommand, Ready, Gone}
use Rattle.driver_model.specs.port_model.declared.effect.Effect.{Effect}
use Rattle.driver_model.specs.port_model.declared.row.Row.{Row}
use Rattle.driver_model.specs.port_model.declared.row.Row.TheVariants.{Handled, Late, Listed, Resumed, Mark}
use Rattle.driver_model.specs.port_model.Tasks.{TaskView}
use Rattle.driver_model.specs.Calls as driver
use Rattle.driver_model.specs.Calls.{Callback, ProcessExit, Flush, Stop, DriverCall, call_of, is_empty}
use Rattle.driver_model.specs.Spawn.{asked, framed, given, has_failed, program_failed, spawn_queue, is_none}
use Rattle.port_history.specs.Opening.{Opening, Taken, taken_of}
use Rattle.port_history.specs.Ties.{Ties}
use Rattle.port_history.specs.Service.{callback_of, exit_callback, caller_of, calls_by, stop_calls, flush_calls, first_reason, must_stop}
use Rattle.port_history.specs.State.{State, state, is_open, closing_reason, signal_calls, flushed_calls, row_calls, stops}
use Rattle.port_history.specs.Laws.{is_answered_by, poller_sends, worker_sends, count_of, all_resumed, is_given_back, keeps_end}
use Rattle.port_history.specs.Jobs.{is_done}
use Rattle.port_history.specs.Lawful.{Lawful, KeepsLaws, IsFinished}
use Rattle.unframed_output.specs.Output.{bytes_took, has_fault}
use Rattle.unframed_output.specs.Laws.{InputIsWhole, is_killed}
use Rattle.unframed_output.proofs.Calls.{spawning}
use Rattle.unframed_output.proofs.Events.{bad}
use Rattle.unframed_output.proofs.Input.{given-within, took}
use Rattle.unframed_output.proofs.Rows.{has-effects, row-calls, as-spawning}

empty-drop : (n : ℕ) (xs : List ℕ) → is_empty (drop n xs) ≡ true → length xs ≤ n
empty-drop zero [] e = omega arith
empty-drop zero (x ∷ xs) e = absurd (cc)
empty-drop (suc n) [] e = omega arith
empty-drop (suc n) (x ∷ xs) e = let h = empty-drop n xs e in omega (arith, h)

drop-empty : (n : ℕ) (xs : List ℕ) → length xs ≤ n → is_empty (drop n xs) ≡ true
drop-empty n [] e = nothing n where
  nothing : (n : ℕ) → is_empty (drop n []) ≡ true
  nothing zero = refl
  nothing (suc n) = refl
drop-empty zero (x ∷ xs) e = absurd (omega (arith, e))
drop-empty (suc n) (x ∷ xs) e = drop-empty n xs (omega (arith, e))

-- a call with no frame leaves an empty queue empty
shrinks : (config : Config) (earlier : List DriverCall) (call : DriverCall) → framed config call.callback ≡ [] → is_empty (spawn_queue config earlier) ≡ true
    → is_empty (spawn_queue config (call ∷ earlier)) ≡ true
shrinks config earlier call none empty = at (has_failed call.outside) (program_failed earlier) empty where
  at : (a b : Bool) → is_empty (cond b [] (drop (given config earlier) (asked config earlier))) ≡ true → is_empty (cond (a || b) [] (drop (given config (call ∷ earlier)) (asked config (call ∷ earlier)))) ≡ true
  at true b e = refl
  at false true e = refl
  at false false e =
      let n = empty-drop (given config earlier) (asked config earlier) e in
      let w = given-within config earlier in
      let same : length (asked config (call ∷ earlier)) ≡ length (asked config earlier) = ap (λ xs. length (asked config earlier ++ xs)) none ∙ ap length (append-nil (asked config earlier)) in
      drop-empty (given config (call ∷ earlier)) (asked config (call ∷ earlier)) (omega (arith, n, w, same))

-- some calls with no frames
record Shrink (config : Config) (calls : List DriverCall) : Type 0 where
  pub empty : (earlier : List DriverCall) → is_empty (spawn_queue config earlier) ≡ true → is_empty (spawn_queue config (calls ++ earlier)) ≡ true

stop-shrinks : (config : Config) (stops : Bool) (caller : ℕ) → Shrink config (stop_calls stops caller)
stop-shrinks config true caller = record { empty = λ earlier e. shrinks config earlier (call_of Stop caller [] []) refl e }
stop-shrinks config false caller = record { empty = λ earlier e. e }

flush-shrinks : (config : Config) (port : Opening) (caller : ℕ) (reason : Option (List ℕ)) (before : List DriverCall) → Shrink config (flush_calls port caller reason before)
flush-shrinks config port caller None before = record { empty = λ earlier e. e }
flush-shrinks config port caller (Some reason) before = at _ where
  at : (b : Bool) → Shrink config (cond b [] (call_of Flush caller [] [] ∷ []))
  at true = record { empty = λ earlier e. e }
  at false = record { empty = λ earlier e. shrinks config earlier (call_of Flush caller [] []) refl e }

-- a signal that is no command
abbrev IsNoCommand : Signal → Type 0
IsNoCommand (Command payload) = ⊥
IsNoCommand (OwnerCommand payload) = ⊥
IsNoCommand signal = Unit {0}

polled : (signal : Signal) → poller_sends signal ≡ true → IsNoCommand signal
polled (Command payload) sends = absurd (cc)
polled (OwnerCommand payload) sends = absurd (cc)
polled signal sends = tt

worked : (signal : Signal) → worker_sends signal ≡ true → IsNoCommand signal
worked (Command payload) sends = absurd (cc)
worked (OwnerCommand payload) sends = absurd (cc)
worked signal sends = tt

exit-shrinks : (config : Config) (watched : List ℕ) (from : Sender) (caller : ℕ) (t : Taken) → Shrink config (calls_by (exit_callback watched from) caller t)
exit-shrinks config watched (Process process) caller t = at (has process watched) where
  at : (b : Bool) → Shrink config (calls_by (cond b (Some (ProcessExit process)) None) caller t)
  at true = record { empty = λ earlier e. shrinks config earlier (call_of (ProcessExit process) caller t.outside t.effects) refl e }
  at false = record { empty = λ earlier e. e }
exit-shrinks config watched from caller t = record { empty = λ earlier e. e }

callback-shrinks : (config : Config) (callback : Callback) (caller : ℕ) (t : Taken) → ((config : Config) → framed config callback ≡ []) → Shrink config (calls_by (Some callback) caller t)
callback-shrinks config callback caller t none = record { empty = λ earlier e. shrinks config earlier (call_of callback caller t.outside t.effects) (none config) e }

signal-shrinks : (config : Config) (ties : Ties) (watched : List ℕ) (from : Sender) (signal : Signal) (caller : ℕ) (t : Taken) → IsNoCommand signal
    → Shrink config (calls_by (callback_of ties watched from signal) caller t)
signal-shrinks config ties watched from (Command payload) caller t other = absurd other
signal-shrinks config ties watched from (OwnerCommand payload) caller t other = absurd other
signal-shrinks config ties watched from (Control op bytes) caller t other = callback-shrinks config (driver.Control op bytes) caller t (λ c. refl)
signal-shrinks config ties watched from (Call op bytes) caller t other = callback-shrinks config (driver.Call op bytes) caller t (λ c. refl)
signal-shrinks config ties watched from (Ready event Read) caller t other = callback-shrinks config (driver.ReadyInput event) caller t (λ c. refl)
signal-shrinks config ties watched from (Ready event Write) caller t other = callback-shrinks config (driver.ReadyOutput event) caller t (λ c. refl)
signal-shrinks config ties watched from (AsyncDone number output) caller t other = callback-shrinks config (driver.ReadyAsync number output) caller t (λ c. refl)
signal-shrinks config ties watched from (Gone reason) caller t other = exit-shrinks config watched from caller t
signal-shrinks config ties watched from signal caller t other = record { empty = λ earlier e. e }

-- the row of a task of no process
row-shrinks : (port : Opening) (s : State) (t : Taken) → IsNoCommand t.task.signal → Shrink port.config (row_calls (spawning port) s t)
row-shrinks port s t other =
    let p = spawning port in
    let stop = stop_calls (stops p s t) (caller_of s.ties t.from) in
    let flush = flush_calls p (caller_of s.ties t.from) (closing_reason s t) (signal_calls s t ++ s.calls) in
    record {
      empty = λ earlier e.
          ap (λ cs. is_empty (spawn_queue port.config cs)) (append_assoc stop (flush ++ signal_calls s t) earlier ∙ ap (λ cs. stop ++ cs) (append_assoc flush (signal_calls s t) earlier))
          ∙ (stop-shrinks port.config (stops p s t) (caller_of s.ties t.from)).empty (flush ++ (signal_calls s t ++ earlier))
          ((flush-shrinks port.config p (caller_of s.ties t.from) (closing_reason s t) (signal_calls s t ++ s.calls)).empty (signal_calls s t ++ earlier)
          ((signal-shrinks port.config s.ties s.watched t.from t.task.signal (caller_of s.ties t.from) t other).empty earlier e));
    }

-- `flush` and `stop` don't fail
stop-fails : (stops : Bool) (caller : ℕ) (earlier : List DriverCall) → program_failed (stop_calls stops caller ++ earlier) ≡ program_failed earlier
stop-fails true caller earlier = refl
stop-fails false caller earlier = refl

flush-fails : (port : Opening) (caller : ℕ) (reason : Option (List ℕ)) (before earlier : List DriverCall) → program_failed (flush_calls port caller reason before ++ earlier) ≡ program_failed earlier
flush-fails port caller None before earlier = refl
flush-fails port caller (Some reason) before earlier = at _ where
  at : (b : Bool) → program_failed (cond b [] (call_of Flush caller [] [] ∷ []) ++ earlier) ≡ program_failed earlier
  at true = refl
  at false = refl

none-failed : (outside : List Outside) → is_none outside ≡ true → has_failed outside ≡ false
none-failed [] none = refl
none-failed (answer ∷ outside) none = absurd (cc)

signal-fails : (port : Opening) (s : State) (t : Taken) (callback : Option Callback) (caller : ℕ) → is_answered_by (spawning port) s (calls_by callback caller t) t.outside ≡ true
    → program_failed (calls_by callback caller t ++ s.calls) ≡ (has_failed t.outside || program_failed s.calls)
signal-fails port s t None caller answered = ap (λ b. b || program_failed s.calls) (sym (none-failed t.outside answered))
signal-fails port s t (Some callback) caller answered = refl

row-fails : (port : Opening) (s : State) (t : Taken) → program_failed (row_calls (spawning port) s t ++ s.calls) ≡ program_failed (signal_calls s t ++ s.calls)
row-fails port s t =
    let p = spawning port in
    let stop = stop_calls (stops p s t) (caller_of s.ties t.from) in
    let flush = flush_calls p (caller_of s.ties t.from) (closing_reason s t) (signal_calls s t ++ s.calls) in
    let more = signal_calls s t ++ s.calls in
    ap program_failed (row-calls p s t ∙ append_assoc stop flush more)
    ∙ (stop-fails (stops p s t) (caller_of s.ties t.from) (flush ++ more) ∙ flush-fails p (caller_of s.ties t.from) (closing_reason s t) more more)

-- the driver is stopped because the port was killed, or as nothing was queued any more
abbrev HasStopped : Config → Option (List ℕ) → List DriverCall → Type 0
HasStopped config reason calls = (is_some reason ≡ true) × ((is_killed reason ≡ true) ⊎ (is_empty (spawn_queue config calls) ≡ true))

record Ends (port : Opening) (history : List Row) : Type 0 where
  pub stopped : (state (spawning port) history).stopped ≡ true → HasStopped port.config (state (spawning port) history).reason (state (spawning port) history).calls
  pub failed : program_failed (state (spawning port) history).calls ≡ has_fault history

-- a port that must stop
must : (port : Opening) (reason : Option (List ℕ)) (calls : List DriverCall) → must_stop (spawning port) reason calls ≡ true → HasStopped port.config reason calls
must port None calls e = absurd (cc)
must port (Some reason) calls e = (refl, at (is_kill reason) e) where
  at : (b : Bool) → (b || is_empty (spawn_queue port.config calls)) ≡ true → (b ≡ true) ⊎ (is_empty (spawn_queue port.config calls) ≡ true)
  at true e = inl refl
  at false e = inr e

-- the row that stops the driver
stops-now : (port : Opening) (s : State) (t : Taken) → stops (spawning port) s t ≡ true
    → HasStopped port.config (first_reason s.reason (closing_reason s t)) (row_calls (spawning port) s t ++ s.calls)
stops-now port s t now =
    let p = spawning port in
    let flushed = flushed_calls p s t in
    let reason = first_reason s.reason (closing_reason s t) in
    let h = must port reason (flushed ++ s.calls) (and_parts (not s.stopped) (must_stop p reason (flushed ++ s.calls)) now).1 in (
      h.0,
      either h.1 (λ k. inl k)
          (λ e. inr (ap (λ cs. is_empty (spawn_queue port.config cs)) (append_assoc (stop_calls (stops p s t) (caller_of s.ties t.from)) flushed s.calls)
          ∙ (stop-shrinks port.config (stops p s t) (caller_of s.ties t.from)).empty (flushed ++ s.calls) e)),
    )
  where
    either : {A B C : Type 0} → A ⊎ B → (A → C) → (B → C) → C
    either (inl a) f g = f a
    either (inr b) f g = g b

-- a row of a port whose driver was stopped before
stopped-before : (port : Opening) (s : State) (t : Taken) → HasStopped port.config s.reason s.calls → IsNoCommand t.task.signal
    → HasStopped port.config (first_reason s.reason (closing_reason s t)) (row_calls (spawning port) s t ++ s.calls)
stopped-before port s t was other = at s.reason was where
  more : (reason : List ℕ) → (is_kill reason ≡ true) ⊎ (is_empty (spawn_queue port.config s.calls) ≡ true)
      → (is_kill reason ≡ true) ⊎ (is_empty (spawn_queue port.config (row_calls (spawning port) s t ++ s.calls)) ≡ true)
  more reason (inl k) = inl k
  more reason (inr e) = inr ((row-shrinks port s t other).empty s.calls e)

  at : (reason : Option (List ℕ)) → HasStopped port.config reason s.calls → HasStopped port.config (first_reason reason (closing_reason s t)) (row_calls (spawning port) s t ++ s.calls)
  at None h = let e = h.0 in absurd (cc)
  at (Some reason) h = (refl, more reason h.1)

-- no command is handled of a port that isn't open
no-command : (s : State) (from : Sender) (seq : ℕ) (task : TaskView) (outside : List Outside) (effects : List Effect) (port : Opening) → KeepsLaws port s (Handled from seq task outside effects) → is_some s.reason ≡ true
    → IsNoCommand task.signal
no-command s (Process process) seq task outside effects port keeps closed = bad (is_open s) keeps.lifetime (ap not closed)
no-command s Poller seq task outside effects port keeps closed = polled task.signal (and_parts (eqb seq (count_of Poller s.senders)) (poller_sends task.signal) keeps.order).1
no-command s (Worker worker) seq task outside effects port keeps closed = worked task.signal (and_parts (eqb seq (count_of (Worker worker) s.senders)) (worker_sends task.signal) keeps.order).1
no-command s Timer seq task outside effects port keeps closed = bad false (and_parts (eqb seq (count_of Timer s.senders)) false keeps.order).1 refl

handled-ends : (port : Opening) (from : Sender) (seq : ℕ) (task : TaskView) (outside : List Outside) (effects : List Effect) (older : List Row)
    → KeepsLaws (spawning port) (state (spawning port) older) (Handled from seq task outside effects) → Ends port older → Ends port (Handled from seq task outside effects ∷ older)
handled-ends port from seq task outside effects older keeps before =
    let s = state (spawning port) older in
    let t = taken_of from seq task outside effects in
    let has = has-effects port s from seq task outside effects keeps in
    record {
      stopped = at s.stopped before.stopped;
      failed = row-fails port s t
          ∙ (signal-fails port s t (callback_of s.ties s.watched from task.signal) (caller_of s.ties from) has.answered ∙ ap (λ b. has_failed outside || b) before.failed);
    }
  where
    at : (b : Bool) → (b ≡ true → HasStopped port.config (state (spawning port) older).reason (state (spawning port) older).calls)
        → (b || stops (spawning port) (state (spawning port) older) (taken_of from seq task outside effects)) ≡ true
        → HasStopped port.config (first_reason (state (spawning port) older).reason (closing_reason (state (spawning port) older) (taken_of from seq task outside effects)))
        (row_calls (spawning port) (state (spawning port) older) (taken_of from seq task outside effects) ++ (state (spawning port) older).calls)
    at true was e =
        let h = was refl in
        stopped-before port (state (spawning port) older) (taken_of from seq task outside effects) h (no-command (state (spawning port) older) from seq task outside effects (spawning port) keeps h.0)
    at false was e = stops-now port (state (spawning port) older) (taken_of from seq task outside effects) e

ends : (port : Opening) (history : List Row) → Lawful (spawning port) history → Ends port history
ends port [] lawful = record { stopped = λ e. absurd (cc); failed = refl }
ends port (Handled from seq task outside effects ∷ older) lawful = handled-ends port from seq task outside effects older lawful.0 (ends port older lawful.1)
ends port (Late from seq task ∷ older) lawful = let before = ends port older lawful.1 in record { stopped = before.stopped; failed = before.failed }
ends port (Listed from seq ∷ older) lawful = let before = ends port older lawful.1 in record { stopped = before.stopped; failed = before.failed }
ends port (Resumed from seq word ∷ older) lawful = let before = ends port older lawful.1 in record { stopped = before.stopped; failed = before.failed }
ends port (Mark kind ∷ older) lawful = let before = ends port older lawful.1 in record { stopped = before.stopped; failed = before.failed }

-- a driver is stopped at the end
end-stopped : (s : State) → keeps_end s ≡ true → s.stopped ≡ true
end-stopped s e =
    (and_parts s.stopped (all_resumed s.listed)
    (and_parts (s.stopped && all_resumed s.listed) (list_all is_given_back s.events)
    (and_parts (s.stopped && all_resumed s.listed && list_all is_given_back s.events) (list_all (λ job. is_done job.number s.done) s.jobs) e).0).0).0

whole : (port : Opening) (history : List Row) → Lawful (spawning port) history → IsFinished (spawning port) history → is_killed (state (spawning port) history).reason ≡ false → has_fault history ≡ false
    → bytes_took history ≡ length (asked port.config (state (spawning port) history).calls)
whole port history lawful finished killed fault = at (e.stopped (end-stopped s finished.end)).1 where
  s : State
  s = state (spawning port) history

  e : Ends port history
  e = ends port history lawful

  at : (is_killed s.reason ≡ true) ⊎ (is_empty (spawn_queue port.config s.calls) ≡ true) → bytes_took history ≡ length (asked port.config s.calls)
  at (inl k) = bad (is_killed s.reason) k killed
  at (inr empty) =
      let queue : spawn_queue port.config s.calls ≡ drop (given port.config s.calls) (asked port.config s.calls) =
      ap (λ b. cond b [] (drop (given port.config s.calls) (asked port.config s.calls))) (e.failed ∙ fault) in
      let n = empty-drop (given port.config s.calls) (asked port.config s.calls) (ap is_empty (sym queue) ∙ empty) in
      let w = given-within port.config s.calls in
      let t = took port history lawful in
      omega (arith, n, w, t)

pub input-is-whole : InputIsWhole
input-is-whole port history of finished killed fault =
    let is = as-spawning port of.kind in
    whole port history (subst (λ p. Lawful p history) is of.lawful) (subst (λ p. IsFinished p history) is finished)
    (ap (λ p. is_killed (state p history).reason) (sym is) ∙ killed) fault
    ∙ ap (λ p. length (asked port.config (state p history).calls)) (sym is)

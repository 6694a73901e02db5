-- The rows of a lawful history name only processes that are there.
use Rattle.std.proofs.Common.{◌≡◌, ℕ, ◌+◌, ◌<◌, ◌==◌, List, [], ◌∷◌, ◌++◌, Bool, true, false, cond, ◌||◌, Option, Some, None, refl, sym, subst, arith}
use Rattle.std.specs.Prelude.{All, not}
use Rattle.std.specs.List.{AllByRecursion, concat}
use Rattle.std.proofs.lemmas.Bool.{and_parts, eq-eqb, eqb-true}
use Rattle.std.proofs.lemmas.List.Elements.{All-from_recursion, recursion_from_All}
use Rattle.std.proofs.lemmas.List.Sums.{sum_by-cons}
use Rattle.port_model.specs.port_signal.Links.{has}
use Rattle.port_model.specs.port_signal.Reasons.{is_kill}
use Rattle.port_model.specs.declared.event.Dir.TheVariants.{Read, Write}
use Rattle.port_model.specs.declared.row.Row.{Row}
use Rattle.port_model.specs.declared.row.Row.TheVariants.{Handled, Late, Listed, Resumed, Mark}
use Rattle.port_model.specs.declared.signal.Sender.{Sender}
use Rattle.port_model.specs.declared.signal.Sender.TheVariants.{Process, Poller, Worker, Timer}
use Rattle.port_model.specs.declared.signal.Signal.{Signal}
use Rattle.port_model.specs.declared.signal.Signal.TheVariants.{Command, OwnerCommand, Control, Call, Gone, Ready, Dropped, AsyncDone}
use Rattle.port_model.specs.Tasks.{TaskView}
use Rattle.driver_model.specs.Calls as driver
use Rattle.driver_model.specs.Calls.{Callback, DriverCall, call_of}
use Rattle.driver_model.specs.Same.{same_effects}
use Rattle.port_history.specs.Lawful.{Lawful}
use Rattle.port_history.specs.Laws.{count_of, is_answered_by, is_next, may_send}
use Rattle.port_history.specs.Laws as laws
use Rattle.port_history.specs.Marks.{is_busy}
use Rattle.port_history.specs.Opening.{Opening, Taken, is_process, same_sender, taken_of}
use Rattle.port_history.specs.Service.{caller_of, callback_of, calls_by, effects_after, flush_calls, is_drained, stop_calls}
use Rattle.port_history.specs.State.{State, closing_reason, flushed_calls, is_open, row_calls, signal_calls, state, stops}
use Rattle.port_history.specs.Suspension.{Entry, entry, is_first, is_queue_busy, same_entry}
use Rattle.port_history.specs.Ties.{Ties}
use Rattle.run_output.specs.script_run.run_opening.port_body.Ends.{HaveRows}
use Rattle.run_output.specs.script_run.run_opening.port_body.LanePort.{rows_from, task_from}
use Rattle.run_laws.proofs.journals.Named.{EffectNames, SenderNames, RowNames, SignalNames}
use Rattle.run_laws.proofs.journals.Effects.{CallNames, after-named, same-names}
use Rattle.run_laws.proofs.Lists.{all-append, all-back, all-either, all-filter, all-front, all-imply}

-- a process of so many, the poller, or a worker
abbrev pub IsSender : ℕ → Sender → Type 0
IsSender processes (Process process) = process < processes
IsSender processes Poller = Unit {0}
IsSender processes (Worker worker) = Unit {0}
IsSender processes Timer = ⊥

-- so is the sender of a task that has this row
abbrev pub HasSender : ℕ → Row → Type 0
HasSender processes (Handled from seq task outside effects) = IsSender processes from
HasSender processes (Late from seq task) = IsSender processes from
HasSender processes row = Unit {0}

-- a task whose signal names such, and an entry whose sender does
abbrev TaskNames : ℕ → TaskView → Type 0
TaskNames names task = SignalNames names task.signal

abbrev EntryNames : ℕ → Entry → Type 0
EntryNames names e = SenderNames names e.from

sender-named : (names : ℕ) (from : Sender) → IsSender names from → SenderNames names from
sender-named names (Process process) is = is
sender-named names from is = tt

same-named : (names : ℕ) (from other : Sender) → same_sender from other ≡ true → SenderNames names other → SenderNames names from
same-named names (Process process) (Process other) same named = subst (λ p. p < names) (sym (eqb-true process other same)) named
same-named names (Process process) other same named = absurd cc
same-named names from other same named = tt

-- the senders of the tasks that have a row
senders-named : (names : ℕ) (port : Opening) (history : List Row) → AllByRecursion (λ row. HasSender names row) history → AllByRecursion (SenderNames names) (state port history).senders
senders-named names port [] all = tt
senders-named names port (Handled from seq task outside effects ∷ older) all = (sender-named names from all.0, senders-named names port older all.1)
senders-named names port (Late from seq task ∷ older) all = (sender-named names from all.0, senders-named names port older all.1)
senders-named names port (Listed from seq ∷ older) all = senders-named names port older all.1
senders-named names port (Resumed from seq word ∷ older) all = senders-named names port older all.1
senders-named names port (Mark kind ∷ older) all = senders-named names port older all.1

-- a sender that has a row is named
count-named : (names : ℕ) (from : Sender) (senders : List Sender) → AllByRecursion (SenderNames names) senders → 0 < count_of from senders → SenderNames names from
count-named names from [] all many = absurd (omega (arith, many))
count-named names from (other ∷ senders) all many =
    let more = sum_by-cons (λ x. cond (same_sender from x) 1 0) other senders in
    go (same_sender from other) refl (subst (λ n. 0 < n) more many) (count-named names from senders all.1)
  where
    go : (b : Bool) → same_sender from other ≡ b → 0 < cond b 1 0 + count_of from senders → (0 < count_of from senders → SenderNames names from) → SenderNames names from
    go true is here later = same-named names from other is all.0
    go false is here later = later (omega (arith, here))

entries-named : (names : ℕ) (port : Opening) (history : List Row) → HaveRows (state port history) → AllByRecursion (λ row. HasSender names row) history
    → AllByRecursion (EntryNames names) (state port history).entries
entries-named names port history rows all =
    let s = state port history in
    all-imply (λ (e : Entry). e.seq < count_of e.from s.senders) (EntryNames names) s.entries
    (λ e more. count-named names e.from s.senders (senders-named names port history all) (omega (arith, more))) rows

-- who waits for a resume was listed
listed-named : (names : ℕ) (port : Opening) (history : List Row) → AllByRecursion (EntryNames names) (state port history).entries → AllByRecursion (EntryNames names) (state port history).listed
listed-named names port [] all = tt
listed-named names port (Handled from seq task outside effects ∷ older) all = listed-named names port older all
listed-named names port (Late from seq task ∷ older) all = listed-named names port older all
listed-named names port (Listed from seq ∷ older) all =
    all-append (EntryNames names) (state port older).listed (entry from seq ∷ []) (listed-named names port older all.1) (all.0, tt)
listed-named names port (Resumed from seq word ∷ older) all =
    all-filter (EntryNames names) (λ other. not (same_entry (entry from seq) other)) (state port older).listed (listed-named names port older all)
listed-named names port (Mark kind ∷ older) all = listed-named names port older all

first-named : (names : ℕ) (from : Sender) (seq : ℕ) (entries : List Entry) → is_first (entry from seq) entries ≡ true → AllByRecursion (EntryNames names) entries → SenderNames names from
first-named names from seq [] is all = absurd cc
first-named names from seq (first ∷ entries) is all = same-named names from first.from (and_parts (same_sender from first.from) (seq == first.seq) is).0 all.0

-- the signal of a task that has a row
signal-named : (names : ℕ) (from : Sender) (task : TaskView) (older : List Row) → IsSender names from → may_send from task.signal ≡ true
    → ((s : ℕ) → s < names → AllByRecursion (TaskNames names) (rows_from (Process s) older ++ task_from (Process s) from task)) → SignalNames names task.signal
signal-named names (Process process) task older is may tasks =
    let here = all-back (TaskNames names) (rows_from (Process process) older) (task_from (Process process) (Process process) task) (tasks process is) in
    (subst (λ b. AllByRecursion (TaskNames names) (cond b (task ∷ []) [])) (eq-eqb process process refl) here).0
signal-named names Poller task older is may tasks = polled task.signal may where
  polled : (signal : Signal) → may_send Poller signal ≡ true → SignalNames names signal
  polled (Ready event dir) e = tt
  polled (Dropped event) e = tt
  polled signal e = absurd cc
signal-named names (Worker worker) task older is may tasks = worked task.signal may where
  worked : (signal : Signal) → may_send (Worker worker) signal ≡ true → SignalNames names signal
  worked (AsyncDone job output) e = tt
  worked signal e = absurd cc
signal-named names Timer task older is may tasks = absurd is

-- the calls of a handled task's row
optional : (names caller : ℕ) (b : Bool) (callback : Callback) (t : Taken) → CallNames names (call_of callback caller t.outside t.effects)
    → AllByRecursion (CallNames names) (calls_by (cond b (Some callback) None) caller t)
optional names caller true callback t named = (named, tt)
optional names caller false callback t named = tt

calls-named : (names : ℕ) (ties : Ties) (watched : List ℕ) (from : Sender) (signal : Signal) (t : Taken) → IsSender names from → may_send from signal ≡ true
    → AllByRecursion (CallNames names) (calls_by (callback_of ties watched from signal) (caller_of ties from) t)
calls-named names ties watched from (Command payload) t is may = (tt, tt)
calls-named names ties watched from (OwnerCommand payload) t is may = optional names (caller_of ties from) (is_process ties.owner from) (driver.Outputv (concat payload)) t tt
calls-named names ties watched (Process process) (Control op bytes) t is may = (is, tt)
calls-named names ties watched Poller (Control op bytes) t is may = absurd cc
calls-named names ties watched (Worker worker) (Control op bytes) t is may = absurd cc
calls-named names ties watched Timer (Control op bytes) t is may = absurd is
calls-named names ties watched from (Call op bytes) t is may = (tt, tt)
calls-named names ties watched from (Ready event Read) t is may = (tt, tt)
calls-named names ties watched from (Ready event Write) t is may = (tt, tt)
calls-named names ties watched from (AsyncDone job output) t is may = (tt, tt)
calls-named names ties watched (Process process) (Gone reason) t is may = optional names process (has process watched) (driver.ProcessExit process) t tt
calls-named names ties watched from (Gone reason) t is may = tt
calls-named names ties watched from signal t is may = tt

flush-named : (names : ℕ) (port : Opening) (caller : ℕ) (reason : Option (List ℕ)) (earlier : List DriverCall) → AllByRecursion (CallNames names) (flush_calls port caller reason earlier)
flush-named names port caller None earlier = tt
flush-named names port caller (Some reason) earlier =
    all-either (CallNames names) (is_kill reason || is_drained port earlier) [] (call_of driver.Flush caller [] [] ∷ []) tt (tt, tt)

stop-named : (names : ℕ) (b : Bool) (caller : ℕ) → AllByRecursion (CallNames names) (stop_calls b caller)
stop-named names true caller = (tt, tt)
stop-named names false caller = tt

row-calls-named : (names : ℕ) (port : Opening) (s : State) (t : Taken) → IsSender names t.from → may_send t.from t.task.signal ≡ true
    → AllByRecursion (CallNames names) (row_calls port s t)
row-calls-named names port s t is may =
    all-append (CallNames names) (stop_calls (stops port s t) (caller_of s.ties t.from)) (flushed_calls port s t) (stop-named names (stops port s t) (caller_of s.ties t.from))
    (all-append (CallNames names) (flush_calls port (caller_of s.ties t.from) (closing_reason s t) (signal_calls s t ++ s.calls)) (signal_calls s t)
    (flush-named names port (caller_of s.ties t.from) (closing_reason s t) (signal_calls s t ++ s.calls)) (calls-named names s.ties s.watched t.from t.task.signal t is may))

effects-named : (names : ℕ) (port : Opening) (s : State) (t : Taken) → laws.has_effects port s t ≡ true → IsSender names t.from → may_send t.from t.task.signal ≡ true
    → AllByRecursion (EffectNames names) t.effects
effects-named names port s t has_them is may =
    same-names names t.effects (effects_after port s.calls (row_calls port s t))
    (and_parts (same_effects t.effects (effects_after port s.calls (row_calls port s t))) (is_answered_by port s (signal_calls s t) t.outside) has_them).0
    (after-named names port s.calls (row_calls port s t) (row-calls-named names port s t is may))

-- the rows, where each that was listed is named
rows-named : (names : ℕ) (port : Opening) (history : List Row) → Lawful port history → AllByRecursion (EntryNames names) (state port history).entries
    → AllByRecursion (λ row. HasSender names row) history → ((s : ℕ) → s < names → AllByRecursion (TaskNames names) (rows_from (Process s) history))
    → AllByRecursion (RowNames names) history
rows-named names port [] lawful entries senders tasks = tt
rows-named names port (Handled from seq task outside effects ∷ older) lawful entries senders tasks =
    let s = state port older in
    let may = (and_parts (seq == count_of from s.senders) (may_send from task.signal) lawful.0.order).1 in
    let named = effects-named names port s (taken_of from seq task outside effects) lawful.0.effects senders.0 may in (
      (sender-named names from senders.0, signal-named names from task older senders.0 may tasks, All-from_recursion (EffectNames names) effects named),
      rows-named names port older lawful.1 entries senders.1 (λ p within. all-front (TaskNames names) (rows_from (Process p) older) (task_from (Process p) from task) (tasks p within)),
    )
rows-named names port (Late from seq task ∷ older) lawful entries senders tasks =
    let s = state port older in
    let may = (and_parts (seq == count_of from s.senders) (may_send from task.signal) lawful.0.order).1 in (
      (sender-named names from senders.0, signal-named names from task older senders.0 may tasks),
      rows-named names port older lawful.1 entries senders.1 (λ p within. all-front (TaskNames names) (rows_from (Process p) older) (task_from (Process p) from task) (tasks p within)),
    )
rows-named names port (Listed from seq ∷ older) lawful entries senders tasks = (entries.0, rows-named names port older lawful.1 entries.1 senders.1 tasks)
rows-named names port (Resumed from seq word ∷ older) lawful entries senders tasks =
    let s = state port older in
    let first = (and_parts (is_first (entry from seq) s.listed) (not (is_open s) || not (is_busy s.marks || is_queue_busy word)) lawful.0.resumed).0 in
    (first-named names from seq s.listed first (listed-named names port older entries), rows-named names port older lawful.1 entries senders.1 tasks)
rows-named names port (Mark kind ∷ older) lawful entries senders tasks = (tt, rows-named names port older lawful.1 entries senders.1 tasks)

-- the rows of a history whose senders are there, in which each task that was listed has a row, and the tasks of whose processes name what is there
pub history-named : (processes : ℕ) (port : Opening) (history : List Row) → Lawful port history → HaveRows (state port history) → AllByRecursion (λ row. HasSender processes row) history
    → ((s : ℕ) → s < processes → All (TaskNames processes) (rows_from (Process s) history)) → AllByRecursion (RowNames processes) history
history-named processes port history lawful rows senders tasks =
    rows-named processes port history lawful (entries-named processes port history rows senders) senders
    (λ s within. recursion_from_All (TaskNames processes) (rows_from (Process s) history) (tasks s within))

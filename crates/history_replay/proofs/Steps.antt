-- What a row makes of what is kept of a port.
use Rattle.std.proofs.Common.{◌≡◌, ℕ, ◌+◌, Bool, true, false, ◌&&◌, not, Option, Some, None, List, [], ◌∷◌, length, refl, sym, ap, ◌∙◌, subst, zero-add}
use Rattle.std.specs.Prelude.{Result, Ok, Err, IfOk}
use Rattle.std.proofs.lemmas.Bool.{and_parts}
use Rattle.std.proofs.lemmas.List.{length-append}
use Rattle.driver_model.specs.Calls.{Kind}
use Rattle.driver_model.specs.Drivers.{job_count}
use Rattle.no_memory.specs.declared.NoMemory.{NoMemory}
use Rattle.port_model.specs.Tasks.{TaskView}
use Rattle.port_model.specs.port_signal.declared.mark.MarkKind.{MarkKind}
use Rattle.port_model.specs.port_signal.declared.outside.Outside.{Outside}
use Rattle.port_model.specs.declared.effect.Effect.{Effect}
use Rattle.port_model.specs.declared.row.Row.{Row}
use Rattle.port_model.specs.declared.row.Row.TheVariants.{Handled, Late, Listed, Resumed, Mark}
use Rattle.port_model.specs.declared.signal.Sender.{Sender}
use Rattle.port_model.specs.declared.signal.Signal.{Signal}
use Rattle.port_model.specs.declared.signal.Signal.TheVariants.{AsyncDone}
use Rattle.port_history.specs.Jobs.{submitted_by, is_done, each_of, is_next_of_key}
use Rattle.port_history.specs.Laws.{is_told_in_time, is_told_right, is_work, keeps_effects, keeps_listed, keeps_resumed}
use Rattle.port_history.specs.Marks.{is_due}
use Rattle.port_history.specs.Lawful.{KeepsLaws, least, kept_laws, law_broken}
use Rattle.port_history.specs.Opening.{Opening, Taken, taken_of, late_of}
use Rattle.port_history.specs.State.{State, after, after_handled, after_late, start_call, state_at_start}
use Rattle.history_tables.specs.JobsKept.{are_next}
use Rattle.history_state.specs.declared.rows.RowEnd.{RowEnd}
use Rattle.history_state.specs.declared.state.HistoryState.{HistoryState}
use Rattle.history_state.specs.Kept.{IsStateOf, IsHandledSo, is_next_job}
use Rattle.history_driver.specs.declared.driver.HistoryDriver.{HistoryDriver}
use Rattle.history_driver.specs.Handled.{IsDriverOf, Judged, GoesOn, Starts}
use Rattle.journal_text.specs.declared.book.PortReport.{PortReport}
use Rattle.history_replay.specs.declared.walk.Walk.{Walk}
use Rattle.history_replay.specs.Verdicts.{opening_of}
use Rattle.history_replay.specs.Walked.{IsOpenedAs, StandsAt, TellsEffects, WentOn, laws_before, laws_behind}
use Rattle.history_replay.proofs.Least.{least-before, least-behind, least-none}

-- the least law that a row breaks, where it is known of the first laws, of the law of effects, and of the laws behind it
pub breaks-before : (port : Opening) (s : State) (row : Row) (law : ℕ) → Some law ≡ least (laws_before s row) 1 → law_broken port s row ≡ Some law
breaks-before port s row law e = least-before (laws_before s row) (keeps_effects port s row ∷ laws_behind s row) 1 law (sym e)

at-effects : (port : Opening) (s : State) (row : Row) → None ≡ least (laws_before s row) 1 → law_broken port s row ≡ least (keeps_effects port s row ∷ laws_behind s row) 4
at-effects port s row e = least-behind (laws_before s row) (keeps_effects port s row ∷ laws_behind s row) 1 (sym e)

pub breaks-effects : (port : Opening) (s : State) (row : Row) → None ≡ least (laws_before s row) 1 → keeps_effects port s row ≡ false → law_broken port s row ≡ Some 4
breaks-effects port s row e f = at-effects port s row e ∙ ap (λ b. least (b ∷ laws_behind s row) 4) f

pub behind-effects : (port : Opening) (s : State) (row : Row) (law : Option ℕ) → None ≡ least (laws_before s row) 1 → keeps_effects port s row ≡ true
    → law ≡ least (laws_behind s row) 5 → law_broken port s row ≡ law
behind-effects port s row law e f g = at-effects port s row e ∙ (ap (λ b. least (b ∷ laws_behind s row) 4) f ∙ sym g)

-- all laws are kept
all-kept : (port : Opening) (s : State) (row : Row) → law_broken port s row ≡ None → KeepsLaws port s row
all-kept port s row e = let h = least-none (kept_laws port s row) 1 e in record {
  order = h.0;
  lifetime = h.1.0;
  busy = h.1.1.0;
  effects = h.1.1.1.0;
  marks = h.1.1.1.1.0;
  listed = h.1.1.1.1.1.0;
  resumed = h.1.1.1.1.1.1.0;
  ready = h.1.1.1.1.1.1.1.0;
  jobs = h.1.1.1.1.1.1.1.1.0;
}

-- a job that is told as it is to be is the next of its key
next-job : (s : State) (handled : Bool) (signal : Signal) → is_told_right s handled signal ≡ true → is_next_job s.jobs s.done signal ≡ true
next-job s handled (AsyncDone number output) e =
    (and_parts (not (is_done number s.done) && is_told_in_time s handled number && each_of number (is_work output) s.jobs) (each_of number (is_next_of_key s.jobs s.done) s.jobs) e).1
next-job s handled signal e = refl

-- a handled task judged by the law of effects
tells-task : (port : Opening) (s : State) (from : Sender) (seq : ℕ) (task : TaskView) (outside : List Outside) (effects : List Effect) (closing : Option RowEnd) (driver : HistoryDriver)
    → Judged port s (taken_of from seq task outside effects) closing driver → TellsEffects port s (Handled from seq task outside effects) closing driver
tells-task port s from seq task outside effects None driver judged = judged
tells-task port s from seq task outside effects (Some closing) driver judged = judged

pub tells-handled : (r : Result (Option RowEnd) NoMemory) (walk : Walk) (row : Row) (from : Sender) (seq : ℕ) (task : TaskView) (outside outs : List Outside) (effects all : List Effect) (driver : HistoryDriver)
    → row ≡ Handled from seq task outside effects → outs ≡ outside → all ≡ effects
    → IfOk r (λ closing. (port : Opening) (s : State) (place : ℕ) (told : TaskView) → told.signal ≡ task.signal → IsStateOf walk.state port s → IsDriverOf walk.driver port s.calls
    → Judged port s (taken_of from place told outs all) closing driver)
    → IfOk r (λ closing. (port : Opening) (s : State) → StandsAt walk port s → TellsEffects port s row closing driver)
tells-handled (Ok closing) walk row from seq task outside outs effects all driver is outs_are all_are judged = λ port s at.
    subst (λ r. TellsEffects port s r closing driver) (sym is) (tells-task port s from seq task outside effects closing driver
    (subst (λ es. Judged port s (taken_of from seq task outside es) closing driver) all_are
    (subst (λ os. Judged port s (taken_of from seq task os all) closing driver) outs_are (judged port s seq task refl at.state_is at.driver_is))))
tells-handled (Err fault) walk row from seq task outside outs effects all driver is outs_are all_are judged = judged

-- a task was handled as its row tells
handled-so : (port : Opening) (s : State) (from : Sender) (seq : ℕ) (task : TaskView) (outside : List Outside) (effects all : List Effect) (signal : Signal)
    (closing : RowEnd) (driver : HistoryDriver) → GoesOn port s (taken_of from seq task outside effects) closing driver
    → length s.jobs ≡ job_count port.kind port.config s.calls → is_told_right s true task.signal ≡ true → signal ≡ task.signal → all ≡ effects
    → IsHandledSo from signal all closing.reason closing.stops port s (taken_of from seq task outside effects)
handled-so port s from seq task outside effects all signal closing driver on jobs told signal_is all_are = record {
  sender = refl;
  signal_is = sym signal_is;
  effects_are = sym all_are;
  closes = on.closes;
  stops_it = on.stops_it;
  next_jobs = subst (λ es. are_next (length s.jobs) es ≡ true) (sym all_are) (subst (λ n. are_next n effects ≡ true) (sym jobs) on.numbers.next_jobs);
  next_job = subst (λ x. is_next_job s.jobs s.done x ≡ true) (sym signal_is) (next-job s true task.signal told);
}

-- what is kept after a handled task
stands-handled : (port : Opening) (s : State) (t : Taken) (closing : RowEnd) (state : HistoryState) (driver : HistoryDriver)
    → GoesOn port s t closing driver → length s.jobs ≡ job_count port.kind port.config s.calls → IsStateOf state port (after_handled port s t)
    → StandsAt (record { state = state; driver = driver }) port (after_handled port s t)
stands-handled port s t closing state driver on jobs is = record {
  state_is = is;
  driver_is = on.driver_is;
  jobs_are = length-append s.jobs (submitted_by t.effects) ∙ (ap (λ n. n + length (submitted_by t.effects)) jobs ∙ sym on.numbers.jobs);
}

-- what is kept after a row that calls no driver
stands-other : (port : Opening) (s new : State) (state : HistoryState) (driver : HistoryDriver) → new.jobs ≡ s.jobs → new.calls ≡ s.calls
    → IsDriverOf driver port s.calls → length s.jobs ≡ job_count port.kind port.config s.calls → IsStateOf state port new
    → StandsAt (record { state = state; driver = driver }) port new
stands-other port s new state driver same_jobs same_calls held jobs is = record {
  state_is = is;
  driver_is = subst (λ calls. IsDriverOf driver port calls) (sym same_calls) held;
  jobs_are = ap length same_jobs ∙ (jobs ∙ ap (job_count port.kind port.config) (sym same_calls));
}

-- rows that are taken in
abbrev pub TakesIn : HistoryState → HistoryState → HistoryDriver → Row → RowEnd → Type 0
TakesIn h new driver row closing =
    (port : Opening) (s : State) → law_broken port s row ≡ None → IsStateOf h port s → length s.jobs ≡ job_count port.kind port.config s.calls
    → WentOn port s row closing driver → StandsAt (record { state = new; driver = driver }) port (after port s row)

pub takes-handled : (row : Row) (from : Sender) (seq : ℕ) (task : TaskView) (outside : List Outside) (effects all : List Effect) (signal : Signal) (closing : RowEnd) (h new : HistoryState) (driver : HistoryDriver)
    → row ≡ Handled from seq task outside effects → signal ≡ task.signal → all ≡ effects
    → ((port : Opening) (s : State) (t : Taken) → IsHandledSo from signal all closing.reason closing.stops port s t → IsStateOf h port s → IsStateOf new port (after_handled port s t))
    → TakesIn h new driver row closing
takes-handled row from seq task outside effects all signal closing h new driver row_is signal_is all_are notes =
    subst (λ r. TakesIn h new driver r closing) (sym row_is) (λ port s none is jobs on.
    let t = taken_of from seq task outside effects in
    let kept = all-kept port s (Handled from seq task outside effects) none in
    let so = handled-so port s from seq task outside effects all signal closing driver on jobs kept.jobs signal_is all_are in
    stands-handled port s t closing new driver on jobs (notes port s t so is))

pub takes-late : (row : Row) (from : Sender) (seq : ℕ) (task : TaskView) (signal : Signal) (closing : RowEnd) (h new : HistoryState) (driver : HistoryDriver)
    → row ≡ Late from seq task → signal ≡ task.signal
    → ((port : Opening) (s : State) (t : Taken) → t.from ≡ from → t.task.signal ≡ signal → is_next_job s.jobs s.done signal ≡ true → IsStateOf h port s → IsStateOf new port (after_late s t))
    → TakesIn h new driver row closing
takes-late row from seq task signal closing h new driver row_is signal_is notes =
    subst (λ r. TakesIn h new driver r closing) (sym row_is) (λ port s none is jobs on.
    let kept = all-kept port s (Late from seq task) none in
    let next : is_next_job s.jobs s.done signal ≡ true = subst (λ x. is_next_job s.jobs s.done x ≡ true) (sym signal_is) (next-job s false task.signal kept.jobs) in
    stands-other port s (after_late s (late_of from seq task)) new driver refl refl on jobs
    (notes port s (late_of from seq task) refl (sym signal_is) next is))

pub takes-listed : (row : Row) (from : Sender) (seq : ℕ) (closing : RowEnd) (h new : HistoryState) (driver : HistoryDriver) → row ≡ Listed from seq
    → ((port : Opening) (s : State) → keeps_listed s (Listed from seq) ≡ true → IsStateOf h port s → IsStateOf new port (after port s (Listed from seq)))
    → TakesIn h new driver row closing
takes-listed row from seq closing h new driver row_is notes =
    subst (λ r. TakesIn h new driver r closing) (sym row_is) (λ port s none is jobs on.
    let kept = all-kept port s (Listed from seq) none in
    stands-other port s (after port s (Listed from seq)) new driver refl refl on jobs (notes port s kept.listed is))

pub takes-resumed : (row : Row) (from : Sender) (seq word : ℕ) (closing : RowEnd) (h new : HistoryState) (driver : HistoryDriver) → row ≡ Resumed from seq word
    → ((port : Opening) (s : State) → keeps_resumed s (Resumed from seq word) ≡ true → IsStateOf h port s → IsStateOf new port (after port s (Resumed from seq word)))
    → TakesIn h new driver row closing
takes-resumed row from seq word closing h new driver row_is notes =
    subst (λ r. TakesIn h new driver r closing) (sym row_is) (λ port s none is jobs on.
    let kept = all-kept port s (Resumed from seq word) none in
    stands-other port s (after port s (Resumed from seq word)) new driver refl refl on jobs (notes port s kept.resumed is))

pub takes-mark : (row : Row) (kind : MarkKind) (closing : RowEnd) (h new : HistoryState) (driver : HistoryDriver) → row ≡ Mark kind
    → ((port : Opening) (s : State) → is_due kind s.due ≡ true → IsStateOf h port s → IsStateOf new port (after port s (Mark kind)))
    → TakesIn h new driver row closing
takes-mark row kind closing h new driver row_is notes =
    subst (λ r. TakesIn h new driver r closing) (sym row_is) (λ port s none is jobs on.
    let kept = all-kept port s (Mark kind) none in
    stands-other port s (after port s (Mark kind)) new driver refl refl on jobs (notes port s kept.marks is))

-- a port of a report
pub opened-as : (number processes : ℕ) (kind : Kind) (report : PortReport) → IsOpenedAs (opening_of number processes kind report) processes kind report
opened-as number processes kind report = record { processes_are = refl; kind_is = refl; config_is = refl; owner_is = refl; read_is = refl; write_is = refl }

-- what is kept of a port that was just opened
pub starts-walk : (port : Opening) (state : HistoryState) (driver : HistoryDriver) (effects : List Effect) → Starts driver effects port
    → IsStateOf state port (state_at_start port) → StandsAt (record { state = state; driver = driver }) port (state_at_start port)
starts-walk port state driver effects starts is = record {
  state_is = is;
  driver_is = starts.driver_is;
  jobs_are =
      let count : job_count port.kind port.config (start_call port ∷ []) ≡ length (submitted_by effects) = starts.numbers.jobs ∙ zero-add (length (submitted_by effects)) in
      ap (λ es. length (submitted_by es)) (sym starts.effects_are) ∙ sym count;
}

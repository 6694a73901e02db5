-- A body that has finished stays finished: each lawful row behind is late, or tells of no task.
use Rattle.std.proofs.Common.{◌≡◌, ℕ, suc, zero, ◌==◌, Bool, true, false, ◌&&◌, ◌||◌, List, [], ◌∷◌, ◌++◌, refl, sym, ap, ◌∙◌, subst, inl, inr}
use Rattle.std.specs.Prelude.{not, nat_lt, reverse, if◌then◌else◌}
use Rattle.std.specs.List.{list_all}
use Rattle.std.proofs.lemmas.List.{reverse-append}
use Rattle.port_model.specs.declared.event.Dir.{Dir}
use Rattle.port_model.specs.declared.event.Dir.TheVariants.{Read, Write}
use Rattle.port_model.specs.declared.effect.Effect.{Effect}
use Rattle.port_model.specs.port_signal.declared.outside.Outside.{Outside}
use Rattle.port_model.specs.declared.row.Row.{Row}
use Rattle.port_model.specs.declared.row.Row.TheVariants.{Handled, Late, Listed, Resumed, Mark}
use Rattle.port_model.specs.declared.signal.Sender.{Sender}
use Rattle.port_model.specs.declared.signal.Sender.TheVariants.{Process, Poller, Worker, Timer}
use Rattle.port_model.specs.declared.signal.Signal.{Signal}
use Rattle.port_model.specs.declared.signal.Signal.TheVariants as signal
use Rattle.port_model.specs.Tasks.{TaskView}
use Rattle.port_events.specs.port_history.Events.{Event, change, disarm, event_of, is_selected, told_of, unused}
use Rattle.port_events.specs.port_history.Jobs.{Submitted, done_by, is_done, is_submitted}
use Rattle.port_events.specs.port_history.Laws.{all_resumed, is_given_back, is_ready, keeps_end}
use Rattle.port_events.specs.port_history.Lawful.{IsFinished}
use Rattle.port_events.specs.port_history.Marks.{none_due}
use Rattle.port_events.specs.port_history.Opening.{Opening}
use Rattle.port_events.specs.port_history.State.{State, after, is_open, state}
use Rattle.port_events.specs.port_history.Suspension.{Entry}
use Rattle.recorded_port.specs.served_port.View.{IsAt}
use Rattle.recorded_port.specs.Laws.{IsLawful, KeepsPortLaws}
use Rattle.recorded_port.specs.View.{RecordedView, is_finished, state_of}
use Rattle.port_body.specs.LanePort.{LanePortView, IsBody, IsSameLanePort}
use Rattle.port_body.specs.Steps.{HasLooked}
use Rattle.port_body.specs.Turns.{Steps}

and-first : (a b : Bool) → (a && b) ≡ true → a ≡ true
and-first true b e = refl
and-first false b e = absurd cc

and-last : (a b : Bool) → (a && b) ≡ true → b ≡ true
and-last true b e = e
and-last false b e = absurd cc

and-both : (a b : Bool) → a ≡ true → b ≡ true → (a && b) ≡ true
and-both a b e f = rw (e, f) refl

-- The events

given_disarmed : (dir : Dir) (e : Event) → is_given_back (disarm dir e) ≡ is_given_back e
given_disarmed Read e = refl
given_disarmed Write e = refl

fresh_disarmed : (dir : Dir) (n : ℕ) → is_given_back (disarm dir (unused n)) ≡ true
fresh_disarmed Read n = refl
fresh_disarmed Write n = refl

given_change : (n : ℕ) (dir : Dir) (events : List Event) → list_all is_given_back events ≡ true → list_all is_given_back (change n (disarm dir) events) ≡ true
given_change n dir [] all = and-both _ _ (fresh_disarmed dir n) refl
given_change n dir (e ∷ events) all = elim (nat_lt n e.number) as (λ b. list_all is_given_back (if b then disarm dir (unused n) ∷ e ∷ events
    else (if e.number == n then disarm dir e ∷ events else e ∷ change n (disarm dir) events)) ≡ true) [
      | true ↦ and-both _ _ (fresh_disarmed dir n) all
      | false ↦ elim (e.number == n) as (λ b. list_all is_given_back (if b then disarm dir e ∷ events else e ∷ change n (disarm dir) events) ≡ true) [
        | true ↦ and-both _ _ (given_disarmed dir e ∙ and-first (is_given_back e) _ all) (and-last (is_given_back e) _ all)
        | false ↦ and-both _ _ (and-first (is_given_back e) _ all) (given_change n dir events (and-last (is_given_back e) _ all))
      ]
    ]

given_one : (n : ℕ) (events : List Event) → list_all is_given_back events ≡ true → is_given_back (event_of n events) ≡ true
given_one n [] all = refl
given_one n (e ∷ events) all = elim (e.number == n) as (λ b. is_given_back (if b then e else event_of n events) ≡ true) [
  | true ↦ and-first (is_given_back e) _ all
  | false ↦ given_one n events (and-last (is_given_back e) _ all)
]

abbrev NoneSelected : List Event → Type 0
NoneSelected events = (n : ℕ) (dir : Dir) → is_selected dir (event_of n events) ≡ false

selected_disarmed : (other dir : Dir) (e : Event) → is_selected other (disarm dir e) ≡ is_selected other e
selected_disarmed Read Read e = refl
selected_disarmed Read Write e = refl
selected_disarmed Write Read e = refl
selected_disarmed Write Write e = refl

unselected : (other : Dir) (n : ℕ) → is_selected other (unused n) ≡ false
unselected Read n = refl
unselected Write n = refl

number_kept : (dir : Dir) (e : Event) → (disarm dir e).number ≡ e.number
number_kept Read e = refl
number_kept Write e = refl

by_number : (b : Bool) (other : Dir) (e f x y : Event) → is_selected other (if b then e else x) ≡ false → (is_selected other e ≡ false → is_selected other f ≡ false)
    → (is_selected other x ≡ false → is_selected other y ≡ false) → is_selected other (if b then f else y) ≡ false
by_number true other e f x y none same rest = same none
by_number false other e f x y none same rest = rest none

-- an event that is disarmed is selected as before, and so are the others
none_change : (n : ℕ) (dir : Dir) (events : List Event) (m : ℕ) (other : Dir) → is_selected other (event_of m events) ≡ false
    → is_selected other (event_of m (change n (disarm dir) events)) ≡ false
none_change n dir [] m other none = elim ((disarm dir (unused n)).number == m) as (λ b. is_selected other (if b then disarm dir (unused n) else unused m) ≡ false) [
  | true ↦ selected_disarmed other dir (unused n) ∙ unselected other n
  | false ↦ unselected other m
]
none_change n dir (e ∷ events) m other none = elim (nat_lt n e.number) as (λ b. is_selected other (event_of m (if b then disarm dir (unused n) ∷ e ∷ events
    else (if e.number == n then disarm dir e ∷ events else e ∷ change n (disarm dir) events))) ≡ false) [
      | true ↦ elim ((disarm dir (unused n)).number == m) as (λ b. is_selected other (if b then disarm dir (unused n) else event_of m (e ∷ events)) ≡ false) [
        | true ↦ selected_disarmed other dir (unused n) ∙ unselected other n
        | false ↦ none
      ]
      | false ↦ elim (e.number == n) as (λ b. is_selected other (event_of m (if b then disarm dir e ∷ events else e ∷ change n (disarm dir) events)) ≡ false) [
        | true ↦ subst (λ k. is_selected other (if k == m then disarm dir e else event_of m events) ≡ false) (sym (number_kept dir e))
            (by_number (e.number == m) other e (disarm dir e) (event_of m events) (event_of m events) none (λ is. selected_disarmed other dir e ∙ is) (λ is. is))
        | false ↦ by_number (e.number == m) other e e (event_of m events) (event_of m (change n (disarm dir) events)) none (λ is. is) (none_change n dir events m other)
      ]
    ]

-- The jobs

more_done : (number other : ℕ) (done : List ℕ) → is_done number done ≡ true → is_done number (other ∷ done) ≡ true
more_done number other done is = elim (other == number) as (λ b. (b || is_done number done) ≡ true) [
  | true ↦ refl
  | false ↦ is
]

all_done : (jobs : List Submitted) (other : ℕ) (done : List ℕ) → list_all (λ (job : Submitted). is_done job.number done) jobs ≡ true
    → list_all (λ (job : Submitted). is_done job.number (other ∷ done)) jobs ≡ true
all_done [] other done all = refl
all_done (job ∷ jobs) other done all =
    and-both _ _ (more_done job.number other done (and-first (is_done job.number done) _ all)) (all_done jobs other done (and-last (is_done job.number done) _ all))

-- What stays of a history at whose end nothing is wanting but a mark and a resume

record IsOver (s : State) : Type 0 where
  pub stopped : s.stopped ≡ true
  pub closed : is_open s ≡ false
  pub unselected : NoneSelected s.events
  pub given_back : list_all is_given_back s.events ≡ true
  pub done : list_all (λ (job : Submitted). is_done job.number s.done) s.jobs ≡ true

record IsTold (events : List Event) (jobs : List Submitted) (done : List ℕ) : Type 0 where
  pub unselected : NoneSelected events
  pub given_back : list_all is_given_back events ≡ true
  pub done_are : list_all (λ (job : Submitted). is_done job.number done) jobs ≡ true

told : (s : State) (sig : Signal) → IsOver s → IsTold (told_of true sig s.events) s.jobs (done_by sig s.done)
told s (signal.Ready event dir) over = record {
  unselected = λ n other. none_change event dir s.events n other (over.unselected n other);
  given_back = given_change event dir s.events over.given_back;
  done_are = over.done;
}
told s (signal.AsyncDone number output) over = record { unselected = over.unselected; given_back = over.given_back; done_are = all_done s.jobs number s.done over.done }
told s (signal.Command payload) over = record { unselected = over.unselected; given_back = over.given_back; done_are = over.done }
told s (signal.OwnerCommand payload) over = record { unselected = over.unselected; given_back = over.given_back; done_are = over.done }
told s (signal.Control op bytes) over = record { unselected = over.unselected; given_back = over.given_back; done_are = over.done }
told s (signal.Call op bytes) over = record { unselected = over.unselected; given_back = over.given_back; done_are = over.done }
told s signal.Close over = record { unselected = over.unselected; given_back = over.given_back; done_are = over.done }
told s signal.OwnerClose over = record { unselected = over.unselected; given_back = over.given_back; done_are = over.done }
told s (signal.Connect other) over = record { unselected = over.unselected; given_back = over.given_back; done_are = over.done }
told s (signal.OwnerConnect other) over = record { unselected = over.unselected; given_back = over.given_back; done_are = over.done }
told s signal.Link over = record { unselected = over.unselected; given_back = over.given_back; done_are = over.done }
told s signal.Unlink over = record { unselected = over.unselected; given_back = over.given_back; done_are = over.done }
told s (signal.Monitor number) over = record { unselected = over.unselected; given_back = over.given_back; done_are = over.done }
told s (signal.Demonitor number) over = record { unselected = over.unselected; given_back = over.given_back; done_are = over.done }
told s (signal.Exit reason) over = record { unselected = over.unselected; given_back = over.given_back; done_are = over.done }
told s (signal.Gone reason) over = record { unselected = over.unselected; given_back = over.given_back; done_are = over.done }
told s (signal.Dropped event) over = record { unselected = over.unselected; given_back = over.given_back; done_are = over.done }

waits_none : (e : Event) → is_given_back e ≡ true → e.waits ≡ false
waits_none e given = second e.held e.waits given where
  second : (a b : Bool) → not (a || b) ≡ true → b ≡ false
  second true b e = absurd cc
  second false true e = absurd cc
  second false false e = refl

if_true : (b : Bool) → (if b then true else false) ≡ true → b ≡ true
if_true true e = refl
if_true false e = absurd cc

-- no task is handled any more
from_poller : (s : State) (port : Opening) (seq : ℕ) (sig : Signal) (suspends forced : Bool) (outside : List Outside) (effects : List Effect) → IsOver s
    → KeepsPortLaws port s (Handled Poller seq (record { signal = sig; suspends = suspends; forced = forced }) outside effects) → ⊥
from_poller s port seq (signal.Ready event dir) suspends forced outside effects over keeps =
    absurd (let ready = and-first (is_selected dir (event_of event s.events)) _ (if_true (is_ready s event dir) keeps.ready) in let none = over.unselected event dir in cc)
from_poller s port seq (signal.Dropped event) suspends forced outside effects over keeps =
    absurd (let waits = if_true (event_of event s.events).waits keeps.ready in let none = waits_none (event_of event s.events) (given_one event s.events over.given_back) in cc)
from_poller s port seq (signal.Command payload) suspends forced outside effects over keeps = absurd (let may = and-last _ false keeps.order in cc)
from_poller s port seq (signal.OwnerCommand payload) suspends forced outside effects over keeps = absurd (let may = and-last _ false keeps.order in cc)
from_poller s port seq (signal.Control op bytes) suspends forced outside effects over keeps = absurd (let may = and-last _ false keeps.order in cc)
from_poller s port seq (signal.Call op bytes) suspends forced outside effects over keeps = absurd (let may = and-last _ false keeps.order in cc)
from_poller s port seq signal.Close suspends forced outside effects over keeps = absurd (let may = and-last _ false keeps.order in cc)
from_poller s port seq signal.OwnerClose suspends forced outside effects over keeps = absurd (let may = and-last _ false keeps.order in cc)
from_poller s port seq (signal.Connect other) suspends forced outside effects over keeps = absurd (let may = and-last _ false keeps.order in cc)
from_poller s port seq (signal.OwnerConnect other) suspends forced outside effects over keeps = absurd (let may = and-last _ false keeps.order in cc)
from_poller s port seq signal.Link suspends forced outside effects over keeps = absurd (let may = and-last _ false keeps.order in cc)
from_poller s port seq signal.Unlink suspends forced outside effects over keeps = absurd (let may = and-last _ false keeps.order in cc)
from_poller s port seq (signal.Monitor number) suspends forced outside effects over keeps = absurd (let may = and-last _ false keeps.order in cc)
from_poller s port seq (signal.Demonitor number) suspends forced outside effects over keeps = absurd (let may = and-last _ false keeps.order in cc)
from_poller s port seq (signal.Exit reason) suspends forced outside effects over keeps = absurd (let may = and-last _ false keeps.order in cc)
from_poller s port seq (signal.Gone reason) suspends forced outside effects over keeps = absurd (let may = and-last _ false keeps.order in cc)
from_poller s port seq (signal.AsyncDone number output) suspends forced outside effects over keeps = absurd (let may = and-last _ false keeps.order in cc)

not_told : (submitted stopped : Bool) → stopped ≡ true → (if submitted && not stopped then true else false) ≡ true → ⊥
not_told true stopped is e = absurd (let told = sym (ap (λ b. if not b then true else false) is) ∙ e in cc)
not_told false stopped is e = absurd cc

from_worker : (s : State) (port : Opening) (n seq : ℕ) (sig : Signal) (suspends forced : Bool) (outside : List Outside) (effects : List Effect) → IsOver s
    → KeepsPortLaws port s (Handled (Worker n) seq (record { signal = sig; suspends = suspends; forced = forced }) outside effects) → ⊥
from_worker s port n seq (signal.AsyncDone number output) suspends forced outside effects over keeps = not_told (is_submitted number s.jobs) s.stopped over.stopped keeps.jobs
from_worker s port n seq (signal.Command payload) suspends forced outside effects over keeps = absurd (let may = and-last _ false keeps.order in cc)
from_worker s port n seq (signal.OwnerCommand payload) suspends forced outside effects over keeps = absurd (let may = and-last _ false keeps.order in cc)
from_worker s port n seq (signal.Control op bytes) suspends forced outside effects over keeps = absurd (let may = and-last _ false keeps.order in cc)
from_worker s port n seq (signal.Call op bytes) suspends forced outside effects over keeps = absurd (let may = and-last _ false keeps.order in cc)
from_worker s port n seq signal.Close suspends forced outside effects over keeps = absurd (let may = and-last _ false keeps.order in cc)
from_worker s port n seq signal.OwnerClose suspends forced outside effects over keeps = absurd (let may = and-last _ false keeps.order in cc)
from_worker s port n seq (signal.Connect other) suspends forced outside effects over keeps = absurd (let may = and-last _ false keeps.order in cc)
from_worker s port n seq (signal.OwnerConnect other) suspends forced outside effects over keeps = absurd (let may = and-last _ false keeps.order in cc)
from_worker s port n seq signal.Link suspends forced outside effects over keeps = absurd (let may = and-last _ false keeps.order in cc)
from_worker s port n seq signal.Unlink suspends forced outside effects over keeps = absurd (let may = and-last _ false keeps.order in cc)
from_worker s port n seq (signal.Monitor number) suspends forced outside effects over keeps = absurd (let may = and-last _ false keeps.order in cc)
from_worker s port n seq (signal.Demonitor number) suspends forced outside effects over keeps = absurd (let may = and-last _ false keeps.order in cc)
from_worker s port n seq (signal.Exit reason) suspends forced outside effects over keeps = absurd (let may = and-last _ false keeps.order in cc)
from_worker s port n seq (signal.Gone reason) suspends forced outside effects over keeps = absurd (let may = and-last _ false keeps.order in cc)
from_worker s port n seq (signal.Ready event dir) suspends forced outside effects over keeps = absurd (let may = and-last _ false keeps.order in cc)
from_worker s port n seq (signal.Dropped event) suspends forced outside effects over keeps = absurd (let may = and-last _ false keeps.order in cc)

handled_none : (s : State) (port : Opening) (from : Sender) (seq : ℕ) (task : TaskView) (outside : List Outside) (effects : List Effect) → IsOver s
    → KeepsPortLaws port s (Handled from seq task outside effects) → ⊥
handled_none s port (Process process) seq task outside effects over keeps = absurd (let opened : is_open s ≡ true = keeps.lifetime in let closed = over.closed in cc)
handled_none s port Poller seq task outside effects over keeps = from_poller s port seq task.signal task.suspends task.forced outside effects over keeps
handled_none s port (Worker n) seq task outside effects over keeps = from_worker s port n seq task.signal task.suspends task.forced outside effects over keeps
handled_none s port Timer seq task outside effects over keeps = absurd (let may = and-last _ false keeps.order in cc)

over_row : (port : Opening) (s : State) (row : Row) → IsOver s → KeepsPortLaws port s row → IsOver (after port s row)
over_row port s (Handled from seq task outside effects) over keeps = absurd (handled_none s port from seq task outside effects over keeps)
over_row port s (Late from seq task) over keeps =
    let t = told s task.signal over in
    record { stopped = over.stopped; closed = over.closed; unselected = t.unselected; given_back = t.given_back; done = t.done_are }
over_row port s (Listed from seq) over keeps = record { stopped = over.stopped; closed = over.closed; unselected = over.unselected; given_back = over.given_back; done = over.done }
over_row port s (Resumed from seq word) over keeps = record { stopped = over.stopped; closed = over.closed; unselected = over.unselected; given_back = over.given_back; done = over.done }
over_row port s (Mark kind) over keeps = record { stopped = over.stopped; closed = over.closed; unselected = over.unselected; given_back = over.given_back; done = over.done }

over_rows : (port : Opening) (more older : List Row) → IsOver (state port older) → IsLawful port (more ++ older) → IsOver (state port (more ++ older))
over_rows port [] older over lawful = over
over_rows port (row ∷ more) older over lawful = over_row port (state port (more ++ older)) row (over_rows port more older over lawful.1) lawful.0

over_port : (old new : RecordedView) (more : List Row) → new.rows ≡ old.rows ++ more → new.opening ≡ old.opening → IsOver (state_of old) → IsLawful new.opening (reverse new.rows)
    → IsOver (state_of new)
over_port old new more rows opening over lawful =
    let history : reverse new.rows ≡ reverse more ++ reverse old.rows = ap reverse rows ∙ reverse-append old.rows more in
    subst (λ o. IsOver (state o (reverse new.rows))) (sym opening) (subst (λ r. IsOver (state old.opening r)) (sym history)
    (over_rows old.opening (reverse more) (reverse old.rows) over (subst (λ r. IsLawful old.opening r) history (subst (λ o. IsLawful o (reverse new.rows)) opening lawful))))

resumed_all : (listed : List Entry) → all_resumed listed ≡ true → listed ≡ []
resumed_all [] all = refl
resumed_all (e ∷ listed) all = absurd cc

-- a finished history is over, and one that is over with nobody listed and no mark due is finished
over_at : (v : RecordedView) → IsAt v.port v.opening (state_of v) → is_finished (state_of v) ≡ true → IsOver (state_of v)
over_at v at finished =
    let s = state_of v in
    let end = and-last (none_due s.due) (keeps_end s) finished in
    let done = λ (job : Submitted). is_done job.number s.done in
    let some = and-first ((s.stopped && all_resumed s.listed) && list_all is_given_back s.events) (list_all done s.jobs) end in
    let stopped = and-first s.stopped (all_resumed s.listed) (and-first (s.stopped && all_resumed s.listed) (list_all is_given_back s.events) some) in
    record {
      stopped = stopped;
      closed = at.closed stopped;
      unselected = at.given_up stopped;
      given_back = and-last (s.stopped && all_resumed s.listed) (list_all is_given_back s.events) some;
      done = and-last ((s.stopped && all_resumed s.listed) && list_all is_given_back s.events) (list_all done s.jobs) end;
    }

-- of a finished history nothing is wanting, and its port isn't open
pub finished_end : (v : RecordedView) → is_finished (state_of v) ≡ true → IsFinished v.opening (reverse v.rows)
finished_end v finished =
    let s = state_of v in
    record { marks = and-first (none_due s.due) (keeps_end s) finished; end = and-last (none_due s.due) (keeps_end s) finished }

pub finished_shut : (v : RecordedView) → IsAt v.port v.opening (state_of v) → is_finished (state_of v) ≡ true → is_open (state_of v) ≡ false
finished_shut v at finished = (over_at v at finished).closed

none_listed : (s : State) → is_finished s ≡ true → s.listed ≡ []
none_listed s finished =
    let done = λ (job : Submitted). is_done job.number s.done in
    let some = and-first ((s.stopped && all_resumed s.listed) && list_all is_given_back s.events) (list_all done s.jobs) (and-last (none_due s.due) (keeps_end s) finished) in
    resumed_all s.listed (and-last s.stopped (all_resumed s.listed) (and-first (s.stopped && all_resumed s.listed) (list_all is_given_back s.events) some))

finished_over : (s : State) → IsOver s → s.due ≡ [] → s.listed ≡ [] → is_finished s ≡ true
finished_over s over due listed =
    and-both _ _ (ap none_due due)
    (and-both _ _ (and-both _ _ (and-both _ _ over.stopped (ap all_resumed listed)) over.given_back) over.done)

-- where the port isn't open nobody is listed after a step
looked_shut : (v : RecordedView) → HasLooked v → is_open (state_of v) ≡ false → (state_of v).listed ≡ []
looked_shut v (inl none) shut = none
looked_shut v (inr stays) shut = absurd (let opened = stays.opened in cc)

looked_steps : (made : ℕ) (old new : LanePortView) → Steps made old new → (state_of old.port).listed ≡ [] → is_open (state_of new.port) ≡ false → (state_of new.port).listed ≡ []
looked_steps zero old new steps none shut = ap (λ (v : LanePortView). (state_of v.port).listed) steps ∙ none
looked_steps (suc made) old new steps none shut = looked_shut new.port steps.2.1 shut

pub finished_steps : (made : ℕ) (old new : LanePortView) → IsBody old → IsBody new → IsSameLanePort old new → Steps made old new → is_finished (state_of old.port) ≡ true
    → is_finished (state_of new.port) ≡ true
finished_steps made old new before after same steps finished =
    let s = state_of old.port in
    let over = over_at old.port before.holds.settled.recorded.at finished in
    let now = over_port old.port new.port same.port.rows.more same.port.rows.rows same.port.opening over after.holds.settled.recorded.lawful in
    let listed = none_listed s finished in
    finished_over (state_of new.port) now after.holds.settled.none_due (looked_steps made old new steps listed now.closed)

-- and a step more that found nothing
pub finished_idle : (old new mid : LanePortView) → IsBody old → IsBody new → IsSameLanePort old new → (made : ℕ) → Steps made old mid → state_of new.port ≡ state_of mid.port
    → is_finished (state_of old.port) ≡ true → is_finished (state_of new.port) ≡ true
finished_idle old new mid before after same made steps none finished =
    let s = state_of old.port in
    let over = over_at old.port before.holds.settled.recorded.at finished in
    let now = over_port old.port new.port same.port.rows.more same.port.rows.rows same.port.opening over after.holds.settled.recorded.lawful in
    let listed = none_listed s finished in
    let shut = sym (ap is_open none) ∙ now.closed in
    finished_over (state_of new.port) now after.holds.settled.none_due (ap (λ (x : State). x.listed) none ∙ looked_steps made old mid steps listed shut)

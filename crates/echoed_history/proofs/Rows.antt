-- A row of a port that sends each command back: who is tied to it, and what it sends.
use Rattle.std.proofs.Common.{◌≡◌, ℕ, ◌+◌, ◌==◌, ◌&&◌, ◌||◌, not, Bool, true, false, cond, List, [], ◌∷◌, ◌++◌, Option, Some, None, refl, sym, ap, ◌∙◌}
use Rattle.std.specs.Prelude.{nat_lt, is_some, map, codes}
use Rattle.std.specs.List.{AllByRecursion, flat_map, concat}
use Rattle.std.proofs.lemmas.Bool.{eq-eqb, ne_eqb, or_left}
use Rattle.std.proofs.lemmas.List.{append-nil}
use Rattle.std.proofs.lemmas.List.Sums.{sum_by-cons}
use Rattle.driver_model.specs.port_signal.Links.{has, with_process, without_process, end_closes}
use Rattle.driver_model.specs.port_signal.Reasons.{is_kill, is_normal}
use Rattle.port_history.specs.port_model.io_vector.declared.flag.Flag.TheVariants.{Plain}
use Rattle.port_history.specs.port_model.declared.event.Dir.TheVariants.{Read, Write}
use Rattle.port_history.specs.port_model.declared.effect.Effect.{Effect}
use Rattle.port_history.specs.port_model.declared.effect.Effect.TheVariants.{Message as Data}
use Rattle.port_history.specs.port_model.declared.mail.Mail.{Mail}
use Rattle.port_history.specs.port_model.declared.mail.Mail.TheVariants as mail
use Rattle.driver_model.specs.port_signal.declared.outside.Outside.{Outside}
use Rattle.port_history.specs.port_model.declared.row.Row.{Row}
use Rattle.port_history.specs.port_model.declared.signal.Sender.{Sender}
use Rattle.port_history.specs.port_model.declared.signal.Sender.TheVariants.{Process, Poller, Worker, Timer}
use Rattle.port_history.specs.port_model.declared.signal.Signal.{Signal}
use Rattle.port_history.specs.port_model.declared.signal.Signal.TheVariants.{Command, OwnerCommand, Close, OwnerClose, Gone, Ready, Dropped, AsyncDone}
use Rattle.port_history.specs.port_model.Signals.{is_command}
use Rattle.port_history.specs.port_model.Tasks.{TaskView}
use Rattle.driver_model.specs.Calls as driver
use Rattle.driver_model.specs.Calls.{Callback, DriverCall, call_of}
use Rattle.port_history.specs.Counts.{saved_of, is_late_command, late_commands}
use Rattle.port_history.specs.Laws.{may_send}
use Rattle.port_history.specs.Mail.{Sent, effect_mail, mail_for, answers, answer_mail, closing_mail, closed_mail, handled_mail, send}
use Rattle.port_history.specs.Opening.{Opening, Taken, taken_of}
use Rattle.port_history.specs.Service.{callback_of, caller_of, calls_by, exit_callback, effects_after, flush_calls, is_drained, must_stop, stop_calls, first_reason}
use Rattle.port_history.specs.State.{State, closing_reason, signal_calls, flushed_calls, stops, row_calls, closer_after}
use Rattle.port_history.specs.Ties.{Ties, tied, tied_by, closes_for, signal_reason, failure}
use Rattle.echoed_history.proofs.Effects.{}
use Rattle.echoed_history.specs.Commands.{command_data, echoes, is_closing, task_data}
use Rattle.port_body.specs.LanePort.{task_from}
use Rattle.echoed_history.proofs.Effects.{is_silent, silent, sends-back}
use Rattle.echoed_history.proofs.Lists.{both}

-- who has ended

pub has-other : (p q : ℕ) (xs : List ℕ) → (q ≡ p → ⊥) → has p (with_process q xs) ≡ has p xs
has-other p q [] apart = ap (λ b. b || false) (ne_eqb q p apart)
has-other p q (x ∷ xs) apart = place (has-other p q xs apart) (nat_lt q x) (x == q)
  where
    place : has p (with_process q xs) ≡ has p xs → (a b : Bool) → has p (cond a (q ∷ x ∷ xs) (cond b (x ∷ xs) (x ∷ with_process q xs))) ≡ has p (x ∷ xs)
    place rest true b = ap (λ c. c || ((x == p) || has p xs)) (ne_eqb q p apart)
    place rest false true = refl
    place rest false false = ap (λ c. (x == p) || c) rest

-- the port is open, its opener is its owner, the only linked process and hasn't ended, and its driver isn't stopped
pub record IsServing (port : Opening) (s : State) : Type 0 where
  pub unclosed : s.reason ≡ None
  pub owner : s.ties.owner ≡ port.owner
  pub linked : s.ties.linked ≡ port.owner ∷ []
  pub alive : has port.owner s.ties.ended ≡ false
  pub running : s.stopped ≡ false

-- the row of a task that doesn't close the port has the call of its signal alone
pub record StaysOpen (port : Opening) (s : State) (t : Taken) : Type 0 where
  pub closing : closing_reason s t ≡ None
  pub runs : stops port s t ≡ false
  pub calls : row_calls port s t ≡ signal_calls s t

pub stays-open : (port : Opening) (s : State) (t : Taken) → IsServing port s → failure t.effects ≡ None → signal_reason s.ties t.from t.task.signal ≡ None → StaysOpen port s t
stays-open port s t serving fails none =
    let closing : closing_reason s t ≡ None = λ i. cond (is_some (serving.unclosed i)) None (first_reason (fails i) (none i)) in
    let runs : stops port s t ≡ false = λ i. not (serving.running i) && must_stop port (first_reason (serving.unclosed i) (closing i)) (flushed_calls port s t ++ s.calls) in
    record {
      closing = closing;
      runs = runs;
      calls = λ i. stop_calls (runs i) (caller_of s.ties t.from) ++ (flush_calls port (caller_of s.ties t.from) (closing i) (signal_calls s t ++ s.calls) ++ signal_calls s t);
    }

-- A task that a serving port handles and stays open: its effects, and what is saved of its mail for the owner
pub record IsServed (port : Opening) (s : State) (t : Taken) (effects : List Effect) : Type 0 where
  pub none : signal_reason s.ties t.from t.task.signal ≡ None
  pub owner : (tied port s.ties t.from t.task.signal).owner ≡ port.owner
  pub linked : (tied port s.ties t.from t.task.signal).linked ≡ port.owner ∷ []
  pub alive : has port.owner (tied port s.ties t.from t.task.signal).ended ≡ false
  pub made : effects_after port s.calls (signal_calls s t) ≡ effects
  pub unanswered : answers port s.ties t.from t.seq t.effects t.task.signal ≡ []
  pub saved : saved_of port.number (mail_for port.owner (flat_map (effect_mail port.number s.ties.owner) effects)) ≡ flat_map task_data (task_from (Process port.owner) t.from t.task)

-- the task is the owner's, or isn't
pub own-task : (owner p : ℕ) (task : TaskView) → p ≡ owner → task_from (Process owner) (Process p) task ≡ task ∷ []
own-task owner p task own = ap (λ b. cond b (task ∷ []) []) (eq-eqb owner p (sym own))

pub other-task : (owner p : ℕ) (task : TaskView) → (p ≡ owner → ⊥) → task_from (Process owner) (Process p) task ≡ []
other-task owner p task apart = ap (λ b. cond b (task ∷ []) []) (ne_eqb owner p (λ e. apart (sym e)))

-- the owner's command is sent back
pub command-is-served : (port : Opening) (s : State) (p seq : ℕ) (task : TaskView) (outside : List Outside) (effects : List Effect) (payload : List (List ℕ)) → echoes port.kind ≡ true → IsServing port s → p ≡ port.owner
    → task.signal ≡ Command payload → IsServed port s (taken_of (Process p) seq task outside effects) (Data Plain (concat payload) ∷ [])
command-is-served port s p seq task outside effects payload is serving own command =
    let t = taken_of (Process p) seq task outside effects in
    let bytes = concat payload in
    let call = call_of (driver.Outputv bytes) p outside effects in
    record {
      none = ap (closes_for s.ties p) command;
      owner = ap (λ x. (tied_by port s.ties p x).owner) command ∙ serving.owner;
      linked = ap (λ x. (tied_by port s.ties p x).linked) command ∙ serving.linked;
      alive = ap (λ x. has port.owner (tied_by port s.ties p x).ended) command ∙ serving.alive;
      made = ap (λ x. effects_after port s.calls (calls_by (callback_of s.ties s.watched (Process p) x) p t)) command ∙ sends-back port.kind port.config call s.calls bytes is refl;
      unanswered = ap (answer_mail port s.ties p seq effects) command;
      saved = ap (λ b. saved_of port.number (map-mail b)) (eq-eqb s.ties.owner port.owner serving.owner)
          ∙ ap (λ b. cond b (bytes ++ []) [] ++ []) (eq-eqb port.number port.number refl)
          ∙ append-nil (bytes ++ [])
          ∙ sym (ap (flat_map task_data) (own-task port.owner p task own) ∙ ap (λ x. command_data x ++ []) command);
    }
  where
    map-mail : Bool → List Mail
    map-mail b = map (λ (m : Sent). m.mail) (cond b (send s.ties.owner (mail.Message port.number Plain (concat payload)) ∷ []) [])

-- a callback that has no effect, or none
abbrev pub is_quiet : Option Callback → Bool
is_quiet None = true
is_quiet (Some callback) = is_silent callback

quiet-calls : (port : Opening) (earlier : List DriverCall) (callback : Option Callback) (caller : ℕ) (t : Taken) → echoes port.kind ≡ true → is_quiet callback ≡ true
    → effects_after port earlier (calls_by callback caller t) ≡ []
quiet-calls port earlier None caller t is quiet = refl
quiet-calls port earlier (Some callback) caller t is quiet = silent port.kind port.config (call_of callback caller t.outside t.effects) earlier is quiet

quiet-end : (watched : List ℕ) (p : ℕ) → is_quiet (exit_callback watched (Process p)) ≡ true
quiet-end watched p = elim (has p watched) as (λ b. is_quiet (cond b (Some (driver.ProcessExit p)) None) ≡ true) [
  | true ↦ refl
  | false ↦ refl
]

-- calls that have no effect
abbrev AreSilent : List DriverCall → Type 0
AreSilent calls = AllByRecursion (λ (c : DriverCall). is_silent c.callback ≡ true) calls

no-effects : (port : Opening) (earlier calls : List DriverCall) → echoes port.kind ≡ true → AreSilent calls → effects_after port earlier calls ≡ []
no-effects port earlier [] is quiet = refl
no-effects port earlier (call ∷ before) is quiet = (λ i. no-effects port earlier before is quiet.1 i ++ silent port.kind port.config call (before ++ earlier) is quiet.0 i)

stop-silent : (stopped : Bool) (caller : ℕ) → AreSilent (stop_calls stopped caller)
stop-silent true caller = (refl, tt)
stop-silent false caller = tt

flush-silent : (port : Opening) (caller : ℕ) (reason : Option (List ℕ)) (earlier : List DriverCall) → AreSilent (flush_calls port caller reason earlier)
flush-silent port caller None earlier = tt
flush-silent port caller (Some reason) earlier = by (is_kill reason || is_drained port earlier)
  where
    by : (b : Bool) → AreSilent (cond b [] (call_of driver.Flush caller [] [] ∷ []))
    by true = tt
    by false = (refl, tt)

signal-silent : (callback : Option Callback) (caller : ℕ) (t : Taken) → is_quiet callback ≡ true → AreSilent (calls_by callback caller t)
signal-silent None caller t quiet = tt
signal-silent (Some callback) caller t quiet = (quiet, tt)

-- the row of a task has no effects whose signal has none
pub row-silent : (port : Opening) (s : State) (t : Taken) → echoes port.kind ≡ true → is_quiet (callback_of s.ties s.watched t.from t.task.signal) ≡ true → effects_after port s.calls (row_calls port s t) ≡ []
row-silent port s t is quiet =
    let caller = caller_of s.ties t.from in
    no-effects port s.calls (row_calls port s t) is
    (both _ (stop_calls (stops port s t) caller) (flushed_calls port s t) (stop-silent (stops port s t) caller)
    (both _ (flush_calls port caller (closing_reason s t) (signal_calls s t ++ s.calls)) (signal_calls s t) (flush-silent port caller (closing_reason s t) (signal_calls s t ++ s.calls))
    (signal-silent (callback_of s.ties s.watched t.from t.task.signal) caller t quiet)))

-- what closes the port is no command, and has no effect
pub closing-command : (signal : Signal) → is_closing signal ≡ true → is_command signal ≡ false
closing-command (Command payload) is = absurd cc
closing-command (OwnerCommand payload) is = absurd cc
closing-command signal is = refl

pub closing-data : (signal : Signal) → is_closing signal ≡ true → command_data signal ≡ []
closing-data (Command payload) is = absurd cc
closing-data signal is = refl

pub closing-quiet : (ties : Ties) (watched : List ℕ) (p : ℕ) (signal : Signal) → is_closing signal ≡ true → is_quiet (callback_of ties watched (Process p) signal) ≡ true
closing-quiet ties watched p Close is = refl
closing-quiet ties watched p OwnerClose is = refl
closing-quiet ties watched p (Gone reason) is = quiet-end watched p
closing-quiet ties watched p signal is = absurd cc

-- and closes it where the owner sends it
pub closes-for : (ties : Ties) (p : ℕ) (signal : Signal) → p ≡ ties.owner → is_closing signal ≡ true → (reason : List ℕ) × (closes_for ties p signal ≡ Some reason)
closes-for ties p Close own is = (codes "normal", refl)
closes-for ties p OwnerClose own is = (codes "normal", ap (λ b. cond b (Some (codes "normal")) None) (eq-eqb p ties.owner own))
closes-for ties p (Gone reason) own is = (reason, ap (λ b. cond b (Some reason) None) (or_left (p == ties.owner) (has p ties.linked && not (is_normal reason)) (eq-eqb p ties.owner own)))
closes-for ties p signal own is = absurd cc

-- the end of another process is nothing to the port
pub end-is-served : (port : Opening) (s : State) (p seq : ℕ) (task : TaskView) (outside : List Outside) (effects : List Effect) (reason : List ℕ) → echoes port.kind ≡ true → IsServing port s
    → (p ≡ port.owner → ⊥) → task.signal ≡ Gone reason → IsServed port s (taken_of (Process p) seq task outside effects) []
end-is-served port s p seq task outside effects reason is serving apart gone =
    let t = taken_of (Process p) seq task outside effects in
    let unlinked : end_closes s.ties.owner s.ties.linked p reason ≡ false =
    (λ i. (p == serving.owner i) || (has p (serving.linked i) && not (is_normal reason)))
    ∙ (λ i. ne_eqb p port.owner apart i || ((ne_eqb port.owner p (λ e. apart (sym e)) i || false) && not (is_normal reason))) in
    record {
      none = ap (closes_for s.ties p) gone ∙ ap (λ b. cond b (Some reason) None) unlinked;
      owner = ap (λ x. (tied_by port s.ties p x).owner) gone ∙ serving.owner;
      linked = ap (λ x. (tied_by port s.ties p x).linked) gone ∙ ap (without_process p) serving.linked ∙ ap (λ b. cond (not b) (port.owner ∷ []) []) (ne_eqb port.owner p (λ e. apart (sym e)));
      alive = ap (λ x. has port.owner (tied_by port s.ties p x).ended) gone ∙ has-other port.owner p s.ties.ended apart ∙ serving.alive;
      made = ap (λ x. effects_after port s.calls (calls_by (callback_of s.ties s.watched (Process p) x) p t)) gone ∙ quiet-calls port s.calls (exit_callback s.watched (Process p)) p t is (quiet-end s.watched p);
      unanswered = ap (answer_mail port s.ties p seq effects) gone;
      saved = sym (ap (flat_map task_data) (other-task port.owner p task apart));
    }

-- a sender that is no process
abbrev pub is_outside : Sender → Bool
is_outside (Process p) = false
is_outside from = true

pub quiet-outside : (ties : Ties) (watched : List ℕ) (from : Sender) (signal : Signal) → is_outside from ≡ true → may_send from signal ≡ true → is_quiet (callback_of ties watched from signal) ≡ true
quiet-outside ties watched (Process p) signal is may = absurd cc
quiet-outside ties watched from (Ready event Read) is may = refl
quiet-outside ties watched from (Ready event Write) is may = refl
quiet-outside ties watched from (Dropped event) is may = refl
quiet-outside ties watched from (AsyncDone number output) is may = refl
quiet-outside ties watched Poller signal is may = absurd cc
quiet-outside ties watched (Worker worker) signal is may = absurd cc
quiet-outside ties watched Timer signal is may = absurd cc

-- and no other sender sends a command
pub no-command : (from : Sender) (signal : Signal) → is_outside from ≡ true → may_send from signal ≡ true → is_command signal ≡ false
no-command (Process p) signal is may = absurd cc
no-command from (Ready event dir) is may = refl
no-command from (Dropped event) is may = refl
no-command from (AsyncDone number output) is may = refl
no-command Poller signal is may = absurd cc
no-command (Worker worker) signal is may = absurd cc
no-command Timer signal is may = absurd cc

pub no-tasks : (owner : ℕ) (from : Sender) (task : TaskView) → is_outside from ≡ true → task_from (Process owner) from task ≡ []
no-tasks owner (Process p) task is = absurd cc
no-tasks owner Poller task is = refl
no-tasks owner (Worker worker) task is = refl
no-tasks owner Timer task is = refl

pub untold : (port : Opening) (ties : Ties) (from : Sender) (signal : Signal) → is_outside from ≡ true → tied port ties from signal ≡ ties
untold port ties (Process p) signal is = absurd cc
untold port ties Poller signal is = refl
untold port ties (Worker worker) signal is = refl
untold port ties Timer signal is = refl

-- nor does what the poller or a worker tells
pub outside-is-served : (port : Opening) (s : State) (from : Sender) (seq : ℕ) (task : TaskView) (outside : List Outside) (effects : List Effect) → echoes port.kind ≡ true → IsServing port s
    → is_outside from ≡ true → may_send from task.signal ≡ true → IsServed port s (taken_of from seq task outside effects) []
outside-is-served port s from seq task outside effects is serving out may =
    let t = taken_of from seq task outside effects in
    let same = untold port s.ties from task.signal out in
    record {
      none = unclosed from out;
      owner = ap (λ (x : Ties). x.owner) same ∙ serving.owner;
      linked = ap (λ (x : Ties). x.linked) same ∙ serving.linked;
      alive = ap (λ (x : Ties). has port.owner x.ended) same ∙ serving.alive;
      made = quiet-calls port s.calls (callback_of s.ties s.watched from task.signal) (caller_of s.ties from) t is (quiet-outside s.ties s.watched from task.signal out may);
      unanswered = no-answer from out;
      saved = sym (ap (flat_map task_data) (no-tasks port.owner from task out));
    }
  where
    unclosed : (f : Sender) → is_outside f ≡ true → signal_reason s.ties f task.signal ≡ None
    unclosed (Process p) e = absurd cc
    unclosed Poller e = refl
    unclosed (Worker worker) e = refl
    unclosed Timer e = refl

    no-answer : (f : Sender) → is_outside f ≡ true → answers port s.ties f seq effects task.signal ≡ []
    no-answer (Process p) e = absurd cc
    no-answer Poller e = refl
    no-answer (Worker worker) e = refl
    no-answer Timer e = refl

-- what is saved of the mail of a handled row that doesn't close its port
pub row-saved : (port : Opening) (s : State) (t : Taken) (effects : List Effect) → StaysOpen port s t → IsServed port s t effects → t.effects ≡ effects
    → saved_of port.number (mail_for port.owner (handled_mail port s t)) ≡ flat_map task_data (task_from (Process port.owner) t.from t.task)
row-saved port s t effects stays served made =
    let own = flat_map (effect_mail port.number s.ties.owner) effects in
    let sent : handled_mail port s t ≡ own ++ [] ++ [] ++ [] =
    λ i. flat_map (effect_mail port.number s.ties.owner) (made i) ++ served.unanswered i
    ++ closing_mail port.number (stays.closing i) (tied port s.ties t.from t.task.signal) ++ closed_mail port.number (stays.runs i) (closer_after s t) in
    ap (λ m. saved_of port.number (mail_for port.owner m)) (sent ∙ append-nil (own ++ [] ++ []) ∙ append-nil (own ++ []) ∙ append-nil own) ∙ served.saved

-- rows that are no late commands
pub not-late : (row : Row) (rows : List Row) → is_late_command row ≡ false → late_commands rows ≡ 0 → late_commands (row ∷ rows) ≡ 0
not-late row rows is none = sum_by-cons (λ r. cond (is_late_command r) 1 0) row rows ∙ (λ i. cond (is i) 1 0 + none i)

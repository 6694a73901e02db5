-- A port that stays open: no signal closes it, and its driver never fails it.
use Rattle.std.proofs.Common.{◌≡◌, ℕ, ◌==◌, ◌&&◌, ◌||◌, not, List, [], ◌∷◌, ◌++◌, Bool, true, false, cond, Option, Some, None, is_some, refl, sym, ap, ◌∙◌}
use Rattle.std.proofs.lemmas.Bool.{and_parts, true≢false}
use Rattle.std.specs.List.{list_all}
use Rattle.driver_model.specs.Calls.{Echo}
use Rattle.port_model.specs.port_signal.Links.{end_closes, has}
use Rattle.port_model.specs.port_signal.Reasons.{is_normal}
use Rattle.port_model.specs.declared.row.Row.{Row}
use Rattle.port_model.specs.declared.row.Row.TheVariants.{Handled, Late, Listed, Resumed, Mark}
use Rattle.port_model.specs.declared.signal.Sender.{Sender}
use Rattle.port_model.specs.declared.signal.Sender.TheVariants.{Process, Poller, Worker, Timer}
use Rattle.port_model.specs.declared.signal.Signal.{Signal}
use Rattle.port_model.specs.declared.signal.Signal.TheVariants.{Command, Gone}
use Rattle.port_history.specs.Jobs.{is_done}
use Rattle.port_history.specs.Lawful.{Lawful}
use Rattle.port_history.specs.Laws.{all_resumed, is_given_back}
use Rattle.port_history.specs.Opening.{Opening, Taken, taken_of}
use Rattle.port_history.specs.Service.{first_reason, must_stop}
use Rattle.port_history.specs.State.{State, closing_reason, flushed_calls, state, stops, ties_after}
use Rattle.port_history.specs.Ties.{Ties, failure, signal_reason, tied, tied_late, untied}
use Rattle.command_counts.specs.Rows.{AreQuiet, IsQuiet}
use Rattle.command_counts.specs.Laws.{QuietPortsStayOpen}
use Rattle.command_counts.proofs.Effects.{echoes-row}

-- no row closed the port, its driver runs, and its owner is the one that opened it
record IsOpen (port : Opening) (s : State) : Type 0 where
  pub reason : s.reason ≡ None
  pub runs : s.stopped ≡ false
  pub owner : s.ties.owner ≡ port.owner

-- a quiet signal closes nothing, and leaves the owner
record LeavesOpen (port : Opening) (ties : Ties) (from : Sender) (signal : Signal) : Type 0 where
  pub none : signal_reason ties from signal ≡ None
  pub owner : (tied port ties from signal).owner ≡ ties.owner

other-end : (ties : Ties) (process : ℕ) (reason : List ℕ) → (process == ties.owner) ≡ false → is_normal reason ≡ true → end_closes ties.owner ties.linked process reason ≡ false
other-end ties process reason apart normal = (λ i. apart i || (has process ties.linked && not (normal i))) ∙ and-none (has process ties.linked)
  where
    and-none : (b : Bool) → (b && false) ≡ false
    and-none true = refl
    and-none false = refl

leaves-open : (port : Opening) (ties : Ties) (from : Sender) (signal : Signal) → ties.owner ≡ port.owner → IsQuiet port.owner from signal → LeavesOpen port ties from signal
leaves-open port ties (Process process) (Command payload) owner quiet = record { none = refl; owner = refl }
leaves-open port ties (Process process) (Gone reason) owner quiet = record {
  none = ap (λ b. cond b (Some reason) None) (other-end ties process reason (ap (λ n. process == n) owner ∙ quiet.0) quiet.1);
  owner = refl;
}
leaves-open port ties (Process process) signal owner quiet = absurd quiet
leaves-open port ties Poller signal owner quiet = record { none = refl; owner = refl }
leaves-open port ties (Worker worker) signal owner quiet = record { none = refl; owner = refl }
leaves-open port ties Timer signal owner quiet = record { none = refl; owner = refl }

handled-open : (port : Opening) (s : State) (t : Taken) → IsOpen port s → failure t.effects ≡ None → LeavesOpen port s.ties t.from t.task.signal
    → (first_reason s.reason (closing_reason s t) ≡ None) × ((s.stopped || stops port s t) ≡ false) × ((ties_after port s t).owner ≡ port.owner)
handled-open port s t open' unfailed leaves =
    let closing : closing_reason s t ≡ None = λ i. cond (is_some (open'.reason i)) None (first_reason (unfailed i) (leaves.none i)) in (
      (λ i. first_reason (open'.reason i) (closing i)),
      (λ i. open'.runs i || (not (open'.runs i) && must_stop port (first_reason (open'.reason i) (closing i)) (flushed_calls port s t ++ s.calls))),
      ap (λ (r : Option (List ℕ)). (cond (is_some r) (untied (tied port s.ties t.from t.task.signal)) (tied port s.ties t.from t.task.signal)).owner) closing ∙ leaves.owner ∙ open'.owner,
    )

late-owner : (ties : Ties) (from : Sender) (signal : Signal) → (tied_late ties from signal).owner ≡ ties.owner
late-owner ties (Process process) (Gone reason) = refl
late-owner ties (Process process) signal = refl
late-owner ties from signal = refl

stays : (port : Opening) (history : List Row) → port.kind ≡ Echo → Lawful port history → AreQuiet port.owner history → IsOpen port (state port history)
stays port [] echo lawful quiet = record { reason = refl; runs = refl; owner = refl }
stays port (Handled from seq task outside effects ∷ older) echo lawful quiet =
    let s = state port older in
    let t = taken_of from seq task outside effects in
    let before = stays port older echo lawful.1 quiet.1 in
    let after = handled-open port s t before (echoes-row port s t echo lawful.0.effects).unfailed (leaves-open port s.ties from task.signal before.owner quiet.0) in
    record { reason = after.0; runs = after.1; owner = after.2 }
stays port (Late from seq task ∷ older) echo lawful quiet =
    let before = stays port older echo lawful.1 quiet in
    record { reason = before.reason; runs = before.runs; owner = late-owner (state port older).ties from task.signal ∙ before.owner }
stays port (Listed from seq ∷ older) echo lawful quiet = let b = stays port older echo lawful.1 quiet in record { reason = b.reason; runs = b.runs; owner = b.owner }
stays port (Resumed from seq word ∷ older) echo lawful quiet = let b = stays port older echo lawful.1 quiet in record { reason = b.reason; runs = b.runs; owner = b.owner }
stays port (Mark kind ∷ older) echo lawful quiet = let b = stays port older echo lawful.1 quiet in record { reason = b.reason; runs = b.runs; owner = b.owner }

pub stay-open : QuietPortsStayOpen
stay-open port history echo lawful quiet finished =
    let s = state port history in
    let resumed = s.stopped && all_resumed s.listed in
    let given = list_all is_given_back s.events in
    let done = list_all (λ job. is_done job.number s.done) s.jobs in
    let front = and_parts (resumed && given) done finished.end in
    let first = and_parts resumed given front.0 in
    let stopped = and_parts s.stopped (all_resumed s.listed) first.0 in
    true≢false (sym stopped.0 ∙ (stays port history echo lawful quiet).runs)

-- What is counted in the rows of a port asks for no more of its opening than its owner and the number of processes.
use Rattle.std.proofs.Common.{◌≡◌, ℕ, List, [], ◌∷◌, length, Option, None, is_some, refl, sym, ap, ◌∙◌}
use Rattle.std.specs.Prelude.{if◌then◌else◌, option_map}
use Rattle.std.specs.List.{sum_by}
use Rattle.port_signal.specs.Reasons.{told_reason}
use Rattle.port_model.specs.declared.signal.Sender.{Sender}
use Rattle.port_model.specs.declared.signal.Sender.TheVariants.{Process, Poller, Worker, Timer}
use Rattle.port_model.specs.declared.signal.Signal.{Signal}
use Rattle.port_model.specs.declared.signal.Signal.TheVariants.{Command, OwnerCommand, Control, Call, Close, OwnerClose, Connect, OwnerConnect, Link, Unlink, Monitor, Demonitor, Exit, Gone, Ready, Dropped, AsyncDone}
use Rattle.port_model.specs.declared.row.Row.{Row}
use Rattle.port_model.specs.declared.row.Row.TheVariants.{Handled, Late, Listed, Resumed, Mark}
use Rattle.port_history.specs.Opening.{Opening, Taken, taken_of}
use Rattle.port_history.specs.Ties.{Ties, failure, opened, signal_reason, tied, tied_late, untied}
use Rattle.port_history.specs.Service.{first_reason}
use Rattle.port_history.specs.State.{State, state, closing_reason, ties_after}
use Rattle.port_history.specs.Counts.{data_of_calls}
use Rattle.run_report.specs.Walks.{data_given}
use Rattle.run_report.specs.Laws.{SameCounts}
use Rattle.run_report.proofs.Rows.{given, row-data}

-- two states in which all that is counted is the same
record Alike (s other : State) : Type 0 where
  pub ties : s.ties ≡ other.ties
  pub reason : s.reason ≡ other.reason
  pub commands : data_of_calls s.calls ≡ data_of_calls other.calls

tied-same : (a b : Opening) (ties : Ties) (from : Sender) (signal : Signal) → a.processes ≡ b.processes → tied a ties from signal ≡ tied b ties from signal
tied-same a b ties (Process process) (Command payload) p = refl
tied-same a b ties (Process process) (OwnerCommand payload) p = refl
tied-same a b ties (Process process) (Control op bytes) p = refl
tied-same a b ties (Process process) (Call op bytes) p = refl
tied-same a b ties (Process process) Close p = refl
tied-same a b ties (Process process) OwnerClose p = refl
tied-same a b ties (Process process) (Connect to) p = rw p refl
tied-same a b ties (Process process) (OwnerConnect to) p = rw p refl
tied-same a b ties (Process process) Link p = refl
tied-same a b ties (Process process) Unlink p = refl
tied-same a b ties (Process process) (Monitor number) p = refl
tied-same a b ties (Process process) (Demonitor number) p = refl
tied-same a b ties (Process process) (Exit reason) p = refl
tied-same a b ties (Process process) (Gone reason) p = refl
tied-same a b ties (Process process) (Ready event dir) p = refl
tied-same a b ties (Process process) (Dropped event) p = refl
tied-same a b ties (Process process) (AsyncDone number output) p = refl
tied-same a b ties Poller signal p = refl
tied-same a b ties (Worker worker) signal p = refl
tied-same a b ties Timer signal p = refl

-- the reason for which a task closes the port, by the ties and the reason before it
closing : Ties → Option (List ℕ) → Taken → Option (List ℕ)
closing ties reason t = if is_some reason then None else first_reason (failure t.effects) (signal_reason ties t.from t.task.signal)

alike-closing : (s other : State) (t : Taken) → Alike s other → closing_reason s t ≡ closing_reason other t
alike-closing s other t e = rw (e.ties, e.reason) refl

alike-ties : (a b : Opening) (s other : State) (t : Taken) → a.processes ≡ b.processes → Alike s other → ties_after a s t ≡ ties_after b other t
alike-ties a b s other t p e =
    ap (λ x. if is_some x then untied (tied a s.ties t.from t.task.signal) else tied a s.ties t.from t.task.signal) (alike-closing s other t e)
    ∙ ap (λ x. if is_some (closing_reason other t) then untied x else x)
    (ap (λ ties. tied a ties t.from t.task.signal) e.ties ∙ tied-same a b other.ties t.from t.task.signal p)

alike : (a b : Opening) (history : List Row) → a.owner ≡ b.owner → a.processes ≡ b.processes → Alike (state a history) (state b history)
alike a b [] o p = record { ties = ap opened o; reason = refl; commands = refl }
alike a b (Handled from seq task outside effects ∷ older) o p =
    let t = taken_of from seq task outside effects in
    let e = alike a b older o p in
    let s = state a older in
    let other = state b older in
    record {
      ties = alike-ties a b s other t p e;
      reason = ap (λ x. first_reason x (closing_reason s t)) e.reason ∙ ap (first_reason other.reason) (alike-closing s other t e);
      commands = row-data a s t ∙ ap (λ ties. given (data_given ties from task.signal) (data_of_calls s.calls)) e.ties
          ∙ ap (given (data_given other.ties from task.signal)) e.commands ∙ sym (row-data b other t);
    }
alike a b (Late from seq task ∷ older) o p =
    let e = alike a b older o p in
    record { ties = ap (λ ties. tied_late ties from task.signal) e.ties; reason = e.reason; commands = e.commands }
alike a b (Listed from seq ∷ older) o p = let e = alike a b older o p in record { ties = e.ties; reason = e.reason; commands = e.commands }
alike a b (Resumed from seq word ∷ older) o p = let e = alike a b older o p in record { ties = e.ties; reason = e.reason; commands = e.commands }
alike a b (Mark kind ∷ older) o p = let e = alike a b older o p in record { ties = e.ties; reason = e.reason; commands = e.commands }

-- what is counted is the same for every opening with this owner and so many processes
pub same_counts : (a b : Opening) (history : List Row) → a.owner ≡ b.owner → a.processes ≡ b.processes → SameCounts a b history
same_counts a b history o p = let e = alike a b history o p in record {
  commands = ap length e.commands;
  bytes = ap (sum_by length) e.commands;
  end = ap (option_map told_reason) e.reason;
}

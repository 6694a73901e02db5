-- A port whose rows are gone through: what one more row does to the table of its ties and to its counts.
use Rattle.std.proofs.Common.{arith, ◌≡◌, ℕ, ◌+◌, List, [], ◌∷◌, length, reverse, Bool, true, false, Option, None, is_some, refl, sym, ap, ◌∙◌}
use Rattle.std.specs.Prelude.{if◌then◌else◌, option_map, unwrap_or}
use Rattle.std.specs.List.{sum_by}
use Rattle.std.proofs.lemmas.List.{reverse-append}
use Rattle.std.proofs.lemmas.List.Sums.{sum_by-cons, sum_by_push}
use Rattle.port_signal.specs.Reasons.{told_reason}
use Rattle.port_signal.specs.declared.outside.Outside.{Outside}
use Rattle.port_signal.specs.declared.mark.MarkKind.{MarkKind}
use Rattle.port_model.specs.declared.effect.Effect.{Effect}
use Rattle.port_model.specs.declared.signal.Sender.{Sender}
use Rattle.port_model.specs.declared.signal.Signal.{Signal}
use Rattle.port_model.specs.declared.row.Row.{Row}
use Rattle.port_model.specs.declared.row.Row.TheVariants.{Handled, Late, Listed, Resumed, Mark}
use Rattle.port_model.specs.Signals.{is_command}
use Rattle.port_model.specs.Tasks.{TaskView}
use Rattle.port_history.specs.Opening.{Opening, taken_of}
use Rattle.port_history.specs.Ties.{failure, opened, signal_reason, tied, tied_late}
use Rattle.port_history.specs.Service.{first_reason}
use Rattle.port_history.specs.State.{state, closing_reason}
use Rattle.port_history.specs.Counts.{data_of_calls, is_late_command, late_commands}
use Rattle.journal_text.specs.declared.book.PortReport.{PortReport}
use Rattle.run_report.specs.declared.counts.PortCounts.{PortCounts}
use Rattle.run_report.specs.declared.walk.PortWalk.{PortWalk}
use Rattle.run_report.specs.Ports.{counts_of, history_of, opening_of}
use Rattle.run_report.specs.Walks.{IsWalked, data_given, end_with, untied_for}
use Rattle.run_report.proofs.Rows.{row-data, count-given, bytes-given, end-told, is_some-told}

one-more : (b : Bool) (n : ℕ) → n + (if b then 1 else 0) ≡ (if b then 1 else 0) + n
one-more true n = omega arith
one-more false n = omega arith

-- one row more counts where it is a late command
late-cons : (row : Row) (older : List Row) → late_commands (row ∷ older) ≡ late_commands older + (if is_late_command row then 1 else 0)
late-cons row older = sum_by-cons (λ r. if is_late_command r then 1 else 0) row older ∙ sym (one-more (is_late_command row) (late_commands older))

add-none : (n m : ℕ) → n ≡ m + 0 → m ≡ n
add-none n m e = omega arith

late-none : (row : Row) (older : List Row) → is_late_command row ≡ false → late_commands older ≡ late_commands (row ∷ older)
late-none row older e =
    add-none (late_commands (row ∷ older)) (late_commands older) (late-cons row older ∙ ap (λ b. late_commands older + (if b then 1 else 0)) e)

-- what the step of a handled row did, as the functions of the program say it
pub record HandledStep (from : Sender) (signal : Signal) (effects : List Effect) (port : Opening) (old new : PortWalk) : Type 0 where
  pub reason : Option (List ℕ)
  pub why : reason ≡ (if is_some old.counts.end then None else first_reason (failure effects) (signal_reason old.links.ties from signal))
  pub processes : new.links.processes ≡ old.links.processes
  pub ties : new.links.ties ≡ untied_for reason (tied port old.links.ties from signal)
  pub commands : new.counts.commands ≡ old.counts.commands + (if is_some (option_map length (data_given old.links.ties from signal)) then 1 else 0)
  pub late : new.counts.late ≡ old.counts.late
  pub bytes : new.counts.bytes ≡ old.counts.bytes + unwrap_or (option_map length (data_given old.links.ties from signal)) 0
  pub end : new.counts.end ≡ end_with reason old.counts.end

-- the reason of the step is that of the row
why-closes : (port : Opening) (older : List Row) (old : PortWalk) (from : Sender) (seq : ℕ) (task : TaskView) (outside : List Outside) (effects : List Effect) (reason : Option (List ℕ))
    → IsWalked port older old → reason ≡ (if is_some old.counts.end then None else first_reason (failure effects) (signal_reason old.links.ties from task.signal))
    → reason ≡ closing_reason (state port older) (taken_of from seq task outside effects)
why-closes port older old from seq task outside effects reason w e =
    let s = state port older in
    e
    ∙ ap (λ x. if is_some x then None else first_reason (failure effects) (signal_reason old.links.ties from task.signal)) w.end
    ∙ ap (λ b. if b then None else first_reason (failure effects) (signal_reason old.links.ties from task.signal)) (is_some-told s.reason)
    ∙ ap (λ ties. if is_some s.reason then None else first_reason (failure effects) (signal_reason ties from task.signal)) w.ties

pub walked-handled : (port : Opening) (older : List Row) (old new : PortWalk) (from : Sender) (seq : ℕ) (task : TaskView) (outside : List Outside) (effects : List Effect)
    → IsWalked port older old → HandledStep from task.signal effects port old new → IsWalked port (Handled from seq task outside effects ∷ older) new
walked-handled port older old new from seq task outside effects w step =
    let s = state port older in
    let t = taken_of from seq task outside effects in
    let why = why-closes port older old from seq task outside effects step.reason w step.why in
    let added = ap (λ ties. data_given ties from task.signal) w.ties in
    record {
      processes = step.processes ∙ w.processes;
      ties = step.ties ∙ ap (λ ties. untied_for step.reason (tied port ties from task.signal)) w.ties
          ∙ ap (λ x. untied_for x (tied port s.ties from task.signal)) why;
      commands = step.commands
          ∙ ap (λ d. old.counts.commands + (if is_some (option_map length d) then 1 else 0)) added
          ∙ ap (λ n. n + (if is_some (option_map length (data_given s.ties from task.signal)) then 1 else 0)) w.commands
          ∙ sym (ap length (row-data port s t) ∙ count-given (data_given s.ties from task.signal) (data_of_calls s.calls));
      late = step.late ∙ w.late ∙ late-none (Handled from seq task outside effects) older refl;
      bytes = step.bytes
          ∙ ap (λ d. old.counts.bytes + unwrap_or (option_map length d) 0) added
          ∙ ap (λ n. n + unwrap_or (option_map length (data_given s.ties from task.signal)) 0) w.bytes
          ∙ sym (ap (sum_by length) (row-data port s t) ∙ bytes-given (data_given s.ties from task.signal) (data_of_calls s.calls));
      end = step.end ∙ ap (end_with step.reason) w.end ∙ ap (λ x. end_with x (option_map told_reason s.reason)) why
          ∙ end-told s.reason (first_reason (failure effects) (signal_reason s.ties from task.signal));
    }

-- what the step of a late row did
pub record LateStep (from : Sender) (signal : Signal) (old new : PortWalk) : Type 0 where
  pub processes : new.links.processes ≡ old.links.processes
  pub ties : new.links.ties ≡ tied_late old.links.ties from signal
  pub commands : new.counts.commands ≡ old.counts.commands
  pub late : new.counts.late ≡ old.counts.late + (if is_command signal then 1 else 0)
  pub bytes : new.counts.bytes ≡ old.counts.bytes
  pub end : new.counts.end ≡ old.counts.end

pub walked-late : (port : Opening) (older : List Row) (old new : PortWalk) (from : Sender) (seq : ℕ) (task : TaskView)
    → IsWalked port older old → LateStep from task.signal old new → IsWalked port (Late from seq task ∷ older) new
walked-late port older old new from seq task w step = record {
  processes = step.processes ∙ w.processes;
  ties = step.ties ∙ ap (λ ties. tied_late ties from task.signal) w.ties;
  commands = step.commands ∙ w.commands;
  late = step.late ∙ ap (λ n. n + (if is_command task.signal then 1 else 0)) w.late ∙ sym (late-cons (Late from seq task) older);
  bytes = step.bytes ∙ w.bytes;
  end = step.end ∙ w.end;
}

-- rows of no task
pub walked-listed : (port : Opening) (older : List Row) (walk : PortWalk) (from : Sender) (seq : ℕ) → IsWalked port older walk → IsWalked port (Listed from seq ∷ older) walk
walked-listed port older walk from seq w = record {
  processes = w.processes;
  ties = w.ties;
  commands = w.commands;
  late = w.late ∙ late-none (Listed from seq) older refl;
  bytes = w.bytes;
  end = w.end;
}

pub walked-resumed : (port : Opening) (older : List Row) (walk : PortWalk) (from : Sender) (seq word : ℕ) → IsWalked port older walk → IsWalked port (Resumed from seq word ∷ older) walk
walked-resumed port older walk from seq word w = record {
  processes = w.processes;
  ties = w.ties;
  commands = w.commands;
  late = w.late ∙ late-none (Resumed from seq word) older refl;
  bytes = w.bytes;
  end = w.end;
}

pub walked-mark : (port : Opening) (older : List Row) (walk : PortWalk) (kind : MarkKind) → IsWalked port older walk → IsWalked port (Mark kind ∷ older) walk
walked-mark port older walk kind w = record {
  processes = w.processes;
  ties = w.ties;
  commands = w.commands;
  late = w.late ∙ late-none (Mark kind) older refl;
  bytes = w.bytes;
  end = w.end;
}

-- a port that was just opened
pub walked-opened : (port : Opening) (walk : PortWalk) → walk.links.processes ≡ port.processes → walk.links.ties ≡ opened port.owner
    → walk.counts ≡ record { commands = 0; late = 0; bytes = 0; end = None } → IsWalked port [] walk
walked-opened port walk processes ties counts = record {
  processes = processes;
  ties = ties;
  commands = ap (λ c. c.commands) counts;
  late = ap (λ c. c.late) counts;
  bytes = ap (λ c. c.bytes) counts;
  end = ap (λ c. c.end) counts;
}

sum_by-reverse : (f : Row → ℕ) (rows : List Row) → sum_by f (reverse rows) ≡ sum_by f rows
sum_by-reverse f [] = refl
sum_by-reverse f (row ∷ rows) =
    let e : sum_by f (reverse rows) ≡ sum_by f rows = sum_by-reverse f rows in
    rw (reverse-append (row ∷ []) rows, sum_by_push f (reverse rows) row, sum_by-cons f row rows, e) (omega arith)

same-counts : (c d : PortCounts) → c.commands ≡ d.commands → c.late ≡ d.late → c.bytes ≡ d.bytes → c.end ≡ d.end → c ≡ d
same-counts c d commands late bytes end =
    ap (λ x. record c { commands = x }) commands
    ∙ ap (λ x. record c { commands = d.commands; late = x }) late
    ∙ ap (λ x. record c { commands = d.commands; late = d.late; bytes = x }) bytes
    ∙ ap (λ x. record { commands = d.commands; late = d.late; bytes = d.bytes; end = x }) end

-- what was counted once all rows were gone through
pub walked-whole : (processes : ℕ) (port : PortReport) (walk : PortWalk) → IsWalked (opening_of processes port) (history_of port) walk → walk.counts ≡ counts_of processes port
walked-whole processes port walk w =
    same-counts walk.counts (counts_of processes port) w.commands
    (w.late ∙ sum_by-reverse (λ row. if is_late_command row then 1 else 0) port.journal.rows)
    w.bytes w.end

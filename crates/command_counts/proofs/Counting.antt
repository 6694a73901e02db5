-- The commands of a history, those that called the driver, and those that came late.
use Rattle.std.proofs.Common.{◌≡◌, ℕ, ◌+◌, ◌≤◌, List, [], ◌∷◌, length, Bool, true, false, cond, Option, Some, None, is_some, refl, ap, ◌∙◌, arith}
use Rattle.std.specs.Prelude.{option_map, unwrap_or}
use Rattle.std.specs.List.{concat, sum_by}
use Rattle.std.proofs.lemmas.List.Sums.{sum_by-cons}
use Rattle.port_model.specs.declared.row.Row.{Row}
use Rattle.port_model.specs.declared.row.Row.TheVariants.{Handled, Late, Listed, Resumed, Mark}
use Rattle.port_model.specs.declared.signal.Sender.{Sender}
use Rattle.port_model.specs.declared.signal.Signal.{Signal}
use Rattle.port_model.specs.declared.signal.Signal.TheVariants.{Command, OwnerCommand}
use Rattle.port_model.specs.Signals.{data_size, is_command}
use Rattle.port_history.specs.Counts.{data_of_calls, handled_bytes, handled_commands, is_late_command, late_commands}
use Rattle.port_history.specs.Opening.{is_process, taken_of}
use Rattle.port_history.specs.State.{state}
use Rattle.port_history.specs.Ties.{Ties}
use Rattle.run_report.specs.Walks.{data_given}
use Rattle.run_report.proofs.Rows.{bytes-given, count-given, row-data}
use Rattle.command_counts.specs.Rows.{command_size, one_command, task_sum}
use Rattle.command_counts.specs.Laws.{EachCommandIsCounted}

-- 1 where data was given, and how many bytes
abbrev count_in : Option (List ℕ) → ℕ
count_in bytes = cond (is_some (option_map length bytes)) 1 0

abbrev bytes_in : Option (List ℕ) → ℕ
bytes_in bytes = unwrap_or (option_map length bytes) 0

-- what a signal gives is no more than its command, and all of it where it gives something
record IsGiven (signal : Signal) (given : Option (List ℕ)) : Type 0 where
  pub few : count_in given ≤ one_command signal
  pub same : count_in given ≡ one_command signal → bytes_in given ≡ command_size signal

owner-given : (b : Bool) (payload : List (List ℕ)) → IsGiven (OwnerCommand payload) (cond b (Some (concat payload)) None)
owner-given true payload = record { few = omega arith; same = λ e. refl }
owner-given false payload = record { few = omega arith; same = λ e. absurd (omega (arith, e)) }

is-given : (ties : Ties) (from : Sender) (signal : Signal) → IsGiven signal (data_given ties from signal)
is-given ties from (Command payload) = record { few = omega arith; same = λ e. refl }
is-given ties from (OwnerCommand payload) = owner-given (is_process ties.owner from) payload
is-given ties from signal = record { few = omega arith; same = λ e. refl }

late-more : (row : Row) (older : List Row) → late_commands (row ∷ older) ≡ cond (is_late_command row) 1 0 + late_commands older
late-more row older = sum_by-cons (λ r. cond (is_late_command r) 1 0) row older

no-size : (signal : Signal) → one_command signal ≡ 0 → command_size signal ≡ 0
no-size signal none = go (is_command signal) none
  where
    go : (b : Bool) → ◌≡◌ {A = ℕ} (cond b 1 0) 0 → cond b (data_size signal) 0 ≡ 0
    go true e = absurd (omega (arith, e))
    go false e = refl

pub counted : EachCommandIsCounted
counted port [] = record { few = omega arith; same = λ e. refl }
counted port (Handled from seq task outside effects ∷ older) =
    let s = state port older in
    let t = taken_of from seq task outside effects in
    let row = Handled from seq task outside effects in
    let bytes_given = data_given s.ties from task.signal in
    let before = counted port older in
    let few = before.few in
    let given = is-given s.ties from task.signal in
    let one = given.few in
    let commands : handled_commands port (row ∷ older) ≡ handled_commands port older + count_in bytes_given = ap length (row-data port s t) ∙ count-given bytes_given (data_of_calls s.calls) in
    let bytes : handled_bytes port (row ∷ older) ≡ handled_bytes port older + bytes_in bytes_given = ap (sum_by length) (row-data port s t) ∙ bytes-given bytes_given (data_of_calls s.calls) in
    let late : late_commands (row ∷ older) ≡ 0 + late_commands older = late-more row older in
    record {
      few = omega (arith, few, one, commands, late);
      same = λ e.
          let both : handled_commands port older ≡ task_sum one_command older = omega (arith, e, few, one, commands) in
          let here : count_in bytes_given ≡ one_command task.signal = omega (arith, e, few, one, commands) in
          bytes ∙ ap (λ n. n + bytes_in bytes_given) (before.same both) ∙ ap (λ n. task_sum command_size older + n) (given.same here);
    }
counted port (Late from seq task ∷ older) =
    let before = counted port older in
    let few = before.few in
    let late : late_commands (Late from seq task ∷ older) ≡ one_command task.signal + late_commands older = late-more (Late from seq task) older in
    record {
      few = omega (arith, few, late);
      same = λ e.
          let none : one_command task.signal ≡ 0 = omega (arith, e, few) in
          let both : handled_commands port older ≡ task_sum one_command older = omega (arith, e, few) in
          let size = no-size task.signal none in
          let sums = before.same both in
          omega (arith, size, sums);
    }
counted port (Listed from seq ∷ older) = let b = counted port older in let few = b.few in let late = late-more (Listed from seq) older in record { few = omega (arith, few, late); same = λ e. b.same e }
counted port (Resumed from seq word ∷ older) = let b = counted port older in let few = b.few in let late = late-more (Resumed from seq word) older in record { few = omega (arith, few, late); same = λ e. b.same e }
counted port (Mark kind ∷ older) = let b = counted port older in let few = b.few in let late = late-more (Mark kind) older in record { few = omega (arith, few, late); same = λ e. b.same e }

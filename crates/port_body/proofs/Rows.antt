-- What new rows change of a history: of the tasks that have rows, of their senders, and of the tasks that were listed.
use Rattle.std.proofs.Common.{◌≡◌, ℕ, ◌+◌, cond, length-append, map, Bool, true, false, ◌&&◌, List, [], ◌∷◌, ◌++◌, length, refl, sym, ap, ◌∙◌, subst, inl, inr, arith}
use Rattle.std.specs.Prelude.{reverse, if◌then◌else◌}
use Rattle.std.specs.List.{list_all}
use Rattle.std.proofs.lemmas.List.{append_assoc, reverse-append}
use Rattle.std.proofs.lemmas.List.Sums.{sum_by-cons}
use Rattle.std.proofs.lemmas.List.Folds.{list_all-append}
use Rattle.port_model.specs.port_signal.declared.mark.MarkKind.{MarkKind}
use Rattle.port_model.specs.declared.row.Row.{Row}
use Rattle.port_model.specs.declared.row.Row.TheVariants.{Handled, Late, Listed, Resumed, Mark}
use Rattle.port_model.specs.declared.signal.Sender.{Sender}
use Rattle.port_model.specs.Tasks.{TaskView}
use Rattle.port_events.specs.port_history.Laws.{count_of}
use Rattle.port_events.specs.port_history.Opening.{Opening, same_sender}
use Rattle.port_events.specs.port_history.State.{state}
use Rattle.port_events.specs.port_history.Suspension.{Entry}
use Rattle.recorded_port.specs.Taking.{TellsOf}
use Rattle.recorded_port.specs.Resuming.{resumed_rows}
use Rattle.port_body.specs.LanePort.{rows_from, task_from}

-- a mark or a resume
abbrev pub is_quiet : Row → Bool
is_quiet (Mark kind) = true
is_quiet (Resumed from seq word) = true
is_quiet row = false

-- these rows add no task and list none
pub record SameTasks (port : Opening) (before after : List Row) : Type 0 where
  pub rows : (from : Sender) → rows_from from after ≡ rows_from from before
  pub senders : (state port after).senders ≡ (state port before).senders
  pub entries : (state port after).entries ≡ (state port before).entries
  pub reason : (state port after).reason ≡ (state port before).reason

pub quiet-rows : (port : Opening) (quiet before : List Row) → list_all is_quiet quiet ≡ true → SameTasks port before (quiet ++ before)
quiet-rows port [] before all = record { rows = λ from. refl; senders = refl; entries = refl; reason = refl }
quiet-rows port (Mark kind ∷ quiet) before all = let s = quiet-rows port quiet before all in record { rows = s.rows; senders = s.senders; entries = s.entries; reason = s.reason }
quiet-rows port (Resumed from seq word ∷ quiet) before all = let s = quiet-rows port quiet before all in record { rows = s.rows; senders = s.senders; entries = s.entries; reason = s.reason }
quiet-rows port (Handled from seq task outside effects ∷ quiet) before all = absurd cc
quiet-rows port (Late from seq task ∷ quiet) before all = absurd cc
quiet-rows port (Listed from seq ∷ quiet) before all = absurd cc

pub quiet-reverse : (rows : List Row) → list_all is_quiet rows ≡ true → list_all is_quiet (reverse rows) ≡ true
quiet-reverse [] all = refl
quiet-reverse (row ∷ rows) all =
    ap (list_all is_quiet) (reverse-append (row ∷ []) rows)
    ∙ (list_all-append is_quiet (reverse rows) (row ∷ []) ∙ rw (quiet-reverse rows (and-last (is_quiet row) (list_all is_quiet rows) all), and-first (is_quiet row) (list_all is_quiet rows) all) refl)
  where
    and-first : (a b : Bool) → (a && b) ≡ true → a ≡ true
    and-first true b e = refl
    and-first false b e = absurd cc

    and-last : (a b : Bool) → (a && b) ≡ true → b ≡ true
    and-last true b e = e
    and-last false b e = absurd cc

pub quiet-marks : (kinds : List MarkKind) → list_all is_quiet (map Mark kinds) ≡ true
quiet-marks [] = refl
quiet-marks (kind ∷ kinds) = quiet-marks kinds

quiet-resumed : (word : ℕ) (listed : List Entry) → list_all is_quiet (resumed_rows word listed) ≡ true
quiet-resumed word [] = refl
quiet-resumed word (e ∷ listed) = quiet-resumed word listed

-- all who waited were resumed
pub after-resumes : (port : Opening) (rows : List Row) (word : ℕ) (listed : List Entry) → SameTasks port (reverse rows) (reverse (rows ++ resumed_rows word listed))
after-resumes port rows word listed =
    subst (λ x. SameTasks port (reverse rows) x) (sym (reverse-append rows (resumed_rows word listed)))
    (quiet-rows port (reverse (resumed_rows word listed)) (reverse rows) (quiet-reverse (resumed_rows word listed) (quiet-resumed word listed)))

-- a task came to its row
pub record OneTask (port : Opening) (before after : List Row) (from : Sender) (task : TaskView) : Type 0 where
  pub rows : (other : Sender) → rows_from other after ≡ rows_from other before ++ task_from other from task
  pub entries : (state port after).entries ≡ (state port before).entries
  pub senders : (state port after).senders ≡ from ∷ (state port before).senders

told : (port : Opening) (before : List Row) (row : Row) (from : Sender) (seq : ℕ) (task : TaskView) → TellsOf row from seq task → OneTask port before (row ∷ before) from task
told port before row from seq task (inl late) = subst (λ x. OneTask port before (x ∷ before) from task) (sym late) (record { rows = λ other. refl; entries = refl; senders = refl })
told port before row from seq task (inr (outside, effects, handled)) =
    subst (λ x. OneTask port before (x ∷ before) from task) (sym handled) (record { rows = λ other. refl; entries = refl; senders = refl })

pub task-reverse : (rows : List Row) (row : Row) (kinds : List MarkKind) → reverse (rows ++ row ∷ map Mark kinds) ≡ reverse (map Mark kinds) ++ row ∷ reverse rows
task-reverse rows row kinds =
    reverse-append rows (row ∷ map Mark kinds)
    ∙ (ap (λ x. x ++ reverse rows) (reverse-append (row ∷ []) (map Mark kinds)) ∙ append_assoc (reverse (map Mark kinds)) (row ∷ []) (reverse rows))

pub after-task : (port : Opening) (rows : List Row) (row : Row) (kinds : List MarkKind) (from : Sender) (seq : ℕ) (task : TaskView) → TellsOf row from seq task
    → OneTask port (reverse rows) (reverse (rows ++ row ∷ map Mark kinds)) from task
after-task port rows row kinds from seq task tells =
    let one = told port (reverse rows) row from seq task tells in
    let quiet = quiet-rows port (reverse (map Mark kinds)) (row ∷ reverse rows) (quiet-reverse (map Mark kinds) (quiet-marks kinds)) in
    subst (λ x. OneTask port (reverse rows) x from task) (sym (task-reverse rows row kinds)) (record {
      rows = λ other. quiet.rows other ∙ one.rows other;
      entries = quiet.entries ∙ one.entries;
      senders = quiet.senders ∙ one.senders;
    })

-- the count of a sender's tasks is that of its rows
one-more : (from other : Sender) (senders : List Sender) (rows : List TaskView) (task : TaskView) → count_of from senders ≡ length rows
    → count_of from (other ∷ senders) ≡ length (rows ++ task_from from other task)
one-more from other senders rows task same =
    sum_by-cons (λ x. cond (same_sender from x) 1 0) other senders
    ∙ elim (same_sender from other) as (λ b. cond b 1 0 + count_of from senders ≡ length (rows ++ (if b then task ∷ [] else []))) [
      | true ↦ let more = length-append rows (task ∷ []) in omega (arith, same, more)
      | false ↦ let more = length-append rows [] in omega (arith, same, more)
    ]

pub counted : (port : Opening) (rows : List Row) (from : Sender) → count_of from (state port rows).senders ≡ length (rows_from from rows)
counted port [] from = refl
counted port (Handled other seq task outside effects ∷ rows) from = one-more from other (state port rows).senders (rows_from from rows) task (counted port rows from)
counted port (Late other seq task ∷ rows) from = one-more from other (state port rows).senders (rows_from from rows) task (counted port rows from)
counted port (Listed other seq ∷ rows) from = counted port rows from
counted port (Resumed other seq word ∷ rows) from = counted port rows from
counted port (Mark kind ∷ rows) from = counted port rows from

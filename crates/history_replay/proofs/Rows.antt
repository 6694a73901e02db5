-- The walk through the rows of a history.
use Rattle.std.proofs.Common.{◌≡◌, ℕ, ◌+◌, ◌<◌, List, length, reverse, take, get_or, Option, Some, None, sym, ap, ◌∙◌, subst}
use Rattle.port_model.specs.declared.row.Row.{Row}
use Rattle.port_history.specs.Lawful.{broken_at, broken, verdict, end_broken}
use Rattle.port_history.specs.Opening.{Opening}
use Rattle.port_history.specs.State.{State, state}
use Rattle.history_replay.specs.declared.port.BrokenLaw.{BrokenLaw}
use Rattle.history_replay.specs.declared.walk.Walk.{Walk}
use Rattle.history_replay.specs.Verdicts.{broken_of}
use Rattle.history_replay.specs.Walked.{StandsAt, Takes, Walks}
use Rattle.history_replay.proofs.Longer.{broken-next, broken-here, reverse-next, verdict-of-row, verdict-of-end}

-- all rows so far were taken in
abbrev pub AllTaken : Opening → List Row → Walk → Type 0
AllTaken port rows walk = (broken port (reverse rows) ≡ None) × StandsAt walk port (state port (reverse rows))

pub taken-next : (port : Opening) (rows : List Row) (i : ℕ) (row : Row) (walk : Walk) → i < length rows → row ≡ get_or rows i row → broken port (reverse (take i rows)) ≡ None
    → Takes port (state port (reverse (take i rows))) row None walk → AllTaken port (take (i + 1) rows) walk
taken-next port rows i row walk below is before took =
    let older = reverse (take i rows) in
    subst (λ history. (broken port history ≡ None) × StandsAt walk port (state port history)) (sym (reverse-next rows i row below is))
    (broken-next port older row None before took.0, took.1)

pub breaks-here : (port : Opening) (rows : List Row) (i : ℕ) (row : Row) (law : ℕ) (walk : Walk) → i < length rows → row ≡ get_or rows i row → broken port (reverse (take i rows)) ≡ None
    → Takes port (state port (reverse (take i rows))) row (Some law) walk → Walks port rows (Some (record { row = i; law = law })) walk
breaks-here port rows i row law walk below is before breaks = broken-here port rows i law row below is before breaks

-- the verdict where a row breaks a law, and where only the end may
pub told-of-row : (port : Opening) (rows all : List Row) (told : Option BrokenLaw) (walk : Walk) (law : BrokenLaw) → all ≡ rows → told ≡ Some law → Walks port all told walk
    → broken_of (Some law) ≡ verdict port (reverse rows)
told-of-row port rows all told walk law all_are told_is walks =
    let breaks : Walks port rows (Some law) walk = subst (λ o. Walks port rows o walk) told_is (subst (λ rs. Walks port rs told walk) all_are walks) in
    sym (verdict-of-row port (reverse rows) (record { row = law.row; law = law.law }) breaks)

pub told-of-end : (port : Opening) (rows all : List Row) (told : Option BrokenLaw) (walk : Walk) (law : Option ℕ) → all ≡ rows → told ≡ None → Walks port all told walk
    → ((s : State) → StandsAt walk port s → law ≡ end_broken s) → broken_at (length all) law ≡ verdict port (reverse rows)
told-of-end port rows all told walk law all_are told_is walks ends =
    let taken : AllTaken port rows walk = subst (λ o. Walks port rows o walk) told_is (subst (λ rs. Walks port rs told walk) all_are walks) in
    ap (λ rs. broken_at (length rs) law) all_are ∙ sym (verdict-of-end port rows law taken.0 (sym (ends (state port (reverse rows)) taken.1)))

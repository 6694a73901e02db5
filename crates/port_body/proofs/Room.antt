-- For how many rows there is room, as rows come.
use Rattle.std.proofs.Common.{◌≡◌, ℕ, ◌+◌, ◌≤◌, map, Bool, true, false, List, [], ◌∷◌, ◌++◌, length, length-append, refl, sym, ap, ◌∙◌, arith, inl, inr}
use Rattle.std.specs.Prelude.{reverse}
use Rattle.std.proofs.lemmas.List.{length-map}
use Rattle.task_queue.specs.declared.item.Item.{Item}
use Rattle.port_lanes.specs.Parcels.{ParcelView}
use Rattle.port_model.specs.port_signal.declared.mark.MarkKind.{MarkKind}
use Rattle.port_model.specs.declared.row.Row.{Row}
use Rattle.port_model.specs.declared.row.Row.TheVariants.{Listed, Mark, Resumed}
use Rattle.port_model.specs.declared.signal.Sender.{Sender}
use Rattle.port_model.specs.declared.signal.Sender.TheVariants.{Process}
use Rattle.port_model.specs.Tasks.{TaskView}
use Rattle.port_events.specs.port_history.State.{state}
use Rattle.port_events.specs.port_history.Suspension.{Entry, entry}
use Rattle.port_suspension.specs.Listed.{listed_as}
use Rattle.waiting_parcels.specs.Waiting.{GoesFirst}
use Rattle.recorded_port.specs.served_port.Outcomes.{is_handled}
use Rattle.recorded_port.specs.View.{RecordedView, IsSettled, state_of}
use Rattle.recorded_port.specs.Taking.{IsSameRecorded, Takes, UsesRoom}
use Rattle.recorded_port.specs.Resuming.{Resumes, may_go, resumed_rows}
use Rattle.recorded_port.proofs.Append.{rows-more}

-- who is listed is told by the list of the suspended senders
same_listed : (old new : RecordedView) → IsSettled old → IsSettled new → new.suspended ≡ old.suspended → (state_of new).listed ≡ (state_of old).listed
same_listed old new before after same = sym after.recorded.listed ∙ (ap (λ s. map listed_as s.entries) same ∙ before.recorded.listed)

-- there is room for the rows of a task if there was for so many more as it takes
abbrev pub KeepsRoom : ℕ → RecordedView → RecordedView → Type 0
KeepsRoom taken old new = (rows : ℕ) → (rows + taken) + length (state_of old).listed ≤ old.room → rows + length (state_of new).listed ≤ new.room

takes_room : (old new : RecordedView) (most : ℕ) (marks : List MarkKind) (row : Row) → IsSettled old → IsSettled new → UsesRoom old new → new.suspended ≡ old.suspended
    → new.rows ≡ old.rows ++ row ∷ map Mark marks → length marks + 1 ≤ most → KeepsRoom most old new
takes_room old new most marks row before after uses same rows few more enough =
    let listed = ap length (same_listed old new before after same) in
    let added = ap length rows ∙ length-append old.rows (row ∷ map Mark marks) in
    let many = length-map marks Mark in
    omega (arith, uses, listed, added, many, few, enough)

pub took_room : (old new : RecordedView) (from : Sender) (seq : ℕ) (task : TaskView) → IsSettled old → IsSettled new → UsesRoom old new → Takes old new from seq task → KeepsRoom 3 old new
took_room old new from seq task before after uses takes =
    takes_room old new 3 takes.marks takes.row before after uses takes.suspended takes.rows (let few = takes.few in omega (arith, few))

pub late_room : (old new : RecordedView) (from : Sender) (seq : ℕ) (task : TaskView) → IsSettled old → IsSettled new → UsesRoom old new → Takes old new from seq task
    → is_handled (state_of old) from task.signal ≡ false → KeepsRoom 1 old new
late_room old new from seq task before after uses takes late =
    takes_room old new 1 takes.marks takes.row before after uses takes.suspended takes.rows (let none = ap length (takes.quiet late) in omega (arith, none))

-- each that is resumed takes the place that there was for it
resumed_even : (old new : RecordedView) → IsSettled old → IsSettled new → Resumes old new
    → length new.rows + length (state_of new).listed ≡ length old.rows + length (state_of old).listed
resumed_even old new before after (inl (none, is)) = ap (λ (v : RecordedView). length v.rows + length (state_of v).listed) is
resumed_even old new before after (inr (word, looked)) =
    elim (may_go (state_of old) word) as (λ b. may_go (state_of old) word ≡ b → length new.rows + length (state_of new).listed ≡ length old.rows + length (state_of old).listed) [
      | true ↦ λ goes.
          let all = looked.all goes in
          let rows = ap length all.0 ∙ length-append old.rows (resumed_rows word (state_of old).listed) in
          let many = length-map (state_of old).listed (λ (e : Entry). Resumed e.from e.seq word) in
          let none = ap length all.1 in
          omega (arith, rows, many, none)
      | false ↦ λ stays.
          let none = looked.nobody stays in
          let rows = ap length none.0 in
          let listed = ap length (same_listed old new before after none.1) in
          omega (arith, rows, listed)
    ] refl

pub resumed_room : (old new : RecordedView) → IsSettled old → IsSettled new → UsesRoom old new → Resumes old new
    → (rows : ℕ) → rows + length (state_of old).listed ≤ old.room → rows + length (state_of new).listed ≤ new.room
resumed_room old new before after uses resumes rows enough =
    let even = resumed_even old new before after resumes in
    omega (arith, uses, even, enough)

-- a row, and a sender more that is listed
pub listed_room : (old new : RecordedView) (process seq : ℕ) → IsSameRecorded old new → UsesRoom old new → new.rows ≡ old.rows ++ Listed (Process process) seq ∷ [] → KeepsRoom 2 old new
listed_room old new process seq same uses rows more enough =
    let added = ap length rows ∙ length-append old.rows (Listed (Process process) seq ∷ []) in
    let history : reverse new.rows ≡ Listed (Process process) seq ∷ reverse old.rows = ap reverse rows ∙ rows-more old.rows (Listed (Process process) seq) in
    let listed : (state_of new).listed ≡ (state_of old).listed ++ entry (Process process) seq ∷ [] =
    ap (λ o. (state o (reverse new.rows)).listed) same.opening ∙ ap (λ r. (state old.opening r).listed) history in
    let many = ap length listed ∙ length-append (state_of old).listed (entry (Process process) seq ∷ []) in
    omega (arith, uses, added, many, enough)

-- a task that goes leaves fewer that wait
pub fewer_wait : (busy : Bool) (items rest : List (Item ParcelView)) (x : Item ParcelView) → GoesFirst busy items x rest → length rest + 1 ≡ length items
fewer_wait busy items rest x goes =
    let all = ap length goes.split ∙ length-append goes.before (x ∷ goes.after) in
    let some = ap length goes.left ∙ length-append goes.before goes.after in
    omega (arith, all, some)

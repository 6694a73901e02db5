-- The processes that are listed and not resumed.
use Rattle.std.proofs.Common.{◌≡◌, ℕ, ◌≤◌, cond, true, false, ◌&&◌, ◌||◌, not, List, [], ◌∷◌, ◌++◌, length, length-append, refl, sym, ap, ◌∙◌, subst, arith, append_assoc}
use Rattle.std.specs.Prelude.{nat_le}
use Rattle.std.specs.List.{list_all}
use Rattle.std.proofs.lemmas.Bool.{and_parts, not-true, true≢false}
use Rattle.std.proofs.lemmas.List.{append-nil}
use Rattle.port_model.specs.declared.row.Row.{Row}
use Rattle.port_model.specs.declared.row.Row.TheVariants.{Handled, Late, Listed, Resumed, Mark}
use Rattle.port_model.specs.declared.signal.Sender.{Sender}
use Rattle.port_model.specs.declared.signal.Sender.TheVariants.{Process}
use Rattle.port_history.specs.Jobs.{is_done}
use Rattle.port_history.specs.Laws.{count_of, all_resumed, is_given_back}
use Rattle.port_history.specs.Lawful.{Lawful}
use Rattle.port_history.specs.Marks.{is_busy}
use Rattle.port_history.specs.Opening.{Opening, same_sender}
use Rattle.port_history.specs.State.{state, is_open}
use Rattle.port_history.specs.Suspension.{Entry, entry, has_entry, has_sender, is_first, is_queue_busy, without_entry}
use Rattle.suspended_calls.specs.Numbers.{number_from, listed_numbers, resumed_numbers}
use Rattle.suspended_calls.specs.Listed.{ResumedCallsAreListed}
use Rattle.suspended_calls.proofs.Senders.{numbers_in, sender-is, numbers-append, no-numbers, first-goes}

-- of the calls for which a process was listed the last waits, or none does
record Waits (port : Opening) (process : ℕ) (history : List Row) : Type 0 where
  pub are : listed_numbers process history ≡ resumed_numbers process history ++ numbers_in process (state port history).listed
  pub few : length (numbers_in process (state port history).listed) ≤ 1

-- a sender that isn't listed is listed
few-more : (process : ℕ) (from : Sender) (seq : ℕ) (entries : List Entry) → has_sender from entries ≡ false → length (numbers_in process entries) ≤ 1
    → length (numbers_in process entries ++ number_from process from seq) ≤ 1
few-more process from seq entries none few =
    elim (same_sender (Process process) from) as (λ b. same_sender (Process process) from ≡ b → length (numbers_in process entries ++ cond b (seq ∷ []) []) ≤ 1) [
      | true ↦ λ own. rw (no-numbers process entries (ap (λ f. has_sender f entries) (sender-is (Process process) from own) ∙ none)) (omega arith)
      | false ↦ λ _. rw (append-nil (numbers_in process entries)) few
    ] refl

waits : (port : Opening) (process : ℕ) (history : List Row) → Lawful port history → Waits port process history
waits port process [] lawful = record { are = refl; few = omega arith }
waits port process (Handled from seq task outside effects ∷ older) lawful = let w = waits port process older lawful.1 in record { are = w.are; few = w.few }
waits port process (Late from seq task ∷ older) lawful = let w = waits port process older lawful.1 in record { are = w.are; few = w.few }
waits port process (Mark kind ∷ older) lawful = let w = waits port process older lawful.1 in record { are = w.are; few = w.few }
waits port process (Listed from seq ∷ older) lawful =
    let w = waits port process older lawful.1 in
    let s = state port older in
    let free = not-true (has_sender from s.listed)
    (and_parts (not (has_entry (entry from seq) s.entries) && nat_le (count_of from s.senders) seq) (not (has_sender from s.listed)) lawful.0.listed).1 in
    let more : numbers_in process (s.listed ++ entry from seq ∷ []) ≡ numbers_in process s.listed ++ number_from process from seq =
    numbers-append process s.listed (entry from seq ∷ []) ∙ ap (λ ns. numbers_in process s.listed ++ ns) (append-nil (number_from process from seq)) in
    record {
      are = ap (λ ns. ns ++ number_from process from seq) w.are
          ∙ append_assoc (resumed_numbers process older) (numbers_in process s.listed) (number_from process from seq)
          ∙ ap (λ ns. resumed_numbers process older ++ ns) (sym more);
      few = subst (λ ns. length ns ≤ 1) (sym more) (few-more process from seq s.listed free w.few);
    }
waits port process (Resumed from seq word ∷ older) lawful =
    let w = waits port process older lawful.1 in
    let s = state port older in
    let first = (and_parts (is_first (entry from seq) s.listed) (not (is_open s) || not (is_busy s.marks || is_queue_busy word)) lawful.0.resumed).0 in
    let front = number_from process from seq in
    let rest = numbers_in process (without_entry (entry from seq) s.listed) in
    let goes = first-goes process from seq s.listed first w.few in
    record {
      are = w.are ∙ ap (λ ns. resumed_numbers process older ++ ns) goes ∙ sym (append_assoc (resumed_numbers process older) front rest);
      few = let less = ap length goes in
          let long = length-append front rest in
          let few = w.few in
          omega (arith, less, long, few);
    }

none-waits : (entries : List Entry) → all_resumed entries ≡ true → entries ≡ []
none-waits [] e = refl
none-waits (x ∷ entries) e = absurd (true≢false (sym e))

pub resumed-are-listed : ResumedCallsAreListed
resumed-are-listed port process history lawful finished =
    let s = state port history in
    let given = list_all is_given_back s.events in
    let done = list_all (λ job. is_done job.number s.done) s.jobs in
    let all = (and_parts s.stopped (all_resumed s.listed)
    (and_parts (s.stopped && all_resumed s.listed) given (and_parts ((s.stopped && all_resumed s.listed) && given) done finished.end).0).0).1 in
    let w = waits port process history lawful in
    sym (w.are ∙ ap (λ es. resumed_numbers process history ++ numbers_in process es) (none-waits s.listed all) ∙ append-nil (resumed_numbers process history))

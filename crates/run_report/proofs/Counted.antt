-- The rows of a port, one by one, and the counts of the processes.
use Rattle.std.proofs.Common.{arith, ◌≡◌, ℕ, ◌+◌, ◌<◌, List, [], ◌∷◌, ◌++◌, length, map, replicate, take, reverse, get_or, ap, sym, ◌∙◌}
use Rattle.std.specs.Prelude.{All, IsSome, if◌then◌else◌}
use Rattle.std.specs.List.{count_by}
use Rattle.std.proofs.lemmas.List.{take_more, reverse-append, length-replicate, get_or-replicate, get_or-map, map-append}
use Rattle.std.proofs.lemmas.List.Elements.{All-map}
use Rattle.std.proofs.lemmas.List.Sums.{sum_by_more}
use Rattle.port_model.specs.declared.row.Row.{Row}
use Rattle.journal_text.specs.declared.book.PortReport.{PortReport}
use Rattle.run_report.specs.declared.counts.PortCounts.{PortCounts}
use Rattle.run_report.specs.Ports.{IsFrom, IsOfProcesses, HasEnded, counts_of}
use Rattle.run_report.specs.Processes.{HasMore, commands_of, is_command_of}

-- the history of one row more, newest first
pub reverse-take_more : (rows : List Row) (i : ℕ) (row : Row) → i < length rows → row ≡ get_or rows i row → reverse (take (i + 1) rows) ≡ row ∷ reverse (take i rows)
reverse-take_more rows i row h is =
    ap reverse (take_more rows i row h ∙ ap (λ r. take i rows ++ r ∷ []) (sym is)) ∙ reverse-append (take i rows) (row ∷ [])

-- the row at this place is from one of so many processes, as all are
pub from-row : (processes : ℕ) (rows : List Row) (places i : ℕ) (row : Row) → places ≡ processes → All (IsFrom processes) rows → i < length rows → row ≡ get_or rows i row
    → IsFrom places row
from-row processes rows places i row e all h is = rw (e, is) (all i row h)

add-assoc : (a b c d e : ℕ) → a ≡ b + c → b ≡ d + e → a ≡ d + (e + c)
add-assoc a b c d e p q = omega arith

-- more, and then more again
more-again : (f g h : ℕ → ℕ) (first second third : List ℕ) → HasMore f first second → HasMore g second third → ((process : ℕ) → f process + g process ≡ h process) → HasMore h first third
more-again f g h first second third p q sums = record {
  len = q.len ∙ p.len;
  counts = λ process below.
      add-assoc (get_or third process 0) (get_or second process 0) (g process) (get_or first process 0) (f process)
      (q.counts process (rw p.len below)) (p.counts process below)
      ∙ ap (λ n. get_or first process 0 + n) (sums process);
}

-- the counts after one row more
pub more-row : (rows : List Row) (i : ℕ) (row : Row) (first second third : List ℕ) → i < length rows → row ≡ get_or rows i row
    → HasMore (λ process. count_by (is_command_of process) (take i rows)) first second → HasMore (λ process. if is_command_of process row then 1 else 0) second third
    → HasMore (λ process. count_by (is_command_of process) (take (i + 1) rows)) first third
more-row rows i row first second third h is p q =
    more-again _ _ _ first second third p q
    (λ process. ap (λ r. count_by (is_command_of process) (take i rows) + (if is_command_of process r then 1 else 0)) is
    ∙ sym (sum_by_more (λ r. if is_command_of process r then 1 else 0) rows i row h))

-- the counts after one port more
pub more-port : (ports : List PortReport) (i : ℕ) (port : PortReport) (first second third : List ℕ) → i < length ports → port ≡ get_or ports i port
    → HasMore (λ process. commands_of process (take i ports)) first second → HasMore (λ process. count_by (is_command_of process) port.journal.rows) second third
    → HasMore (λ process. commands_of process (take (i + 1) ports)) first third
more-port ports i port first second third h is p q =
    more-again _ _ _ first second third p q
    (λ process. ap (λ (x : PortReport). commands_of process (take i ports) + count_by (is_command_of process) x.journal.rows) is
    ∙ sym (sum_by_more (λ (x : PortReport). count_by (is_command_of process) x.journal.rows) ports i port h))

none-and : (a b more : ℕ) → a ≡ b + more → b ≡ 0 → a ≡ more
none-and a b more e none = omega arith

-- the counts where none was counted before
pub more-of-none : (n : ℕ) (more : ℕ → ℕ) (newer : List ℕ) → HasMore more (replicate n 0) newer
    → (length newer ≡ n) × ((process : ℕ) → process < n → get_or newer process 0 ≡ more process)
more-of-none n more newer h = (
  h.len ∙ length-replicate {A = ℕ} n 0,
  λ process below.
      none-and (get_or newer process 0) (get_or (replicate n 0) process 0) (more process)
      (h.counts process (rw (length-replicate {A = ℕ} n 0) below)) (get_or-replicate {A = ℕ} n process 0 0 below),
)

-- what a function gives on one element more
pub map_more : {A : Type 0} (f : PortReport → A) (xs : List PortReport) (i : ℕ) (x : PortReport) → i < length xs → x ≡ get_or xs i x
    → map f (take (i + 1) xs) ≡ map f (take i xs) ++ f x ∷ []
map_more f xs i x h is = ap (map f) (take_more xs i x h ∙ ap (λ y. take i xs ++ y ∷ []) (sym is)) ∙ map-append f (take i xs) (x ∷ [])

-- what was counted for the port at this place
pub counts-at : (processes : ℕ) (ports : List PortReport) (counts : List PortCounts) (i : ℕ) (port : PortReport) (count : PortCounts)
    → counts ≡ map (counts_of processes) ports → i < length ports → port ≡ get_or ports i port → count ≡ get_or counts i count → count ≡ counts_of processes port
counts-at processes ports counts i port count same below is counted =
    counted ∙ ap (λ xs. get_or xs i count) same ∙ get_or-map (counts_of processes) ports i port count below ∙ ap (counts_of processes) (sym is)

-- a reason is told for each port that has ended
pub all-ended : (processes : ℕ) (ports : List PortReport) (counts : List PortCounts) → All (HasEnded processes) ports → counts ≡ map (counts_of processes) ports
    → All (λ c. IsSome c.end) counts
all-ended processes ports counts ended same =
    rw same (All-map (λ (c : PortCounts). IsSome c.end) (counts_of processes) ports (λ i port below. (ended i port below).closed))

pub all-known : (processes : ℕ) (ports : List PortReport) → All (HasEnded processes) ports → All (IsOfProcesses processes) ports
all-known processes ports ended = λ i port below. (ended i port below).known

-- The list of the suspended processes.
use Rattle.std.specs.Prelude.{◌≡◌, ℕ, ◌<◌, Bool, true, List, ◌==◌, map}
use Rattle.std.specs.List.{IsDistinct, list_any}
use Rattle.suspend_list.specs.declared.list.Entry.{Entry}

-- the entries in the order in which they were listed, and how many processes there are
pub record Suspended : Type 0 where
  pub entries : List Entry
  pub places : ℕ

abbrev pub suspended : List Entry → ℕ → Suspended
suspended entries places = record { entries = entries; places = places }

abbrev pub processes_of : List Entry → List ℕ
processes_of entries = map (λ e. e.process) entries

-- whether this process is listed
abbrev pub is_listed : ℕ → List Entry → Bool
is_listed process entries = list_any (λ p. process == p) (processes_of entries)

-- no process is listed twice
abbrev pub EachOnce : List Entry → Type 0
EachOnce entries = IsDistinct (λ p q. p == q) (processes_of entries)

-- each process that is listed is one of so many
abbrev pub AllBelow : ℕ → List Entry → Type 0
AllBelow places entries = (process : ℕ) → is_listed process entries ≡ true → process < places

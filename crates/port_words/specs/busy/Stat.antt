-- STAT: four times the number of marks, plus 2 after a closed mark, plus 1 after a last busy mark.
use Rattle.std.specs.Prelude.{◌≡◌, ℕ, ◌+◌, ◌*◌, ◌/◌, ◌%◌, ◌≤◌, ◌==◌, Bool, true, false, List, [], ◌∷◌, length, take, All, if◌then◌else◌}
use mathlib.Core.Option.{some}
use lib.ListN.{get_elem?}
use Rattle.port_words.specs.sums.Counts.{one_if}
use Rattle.port_words.specs.declared.busy.view.StatMark.{StatMark}
use Rattle.port_words.specs.declared.busy.view.StatMark.TheVariants.{Busy, Free, Closed}
use Rattle.port_words.specs.declared.busy.view.SenderView.{SenderView}
use Rattle.port_words.specs.declared.busy.view.BusyView.{BusyView}

-- whether the last of the busy and free marks is busy, where it was so before them
abbrev pub busy_after : Bool → List StatMark → Bool
busy_after before [] = before
busy_after before (Busy ∷ ms) = busy_after true ms
busy_after before (Free ∷ ms) = busy_after false ms
busy_after before (Closed ∷ ms) = busy_after before ms

abbrev pub marked_busy : List StatMark → Bool
marked_busy ms = busy_after false ms

abbrev pub marked_closed : List StatMark → Bool
marked_closed [] = false
marked_closed (Busy ∷ ms) = marked_closed ms
marked_closed (Free ∷ ms) = marked_closed ms
marked_closed (Closed ∷ ms) = true

abbrev pub stat_of : List StatMark → ℕ
stat_of ms = 4 * length ms + 2 * one_if (marked_closed ms) + one_if (marked_busy ms)

-- What a word of STAT says: how many marks were made, and whether they left the port closed and busy
abbrev pub marks_told : ℕ → ℕ
marks_told stat = stat / 4

abbrev pub tells_closed : ℕ → Bool
tells_closed stat = stat / 2 % 2 == 1

abbrev pub tells_busy : ℕ → Bool
tells_busy stat = stat % 2 == 1

abbrev pub mark_of : Bool → StatMark
mark_of busy = if busy then Busy else Free

-- each word is the STAT of a beginning of the marks, of at least that length, and the beginnings rise
abbrev pub Rises : List StatMark → ℕ → List ℕ → Type 0
Rises marks from [] = Unit {0}
Rises marks from (t ∷ ts) = (k : ℕ) × (from ≤ k) × (k ≤ length marks) × (t ≡ stat_of (take k marks)) × Rises marks k ts

-- the STAT words of each sender
abbrev pub EachRises : List StatMark → List SenderView → Type 0
EachRises marks senders = All (λ s. Rises marks 0 s.stats) senders

-- The rule's part on STAT. One view is the port's, with the marks, and each sender found the STAT of beginnings of them that rise
pub record IsStat (word : ℕ) (views : List BusyView) : Type 0 where
  pub port : ℕ
  pub marks : List StatMark
  pub stat : word ≡ stat_of marks
  pub one_port : (i : ℕ) (v : BusyView) → get_elem? views i ≡ some v → v.port ≡ true → (i ≡ port) × (v.marks ≡ marks)
  pub found : All (λ v. EachRises marks v.senders) views

-- No odd period comes out of nothing, and the levels of each period.
use Rattle.std.proofs.Common.{◌≡◌, ℕ, ◌+◌, ◌*◌, ◌%◌, ◌^◌, ◌<◌, ◌≤◌, true, List, sym, refl, ap, ◌∙◌, arith, ⊎_elim, true≢false}
use Rattle.std.specs.Prelude.{nat_le}
use Rattle.std.proofs.lemmas.Bool.{le-leb}
use mathlib.Core.Logic.{dite}
use native.Mathlib.Decide.{ℕ_discrete}
use Rattle.port_words.specs.sums.Counts.{one_if}
use Rattle.port_words.proofs.lemmas.sums.Counting.{same_number}
use Rattle.port_words.specs.declared.busy.view.QueueLimits.{QueueLimits}
use Rattle.port_words.specs.declared.busy.view.QueueAdd.{QueueAdd}
use Rattle.port_words.specs.declared.busy.view.BusyView.{BusyView}
use Rattle.port_words.specs.busy.Views.{over_adds}
use Rattle.port_words.specs.busy.Queue.{period_of, bytes_of, is_left_at, left_in, filled_in, add_size, added, taken, IsWithin}
use Rattle.port_words.specs.busy.Parts.{IsFilled, IsLevel}
use Rattle.port_words.proofs.lemmas.busy.ViewLemmas.{SameAdds, MoreAdds}
use Rattle.port_words.proofs.lemmas.busy.WordLemmas.{Fills, FillsNot, fill_cases, added_parts, Frees, FreesNot, free_cases, taken_parts}

pub filled_move : (l : QueueLimits) (x x' : ℕ) (views after : List BusyView) → SameAdds views after → ((period : ℕ) → period % 2 ≡ 1 → period ≤ period_of x' → period ≤ period_of x) → (0 < period_of x' → 0 < period_of x) → IsFilled l x views → IsFilled l x' after
filled_move l x x' views after adds before some part = record {
  filled = (λ on period is_odd below. let same = adds.adds (filled_in l.high period) in let h = part.filled on period is_odd (before period is_odd below) in omega arith);
  heavy = (λ on above. let same = adds.adds add_size in let h = part.heavy on (some above) in omega arith);
}

pub filled_same : (l : QueueLimits) (x : ℕ) (views after : List BusyView) → SameAdds views after → IsFilled l x views → IsFilled l x after
filled_same l x views after adds part = filled_move l x x views after adds (λ period is_odd below. below) (λ h. h) part

pub filled_add : (l : QueueLimits) (x n : ℕ) (a : QueueAdd) (views after : List BusyView) → MoreAdds a views after → a.word ≡ added l x n → a.name.size ≡ n → bytes_of x + n < 2 ^ 40 → bytes_of x ≤ over_adds add_size views
    → IsFilled l x views → IsFilled l a.word after
filled_add l x n a views after adds is size room all part =
    let bytes : bytes_of a.word ≡ bytes_of x + n = ap bytes_of is ∙ (added_parts l x n room).1 in
    ⊎_elim
    (λ (f : Fills l x n).
    let next : period_of a.word ≡ period_of x + 1 = ap period_of is ∙ f.period in
    let high = f.high in
    record {
      filled = (λ on period is_odd below.
          let sums = adds.adds (filled_in l.high period) in
          dite (ℕ_discrete (period_of a.word) period)
          (λ same.
          let left = same_number (period_of a.word) period same in
          let full : one_if (nat_le l.high (bytes_of a.word)) ≡ 1 = ap one_if (le-leb l.high (bytes_of a.word) (omega arith)) in
          let here : is_left_at period a * one_if (nat_le l.high (bytes_of a.word)) ≡ 1 * 1 = (λ i. left i * full i) in
          omega arith)
          (λ differ. let h = part.filled on period is_odd (omega arith) in omega arith));
      heavy = (λ on above. let sums = adds.adds add_size in omega arith);
    })
    (λ (f : FillsNot l x n).
    let same : period_of a.word ≡ period_of x = ap period_of is ∙ f.period in
    record {
      filled = (λ on period is_odd below. let sums = adds.adds (filled_in l.high period) in let h = part.filled on period is_odd (omega arith) in omega arith);
      heavy = (λ on above. let sums = adds.adds add_size in let h = part.heavy on (omega arith) in omega arith);
    })
    (fill_cases l x n room)

pub level_add : (l : QueueLimits) (x n : ℕ) → bytes_of x + n < 2 ^ 40 → (l.on ≡ true → l.low ≤ l.high) → IsLevel l x → IsLevel l (added l x n)
level_add l x n room ordered part =
    let bytes = (added_parts l x n room).1 in
    ⊎_elim
    (λ (f : Fills l x n).
    let next = f.period in
    let even = f.even in
    let high = f.high in
    record {
      off = (λ off. absurd (true≢false (sym f.on ∙ off)));
      even = (λ on is_even. absurd (omega arith));
      odd = (λ on is_odd. let le = ordered on in omega arith);
    })
    (λ (f : FillsNot l x n).
    let same = f.period in
    record {
      off = (λ off. same ∙ part.off off);
      even = (λ on is_even. let h = f.below on (omega arith) in omega arith);
      odd = (λ on is_odd. let h = part.odd on (omega arith) in omega arith);
    })
    (fill_cases l x n room)

pub level_take : (l : QueueLimits) (x n : ℕ) → n ≤ bytes_of x → (l.on ≡ true → l.low ≤ l.high) → IsLevel l x → IsLevel l (taken l x n)
level_take l x n within ordered part =
    let bytes = (taken_parts l x n within).1 in
    ⊎_elim
    (λ (f : Frees l x n).
    let next = f.period in
    let is_odd = f.odd in
    let low = f.low in
    record {
      off = (λ off. let none' = part.off off in absurd (omega arith));
      even = (λ on is_even. let le = ordered on in omega arith);
      odd = (λ on is_odd'. absurd (omega arith));
    })
    (λ (f : FreesNot l x n).
    let same = f.period in
    record {
      off = (λ off. same ∙ part.off off);
      even = (λ on is_even. let h = part.even on (omega arith) in omega arith);
      odd = (λ on is_odd. let h = f.above (omega arith) in omega arith);
    })
    (free_cases l x n within)

-- the word that an add leaves is within the bound, once its own size is counted
pub within_add : (l : QueueLimits) (x n : ℕ) (a : QueueAdd) (left : ℕ → ℕ) → a.word ≡ added l x n → a.name.size ≡ n → bytes_of x + n < 2 ^ 40 → l.on ≡ true → IsLevel l x → IsWithin l left x → IsWithin l (λ period. left period + left_in period a) a.word
within_add l x n a left is size room on level within =
    let bytes : bytes_of a.word ≡ bytes_of x + n = ap bytes_of is ∙ (added_parts l x n room).1 in
    let here : left_in (period_of a.word) a ≡ 1 * a.name.size = ap (λ (k : ℕ). k * a.name.size) (same_number (period_of a.word) (period_of a.word) refl) in
    ⊎_elim
    (λ (f : Fills l x n).
    let next : period_of a.word ≡ period_of x + 1 = ap period_of is ∙ f.period in
    let even = f.even in
    let before = within.even f.even in
    record { even = (λ is_even. absurd (omega arith)); odd = (λ is_odd. omega arith) })
    (λ (f : FillsNot l x n).
    let same : period_of a.word ≡ period_of x = ap period_of is ∙ f.period in
    let left_same : left (period_of a.word) ≡ left (period_of x) = ap left same in
    record {
      even = (λ is_even. let h = f.below on (omega arith) in omega arith);
      odd = (λ is_odd. let h = within.odd (omega arith) in omega arith);
    })
    (fill_cases l x n room)

pub within_take : (l : QueueLimits) (x n : ℕ) (left : ℕ → ℕ) → n ≤ bytes_of x → l.on ≡ true → l.low ≤ l.high → IsWithin l left x → IsWithin l left (taken l x n)
within_take l x n left within' on ordered within =
    let bytes = (taken_parts l x n within').1 in
    ⊎_elim
    (λ (f : Frees l x n).
    let next = f.period in
    let is_odd = f.odd in
    let low = f.low in
    record { even = (λ is_even. omega arith); odd = (λ is_odd'. absurd (omega arith)) })
    (λ (f : FreesNot l x n).
    let same = f.period in
    let left_same : left (period_of (taken l x n)) ≡ left (period_of x) = ap left same in
    record {
      even = (λ is_even. let h = within.even (omega arith) in omega arith);
      odd = (λ is_odd. let h = within.odd (omega arith) in omega arith);
    })
    (free_cases l x n within')

-- The bytes of every word are within the bound, and at most one add that left an odd period is without suspension.
use Rattle.std.proofs.Common.{◌≡◌, ℕ, ◌+◌, ◌*◌, ◌%◌, ◌≤◌, Bool, true, false, List, refl, ap, arith}
use Rattle.std.specs.List.{All, sum_by}
use Rattle.std.proofs.lemmas.List.Elements.{All-nil, All-push, All-weaker}
use mathlib.Core.Logic.{dite}
use native.Mathlib.Decide.{ℕ_discrete}
use Rattle.port_words.specs.sums.Counts.{one_if}
use Rattle.port_words.proofs.lemmas.sums.Counting.{same_number, other_number}
use Rattle.port_words.proofs.lemmas.sums.Totals.{sum_by-at_most}
use Rattle.port_words.specs.declared.busy.view.QueueLimits.{QueueLimits}
use Rattle.port_words.specs.declared.busy.view.QueueAdd.{QueueAdd}
use Rattle.port_words.specs.declared.busy.view.BusyView.{BusyView}
use Rattle.port_words.specs.busy.Views.{over_adds}
use Rattle.port_words.specs.busy.Queue.{period_of, is_left_at, left_in, is_nosuspend, unsuspended_in, IsWithin}
use Rattle.port_words.specs.busy.Parts.{IsBounded, IsClimbing}
use Rattle.port_words.proofs.lemmas.busy.ViewLemmas.{SameAdds, MoreAdds, SameWords, MoreWords}
use Rattle.port_words.proofs.lemmas.busy.PeriodLemmas.{words_weaker}

pub within_more : (l : QueueLimits) (left left' : ℕ → ℕ) (x : ℕ) → ((period : ℕ) → left period ≤ left' period) → IsWithin l left x → IsWithin l left' x
within_more l left left' x more w = record { even = w.even; odd = (λ is_odd. let h = w.odd is_odd in let m = more (period_of x) in omega arith) }

pub bounded_same : (l : QueueLimits) (x : ℕ) (views after : List BusyView) → SameAdds views after → SameWords views after → IsBounded l x views → IsBounded l x after
bounded_same l x views after adds words part =
    let L : ℕ → ℕ = λ period. over_adds (left_in period) views in
    let L' : ℕ → ℕ = λ period. over_adds (left_in period) after in
    let more : (period : ℕ) → L period ≤ L' period = λ period. (let same = adds.adds (left_in period) in omega arith) in
    record {
      now = (λ on. within_more l L L' x more (part.now on));
      words = (λ on. words.kept (All (IsWithin l L')) (All-nil (IsWithin l L'))
          (words_weaker (All (IsWithin l L)) (All (IsWithin l L')) (λ ws all. All-weaker (IsWithin l L) (IsWithin l L') (λ w k. within_more l L L' w more k) ws all) views (part.words on)));
      unsuspended = (λ period is_odd. let same = adds.adds (unsuspended_in period) in let before = part.unsuspended period is_odd in omega arith);
    }

pub bounded_move : (l : QueueLimits) (x x' : ℕ) (views after : List BusyView) → SameAdds views after → MoreWords x' views after → (l.on ≡ true → IsWithin l (λ period. over_adds (left_in period) views) x') → IsBounded l x views → IsBounded l x' after
bounded_move l x x' views after adds words within part =
    let L : ℕ → ℕ = λ period. over_adds (left_in period) views in
    let L' : ℕ → ℕ = λ period. over_adds (left_in period) after in
    let more : (period : ℕ) → L period ≤ L' period = λ period. (let same = adds.adds (left_in period) in omega arith) in
    record {
      now = (λ on. within_more l L L' x' more (within on));
      words = (λ on. words.kept (All (IsWithin l L')) (λ ws all. All-push (IsWithin l L') ws x' all (within_more l L L' x' more (within on)))
          (words_weaker (All (IsWithin l L)) (All (IsWithin l L')) (λ ws all. All-weaker (IsWithin l L) (IsWithin l L') (λ w k. within_more l L L' w more k) ws all) views (part.words on)));
      unsuspended = (λ period is_odd. let same = adds.adds (unsuspended_in period) in let before = part.unsuspended period is_odd in omega arith);
    }

part_at_most : (n : ℕ) (b : Bool) → n * one_if b ≤ n
part_at_most n true = omega arith
part_at_most n false = omega arith

-- an add without suspension finds an even period, so that it is the first to leave the odd one
unsuspended_more : (period x : ℕ) (a : QueueAdd) (views : List BusyView) → period % 2 ≡ 1 → IsClimbing x views → over_adds (unsuspended_in period) views ≤ 1 → (is_nosuspend a.how ≡ true → period_of x % 2 ≡ 0) → period_of x ≤ period_of a.word
    → (b : Bool) → is_nosuspend a.how ≡ b → over_adds (unsuspended_in period) views + unsuspended_in period a ≤ 1
unsuspended_more period x a views is_odd climbing before permitted rises false how =
    let none' : is_left_at period a * one_if (is_nosuspend a.how) ≡ is_left_at period a * 0 = ap (λ b. is_left_at period a * one_if b) how in
    omega arith
unsuspended_more period x a views is_odd climbing before permitted rises true how =
    let even = permitted how in
    let one : is_left_at period a * one_if (is_nosuspend a.how) ≡ is_left_at period a * 1 = ap (λ b. is_left_at period a * one_if b) how in
    dite (ℕ_discrete (period_of a.word) period)
    (λ same.
    let here = same_number (period_of a.word) period same in
    let most = sum_by-at_most (λ v. sum_by (λ s. sum_by (unsuspended_in period) s.ledger.adds) v.senders) (λ v. sum_by (λ s. sum_by (is_left_at period) s.ledger.adds) v.senders)
    (λ v. sum_by-at_most (λ s. sum_by (unsuspended_in period) s.ledger.adds) (λ s. sum_by (is_left_at period) s.ledger.adds) (λ s. sum_by-at_most (unsuspended_in period) (is_left_at period) (λ c. part_at_most (is_left_at period c) (is_nosuspend c.how)) s.ledger.adds) v.senders) views in
    let none' = climbing.later period (omega arith) in
    omega arith)
    (λ differ. let here = other_number (period_of a.word) period differ in omega arith)

pub bounded_add : (l : QueueLimits) (x : ℕ) (a : QueueAdd) (views after : List BusyView) → MoreAdds a views after → MoreWords a.word views after → (is_nosuspend a.how ≡ true → period_of x % 2 ≡ 0) → period_of x ≤ period_of a.word
    → (l.on ≡ true → IsWithin l (λ period. over_adds (left_in period) views + left_in period a) a.word) → IsClimbing x views → IsBounded l x views → IsBounded l a.word after
bounded_add l x a views after adds words permitted rises within climbing part =
    let L : ℕ → ℕ = λ period. over_adds (left_in period) views in
    let M : ℕ → ℕ = λ period. over_adds (left_in period) views + left_in period a in
    let L' : ℕ → ℕ = λ period. over_adds (left_in period) after in
    let more : (period : ℕ) → L period ≤ L' period = λ period. (let same = adds.adds (left_in period) in omega arith) in
    let more' : (period : ℕ) → M period ≤ L' period = λ period. (let same = adds.adds (left_in period) in omega arith) in
    record {
      now = (λ on. within_more l M L' a.word more' (within on));
      words = (λ on. words.kept (All (IsWithin l L')) (λ ws all. All-push (IsWithin l L') ws a.word all (within_more l M L' a.word more' (within on)))
          (words_weaker (All (IsWithin l L)) (All (IsWithin l L')) (λ ws all. All-weaker (IsWithin l L) (IsWithin l L') (λ w k. within_more l L L' w more k) ws all) views (part.words on)));
      unsuspended = (λ period is_odd. let same = adds.adds (unsuspended_in period) in let most = unsuspended_more period x a views is_odd climbing (part.unsuspended period is_odd) permitted rises (is_nosuspend a.how) refl in omega arith);
    }

-- The four seats of a new word OVER.
use Rattle.std.proofs.Common.{◌≡◌, List, [], ◌∷◌, ◌++◌, true, false, length, slice_get, refl, sym, ap, ◌∙◌, subst, arith, length-append}
use Rattle.std.proofs.lemmas.Option.{same_Some}
use Rattle.atomic_table.specs.Seated.{TableId}
use Rattle.port_words.specs.over.Over.{OverKnown, over_size, fresh_seat, fresh_seats, HasNotStopped}
use Rattle.port_sched.specs.Lodging.{is_counted, has_finished}
use Rattle.sched_tests.specs.Seats.{AreFour}

pub four : (word : TableId) (all three two one rest : List OverKnown) (a b c d : OverKnown) → all ≡ fresh_seats word (over_size 2 4) 0 4
    → all ≡ three ++ d ∷ [] → three ≡ two ++ c ∷ [] → two ≡ one ++ b ∷ [] → one ≡ rest ++ a ∷ [] → AreFour a b c d
four word all three two one [] a b c d fresh e3 e2 e1 e0 =
    let size = over_size 2 4 in
    let two_is : two ≡ a ∷ b ∷ [] = e1 ∙ ap (λ l. l ++ b ∷ []) e0 in
    let three_is : three ≡ a ∷ b ∷ c ∷ [] = e2 ∙ ap (λ l. l ++ c ∷ []) two_is in
    let all_is : all ≡ a ∷ b ∷ c ∷ d ∷ [] = e3 ∙ ap (λ l. l ++ d ∷ []) three_is in
    let whole : a ∷ b ∷ c ∷ d ∷ [] ≡ fresh_seat word size 0 ∷ fresh_seat word size 1 ∷ fresh_seat word size 2 ∷ fresh_seat word size 3 ∷ [] = sym all_is ∙ fresh in
    let is_a : a ≡ fresh_seat word size 0 = same_Some _ _ (ap (λ l. slice_get l 0) whole) in
    let is_b : b ≡ fresh_seat word size 1 = same_Some _ _ (ap (λ l. slice_get l 1) whole) in
    let is_c : c ≡ fresh_seat word size 2 = same_Some _ _ (ap (λ l. slice_get l 2) whole) in
    let is_d : d ≡ fresh_seat word size 3 = same_Some _ _ (ap (λ l. slice_get l 3) whole) in
    record {
      first_waits = subst (λ (s : OverKnown). (is_counted s.known ≡ true) × (has_finished s.known ≡ false)) (sym is_a) (refl, refl);
      second_waits = subst (λ (s : OverKnown). (is_counted s.known ≡ true) × (has_finished s.known ≡ false)) (sym is_b) (refl, refl);
      third_runs = subst (λ (s : OverKnown). HasNotStopped s.known.places) (sym is_c) refl;
      fourth_runs = subst (λ (s : OverKnown). HasNotStopped s.known.places) (sym is_d) refl;
    }
four word all three two one (x ∷ xs) a b c d fresh e3 e2 e1 e0 =
    absurd (let f = ap length fresh in let l3 = ap length e3 in let l2 = ap length e2 in let l1 = ap length e1 in let l0 = ap length e0 in
    let m3 = length-append three (d ∷ []) in let m2 = length-append two (c ∷ []) in let m1 = length-append one (b ∷ []) in let m0 = length-append xs (a ∷ []) in omega arith)

-- How each change of a vector keeps its count.
use Rattle.std.proofs.Common.{◌≡◌, ◌+◌, ◌-◌, ◌^◌, ◌<◌, ◌≤◌, ℕ, List, ◌++◌, length, drop, sym, ◌∙◌, ap, arith, length-append, length-drop}
use Rattle.std.proofs.lemmas.List.{drop-append-le, length-take-le}
use Rattle.std.specs.List.{concat}
use Rattle.io_vector.specs.IoVec.{IsCounted}
use Rattle.io_vector.specs.Segments.{segments_within, segments_past}
use Rattle.io_vector.proofs.Segments.{concat-segments_past, concat-segments_within, length-concat-append}

-- segments come in at the end
pub counted-append : (pieces more new : List (List ℕ)) (first size added : ℕ) → IsCounted pieces first size →
    new ≡ pieces ++ more → added ≡ length (concat more) → size + added < 2 ^ 63 → IsCounted new first (size + added)
counted-append pieces more new first size added old is count small =
    let within : first ≤ length pieces = old.within in
    let rest : drop first new ≡ drop first pieces ++ more =
    ap (λ xs. drop first xs) is ∙ drop-append-le first pieces more within in
    record {
      within = omega (arith, ap length is, length-append pieces more);
      counted = omega (arith, old.counted, ap (λ xs. length (concat xs)) rest, length-concat-append (drop first pieces) more);
      small = small;
    }

-- the first n bytes are a vector of n bytes
pub counted-prefix : (whole new : List (List ℕ)) (n : ℕ) → n ≤ length (concat whole) → n < 2 ^ 63 →
    new ≡ segments_within n whole → IsCounted new 0 n
counted-prefix whole new n within small is =
    record {
      within = omega arith;
      counted = sym (ap (λ xs. length (concat xs)) is ∙ ap length (concat-segments_within n whole)
          ∙ length-take-le n (concat whole) within);
      small = small;
    }

-- the bytes past the first n are n fewer
pub counted-skip : (pieces new : List (List ℕ)) (first start size n : ℕ) → IsCounted pieces first size →
    start ≤ length new → drop start new ≡ segments_past n (drop first pieces) → IsCounted new start (size - n)
counted-skip pieces new first start size n old within is =
    let bytes : concat (drop start new) ≡ drop n (concat (drop first pieces)) =
    ap concat is ∙ concat-segments_past n (drop first pieces) in
    record {
      within = within;
      counted = omega (arith, old.counted, ap length bytes, length-drop n (concat (drop first pieces)));
      small = omega (arith, old.small);
    }

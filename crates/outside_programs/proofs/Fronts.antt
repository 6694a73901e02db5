-- Fronts of lists, and what is behind them.
use Rattle.std.proofs.Common.{◌≡◌, ℕ, ◌+◌, List, ◌++◌, take, drop, sym}
use Rattle.std.proofs.lemmas.List.{take-append-drop, drop-drop}

-- the front of a rest, followed by what is behind it, is the rest
pub front_and_rest : (xs front : List ℕ) (used count : ℕ) → front ≡ take count (drop used xs) → front ++ drop (used + count) xs ≡ drop used xs
front_and_rest xs front used count same = rw (same, sym (drop-drop count used xs)) (take-append-drop count (drop used xs))

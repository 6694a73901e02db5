-- The bytes of segments with one more behind them.
use Rattle.std.proofs.Common.{◌≡◌, ℕ, List, [], ◌∷◌, ◌++◌, ap, ◌∙◌}
use Rattle.std.specs.List.{concat}
use Rattle.std.proofs.lemmas.List.{append-nil}
use Rattle.std.proofs.lemmas.List.Folds.{concat-append}

pub concat_behind : (segments : List (List ℕ)) (piece : List ℕ) → concat (segments ++ piece ∷ []) ≡ concat segments ++ piece
concat_behind segments piece = concat-append segments (piece ∷ []) ∙ ap (λ bytes. concat segments ++ bytes) (append-nil piece)

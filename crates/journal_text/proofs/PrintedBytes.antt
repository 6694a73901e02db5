-- The bytes of a vector of one segment.
use Rattle.std.proofs.Common.{◌≡◌, ℕ, List, [], ◌∷◌, ap}
use Rattle.std.specs.List.{concat}
use Rattle.std.proofs.lemmas.List.{append-nil}
use Rattle.journal_text.specs.Words.{bytes_text}

pub one_segment : (bytes : List ℕ) → bytes_text (concat (bytes ∷ [])) ≡ bytes_text bytes
one_segment bytes = ap bytes_text (append-nil bytes)

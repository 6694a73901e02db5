-- How many of the submitted jobs weren't told done.
use Rattle.std.specs.Prelude.{◌≡◌, ℕ, List, not}
use Rattle.std.specs.List.{count_by, range_with_len}
use Rattle.port_history.specs.Jobs.{is_done}

-- so many of the numbers below `submitted` aren't among those that were told done
abbrev pub IsCounted : ℕ → List ℕ → ℕ → Type 0
IsCounted submitted told waiting = waiting ≡ count_by (λ number. not (is_done number told)) (range_with_len 0 submitted)

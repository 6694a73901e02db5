-- A value with a level left.
use Rattle.std.proofs.Common.{◌≡◌, ℕ, zero, suc, ◌-◌, ◌<◌, List, refl, arith}
use Rattle.std.specs.Prelude.{slice_index}
use Rattle.script_text.specs.Data.{Language}
use Rattle.script_text.specs.Reading.{body_at, opening_of, value_at}

pub value_below : (language : Language) (levels : ℕ) (bytes : List ℕ) → 0 < levels → value_at language levels bytes ≡ body_at language (opening_of (slice_index bytes 0)) (levels - 1) (value_at language (levels - 1)) bytes
unfolding value_at
value_below language zero bytes lt = absurd (omega arith)
value_below language (suc levels) bytes lt = let e : suc levels - 1 ≡ levels = omega arith in rw e refl

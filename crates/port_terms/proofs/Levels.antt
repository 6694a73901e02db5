-- A term with a level left.
use Rattle.std.proofs.Common.{◌≡◌, ℕ, zero, suc, ◌-◌, ◌<◌, List, length, refl, arith}
use Rattle.port_terms.specs.Reading.{◌>>=◌, byte_at, body_at, tag_of, term_at}

pub term_below : (size levels : ℕ) (bytes : List ℕ) → 0 < levels → term_at size levels bytes ≡ (byte_at size bytes >>= λ tag. body_at (tag_of tag.0) (levels - 1) (term_at size (levels - 1)) (size - length bytes) tag.0 size tag.1)
unfolding term_at
term_below size zero bytes lt = absurd (omega arith)
term_below size (suc levels) bytes lt = let e : suc levels - 1 ≡ levels = omega arith in rw e refl

-- A vector of pieces is the list of its segments, each a list of bytes. Its bytes are the segments
-- joined in order, `concat` of `Rattle.std.specs.List`.
use Rattle.std.specs.Prelude.{ℕ, ◌-◌, ◌==◌, nat_le, if◌then◌else◌, List, [], ◌∷◌, length, take, drop}

-- the segments of the first n bytes: those that lie within them, and the front of one that lies across
abbrev pub segments_within : ℕ → List (List ℕ) → List (List ℕ)
segments_within n [] = []
segments_within n (s ∷ ss) =
    (if n == 0 then []
    else (if nat_le (length s) n then s ∷ segments_within (n - length s) ss else take n s ∷ []))

-- the segments after the first n bytes: those that lie past them, and the rest of one that lies across
abbrev pub segments_past : ℕ → List (List ℕ) → List (List ℕ)
segments_past n [] = []
segments_past n (s ∷ ss) =
    (if n == 0 then s ∷ ss
    else (if nat_le (length s) n then segments_past (n - length s) ss else drop n s ∷ ss))

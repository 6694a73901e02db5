use Rattle.std.specs.Prelude.{ℕ, ◌+◌, List, [], ◌∷◌, Bool, ◌&&◌, ◌||◌, ◌==◌, Option, Some, None, if◌then◌else◌, nat_lt, nat_le}

-- a letter a to z
abbrev pub is_small_letter : ℕ → Bool
is_small_letter byte = nat_le 97 byte && nat_le byte 122

-- a digit 0 to 9
abbrev pub is_digit : ℕ → Bool
is_digit byte = nat_le 48 byte && nat_le byte 57

-- whether the byte may stand at this place of a name: a letter, and after the first place a digit or `_` too
abbrev pub may_stand : ℕ → ℕ → Bool
may_stand at byte = is_small_letter byte || (nat_lt 0 at && (is_digit byte || byte == 95))

-- the first place, from `at` on, that no name has
abbrev pub fault_from : ℕ → List ℕ → Option ℕ
fault_from at [] = None
fault_from at (byte ∷ bytes) =
    if nat_lt at 16 && may_stand at byte then fault_from (at + 1) bytes else Some at

-- the first place at which the text isn't a name of 1 to 16 bytes
abbrev pub name_fault : List ℕ → Option ℕ
name_fault [] = Some 0
name_fault (byte ∷ bytes) = fault_from 0 (byte ∷ bytes)

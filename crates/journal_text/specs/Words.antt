-- The words of a line of a journal, and what stands between them.
use Rattle.std.specs.Prelude.{ℕ, ℤ, pos, negsuc, ◌^◌, ◌==◌, List, [], ◌∷◌, ◌++◌, Bool, not, ◌||◌, nat_lt, is_none}
use Rattle.std.specs.List.{list_all, flat_map}
use Rattle.hex.specs.Hex.{encode_lower}
use Rattle.port_signal.specs.Name.{name_fault}

-- a byte that may stand in a line: any but 10, which ends it
abbrev pub is_line_byte : ℕ → Bool
is_line_byte byte = not (byte == 10)

-- a byte that may stand in a word: any but a space, a comma and the end of a line
abbrev pub is_word_byte : ℕ → Bool
is_word_byte byte = not (byte == 32 || byte == 44 || byte == 10)

-- words with one space between two of them
abbrev pub spaced : List (List ℕ) → List ℕ
spaced [] = []
spaced (word ∷ []) = word
spaced (word ∷ next ∷ words) = word ++ 32 ∷ spaced (next ∷ words)

-- a list: each item behind a space, with a comma between two of them
abbrev pub listed : {A : Type 0} → (A → List ℕ) → List A → List ℕ
listed text [] = []
listed text (item ∷ items) = 32 ∷ text item ++ flat_map (λ other. 44 ∷ 32 ∷ text other) items

-- bytes: two lower-case hexadecimal digits for each, or `-` for none
abbrev pub bytes_text : List ℕ → List ℕ
bytes_text [] = 45 ∷ []
bytes_text (byte ∷ bytes) = encode_lower (byte ∷ bytes)

abbrev pub are_bytes : List ℕ → Bool
are_bytes bytes = list_all (λ byte. nat_lt byte 256) bytes

-- a number of 32 bits, and one of 64
abbrev pub is_32 : ℕ → Bool
is_32 number = nat_lt number (2 ^ 32)

abbrev pub is_64 : ℕ → Bool
is_64 number = nat_lt number (2 ^ 64)

-- a status: a whole number of 32 bits
abbrev pub is_status : ℤ → Bool
is_status (pos n) = nat_lt n (2 ^ 31)
is_status (negsuc n) = nat_lt n (2 ^ 31)

abbrev pub is_name : List ℕ → Bool
is_name name = is_none (name_fault name)

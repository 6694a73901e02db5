-- The one spelling of a term that is written, and the bytes of an I/O list.
use Rattle.std.specs.Prelude.{ℕ, ℤ, suc, pos, negsuc, ◌^◌, Bool, true, false, ◌&&◌, nat_lt, if◌then◌else◌, List, [], ◌∷◌, ◌++◌, length, reverse, encode_utf8_all}
use Rattle.std.specs.Int.{w16, w32, to_be_bytes, cast_unsigned}
use Rattle.std.specs.Int.Digits.{digits_of}
use Rattle.port_terms.specs.Tree.{Tree, Forest, int, atom, bin, tuple, list, none, more, count}

-- SMALL_BIG_EXT with the fewest digits
abbrev pub written_big : ℕ → ℕ → List ℕ
written_big sign n = 110 ∷ length (digits_of 256 n) ∷ sign ∷ reverse (digits_of 256 n)

abbrev pub written_int : ℤ → List ℕ
written_int (pos n) = if nat_lt n (2 ^ 8) then 97 ∷ n ∷ [] else (if nat_lt n (2 ^ 31) then 98 ∷ to_be_bytes w32 n else written_big 0 n)
written_int (negsuc n) = if nat_lt n (2 ^ 31) then 98 ∷ to_be_bytes w32 (cast_unsigned w32 (negsuc n)) else written_big 1 (suc n)

-- the text of an atom's name, behind its length
abbrev pub written_name : List ℕ → List ℕ
written_name text = if nat_lt (length text) (2 ^ 8) then 119 ∷ length text ∷ text else (118 ∷ to_be_bytes w16 (length text) ++ text)

-- whether each item is an integer from 0 to 255
abbrev pub is_byte : Tree → Bool
is_byte (int (pos n)) = nat_lt n (2 ^ 8)
is_byte (int (negsuc n)) = false
is_byte (atom name) = false
is_byte (bin bytes) = false
is_byte (tuple ts) = false
is_byte (list ts) = false

abbrev pub are_bytes : Forest → Bool
are_bytes none = true
are_bytes (more t ts) = is_byte t && are_bytes ts

-- whether a list of these items, if there are any, is written as a string of bytes
abbrev pub is_string : Forest → Bool
is_string ts = nat_lt (count ts) (2 ^ 16) && are_bytes ts

-- such items, as bytes
abbrev pub byte_of : Tree → ℕ
byte_of (int (pos n)) = n
byte_of (int (negsuc n)) = 0
byte_of (atom name) = 0
byte_of (bin bytes) = 0
byte_of (tuple ts) = 0
byte_of (list ts) = 0

abbrev pub bytes_of : Forest → List ℕ
bytes_of none = []
bytes_of (more t ts) = byte_of t ∷ bytes_of ts

-- the tag and the arity of a tuple
abbrev pub written_arity : ℕ → List ℕ
written_arity n = if nat_lt n (2 ^ 8) then 104 ∷ n ∷ [] else (105 ∷ to_be_bytes w32 n)

-- a list of integers from 0 to 255
abbrev pub written_string : Forest → List ℕ
written_string ts = 107 ∷ to_be_bytes w16 (count ts) ++ bytes_of ts

-- a list of these items, whose spellings are given
abbrev pub written_list : Forest → List ℕ → List ℕ
written_list none items = 106 ∷ []
written_list (more t ts) items = if is_string (more t ts) then written_string (more t ts) else (108 ∷ to_be_bytes w32 (count (more t ts)) ++ (items ++ 106 ∷ []))

abbrev mutual
  pub written : Tree → List ℕ
  written (int z) = written_int z
  written (atom name) = written_name (encode_utf8_all name)
  written (bin bytes) = 109 ∷ to_be_bytes w32 (length bytes) ++ bytes
  written (tuple ts) = written_arity (count ts) ++ written_all ts
  written (list ts) = written_list ts (written_all ts)

  pub written_all : Forest → List ℕ
  written_all none = []
  written_all (more t ts) = written t ++ written_all ts

-- the external form that is written
abbrev pub external : Tree → List ℕ
external t = 131 ∷ written t

-- The bytes of an I/O list, from left to right. No I/O list has another item.
abbrev mutual
  pub flattened : Tree → List ℕ
  flattened (int z) = byte_of (int z) ∷ []
  flattened (atom name) = []
  flattened (bin bytes) = bytes
  flattened (tuple ts) = []
  flattened (list ts) = flattened_all ts

  pub flattened_all : Forest → List ℕ
  flattened_all none = []
  flattened_all (more t ts) = flattened t ++ flattened_all ts

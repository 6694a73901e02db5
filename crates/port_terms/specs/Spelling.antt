-- The grammar of external terms: the part of Erlang's External Term Format that is served. Each constructor is one tag
-- of the format, with what stands behind it. Lengths and arities have the most significant byte first.
use Rattle.std.specs.Prelude.{◌≡◌, ℕ, ℤ, neg_ℤ, zero, suc, pos, ◌<◌, ◌≤◌, ◌^◌, List, [], ◌∷◌, ◌++◌, length, reverse, true, FitsSigned, encode_utf8_all}
use Rattle.std.specs.Int.{w16, w32, w64, to_be_bytes, cast_signed}
use Rattle.std.specs.Int.Digits.{number_from_digits}
use Rattle.std.specs.Str.{all_scalars}
use Rattle.port_terms.specs.declared.values.TheConstants.{MAX_ITEMS, MAX_NAME_CHARS, MAX_DEPTH}
use Rattle.port_terms.specs.Tree.{Tree, Forest, int, atom, bin, tuple, list, none, more, count, depth}

-- the name of an atom: characters, and not too many
abbrev pub IsName : List ℕ → Type 0
IsName name = (all_scalars name ≡ true) × (length name ≤ MAX_NAME_CHARS)

-- bytes, each as an integer
abbrev pub ints : List ℕ → Forest
ints [] = none
ints (b ∷ bs) = more (int (pos b)) (ints bs)

-- the number with these digits in base 256, the least significant first
abbrev pub little_endian : List ℕ → ℕ
little_endian digits = number_from_digits 256 (reverse digits)

-- Sign 0 is positive, every other sign is negative.
abbrev pub signed : ℕ → ℕ → ℤ
signed zero n = pos n
signed (suc sign) n = neg_ℤ (pos n)

mutual
  -- The bytes are a spelling of the term.
  pub data Spells : Tree → List ℕ → Type 0 where
    -- SMALL_INTEGER_EXT
    small_integer : (n : ℕ) → n < 2 ^ 8 → Spells (int (pos n)) (97 ∷ n ∷ [])
    -- INTEGER_EXT: 32 bits, signed
    integer : (n : ℕ) → n < 2 ^ 32 → Spells (int (cast_signed w32 n)) (98 ∷ to_be_bytes w32 n)
    -- SMALL_BIG_EXT: how many digits, the sign, the digits; zeros may lead the number
    small_big : (sign : ℕ) (digits : List ℕ) → length digits < 2 ^ 8 → FitsSigned w64 (signed sign (little_endian digits)) → Spells (int (signed sign (little_endian digits))) (110 ∷ length digits ∷ sign ∷ digits)
    -- SMALL_ATOM_UTF8_EXT
    small_atom_utf8 : (name : List ℕ) → IsName name → length (encode_utf8_all name) < 2 ^ 8 → Spells (atom name) (119 ∷ length (encode_utf8_all name) ∷ encode_utf8_all name)
    -- ATOM_UTF8_EXT
    atom_utf8 : (name : List ℕ) → IsName name → Spells (atom name) (118 ∷ to_be_bytes w16 (length (encode_utf8_all name)) ++ encode_utf8_all name)
    -- SMALL_ATOM_EXT: Latin-1, so each byte is a character
    small_atom : (name : List ℕ) → length name < 2 ^ 8 → Spells (atom name) (115 ∷ length name ∷ name)
    -- ATOM_EXT: the same
    atom_ext : (name : List ℕ) → length name ≤ MAX_NAME_CHARS → Spells (atom name) (100 ∷ to_be_bytes w16 (length name) ++ name)
    -- SMALL_TUPLE_EXT
    small_tuple : (ts : Forest) (items : List ℕ) → count ts < 2 ^ 8 → SpellAll ts items → Spells (tuple ts) (104 ∷ count ts ∷ items)
    -- LARGE_TUPLE_EXT
    large_tuple : (ts : Forest) (items : List ℕ) → count ts ≤ MAX_ITEMS → SpellAll ts items → Spells (tuple ts) (105 ∷ to_be_bytes w32 (count ts) ++ items)
    -- NIL_EXT
    nil : Spells (list none) (106 ∷ [])
    -- STRING_EXT
    string : (bytes : List ℕ) → length bytes < 2 ^ 16 → Spells (list (ints bytes)) (107 ∷ to_be_bytes w16 (length bytes) ++ bytes)
    -- LIST_EXT, whose tail is the empty list
    list_ext : (ts : Forest) (items : List ℕ) → count ts ≤ MAX_ITEMS → SpellAll ts items → Spells (list ts) (108 ∷ to_be_bytes w32 (count ts) ++ (items ++ 106 ∷ []))
    -- BINARY_EXT
    binary : (bytes : List ℕ) → length bytes ≤ MAX_ITEMS → Spells (bin bytes) (109 ∷ to_be_bytes w32 (length bytes) ++ bytes)

  -- The bytes are spellings of the terms, one after the other.
  pub data SpellAll : Forest → List ℕ → Type 0 where
    nothing : SpellAll none []
    one_more : (t : Tree) (ts : Forest) (first others : List ℕ) → Spells t first → SpellAll ts others → SpellAll (more t ts) (first ++ others)

-- The bytes are an external form of the term: the version number 131, and a spelling.
pub record IsExternal (t : Tree) (bytes : List ℕ) : Type 0 where
  pub text : List ℕ
  pub begins : bytes ≡ 131 ∷ text
  pub spelled : Spells t text
  pub levels : depth t ≤ MAX_DEPTH

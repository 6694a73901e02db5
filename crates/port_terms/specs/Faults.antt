-- The first fault of bytes that are no external form, from the left: what stands before it is as the grammar has it.
use Rattle.std.specs.Prelude.{◌≡◌, ◌≢◌, ℕ, suc, ◌+◌, ◌<◌, ◌≤◌, ◌^◌, Bool, true, false, ◌==◌, List, [], ◌∷◌, ◌++◌, length, FitsSigned, encode_utf8_all}
use Rattle.std.specs.Int.{w16, w32, w64, to_be_bytes}
use Rattle.std.specs.List.{list_any}
use Rattle.std.specs.Str.{IsUtf8, all_scalars}
use Rattle.port_terms.specs.declared.values.TheConstants.{MAX_ITEMS, MAX_NAME_CHARS, MAX_DEPTH}
use Rattle.port_terms.specs.declared.faults.TermFault.{TermFault}
use Rattle.port_terms.specs.declared.faults.TermFault.TheVariants.{Cut, BadTag, NotServed, TooBig, BadText, Trailing, TooDeep}
use Rattle.port_terms.specs.Tree.{Tree, Forest, count, depth, deepest}
use Rattle.port_terms.specs.Spelling.{Spells, SpellAll, signed, little_endian}

abbrev pub is_among : List ℕ → ℕ → Bool
is_among tags tag = list_any (λ t. tag == t) tags

-- the tags of the grammar
abbrev pub served : List ℕ
served = 97 ∷ 98 ∷ 100 ∷ 104 ∷ 105 ∷ 106 ∷ 107 ∷ 108 ∷ 109 ∷ 110 ∷ 115 ∷ 118 ∷ 119 ∷ []

-- The other tags of the format: 70 NEW_FLOAT, 77 BIT_BINARY, 80 compressed, 82 ATOM_CACHE_REF, 88 NEW_PID, 89 NEW_PORT,
-- 90 NEWER_REFERENCE, 99 FLOAT, 101 REFERENCE, 102 PORT, 103 PID, 111 LARGE_BIG, 112 NEW_FUN, 113 EXPORT, 114 NEW_REFERENCE,
-- 116 MAP, 117 FUN, 120 V4_PORT, 121 LOCAL.
abbrev pub unserved : List ℕ
unserved = 70 ∷ 77 ∷ 80 ∷ 82 ∷ 88 ∷ 89 ∷ 90 ∷ 99 ∷ 101 ∷ 102 ∷ 103 ∷ 111 ∷ 112 ∷ 113 ∷ 114 ∷ 116 ∷ 117 ∷ 120 ∷ 121 ∷ []

-- Behind the tag stand the bytes `head`, and then n bytes are wanted, with so many levels left.
pub data Wants : ℕ → ℕ → List ℕ → ℕ → Type 0 where
  small_integer : (levels : ℕ) → Wants levels 97 [] 1
  integer : (levels : ℕ) → Wants levels 98 [] 4
  big_sign : (levels : ℕ) → Wants levels 110 [] 2
  big_digits : (levels n sign : ℕ) → Wants levels 110 (n ∷ sign ∷ []) n
  small_atom_utf8_length : (levels : ℕ) → Wants levels 119 [] 1
  small_atom_utf8 : (levels n : ℕ) → Wants levels 119 (n ∷ []) n
  atom_utf8_length : (levels : ℕ) → Wants levels 118 [] 2
  atom_utf8 : (levels n : ℕ) → n < 2 ^ 16 → Wants levels 118 (to_be_bytes w16 n) n
  small_atom_length : (levels : ℕ) → Wants levels 115 [] 1
  small_atom : (levels n : ℕ) → Wants levels 115 (n ∷ []) n
  atom_length : (levels : ℕ) → Wants levels 100 [] 2
  atom_ext : (levels n : ℕ) → n < 2 ^ 16 → Wants levels 100 (to_be_bytes w16 n) n
  small_arity : (levels : ℕ) → Wants levels 104 [] 1
  large_arity : (levels : ℕ) → Wants levels 105 [] 4
  string_length : (levels : ℕ) → Wants levels 107 [] 2
  string : (levels n : ℕ) → n < 2 ^ 16 → Wants (suc (suc levels)) 107 (to_be_bytes w16 n) n
  list_length : (levels : ℕ) → Wants levels 108 [] 4
  binary_length : (levels : ℕ) → Wants levels 109 [] 4
  binary : (levels n : ℕ) → n ≤ MAX_ITEMS → Wants levels 109 (to_be_bytes w32 n) n

-- The tag and the bytes `head` tell n items.
pub data Tells : ℕ → List ℕ → ℕ → Type 0 where
  small_tuple : (n : ℕ) → Tells 104 (n ∷ []) n
  large_tuple : (n : ℕ) → n ≤ MAX_ITEMS → Tells 105 (to_be_bytes w32 n) n
  list_ext : (n : ℕ) → n ≤ MAX_ITEMS → Tells 108 (to_be_bytes w32 n) n

-- The tag and the bytes `head` tell so many items or bytes that no term has them.
pub data TellsTooMany : ℕ → List ℕ → Type 0 where
  large_tuple : (n : ℕ) → MAX_ITEMS < n → n < 2 ^ 32 → TellsTooMany 105 (to_be_bytes w32 n)
  list_ext : (n : ℕ) → MAX_ITEMS < n → n < 2 ^ 32 → TellsTooMany 108 (to_be_bytes w32 n)
  binary : (n : ℕ) → MAX_ITEMS < n → n < 2 ^ 32 → TellsTooMany 109 (to_be_bytes w32 n)

-- The tag and the bytes are an atom's, and its text is no name.
pub data IsBadAtom : ℕ → List ℕ → Type 0 where
  small_not_utf8 : (text : List ℕ) → length text < 2 ^ 8 → ¬ (IsUtf8 text) → IsBadAtom 119 (length text ∷ text)
  not_utf8 : (text : List ℕ) → length text < 2 ^ 16 → ¬ (IsUtf8 text) → IsBadAtom 118 (to_be_bytes w16 (length text) ++ text)
  long_utf8 : (name : List ℕ) → all_scalars name ≡ true → MAX_NAME_CHARS < length name → length (encode_utf8_all name) < 2 ^ 16 → IsBadAtom 118 (to_be_bytes w16 (length (encode_utf8_all name)) ++ encode_utf8_all name)
  long_latin1 : (name : List ℕ) → MAX_NAME_CHARS < length name → length name < 2 ^ 16 → IsBadAtom 100 (to_be_bytes w16 (length name) ++ name)

-- A term is wanted at a place, of at most so many levels, and these bytes are there, to the end of the input.
-- The fault is the first that is met.
pub data FaultOf : ℕ → ℕ → List ℕ → TermFault → Type 0 where
  too_deep : (at : ℕ) (bytes : List ℕ) → FaultOf 0 at bytes (TooDeep at)
  no_tag : (levels at : ℕ) → FaultOf (suc levels) at [] (Cut at)
  bad_tag : (levels at tag : ℕ) (rest : List ℕ) → is_among served tag ≡ false → is_among unserved tag ≡ false → FaultOf (suc levels) at (tag ∷ rest) (BadTag at tag)
  not_served : (levels at tag : ℕ) (rest : List ℕ) → is_among unserved tag ≡ true → FaultOf (suc levels) at (tag ∷ rest) (NotServed at tag)
  cut : (levels at tag n : ℕ) (head rest : List ℕ) → Wants (suc levels) tag head n → length rest < n → FaultOf (suc levels) at (tag ∷ head ++ rest) (Cut (at + 1 + length head + length rest))
  -- the integer is none of 64 bits
  big : (levels at sign : ℕ) (digits rest : List ℕ) → length digits < 2 ^ 8 → ¬ (FitsSigned w64 (signed sign (little_endian digits))) → FaultOf (suc levels) at (110 ∷ length digits ∷ sign ∷ (digits ++ rest)) (TooBig at)
  too_many : (levels at tag : ℕ) (head rest : List ℕ) → TellsTooMany tag head → FaultOf (suc levels) at (tag ∷ head ++ rest) (TooBig at)
  bad_text : (levels at tag : ℕ) (text rest : List ℕ) → IsBadAtom tag text → FaultOf (suc levels) at (tag ∷ text ++ rest) (BadText at)
  -- a list of bytes whose items have no level left
  deep_string : (at n : ℕ) (rest : List ℕ) → 0 < n → n < 2 ^ 16 → FaultOf 1 at (107 ∷ to_be_bytes w16 n ++ rest) (TooDeep at)
  -- the items before are terms, and the next one has the fault
  in_item : (levels at tag n : ℕ) (head text rest : List ℕ) (front : Forest) (fault : TermFault) → Tells tag head n → SpellAll front text → deepest front ≤ levels → count front < n → FaultOf levels (at + 1 + length head + length text) rest fault → FaultOf (suc levels) at (tag ∷ head ++ (text ++ rest)) fault
  no_tail : (levels at : ℕ) (ts : Forest) (items : List ℕ) → count ts ≤ MAX_ITEMS → SpellAll ts items → deepest ts ≤ levels → FaultOf (suc levels) at (108 ∷ to_be_bytes w32 (count ts) ++ items) (Cut (at + 5 + length items))
  other_tail : (levels at tail : ℕ) (ts : Forest) (items rest : List ℕ) → count ts ≤ MAX_ITEMS → SpellAll ts items → deepest ts ≤ levels → tail ≢ 106 → FaultOf (suc levels) at (108 ∷ to_be_bytes w32 (count ts) ++ (items ++ tail ∷ rest)) (NotServed (at + 5 + length items) tail)

-- The first fault of an input that should be one external form, with its place, from 0.
pub data IsFirstFault : List ℕ → TermFault → Type 0 where
  no_version : IsFirstFault [] (Cut 0)
  other_version : (version : ℕ) (rest : List ℕ) → version ≢ 131 → IsFirstFault (version ∷ rest) (BadTag 0 version)
  in_term : (rest : List ℕ) (fault : TermFault) → FaultOf MAX_DEPTH 1 rest fault → IsFirstFault (131 ∷ rest) fault
  trailing : (t : Tree) (text rest : List ℕ) → Spells t text → depth t ≤ MAX_DEPTH → 0 < length rest → IsFirstFault (131 ∷ text ++ rest) (Trailing (1 + length text))

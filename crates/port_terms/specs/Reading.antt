-- Reading on lists: a field is a value and the bytes after it, or the fault that stopped it. `size` is the length of the
-- whole input, so a place is told by the number of bytes that are left.
use Rattle.std.specs.Prelude.{◌≡◌, ◌≢◌, ℕ, ℤ, zero, suc, pos, negsuc, ◌-◌, ◌^◌, Bool, ◌&&◌, ◌==◌, nat_lt, nat_le, if◌then◌else◌, List, [], ◌∷◌, length, take, drop, Result, Ok, Err}
use Rattle.std.specs.Int.{Width, w16, w32, byte_len, from_be_bytes, cast_signed}
use Rattle.std.specs.Str.{is_utf8, chars}
use Rattle.port_terms.specs.declared.values.TheConstants.{MAX_ITEMS, MAX_NAME_CHARS, MAX_DEPTH}
use Rattle.port_terms.specs.declared.tags.Tag.{Tag}
use Rattle.port_terms.specs.declared.tags.Tag.TheVariants as tags
use Rattle.port_terms.specs.declared.faults.TermFault.{TermFault}
use Rattle.port_terms.specs.declared.faults.TermFault.TheVariants.{Cut, BadTag, NotServed, TooBig, BadText, Trailing, TooDeep, NoMemory}
use Rattle.port_terms.specs.Tree.{Tree, Forest, int, atom, bin, tuple, list, none, forest}
use Rattle.port_terms.specs.Spelling.{ints, signed, little_endian}
use Rattle.port_terms.specs.Faults.{is_among, unserved}

infixl 10 ◌>>=◌
abbrev pub ◌>>=◌ : {A B : Type 0} → Result A TermFault → (A → Result B TermFault) → Result B TermFault
(Ok x) >>= f = f x
(Err e) >>= f = Err e

-- What a function returned, seen by view, is what reading gives, unless memory ran out.
abbrev pub Gives : {X Y : Type 0} → (X → Y) → Result X TermFault → Result Y TermFault → Type 0
Gives view (Ok x) read = read ≡ Ok (view x)
Gives view (Err e) read = e ≢ NoMemory → read ≡ Err e

abbrev pub tag_of : ℕ → Tag
tag_of tag =
    if tag == 97 then tags.SmallInteger else
    (if tag == 98 then tags.Integer else
    (if tag == 100 then tags.Atom else
    (if tag == 104 then tags.SmallTuple else
    (if tag == 105 then tags.LargeTuple else
    (if tag == 106 then tags.Nil else
    (if tag == 107 then tags.String else
    (if tag == 108 then tags.List else
    (if tag == 109 then tags.Binary else
    (if tag == 110 then tags.SmallBig else
    (if tag == 115 then tags.SmallAtom else
    (if tag == 118 then tags.AtomUtf8 else
    (if tag == 119 then tags.SmallAtomUtf8 else
    (if is_among unserved tag then tags.Unserved else tags.Unknown)))))))))))))

abbrev pub byte_at : ℕ → List ℕ → Result (ℕ × List ℕ) TermFault
byte_at size [] = Err (Cut size)
byte_at size (b ∷ rest) = Ok (b, rest)

abbrev pub number_at : Width → ℕ → List ℕ → Result (ℕ × List ℕ) TermFault
number_at w size bytes = if nat_lt (length bytes) (byte_len w) then Err (Cut size) else Ok (from_be_bytes w (take (byte_len w) bytes), drop (byte_len w) bytes)

abbrev pub front_at : ℕ → ℕ → List ℕ → Result (List ℕ × List ℕ) TermFault
front_at n size bytes = if nat_lt (length bytes) n then Err (Cut size) else Ok (take n bytes, drop n bytes)

-- a number of items or bytes, of the term at a place
abbrev pub count_at : ℕ → ℕ → List ℕ → Result (ℕ × List ℕ) TermFault
count_at at size bytes = number_at w32 size bytes >>= λ n. if nat_lt MAX_ITEMS n.0 then Err (TooBig at) else Ok n

unfoldable pub small_integer_at : ℕ → List ℕ → Result (Tree × List ℕ) TermFault
small_integer_at size bytes = do
  n ← byte_at size bytes
  Ok (int (pos n.0), n.1)

unfoldable pub integer_at : ℕ → List ℕ → Result (Tree × List ℕ) TermFault
integer_at size bytes = do
  n ← number_at w32 size bytes
  Ok (int (cast_signed w32 n.0), n.1)

-- whether an integer has 64 bits
abbrev pub fits : ℤ → Bool
fits (pos n) = nat_lt n (2 ^ 63)
fits (negsuc n) = nat_lt n (2 ^ 63)

unfoldable pub small_big_at : ℕ → ℕ → List ℕ → Result (Tree × List ℕ) TermFault
small_big_at at size bytes = do
  n ← byte_at size bytes
  sign ← byte_at size n.1
  digits ← front_at n.0 size sign.1
  if fits (signed sign.0 (little_endian digits.0)) then Ok (int (signed sign.0 (little_endian digits.0)), digits.1) else Err (TooBig at)

-- the characters of a text
abbrev pub utf8_name : ℕ → List ℕ → Result (List ℕ) TermFault
utf8_name at text = if is_utf8 text && nat_le (length (chars text)) MAX_NAME_CHARS then Ok (chars text) else Err (BadText at)

abbrev pub latin1_name : ℕ → List ℕ → Result (List ℕ) TermFault
latin1_name at text = if nat_le (length text) MAX_NAME_CHARS then Ok text else Err (BadText at)

unfoldable pub utf8_atom_at : ℕ → ℕ → ℕ → List ℕ → Result (Tree × List ℕ) TermFault
utf8_atom_at at n size bytes = do
  text ← front_at n size bytes
  name ← utf8_name at text.0
  Ok (atom name, text.1)

unfoldable pub latin1_atom_at : ℕ → ℕ → ℕ → List ℕ → Result (Tree × List ℕ) TermFault
latin1_atom_at at n size bytes = do
  text ← front_at n size bytes
  name ← latin1_name at text.0
  Ok (atom name, text.1)

abbrev pub small_utf8_atom_at : ℕ → ℕ → List ℕ → Result (Tree × List ℕ) TermFault
small_utf8_atom_at at size bytes = byte_at size bytes >>= λ n. utf8_atom_at at n.0 size n.1

abbrev pub large_utf8_atom_at : ℕ → ℕ → List ℕ → Result (Tree × List ℕ) TermFault
large_utf8_atom_at at size bytes = number_at w16 size bytes >>= λ n. utf8_atom_at at n.0 size n.1

abbrev pub small_latin1_atom_at : ℕ → ℕ → List ℕ → Result (Tree × List ℕ) TermFault
small_latin1_atom_at at size bytes = byte_at size bytes >>= λ n. latin1_atom_at at n.0 size n.1

abbrev pub large_latin1_atom_at : ℕ → ℕ → List ℕ → Result (Tree × List ℕ) TermFault
large_latin1_atom_at at size bytes = number_at w16 size bytes >>= λ n. latin1_atom_at at n.0 size n.1

unfoldable pub items_at : (List ℕ → Result (Tree × List ℕ) TermFault) → ℕ → List ℕ → Result (List Tree × List ℕ) TermFault
items_at item zero bytes = Ok ([], bytes)
items_at item (suc n) bytes = do
  first ← item bytes
  others ← items_at item n first.1
  Ok (first.0 ∷ others.0, others.1)

-- so many items, as a forest
unfoldable pub forest_at : (List ℕ → Result (Tree × List ℕ) TermFault) → ℕ → List ℕ → Result (Forest × List ℕ) TermFault
forest_at item n bytes = do
  items ← items_at item n bytes
  Ok (forest items.0, items.1)

unfoldable pub tuple_at : (List ℕ → Result (Tree × List ℕ) TermFault) → ℕ → List ℕ → Result (Tree × List ℕ) TermFault
tuple_at item n bytes = do
  items ← forest_at item n bytes
  Ok (tuple items.0, items.1)

abbrev pub small_tuple_at : (List ℕ → Result (Tree × List ℕ) TermFault) → ℕ → List ℕ → Result (Tree × List ℕ) TermFault
small_tuple_at item size bytes = byte_at size bytes >>= λ n. tuple_at item n.0 n.1

abbrev pub large_tuple_at : (List ℕ → Result (Tree × List ℕ) TermFault) → ℕ → ℕ → List ℕ → Result (Tree × List ℕ) TermFault
large_tuple_at item at size bytes = count_at at size bytes >>= λ n. tuple_at item n.0 n.1

abbrev pub tail_at : ℕ → List ℕ → Result (ℕ × List ℕ) TermFault
tail_at size bytes = byte_at size bytes >>= λ tail. if tail.0 == 106 then Ok tail else Err (NotServed (size - length bytes) tail.0)

unfoldable pub list_at : (List ℕ → Result (Tree × List ℕ) TermFault) → ℕ → ℕ → List ℕ → Result (Tree × List ℕ) TermFault
list_at item at size bytes = do
  n ← count_at at size bytes
  items ← forest_at item n.0 n.1
  tail ← tail_at size items.1
  Ok (list items.0, tail.1)

-- a list of bytes, whose items have so many levels left
unfoldable pub string_at : ℕ → ℕ → ℕ → List ℕ → Result (Tree × List ℕ) TermFault
string_at levels at size bytes = do
  n ← number_at w16 size bytes
  front ← if levels == 0 && nat_lt 0 n.0 then Err (TooDeep at) else front_at n.0 size n.1
  Ok (list (ints front.0), front.1)

unfoldable pub binary_at : ℕ → ℕ → List ℕ → Result (Tree × List ℕ) TermFault
binary_at at size bytes = do
  n ← count_at at size bytes
  front ← front_at n.0 size n.1
  Ok (bin front.0, front.1)

-- what stands behind a tag, which stands at a place; its items have so many levels left, and are read by a reader
unfoldable pub body_at : Tag → ℕ → (List ℕ → Result (Tree × List ℕ) TermFault) → ℕ → ℕ → ℕ → List ℕ → Result (Tree × List ℕ) TermFault
body_at tags.SmallInteger levels item at tag size bytes = small_integer_at size bytes
body_at tags.Integer levels item at tag size bytes = integer_at size bytes
body_at tags.SmallBig levels item at tag size bytes = small_big_at at size bytes
body_at tags.SmallAtomUtf8 levels item at tag size bytes = small_utf8_atom_at at size bytes
body_at tags.AtomUtf8 levels item at tag size bytes = large_utf8_atom_at at size bytes
body_at tags.SmallAtom levels item at tag size bytes = small_latin1_atom_at at size bytes
body_at tags.Atom levels item at tag size bytes = large_latin1_atom_at at size bytes
body_at tags.SmallTuple levels item at tag size bytes = small_tuple_at item size bytes
body_at tags.LargeTuple levels item at tag size bytes = large_tuple_at item at size bytes
body_at tags.Nil levels item at tag size bytes = Ok (list none, bytes)
body_at tags.String levels item at tag size bytes = string_at levels at size bytes
body_at tags.List levels item at tag size bytes = list_at item at size bytes
body_at tags.Binary levels item at tag size bytes = binary_at at size bytes
body_at tags.Unserved levels item at tag size bytes = Err (NotServed at tag)
body_at tags.Unknown levels item at tag size bytes = Err (BadTag at tag)

-- a term, of at most so many levels
unfoldable pub term_at : ℕ → ℕ → List ℕ → Result (Tree × List ℕ) TermFault
term_at size zero bytes = Err (TooDeep (size - length bytes))
term_at size (suc levels) bytes = do
  tag ← byte_at size bytes
  body_at (tag_of tag.0) levels (term_at size levels) (size - length bytes) tag.0 size tag.1

-- one term, and nothing after it
unfoldable pub whole_at : ℕ → List ℕ → Result Tree TermFault
whole_at size bytes = do
  term ← term_at size MAX_DEPTH bytes
  if length term.1 == 0 then Ok term.0 else Err (Trailing (size - length term.1))

-- all of the input
unfoldable pub reading : List ℕ → Result Tree TermFault
reading bytes = do
  version ← byte_at (length bytes) bytes
  if version.0 == 131 then whole_at (length bytes) version.1 else Err (BadTag 0 version.0)

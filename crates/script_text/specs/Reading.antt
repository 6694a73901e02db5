-- Reading on lists: a value and the bytes behind it, where its spelling stands in front.
use Rattle.std.specs.Prelude.{ℕ, ℤ, zero, suc, pos, neg_ℤ, negsuc, ◌+◌, ◌-◌, ◌*◌, ◌^◌, ◌==◌, Bool, true, false, ◌&&◌, nat_lt, nat_le, if◌then◌else◌, List, [], ◌∷◌, length, drop, slice_index, Option, Some, None, option_and_then, option_map}
use Rattle.std.specs.List.{take_while, prefix_len}
use Rattle.port_terms.specs.declared.values.TheConstants.{MAX_ITEMS, MAX_DEPTH}
use Rattle.port_terms.specs.Tree.{Tree, Forest, int, atom, bin, tuple, list, forest}
use Rattle.port_terms.specs.Spelling.{ints}
use Rattle.port_terms.specs.Written.{flattened}
use Rattle.script_text.specs.declared.openings.Opening.{Opening}
use Rattle.script_text.specs.declared.openings.Opening.TheVariants.{Quote, Bracket, Brace, Angle, Letter, Other}
use Rattle.script_text.specs.Tokens.{is_digit, is_letter, is_name_byte, is_name, value_of}
use Rattle.script_text.specs.Data.{Language, io_item, term}

infixl 10 ◌>>=◌
abbrev pub ◌>>=◌ : {A B : Type 0} → Option A → (A → Option B) → Option B
o >>= f = option_and_then f o

-- the first value, or else the second
abbrev pub or_else : {A : Type 0} → Option A → Option A → Option A
or_else (Some x) other = Some x
or_else None other = other

-- what stands behind the longest front that passes
abbrev pub behind : (ℕ → Bool) → List ℕ → List ℕ
behind passes bytes = drop (prefix_len passes bytes) bytes

abbrev pub is_space : ℕ → Bool
is_space byte = byte == 32

-- what stands behind the spaces
abbrev pub skip : List ℕ → List ℕ
skip bytes = behind is_space bytes

-- what stands behind this byte, if it is the first one
abbrev pub after : ℕ → List ℕ → Option (List ℕ)
after byte [] = None
after byte (first ∷ rest) = if first == byte then Some rest else None

abbrev pub after_twice : ℕ → List ℕ → Option (List ℕ)
after_twice byte bytes = after byte bytes >>= after byte

-- ---- numbers and names

abbrev pub number_at : List ℕ → Option (ℕ × List ℕ)
number_at bytes =
    if nat_le 1 (prefix_len is_digit bytes) && nat_le (prefix_len is_digit bytes) 10
    then Some (value_of (take_while is_digit bytes), behind is_digit bytes)
    else None

-- whether an integer has 64 bits
abbrev pub fits : ℤ → Bool
fits (pos n) = nat_lt n (2 ^ 63)
fits (negsuc n) = nat_lt n (2 ^ 63)

abbrev pub signed : Bool → ℕ → ℤ
signed false n = pos n
signed true n = neg_ℤ (pos n)

-- a whole number behind its sign
abbrev pub digits_at : Bool → List ℕ → Option (ℤ × List ℕ)
digits_at minus bytes =
    if nat_le 1 (prefix_len is_digit bytes) && fits (signed minus (value_of (take_while is_digit bytes)))
    then Some (signed minus (value_of (take_while is_digit bytes)), behind is_digit bytes)
    else None

unfoldable pub whole_at : List ℕ → Option (ℤ × List ℕ)
whole_at [] = digits_at false []
whole_at (first ∷ rest) = if first == 45 then digits_at true rest else digits_at false (first ∷ rest)

unfoldable pub name_at : List ℕ → Option (List ℕ × List ℕ)
name_at bytes =
    if is_name (take_while is_name_byte bytes) then Some (take_while is_name_byte bytes, behind is_name_byte bytes) else None

-- ---- texts

abbrev pub hex_value : ℕ → Option ℕ
hex_value byte =
    if is_digit byte then Some (byte - 48)
    else (if nat_le 97 byte && nat_le byte 102 then Some (byte - 87) else None)

abbrev pub hexadecimal_at : List ℕ → Option (ℕ × List ℕ)
hexadecimal_at [] = None
hexadecimal_at (high ∷ []) = None
hexadecimal_at (high ∷ low ∷ rest) = do
  high ← hex_value high
  low ← hex_value low
  Some (16 * high + low, rest)

-- a byte that is escaped, behind its backslash
abbrev pub escape_at : List ℕ → Option (ℕ × List ℕ)
escape_at [] = None
escape_at (kind ∷ rest) =
    if kind == 110 then Some (10, rest) else
    (if kind == 114 then Some (13, rest) else
    (if kind == 116 then Some (9, rest) else
    (if kind == 92 then Some (92, rest) else
    (if kind == 34 then Some (34, rest) else
    (if kind == 120 then hexadecimal_at rest else None)))))

-- one byte of a text
unfoldable pub byte_at : List ℕ → Option (ℕ × List ℕ)
byte_at [] = None
byte_at (first ∷ rest) =
    if first == 34 then None else (if first == 92 then escape_at rest else Some (first, rest))

-- fewer than n bytes, and the closing quote
unfoldable pub content_at : ℕ → List ℕ → Option (List ℕ × List ℕ)
content_at zero bytes = None
content_at (suc n) bytes =
    or_else (option_map (λ rest. ([], rest)) (after 34 bytes))
    (byte_at bytes >>= λ byte. (content_at n byte.1 >>= λ others. Some (byte.0 ∷ others.0, others.1)))

unfoldable pub text_at : List ℕ → Option (List ℕ × List ℕ)
text_at bytes = after 34 bytes >>= λ inner. content_at (MAX_ITEMS + 1) inner

-- ---- data

-- what the items of a list begin with
abbrev pub opening_of : ℕ → Opening
opening_of byte =
    if byte == 34 then Quote else
    (if byte == 91 then Bracket else
    (if byte == 123 then Brace else
    (if byte == 60 then Angle else
    (if is_letter byte then Letter else Other))))

-- behind an item: what closes the list, or a comma and the others
abbrev pub next_at : (List ℕ → Option (List Tree × List ℕ)) → ℕ → Tree → List ℕ → Option (List Tree × List ℕ)
next_at others close t bytes =
    or_else (option_map (λ rest. (t ∷ [], rest)) (after close bytes))
    (after 44 bytes >>= λ rest. (others rest >>= λ ts. Some (t ∷ ts.0, ts.1)))

-- one or more items, at most n, and what closes their list
unfoldable pub some_at : (List ℕ → Option (Tree × List ℕ)) → ℕ → ℕ → List ℕ → Option (List Tree × List ℕ)
some_at item close zero bytes = None
some_at item close (suc n) bytes = item (skip bytes) >>= λ first. next_at (some_at item close n) close first.0 (skip first.1)

-- the items up to what closes them
unfoldable pub all_at : (List ℕ → Option (Tree × List ℕ)) → ℕ → List ℕ → Option (List Tree × List ℕ)
all_at item close bytes =
    or_else (option_map (λ rest. ([], rest)) (after close (skip bytes))) (some_at item close MAX_ITEMS bytes)

unfoldable pub forest_at : (List ℕ → Option (Tree × List ℕ)) → ℕ → List ℕ → Option (Forest × List ℕ)
forest_at item close bytes = all_at item close bytes >>= λ items. Some (forest items.0, items.1)

unfoldable pub list_at : (List ℕ → Option (Tree × List ℕ)) → List ℕ → Option (Tree × List ℕ)
list_at item bytes = do
  inner ← after 91 bytes
  items ← forest_at item 93 inner
  Some (list items.0, items.1)

unfoldable pub tuple_at : (List ℕ → Option (Tree × List ℕ)) → List ℕ → Option (Tree × List ℕ)
tuple_at item bytes = do
  inner ← after 123 bytes
  items ← forest_at item 125 inner
  Some (tuple items.0, items.1)

-- a text as the list of its bytes, which have so many levels left
unfoldable pub string_at : ℕ → List ℕ → Option (Tree × List ℕ)
string_at levels bytes = do
  content ← text_at bytes
  if levels == 0 && nat_lt 0 (length content.0) then None else Some (list (ints content.0), content.1)

unfoldable pub binary_at : List ℕ → Option (Tree × List ℕ)
binary_at bytes = do
  inner ← after_twice 60 bytes
  content ← text_at (skip inner)
  rest ← after_twice 62 (skip content.1)
  Some (bin content.0, rest)

unfoldable pub io_byte_at : List ℕ → Option (Tree × List ℕ)
io_byte_at bytes = do
  number ← number_at bytes
  if nat_le number.0 255 then Some (int (pos number.0), number.1) else None

unfoldable pub bin_at : List ℕ → Option (Tree × List ℕ)
bin_at bytes = text_at bytes >>= λ content. Some (bin content.0, content.1)

unfoldable pub atom_at : List ℕ → Option (Tree × List ℕ)
atom_at bytes = name_at bytes >>= λ name. Some (atom name.0, name.1)

unfoldable pub int_at : List ℕ → Option (Tree × List ℕ)
int_at bytes = whole_at bytes >>= λ whole. Some (int whole.0, whole.1)

abbrev pub term_at : Opening → ℕ → (List ℕ → Option (Tree × List ℕ)) → List ℕ → Option (Tree × List ℕ)
term_at Quote levels item bytes = string_at levels bytes
term_at Bracket levels item bytes = list_at item bytes
term_at Brace levels item bytes = tuple_at item bytes
term_at Angle levels item bytes = binary_at bytes
term_at Letter levels item bytes = atom_at bytes
term_at Other levels item bytes = int_at bytes

abbrev pub io_item_at : Opening → (List ℕ → Option (Tree × List ℕ)) → List ℕ → Option (Tree × List ℕ)
io_item_at Quote item bytes = bin_at bytes
io_item_at Bracket item bytes = list_at item bytes
io_item_at Brace item bytes = None
io_item_at Angle item bytes = None
io_item_at Letter item bytes = None
io_item_at Other item bytes = io_byte_at bytes

abbrev pub body_at : Language → Opening → ℕ → (List ℕ → Option (Tree × List ℕ)) → List ℕ → Option (Tree × List ℕ)
body_at io_item opening levels item bytes = io_item_at opening item bytes
body_at term opening levels item bytes = term_at opening levels item bytes

-- a value of at most so many levels
unfoldable pub value_at : Language → ℕ → List ℕ → Option (Tree × List ℕ)
value_at language zero bytes = None
value_at language (suc levels) bytes = body_at language (opening_of (slice_index bytes 0)) levels (value_at language levels) bytes

abbrev pub is_int : Tree → Bool
is_int (int z) = true
is_int (atom name) = false
is_int (bin bytes) = false
is_int (tuple ts) = false
is_int (list ts) = false

-- an IOLIST, and not a lone number
unfoldable pub io_list_at : List ℕ → Option (Tree × List ℕ)
io_list_at bytes = value_at io_item MAX_DEPTH bytes >>= λ value. if is_int value.0 then None else Some value

-- the bytes of an IOLIST, from left to right
unfoldable pub io_bytes_at : List ℕ → Option (List ℕ × List ℕ)
io_bytes_at bytes = io_list_at bytes >>= λ list. Some (flattened list.0, list.1)

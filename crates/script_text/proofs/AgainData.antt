-- Data that is spelled by the grammar is read.
use Rattle.std.proofs.Common.{◌≡◌, ◌≢◌, ℕ, ℤ, pos, zero, suc, ◌≤◌, Bool, true, false, List, [], ◌∷◌, ◌++◌, length, get_or, Option, Some, None, refl, sym, ap, ◌∙◌, append_assoc, arith}
use Rattle.std.specs.Prelude.{◌&&◌, ◌||◌, ◌==◌, nat_lt, nat_le, slice_index}
use Rattle.std.proofs.lemmas.Bool.{and_parts, and_from, and_left, and_right, or_left, or_right, ne_eqb, le-leb, lt-leb, leb-true, true≢false}
use Rattle.port_terms.specs.declared.values.TheConstants.{MAX_ITEMS, MAX_DEPTH}
use Rattle.port_terms.specs.Tree.{Tree, Forest, int, atom, bin, tuple, list, none, more, forest, count, depth, deepest}
use Rattle.port_terms.specs.Spelling.{ints}
use Rattle.script_text.specs.declared.openings.Opening.{Opening}
use Rattle.script_text.specs.declared.openings.Opening.TheVariants.{Quote, Letter, Other}
use Rattle.script_text.specs.Tokens.{gap, is_digit, is_letter, is_name_byte, is_name, IsDigits, SpellsNumber, SpellsWhole}
use Rattle.script_text.specs.Tokens as T
use Rattle.script_text.specs.Texts.{SpellsText}
use Rattle.script_text.specs.Data.{Language, io_item, term, Spells, SpellsAll, SpellsIoList, SpellsTerm}
use Rattle.script_text.specs.Data as D
use Rattle.script_text.specs.InFront.{IsEnd}
use Rattle.script_text.specs.Reading.{is_space, skip, after, opening_of, some_at, all_at, forest_at, list_at, tuple_at, string_at, binary_at, io_byte_at, bin_at, atom_at, int_at, body_at, value_at, is_int, io_list_at}
use Rattle.script_text.proofs.Fronts.{skip_gaps}
use Rattle.script_text.proofs.Names.{parts_of_name}
use Rattle.script_text.proofs.Again.{after_same, after_other, no_digit, first_digit, number_again, whole_again, name_again, text_again}

-- a byte with which a value may begin
abbrev pub begins : ℕ → Bool
begins byte = is_letter byte || (is_digit byte || (byte == 45 || byte == 34 || byte == 91 || byte == 123 || byte == 60))

-- the text has a first byte, with which a value may begin
pub record Begins (text : List ℕ) : Type 0 where
  pub first : ℕ
  pub others : List ℕ
  pub is : text ≡ first ∷ others
  pub may : begins first ≡ true

digit_begins : (byte : ℕ) → is_digit byte ≡ true → begins byte ≡ true
digit_begins byte e = or_right (is_letter byte) _ (or_left (is_digit byte) _ e)

letter_begins : (byte : ℕ) → is_letter byte ≡ true → begins byte ≡ true
letter_begins byte e = or_left (is_letter byte) _ e

digits_begin : (text : List ℕ) → IsDigits text → Begins text
digits_begin text s =
    let f = first_digit text s in
    record { first = f.first; others = f.others; is = f.is; may = digit_begins f.first (and_from (nat_le 48 f.first) (nat_le f.first 57) (le-leb 48 f.first f.low) (le-leb f.first 57 f.high)) }

name_begins : (text : List ℕ) → is_letter (get_or text 0 0) ≡ true → Begins text
name_begins [] e = absurd cc
name_begins (byte ∷ others) e = record { first = byte; others = others; is = refl; may = letter_begins byte e }

text_begins : (bytes text : List ℕ) → SpellsText bytes text → Begins text
text_begins bytes text s = record { first = 34; others = s.content ++ 34 ∷ []; is = s.quoted; may = refl }

pub spelling_begins : (language : Language) (t : Tree) (text : List ℕ) → Spells language t text → Begins text
spelling_begins _ _ _ (D.byte number text s le) = digits_begin text s.digits
spelling_begins _ _ _ (D.bytes content text s) = text_begins content text s
spelling_begins _ _ _ (D.parts ts inner few all) = record { first = 91; others = inner ++ 93 ∷ []; is = refl; may = refl }
spelling_begins _ _ _ (D.whole _ _ (T.plain text s f)) = digits_begin text s
spelling_begins _ _ _ (D.whole _ _ (T.minus text s f)) = record { first = 45; others = text; is = refl; may = refl }
spelling_begins _ _ _ (D.name text e) = name_begins text (parts_of_name text e).first
spelling_begins _ _ _ (D.string content text s) = text_begins content text s
spelling_begins _ _ _ (D.binary content text before behind s) = record { first = 60; others = 60 ∷ gap before ++ (text ++ (gap behind ++ 62 ∷ 62 ∷ [])); is = refl; may = refl }
spelling_begins _ _ _ (D.items ts inner few all) = record { first = 91; others = inner ++ 93 ∷ []; is = refl; may = refl }
spelling_begins _ _ _ (D.elements ts inner few all) = record { first = 123; others = inner ++ 125 ∷ []; is = refl; may = refl }

-- a byte that closes a list
pub record IsClose (close : ℕ) : Type 0 where
  pub no_value : begins close ≡ false
  pub no_space : is_space close ≡ false
  pub no_comma : 44 ≢ close
  pub ends : is_name_byte close ≡ false

bracket : IsClose 93
bracket = record { no_value = refl; no_space = refl; no_comma = λ e. cc; ends = refl }

brace : IsClose 125
brace = record { no_value = refl; no_space = refl; no_comma = λ e. cc; ends = refl }

differ : (p : ℕ → Bool) (a b : ℕ) → p a ≡ true → p b ≡ false → a ≢ b
differ p a b passes fails e = true≢false (sym passes ∙ ap p e ∙ fails)

gap_ends : (spaces byte : ℕ) (rest : List ℕ) → is_name_byte byte ≡ false → IsEnd (gap spaces ++ byte ∷ rest)
gap_ends zero byte rest e = e
gap_ends (suc spaces) byte rest e = refl

-- the spaces before a value are skipped
skip_to : (before : ℕ) (text rest : List ℕ) → Begins text → skip (gap before ++ (text ++ rest)) ≡ text ++ rest
skip_to before text rest b =
    let no_space : is_space b.first ≡ false = ne_eqb b.first 32 (differ begins b.first 32 b.may refl) in
    rw b.is (skip_gaps before b.first (b.others ++ rest) no_space)

-- what begins a value closes no list
goes_on : (close : ℕ) (text rest : List ℕ) → IsClose close → Begins text → after close (text ++ rest) ≡ None
goes_on close text rest c b = rw b.is (after_other close b.first (b.others ++ rest) (differ begins b.first close b.may c.no_value))

abbrev Item : Type 0
Item = List ℕ → Option (Tree × List ℕ)

-- the terms of a forest, as a list
abbrev pub trees_of : Forest → List Tree
trees_of none = []
trees_of (more t ts) = t ∷ trees_of ts

forest-trees_of : (ts : Forest) → forest (trees_of ts) ≡ ts
forest-trees_of none = refl
forest-trees_of (more t ts) = ap (more t) (forest-trees_of ts)

-- a reader that reads this value from its spelling
abbrev ReadsOne : Item → Tree → List ℕ → Type 0
ReadsOne item t text = (rest : List ℕ) → IsEnd rest → item (text ++ rest) ≡ Some (t, rest)

-- a reader that reads these values, of which there is one at least, up to what closes them
abbrev ReadsSome : Item → ℕ → ℕ → Forest → List ℕ → Type 0
ReadsSome item close n ts text = (rest : List ℕ) → some_at item close n (text ++ close ∷ rest) ≡ Some (trees_of ts, rest)

-- where they begin
abbrev pub BeginsBehind : ℕ → List ℕ → Type 0
BeginsBehind close text = (rest : List ℕ) → after close (skip (text ++ close ∷ rest)) ≡ None

last_again : (item : Item) (close n : ℕ) (t : Tree) (before behind : ℕ) (text : List ℕ) → IsClose close → Begins text → ReadsOne item t text → ReadsSome item close (suc n) (more t none) (gap before ++ (text ++ gap behind))
unfolding some_at
last_again item close n t before behind text c b reads rest =
    let tail = gap behind ++ close ∷ rest in
    let whole : (gap before ++ (text ++ gap behind)) ++ close ∷ rest ≡ gap before ++ (text ++ tail) = simp append_assoc in
    ap (some_at item close (suc n)) whole
    ∙ rw (skip_to before text tail b, reads tail (gap_ends behind close rest c.ends), skip_gaps behind close rest c.no_space, after_same close rest) refl

more_again : (item : Item) (close n : ℕ) (t u : Tree) (ts : Forest) (before behind : ℕ) (text others : List ℕ) → IsClose close → Begins text → ReadsOne item t text → ReadsSome item close n (more u ts) others
    → ReadsSome item close (suc n) (more t (more u ts)) (gap before ++ (text ++ (gap behind ++ 44 ∷ others)))
unfolding some_at
more_again item close n t u ts before behind text others c b reads all rest =
    let tail = gap behind ++ 44 ∷ (others ++ close ∷ rest) in
    let whole : (gap before ++ (text ++ (gap behind ++ 44 ∷ others))) ++ close ∷ rest ≡ gap before ++ (text ++ tail) = simp append_assoc in
    ap (some_at item close (suc n)) whole
    ∙ rw (skip_to before text tail b, reads tail (gap_ends behind 44 (others ++ close ∷ rest) refl), skip_gaps behind 44 (others ++ close ∷ rest) refl, after_other close 44 (others ++ close ∷ rest) c.no_comma, all rest) refl

-- values up to what closes them
abbrev pub ReadsItems : Item → Forest → List ℕ → Type 0
ReadsItems item none text = (close : ℕ) → IsClose close → (rest : List ℕ) → after close (skip (text ++ close ∷ rest)) ≡ Some rest
ReadsItems item (more t ts) text = (close n : ℕ) → IsClose close → count (more t ts) ≤ n → BeginsBehind close text × ReadsSome item close n (more t ts) text

begins_behind : (close before : ℕ) (text tail : List ℕ) → IsClose close → Begins text → BeginsBehind close (gap before ++ (text ++ tail))
begins_behind close before text tail c b rest =
    let whole : (gap before ++ (text ++ tail)) ++ close ∷ rest ≡ gap before ++ (text ++ (tail ++ close ∷ rest)) = simp append_assoc in
    ap (λ (xs : List ℕ). after close (skip xs)) whole ∙ rw (skip_to before text (tail ++ close ∷ rest) b) (goes_on close text (tail ++ close ∷ rest) c b)

last_items : (item : Item) (t : Tree) (before behind : ℕ) (text : List ℕ) → Begins text → ReadsOne item t text → ReadsItems item (more t none) (gap before ++ (text ++ gap behind))
last_items item t before behind text b reads close zero c le = absurd (omega arith)
last_items item t before behind text b reads close (suc n) c le = (begins_behind close before text (gap behind) c b, last_again item close n t before behind text c b reads)

more_items : (item : Item) (t u : Tree) (ts : Forest) (before behind : ℕ) (text others : List ℕ) → Begins text → ReadsOne item t text → ReadsItems item (more u ts) others
    → ReadsItems item (more t (more u ts)) (gap before ++ (text ++ (gap behind ++ 44 ∷ others)))
more_items item t u ts before behind text others b reads all close zero c le = absurd (omega arith)
more_items item t u ts before behind text others b reads all close (suc n) c le =
    (begins_behind close before text (gap behind ++ 44 ∷ others) c b, more_again item close n t u ts before behind text others c b reads (all close n c (omega arith)).1)

-- the values of a list, with what closes it
forest_again : (item : Item) (close : ℕ) (ts : Forest) (text rest : List ℕ) → IsClose close → count ts ≤ MAX_ITEMS → ReadsItems item ts text → forest_at item close (text ++ close ∷ rest) ≡ Some (ts, rest)
unfolding forest_at all_at
forest_again item close none text rest c few reads = rw (reads close c rest) refl
forest_again item close (more t ts) text rest c few reads =
    let both = reads close MAX_ITEMS c few in
    rw (both.0 rest, both.1 rest) (ap (λ (us : Forest). Some (more t us, rest)) (forest-trees_of ts))

list_again : (item : Item) (ts : Forest) (inner rest : List ℕ) → count ts ≤ MAX_ITEMS → ReadsItems item ts inner → list_at item ((91 ∷ inner ++ 93 ∷ []) ++ rest) ≡ Some (list ts, rest)
unfolding list_at
list_again item ts inner rest few reads =
    let whole = append_assoc inner (93 ∷ []) rest in
    ap (λ (xs : List ℕ). list_at item (91 ∷ xs)) whole ∙ rw (forest_again item 93 ts inner rest bracket few reads) refl

tuple_again : (item : Item) (ts : Forest) (inner rest : List ℕ) → count ts ≤ MAX_ITEMS → ReadsItems item ts inner → tuple_at item ((123 ∷ inner ++ 125 ∷ []) ++ rest) ≡ Some (tuple ts, rest)
unfolding tuple_at
tuple_again item ts inner rest few reads =
    let whole = append_assoc inner (125 ∷ []) rest in
    ap (λ (xs : List ℕ). tuple_at item (123 ∷ xs)) whole ∙ rw (forest_again item 125 ts inner rest brace few reads) refl

io_byte_again : (number : ℕ) (text rest : List ℕ) → SpellsNumber number text → number ≤ 255 → IsEnd rest → io_byte_at (text ++ rest) ≡ Some (int (pos number), rest)
unfolding io_byte_at
io_byte_again number text rest s le end = rw (number_again number text rest s (no_digit rest end), le-leb number 255 le) refl

bin_again : (content text rest : List ℕ) → SpellsText content text → bin_at (text ++ rest) ≡ Some (bin content, rest)
unfolding bin_at
bin_again content text rest s = rw (text_again content text s rest) refl

not_deep : (levels : ℕ) (content : List ℕ) → deepest (ints content) ≤ levels → (levels == 0 && nat_lt 0 (length content)) ≡ false
not_deep levels [] le = and_right (levels == 0) (nat_lt 0 0) refl
not_deep levels (byte ∷ content) le = and_left (levels == 0) (nat_lt 0 (length (byte ∷ content))) (ne_eqb levels 0 (λ (e : levels ≡ 0). omega arith))

string_again : (levels : ℕ) (content text rest : List ℕ) → SpellsText content text → deepest (ints content) ≤ levels → string_at levels (text ++ rest) ≡ Some (list (ints content), rest)
unfolding string_at
string_again levels content text rest s le = rw (text_again content text s rest, not_deep levels content le) refl

binary_again : (content text : List ℕ) (before behind : ℕ) (rest : List ℕ) → SpellsText content text → binary_at ((60 ∷ 60 ∷ gap before ++ (text ++ (gap behind ++ 62 ∷ 62 ∷ []))) ++ rest) ≡ Some (bin content, rest)
unfolding binary_at
binary_again content text before behind rest s =
    let tail = gap behind ++ 62 ∷ 62 ∷ rest in
    let whole : (gap before ++ (text ++ (gap behind ++ 62 ∷ 62 ∷ []))) ++ rest ≡ gap before ++ (text ++ tail) = simp append_assoc in
    ap (λ (xs : List ℕ). binary_at (60 ∷ 60 ∷ xs)) whole
    ∙ rw (skip_to before text tail (text_begins content text s), text_again content text s tail, skip_gaps behind 62 (62 ∷ rest) refl) refl

atom_again : (text rest : List ℕ) → is_name text ≡ true → IsEnd rest → atom_at (text ++ rest) ≡ Some (atom text, rest)
unfolding atom_at
atom_again text rest e end = rw (name_again text rest e end) refl

int_again : (number : ℤ) (text rest : List ℕ) → SpellsWhole number text → IsEnd rest → int_at (text ++ rest) ≡ Some (int number, rest)
unfolding int_at
int_again number text rest s end = rw (whole_again number text s rest (no_digit rest end)) refl

-- ---- what a value begins with

at_opening : (language : Language) (levels : ℕ) (bytes : List ℕ) (o : Opening) → opening_of (slice_index bytes 0) ≡ o → value_at language (suc levels) bytes ≡ body_at language o levels (value_at language levels) bytes
unfolding value_at
at_opening language levels bytes o e = rw e refl

opening_text : (content text rest : List ℕ) → SpellsText content text → opening_of (slice_index (text ++ rest) 0) ≡ Quote
opening_text content text rest s = ap (λ (xs : List ℕ). opening_of (slice_index (xs ++ rest) 0)) s.quoted

opening_digits : (text rest : List ℕ) → IsDigits text → opening_of (slice_index (text ++ rest) 0) ≡ Other
opening_digits text rest s =
    let f = first_digit text s in
    let b = f.first in
    let low = f.low in
    let high = f.high in
    ap (λ (xs : List ℕ). opening_of (slice_index (xs ++ rest) 0)) f.is
    ∙ rw (ne_eqb b 34 (λ e. omega arith), ne_eqb b 91 (λ e. omega arith), ne_eqb b 123 (λ e. omega arith), ne_eqb b 60 (λ e. omega arith), lt-leb 97 b (omega arith)) refl

opening_whole : (number : ℤ) (text rest : List ℕ) → SpellsWhole number text → opening_of (slice_index (text ++ rest) 0) ≡ Other
opening_whole _ _ rest (T.plain text s f) = opening_digits text rest s
opening_whole _ _ rest (T.minus text s f) = refl

opening_letter : (byte : ℕ) → is_letter byte ≡ true → opening_of byte ≡ Letter
opening_letter byte e =
    let h = and_parts (nat_le 97 byte) (nat_le byte 122) e in
    let low = leb-true 97 byte h.0 in
    let high = leb-true byte 122 h.1 in
    rw (ne_eqb byte 34 (λ e. omega arith), ne_eqb byte 91 (λ e. omega arith), ne_eqb byte 123 (λ e. omega arith), ne_eqb byte 60 (λ e. omega arith), e) refl

opening_name : (text rest : List ℕ) → is_letter (get_or text 0 0) ≡ true → opening_of (slice_index (text ++ rest) 0) ≡ Letter
opening_name [] rest e = absurd cc
opening_name (byte ∷ others) rest e = opening_letter byte e

depth_pos : (t : Tree) → 1 ≤ depth t
depth_pos (int z) = omega arith
depth_pos (atom name) = omega arith
depth_pos (bin bytes) = omega arith
depth_pos (tuple ts) = omega arith
depth_pos (list ts) = omega arith

mutual
  unfolding value_at

  pub value_again : (levels : ℕ) (language : Language) (t : Tree) (text : List ℕ) → Spells language t text → (rest : List ℕ) → IsEnd rest → depth t ≤ levels → value_at language levels (text ++ rest) ≡ Some (t, rest)
  value_again zero language t text s rest end le = absurd (omega (arith, depth_pos t))
  value_again (suc levels) _ _ _ (D.byte number text s byte_le) rest end le = at_opening io_item levels (text ++ rest) Other (opening_digits text rest s.digits) ∙ io_byte_again number text rest s byte_le end
  value_again (suc levels) _ _ _ (D.bytes content text s) rest end le = at_opening io_item levels (text ++ rest) Quote (opening_text content text rest s) ∙ bin_again content text rest s
  value_again (suc levels) _ _ _ (D.parts ts inner few all) rest end le = list_again (value_at io_item levels) ts inner rest few (items_again levels io_item ts inner all (omega arith))
  value_again (suc levels) _ _ _ (D.whole number text s) rest end le = at_opening term levels (text ++ rest) Other (opening_whole number text rest s) ∙ int_again number text rest s end
  value_again (suc levels) _ _ _ (D.name text e) rest end le = at_opening term levels (text ++ rest) Letter (opening_name text rest (parts_of_name text e).first) ∙ atom_again text rest e end
  value_again (suc levels) _ _ _ (D.string content text s) rest end le = at_opening term levels (text ++ rest) Quote (opening_text content text rest s) ∙ string_again levels content text rest s (omega arith)
  value_again (suc levels) _ _ _ (D.binary content text before behind s) rest end le = binary_again content text before behind rest s
  value_again (suc levels) _ _ _ (D.items ts inner few all) rest end le = list_again (value_at term levels) ts inner rest few (items_again levels term ts inner all (omega arith))
  value_again (suc levels) _ _ _ (D.elements ts inner few all) rest end le = tuple_again (value_at term levels) ts inner rest few (items_again levels term ts inner all (omega arith))

  pub items_again : (levels : ℕ) (language : Language) (ts : Forest) (text : List ℕ) → SpellsAll language ts text → deepest ts ≤ levels → ReadsItems (value_at language levels) ts text
  items_again levels _ _ _ (D.nothing language spaces) le = λ close c rest. rw (skip_gaps spaces close rest c.no_space) (after_same close rest)
  items_again levels _ _ _ (D.last language t before behind text s) le =
      last_items (value_at language levels) t before behind text (spelling_begins language t text s) (λ rest end. value_again levels language t text s rest end (omega arith))
  items_again levels _ _ _ (D.one_more language t u ts before behind text others s all) le =
      more_items (value_at language levels) t u ts before behind text others (spelling_begins language t text s) (λ rest end. value_again levels language t text s rest end (omega arith)) (items_again levels language (more u ts) others all (omega arith))

-- ---- whole parts

bin_again_all : (t : Tree) (text rest : List ℕ) → Spells io_item t text → ((number : ℤ) → t ≢ int number) → depth t ≤ MAX_DEPTH → value_at io_item MAX_DEPTH (text ++ rest) ≡ Some (t, rest)
unfolding value_at
bin_again_all _ _ rest (D.byte number text s byte_le) other le = absurd (other (pos number) refl)
bin_again_all _ _ rest (D.bytes content text s) other le = at_opening io_item 63 (text ++ rest) Quote (opening_text content text rest s) ∙ bin_again content text rest s
bin_again_all _ _ rest (D.parts ts inner few all) other le = list_again (value_at io_item 63) ts inner rest few (items_again 63 io_item ts inner all (omega arith))

not_int : (t : Tree) → ((number : ℤ) → t ≢ int number) → is_int t ≡ false
not_int (int z) other = absurd (other z refl)
not_int (atom name) other = refl
not_int (bin bytes) other = refl
not_int (tuple ts) other = refl
not_int (list ts) other = refl

pub io_list_again : (t : Tree) (text : List ℕ) → SpellsIoList t text → (rest : List ℕ) → io_list_at (text ++ rest) ≡ Some (t, rest)
unfolding io_list_at
io_list_again t text s rest = rw (bin_again_all t text rest s.spelled s.bytes s.levels, not_int t s.bytes) refl

pub term_again : (t : Tree) (text : List ℕ) → SpellsTerm t text → (rest : List ℕ) → IsEnd rest → value_at term MAX_DEPTH (text ++ rest) ≡ Some (t, rest)
term_again t text s rest end = value_again MAX_DEPTH term t text s.spelled rest end s.levels

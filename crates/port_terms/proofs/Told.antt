-- The first fault is told: reading bytes that have it meets it.
use Rattle.std.proofs.Common.{◌≡◌, ◌≢◌, ℕ, ℤ, zero, suc, ◌+◌, ◌-◌, ◌<◌, ◌≤◌, ◌^◌, true, false, cond, ltb, List, [], ◌∷◌, ◌++◌, length, Result, Ok, Err, refl, sym, ap, ◌∙◌, append_assoc, arith}
use Rattle.std.specs.Prelude.{FitsSigned, encode_utf8_all, ◌&&◌, ◌==◌}
use Rattle.std.specs.Int.{w16, w32, w64, to_be_bytes}
use Rattle.std.specs.Str.{chars}
use Rattle.std.proofs.lemmas.Bool.{lt-ltb, lt-leb, ne_eqb, false_from_ne_true}
use Rattle.std.proofs.lemmas.List.{length-append, append-nil}
use Rattle.std.proofs.lemmas.Str.{chars-encodes}
use Rattle.port_terms.specs.declared.values.TheConstants.{MAX_ITEMS, MAX_NAME_CHARS, MAX_DEPTH}
use Rattle.port_terms.specs.declared.faults.TermFault.{TermFault}
use Rattle.port_terms.specs.declared.faults.TermFault.TheVariants.{Cut, BadTag, NotServed, TooBig, BadText, Trailing, TooDeep}
use Rattle.port_terms.specs.Tree.{Tree, Forest, bin, list, forest, count, depth, deepest}
use Rattle.port_terms.specs.Spelling.{Spells, SpellAll, signed, little_endian}
use Rattle.port_terms.specs.Spelling as S
use Rattle.port_terms.specs.Faults.{Wants, Tells, TellsTooMany, IsBadAtom, FaultOf, IsFirstFault}
use Rattle.port_terms.specs.Faults as F
use Rattle.port_terms.specs.Reading.{◌>>=◌, tag_of, byte_at, fits, front_at, number_at, count_at, small_integer_at, integer_at, small_big_at, utf8_name, utf8_atom_at, latin1_atom_at, items_at, forest_at, tuple_at, tail_at, list_at, string_at, binary_at, body_at, term_at, whole_at, reading}
use Rattle.port_terms.proofs.Names.{utf8_long, utf8_bad}
use Rattle.port_terms.proofs.Splits.{wide16, number_again, number_cut, front_again, front_cut, count_again, count_too_many, count_cut}
use Rattle.port_terms.proofs.TagNumbers.{tag_unknown, tag_unserved}
use Rattle.port_terms.proofs.Says.{fits_signed}
use Rattle.port_terms.proofs.Again.{Field, Read, term_again, items_again, forest_again, trees_of}

abbrev failed : TermFault → Read
failed fault = Err fault

no_fit_again : (z : ℤ) → ¬ (FitsSigned w64 z) → fits z ≡ false
no_fit_again z bad = false_from_ne_true (fits z) (λ (e : fits z ≡ true). bad (fits_signed z e))

-- ---- the bytes end

cut_byte : (size : ℕ) (rest : List ℕ) (next : ℕ × List ℕ → Read) → length rest < 1 → (byte_at size rest >>= next) ≡ failed (Cut size)
cut_byte size [] next lt = refl
cut_byte size (b ∷ rest) next lt = absurd (omega arith)

cut_length : (size : ℕ) (rest : List ℕ) (next : ℕ × List ℕ → Read) → length rest < 2 → (number_at w16 size rest >>= next) ≡ failed (Cut size)
cut_length size rest next lt = ap (λ (r : Field). r >>= next) (number_cut w16 size rest lt)

cut_count : (at size : ℕ) (rest : List ℕ) (next : ℕ × List ℕ → Read) → length rest < 4 → (count_at at size rest >>= next) ≡ failed (Cut size)
cut_count at size rest next lt = ap (λ (r : Field). r >>= next) (count_cut at size rest lt)

cut_small_integer : (size : ℕ) (rest : List ℕ) → length rest < 1 → small_integer_at size rest ≡ failed (Cut size)
unfolding small_integer_at
cut_small_integer size [] lt = refl
cut_small_integer size (b ∷ rest) lt = absurd (omega arith)

cut_integer : (size : ℕ) (rest : List ℕ) → length rest < 4 → integer_at size rest ≡ failed (Cut size)
unfolding integer_at
cut_integer size rest lt = rw (number_cut w32 size rest lt) refl

cut_big_sign : (at size : ℕ) (rest : List ℕ) → length rest < 2 → small_big_at at size rest ≡ failed (Cut size)
unfolding small_big_at
cut_big_sign at size [] lt = refl
cut_big_sign at size (n ∷ []) lt = refl
cut_big_sign at size (n ∷ sign ∷ rest) lt = absurd (omega arith)

cut_big_digits : (at size n sign : ℕ) (rest : List ℕ) → length rest < n → small_big_at at size (n ∷ sign ∷ rest) ≡ failed (Cut size)
unfolding small_big_at
cut_big_digits at size n sign rest lt = rw (front_cut n size rest lt) refl

cut_utf8 : (at n size : ℕ) (rest : List ℕ) → length rest < n → utf8_atom_at at n size rest ≡ failed (Cut size)
unfolding utf8_atom_at
cut_utf8 at n size rest lt = rw (front_cut n size rest lt) refl

cut_latin1 : (at n size : ℕ) (rest : List ℕ) → length rest < n → latin1_atom_at at n size rest ≡ failed (Cut size)
unfolding latin1_atom_at
cut_latin1 at n size rest lt = rw (front_cut n size rest lt) refl

-- behind a length in two bytes, and behind a number of items
behind_length : (size n : ℕ) (rest : List ℕ) (next : ℕ × List ℕ → Read) → n < 2 ^ 16 → (number_at w16 size (to_be_bytes w16 n ++ rest) >>= next) ≡ next (n, rest)
behind_length size n rest next lt = ap (λ (r : Field). r >>= next) (number_again w16 (2 ^ 16) size n rest wide16 lt)

behind_count : (at size n : ℕ) (rest : List ℕ) (next : ℕ × List ℕ → Read) → n ≤ MAX_ITEMS → (count_at at size (to_be_bytes w32 n ++ rest) >>= next) ≡ next (n, rest)
behind_count at size n rest next le = ap (λ (r : Field). r >>= next) (count_again at size n rest le)

behind_too_many : (at size n : ℕ) (rest : List ℕ) (next : ℕ × List ℕ → Read) → MAX_ITEMS < n → n < 2 ^ 32 → (count_at at size (to_be_bytes w32 n ++ rest) >>= next) ≡ failed (TooBig at)
behind_too_many at size n rest next many lt = ap (λ (r : Field). r >>= next) (count_too_many at size n rest many lt)

-- the bytes of a string, and of a binary
abbrev string_next : ℕ → ℕ → ℕ → ℕ × List ℕ → Read
string_next levels at size n = cond (levels == 0 && ltb 0 n.0) (Err (TooDeep at)) (front_at n.0 size n.1) >>= λ front. Ok (list (S.ints front.0), front.1)

cut_string_length : (levels at size : ℕ) (rest : List ℕ) → length rest < 2 → string_at levels at size rest ≡ failed (Cut size)
unfolding string_at
cut_string_length levels at size rest lt = cut_length size rest (string_next levels at size) lt

cut_string : (levels at size n : ℕ) (rest : List ℕ) → n < 2 ^ 16 → length rest < n → string_at (suc levels) at size (to_be_bytes w16 n ++ rest) ≡ failed (Cut size)
unfolding string_at
cut_string levels at size n rest lt short =
    let deep : (suc levels == 0) ≡ false = ne_eqb (suc levels) 0 (λ (e : suc levels ≡ 0). omega arith) in
    behind_length size n rest (string_next (suc levels) at size) lt ∙ rw (deep, front_cut n size rest short) refl

deep_string_told : (at size n : ℕ) (rest : List ℕ) → 0 < n → n < 2 ^ 16 → string_at 0 at size (to_be_bytes w16 n ++ rest) ≡ failed (TooDeep at)
unfolding string_at
deep_string_told at size n rest some lt = behind_length size n rest (string_next 0 at size) lt ∙ rw (lt-ltb 0 n some) refl

cut_binary_length : (at size : ℕ) (rest : List ℕ) → length rest < 4 → binary_at at size rest ≡ failed (Cut size)
unfolding binary_at
cut_binary_length at size rest lt = cut_count at size rest (λ n. front_at n.0 size n.1 >>= λ front. Ok (bin front.0, front.1)) lt

cut_binary : (at size n : ℕ) (rest : List ℕ) → n ≤ MAX_ITEMS → length rest < n → binary_at at size (to_be_bytes w32 n ++ rest) ≡ failed (Cut size)
unfolding binary_at
cut_binary at size n rest le short = behind_count at size n rest (λ n. front_at n.0 size n.1 >>= λ front. Ok (bin front.0, front.1)) le ∙ rw (front_cut n size rest short) refl

big_binary : (at size n : ℕ) (rest : List ℕ) → MAX_ITEMS < n → n < 2 ^ 32 → binary_at at size (to_be_bytes w32 n ++ rest) ≡ failed (TooBig at)
unfolding binary_at
big_binary at size n rest many lt = behind_too_many at size n rest (λ n. front_at n.0 size n.1 >>= λ front. Ok (bin front.0, front.1)) many lt

-- a list
abbrev list_next : (List ℕ → Read) → ℕ → ℕ × List ℕ → Read
list_next item size n = forest_at item n.0 n.1 >>= λ items. tail_at size items.1 >>= λ tail. Ok (list items.0, tail.1)

cut_list_length : (item : List ℕ → Read) (at size : ℕ) (rest : List ℕ) → length rest < 4 → list_at item at size rest ≡ failed (Cut size)
unfolding list_at
cut_list_length item at size rest lt = cut_count at size rest (list_next item size) lt

big_list : (item : List ℕ → Read) (at size n : ℕ) (rest : List ℕ) → MAX_ITEMS < n → n < 2 ^ 32 → list_at item at size (to_be_bytes w32 n ++ rest) ≡ failed (TooBig at)
unfolding list_at
big_list item at size n rest many lt = behind_too_many at size n rest (list_next item size) many lt

-- every way in which the bytes end behind a tag
cut_told : (levels tag n size : ℕ) (head rest : List ℕ) → Wants (suc levels) tag head n → length rest < n → term_at size (suc levels) (tag ∷ head ++ rest) ≡ failed (Cut size)
unfolding term_at body_at
cut_told levels _ _ size _ rest (F.small_integer _) lt = cut_small_integer size rest lt
cut_told levels _ _ size _ rest (F.integer _) lt = cut_integer size rest lt
cut_told levels _ _ size _ rest (F.big_sign _) lt = cut_big_sign _ size rest lt
cut_told levels _ _ size _ rest (F.big_digits _ n sign) lt = cut_big_digits _ size n sign rest lt
cut_told levels _ _ size _ rest (F.small_atom_utf8_length _) lt = cut_byte size rest (λ n. utf8_atom_at _ n.0 size n.1) lt
cut_told levels _ _ size _ rest (F.small_atom_utf8 _ n) lt = cut_utf8 _ n size rest lt
cut_told levels _ _ size _ rest (F.atom_utf8_length _) lt = cut_length size rest (λ n. utf8_atom_at _ n.0 size n.1) lt
cut_told levels _ _ size _ rest (F.atom_utf8 _ n few) lt = behind_length size n rest (λ n. utf8_atom_at _ n.0 size n.1) few ∙ cut_utf8 _ n size rest lt
cut_told levels _ _ size _ rest (F.small_atom_length _) lt = cut_byte size rest (λ n. latin1_atom_at _ n.0 size n.1) lt
cut_told levels _ _ size _ rest (F.small_atom _ n) lt = cut_latin1 _ n size rest lt
cut_told levels _ _ size _ rest (F.atom_length _) lt = cut_length size rest (λ n. latin1_atom_at _ n.0 size n.1) lt
cut_told levels _ _ size _ rest (F.atom_ext _ n few) lt = behind_length size n rest (λ n. latin1_atom_at _ n.0 size n.1) few ∙ cut_latin1 _ n size rest lt
cut_told levels _ _ size _ rest (F.small_arity _) lt = cut_byte size rest (λ n. tuple_at (term_at size levels) n.0 n.1) lt
cut_told levels _ _ size _ rest (F.large_arity _) lt = cut_count _ size rest (λ n. tuple_at (term_at size levels) n.0 n.1) lt
cut_told levels _ _ size _ rest (F.string_length _) lt = cut_string_length levels _ size rest lt
cut_told (suc levels) _ _ size _ rest (F.string _ n few) lt = cut_string levels _ size n rest few lt
cut_told levels _ _ size _ rest (F.list_length _) lt = cut_list_length (term_at size levels) _ size rest lt
cut_told levels _ _ size _ rest (F.binary_length _) lt = cut_binary_length _ size rest lt
cut_told levels _ _ size _ rest (F.binary _ n few) lt = cut_binary _ size n rest few lt

-- ---- integers, lengths and texts

big_told : (levels size sign : ℕ) (digits rest : List ℕ) → ¬ (FitsSigned w64 (signed sign (little_endian digits))) → term_at size (suc levels) (110 ∷ length digits ∷ sign ∷ (digits ++ rest)) ≡ failed (TooBig (size - length (110 ∷ length digits ∷ sign ∷ (digits ++ rest))))
unfolding term_at body_at small_big_at
big_told levels size sign digits rest bad = rw (front_again size digits rest, no_fit_again (signed sign (little_endian digits)) bad) refl

too_many_told : (levels tag size : ℕ) (head rest : List ℕ) → TellsTooMany tag head → term_at size (suc levels) (tag ∷ head ++ rest) ≡ failed (TooBig (size - length (tag ∷ head ++ rest)))
unfolding term_at body_at
too_many_told levels _ size _ rest (F.large_tuple n many lt) = behind_too_many _ size n rest (λ n. tuple_at (term_at size levels) n.0 n.1) many lt
too_many_told levels _ size _ rest (F.list_ext n many lt) = big_list (term_at size levels) _ size n rest many lt
too_many_told levels _ size _ rest (F.binary n many lt) = big_binary _ size n rest many lt

utf8_told : (at size : ℕ) (text rest : List ℕ) → utf8_name at text ≡ Err (BadText at) → utf8_atom_at at (length text) size (text ++ rest) ≡ failed (BadText at)
unfolding utf8_atom_at
utf8_told at size text rest bad = rw (front_again size text rest, bad) refl

latin1_told : (at size : ℕ) (text rest : List ℕ) → MAX_NAME_CHARS < length text → latin1_atom_at at (length text) size (text ++ rest) ≡ failed (BadText at)
unfolding latin1_atom_at
latin1_told at size text rest many = rw (front_again size text rest, lt-leb (length text) MAX_NAME_CHARS many) refl

bad_text_told : (levels tag size : ℕ) (text rest : List ℕ) → IsBadAtom tag text → term_at size (suc levels) (tag ∷ text ++ rest) ≡ failed (BadText (size - length (tag ∷ text ++ rest)))
unfolding term_at body_at
bad_text_told levels _ size _ rest (F.small_not_utf8 text lt bad) = utf8_told _ size text rest (utf8_bad _ text bad)
bad_text_told levels _ size _ rest (F.not_utf8 text lt bad) = behind_length size (length text) (text ++ rest) (λ n. utf8_atom_at _ n.0 size n.1) lt ∙ utf8_told _ size text rest (utf8_bad _ text bad)
bad_text_told levels _ size _ rest (F.long_utf8 name scalars many lt) =
    let text = encode_utf8_all name in
    let same : chars text ≡ name = chars-encodes name scalars in
    behind_length size (length text) (text ++ rest) (λ n. utf8_atom_at _ n.0 size n.1) lt ∙ utf8_told _ size text rest (utf8_long _ text (rw same many))
bad_text_told levels _ size _ rest (F.long_latin1 name many lt) = behind_length size (length name) (name ++ rest) (λ n. latin1_atom_at _ n.0 size n.1) lt ∙ latin1_told _ size name rest many

-- ---- items

abbrev failed_all : TermFault → Result (List Tree × List ℕ) TermFault
failed_all fault = Err fault

-- the items before are read, and the next one fails
items_told : (size levels n : ℕ) (ts : Forest) (text rest : List ℕ) (fault : TermFault) → SpellAll ts text → deepest ts ≤ levels → count ts < n → term_at size levels rest ≡ failed fault → items_at (term_at size levels) n (text ++ rest) ≡ failed_all fault
unfolding items_at
items_told size levels zero ts text rest fault all le lt e = absurd (omega arith)
items_told size levels (suc n) _ _ rest fault S.nothing le lt e = rw e refl
items_told size levels (suc n) _ _ rest fault (S.one_more t ts first others s all) le lt e =
    ap (items_at (term_at size levels) (suc n)) (append_assoc first others rest)
    ∙ rw (term_again size levels t first s (others ++ rest) (omega arith), items_told size levels n ts others rest fault all (omega arith) (omega arith) e) refl

tuple_told : (item : List ℕ → Read) (n : ℕ) (bytes : List ℕ) (fault : TermFault) → items_at item n bytes ≡ failed_all fault → tuple_at item n bytes ≡ failed fault
unfolding tuple_at forest_at
tuple_told item n bytes fault e = rw e refl

list_items_told : (item : List ℕ → Read) (at size n : ℕ) (bytes : List ℕ) (fault : TermFault) → n ≤ MAX_ITEMS → items_at item n bytes ≡ failed_all fault → list_at item at size (to_be_bytes w32 n ++ bytes) ≡ failed fault
unfolding list_at forest_at
list_items_told item at size n bytes fault le e = behind_count at size n bytes (λ n. (items_at item n.0 n.1 >>= λ items. forested items) >>= λ items. tail_at size items.1 >>= λ tail. Ok (list items.0, tail.1)) le ∙ rw e refl
  where
    forested : List Tree × List ℕ → Result (Forest × List ℕ) TermFault
    forested x = Ok (forest x.0, x.1)

in_item_told : (levels tag n size : ℕ) (head bytes : List ℕ) (fault : TermFault) → Tells tag head n → items_at (term_at size levels) n bytes ≡ failed_all fault → term_at size (suc levels) (tag ∷ head ++ bytes) ≡ failed fault
unfolding term_at body_at
in_item_told levels _ _ size _ bytes fault (F.small_tuple n) e = tuple_told (term_at size levels) n bytes fault e
in_item_told levels _ _ size _ bytes fault (F.large_tuple n le) e = behind_count _ size n bytes (λ n. tuple_at (term_at size levels) n.0 n.1) le ∙ tuple_told (term_at size levels) n bytes fault e
in_item_told levels _ _ size _ bytes fault (F.list_ext n le) e = list_items_told (term_at size levels) _ size n bytes fault le e

-- ---- tails

tail_told : (item : List ℕ → Read) (at size : ℕ) (ts : Forest) (text rest : List ℕ) (fault : TermFault) → count ts ≤ MAX_ITEMS → ((rest : List ℕ) → items_at item (count ts) (text ++ rest) ≡ Ok (trees_of ts, rest)) → (tail_at size rest) ≡ Err fault
    → list_at item at size (to_be_bytes w32 (count ts) ++ (text ++ rest)) ≡ failed fault
unfolding list_at
tail_told item at size ts text rest fault le reads e = behind_count at size (count ts) (text ++ rest) (list_next item size) le ∙ rw (forest_again item ts text rest reads, e) refl

other_tail_at : (size tail : ℕ) (rest : List ℕ) → tail ≢ 106 → tail_at size (tail ∷ rest) ≡ Err (NotServed (size - length (tail ∷ rest)) tail)
other_tail_at size tail rest other = rw (ne_eqb tail 106 other) refl

no_tail_told : (levels size : ℕ) (ts : Forest) (text : List ℕ) → count ts ≤ MAX_ITEMS → SpellAll ts text → deepest ts ≤ levels → term_at size (suc levels) (108 ∷ to_be_bytes w32 (count ts) ++ text) ≡ failed (Cut size)
unfolding term_at body_at
no_tail_told levels size ts text le all shallow =
    ap (λ (x : List ℕ). list_at (term_at size levels) (size - length (108 ∷ to_be_bytes w32 (count ts) ++ text)) size (to_be_bytes w32 (count ts) ++ x)) (sym (append-nil text))
    ∙ tail_told (term_at size levels) _ size ts text [] (Cut size) le (items_again size levels ts text all shallow) refl

other_tail_told : (levels size tail : ℕ) (ts : Forest) (text rest : List ℕ) → count ts ≤ MAX_ITEMS → SpellAll ts text → deepest ts ≤ levels → tail ≢ 106 → term_at size (suc levels) (108 ∷ to_be_bytes w32 (count ts) ++ (text ++ tail ∷ rest)) ≡ failed (NotServed (size - length (tail ∷ rest)) tail)
unfolding term_at body_at
other_tail_told levels size tail ts text rest le all shallow other =
    tail_told (term_at size levels) _ size ts text (tail ∷ rest) (NotServed (size - length (tail ∷ rest)) tail) le (items_again size levels ts text all shallow) (other_tail_at size tail rest other)

-- ---- a term

number_told : (levels size tag : ℕ) (rest : List ℕ) (fault : TermFault) → body_at (tag_of tag) levels (term_at size levels) (size - length (tag ∷ rest)) tag size rest ≡ failed fault → term_at size (suc levels) (tag ∷ rest) ≡ failed fault
unfolding term_at
number_told levels size tag rest fault e = e

-- a fault at the first byte of what is left
at_first : (make : ℕ → TermFault) (at size len : ℕ) → at + len ≡ size → failed (make (size - len)) ≡ failed (make at)
at_first make at size len e = ap (λ (k : ℕ). failed (make k)) (omega arith)

fault_told : (levels at : ℕ) (bytes : List ℕ) (fault : TermFault) → FaultOf levels at bytes fault → (size : ℕ) → at + length bytes ≡ size → term_at size levels bytes ≡ failed fault
unfolding term_at body_at
fault_told _ _ _ _ (F.too_deep at bytes) size len = at_first TooDeep at size (length bytes) len
fault_told _ _ _ _ (F.no_tag levels at) size len = ap (λ (k : ℕ). failed (Cut k)) (omega arith)
fault_told _ _ _ _ (F.bad_tag levels at tag rest out unknown) size len = rw (tag_unknown tag out unknown) (at_first (λ k. BadTag k tag) at size (length (tag ∷ rest)) len)
fault_told _ _ _ _ (F.not_served levels at tag rest within) size len = rw (tag_unserved tag within) (at_first (λ k. NotServed k tag) at size (length (tag ∷ rest)) len)
fault_told _ _ _ _ (F.cut levels at tag n head rest wants short) size len =
    let place : size ≡ at + 1 + length head + length rest = omega (arith, length-append head rest) in
    cut_told levels tag n size head rest wants short ∙ ap (λ (k : ℕ). failed (Cut k)) place
fault_told _ _ _ _ (F.big levels at sign digits rest lt bad) size len = big_told levels size sign digits rest bad ∙ at_first TooBig at size _ len
fault_told _ _ _ _ (F.too_many levels at tag head rest many) size len = too_many_told levels tag size head rest many ∙ at_first TooBig at size _ len
fault_told _ _ _ _ (F.bad_text levels at tag text rest bad) size len = bad_text_told levels tag size text rest bad ∙ at_first BadText at size _ len
fault_told _ _ _ _ (F.deep_string at n rest some lt) size len = deep_string_told _ size n rest some lt ∙ at_first TooDeep at size _ len
fault_told _ _ _ _ (F.in_item levels at tag n head text rest front fault tells all shallow fewer faulty) size len =
    let behind : at + 1 + length head + length text + length rest ≡ size = omega (arith, len, length-append head (text ++ rest), length-append text rest) in
    let one = fault_told levels (at + 1 + length head + length text) rest fault faulty size behind in
    in_item_told levels tag n size head (text ++ rest) fault tells (items_told size levels n front text rest fault all shallow fewer one)
fault_told _ _ _ _ (F.no_tail levels at ts items few all shallow) size len =
    let place : size ≡ at + 5 + length items = omega arith in
    no_tail_told levels size ts items few all shallow ∙ ap (λ (k : ℕ). failed (Cut k)) place
fault_told _ _ _ _ (F.other_tail levels at tail ts items rest few all shallow other) size len =
    let place : size - length (tail ∷ rest) ≡ at + 5 + length items = omega (arith, len, length-append items (tail ∷ rest)) in
    other_tail_told levels size tail ts items rest few all shallow other ∙ ap (λ (k : ℕ). failed (NotServed k tail)) place

-- ---- all of the input

abbrev no_term : TermFault → Result Tree TermFault
no_term fault = Err fault

whole_told : (size : ℕ) (rest : List ℕ) (fault : TermFault) → term_at size MAX_DEPTH rest ≡ failed fault → whole_at size rest ≡ no_term fault
unfolding whole_at
whole_told size rest fault e = rw e refl

trailing_told : (size : ℕ) (t : Tree) (text rest : List ℕ) → Spells t text → depth t ≤ MAX_DEPTH → 0 < length rest → whole_at size (text ++ rest) ≡ no_term (Trailing (size - length rest))
unfolding whole_at
trailing_told size t text rest s le some = rw (term_again size MAX_DEPTH t text s rest le, ne_eqb (length rest) 0 (λ (e : length rest ≡ 0). omega arith)) refl

pub fault_is_told : (bytes : List ℕ) (fault : TermFault) → IsFirstFault bytes fault → reading bytes ≡ no_term fault
unfolding reading
fault_is_told _ _ F.no_version = refl
fault_is_told _ _ (F.other_version version rest other) = rw (ne_eqb version 131 other) refl
fault_is_told _ _ (F.in_term rest fault faulty) = whole_told (length (131 ∷ rest)) rest fault (fault_told MAX_DEPTH 1 rest fault faulty (length (131 ∷ rest)) (omega arith))
fault_is_told _ _ (F.trailing t text rest s le some) =
    let place : length (131 ∷ text ++ rest) - length rest ≡ 1 + length text = omega (arith, length-append text rest) in
    trailing_told (length (131 ∷ text ++ rest)) t text rest s le some ∙ ap (λ (k : ℕ). no_term (Trailing k)) place

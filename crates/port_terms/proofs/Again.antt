-- What is spelled is read: each spelling gives its term, whatever follows it.
use Rattle.std.proofs.Common.{◌≡◌, ℕ, ℤ, pos, negsuc, zero, suc, ◌-◌, ◌<◌, ◌≤◌, ◌^◌, true, false, cond, ltb, List, [], ◌∷◌, ◌++◌, length, Result, Ok, Err, refl, sym, ap, ◌∙◌, append_assoc, arith}
use Rattle.std.specs.Prelude.{FitsSigned, encode_utf8_all, ◌&&◌, ◌==◌}
use Rattle.std.specs.Int.{w16, w32, w64, to_be_bytes, cast_signed}
use Rattle.std.specs.Str.{chars}
use Rattle.std.proofs.lemmas.Bool.{lt-ltb, le-leb, ne_eqb, and_left, and_right}
use Rattle.std.proofs.lemmas.List.{append-nil}
use Rattle.std.proofs.lemmas.Str.{chars-encodes}
use Rattle.port_terms.specs.declared.values.TheConstants.{MAX_ITEMS, MAX_NAME_CHARS, MAX_DEPTH}
use Rattle.port_terms.specs.declared.faults.TermFault.{TermFault}
use Rattle.port_terms.specs.declared.faults.TermFault.TheVariants.{TooDeep}
use Rattle.port_terms.specs.Tree.{Tree, Forest, int, atom, bin, tuple, list, none, more, forest, count, depth, deepest}
use Rattle.port_terms.specs.Spelling.{Spells, SpellAll, IsName, IsExternal, ints, signed, little_endian}
use Rattle.port_terms.specs.Spelling as S
use Rattle.port_terms.specs.Reading.{◌>>=◌, fits, number_at, front_at, count_at, utf8_name, small_integer_at, integer_at, small_big_at, utf8_atom_at, latin1_atom_at, items_at, forest_at, tuple_at, tail_at, list_at, string_at, binary_at, body_at, term_at, whole_at, reading}
use Rattle.port_terms.proofs.Names.{utf8_given, name_fits}
use Rattle.port_terms.proofs.Splits.{wide16, wide32, number_again, front_again, count_again}

abbrev pub Field : Type 0
Field = Result (ℕ × List ℕ) TermFault

abbrev pub Read : Type 0
Read = Result (Tree × List ℕ) TermFault

signed_fits : (z : ℤ) → FitsSigned w64 z → fits z ≡ true
signed_fits (pos n) f = lt-ltb n (2 ^ 63) f.sfits
signed_fits (negsuc n) f = lt-ltb n (2 ^ 63) f.sfits

-- a term that was read
abbrev made : Tree → List ℕ → Read
made t rest = Ok (t, rest)

integer_again : (size n : ℕ) (rest : List ℕ) → n < 2 ^ 32 → integer_at size (to_be_bytes w32 n ++ rest) ≡ made (int (cast_signed w32 n)) rest
unfolding integer_at
integer_again size n rest lt = ap (λ (r : Field). r >>= λ k. made (int (cast_signed w32 k.0)) k.1) (number_again w32 (2 ^ 32) size n rest wide32 lt)

small_big_again : (at size sign : ℕ) (digits rest : List ℕ) → FitsSigned w64 (signed sign (little_endian digits)) → small_big_at at size (length digits ∷ sign ∷ (digits ++ rest)) ≡ made (int (signed sign (little_endian digits))) rest
unfolding small_big_at
small_big_again at size sign digits rest f = rw (front_again size digits rest, signed_fits (signed sign (little_endian digits)) f) refl

utf8_again : (at size : ℕ) (name rest : List ℕ) → IsName name → utf8_atom_at at (length (encode_utf8_all name)) size (encode_utf8_all name ++ rest) ≡ made (atom name) rest
unfolding utf8_atom_at
utf8_again at size name rest h =
    let text = encode_utf8_all name in
    let same : chars text ≡ name = chars-encodes name h.0 in
    let read : utf8_name at text ≡ Ok name = utf8_given at text (name, (h.0, refl)) (rw same h.1) ∙ ap (λ (x : List ℕ). good x) same in
    rw (front_again size text rest, read) refl
  where
    good : List ℕ → Result (List ℕ) TermFault
    good x = Ok x

latin1_again : (at size : ℕ) (name rest : List ℕ) → length name ≤ MAX_NAME_CHARS → latin1_atom_at at (length name) size (name ++ rest) ≡ made (atom name) rest
unfolding latin1_atom_at
latin1_again at size name rest few = rw (front_again size name rest, le-leb (length name) MAX_NAME_CHARS few) refl

-- behind a length in two bytes
length_again : (size n : ℕ) (rest : List ℕ) (next : ℕ × List ℕ → Read) → n < 2 ^ 16 → (number_at w16 size (to_be_bytes w16 n ++ rest) >>= next) ≡ next (n, rest)
length_again size n rest next lt = ap (λ (r : Field). r >>= next) (number_again w16 (2 ^ 16) size n rest wide16 lt)

-- behind a number of items or bytes
counted_again : (at size n : ℕ) (rest : List ℕ) (next : ℕ × List ℕ → Read) → n ≤ MAX_ITEMS → (count_at at size (to_be_bytes w32 n ++ rest) >>= next) ≡ next (n, rest)
counted_again at size n rest next le = ap (λ (r : Field). r >>= next) (count_again at size n rest le)

not_deep : (levels : ℕ) (bytes : List ℕ) → deepest (ints bytes) ≤ levels → ((levels == 0) && ltb 0 (length bytes)) ≡ false
not_deep levels [] le = and_right (levels == 0) (ltb 0 0) refl
not_deep levels (b ∷ bytes) le = and_left (levels == 0) (ltb 0 (length (b ∷ bytes))) (ne_eqb levels 0 (λ (e : levels ≡ 0). omega arith))

string_again : (levels at size : ℕ) (bytes rest : List ℕ) → length bytes < 2 ^ 16 → deepest (ints bytes) ≤ levels → string_at levels at size (to_be_bytes w16 (length bytes) ++ (bytes ++ rest)) ≡ made (list (ints bytes)) rest
unfolding string_at
string_again levels at size bytes rest lt le =
    length_again size (length bytes) (bytes ++ rest) (λ n. cond (levels == 0 && ltb 0 n.0) (Err (TooDeep at)) (front_at n.0 size n.1) >>= λ front. made (list (ints front.0)) front.1) lt
    ∙ rw (not_deep levels bytes le, front_again size bytes rest) refl

binary_again : (at size : ℕ) (bytes rest : List ℕ) → length bytes ≤ MAX_ITEMS → binary_at at size (to_be_bytes w32 (length bytes) ++ (bytes ++ rest)) ≡ made (bin bytes) rest
unfolding binary_at
binary_again at size bytes rest le =
    counted_again at size (length bytes) (bytes ++ rest) (λ n. front_at n.0 size n.1 >>= λ front. made (bin front.0) front.1) le
    ∙ rw (front_again size bytes rest) refl

-- ---- items

-- the terms of a forest, as a list
abbrev pub trees_of : Forest → List Tree
trees_of none = []
trees_of (more t ts) = t ∷ trees_of ts

forest-trees_of : (ts : Forest) → forest (trees_of ts) ≡ ts
forest-trees_of none = refl
forest-trees_of (more t ts) = ap (more t) (forest-trees_of ts)

abbrev made_all : List Tree → List ℕ → Result (List Tree × List ℕ) TermFault
made_all ts rest = Ok (ts, rest)

abbrev made_forest : Forest → List ℕ → Result (Forest × List ℕ) TermFault
made_forest ts rest = Ok (ts, rest)

-- a reader that reads these terms from their spellings
abbrev ReadsAll : (List ℕ → Read) → Forest → List ℕ → Type 0
ReadsAll item ts text = (rest : List ℕ) → items_at item (count ts) (text ++ rest) ≡ made_all (trees_of ts) rest

pub forest_again : (item : List ℕ → Read) (ts : Forest) (text rest : List ℕ) → ReadsAll item ts text → forest_at item (count ts) (text ++ rest) ≡ made_forest ts rest
unfolding forest_at
forest_again item ts text rest reads = rw (reads rest) (ap (λ (us : Forest). made_forest us rest) (forest-trees_of ts))

tuple_again : (item : List ℕ → Read) (ts : Forest) (text rest : List ℕ) → ReadsAll item ts text → tuple_at item (count ts) (text ++ rest) ≡ made (tuple ts) rest
unfolding tuple_at
tuple_again item ts text rest reads = rw (forest_again item ts text rest reads) refl

list_again : (item : List ℕ → Read) (at size : ℕ) (ts : Forest) (text rest : List ℕ) → count ts ≤ MAX_ITEMS → ReadsAll item ts text → list_at item at size (to_be_bytes w32 (count ts) ++ (text ++ 106 ∷ rest)) ≡ made (list ts) rest
unfolding list_at
list_again item at size ts text rest le reads =
    counted_again at size (count ts) (text ++ 106 ∷ rest) (λ n. forest_at item n.0 n.1 >>= λ items. tail_at size items.1 >>= λ tail. made (list items.0) tail.1) le
    ∙ rw (forest_again item ts text (106 ∷ rest) reads) refl

item_again : (item : List ℕ → Read) (t : Tree) (ts : Forest) (first others rest : List ℕ) → ((rest : List ℕ) → item (first ++ rest) ≡ made t rest) → ReadsAll item ts others → items_at item (suc (count ts)) ((first ++ others) ++ rest) ≡ made_all (t ∷ trees_of ts) rest
unfolding items_at
item_again item t ts first others rest one all =
    ap (items_at item (suc (count ts))) (append_assoc first others rest) ∙ rw (one (others ++ rest), all rest) refl

depth_pos : (t : Tree) → 1 ≤ depth t
depth_pos (int z) = omega arith
depth_pos (atom name) = omega arith
depth_pos (bin bytes) = omega arith
depth_pos (tuple ts) = omega arith
depth_pos (list ts) = omega arith

mutual
  unfolding term_at body_at small_integer_at items_at

  pub term_again : (size levels : ℕ) (t : Tree) (text : List ℕ) → Spells t text → (rest : List ℕ) → depth t ≤ levels → term_at size levels (text ++ rest) ≡ made t rest
  term_again size zero t text s rest le = absurd (omega (arith, depth_pos t))
  term_again size (suc levels) _ _ (S.small_integer n lt) rest le = refl
  term_again size (suc levels) _ _ (S.integer n lt) rest le = integer_again size n rest lt
  term_again size (suc levels) _ _ (S.small_big sign digits lt f) rest le = small_big_again _ size sign digits rest f
  term_again size (suc levels) _ _ (S.small_atom_utf8 name h lt) rest le = utf8_again _ size name rest h
  term_again size (suc levels) _ _ (S.atom_utf8 name h) rest le = length_again size (length (encode_utf8_all name)) (encode_utf8_all name ++ rest) (λ n. utf8_atom_at _ n.0 size n.1) (name_fits name h) ∙ utf8_again _ size name rest h
  term_again size (suc levels) _ _ (S.small_atom name lt) rest le = latin1_again _ size name rest (omega arith)
  term_again size (suc levels) _ _ (S.atom_ext name few) rest le = length_again size (length name) (name ++ rest) (λ n. latin1_atom_at _ n.0 size n.1) (omega arith) ∙ latin1_again _ size name rest few
  term_again size (suc levels) _ _ (S.small_tuple ts items lt all) rest le = tuple_again (term_at size levels) ts items rest (items_again size levels ts items all (omega arith))
  term_again size (suc levels) _ _ (S.large_tuple ts items few all) rest le = counted_again _ size (count ts) (items ++ rest) (λ n. tuple_at (term_at size levels) n.0 n.1) few ∙ tuple_again (term_at size levels) ts items rest (items_again size levels ts items all (omega arith))
  term_again size (suc levels) _ _ S.nil rest le = refl
  term_again size (suc levels) _ _ (S.string bytes lt) rest le = string_again levels _ size bytes rest lt (omega arith)
  term_again size (suc levels) _ _ (S.list_ext ts items few all) rest le =
      ap (λ (x : List ℕ). list_at (term_at size levels) (size - length (108 ∷ to_be_bytes w32 (count ts) ++ (items ++ 106 ∷ []) ++ rest)) size (to_be_bytes w32 (count ts) ++ x)) (append_assoc items (106 ∷ []) rest)
      ∙ list_again (term_at size levels) _ size ts items rest few (items_again size levels ts items all (omega arith))
  term_again size (suc levels) _ _ (S.binary bytes few) rest le = binary_again _ size bytes rest few

  pub items_again : (size levels : ℕ) (ts : Forest) (text : List ℕ) → SpellAll ts text → deepest ts ≤ levels → ReadsAll (term_at size levels) ts text
  items_again size levels _ _ S.nothing le = λ rest. refl
  items_again size levels _ _ (S.one_more t ts first others s all) le =
      λ rest. item_again (term_at size levels) t ts first others rest (λ rest'. term_again size levels t first s rest' (omega arith)) (items_again size levels ts others all (omega arith))

-- ---- all of the input

whole_again : (size : ℕ) (t : Tree) (text : List ℕ) → Spells t text → depth t ≤ MAX_DEPTH → whole_at size text ≡ Ok t
unfolding whole_at
whole_again size t text s le =
    let read : term_at size MAX_DEPTH text ≡ made t [] = ap (term_at size MAX_DEPTH) (sym (append-nil text)) ∙ term_again size MAX_DEPTH t text s [] le in
    rw read refl

pub reading_again : (t : Tree) (bytes : List ℕ) → IsExternal t bytes → reading bytes ≡ Ok t
unfolding reading
reading_again t bytes ext = ap reading ext.begins ∙ whole_again (length (131 ∷ ext.text)) t ext.text ext.spelled ext.levels

-- The data that reading gives stands in front, spelled by the grammar.
use Rattle.std.proofs.Common.{◌≡◌, ◌≢◌, ℕ, ℤ, pos, zero, suc, ◌≤◌, false, List, [], ◌∷◌, ◌++◌, length, Option, Some, refl, sym, ap, subst, ◌∙◌, append_assoc, arith, inl, inr}
use Rattle.std.specs.Prelude.{◌&&◌, ◌==◌, nat_lt, nat_le}
use Rattle.std.proofs.lemmas.Bool.{cases_Bool, and_cases, eqb-false, leb-true, ltb-false, false≢true}
use Rattle.std.proofs.lemmas.Option.{cond_some, option_and_then_some}
use Rattle.port_terms.specs.declared.values.TheConstants.{MAX_ITEMS, MAX_DEPTH}
use Rattle.port_terms.specs.Tree.{Tree, Forest, int, atom, bin, tuple, list, more, forest, count, depth, deepest}
use Rattle.port_terms.specs.Spelling.{ints}
use Rattle.script_text.specs.declared.openings.Opening.{Opening}
use Rattle.script_text.specs.declared.openings.Opening.TheVariants.{Quote, Bracket, Brace, Angle, Letter, Other}
use Rattle.script_text.specs.Tokens.{gap}
use Rattle.script_text.specs.Data.{Language, io_item, term, Spells, SpellsAll, SpellsIoList, SpellsTerm}
use Rattle.script_text.specs.InFront.{InFront}
use Rattle.script_text.specs.Data as D
use Rattle.script_text.specs.Reading.{skip, after, after_twice, number_at, whole_at, name_at, text_at, some_at, all_at, forest_at, list_at, tuple_at, string_at, binary_at, io_byte_at, bin_at, atom_at, int_at, io_item_at, term_at, body_at, value_at, is_int, io_list_at}
use Rattle.script_text.proofs.Fronts.{skip_parts}
use Rattle.script_text.proofs.Found.{cases_option, after_is, after_twice_is, number_found, whole_found, name_found, text_found}

abbrev Item : Type 0
Item = List ℕ → Option (Tree × List ℕ)

-- a value of at most so many levels stands in front
pub record Took (language : Language) (levels : ℕ) (t : Tree) (bytes rest : List ℕ) : Type 0 where
  pub text : List ℕ
  pub parts : bytes ≡ text ++ rest
  pub spelled : Spells language t text
  pub shallow : depth t ≤ levels

-- a reader of values of so many levels
abbrev pub IsReader : Language → ℕ → Item → Type 0
IsReader language levels item = (bytes : List ℕ) (t : Tree) (rest : List ℕ) → item bytes ≡ Some (t, rest) → Took language levels t bytes rest

-- values up to what closes them
pub record TookAll (language : Language) (levels close n : ℕ) (ts : Forest) (bytes rest : List ℕ) : Type 0 where
  pub text : List ℕ
  pub parts : bytes ≡ text ++ close ∷ rest
  pub spelled : SpellsAll language ts text
  pub shallow : deepest ts ≤ levels
  pub few : count ts ≤ n

-- the same, of one value or more
pub record TookSome (language : Language) (levels close n : ℕ) (ts : List Tree) (bytes rest : List ℕ) : Type 0 where
  pub first : Tree
  pub others : List Tree
  pub is : ts ≡ first ∷ others
  pub took : TookAll language levels close n (more first (forest others)) bytes rest

-- what stands in front of the spaces, the value, and what stands behind the spaces
around : (bytes text rest : List ℕ) (next : ℕ) (behind : List ℕ) → skip bytes ≡ text ++ rest → skip rest ≡ next ∷ behind
    → (before : ℕ) × (after' : ℕ) × (bytes ≡ gap before ++ (text ++ (gap after' ++ next ∷ behind)))
around bytes text rest next behind e f =
    let front = skip_parts bytes in
    let back = skip_parts rest in
    (front.0, back.0, front.1 ∙ ap (λ (xs : List ℕ). gap front.0 ++ xs) (e ∙ ap (λ (xs : List ℕ). text ++ xs) (back.1 ∙ ap (λ (xs : List ℕ). gap back.0 ++ xs) f)))

regroup_last : (before behind : ℕ) (text xs : List ℕ) → gap before ++ (text ++ (gap behind ++ xs)) ≡ (gap before ++ (text ++ gap behind)) ++ xs
regroup_last before behind text xs = simp append_assoc

regroup_more : (before behind : ℕ) (text inner xs : List ℕ) → gap before ++ (text ++ (gap behind ++ 44 ∷ (inner ++ xs))) ≡ (gap before ++ (text ++ (gap behind ++ 44 ∷ inner))) ++ xs
regroup_more before behind text inner xs = simp append_assoc

regroup_binary : (before behind : ℕ) (text rest : List ℕ) → gap before ++ (text ++ (gap behind ++ 62 ∷ 62 ∷ rest)) ≡ (gap before ++ (text ++ (gap behind ++ 62 ∷ 62 ∷ []))) ++ rest
regroup_binary before behind text rest = simp append_assoc

one_value : (language : Language) (levels close n : ℕ) (t : Tree) (bytes behind rest : List ℕ) → Took language levels t (skip bytes) behind → skip behind ≡ close ∷ rest → TookSome language levels close (suc n) (t ∷ []) bytes rest
one_value language levels close n t bytes behind rest one closed =
    let w = around bytes one.text behind close rest one.parts closed in
    record {
      first = t;
      others = [];
      is = refl;
      took = record {
        text = gap w.0 ++ (one.text ++ gap w.1);
        parts = w.2 ∙ regroup_last w.0 w.1 one.text (close ∷ rest);
        spelled = D.last language t w.0 w.1 one.text one.spelled;
        shallow = omega (arith, one.shallow);
        few = omega arith;
      };
    }

value_and_others : (language : Language) (levels close n : ℕ) (t : Tree) (ts : List Tree) (bytes behind next rest : List ℕ) → Took language levels t (skip bytes) behind → skip behind ≡ 44 ∷ next → TookSome language levels close n ts next rest
    → TookSome language levels close (suc n) (t ∷ ts) bytes rest
value_and_others language levels close n t ts bytes behind next rest one comma all =
    let w = around bytes one.text behind 44 next one.parts comma in
    let inner = all.took.text in
    let same : forest ts ≡ more all.first (forest all.others) = ap forest all.is in
    record {
      first = t;
      others = ts;
      is = refl;
      took = record {
        text = gap w.0 ++ (one.text ++ (gap w.1 ++ 44 ∷ inner));
        parts = w.2 ∙ ap (λ (xs : List ℕ). gap w.0 ++ (one.text ++ (gap w.1 ++ 44 ∷ xs))) all.took.parts ∙ regroup_more w.0 w.1 one.text inner (close ∷ rest);
        spelled = subst (λ (us : Forest). SpellsAll language (more t us) (gap w.0 ++ (one.text ++ (gap w.1 ++ 44 ∷ inner)))) (sym same) (D.one_more language t all.first (forest all.others) w.0 w.1 one.text inner one.spelled all.took.spelled);
        shallow = rw same (omega (arith, one.shallow, all.took.shallow));
        few = rw same (omega (arith, all.took.few));
      };
    }

some_found : (language : Language) (levels : ℕ) (item : Item) → IsReader language levels item → (close n : ℕ) (bytes : List ℕ) (ts : List Tree) (rest : List ℕ) → some_at item close n bytes ≡ Some (ts, rest) → TookSome language levels close n ts bytes rest
unfolding some_at
some_found language levels item reads close zero bytes ts rest h = absurd cc
some_found language levels item reads close (suc n) bytes ts rest h =
    option_and_then_some _ (item (skip bytes)) (ts, rest) h (λ one first others.
    let took = reads (skip bytes) one.0 one.1 first in
    elim (cases_option (after close (skip one.1))) [
      | inl closed ↦
          let h' = rw closed.1 at others in
          let same : (one.0 ∷ [], closed.0) ≡ (ts, rest) = cc in
          subst (λ (x : List Tree × List ℕ). TookSome language levels close (suc n) x.0 bytes x.1) same
          (one_value language levels close n one.0 bytes one.1 closed.0 took (after_is close (skip one.1) closed.0 closed.1))
      | inr unclosed ↦
          let h' = rw unclosed at others in
          option_and_then_some _ (after 44 (skip one.1)) (ts, rest) h' (λ next comma behind. option_and_then_some _ (some_at item close n next) (ts, rest) behind (λ us second made.
          let all = some_found language levels item reads close n next us.0 us.1 second in
          let same : (one.0 ∷ us.0, us.1) ≡ (ts, rest) = cc in
          subst (λ (x : List Tree × List ℕ). TookSome language levels close (suc n) x.0 bytes x.1) same
          (value_and_others language levels close n one.0 us.0 bytes one.1 next us.1 took (after_is 44 (skip one.1) next comma) all)))
    ])

all_found : (language : Language) (levels : ℕ) (item : Item) → IsReader language levels item → (close : ℕ) (bytes : List ℕ) (ts : List Tree) (rest : List ℕ) → all_at item close bytes ≡ Some (ts, rest) → TookAll language levels close MAX_ITEMS (forest ts) bytes rest
unfolding all_at
all_found language levels item reads close bytes ts rest h =
    elim (cases_option (after close (skip bytes))) [
      | inl closed ↦
          let h' = rw closed.1 at h in
          let same : ([], closed.0) ≡ (ts, rest) = cc in
          let front = skip_parts bytes in
          subst (λ (x : List Tree × List ℕ). TookAll language levels close MAX_ITEMS (forest x.0) bytes x.1) same
          (record {
            text = gap front.0;
            parts = front.1 ∙ ap (λ (xs : List ℕ). gap front.0 ++ xs) (after_is close (skip bytes) closed.0 closed.1);
            spelled = D.nothing language front.0;
            shallow = omega arith;
            few = omega arith;
          })
      | inr unclosed ↦
          let some = some_found language levels item reads close MAX_ITEMS bytes ts rest (rw unclosed at h) in
          subst (λ (us : List Tree). TookAll language levels close MAX_ITEMS (forest us) bytes rest) (sym some.is) some.took
    ]

forest_found : (language : Language) (levels : ℕ) (item : Item) → IsReader language levels item → (close : ℕ) (bytes : List ℕ) (ts : Forest) (rest : List ℕ) → forest_at item close bytes ≡ Some (ts, rest) → TookAll language levels close MAX_ITEMS ts bytes rest
unfolding forest_at
forest_found language levels item reads close bytes ts rest h =
    option_and_then_some _ (all_at item close bytes) (ts, rest) h (λ items first made.
    let all = all_found language levels item reads close bytes items.0 items.1 first in
    let same : (forest items.0, items.1) ≡ (ts, rest) = cc in
    subst (λ (x : Forest × List ℕ). TookAll language levels close MAX_ITEMS x.0 bytes x.1) same all)

-- what opens and closes values
enclosed : (open' close : ℕ) (bytes inner text rest : List ℕ) → bytes ≡ open' ∷ inner → inner ≡ text ++ close ∷ rest → bytes ≡ (open' ∷ text ++ close ∷ []) ++ rest
enclosed open' close bytes inner text rest e f = e ∙ ap (λ (xs : List ℕ). open' ∷ xs) (f ∙ sym (append_assoc text (close ∷ []) rest))

parts_found : (levels : ℕ) (item : Item) → IsReader io_item levels item → IsReader io_item (suc levels) (list_at item)
unfolding list_at
parts_found levels item reads bytes t rest h =
    option_and_then_some _ (after 91 bytes) (t, rest) h (λ inner first others. option_and_then_some _ (forest_at item 93 inner) (t, rest) others (λ ts second made.
    let all = forest_found io_item levels item reads 93 inner ts.0 ts.1 second in
    let same : (list ts.0, ts.1) ≡ (t, rest) = cc in
    subst (λ (x : Tree × List ℕ). Took io_item (suc levels) x.0 bytes x.1) same
    (record { text = 91 ∷ all.text ++ 93 ∷ []; parts = enclosed 91 93 bytes inner all.text ts.1 (after_is 91 bytes inner first) all.parts; spelled = D.parts ts.0 all.text all.few all.spelled; shallow = omega (arith, all.shallow) })))

list_found : (levels : ℕ) (item : Item) → IsReader term levels item → IsReader term (suc levels) (list_at item)
unfolding list_at
list_found levels item reads bytes t rest h =
    option_and_then_some _ (after 91 bytes) (t, rest) h (λ inner first others. option_and_then_some _ (forest_at item 93 inner) (t, rest) others (λ ts second made.
    let all = forest_found term levels item reads 93 inner ts.0 ts.1 second in
    let same : (list ts.0, ts.1) ≡ (t, rest) = cc in
    subst (λ (x : Tree × List ℕ). Took term (suc levels) x.0 bytes x.1) same
    (record { text = 91 ∷ all.text ++ 93 ∷ []; parts = enclosed 91 93 bytes inner all.text ts.1 (after_is 91 bytes inner first) all.parts; spelled = D.items ts.0 all.text all.few all.spelled; shallow = omega (arith, all.shallow) })))

tuple_found : (levels : ℕ) (item : Item) → IsReader term levels item → IsReader term (suc levels) (tuple_at item)
unfolding tuple_at
tuple_found levels item reads bytes t rest h =
    option_and_then_some _ (after 123 bytes) (t, rest) h (λ inner first others. option_and_then_some _ (forest_at item 125 inner) (t, rest) others (λ ts second made.
    let all = forest_found term levels item reads 125 inner ts.0 ts.1 second in
    let same : (tuple ts.0, ts.1) ≡ (t, rest) = cc in
    subst (λ (x : Tree × List ℕ). Took term (suc levels) x.0 bytes x.1) same
    (record { text = 123 ∷ all.text ++ 125 ∷ []; parts = enclosed 123 125 bytes inner all.text ts.1 (after_is 123 bytes inner first) all.parts; spelled = D.elements ts.0 all.text all.few all.spelled; shallow = omega (arith, all.shallow) })))

bin_found : (levels : ℕ) → IsReader io_item (suc levels) bin_at
unfolding bin_at
bin_found levels bytes t rest h =
    option_and_then_some _ (text_at bytes) (t, rest) h (λ content first made.
    let one = text_found bytes content.0 content.1 first in
    let same : (bin content.0, content.1) ≡ (t, rest) = cc in
    subst (λ (x : Tree × List ℕ). Took io_item (suc levels) x.0 bytes x.1) same
    (record { text = one.text; parts = one.parts; spelled = D.bytes content.0 one.text one.spelled; shallow = omega arith }))

io_byte_found : (levels : ℕ) → IsReader io_item (suc levels) io_byte_at
unfolding io_byte_at
io_byte_found levels bytes t rest h =
    option_and_then_some _ (number_at bytes) (t, rest) h (λ number first made.
    let one = number_found bytes number.0 number.1 first in
    let p = cond_some (nat_le number.0 255) (int (pos number.0), number.1) (t, rest) made in
    subst (λ (x : Tree × List ℕ). Took io_item (suc levels) x.0 bytes x.1) p.1
    (record { text = one.text; parts = one.parts; spelled = D.byte number.0 one.text one.spelled (leb-true number.0 255 p.0); shallow = omega arith }))

ints_le_one : (content : List ℕ) → deepest (ints content) ≤ 1
ints_le_one [] = omega arith
ints_le_one (byte ∷ content) = omega (arith, ints_le_one content)

deepest_ints : (levels : ℕ) (content : List ℕ) → (levels == 0 && nat_lt 0 (length content)) ≡ false → deepest (ints content) ≤ levels
deepest_ints levels [] e = omega arith
deepest_ints levels (byte ∷ content) e =
    elim (and_cases (levels == 0) (nat_lt 0 (length (byte ∷ content))) e) [
      | inl h ↦ let some = eqb-false levels 0 h in omega (arith, ints_le_one (byte ∷ content))
      | inr h ↦ absurd (omega (arith, ltb-false 0 (length (byte ∷ content)) h))
    ]

string_found : (levels : ℕ) → IsReader term (suc levels) (string_at levels)
unfolding string_at
string_found levels bytes t rest h =
    option_and_then_some _ (text_at bytes) (t, rest) h (λ content first made.
    let one = text_found bytes content.0 content.1 first in
    elim (cases_Bool (levels == 0 && nat_lt 0 (length content.0))) [
      | inl e ↦ absurd (let h' = rw e at made in cc)
      | inr e ↦
          let h' = rw e at made in
          let same : (list (ints content.0), content.1) ≡ (t, rest) = cc in
          subst (λ (x : Tree × List ℕ). Took term (suc levels) x.0 bytes x.1) same
          (record { text = one.text; parts = one.parts; spelled = D.string content.0 one.text one.spelled; shallow = omega (arith, deepest_ints levels content.0 e) })
    ])

binary_found : (levels : ℕ) → IsReader term (suc levels) binary_at
unfolding binary_at
binary_found levels bytes t rest h =
    option_and_then_some _ (after_twice 60 bytes) (t, rest) h (λ inner first others. option_and_then_some _ (text_at (skip inner)) (t, rest) others (λ content second behind. option_and_then_some _ (after_twice 62 (skip content.1)) (t, rest) behind (λ end third made.
    let one = text_found (skip inner) content.0 content.1 second in
    let same : (bin content.0, end) ≡ (t, rest) = cc in
    let w = around inner one.text content.1 62 (62 ∷ end) one.parts (after_twice_is 62 (skip content.1) end third) in
    subst (λ (x : Tree × List ℕ). Took term (suc levels) x.0 bytes x.1) same
    (record {
      text = 60 ∷ 60 ∷ gap w.0 ++ (one.text ++ (gap w.1 ++ 62 ∷ 62 ∷ []));
      parts = after_twice_is 60 bytes inner first ∙ ap (λ (xs : List ℕ). 60 ∷ 60 ∷ xs) (w.2 ∙ regroup_binary w.0 w.1 one.text end);
      spelled = D.binary content.0 one.text w.0 w.1 one.spelled;
      shallow = omega arith;
    }))))

atom_found : (levels : ℕ) → IsReader term (suc levels) atom_at
unfolding atom_at
atom_found levels bytes t rest h =
    option_and_then_some _ (name_at bytes) (t, rest) h (λ name first made.
    let one = name_found bytes name.0 name.1 first in
    let same : (atom name.0, name.1) ≡ (t, rest) = cc in
    subst (λ (x : Tree × List ℕ). Took term (suc levels) x.0 bytes x.1) same
    (record { text = one.text; parts = one.parts; spelled = subst (λ (x : List ℕ). Spells term (atom x) one.text) (sym one.spelled.0) (D.name one.text one.spelled.1); shallow = omega arith }))

int_found : (levels : ℕ) → IsReader term (suc levels) int_at
unfolding int_at
int_found levels bytes t rest h =
    option_and_then_some _ (whole_at bytes) (t, rest) h (λ number first made.
    let one = whole_found bytes number.0 number.1 first in
    let same : (int number.0, number.1) ≡ (t, rest) = cc in
    subst (λ (x : Tree × List ℕ). Took term (suc levels) x.0 bytes x.1) same
    (record { text = one.text; parts = one.parts; spelled = D.whole number.0 one.text one.spelled; shallow = omega arith }))

io_item_found : (o : Opening) (levels : ℕ) (item : Item) → IsReader io_item levels item → IsReader io_item (suc levels) (io_item_at o item)
io_item_found Quote levels item reads = bin_found levels
io_item_found Bracket levels item reads = parts_found levels item reads
io_item_found Brace levels item reads = λ bytes t rest h. absurd cc
io_item_found Angle levels item reads = λ bytes t rest h. absurd cc
io_item_found Letter levels item reads = λ bytes t rest h. absurd cc
io_item_found Other levels item reads = io_byte_found levels

term_body_found : (o : Opening) (levels : ℕ) (item : Item) → IsReader term levels item → IsReader term (suc levels) (term_at o levels item)
term_body_found Quote levels item reads = string_found levels
term_body_found Bracket levels item reads = list_found levels item reads
term_body_found Brace levels item reads = tuple_found levels item reads
term_body_found Angle levels item reads = binary_found levels
term_body_found Letter levels item reads = atom_found levels
term_body_found Other levels item reads = int_found levels

body_found : (language : Language) (o : Opening) (levels : ℕ) (item : Item) → IsReader language levels item → IsReader language (suc levels) (body_at language o levels item)
body_found io_item o levels item reads = io_item_found o levels item reads
body_found term o levels item reads = term_body_found o levels item reads

pub value_found : (language : Language) (levels : ℕ) → IsReader language levels (value_at language levels)
unfolding value_at
value_found language zero bytes t rest h = absurd cc
value_found language (suc levels) bytes t rest h = body_found language _ levels (value_at language levels) (value_found language levels) bytes t rest h

is_int_cases : (t : Tree) → is_int t ≡ false → (number : ℤ) → t ≢ int number
is_int_cases t e number h = false≢true (sym e ∙ ap is_int h)

pub io_list_found : (bytes : List ℕ) (t : Tree) (rest : List ℕ) → io_list_at bytes ≡ Some (t, rest) → InFront SpellsIoList t bytes rest
unfolding io_list_at
io_list_found bytes t rest h =
    option_and_then_some _ (value_at io_item MAX_DEPTH bytes) (t, rest) h (λ value first made.
    elim (cases_Bool (is_int value.0)) [
      | inl e ↦ absurd (let h' = rw e at made in cc)
      | inr e ↦
          let h' = rw e at made in
          let same : (value.0, value.1) ≡ (t, rest) = cc in
          let took = value_found io_item MAX_DEPTH bytes value.0 value.1 first in
          subst (λ (x : Tree × List ℕ). InFront SpellsIoList x.0 bytes x.1) same
          (record { text = took.text; parts = took.parts; spelled = record { spelled = took.spelled; bytes = is_int_cases value.0 e; levels = took.shallow } })
    ])

pub term_found : (bytes : List ℕ) (t : Tree) (rest : List ℕ) → value_at term MAX_DEPTH bytes ≡ Some (t, rest) → InFront SpellsTerm t bytes rest
term_found bytes t rest h =
    let took = value_found term MAX_DEPTH bytes t rest h in
    record { text = took.text; parts = took.parts; spelled = record { spelled = took.spelled; levels = took.shallow } }

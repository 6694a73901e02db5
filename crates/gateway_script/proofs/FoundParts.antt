-- The words and the parts of a line are written so, by the grammar.
use Rattle.std.proofs.Common.{◌≡◌, ℕ, suc, Bool, true, false, List, [], ◌∷◌, ◌++◌, Option, Some, None, refl, ap, subst, ◌∙◌, ◌⊎◌, inl, inr, cond}
use Rattle.std.specs.Prelude.{nat_le, ◌&&◌, option_and_then, is_none, not}
use Rattle.std.specs.Str.{bytes_eq, is_utf8}
use Rattle.std.proofs.lemmas.Bool.{and_parts, leb-true}
use Rattle.std.proofs.lemmas.List.{append-nil}
use Rattle.std.proofs.lemmas.Option.{cond_some, option_and_then_some}
use Rattle.std.proofs.lemmas.Slice.Eq.{bytes_eq-Decides}
use Rattle.std.proofs.lemmas.Str.{IsUtf8-from_is_utf8}
use Rattle.port_signal.specs.Name.{name_fault}
use Rattle.port_terms.specs.declared.values.TheConstants.{MAX_DEPTH}
use Rattle.port_terms.specs.Tree.{Tree}
use Rattle.port_terms.specs.Written.{external, flattened}
use Rattle.script_text.specs.Tokens.{gap, SpellsNumber}
use Rattle.script_text.specs.Texts.{SpellsText}
use Rattle.script_text.specs.Data.{SpellsIoList, SpellsTerm, term}
use Rattle.script_text.specs.InFront.{InFront}
use Rattle.script_text.specs.Reading.{skip, after, io_list_at, io_bytes_at, number_at, text_at, value_at}
use Rattle.script_text.proofs.Fronts.{skip_parts, front_parts}
use Rattle.script_text.proofs.Found.{after_is, number_found, text_found, cases_option}
use Rattle.script_text.proofs.FoundData.{io_list_found, term_found}
use Rattle.gateway_script.specs.Words.{is_word_byte, gap_at, word_at, next_word_at, name_of, next_name_at, is_reserved, free_name_of, next_free_name_at, last, next_number_at, number_within, next_text_at, utf8_name_of, next_file_at, ◌>>=◌}
use Rattle.gateway_script.specs.Forms.{is_end, payload_at, term_at, only_name_at}
use Rattle.gateway_script.specs.Grammar.{IsName, IsFreeName, SpellsWithin, SpellsFile}

-- ---- steps that may fail

pub bound : {A B : Type 0} (o : Option A) (f : A → Option B) (y : B) → option_and_then f o ≡ Some y → (x : A) × (o ≡ Some x) × (f x ≡ Some y)
bound o f y h = option_and_then_some f o y h (λ x first second. (x, first, second))

pub either : {A : Type 0} (b : Bool) (x y : Option A) (z : A) → cond b x y ≡ Some z → ((b ≡ true) × (x ≡ Some z)) ⊎ ((b ≡ false) × (y ≡ Some z))
either true x y z h = inl (refl, h)
either false x y z h = inr (refl, h)

pub refused : {A : Type 0} (b : Bool) (x y : A) → cond b None (Some x) ≡ Some y → (b ≡ false) × (x ≡ y)
refused true x y h = absurd cc
refused false x y h = (refl, cc)

pub none_is : (o : Option ℕ) → is_none o ≡ true → o ≡ None
none_is None e = refl
none_is (Some n) e = absurd cc

pub not_not : (b : Bool) → not b ≡ false → b ≡ true
not_not true e = refl
not_not false e = absurd cc

-- ---- words

-- one or more spaces in front
pub record Gapped (bytes inner : List ℕ) : Type 0 where
  pub more : ℕ
  pub is : bytes ≡ gap (suc more) ++ inner

pub gap_found : (bytes inner : List ℕ) → gap_at bytes ≡ Some inner → Gapped bytes inner
gap_found bytes inner h = elim (cases_option (after 32 bytes)) [
  | inl (rest, e) ↦
      let p = skip_parts rest in
      let same : skip rest ≡ inner = cc in
      record { more = p.0; is = after_is 32 bytes rest e ∙ ap (λ (xs : List ℕ). 32 ∷ xs) (p.1 ∙ ap (λ xs. gap p.0 ++ xs) same) }
  | inr e ↦ absurd cc
]

-- a word behind one or more spaces
pub record GappedWord (bytes word rest : List ℕ) : Type 0 where
  pub more : ℕ
  pub is : bytes ≡ gap (suc more) ++ (word ++ rest)

pub next_word_found : (bytes word rest : List ℕ) → next_word_at bytes ≡ Some (word, rest) → GappedWord bytes word rest
unfolding next_word_at
next_word_found bytes word rest h =
    option_and_then_some (λ inner. Some (word_at inner)) (gap_at bytes) (word, rest) h (λ inner first second.
    let g = gap_found bytes inner first in
    let same : word_at inner ≡ (word, rest) = cc in
    record { more = g.more; is = g.is ∙ ap (λ xs. gap (suc g.more) ++ xs) (front_parts is_word_byte inner ∙ ap (λ (p : List ℕ × List ℕ). p.0 ++ p.1) same) })

-- the word is this one
pub word_is : (word this : List ℕ) → bytes_eq word this ≡ true → word ≡ this
word_is word this e = (bytes_eq-Decides word this).0 e

pub name_of_found : (word name : List ℕ) → name_of word ≡ Some name → (word ≡ name) × IsName name
name_of_found word name h =
    let p = cond_some (is_none (name_fault word)) word name h in
    (p.1, subst (λ (w : List ℕ). name_fault w ≡ None) p.1 (none_is (name_fault word) p.0))

pub free_name_of_found : (word name : List ℕ) → free_name_of word ≡ Some name → (word ≡ name) × IsFreeName name
free_name_of_found word name h =
    let a = bound (name_of word) (λ name. cond (is_reserved name) None (Some name)) name h in
    let n = name_of_found word a.0 a.1 in
    let r = refused (is_reserved a.0) a.0 name a.2 in
    (n.0 ∙ r.1, (subst (λ (w : List ℕ). name_fault w ≡ None) r.1 n.1, subst (λ (w : List ℕ). is_reserved w ≡ false) r.1 r.0))

pub last_found : {A : Type 0} (rest : List ℕ) (value other : A) → last rest value ≡ Some other → (rest ≡ []) × (value ≡ other)
last_found [] value other h = (refl, cc)
last_found (byte ∷ rest) value other h = absurd cc

pub end_is : (rest : List ℕ) → is_end rest ≡ true → rest ≡ []
end_is [] e = refl
end_is (byte ∷ rest) e = absurd cc

-- a name behind one or more spaces
pub record GappedName (bytes name rest : List ℕ) : Type 0 where
  pub gapped : GappedWord bytes name rest
  pub name_is : IsName name

pub next_name_found : (bytes name rest : List ℕ) → next_name_at bytes ≡ Some (name, rest) → GappedName bytes name rest
unfolding next_name_at
next_name_found bytes name rest h =
    let a = bound (next_word_at bytes) (λ word. name_of word.0 >>= λ name. Some (name, word.1)) (name, rest) h in
    let b = bound (name_of a.0.0) (λ name. Some (name, a.0.1)) (name, rest) a.2 in
    let n = name_of_found a.0.0 b.0 b.1 in
    let pairs : ◌≡◌ {A = List ℕ × List ℕ} (b.0, a.0.1) (name, rest) = cc in
    let e = ap (λ (p : List ℕ × List ℕ). p.0) pairs in
    let f = ap (λ (p : List ℕ × List ℕ). p.1) pairs in
    record {
      gapped = subst (λ (r : List ℕ). GappedWord bytes name r) f (subst (λ (w : List ℕ). GappedWord bytes w a.0.1) (n.0 ∙ e) (next_word_found bytes a.0.0 a.0.1 a.1));
      name_is = subst (λ (w : List ℕ). name_fault w ≡ None) e n.1;
    }

pub record GappedFreeName (bytes name rest : List ℕ) : Type 0 where
  pub gapped : GappedWord bytes name rest
  pub name_is : IsFreeName name

pub next_free_name_found : (bytes name rest : List ℕ) → next_free_name_at bytes ≡ Some (name, rest) → GappedFreeName bytes name rest
unfolding next_free_name_at
next_free_name_found bytes name rest h =
    let a = bound (next_word_at bytes) (λ word. free_name_of word.0 >>= λ name. Some (name, word.1)) (name, rest) h in
    let b = bound (free_name_of a.0.0) (λ name. Some (name, a.0.1)) (name, rest) a.2 in
    let n = free_name_of_found a.0.0 b.0 b.1 in
    let pairs : ◌≡◌ {A = List ℕ × List ℕ} (b.0, a.0.1) (name, rest) = cc in
    let e = ap (λ (p : List ℕ × List ℕ). p.0) pairs in
    let f = ap (λ (p : List ℕ × List ℕ). p.1) pairs in
    record {
      gapped = subst (λ (r : List ℕ). GappedWord bytes name r) f (subst (λ (w : List ℕ). GappedWord bytes w a.0.1) (n.0 ∙ e) (next_word_found bytes a.0.0 a.0.1 a.1));
      name_is = subst (λ (w : List ℕ). IsFreeName w) e n.1;
    }

pub to_end : (bytes text rest : List ℕ) (more : ℕ) → bytes ≡ gap (suc more) ++ (text ++ rest) → rest ≡ [] → bytes ≡ gap (suc more) ++ text
to_end bytes text rest more e f = e ∙ ap (λ xs. gap (suc more) ++ (text ++ xs)) f ∙ ap (λ xs. gap (suc more) ++ xs) (append-nil text)

-- the name is behind one or more spaces, to the end of the line
pub record OnlyName (bytes name : List ℕ) : Type 0 where
  pub more : ℕ
  pub is : bytes ≡ gap (suc more) ++ name
  pub name_is : IsName name

pub only_name_found : (bytes name : List ℕ) → only_name_at bytes ≡ Some name → OnlyName bytes name
unfolding only_name_at
only_name_found bytes name h =
    let a = bound (next_name_at bytes) (λ name. last name.1 name.0) name h in
    let l = last_found a.0.1 a.0.0 name a.2 in
    let g = next_name_found bytes a.0.0 a.0.1 a.1 in
    let is = to_end bytes a.0.0 a.0.1 g.gapped.more g.gapped.is l.0 in
    record {
      more = g.gapped.more;
      is = is ∙ ap (λ xs. gap (suc g.gapped.more) ++ xs) l.1;
      name_is = subst (λ (w : List ℕ). name_fault w ≡ None) l.1 g.name_is;
    }

-- ---- parts of a line

-- a part behind one or more spaces
pub record GappedPart {A : Type 0} (IsSpelling : A → List ℕ → Type 0) (value : A) (bytes rest : List ℕ) : Type 0 where
  pub more : ℕ
  pub text : List ℕ
  pub is : bytes ≡ gap (suc more) ++ (text ++ rest)
  pub spelled : IsSpelling value text

pub gapped_found : {A : Type 0} (IsSpelling : A → List ℕ → Type 0) (read : List ℕ → Option (A × List ℕ)) → ((bytes : List ℕ) (value : A) (rest : List ℕ) → read bytes ≡ Some (value, rest) → InFront IsSpelling value bytes rest)
    → (bytes : List ℕ) (value : A) (rest : List ℕ) → (gap_at bytes >>= read) ≡ Some (value, rest) → GappedPart IsSpelling value bytes rest
gapped_found IsSpelling read found bytes value rest h =
    let a = bound (gap_at bytes) read (value, rest) h in
    let g = gap_found bytes a.0 a.1 in
    let i = found a.0 value rest a.2 in
    record { more = g.more; text = i.text; is = g.is ∙ ap (λ xs. gap (suc g.more) ++ xs) i.parts; spelled = i.spelled }

-- the part, with an equal value and rest
pub as_part : {A : Type 0} (IsSpelling : A → List ℕ → Type 0) (value other : A) (bytes rest behind : List ℕ) → ◌≡◌ {A = A × List ℕ} (value, rest) (other, behind) → GappedPart IsSpelling value bytes rest → GappedPart IsSpelling other bytes behind
as_part {A} IsSpelling value other bytes rest behind e part = subst (λ (p : A × List ℕ). GappedPart IsSpelling p.0 bytes p.1) e part

-- the part to the end of the line
pub part_to_end : {A : Type 0} (IsSpelling : A → List ℕ → Type 0) (value : A) (bytes rest : List ℕ) → (part : GappedPart IsSpelling value bytes rest) → rest ≡ [] → bytes ≡ gap (suc part.more) ++ part.text
part_to_end IsSpelling value bytes rest part e = to_end bytes part.text rest part.more part.is e

pub next_number_found : (bytes : List ℕ) (number : ℕ) (rest : List ℕ) → next_number_at bytes ≡ Some (number, rest) → GappedPart SpellsNumber number bytes rest
unfolding next_number_at
next_number_found bytes number rest h = gapped_found SpellsNumber number_at number_found bytes number rest h

pub number_within_found : (low high : ℕ) (bytes : List ℕ) (number : ℕ) (rest : List ℕ) → number_within low high bytes ≡ Some (number, rest) → GappedPart (SpellsWithin low high) number bytes rest
unfolding number_within
number_within_found low high bytes number rest h =
    let a = bound (next_number_at bytes) (λ found. cond (nat_le low found.0 && nat_le found.0 high) (Some found) None) (number, rest) h in
    let d = cond_some (nat_le low a.0.0 && nat_le a.0.0 high) a.0 (number, rest) a.2 in
    let b = and_parts (nat_le low a.0.0) (nat_le a.0.0 high) d.0 in
    let g = next_number_found bytes a.0.0 a.0.1 a.1 in
    as_part (SpellsWithin low high) a.0.0 number bytes a.0.1 rest d.1
    (record { more = g.more; text = g.text; is = g.is; spelled = record { spelled = g.spelled; least = leb-true low a.0.0 b.0; greatest = leb-true a.0.0 high b.1 } })

pub next_text_found : (bytes text rest : List ℕ) → next_text_at bytes ≡ Some (text, rest) → GappedPart SpellsText text bytes rest
unfolding next_text_at
next_text_found bytes text rest h = gapped_found SpellsText text_at text_found bytes text rest h

pub next_file_found : (bytes name rest : List ℕ) → next_file_at bytes ≡ Some (name, rest) → GappedPart SpellsFile name bytes rest
unfolding next_file_at
next_file_found bytes name rest h =
    let a = bound (next_text_at bytes) (λ found. utf8_name_of found.0 >>= λ name. Some (name, found.1)) (name, rest) h in
    let b = bound (utf8_name_of a.0.0) (λ name. Some (name, a.0.1)) (name, rest) a.2 in
    let d = cond_some (is_utf8 a.0.0) a.0.0 b.0 b.1 in
    let g = next_text_found bytes a.0.0 a.0.1 a.1 in
    let pairs : ◌≡◌ {A = List ℕ × List ℕ} (b.0, a.0.1) (name, rest) = cc in
    as_part SpellsFile a.0.0 name bytes a.0.1 rest (ap (λ (n : List ℕ). (n, a.0.1)) d.1 ∙ pairs)
    (record { more = g.more; text = g.text; is = g.is; spelled = record { spelled = g.spelled; utf8 = IsUtf8-from_is_utf8 a.0.0 d.0 } })

-- the bytes of an IOLIST
pub record SpellsIoBytes (bytes text : List ℕ) : Type 0 where
  pub list : Tree
  pub spelled : SpellsIoList list text
  pub bytes_are : flattened list ≡ bytes

pub io_bytes_found : (bytes content rest : List ℕ) → io_bytes_at bytes ≡ Some (content, rest) → InFront SpellsIoBytes content bytes rest
unfolding io_bytes_at
io_bytes_found bytes content rest h =
    let a = bound (io_list_at bytes) (λ list. Some (flattened list.0, list.1)) (content, rest) h in
    let i = io_list_found bytes a.0.0 a.0.1 a.1 in
    let pairs : ◌≡◌ {A = List ℕ × List ℕ} (flattened a.0.0, a.0.1) (content, rest) = cc in
    let e = ap (λ (p : List ℕ × List ℕ). p.0) pairs in
    let f = ap (λ (p : List ℕ × List ℕ). p.1) pairs in
    record { text = i.text; parts = i.parts ∙ ap (λ xs. i.text ++ xs) f; spelled = record { list = a.0.0; spelled = i.spelled; bytes_are = e } }

pub payload_found : (bytes content rest : List ℕ) → payload_at bytes ≡ Some (content, rest) → GappedPart SpellsIoBytes content bytes rest
unfolding payload_at
payload_found bytes content rest h = gapped_found SpellsIoBytes io_bytes_at io_bytes_found bytes content rest h

-- the external form of a TERM
pub record SpellsExternal (bytes text : List ℕ) : Type 0 where
  pub value : Tree
  pub spelled : SpellsTerm value text
  pub bytes_are : external value ≡ bytes

pub read_external : List ℕ → Option (List ℕ × List ℕ)
read_external inner = value_at term MAX_DEPTH inner >>= λ found. Some (external found.0, found.1)

pub read_external_found : (bytes content rest : List ℕ) → read_external bytes ≡ Some (content, rest) → InFront SpellsExternal content bytes rest
unfolding read_external
read_external_found bytes content rest h =
    let a = bound (value_at term MAX_DEPTH bytes) (λ found. Some (external found.0, found.1)) (content, rest) h in
    let i = term_found bytes a.0.0 a.0.1 a.1 in
    let pairs : ◌≡◌ {A = List ℕ × List ℕ} (external a.0.0, a.0.1) (content, rest) = cc in
    let e = ap (λ (p : List ℕ × List ℕ). p.0) pairs in
    let f = ap (λ (p : List ℕ × List ℕ). p.1) pairs in
    record { text = i.text; parts = i.parts ∙ ap (λ xs. i.text ++ xs) f; spelled = record { value = a.0.0; spelled = i.spelled; bytes_are = e } }

pub term_part_found : (bytes content rest : List ℕ) → term_at bytes ≡ Some (content, rest) → GappedPart SpellsExternal content bytes rest
unfolding term_at read_external
term_part_found bytes content rest h = gapped_found SpellsExternal read_external read_external_found bytes content rest h

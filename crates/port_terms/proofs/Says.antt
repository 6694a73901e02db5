-- What reading says of its bytes is so: a term with its spelling in front, or the first fault.
use Rattle.std.proofs.Common.{◌≡◌, ℕ, ℤ, pos, negsuc, zero, suc, ◌+◌, ◌-◌, ◌<◌, ◌≤◌, ◌^◌, true, false, cond, ltb, List, [], ◌∷◌, ◌++◌, length, Result, Ok, Err, refl, sym, ap, subst, ◌∙◌, append_assoc, arith, inl, inr}
use Rattle.std.specs.Prelude.{FitsSigned, encode_utf8_all, ◌&&◌, ◌==◌}
use Rattle.std.specs.Int.{w16, w32, w64, to_be_bytes}
use Rattle.std.specs.Str.{IsUtf8, is_utf8, chars, all_scalars}
use Rattle.std.proofs.lemmas.Bool.{cases_lt, lt-ltb, le-ltb, ltb-true, ltb-false, lt-leb, cases_Bool, eqb-true, eqb-false, le-leb, ne_eqb, false≢true}
use Rattle.std.proofs.lemmas.List.{length-append, append-nil}
use Rattle.std.proofs.lemmas.Str.{encodes-chars, scalars-chars, length-le-encodes, IsUtf8-from_is_utf8, is_utf8-from_IsUtf8}
use Rattle.port_terms.specs.declared.values.TheConstants.{MAX_ITEMS, MAX_NAME_CHARS}
use Rattle.port_terms.specs.declared.faults.TermFault.{TermFault}
use Rattle.port_terms.specs.declared.faults.TermFault.TheVariants.{Cut, NotServed, TooBig, BadText, TooDeep}
use Rattle.port_terms.specs.Tree.{Tree, Forest, int, atom, bin, tuple, list, none, more, forest, count, depth, deepest}
use Rattle.port_terms.specs.Spelling.{Spells, SpellAll, ints, signed, little_endian}
use Rattle.port_terms.specs.Spelling as S
use Rattle.port_terms.specs.Faults.{Wants, Tells, FaultOf}
use Rattle.port_terms.specs.Faults as F
use Rattle.port_terms.specs.Reading.{◌>>=◌, byte_at, number_at, front_at, count_at, fits, small_integer_at, integer_at, small_big_at, utf8_name, utf8_atom_at, latin1_atom_at, items_at, forest_at, tuple_at, tail_at, list_at, string_at, binary_at}
use Rattle.port_terms.proofs.Names.{IsBytes, IsBytes-rest, utf8_given, utf8_long, utf8_bad}
use Rattle.port_terms.proofs.Splits.{number_splits, front_splits, wide16, wide32}

-- a term with its spelling in front of the bytes
pub record Took (t : Tree) (levels : ℕ) (bytes rest : List ℕ) : Type 0 where
  pub text : List ℕ
  pub parts : bytes ≡ text ++ rest
  pub spelled : Spells t text
  pub shallow : depth t ≤ levels
  pub rest_bytes : IsBytes rest

abbrev pub Says : ℕ → ℕ → List ℕ → Result (Tree × List ℕ) TermFault → Type 0
Says levels at bytes (Ok x) = Took x.0 levels bytes x.1
Says levels at bytes (Err fault) = FaultOf levels at bytes fault

-- the same of n terms
pub record TookAll (ts : List Tree) (levels n : ℕ) (bytes rest : List ℕ) : Type 0 where
  pub text : List ℕ
  pub parts : bytes ≡ text ++ rest
  pub spelled : SpellAll (forest ts) text
  pub shallow : deepest (forest ts) ≤ levels
  pub counted : count (forest ts) ≡ n
  pub rest_bytes : IsBytes rest

-- fewer than n terms, and behind them a fault
pub record Stopped (levels at n : ℕ) (bytes : List ℕ) (fault : TermFault) : Type 0 where
  pub front : Forest
  pub text : List ℕ
  pub rest : List ℕ
  pub parts : bytes ≡ text ++ rest
  pub spelled : SpellAll front text
  pub shallow : deepest front ≤ levels
  pub fewer : count front < n
  pub faulty : FaultOf levels (at + length text) rest fault

abbrev pub SaysAll : ℕ → ℕ → ℕ → List ℕ → Result (List Tree × List ℕ) TermFault → Type 0
SaysAll levels at n bytes (Ok x) = TookAll x.0 levels n bytes x.1
SaysAll levels at n bytes (Err fault) = Stopped levels at n bytes fault

-- a reader of terms of so many levels, in an input of so many bytes, that says what is so
abbrev pub IsReader : ℕ → ℕ → (List ℕ → Result (Tree × List ℕ) TermFault) → Type 0
IsReader size levels item = (at : ℕ) (bytes : List ℕ) → at + length bytes ≡ size → IsBytes bytes → Says levels at bytes (item bytes)

-- ---- cut inputs

cut_at : (levels at tag n size : ℕ) (head rest : List ℕ) → Wants (suc levels) tag head n → length rest < n → at + 1 + length head + length rest ≡ size → FaultOf (suc levels) at (tag ∷ head ++ rest) (Cut size)
cut_at levels at tag n size head rest wants lt e = subst (λ (k : ℕ). FaultOf (suc levels) at (tag ∷ head ++ rest) (Cut k)) e (F.cut levels at tag n head rest wants lt)

cut_head : (levels at tag n size : ℕ) (rest : List ℕ) → Wants (suc levels) tag [] n → length rest < n → at + 1 + length rest ≡ size → FaultOf (suc levels) at (tag ∷ rest) (Cut size)
cut_head levels at tag n size rest wants lt e = cut_at levels at tag n size [] rest wants lt (omega arith)

-- ---- integers

pub says_small_integer : (levels at size : ℕ) (bytes : List ℕ) → at + 1 + length bytes ≡ size → IsBytes bytes → Says (suc levels) at (97 ∷ bytes) (small_integer_at size bytes)
unfolding small_integer_at
says_small_integer levels at size [] len h = cut_head levels at 97 1 size [] (F.small_integer (suc levels)) (omega arith) len
says_small_integer levels at size (n ∷ rest) len h =
    record { text = 97 ∷ n ∷ []; parts = refl; spelled = S.small_integer n (omega (arith, h 0)); shallow = omega arith; rest_bytes = IsBytes-rest n rest h }

pub says_integer : (levels at size : ℕ) (bytes : List ℕ) → at + 1 + length bytes ≡ size → IsBytes bytes → Says (suc levels) at (98 ∷ bytes) (integer_at size bytes)
unfolding integer_at
says_integer levels at size bytes len h =
    elim (number_splits w32 (2 ^ 32) size bytes wide32 h) [
      | inl short ↦ rw short.1 (cut_head levels at 98 4 size bytes (F.integer (suc levels)) short.0 len)
      | inr k ↦ rw k.read (record { text = 98 ∷ to_be_bytes w32 k.n; parts = ap (λ (x : List ℕ). 98 ∷ x) k.parts; spelled = S.integer k.n k.fits; shallow = omega arith; rest_bytes = k.rest_bytes })
    ]

pub fits_signed : (z : ℤ) → fits z ≡ true → FitsSigned w64 z
fits_signed (pos n) e = record { sfits = ltb-true n (2 ^ 63) e }
fits_signed (negsuc n) e = record { sfits = ltb-true n (2 ^ 63) e }

pub no_fit : (z : ℤ) → fits z ≡ false → ¬ (FitsSigned w64 z)
no_fit (pos n) e = λ f. omega (arith, f.sfits, ltb-false n (2 ^ 63) e)
no_fit (negsuc n) e = λ f. omega (arith, f.sfits, ltb-false n (2 ^ 63) e)

says_digits : (levels at size n sign : ℕ) (bytes : List ℕ) → n < 2 ^ 8 → at + 3 + length bytes ≡ size → IsBytes bytes
    → Says (suc levels) at (110 ∷ n ∷ sign ∷ bytes) (front_at n size bytes >>= λ digits. cond (fits (signed sign (little_endian digits.0))) (Ok (int (signed sign (little_endian digits.0)), digits.1)) (Err (TooBig at)))
says_digits levels at size n sign bytes lt len h =
    elim (front_splits n size bytes h) [
      | inl short ↦ rw short.1 (cut_at levels at 110 n size (n ∷ sign ∷ []) bytes (F.big_digits (suc levels) n sign) short.0 (omega arith))
      | inr d ↦
          let z = signed sign (little_endian d.text) in
          let few : length d.text < 2 ^ 8 = omega (arith, d.len) in
          let parts : 110 ∷ n ∷ sign ∷ bytes ≡ 110 ∷ length d.text ∷ sign ∷ (d.text ++ d.rest) = rw (d.len, ← d.parts) refl in
          elim (cases_Bool (fits z)) [
            | inl e ↦ rw (d.read, e) (record { text = 110 ∷ length d.text ∷ sign ∷ d.text; parts = parts; spelled = S.small_big sign d.text few (fits_signed z e); shallow = omega arith; rest_bytes = d.rest_bytes })
            | inr e ↦ rw (d.read, e) (subst (λ (bs : List ℕ). FaultOf (suc levels) at bs (TooBig at)) (sym parts) (F.big levels at sign d.text d.rest few (no_fit z e)))
          ]
    ]

pub says_small_big : (levels at size : ℕ) (bytes : List ℕ) → at + 1 + length bytes ≡ size → IsBytes bytes → Says (suc levels) at (110 ∷ bytes) (small_big_at at size bytes)
unfolding small_big_at
says_small_big levels at size [] len h = cut_head levels at 110 2 size [] (F.big_sign (suc levels)) (omega arith) len
says_small_big levels at size (n ∷ []) len h = cut_head levels at 110 2 size (n ∷ []) (F.big_sign (suc levels)) (omega arith) len
says_small_big levels at size (n ∷ sign ∷ bytes) len h = says_digits levels at size n sign bytes (omega (arith, h 0)) (omega arith) (IsBytes-rest sign bytes (IsBytes-rest n (sign ∷ bytes) h))

-- ---- atoms

-- The tag and the bytes `head` tell the length of a text in UTF-8.
record IsUtf8Head (tag n : ℕ) (head : List ℕ) : Type 0 where
  wants : (levels : ℕ) → Wants (suc levels) tag head n
  spelled : (name : List ℕ) → S.IsName name → length (encode_utf8_all name) ≡ n → Spells (atom name) (tag ∷ head ++ encode_utf8_all name)
  not_utf8 : (text : List ℕ) → length text ≡ n → ¬ (IsUtf8 text) → F.IsBadAtom tag (head ++ text)
  long : (name : List ℕ) → all_scalars name ≡ true → MAX_NAME_CHARS < length name → length (encode_utf8_all name) ≡ n → F.IsBadAtom tag (head ++ encode_utf8_all name)

length-le-text : (text : List ℕ) → IsUtf8 text → length (chars text) ≤ length text
length-le-text text u = omega (arith, length-le-encodes (chars text), ap length (encodes-chars text u))

small_utf8_head : (n : ℕ) → n < 2 ^ 8 → IsUtf8Head 119 n (n ∷ [])
small_utf8_head n lt = record {
  wants = λ levels. F.small_atom_utf8 (suc levels) n;
  spelled = λ name h e. subst (λ (k : ℕ). Spells (atom name) (119 ∷ k ∷ encode_utf8_all name)) e (S.small_atom_utf8 name h (omega arith));
  not_utf8 = λ text e bad. subst (λ (k : ℕ). F.IsBadAtom 119 (k ∷ text)) e (F.small_not_utf8 text (omega arith) bad);
  long = λ name h many e. absurd (omega (arith, length-le-encodes name));
}

utf8_head : (n : ℕ) → n < 2 ^ 16 → IsUtf8Head 118 n (to_be_bytes w16 n)
utf8_head n lt = record {
  wants = λ levels. F.atom_utf8 (suc levels) n lt;
  spelled = λ name h e. subst (λ (k : ℕ). Spells (atom name) (118 ∷ to_be_bytes w16 k ++ encode_utf8_all name)) e (S.atom_utf8 name h);
  not_utf8 = λ text e bad. subst (λ (k : ℕ). F.IsBadAtom 118 (to_be_bytes w16 k ++ text)) e (F.not_utf8 text (omega arith) bad);
  long = λ name h many e. subst (λ (k : ℕ). F.IsBadAtom 118 (to_be_bytes w16 k ++ encode_utf8_all name)) e (F.long_utf8 name h many (omega arith));
}

-- a text that is no name, and what follows it
bad_atom : (levels at tag : ℕ) (head text rest bytes : List ℕ) → F.IsBadAtom tag (head ++ text) → bytes ≡ text ++ rest → FaultOf (suc levels) at (tag ∷ head ++ bytes) (BadText at)
bad_atom levels at tag head text rest bytes bad e =
    let parts : tag ∷ (head ++ text) ++ rest ≡ tag ∷ head ++ bytes = rw e (ap (λ (x : List ℕ). tag ∷ x) (append_assoc head text rest)) in
    subst (λ (bs : List ℕ). FaultOf (suc levels) at bs (BadText at)) parts (F.bad_text levels at tag (head ++ text) rest bad)

-- a spelling behind a head, and what follows it
took_leaf : (t : Tree) (levels tag : ℕ) (head text rest bytes : List ℕ) → Spells t (tag ∷ head ++ text) → depth t ≤ suc levels → bytes ≡ text ++ rest → IsBytes rest → Took t (suc levels) (tag ∷ head ++ bytes) rest
took_leaf t levels tag head text rest bytes spelled shallow e h =
    record { text = tag ∷ head ++ text; parts = rw e (ap (λ (x : List ℕ). tag ∷ x) (sym (append_assoc head text rest))); spelled = spelled; shallow = shallow; rest_bytes = h }

says_utf8_text : (levels at tag n : ℕ) (head text rest bytes : List ℕ) → IsUtf8Head tag n head → length text ≡ n → bytes ≡ text ++ rest → IsBytes rest
    → Says (suc levels) at (tag ∷ head ++ bytes) (utf8_name at text >>= λ name. Ok (atom name, rest))
says_utf8_text levels at tag n head text rest bytes is_head len parts h =
    elim (cases_Bool (is_utf8 text)) [
      | inr e ↦
          let bad : ¬ (IsUtf8 text) = λ u. false≢true (sym e ∙ is_utf8-from_IsUtf8 text u) in
          rw (utf8_bad at text bad) (bad_atom levels at tag head text rest bytes (is_head.not_utf8 text len bad) parts)
      | inl e ↦
          let u = IsUtf8-from_is_utf8 text e in
          let again : encode_utf8_all (chars text) ≡ text = encodes-chars text u in
          let scalars = scalars-chars text u in
          let same : length (encode_utf8_all (chars text)) ≡ n = rw again len in
          elim (cases_lt MAX_NAME_CHARS (length (chars text))) [
            | inl many ↦ rw (utf8_long at text many) (bad_atom levels at tag head text rest bytes (subst (λ (x : List ℕ). F.IsBadAtom tag (head ++ x)) again (is_head.long (chars text) scalars many same)) parts)
            | inr few ↦ rw (utf8_given at text u few) (took_leaf (atom (chars text)) levels tag head text rest bytes (subst (λ (x : List ℕ). Spells (atom (chars text)) (tag ∷ head ++ x)) again (is_head.spelled (chars text) (scalars, few) same)) (omega arith) parts h)
          ]
    ]

says_utf8_atom : (levels at size tag n : ℕ) (head bytes : List ℕ) → IsUtf8Head tag n head → at + 1 + length head + length bytes ≡ size → IsBytes bytes → Says (suc levels) at (tag ∷ head ++ bytes) (utf8_atom_at at n size bytes)
unfolding utf8_atom_at
says_utf8_atom levels at size tag n head bytes is_head len h =
    elim (front_splits n size bytes h) [
      | inl short ↦ rw short.1 (cut_at levels at tag n size head bytes (is_head.wants levels) short.0 len)
      | inr f ↦ rw f.read (says_utf8_text levels at tag n head f.text f.rest bytes is_head f.len f.parts f.rest_bytes)
    ]

pub says_small_atom_utf8 : (levels at size : ℕ) (bytes : List ℕ) → at + 1 + length bytes ≡ size → IsBytes bytes → Says (suc levels) at (119 ∷ bytes) (byte_at size bytes >>= λ n. utf8_atom_at at n.0 size n.1)
says_small_atom_utf8 levels at size [] len h = cut_head levels at 119 1 size [] (F.small_atom_utf8_length (suc levels)) (omega arith) len
says_small_atom_utf8 levels at size (n ∷ rest) len h = says_utf8_atom levels at size 119 n (n ∷ []) rest (small_utf8_head n (omega (arith, h 0))) (omega arith) (IsBytes-rest n rest h)

pub says_atom_utf8 : (levels at size : ℕ) (bytes : List ℕ) → at + 1 + length bytes ≡ size → IsBytes bytes → Says (suc levels) at (118 ∷ bytes) (number_at w16 size bytes >>= λ n. utf8_atom_at at n.0 size n.1)
says_atom_utf8 levels at size bytes len h =
    elim (number_splits w16 (2 ^ 16) size bytes wide16 h) [
      | inl short ↦ rw short.1 (cut_head levels at 118 2 size bytes (F.atom_utf8_length (suc levels)) short.0 len)
      | inr k ↦ rw k.read (subst (λ (bs : List ℕ). Says (suc levels) at (118 ∷ bs) (utf8_atom_at at k.n size k.rest)) (sym k.parts)
          (says_utf8_atom levels at size 118 k.n (to_be_bytes w16 k.n) k.rest (utf8_head k.n k.fits) (omega (arith, ap length k.parts)) k.rest_bytes))
    ]

-- The tag and the bytes `head` tell the length of a text in Latin-1.
record IsLatin1Head (tag n : ℕ) (head : List ℕ) : Type 0 where
  wants : (levels : ℕ) → Wants (suc levels) tag head n
  spelled : (name : List ℕ) → length name ≤ MAX_NAME_CHARS → length name ≡ n → Spells (atom name) (tag ∷ head ++ name)
  long : (name : List ℕ) → MAX_NAME_CHARS < length name → length name ≡ n → F.IsBadAtom tag (head ++ name)

small_latin1_head : (n : ℕ) → n < 2 ^ 8 → IsLatin1Head 115 n (n ∷ [])
small_latin1_head n lt = record {
  wants = λ levels. F.small_atom (suc levels) n;
  spelled = λ name h e. subst (λ (k : ℕ). Spells (atom name) (115 ∷ k ∷ name)) e (S.small_atom name (omega arith));
  long = λ name many e. absurd (omega arith);
}

latin1_head : (n : ℕ) → n < 2 ^ 16 → IsLatin1Head 100 n (to_be_bytes w16 n)
latin1_head n lt = record {
  wants = λ levels. F.atom_ext (suc levels) n lt;
  spelled = λ name h e. subst (λ (k : ℕ). Spells (atom name) (100 ∷ to_be_bytes w16 k ++ name)) e (S.atom_ext name h);
  long = λ name many e. subst (λ (k : ℕ). F.IsBadAtom 100 (to_be_bytes w16 k ++ name)) e (F.long_latin1 name many (omega arith));
}

says_latin1_atom : (levels at size tag n : ℕ) (head bytes : List ℕ) → IsLatin1Head tag n head → at + 1 + length head + length bytes ≡ size → IsBytes bytes → Says (suc levels) at (tag ∷ head ++ bytes) (latin1_atom_at at n size bytes)
unfolding latin1_atom_at
says_latin1_atom levels at size tag n head bytes is_head len h =
    elim (front_splits n size bytes h) [
      | inl short ↦ rw short.1 (cut_at levels at tag n size head bytes (is_head.wants levels) short.0 len)
      | inr f ↦ elim (cases_lt MAX_NAME_CHARS (length f.text)) [
        | inl many ↦ rw (f.read, lt-leb (length f.text) MAX_NAME_CHARS many) (bad_atom levels at tag head f.text f.rest bytes (is_head.long f.text many f.len) f.parts)
        | inr few ↦ rw (f.read, le-leb (length f.text) MAX_NAME_CHARS few) (took_leaf (atom f.text) levels tag head f.text f.rest bytes (is_head.spelled f.text few f.len) (omega arith) f.parts f.rest_bytes)
      ]
    ]

pub says_small_atom : (levels at size : ℕ) (bytes : List ℕ) → at + 1 + length bytes ≡ size → IsBytes bytes → Says (suc levels) at (115 ∷ bytes) (byte_at size bytes >>= λ n. latin1_atom_at at n.0 size n.1)
says_small_atom levels at size [] len h = cut_head levels at 115 1 size [] (F.small_atom_length (suc levels)) (omega arith) len
says_small_atom levels at size (n ∷ rest) len h = says_latin1_atom levels at size 115 n (n ∷ []) rest (small_latin1_head n (omega (arith, h 0))) (omega arith) (IsBytes-rest n rest h)

pub says_atom : (levels at size : ℕ) (bytes : List ℕ) → at + 1 + length bytes ≡ size → IsBytes bytes → Says (suc levels) at (100 ∷ bytes) (number_at w16 size bytes >>= λ n. latin1_atom_at at n.0 size n.1)
says_atom levels at size bytes len h =
    elim (number_splits w16 (2 ^ 16) size bytes wide16 h) [
      | inl short ↦ rw short.1 (cut_head levels at 100 2 size bytes (F.atom_length (suc levels)) short.0 len)
      | inr k ↦ rw k.read (subst (λ (bs : List ℕ). Says (suc levels) at (100 ∷ bs) (latin1_atom_at at k.n size k.rest)) (sym k.parts)
          (says_latin1_atom levels at size 100 k.n (to_be_bytes w16 k.n) k.rest (latin1_head k.n k.fits) (omega (arith, ap length k.parts)) k.rest_bytes))
    ]

-- ---- strings and binaries

deepest_ints : (bytes : List ℕ) → deepest (ints bytes) ≤ 1
deepest_ints [] = omega arith
deepest_ints (b ∷ bytes) = omega (arith, deepest_ints bytes)

deepest_no_ints : (bytes : List ℕ) → length bytes ≡ 0 → deepest (ints bytes) ≤ 0
deepest_no_ints [] e = omega arith
deepest_no_ints (b ∷ bytes) e = absurd (omega arith)

-- the bytes of a string, behind its length
abbrev string_front : ℕ → ℕ → List ℕ → Result (Tree × List ℕ) TermFault
string_front n size bytes = front_at n size bytes >>= λ front. Ok (list (ints front.0), front.1)

abbrev string_behind : ℕ → ℕ → ℕ → ℕ → List ℕ → Result (Tree × List ℕ) TermFault
string_behind levels at size n bytes = cond (levels == 0 && ltb 0 n) (Err (TooDeep at)) (front_at n size bytes) >>= λ front. Ok (list (ints front.0), front.1)

says_string_front : (levels at size n : ℕ) (bytes : List ℕ) → n < 2 ^ 16 → (length bytes < n → Wants (suc levels) 107 (to_be_bytes w16 n) n) → ((text : List ℕ) → length text ≡ n → deepest (ints text) ≤ levels)
    → at + 3 + length bytes ≡ size → IsBytes bytes → Says (suc levels) at (107 ∷ to_be_bytes w16 n ++ bytes) (string_front n size bytes)
says_string_front levels at size n bytes lt wants shallow len h =
    elim (front_splits n size bytes h) [
      | inl short ↦ rw short.1 (cut_at levels at 107 n size (to_be_bytes w16 n) bytes (wants short.0) short.0 (omega arith))
      | inr f ↦
          let spelled : Spells (list (ints f.text)) (107 ∷ to_be_bytes w16 n ++ f.text) = subst (λ (k : ℕ). Spells (list (ints f.text)) (107 ∷ to_be_bytes w16 k ++ f.text)) f.len (S.string f.text (omega (arith, f.len))) in
          rw f.read (took_leaf (list (ints f.text)) levels 107 (to_be_bytes w16 n) f.text f.rest bytes spelled (omega (arith, shallow f.text f.len)) f.parts f.rest_bytes)
    ]

says_string_behind : (levels at size n : ℕ) (bytes : List ℕ) → n < 2 ^ 16 → at + 3 + length bytes ≡ size → IsBytes bytes → Says (suc levels) at (107 ∷ to_be_bytes w16 n ++ bytes) (string_behind levels at size n bytes)
says_string_behind zero at size n bytes lt len h =
    elim (cases_lt 0 n) [
      | inl some ↦ rw (lt-ltb 0 n some) (F.deep_string at n bytes some lt)
      | inr le ↦ rw (le-ltb 0 n le) (says_string_front 0 at size n bytes lt (λ short. absurd (omega arith)) (λ text e. deepest_no_ints text (omega arith)) len h)
    ]
says_string_behind (suc levels) at size n bytes lt len h =
    let deep : (suc levels == 0) ≡ false = ne_eqb (suc levels) 0 (λ e. omega arith) in
    rw deep (says_string_front (suc levels) at size n bytes lt (λ short. F.string levels n lt) (λ text e. omega (arith, deepest_ints text)) len h)

pub says_string : (levels at size : ℕ) (bytes : List ℕ) → at + 1 + length bytes ≡ size → IsBytes bytes → Says (suc levels) at (107 ∷ bytes) (string_at levels at size bytes)
unfolding string_at
says_string levels at size bytes len h =
    elim (number_splits w16 (2 ^ 16) size bytes wide16 h) [
      | inl short ↦ rw short.1 (cut_head levels at 107 2 size bytes (F.string_length (suc levels)) short.0 len)
      | inr k ↦ rw k.read (subst (λ (bs : List ℕ). Says (suc levels) at (107 ∷ bs) (string_behind levels at size k.n k.rest)) (sym k.parts) (says_string_behind levels at size k.n k.rest k.fits (omega (arith, ap length k.parts)) k.rest_bytes))
    ]

-- Behind a number of items or bytes: what reading says where the number is there, and few enough.
says_counted : (levels at size tag : ℕ) (bytes : List ℕ) (next : ℕ × List ℕ → Result (Tree × List ℕ) TermFault) → Wants (suc levels) tag [] 4 → ((n : ℕ) → MAX_ITEMS < n → n < 2 ^ 32 → F.TellsTooMany tag (to_be_bytes w32 n))
    → at + 1 + length bytes ≡ size → IsBytes bytes
    → ((n : ℕ) (rest : List ℕ) → n ≤ MAX_ITEMS → at + 5 + length rest ≡ size → IsBytes rest → Says (suc levels) at (tag ∷ to_be_bytes w32 n ++ rest) (next (n, rest)))
    → Says (suc levels) at (tag ∷ bytes) (count_at at size bytes >>= next)
says_counted levels at size tag bytes next wants many len h says =
    elim (number_splits w32 (2 ^ 32) size bytes wide32 h) [
      | inl short ↦ rw short.1 (cut_head levels at tag 4 size bytes wants short.0 len)
      | inr k ↦ elim (cases_lt MAX_ITEMS k.n) [
        | inl lt ↦ rw (k.read, lt-ltb MAX_ITEMS k.n lt) (subst (λ (bs : List ℕ). FaultOf (suc levels) at (tag ∷ bs) (TooBig at)) (sym k.parts) (F.too_many levels at tag (to_be_bytes w32 k.n) k.rest (many k.n lt k.fits)))
        | inr le ↦ rw (k.read, le-ltb MAX_ITEMS k.n le) (subst (λ (bs : List ℕ). Says (suc levels) at (tag ∷ bs) (next (k.n, k.rest))) (sym k.parts) (says k.n k.rest le (omega (arith, ap length k.parts)) k.rest_bytes))
      ]
    ]

says_octets : (levels at size n : ℕ) (bytes : List ℕ) → n ≤ MAX_ITEMS → at + 5 + length bytes ≡ size → IsBytes bytes → Says (suc levels) at (109 ∷ to_be_bytes w32 n ++ bytes) (front_at n size bytes >>= λ front. Ok (bin front.0, front.1))
says_octets levels at size n bytes le len h =
    elim (front_splits n size bytes h) [
      | inl short ↦ rw short.1 (cut_at levels at 109 n size (to_be_bytes w32 n) bytes (F.binary (suc levels) n le) short.0 (omega arith))
      | inr f ↦
          let spelled : Spells (bin f.text) (109 ∷ to_be_bytes w32 n ++ f.text) = subst (λ (k : ℕ). Spells (bin f.text) (109 ∷ to_be_bytes w32 k ++ f.text)) f.len (S.binary f.text (omega (arith, f.len))) in
          rw f.read (took_leaf (bin f.text) levels 109 (to_be_bytes w32 n) f.text f.rest bytes spelled (omega arith) f.parts f.rest_bytes)
    ]

pub says_binary : (levels at size : ℕ) (bytes : List ℕ) → at + 1 + length bytes ≡ size → IsBytes bytes → Says (suc levels) at (109 ∷ bytes) (binary_at at size bytes)
unfolding binary_at
says_binary levels at size bytes len h =
    says_counted levels at size 109 bytes (λ n. front_at n.0 size n.1 >>= λ front. Ok (bin front.0, front.1)) (F.binary_length (suc levels)) (λ n. F.binary n) len h (λ n rest. says_octets levels at size n rest)

-- ---- items

says_next : (levels at size n : ℕ) (bytes : List ℕ) (t : Tree) (rest : List ℕ) (read : Result (List Tree × List ℕ) TermFault) (took : Took t levels bytes rest)
    → SaysAll levels (at + length took.text) n rest read → SaysAll levels at (suc n) bytes (read >>= λ others. Ok (t ∷ others.0, others.1))
says_next levels at size n bytes t rest (Ok x) took all =
    record {
      text = took.text ++ all.text;
      parts = took.parts ∙ ap (λ (y : List ℕ). took.text ++ y) all.parts ∙ sym (append_assoc took.text all.text x.1);
      spelled = S.one_more t (forest x.0) took.text all.text took.spelled all.spelled;
      shallow = omega (arith, took.shallow, all.shallow);
      counted = ap suc all.counted;
      rest_bytes = all.rest_bytes;
    }
says_next levels at size n bytes t rest (Err fault) took all =
    let place : at + length took.text + length all.text ≡ at + length (took.text ++ all.text) = omega (arith, length-append took.text all.text) in
    record {
      front = more t all.front;
      text = took.text ++ all.text;
      rest = all.rest;
      parts = took.parts ∙ ap (λ (y : List ℕ). took.text ++ y) all.parts ∙ sym (append_assoc took.text all.text all.rest);
      spelled = S.one_more t all.front took.text all.text took.spelled all.spelled;
      shallow = omega (arith, took.shallow, all.shallow);
      fewer = omega (arith, all.fewer);
      faulty = subst (λ (k : ℕ). FaultOf levels k all.rest fault) place all.faulty;
    }

says_first : (levels at size n : ℕ) (bytes : List ℕ) (item : List ℕ → Result (Tree × List ℕ) TermFault) (first : Result (Tree × List ℕ) TermFault) → at + length bytes ≡ size → Says levels at bytes first
    → ((at : ℕ) (bytes : List ℕ) → at + length bytes ≡ size → IsBytes bytes → SaysAll levels at n bytes (items_at item n bytes))
    → SaysAll levels at (suc n) bytes (first >>= λ t. items_at item n t.1 >>= λ others. Ok (t.0 ∷ others.0, others.1))
says_first levels at size n bytes item (Ok x) len took rec =
    let behind : at + length took.text + length x.1 ≡ size = omega (arith, len, ap length took.parts, length-append took.text x.1) in
    says_next levels at size n bytes x.0 x.1 (items_at item n x.1) took (rec (at + length took.text) x.1 behind took.rest_bytes)
says_first levels at size n bytes item (Err fault) len faulty rec =
    record { front = none; text = []; rest = bytes; parts = refl; spelled = S.nothing; shallow = omega arith; fewer = omega arith; faulty = subst (λ (k : ℕ). FaultOf levels k bytes fault) (omega arith) faulty }

pub says_items : (levels size : ℕ) (item : List ℕ → Result (Tree × List ℕ) TermFault) → IsReader size levels item → (n at : ℕ) (bytes : List ℕ) → at + length bytes ≡ size → IsBytes bytes → SaysAll levels at n bytes (items_at item n bytes)
unfolding items_at
says_items levels size item reads zero at bytes len h = record { text = []; parts = refl; spelled = S.nothing; shallow = omega arith; counted = refl; rest_bytes = h }
says_items levels size item reads (suc n) at bytes len h =
    says_first levels at size n bytes item (item bytes) len (reads at bytes len h) (λ at' bytes'. says_items levels size item reads n at' bytes')

-- a fault among the items behind a head
in_items : (levels at tag n size : ℕ) (head bytes : List ℕ) (fault : TermFault) → Tells tag head n → Stopped levels (at + 1 + length head) n bytes fault → FaultOf (suc levels) at (tag ∷ head ++ bytes) fault
in_items levels at tag n size head bytes fault tells s =
    subst (λ (bs : List ℕ). FaultOf (suc levels) at (tag ∷ head ++ bs) fault) (sym s.parts)
    (F.in_item levels at tag n head s.text s.rest s.front fault tells s.spelled s.shallow s.fewer s.faulty)

-- items that were read, as a forest
abbrev as_forest : List Tree × List ℕ → Result (Forest × List ℕ) TermFault
as_forest x = Ok (forest x.0, x.1)

-- ---- tuples

tuple_made : (levels at tag n size : ℕ) (head bytes : List ℕ) (read : Result (List Tree × List ℕ) TermFault) → Tells tag head n → ((ts : Forest) (text : List ℕ) → count ts ≡ n → SpellAll ts text → Spells (tuple ts) (tag ∷ head ++ text))
    → SaysAll levels (at + 1 + length head) n bytes read → Says (suc levels) at (tag ∷ head ++ bytes) ((read >>= as_forest) >>= λ items. Ok (tuple items.0, items.1))
tuple_made levels at tag n size head bytes (Ok x) tells spelled all =
    took_leaf (tuple (forest x.0)) levels tag head all.text x.1 bytes (spelled (forest x.0) all.text all.counted all.spelled) (omega (arith, all.shallow)) all.parts all.rest_bytes
tuple_made levels at tag n size head bytes (Err fault) tells spelled s = in_items levels at tag n size head bytes fault tells s

says_tuple : (levels at tag n size : ℕ) (head bytes : List ℕ) (item : List ℕ → Result (Tree × List ℕ) TermFault) → IsReader size levels item → Tells tag head n → ((ts : Forest) (text : List ℕ) → count ts ≡ n → SpellAll ts text → Spells (tuple ts) (tag ∷ head ++ text))
    → at + 1 + length head + length bytes ≡ size → IsBytes bytes → Says (suc levels) at (tag ∷ head ++ bytes) (tuple_at item n bytes)
unfolding tuple_at forest_at
says_tuple levels at tag n size head bytes item reads tells spelled len h =
    tuple_made levels at tag n size head bytes (items_at item n bytes) tells spelled (says_items levels size item reads n (at + 1 + length head) bytes len h)

pub says_small_tuple : (levels at size : ℕ) (bytes : List ℕ) (item : List ℕ → Result (Tree × List ℕ) TermFault) → IsReader size levels item → at + 1 + length bytes ≡ size → IsBytes bytes → Says (suc levels) at (104 ∷ bytes) (byte_at size bytes >>= λ n. tuple_at item n.0 n.1)
says_small_tuple levels at size [] item reads len h = cut_head levels at 104 1 size [] (F.small_arity (suc levels)) (omega arith) len
says_small_tuple levels at size (n ∷ rest) item reads len h =
    let few : n < 2 ^ 8 = omega (arith, h 0) in
    let spelled : (ts : Forest) (text : List ℕ) → count ts ≡ n → SpellAll ts text → Spells (tuple ts) (104 ∷ n ∷ text) =
    λ ts text e all. subst (λ (k : ℕ). Spells (tuple ts) (104 ∷ k ∷ text)) e (S.small_tuple ts text (omega arith) all) in
    says_tuple levels at 104 n size (n ∷ []) rest item reads (F.small_tuple n) spelled (omega arith) (IsBytes-rest n rest h)

pub says_large_tuple : (levels at size : ℕ) (bytes : List ℕ) (item : List ℕ → Result (Tree × List ℕ) TermFault) → IsReader size levels item → at + 1 + length bytes ≡ size → IsBytes bytes → Says (suc levels) at (105 ∷ bytes) (count_at at size bytes >>= λ n. tuple_at item n.0 n.1)
says_large_tuple levels at size bytes item reads len h =
    says_counted levels at size 105 bytes (λ n. tuple_at item n.0 n.1) (F.large_arity (suc levels)) (λ n. F.large_tuple n) len h
    (λ n rest le len' h'. says_tuple levels at 105 n size (to_be_bytes w32 n) rest item reads (F.large_tuple n le)
    (λ ts text e all. subst (λ (k : ℕ). Spells (tuple ts) (105 ∷ to_be_bytes w32 k ++ text)) e (S.large_tuple ts text (omega arith) all)) (omega arith) h')

-- ---- lists

says_tail : (levels at n size : ℕ) (ts : Forest) (bytes text rest : List ℕ) → n ≤ MAX_ITEMS → count ts ≡ n → SpellAll ts text → deepest ts ≤ levels → bytes ≡ text ++ rest → at + 5 + length bytes ≡ size → IsBytes rest
    → Says (suc levels) at (108 ∷ to_be_bytes w32 n ++ bytes) (tail_at size rest >>= λ tail. Ok (list ts, tail.1))
says_tail levels at n size ts bytes text [] le counted spelled shallow parts len h =
    let few : count ts ≤ MAX_ITEMS = omega arith in
    let place : at + 5 + length text ≡ size = omega (arith, ap length parts, length-append text []) in
    let whole : bytes ≡ text = parts ∙ append-nil text in
    let one : FaultOf (suc levels) at (108 ∷ to_be_bytes w32 (count ts) ++ text) (Cut size) = subst (λ (k : ℕ). FaultOf (suc levels) at (108 ∷ to_be_bytes w32 (count ts) ++ text) (Cut k)) place (F.no_tail levels at ts text few spelled shallow) in
    rw (whole, ← counted) one
says_tail levels at n size ts bytes text (tail ∷ rest) le counted spelled shallow parts len h =
    let few : count ts ≤ MAX_ITEMS = omega arith in
    elim (cases_Bool (tail == 106)) [
      | inl e ↦
          let is_nil : tail ≡ 106 = eqb-true tail 106 e in
          let whole : bytes ≡ (text ++ 106 ∷ []) ++ rest = parts ∙ ap (λ (k : ℕ). text ++ (k ∷ rest)) is_nil ∙ sym (append_assoc text (106 ∷ []) rest) in
          let list_spelled : Spells (list ts) (108 ∷ to_be_bytes w32 n ++ (text ++ 106 ∷ [])) = subst (λ (k : ℕ). Spells (list ts) (108 ∷ to_be_bytes w32 k ++ (text ++ 106 ∷ []))) counted (S.list_ext ts text few spelled) in
          rw e (took_leaf (list ts) levels 108 (to_be_bytes w32 n) (text ++ 106 ∷ []) rest bytes list_spelled (omega arith) whole (IsBytes-rest tail rest h))
      | inr e ↦
          let place : at + 5 + length text ≡ size - length (tail ∷ rest) = omega (arith, ap length parts, length-append text (tail ∷ rest)) in
          let one : FaultOf (suc levels) at (108 ∷ to_be_bytes w32 (count ts) ++ (text ++ tail ∷ rest)) (NotServed (size - length (tail ∷ rest)) tail) =
          subst (λ (k : ℕ). FaultOf (suc levels) at (108 ∷ to_be_bytes w32 (count ts) ++ (text ++ tail ∷ rest)) (NotServed k tail)) place (F.other_tail levels at tail ts text rest few spelled shallow (eqb-false tail 106 e)) in
          rw (e, parts, ← counted) one
    ]

list_made : (levels at n size : ℕ) (bytes : List ℕ) (read : Result (List Tree × List ℕ) TermFault) → n ≤ MAX_ITEMS → at + 5 + length bytes ≡ size → SaysAll levels (at + 1 + 4) n bytes read
    → Says (suc levels) at (108 ∷ to_be_bytes w32 n ++ bytes) ((read >>= as_forest) >>= λ items. tail_at size items.1 >>= λ tail. Ok (list items.0, tail.1))
list_made levels at n size bytes (Ok x) le len all = says_tail levels at n size (forest x.0) bytes all.text x.1 le all.counted all.spelled all.shallow all.parts len all.rest_bytes
list_made levels at n size bytes (Err fault) le len s = in_items levels at 108 n size (to_be_bytes w32 n) bytes fault (F.list_ext n le) s

pub says_list : (levels at size : ℕ) (bytes : List ℕ) (item : List ℕ → Result (Tree × List ℕ) TermFault) → IsReader size levels item → at + 1 + length bytes ≡ size → IsBytes bytes → Says (suc levels) at (108 ∷ bytes) (list_at item at size bytes)
unfolding list_at forest_at
says_list levels at size bytes item reads len h =
    says_counted levels at size 108 bytes (λ n. (items_at item n.0 n.1 >>= as_forest) >>= λ items. tail_at size items.1 >>= λ tail. Ok (list items.0, tail.1)) (F.list_length (suc levels)) (λ n. F.list_ext n) len h
    (λ n rest le len' h'. list_made levels at n size rest (items_at item n rest) le len' (says_items levels size item reads n (at + 1 + 4) rest (omega arith) h'))

-- The laws of a reader: what it reads stands in front of the bytes, and what stands in front is read. Readers are put together with their laws.
use Rattle.std.proofs.Common.{◌≡◌, ℕ, ◌+◌, Bool, true, false, cond, List, [], ◌∷◌, ◌++◌, length, take, Option, Some, None, refl, sym, ap, subst, ◌∙◌, append_assoc, arith, inl, inr}
use Rattle.std.specs.Prelude.{◌==◌, ◌&&◌, not}
use Rattle.std.specs.List.{list_all, prefix_len, take_while}
use Rattle.std.specs.Str.{bytes_eq}
use Rattle.std.proofs.lemmas.Bool.{cases_Bool, and_parts, not-true, eqb-true}
use Rattle.std.proofs.lemmas.Option.{option_and_then_some, some_pair_parts, cond_some}
use Rattle.std.proofs.lemmas.List.{take_at, drop_at, take-append-drop}
use Rattle.std.proofs.lemmas.List.Folds.{list_all-append}
use Rattle.std.proofs.lemmas.Slice.Eq.{bytes_eq-Decides}
use Rattle.journal_text.specs.Words.{is_line_byte, is_word_byte}
use Rattle.journal_text.specs.Reading.{◌>>=◌, after, behind, field_at, by_word, spaced_at, pair_at, made}

pub both : (a b : Bool) → a ≡ true → b ≡ true → (a && b) ≡ true
both true true p q = refl
both true false p q = q
both false b p q = p

-- what passes in front, and what stands behind it
pub front_parts : (p : ℕ → Bool) (bytes : List ℕ) → bytes ≡ take_while p bytes ++ behind p bytes
front_parts p bytes = sym (take-append-drop (prefix_len p bytes) bytes)

-- the first byte is this one
pub after_is : (byte : ℕ) (bytes rest : List ℕ) → after byte bytes ≡ Some rest → bytes ≡ byte ∷ rest
after_is byte [] rest h = absurd cc
after_is byte (x ∷ xs) rest h =
    let p = cond_some (x == byte) xs rest h in
    rw (eqb-true x byte p.0, p.1) refl

-- ---- words

-- what may stand behind a word: nothing, or a byte of no word
abbrev pub ends : List ℕ → Bool
ends [] = true
ends (byte ∷ rest) = not (is_word_byte byte)

word_len : (word rest : List ℕ) → list_all is_word_byte word ≡ true → ends rest ≡ true → prefix_len is_word_byte (word ++ rest) ≡ length word
word_len [] [] all e = refl
word_len [] (byte ∷ rest) all e = rw (not-true (is_word_byte byte) e) refl
word_len (byte ∷ word) rest all e =
    let h = and_parts (is_word_byte byte) (list_all is_word_byte word) all in
    rw (h.0, word_len word rest h.1 e) (omega arith)

pub word_front : (word rest : List ℕ) → list_all is_word_byte word ≡ true → ends rest ≡ true → take_while is_word_byte (word ++ rest) ≡ word
word_front word rest all e = rw (word_len word rest all e) (take_at word rest (length word) refl)

pub word_behind : (word rest : List ℕ) → list_all is_word_byte word ≡ true → ends rest ≡ true → behind is_word_byte (word ++ rest) ≡ rest
word_behind word rest all e = rw (word_len word rest all e) (drop_at word rest (length word) refl)

-- a byte of a word is a byte of a line
line_byte : (byte : ℕ) → is_word_byte byte ≡ true → is_line_byte byte ≡ true
line_byte byte e =
    elim (cases_Bool (byte == 10)) [
      | inl ten ↦ absurd (let is : byte ≡ 10 = eqb-true byte 10 ten in let h = rw is at e in cc)
      | inr other ↦ rw other refl
    ]

pub line_bytes : (word : List ℕ) → list_all is_word_byte word ≡ true → list_all is_line_byte word ≡ true
line_bytes [] all = refl
line_bytes (byte ∷ word) all =
    let h = and_parts (is_word_byte byte) (list_all is_word_byte word) all in
    both (is_line_byte byte) (list_all is_line_byte word) (line_byte byte h.0) (line_bytes word h.1)

pub line_append : (front rest : List ℕ) → list_all is_line_byte front ≡ true → list_all is_line_byte rest ≡ true → list_all is_line_byte (front ++ rest) ≡ true
line_append front rest p q = list_all-append is_line_byte front rest ∙ both (list_all is_line_byte front) (list_all is_line_byte rest) p q

-- ---- the laws

-- the text of a value in its range stands in front, with the rest behind it
pub record Front {A : Type 0} (text : A → List ℕ) (fits : A → Bool) (x : A) (bytes rest : List ℕ) : Type 0 where
  pub parts : bytes ≡ text x ++ rest
  pub within : fits x ≡ true
  pub line : list_all is_line_byte (text x) ≡ true

pub record Law {A : Type 0} (text : A → List ℕ) (fits : A → Bool) (at : List ℕ → Option (A × List ℕ)) : Type 0 where
  pub found : (bytes : List ℕ) (x : A) (rest : List ℕ) → at bytes ≡ Some (x, rest) → Front text fits x bytes rest
  pub again : (x : A) (rest : List ℕ) → fits x ≡ true → ends rest ≡ true → at (text x ++ rest) ≡ Some (x, rest)

-- a word is the text of a value in its range
pub record Exact {A : Type 0} (text : A → List ℕ) (fits : A → Bool) (of : List ℕ → Option A) : Type 0 where
  pub found : (word : List ℕ) (x : A) → of word ≡ Some x → (word ≡ text x) × (fits x ≡ true)
  pub again : (x : A) → fits x ≡ true → of (text x) ≡ Some x
  pub word : (x : A) → fits x ≡ true → list_all is_word_byte (text x) ≡ true

-- ---- one word

field_found : {A : Type 0} (text : A → List ℕ) (fits : A → Bool) (of : List ℕ → Option A) → Exact text fits of → (bytes : List ℕ) (x : A) (rest : List ℕ) → field_at of bytes ≡ Some (x, rest) → Front text fits x bytes rest
field_found {A = A} text fits of exact bytes x rest h =
    option_and_then_some _ (of (take_while is_word_byte bytes)) (x, rest) h (λ y first made.
    let same = some_pair_parts y x (behind is_word_byte bytes) rest made in
    let found = exact.found (take_while is_word_byte bytes) y first in
    let line = line_bytes (text y) (exact.word y found.1) in
    let parts : bytes ≡ text y ++ behind is_word_byte bytes = front_parts is_word_byte bytes ∙ ap (λ (word : List ℕ). word ++ behind is_word_byte bytes) found.0 in
    let made : Front text fits y bytes (behind is_word_byte bytes) = record { parts = parts; within = found.1; line = line } in
    subst (λ (p : A × List ℕ). Front text fits p.0 bytes p.1) (ap (λ (z : A). (z, behind is_word_byte bytes)) same.0 ∙ ap (λ (zs : List ℕ). (x, zs)) same.1) made)

pub field_law : {A : Type 0} (text : A → List ℕ) (fits : A → Bool) (of : List ℕ → Option A) → Exact text fits of → Law text fits (field_at of)
field_law text fits of exact = record {
  found = field_found text fits of exact;
  again = λ x rest h e. rw (word_front (text x) rest (exact.word x h) e, word_behind (text x) rest (exact.word x h) e, exact.again x h) refl;
}

-- ---- behind a space, and pairs

pub spaced_found : {A : Type 0} (text : A → List ℕ) (fits : A → Bool) (at : List ℕ → Option (A × List ℕ)) → Law text fits at → (bytes : List ℕ) (x : A) (rest : List ℕ) → spaced_at at bytes ≡ Some (x, rest)
    → (bytes ≡ 32 ∷ text x ++ rest) × (fits x ≡ true) × (list_all is_line_byte (text x) ≡ true)
spaced_found text fits at law bytes x rest h =
    option_and_then_some _ (after 32 bytes) (x, rest) h (λ inner first others.
    let front = law.found inner x rest others in
    (after_is 32 bytes inner first ∙ ap (λ (xs : List ℕ). 32 ∷ xs) front.parts, front.within, front.line))

-- what was made of a value
pub made_found : {A B : Type 0} (of : A → B) (read : Option (A × List ℕ)) (y : B) (rest : List ℕ) → made of read ≡ Some (y, rest) → (x : A) × (read ≡ Some (x, rest)) × (of x ≡ y)
made_found of (Some (x, behind)) y rest h =
    let same = some_pair_parts (of x) y behind rest h in
    (x, ap (λ (zs : List ℕ). Some (x, zs)) same.1, same.0)
made_found of None y rest h = absurd cc

abbrev pub pair_text : {A B : Type 0} → (A → List ℕ) → (B → List ℕ) → A × B → List ℕ
pair_text first second p = first p.0 ++ 32 ∷ second p.1

abbrev pub pair_fits : {A B : Type 0} → (A → Bool) → (B → Bool) → A × B → Bool
pair_fits first second p = first p.0 && second p.1

pair_found : {A B : Type 0} (ta : A → List ℕ) (fa : A → Bool) (aa : List ℕ → Option (A × List ℕ)) (tb : B → List ℕ) (fb : B → Bool) (ab : List ℕ → Option (B × List ℕ)) → Law ta fa aa → Law tb fb ab
    → (bytes : List ℕ) (x : A × B) (rest : List ℕ) → pair_at aa ab bytes ≡ Some (x, rest) → Front (pair_text ta tb) (pair_fits fa fb) x bytes rest
pair_found {A = A} {B = B} ta fa aa tb fb ab la lb bytes x rest h =
    option_and_then_some _ (aa bytes) (x, rest) h (λ a first others. option_and_then_some _ (spaced_at ab a.1) (x, rest) others (λ b second made.
    let same = some_pair_parts (a.0, b.0) x b.1 rest made in
    let p = la.found bytes a.0 a.1 first in
    let q = spaced_found tb fb ab lb a.1 b.0 b.1 second in
    let parts : bytes ≡ pair_text ta tb (a.0, b.0) ++ b.1 = p.parts ∙ ap (λ (xs : List ℕ). ta a.0 ++ xs) q.0 ∙ sym (append_assoc (ta a.0) (32 ∷ tb b.0) b.1) in
    let made : Front (pair_text ta tb) (pair_fits fa fb) (a.0, b.0) bytes b.1 = record { parts = parts; within = both (fa a.0) (fb b.0) p.within q.1; line = line_append (ta a.0) (32 ∷ tb b.0) p.line q.2 } in
    subst (λ (z : (A × B) × List ℕ). Front (pair_text ta tb) (pair_fits fa fb) z.0 bytes z.1) (ap (λ (z : A × B). (z, b.1)) same.0 ∙ ap (λ (zs : List ℕ). (x, zs)) same.1) made))

pub pair_law : {A B : Type 0} (ta : A → List ℕ) (fa : A → Bool) (aa : List ℕ → Option (A × List ℕ)) (tb : B → List ℕ) (fb : B → Bool) (ab : List ℕ → Option (B × List ℕ)) → Law ta fa aa → Law tb fb ab
    → Law (pair_text ta tb) (pair_fits fa fb) (pair_at aa ab)
pair_law {A = A} {B = B} ta fa aa tb fb ab la lb = record {
  found = pair_found ta fa aa tb fb ab la lb;
  again = λ x rest h e.
      let fits = and_parts (fa x.0) (fb x.1) h in
      let inner : List ℕ = tb x.1 ++ rest in
      ap (pair_at aa ab) (append_assoc (ta x.0) (32 ∷ tb x.1) rest)
      ∙ ap (λ (o : Option (A × List ℕ)). o >>= λ a. (spaced_at ab a.1 >>= λ b. Some ((a.0, b.0), b.1))) (la.again x.0 (32 ∷ inner) fits.0 refl)
      ∙ ap (λ (o : Option (B × List ℕ)). o >>= λ b. Some ((x.0, b.0), b.1)) (lb.again x.1 rest fits.1 e);
}

-- ---- by the word in front

-- what is read behind this word
pub record Body {A : Type 0} (text : A → List ℕ) (fits : A → Bool) (keyword : List ℕ) (body : List ℕ → Option (A × List ℕ)) : Type 0 where
  pub found : (rest : List ℕ) (x : A) (out : List ℕ) → body rest ≡ Some (x, out) → Front text fits x (keyword ++ rest) out

pub record By {A : Type 0} (text : A → List ℕ) (fits : A → Bool) (by : List ℕ → List ℕ → Option (A × List ℕ)) : Type 0 where
  pub found : (word rest : List ℕ) (x : A) (out : List ℕ) → by word rest ≡ Some (x, out) → Front text fits x (word ++ rest) out

pub nothing : {A : Type 0} (text : A → List ℕ) (fits : A → Bool) → By text fits (λ word rest. None)
nothing text fits = record { found = λ word rest x out h. absurd cc }

tag_found : {A : Type 0} (text : A → List ℕ) (fits : A → Bool) (keyword : List ℕ) (body : List ℕ → Option (A × List ℕ)) (others : List ℕ → List ℕ → Option (A × List ℕ)) → Body text fits keyword body → By text fits others
    → (word rest : List ℕ) (x : A) (out : List ℕ) → cond (bytes_eq word keyword) (body rest) (others word rest) ≡ Some (x, out) → Front text fits x (word ++ rest) out
tag_found text fits keyword body others b o word rest x out h =
    elim (cases_Bool (bytes_eq word keyword)) [
      | inl e ↦
          let is : word ≡ keyword = (bytes_eq-Decides word keyword).0 e in
          subst (λ (w : List ℕ). Front text fits x (w ++ rest) out) (sym is) (b.found rest x out (rw e at h))
      | inr e ↦ o.found word rest x out (rw e at h)
    ]

pub tag : {A : Type 0} (text : A → List ℕ) (fits : A → Bool) (keyword : List ℕ) (body : List ℕ → Option (A × List ℕ)) (others : List ℕ → List ℕ → Option (A × List ℕ)) → Body text fits keyword body → By text fits others
    → By text fits (λ word rest. cond (bytes_eq word keyword) (body rest) (others word rest))
tag text fits keyword body others b o = record { found = tag_found text fits keyword body others b o }

-- nothing stands behind the word
pub bare : {A : Type 0} (text : A → List ℕ) (fits : A → Bool) (x : A) → fits x ≡ true → list_all is_line_byte (text x) ≡ true → Body text fits (text x) (λ rest. Some (x, rest))
bare {A = A} text fits x h line = record {
  found = λ rest y out e.
      let same = some_pair_parts x y rest out e in
      let made : Front text fits x (text x ++ rest) rest = record { parts = refl; within = h; line = line } in
      subst (λ (z : A × List ℕ). Front text fits z.0 (text x ++ rest) z.1) (ap (λ (z : A). (z, rest)) same.0 ∙ ap (λ (zs : List ℕ). (y, zs)) same.1) made;
}

-- behind the word and a space stands a part, of which the value is made
pub part : {A B : Type 0} (text : B → List ℕ) (fits : B → Bool) (keyword : List ℕ) (ta : A → List ℕ) (fa : A → Bool) (at : List ℕ → Option (A × List ℕ)) (of : A → B) → Law ta fa at
    → list_all is_line_byte keyword ≡ true → ((x : A) → text (of x) ≡ keyword ++ 32 ∷ ta x) → ((x : A) → fa x ≡ true → fits (of x) ≡ true) → Body text fits keyword (λ rest. made of (spaced_at at rest))
part {B = B} text fits keyword ta fa at of law line is within = record {
  found = λ rest y out e.
      let m = made_found of (spaced_at at rest) y out e in
      let front = spaced_found ta fa at law rest m.0 out m.1 in
      let parts : keyword ++ rest ≡ text (of m.0) ++ out =
      ap (λ (xs : List ℕ). keyword ++ xs) front.0 ∙ sym (append_assoc keyword (32 ∷ ta m.0) out) ∙ ap (λ (xs : List ℕ). xs ++ out) (sym (is m.0)) in
      let whole : list_all is_line_byte (text (of m.0)) ≡ true = ap (list_all is_line_byte) (is m.0) ∙ line_append keyword (32 ∷ ta m.0) line front.2 in
      let made : Front text fits (of m.0) (keyword ++ rest) out = record { parts = parts; within = within m.0 front.1; line = whole } in
      subst (λ (z : B). Front text fits z (keyword ++ rest) out) m.2 made;
}

-- behind the word and a space stands what is the value itself
pub own_part : {A : Type 0} (text : A → List ℕ) (fits : A → Bool) (keyword : List ℕ) (ta : A → List ℕ) (fa : A → Bool) (at : List ℕ → Option (A × List ℕ)) → Law ta fa at
    → list_all is_line_byte keyword ≡ true → ((x : A) → fa x ≡ true → (text x ≡ keyword ++ 32 ∷ ta x) × (fits x ≡ true)) → Body text fits keyword (λ rest. spaced_at at rest)
own_part text fits keyword ta fa at law line is = record {
  found = λ rest x out e.
      let front = spaced_found ta fa at law rest x out e in
      let i = is x front.1 in
      record {
        parts = ap (λ (xs : List ℕ). keyword ++ xs) front.0 ∙ sym (append_assoc keyword (32 ∷ ta x) out) ∙ ap (λ (xs : List ℕ). xs ++ out) (sym i.0);
        within = i.1;
        line = ap (list_all is_line_byte) i.0 ∙ line_append keyword (32 ∷ ta x) line front.2;
      };
}

-- a part is read again
pub part_again : {A B : Type 0} (ta : A → List ℕ) (fa : A → Bool) (at : List ℕ → Option (A × List ℕ)) (of : A → B) → Law ta fa at
    → (x : A) (rest : List ℕ) → fa x ≡ true → ends rest ≡ true → made of (spaced_at at (32 ∷ (ta x ++ rest))) ≡ Some (of x, rest)
part_again ta fa at of law x rest h e = ap (made of) (law.again x rest h e)

-- reading by a word that stands in front
pub word_then : {B : Type 0} (by : List ℕ → List ℕ → B) (word rest : List ℕ) → list_all is_word_byte word ≡ true → ends rest ≡ true
    → by (take_while is_word_byte (word ++ rest)) (behind is_word_byte (word ++ rest)) ≡ by word rest
word_then by word rest all e = ap (λ (w : List ℕ). by w (behind is_word_byte (word ++ rest))) (word_front word rest all e) ∙ ap (by word) (word_behind word rest all e)

pub by_word_law : {A : Type 0} (text : A → List ℕ) (fits : A → Bool) (by : List ℕ → List ℕ → Option (A × List ℕ)) → By text fits by
    → ((x : A) (rest : List ℕ) → fits x ≡ true → ends rest ≡ true → by_word by (text x ++ rest) ≡ Some (x, rest)) → Law text fits (by_word by)
by_word_law text fits by b again = record {
  found = λ bytes x rest h. subst (λ (w : List ℕ). Front text fits x w rest) (sym (front_parts is_word_byte bytes)) (b.found (take_while is_word_byte bytes) (behind is_word_byte bytes) x rest h);
  again = again;
}

-- the law of other values that have the same texts
pub map_law : {A B : Type 0} (ta : A → List ℕ) (fa : A → Bool) (at : List ℕ → Option (A × List ℕ)) (text : B → List ℕ) (fits : B → Bool) (of : A → B) (back : B → A) → Law ta fa at
    → ((x : A) → text (of x) ≡ ta x) → ((x : A) → fa x ≡ true → fits (of x) ≡ true)
    → ((y : B) → fits y ≡ true → (fa (back y) ≡ true) × (of (back y) ≡ y)) → Law text fits (λ bytes. made of (at bytes))
map_law {B = B} ta fa at text fits of back law is within from = record {
  found = λ bytes y rest e.
      let m = made_found of (at bytes) y rest e in
      let front = law.found bytes m.0 rest m.1 in
      let made : Front text fits (of m.0) bytes rest = record { parts = front.parts ∙ ap (λ (xs : List ℕ). xs ++ rest) (sym (is m.0)); within = within m.0 front.within; line = ap (list_all is_line_byte) (is m.0) ∙ front.line } in
      subst (λ (z : B). Front text fits z bytes rest) m.2 made;
  again = λ y rest h e.
      let b = from y h in
      let same : text y ≡ ta (back y) = ap text (sym b.1) ∙ is (back y) in
      ap (λ (xs : List ℕ). made of (at (xs ++ rest))) same ∙ ap (made of) (law.again (back y) rest b.0 e) ∙ ap (λ (z : B). Some (z, rest)) b.1;
}

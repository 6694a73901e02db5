-- Lists of items with a comma and a space between two of them.
use Rattle.std.proofs.Common.{◌≡◌, ℕ, zero, suc, ◌+◌, ◌<◌, ◌≤◌, Bool, true, false, List, [], ◌∷◌, ◌++◌, length, Option, Some, None, refl, sym, ap, subst, ◌∙◌, append_assoc, arith, inl, inr, ◌⊎◌}
use Rattle.std.specs.Prelude.{◌==◌, ◌&&◌, nat_le}
use Rattle.std.specs.List.{list_all, flat_map}
use Rattle.std.proofs.lemmas.Bool.{cases_Bool, and_parts, eqb-true, leb-true, le-leb}
use Rattle.std.proofs.lemmas.Option.{option_and_then_some, some_pair_parts}
use Rattle.std.proofs.lemmas.List.{append-nil}
use Rattle.port_signal.specs.declared.items.TheConstants.{MAX_ITEMS}
use Rattle.journal_text.specs.Words.{is_line_byte, listed}
use Rattle.journal_text.specs.Rows.{is_list}
use Rattle.journal_text.specs.Reading.{◌>>=◌, after}
use Rattle.journal_text.specs.ReadingRows.{next_at, some_at, list_at}
use Rattle.journal_text.proofs.ReadingLaws.{both, ends, line_append, after_is, Law, Front}

-- items with a comma and a space between two of them
abbrev pub some_text : {A : Type 0} → (A → List ℕ) → List A → List ℕ
some_text text [] = []
some_text text (item ∷ items) = text item ++ flat_map (λ other. 44 ∷ 32 ∷ text other) items

pub record SomeItems {A : Type 0} (text : A → List ℕ) (fits : A → Bool) (n : ℕ) (items : List A) (bytes rest : List ℕ) : Type 0 where
  pub parts : bytes ≡ some_text text items ++ rest
  pub all : list_all fits items ≡ true
  pub line : list_all is_line_byte (some_text text items) ≡ true
  pub few : length items ≤ n
  pub some : 0 < length items

cases_option : {A : Type 0} (o : Option A) → ((x : A) × (o ≡ Some x)) ⊎ (o ≡ None)
cases_option (Some x) = inl (x, refl)
cases_option None = inr refl

-- one item in front of the others
more : {A : Type 0} (text : A → List ℕ) (x : A) (items : List A) → 0 < length items → some_text text (x ∷ items) ≡ text x ++ 44 ∷ 32 ∷ some_text text items
more text x [] some = absurd (omega arith)
more text x (y ∷ items) some = refl

some_found : {A : Type 0} (text : A → List ℕ) (fits : A → Bool) (at : List ℕ → Option (A × List ℕ)) → Law text fits at → (n : ℕ) (bytes : List ℕ) (items : List A) (rest : List ℕ) → some_at at n bytes ≡ Some (items, rest) → SomeItems text fits n items bytes rest
unfolding some_at
some_found text fits at law zero bytes items rest h = absurd cc
some_found text fits at law (suc n) bytes items rest h =
    option_and_then_some _ (at bytes) (items, rest) h (λ first read others.
    let front = law.found bytes first.0 first.1 read in
    elim (cases_option (after 44 first.1)) [
      | inl comma ↦
          option_and_then_some _ (after 32 comma.0) (items, rest) (rw comma.1 at others) (λ inner space go.
          option_and_then_some _ (some_at at n inner) (items, rest) go (λ ys tail made.
          let same = some_pair_parts (first.0 ∷ ys.0) items ys.1 rest made in
          let m = some_found text fits at law n inner ys.0 ys.1 tail in
          let is : first.1 ≡ 44 ∷ 32 ∷ inner = after_is 44 first.1 comma.0 comma.1 ∙ ap (λ (xs : List ℕ). 44 ∷ xs) (after_is 32 comma.0 inner space) in
          let text_is = more text first.0 ys.0 m.some in
          let parts : bytes ≡ some_text text (first.0 ∷ ys.0) ++ ys.1 =
          front.parts ∙ ap (λ (xs : List ℕ). text first.0 ++ xs) (is ∙ ap (λ (xs : List ℕ). 44 ∷ 32 ∷ xs) m.parts) ∙ sym (append_assoc (text first.0) (44 ∷ 32 ∷ some_text text ys.0) ys.1) ∙ ap (λ (xs : List ℕ). xs ++ ys.1) (sym text_is) in
          let made : SomeItems text fits (suc n) (first.0 ∷ ys.0) bytes ys.1 = record {
            parts = parts;
            all = both (fits first.0) (list_all fits ys.0) front.within m.all;
            line = ap (list_all is_line_byte) text_is ∙ line_append (text first.0) (44 ∷ 32 ∷ some_text text ys.0) front.line m.line;
            few = omega (arith, m.few);
            some = omega arith;
          } in
          subst (λ (z : List _ × List ℕ). SomeItems text fits (suc n) z.0 bytes z.1) (ap (λ (z : List _). (z, ys.1)) same.0 ∙ ap (λ (zs : List ℕ). (items, zs)) same.1) made))
      | inr none ↦
          let same = some_pair_parts (first.0 ∷ []) items first.1 rest (rw none at others) in
          let made : SomeItems text fits (suc n) (first.0 ∷ []) bytes first.1 = record {
            parts = front.parts ∙ ap (λ (xs : List ℕ). xs ++ first.1) (sym (append-nil (text first.0)));
            all = both (fits first.0) true front.within refl;
            line = ap (list_all is_line_byte) (append-nil (text first.0)) ∙ front.line;
            few = omega arith;
            some = omega arith;
          } in
          subst (λ (z : List _ × List ℕ). SomeItems text fits (suc n) z.0 bytes z.1) (ap (λ (z : List _). (z, first.1)) same.0 ∙ ap (λ (zs : List ℕ). (items, zs)) same.1) made
    ])

some_again : {A : Type 0} (text : A → List ℕ) (fits : A → Bool) (at : List ℕ → Option (A × List ℕ)) → Law text fits at → (n : ℕ) (items : List A) (rest : List ℕ) → list_all fits items ≡ true → 0 < length items → length items ≤ n → ends rest ≡ true → after 44 rest ≡ None
    → some_at at n (some_text text items ++ rest) ≡ Some (items, rest)
unfolding some_at
some_again text fits at law n [] rest all some few e none = absurd (omega arith)
some_again text fits at law zero (x ∷ items) rest all some few e none = absurd (omega arith)
some_again text fits at law (suc n) (x ∷ []) rest all some few e none =
    let h = and_parts (fits x) true all in
    let one : at ((text x ++ []) ++ rest) ≡ Some (x, rest) = ap (λ (xs : List ℕ). at (xs ++ rest)) (append-nil (text x)) ∙ law.again x rest h.0 e in
    ap (λ (o : Option (_ × List ℕ)). o >>= λ first. next_at (some_at at n) first.0 first.1 (after 44 first.1)) one ∙ ap (next_at (some_at at n) x rest) none
some_again text fits at law (suc n) (x ∷ y ∷ items) rest all some few e none =
    let h = and_parts (fits x) (list_all fits (y ∷ items)) all in
    let tail : List ℕ = some_text text (y ∷ items) ++ rest in
    let one : at (some_text text (x ∷ y ∷ items) ++ rest) ≡ Some (x, 44 ∷ 32 ∷ tail) =
    ap at (append_assoc (text x) (44 ∷ 32 ∷ some_text text (y ∷ items)) rest) ∙ law.again x (44 ∷ 32 ∷ tail) h.0 refl in
    let others = some_again text fits at law n (y ∷ items) rest h.1 (omega arith) (omega arith) e none in
    ap (λ (o : Option (_ × List ℕ)). o >>= λ first. next_at (some_at at n) first.0 first.1 (after 44 first.1)) one
    ∙ ap (λ (o : Option (List _ × List ℕ)). o >>= λ xs. Some (x ∷ xs.0, xs.1)) others

-- ---- lists that may be empty

-- a text that begins with another byte than `;`
pub record Begins (text : List ℕ) : Type 0 where
  pub byte : ℕ
  pub bytes : List ℕ
  pub is : text ≡ byte ∷ bytes
  pub other : (byte == 59) ≡ false

-- what may stand behind a list: nothing, or ` ;`
abbrev pub list_ends : List ℕ → Bool
list_ends [] = true
list_ends (byte ∷ []) = false
list_ends (byte ∷ next ∷ rest) = byte == 32 && next == 59

listed_is : {A : Type 0} (text : A → List ℕ) (items : List A) → 0 < length items → listed text items ≡ 32 ∷ some_text text items
listed_is text [] some = absurd (omega arith)
listed_is text (x ∷ items) some = refl

pub list_found : {A : Type 0} (text : A → List ℕ) (fits : A → Bool) (at : List ℕ → Option (A × List ℕ)) → Law text fits at → (bytes : List ℕ) (items : List A) (rest : List ℕ) → list_at at bytes ≡ Some (items, rest) → Front (listed text) (is_list fits) items bytes rest
unfolding list_at
list_found text fits at law [] items rest h =
    let same = some_pair_parts [] items [] rest h in
    let made : Front (listed text) (is_list fits) [] [] [] = record { parts = refl; within = refl; line = refl } in
    subst (λ (z : List _ × List ℕ). Front (listed text) (is_list fits) z.0 [] z.1) (ap (λ (z : List _). (z, [])) same.0 ∙ ap (λ (zs : List ℕ). (items, zs)) same.1) made
list_found text fits at law (byte ∷ []) items rest h = absurd cc
list_found text fits at law (byte ∷ next ∷ others) items rest h =
    elim (cases_Bool (next == 59)) [
      | inl e ↦
          let same = some_pair_parts [] items (byte ∷ next ∷ others) rest (rw e at h) in
          let made : Front (listed text) (is_list fits) [] (byte ∷ next ∷ others) (byte ∷ next ∷ others) = record { parts = refl; within = refl; line = refl } in
          subst (λ (z : List _ × List ℕ). Front (listed text) (is_list fits) z.0 (byte ∷ next ∷ others) z.1) (ap (λ (z : List _). (z, byte ∷ next ∷ others)) same.0 ∙ ap (λ (zs : List ℕ). (items, zs)) same.1) made
      | inr e ↦
          option_and_then_some _ (after 32 (byte ∷ next ∷ others)) (items, rest) (rw e at h) (λ inner space go.
          let m = some_found text fits at law MAX_ITEMS inner items rest go in
          let is = listed_is text items m.some in
          record {
            parts = after_is 32 (byte ∷ next ∷ others) inner space ∙ ap (λ (xs : List ℕ). 32 ∷ xs) m.parts ∙ ap (λ (xs : List ℕ). xs ++ rest) (sym is);
            within = both (nat_le (length items) MAX_ITEMS) (list_all fits items) (le-leb (length items) MAX_ITEMS m.few) m.all;
            line = ap (list_all is_line_byte) is ∙ m.line;
          })
    ]

none_again : {A : Type 0} (at : List ℕ → Option (A × List ℕ)) (rest : List ℕ) → list_ends rest ≡ true → list_at at rest ≡ Some ([], rest)
unfolding list_at
none_again at [] e = refl
none_again at (byte ∷ []) e = absurd cc
none_again at (byte ∷ next ∷ rest) e = rw (and_parts (byte == 32) (next == 59) e).1 refl

-- what begins with a space and another byte than `;` is a list with items
at_items : {A : Type 0} (at : List ℕ → Option (A × List ℕ)) (byte : ℕ) (bytes : List ℕ) → (byte == 59) ≡ false → list_at at (32 ∷ byte ∷ bytes) ≡ some_at at MAX_ITEMS (byte ∷ bytes)
unfolding list_at
at_items at byte bytes e = rw e refl

list_rest : (rest : List ℕ) → list_ends rest ≡ true → (ends rest ≡ true) × (after 44 rest ≡ None)
list_rest [] e = (refl, refl)
list_rest (byte ∷ []) e = absurd cc
list_rest (byte ∷ next ∷ rest) e =
    let is : byte ≡ 32 = eqb-true byte 32 (and_parts (byte == 32) (next == 59) e).0 in
    rw is (refl, refl)

pub list_again : {A : Type 0} (text : A → List ℕ) (fits : A → Bool) (at : List ℕ → Option (A × List ℕ)) → Law text fits at → ((x : A) → fits x ≡ true → Begins (text x)) → (items : List A) (rest : List ℕ) → is_list fits items ≡ true → list_ends rest ≡ true
    → list_at at (listed text items ++ rest) ≡ Some (items, rest)
list_again text fits at law begins [] rest h e = none_again at rest e
list_again text fits at law begins (x ∷ items) rest h e =
    let p = and_parts (nat_le (length (x ∷ items)) MAX_ITEMS) (list_all fits (x ∷ items)) h in
    let q = and_parts (fits x) (list_all fits items) p.1 in
    let b = begins x q.0 in
    let r = list_rest rest e in
    let tail : List ℕ = (b.bytes ++ flat_map (λ other. 44 ∷ 32 ∷ text other) items) ++ rest in
    let front : some_text text (x ∷ items) ++ rest ≡ b.byte ∷ tail = ap (λ (xs : List ℕ). (xs ++ flat_map (λ other. 44 ∷ 32 ∷ text other) items) ++ rest) b.is in
    ap (λ (xs : List ℕ). list_at at (32 ∷ xs)) front ∙ at_items at b.byte tail b.other ∙ ap (some_at at MAX_ITEMS) (sym front)
    ∙ some_again text fits at law MAX_ITEMS (x ∷ items) rest p.1 (omega arith) (leb-true (length (x ∷ items)) MAX_ITEMS p.0) r.0 r.1

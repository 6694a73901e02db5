-- The laws of a sender's items, also for crates that stand on this one.
use Rattle.std.proofs.Common.{◌≡◌, ◌≢◌, ℕ, ◌<◌, ◌≤◌, eqb, cond, map, List, [], ◌∷◌, ◌++◌, length, get_or, All, refl, sym, ap, ◌∙◌, ⊎_elim, subst, append-nil, arith, length-append}
use Rattle.std.proofs.lemmas.Bool.{cases_eq, eq-eqb, ne_eqb}
use Rattle.std.proofs.lemmas.List.{map-append, length-map}
use Rattle.std.proofs.lemmas.List.Elements.{filter-append, All-head, All-tail}
use Rattle.std.proofs.Math.ListN.{get_or-append}
use Rattle.std.proofs.Math.Seq.{get_or-append_seam}
use Rattle.task_queue.specs.declared.item.Item.{Item}
use Rattle.task_queue.specs.Items.{items_of, of, numbers_of, IsNumbered}

module _ {T : Type 0} where
  pub items_of-append : (n : ℕ) (xs ys : List (Item T)) → items_of n (xs ++ ys) ≡ items_of n xs ++ items_of n ys
  items_of-append n xs ys = filter-append (λ x. eqb x.sender n) xs ys

  pub of-append : (n : ℕ) (xs ys : List (Item T)) → of n (xs ++ ys) ≡ of n xs ++ of n ys
  of-append n xs ys =
      ap (map (λ (x : Item T). x.value)) (items_of-append n xs ys) ∙ map-append (λ (x : Item T). x.value) (items_of n xs) (items_of n ys)

  pub numbers_of-append : (n : ℕ) (xs ys : List (Item T)) → numbers_of n (xs ++ ys) ≡ numbers_of n xs ++ numbers_of n ys
  numbers_of-append n xs ys =
      ap (map (λ (x : Item T). x.seq)) (items_of-append n xs ys) ∙ map-append (λ (x : Item T). x.seq) (items_of n xs) (items_of n ys)

  pub length-numbers_of : (n : ℕ) (xs : List (Item T)) → length (numbers_of n xs) ≡ length (of n xs)
  length-numbers_of n xs =
      length-map (items_of n xs) (λ (x : Item T). x.seq) ∙ sym (length-map (items_of n xs) (λ (x : Item T). x.value))

  -- one item is all that it is of its own sender, and nothing of another
  pub items_of-own : (n : ℕ) (x : Item T) → x.sender ≡ n → items_of n (x ∷ []) ≡ x ∷ []
  items_of-own n x own = ap (λ b. cond b (x ∷ []) []) (eq-eqb x.sender n own)

  pub items_of-other : (n : ℕ) (x : Item T) → x.sender ≢ n → items_of n (x ∷ []) ≡ []
  items_of-other n x other = ap (λ b. cond b (x ∷ []) []) (ne_eqb x.sender n other)

  pub of-push : (n : ℕ) (xs : List (Item T)) (x : Item T) → x.sender ≡ n → of n (xs ++ x ∷ []) ≡ of n xs ++ x.value ∷ []
  of-push n xs x own =
      of-append n xs (x ∷ []) ∙ ap (λ ys. of n xs ++ map (λ (x : Item T). x.value) ys) (items_of-own n x own)

  pub of-push_other : (n : ℕ) (xs : List (Item T)) (x : Item T) → x.sender ≢ n → of n (xs ++ x ∷ []) ≡ of n xs
  of-push_other n xs x other =
      of-append n xs (x ∷ []) ∙ ap (λ ys. of n xs ++ map (λ (x : Item T). x.value) ys) (items_of-other n x other) ∙ append-nil (of n xs)

  -- a number that is above all senders' has no items
  pub of-unknown : (n made : ℕ) (xs : List (Item T)) → All (λ x. x.sender < made) xs → made ≤ n → of n xs ≡ []
  of-unknown n made [] known above = refl
  of-unknown n made (x ∷ xs) known above =
      let here : x.sender < made = All-head (λ (y : Item T). y.sender < made) x xs known in
      of-append n (x ∷ []) xs
      ∙ ap (λ ys. map (λ (x : Item T). x.value) ys ++ of n xs) (items_of-other n x (λ e. absurd (omega arith)))
      ∙ of-unknown n made xs (All-tail (λ (y : Item T). y.sender < made) x xs known) above

  -- the front of numbered items
  pub IsNumbered-front : (xs ys : List (Item T)) → IsNumbered (xs ++ ys) → IsNumbered xs
  IsNumbered-front xs ys all n k below =
      let e = numbers_of-append n xs ys in
      let longer : k < length (numbers_of n (xs ++ ys)) = rw e (omega (arith, length-append (numbers_of n xs) (numbers_of n ys))) in
      sym (get_or-append (numbers_of n xs) (numbers_of n ys) 0 k below) ∙ ap (λ l. get_or l k 0) (sym e) ∙ all n k longer

  -- an item among numbered ones has as its number how many of its sender stand before it
  pub IsNumbered-at : (xs : List (Item T)) (x : Item T) (ys : List (Item T)) → IsNumbered (xs ++ x ∷ ys) → x.seq ≡ length (of x.sender xs)
  IsNumbered-at xs x ys all =
      let n = x.sender in
      let at = length (numbers_of n xs) in
      let own : numbers_of n (x ∷ ys) ≡ x.seq ∷ numbers_of n ys =
      ap (λ b. map (λ (x : Item T). x.seq) (cond b (x ∷ items_of n ys) (items_of n ys))) (eq-eqb n n refl) in
      let e : numbers_of n (xs ++ x ∷ ys) ≡ numbers_of n xs ++ x.seq ∷ numbers_of n ys = numbers_of-append n xs (x ∷ ys) ∙ ap (λ l. numbers_of n xs ++ l) own in
      let below : at < length (numbers_of n (xs ++ x ∷ ys)) = rw e (omega (arith, length-append (numbers_of n xs) (x.seq ∷ numbers_of n ys))) in
      sym (get_or-append_seam (numbers_of n xs) x.seq (numbers_of n ys) 0) ∙ ap (λ l. get_or l at 0) (sym e) ∙ all n at below ∙ length-numbers_of n xs

  -- the next item of a sender behind numbered ones
  pub IsNumbered-push : (xs : List (Item T)) (x : Item T) → IsNumbered xs → x.seq ≡ length (of x.sender xs) → IsNumbered (xs ++ x ∷ [])
  IsNumbered-push xs x all next n k below =
      let e = numbers_of-append n xs (x ∷ []) in
      ⊎_elim
      (λ (own : x.sender ≡ n).
      let one : numbers_of n (x ∷ []) ≡ x.seq ∷ [] = ap (map (λ (x : Item T). x.seq)) (items_of-own n x own) in
      let whole : numbers_of n (xs ++ x ∷ []) ≡ numbers_of n xs ++ x.seq ∷ [] = e ∙ ap (λ l. numbers_of n xs ++ l) one in
      let seq : x.seq ≡ length (numbers_of n xs) = next ∙ ap (λ m. length (of m xs)) own ∙ sym (length-numbers_of n xs) in
      let within : k < length (numbers_of n xs ++ x.seq ∷ []) = subst (λ l. k < length l) whole below in
      ap (λ l. get_or l k 0) whole
      ∙ ⊎_elim
      (λ (last : k ≡ length (numbers_of n xs)).
      ap (λ m. get_or (numbers_of n xs ++ x.seq ∷ []) m 0) last ∙ get_or-append_seam (numbers_of n xs) x.seq [] 0 ∙ seq ∙ sym last)
      (λ (earlier : k ≡ length (numbers_of n xs) → ⊥).
      let lower : k < length (numbers_of n xs) = omega (arith, length-append (numbers_of n xs) (x.seq ∷ [])) in
      get_or-append (numbers_of n xs) (x.seq ∷ []) 0 k lower ∙ all n k lower)
      (cases_eq k (length (numbers_of n xs))))
      (λ (other : x.sender ≡ n → ⊥).
      let none : numbers_of n (x ∷ []) ≡ [] = ap (map (λ (x : Item T). x.seq)) (items_of-other n x other) in
      let whole : numbers_of n (xs ++ x ∷ []) ≡ numbers_of n xs = e ∙ ap (λ l. numbers_of n xs ++ l) none ∙ append-nil (numbers_of n xs) in
      ap (λ l. get_or l k 0) whole ∙ all n k (subst (λ l. k < length l) whole below))
      (cases_eq x.sender n)

pub IsNumbered-nil : (T : Type 0) → IsNumbered {T = T} []
IsNumbered-nil T n k below = absurd (omega arith)

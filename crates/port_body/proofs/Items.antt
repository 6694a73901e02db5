-- Items of one end among others.
use Rattle.std.proofs.Common.{◌≡◌, ℕ, ◌==◌, cond, Bool, true, false, ◌||◌, List, [], ◌∷◌, ◌++◌, refl, sym, ap, ◌∙◌, subst, eqb-true}
use Rattle.task_queue.specs.declared.item.Item.{Item}
use Rattle.task_queue.specs.Items.{items_of}
use Rattle.port_lanes.specs.Parcels.{ParcelView}
use Rattle.waiting_parcels.specs.Waiting.{has_sender}

pub items-append : (n : ℕ) (xs ys : List (Item ParcelView)) → items_of n (xs ++ ys) ≡ items_of n xs ++ items_of n ys
items-append n [] ys = refl
items-append n (x ∷ xs) ys = elim (x.sender == n) as (λ b. cond b (x ∷ items_of n (xs ++ ys)) (items_of n (xs ++ ys)) ≡ cond b (x ∷ items_of n xs) (items_of n xs) ++ items_of n ys) [
  | true ↦ ap (λ t. x ∷ t) (items-append n xs ys)
  | false ↦ items-append n xs ys
]

or-first : (a b : Bool) → (a || b) ≡ false → a ≡ false
or-first true b e = e
or-first false b e = refl

or-last : (a b : Bool) → (a || b) ≡ false → b ≡ false
or-last true b e = absurd cc
or-last false b e = e

pub items-none : (n : ℕ) (xs : List (Item ParcelView)) → has_sender n xs ≡ false → items_of n xs ≡ []
items-none n [] none = refl
items-none n (x ∷ xs) none = rw (or-first (x.sender == n) (has_sender n xs) none) (items-none n xs (or-last (x.sender == n) (has_sender n xs) none))

-- an item that stands behind others of other senders may stand in front of them
pub items-moved : (n : ℕ) (x : Item ParcelView) (before after : List (Item ParcelView)) → has_sender x.sender before ≡ false
    → items_of n (x ∷ before ++ after) ≡ items_of n (before ++ x ∷ after)
items-moved n x before after none = elim (x.sender == n) as (λ b. (x.sender == n) ≡ b → cond b (x ∷ items_of n (before ++ after)) (items_of n (before ++ after)) ≡ items_of n (before ++ x ∷ after)) [
  | true ↦ λ own.
      let out : items_of n before ≡ [] = subst (λ k. items_of k before ≡ []) (eqb-true x.sender n own) (items-none x.sender before none) in
      ap (λ t. x ∷ t) (items-append n before after ∙ ap (λ t. t ++ items_of n after) out)
      ∙ sym (items-append n before (x ∷ after) ∙ (ap (λ t. t ++ items_of n (x ∷ after)) out ∙ ap (λ b. cond b (x ∷ items_of n after) (items_of n after)) own))
  | false ↦ λ other. items-append n before after
      ∙ sym (items-append n before (x ∷ after) ∙ ap (λ b. items_of n before ++ cond b (x ∷ items_of n after) (items_of n after)) other)
] refl

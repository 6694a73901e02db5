-- The senders of tasks, where lists of them are split and joined. Also for crates that stand on this one.
use Rattle.std.proofs.Common.{◌≡◌, ℕ, ◌<◌, List, [], ◌∷◌, ◌++◌, Bool, ◌||◌, eqb, sym, subst}
use Rattle.std.proofs.lemmas.List.Folds.{list_any-append}
use Rattle.task_queue.specs.declared.item.Item.{Item}
use Rattle.port_lanes.specs.Parcels.{ParcelView}
use Rattle.waiting_parcels.specs.Waiting.{has_sender, GoesFirst}
use Rattle.waiting_parcels.specs.Order.{SendersBelow}

pub has_sender-append : (n : ℕ) (xs ys : List (Item ParcelView)) → has_sender n (xs ++ ys) ≡ (has_sender n xs || has_sender n ys)
has_sender-append n xs ys = list_any-append (λ i. eqb i.sender n) xs ys

-- the senders of one list and of one behind it
pub SendersBelow-join : (n : ℕ) (xs ys : List (Item ParcelView)) → SendersBelow n xs → SendersBelow n ys → SendersBelow n (xs ++ ys)
SendersBelow-join n [] ys s t = t
SendersBelow-join n (x ∷ xs) ys s t = (s.0, SendersBelow-join n xs ys s.1 t)

pub SendersBelow-front : (n : ℕ) (xs ys : List (Item ParcelView)) → SendersBelow n (xs ++ ys) → SendersBelow n xs
SendersBelow-front n [] ys s = tt
SendersBelow-front n (x ∷ xs) ys s = (s.0, SendersBelow-front n xs ys s.1)

pub SendersBelow-back : (n : ℕ) (xs ys : List (Item ParcelView)) → SendersBelow n (xs ++ ys) → SendersBelow n ys
SendersBelow-back n [] ys s = s
SendersBelow-back n (x ∷ xs) ys s = SendersBelow-back n xs ys s.1

-- one more task at the end
pub SendersBelow-one_more : (n : ℕ) (xs : List (Item ParcelView)) (x : Item ParcelView) → SendersBelow n xs → x.sender < n → SendersBelow n (xs ++ x ∷ [])
SendersBelow-one_more n xs x s h = SendersBelow-join n xs (x ∷ []) s (h, tt)

-- the first task that may go, and the rest
pub SendersBelow-first : (n : ℕ) (busy : Bool) (items : List (Item ParcelView)) (x : Item ParcelView) (rest : List (Item ParcelView)) → GoesFirst busy items x rest
    → SendersBelow n items → (x.sender < n) × SendersBelow n rest
SendersBelow-first n busy items x rest g s =
    let parts : SendersBelow n (g.before ++ x ∷ g.after) = subst (λ is. SendersBelow n is) g.split s in
    let back : SendersBelow n (x ∷ g.after) = SendersBelow-back n g.before (x ∷ g.after) parts in
    (back.0, subst (λ is. SendersBelow n is) (sym g.left) (SendersBelow-join n g.before g.after (SendersBelow-front n g.before (x ∷ g.after) parts) back.1))

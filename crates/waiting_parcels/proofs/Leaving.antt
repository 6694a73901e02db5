-- What stays the same where a task goes ahead of others that have other senders. Also for crates that stand on this one.
use Rattle.std.proofs.Common.{◌≡◌, ◌≢◌, ℕ, List, [], ◌∷◌, ◌++◌, length, Bool, true, false, not, ◌&&◌, ◌||◌, eqb, cond, map, refl, sym, ap, ◌∙◌, append_assoc, arith, length-append, ⊎_elim, subst}
use Rattle.std.proofs.lemmas.Bool.{cases_eq, eq-eqb, ne_eqb}
use Rattle.task_queue.specs.declared.item.Item.{Item}
use Rattle.task_queue.specs.Items.{items_of, of}
use Rattle.task_queue.proofs.Items.{of-append, of-push_other}
use Rattle.port_lanes.specs.Parcels.{ParcelView}
use Rattle.port_lanes.specs.port_history.Laws.{waits_where_busy}
use Rattle.waiting_parcels.specs.Waiting.{has_sender, may_go, GoesFirst}
use Rattle.waiting_parcels.specs.Order.{InOrder}

-- a sender's own task comes first
pub of_own : (n : ℕ) (x : Item ParcelView) (xs : List (Item ParcelView)) → x.sender ≡ n → of n (x ∷ xs) ≡ x.value ∷ of n xs
of_own n x xs own = ap (λ b. map (λ i. i.value) (cond b (x ∷ items_of n xs) (items_of n xs))) (eq-eqb x.sender n own)

-- another's task is nothing
pub of_other : (n : ℕ) (x : Item ParcelView) (xs : List (Item ParcelView)) → x.sender ≢ n → of n (x ∷ xs) ≡ of n xs
of_other n x xs other = ap (λ b. map (λ i. i.value) (cond b (x ∷ items_of n xs) (items_of n xs))) (ne_eqb x.sender n other)

or_false_left : (a b : Bool) → (a || b) ≡ false → a ≡ false
or_false_left true b e = e
or_false_left false b e = refl

or_false_right : (a b : Bool) → (a || b) ≡ false → b ≡ false
or_false_right true b e = absurd cc
or_false_right false b e = e

and_true_left : (a b : Bool) → (a && b) ≡ true → a ≡ true
and_true_left true b e = refl
and_true_left false b e = e

not_true : (a : Bool) → not a ≡ true → a ≡ false
not_true true e = absurd cc
not_true false e = refl

-- tasks among which a sender has none
pub other_head : (n : ℕ) (y : Item ParcelView) (ys : List (Item ParcelView)) → has_sender n (y ∷ ys) ≡ false → y.sender ≢ n
other_head n y ys none e = let own = eq-eqb y.sender n e in let other = or_false_left (eqb y.sender n) (has_sender n ys) none in absurd cc

pub other_tail : (n : ℕ) (y : Item ParcelView) (ys : List (Item ParcelView)) → has_sender n (y ∷ ys) ≡ false → has_sender n ys ≡ false
other_tail n y ys none = or_false_right (eqb y.sender n) (has_sender n ys) none

pub of_none : (n : ℕ) (xs : List (Item ParcelView)) → has_sender n xs ≡ false → of n xs ≡ []
of_none n [] none = refl
of_none n (y ∷ ys) none = of_other n y ys (other_head n y ys none) ∙ of_none n ys (other_tail n y ys none)

-- the task that goes first has no earlier one of its sender
pub none_before : (busy : Bool) (before : List (Item ParcelView)) (x : Item ParcelView) → may_go busy before x ≡ true → has_sender x.sender before ≡ false
none_before busy before x goes =
    not_true (has_sender x.sender before) (and_true_left (not (has_sender x.sender before)) (not (busy && waits_where_busy x.value.task)) goes)

-- each sender's tasks stay where a task goes ahead of others' tasks
of-ahead : (n : ℕ) (x : Item ParcelView) (before tail : List (Item ParcelView)) → has_sender x.sender before ≡ false
    → of n (x ∷ (before ++ tail)) ≡ of n (before ++ x ∷ tail)
of-ahead n x before tail none =
    ⊎_elim
    (λ (own : x.sender ≡ n).
    of_own n x (before ++ tail) own
    ∙ (ap (λ vs. x.value ∷ vs) (of-append n before tail ∙ ap (λ vs. vs ++ of n tail) (of_none n before (subst (λ m. has_sender m before ≡ false) own none)))
    ∙ sym (of-append n before (x ∷ tail) ∙ (ap (λ vs. vs ++ of n (x ∷ tail)) (of_none n before (subst (λ m. has_sender m before ≡ false) own none)) ∙ of_own n x tail own))))
    (λ (other : x.sender ≢ n).
    of_other n x (before ++ tail) other
    ∙ (of-append n before tail ∙ sym (of-append n before (x ∷ tail) ∙ ap (λ vs. of n before ++ vs) (of_other n x tail other))))
    (cases_eq x.sender n)

-- each sender's tasks stay where a task is done ahead of others' tasks, as one from the lane with no waiting task of its sender
pub of-lane : (n : ℕ) (done items queue : List (Item ParcelView)) (x : Item ParcelView) → has_sender x.sender items ≡ false
    → of n ((done ++ x ∷ []) ++ (items ++ queue)) ≡ of n (done ++ (items ++ x ∷ queue))
of-lane n done items queue x none =
    ap (of n) (append_assoc done (x ∷ []) (items ++ queue))
    ∙ (of-append n done (x ∷ (items ++ queue)) ∙ (ap (λ vs. of n done ++ vs) (of-ahead n x items queue none) ∙ sym (of-append n done (items ++ x ∷ queue))))

-- each sender's tasks stay where the first that may go is done
pub of-first : (n : ℕ) (busy : Bool) (done items queue : List (Item ParcelView)) (x : Item ParcelView) (rest : List (Item ParcelView)) → GoesFirst busy items x rest
    → of n ((done ++ x ∷ []) ++ (rest ++ queue)) ≡ of n (done ++ (items ++ queue))
of-first n busy done items queue x rest g =
    ap (λ is. of n ((done ++ x ∷ []) ++ is)) (ap (λ is. is ++ queue) g.left ∙ append_assoc g.before g.after queue)
    ∙ (of-lane n done g.before (g.after ++ queue) x (none_before busy g.before x g.goes)
    ∙ ap (λ is. of n (done ++ is)) (sym (ap (λ is. is ++ queue) g.split ∙ append_assoc g.before (x ∷ g.after) queue)))

-- only how many tasks each sender has before counts
InOrder-same : (a b queue : List (Item ParcelView)) → ((n : ℕ) → length (of n a) ≡ length (of n b)) → InOrder a queue → InOrder b queue
InOrder-same a b [] same o = tt
InOrder-same a b (y ∷ queue) same o = (
  o.0 ∙ same y.sender,
  InOrder-same (a ++ y ∷ []) (b ++ y ∷ []) queue
      (λ n. ap length (of-append n a (y ∷ [])) ∙ (longer n ∙ ap length (sym (of-append n b (y ∷ []))))) o.1,
) where
  longer : (n : ℕ) → length (of n a ++ of n (y ∷ [])) ≡ length (of n b ++ of n (y ∷ []))
  longer n = let e = same n in grind (arith, length-append)

-- two tasks change places
swapped : (n : ℕ) (done : List (Item ParcelView)) (x y : Item ParcelView) → y.sender ≢ x.sender
    → length (of n ((done ++ y ∷ []) ++ x ∷ [])) ≡ length (of n ((done ++ x ∷ []) ++ y ∷ []))
swapped n done x y other =
    ap length (of-lane n done (x ∷ []) [] y (ap (λ b. b || false) (ne_eqb x.sender y.sender (λ e. other (sym e)))))
    ∙ ap (λ is. length (of n is)) (sym (append_assoc done (x ∷ []) (y ∷ [])))

-- a task that no earlier one of its sender waits before has its place as its number, and the others keep theirs
pub InOrder-ahead : (done before tail : List (Item ParcelView)) (x : Item ParcelView) → has_sender x.sender before ≡ false → InOrder done (before ++ x ∷ tail)
    → (x.seq ≡ length (of x.sender done)) × InOrder (done ++ x ∷ []) (before ++ tail)
InOrder-ahead done [] tail x none o = o
InOrder-ahead done (y ∷ before) tail x none o =
    let other = other_head x.sender y before none in
    let later = InOrder-ahead (done ++ y ∷ []) before tail x (other_tail x.sender y before none) o.1 in (
      later.0 ∙ ap length (of-push_other x.sender done y other),
      (
        o.0 ∙ sym (ap length (of-push_other y.sender done x (λ e. other (sym e)))),
        InOrder-same ((done ++ y ∷ []) ++ x ∷ []) ((done ++ x ∷ []) ++ y ∷ []) (before ++ tail) (λ n. swapped n done x y other) later.1,
      ),
    )

-- the same of a task from the lane with no waiting task of its sender
pub InOrder-lane : (done items queue : List (Item ParcelView)) (x : Item ParcelView) → has_sender x.sender items ≡ false → InOrder done (items ++ x ∷ queue)
    → (x.seq ≡ length (of x.sender done)) × InOrder (done ++ x ∷ []) (items ++ queue)
InOrder-lane done items queue x none o = InOrder-ahead done items queue x none o

-- the same of the first that may go
pub InOrder-first : (busy : Bool) (done items queue : List (Item ParcelView)) (x : Item ParcelView) (rest : List (Item ParcelView)) → GoesFirst busy items x rest
    → InOrder done (items ++ queue) → (x.seq ≡ length (of x.sender done)) × InOrder (done ++ x ∷ []) (rest ++ queue)
InOrder-first busy done items queue x rest g o =
    let ahead = InOrder-ahead done g.before (g.after ++ queue) x (none_before busy g.before x g.goes)
    (subst (λ is. InOrder done is) (ap (λ is. is ++ queue) g.split ∙ append_assoc g.before (x ∷ g.after) queue) o) in
    (ahead.0, subst (λ is. InOrder (done ++ x ∷ []) is) (sym (ap (λ is. is ++ queue) g.left ∙ append_assoc g.before g.after queue)) ahead.1)

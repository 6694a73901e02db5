-- The monitors of an index, in its order.
use Rattle.std.proofs.Common.{◌≡◌, ℕ, List, [], ◌∷◌, Bool, true, false, not, ◌&&◌, ◌||◌, eqb, ltb, cond, refl, sym, ap, ◌∙◌, arith, inl, inr, Less, Equal, Greater, Some, filter}
use Rattle.std.specs.declared.cmp.Ordering.{Ordering}
use Rattle.std.specs.Ordering.{is_eq, nat_cmp, ordering_then, match_ordering}
use Rattle.std.specs.List.{AllByRecursion}
use Rattle.std.specs.List.Sorted.{IsStrictlySortedBy}
use Rattle.std.specs.Map.{keys_of, lookup, remove_entry}
use Rattle.std.specs.BTreeMap.{is_at, insert_entry}
use Rattle.std.specs.Option.{is_some}
use Rattle.std.proofs.lemmas.Bool.{cases_order, eq-eqb, ne_eqb, lt-ltb, le-ltb, eqb-true, and_parts, false≢true, ltb-true}
use Rattle.std.proofs.lemmas.Map.Keys.{sorted_head, sorted_tail}
use Rattle.port_history.specs.port_model.port_signal.declared.monitor.Monitor.{Monitor}
use Rattle.port_history.specs.port_model.port_signal.Links.{is_before, is_same, has_monitor, with_monitor, without_monitor, without_watcher}
use Rattle.port_links.specs.Indexed.{monitor_cmp}

-- what the program finds of two monitors
record Compares (a b : Monitor) (o : Ordering) : Type 0 where
  is : monitor_cmp a b ≡ o
  before : is_before a b ≡ match_ordering o true false false
  same : is_same a b ≡ is_eq o

compares : (a b : Monitor) → Compares a b (monitor_cmp a b)
compares a b = record {
  is = refl;
  before = before a.process b.process a.number b.number;
  same = same a.process b.process a.number b.number;
} where
  before : (p q m n : ℕ) → (ltb p q || (eqb p q && ltb m n)) ≡ match_ordering (ordering_then (nat_cmp p q) (nat_cmp m n)) true false false
  before p q m n = elim (cases_order p q) [
    | inl e ↦ rw (le-ltb p q (omega arith), eq-eqb p q e) (by_number m n)
    | inr (inl l) ↦ rw (lt-ltb p q l) refl
    | inr (inr l) ↦ rw (le-ltb p q (omega arith), ne_eqb p q (λ e. omega arith)) refl
  ] where
    by_number : (m n : ℕ) → ltb m n ≡ match_ordering (nat_cmp m n) true false false
    by_number m n = elim (cases_order m n) [
      | inl e ↦ rw (le-ltb m n (omega arith), eq-eqb m n e) refl
      | inr (inl l) ↦ rw (lt-ltb m n l) refl
      | inr (inr l) ↦ rw (le-ltb m n (omega arith), ne_eqb m n (λ e. omega arith)) refl
    ]

  same : (p q m n : ℕ) → (eqb p q && eqb m n) ≡ is_eq (ordering_then (nat_cmp p q) (nat_cmp m n))
  same p q m n = elim (cases_order p q) [
    | inl e ↦ rw (le-ltb p q (omega arith), eq-eqb p q e) (by_number m n)
    | inr (inl l) ↦ rw (lt-ltb p q l, ne_eqb p q (λ e. omega arith)) refl
    | inr (inr l) ↦ rw (le-ltb p q (omega arith), ne_eqb p q (λ e. omega arith)) refl
  ] where
    by_number : (m n : ℕ) → eqb m n ≡ is_eq (nat_cmp m n)
    by_number m n = elim (cases_order m n) [
      | inl e ↦ rw (le-ltb m n (omega arith), eq-eqb m n e) refl
      | inr (inl l) ↦ rw (lt-ltb m n l, ne_eqb m n (λ e. omega arith)) refl
      | inr (inr l) ↦ rw (le-ltb m n (omega arith), ne_eqb m n (λ e. omega arith)) refl
    ]

pub has-entries : (m : Monitor) (es : List (Monitor × ℕ)) → is_some (lookup (is_at (monitor_cmp m)) es) ≡ has_monitor m (keys_of es)
has-entries m [] = refl
has-entries m (e ∷ es) = rw ((compares m e.0).same) (by_same (is_eq (monitor_cmp m e.0)) (has-entries m es)) where
  by_same : (b : Bool) → is_some (lookup (is_at (monitor_cmp m)) es) ≡ has_monitor m (keys_of es)
      → is_some (cond b (Some e.1) (lookup (is_at (monitor_cmp m)) es)) ≡ (b || has_monitor m (keys_of es))
  by_same true i = refl
  by_same false i = i

pub with-entries : (m : Monitor) (key : ℕ) (es : List (Monitor × ℕ)) → keys_of (insert_entry monitor_cmp es m key) ≡ with_monitor m (keys_of es)
with-entries m key [] = refl
with-entries m key (e ∷ es) =
    rw ((compares m e.0).before, (compares m e.0).same) (by_order (monitor_cmp m e.0) (with-entries m key es)) where
      by_order : (o : Ordering) → keys_of (insert_entry monitor_cmp es m key) ≡ with_monitor m (keys_of es)
          → keys_of (match_ordering o ((m, key) ∷ e ∷ es) ((e.0, key) ∷ es) (e ∷ insert_entry monitor_cmp es m key))
          ≡ cond (match_ordering o true false false) (m ∷ e.0 ∷ keys_of es) (cond (is_eq o) (e.0 ∷ keys_of es) (e.0 ∷ with_monitor m (keys_of es)))
      by_order Less i = refl
      by_order Equal i = refl
      by_order Greater i = ap (λ later. e.0 ∷ later) i

-- the same monitor has the same process and number
pub same-monitors : (m x : Monitor) → is_same m x ≡ true → m ≡ x
same-monitors m x same =
    let parts = and_parts (eqb m.process x.process) (eqb m.number x.number) same in
    ap (λ p. monitor p m.number) (eqb-true m.process x.process parts.0) ∙ ap (λ n. monitor x.process n) (eqb-true m.number x.number parts.1) where
      monitor : ℕ → ℕ → Monitor
      monitor p n = record { process = p; number = n }

pub equal-monitors : (m x : Monitor) → is_at (monitor_cmp m) x ≡ true → m ≡ x
equal-monitors m x at = same-monitors m x ((compares m x).same ∙ at)

pub is-itself : (m : Monitor) → is_at (monitor_cmp m) m ≡ true
is-itself m = sym ((compares m m).same) ∙ rw (eq-eqb m.process m.process refl, eq-eqb m.number m.number refl) refl

-- what comes after a monitor in rising order is another
others-stay : (m x : Monitor) (others : List Monitor) → m ≡ x → AllByRecursion (λ y. monitor_cmp x y ≡ Less) others → without_monitor m others ≡ others
others-stay m x [] same later = refl
others-stay m x (y ∷ others) same later =
    let another : is_same m y ≡ false = ap (λ m. is_same m y) same ∙ ((compares x y).same ∙ ap is_eq later.0) in
    rw another (ap (λ ms. y ∷ ms) (others-stay m x others same later.1))

pub without-entries : (m : Monitor) (es : List (Monitor × ℕ)) → IsStrictlySortedBy monitor_cmp (keys_of es)
    → keys_of (remove_entry (is_at (monitor_cmp m)) es) ≡ without_monitor m (keys_of es)
without-entries m [] rising = refl
without-entries m (e ∷ es) rising =
    rw ((compares m e.0).same) (by_same (is_eq (monitor_cmp m e.0)) (without-entries m es (sorted_tail monitor_cmp e.0 (keys_of es) rising))
    (λ at. others-stay m e.0 (keys_of es) (equal-monitors m e.0 at) (sorted_head monitor_cmp e.0 (keys_of es) rising))) where
      by_same : (b : Bool) → keys_of (remove_entry (is_at (monitor_cmp m)) es) ≡ without_monitor m (keys_of es) → (b ≡ true → without_monitor m (keys_of es) ≡ keys_of es)
          → keys_of (cond b es (e ∷ remove_entry (is_at (monitor_cmp m)) es)) ≡ cond (not b) (e.0 ∷ without_monitor m (keys_of es)) (without_monitor m (keys_of es))
      by_same true i stay = sym (stay refl)
      by_same false i stay = ap (λ ms. e.0 ∷ ms) i

-- a monitor that is among those after another is above it
above : (m x : Monitor) (others : List Monitor) → AllByRecursion (λ y. monitor_cmp x y ≡ Less) others → has_monitor m others ≡ true → is_before x m ≡ true
above m x [] later has = absurd (false≢true has)
above m x (y ∷ others) later has = by_same (is_same m y) refl has (λ has. above m x others later.1 has) where
  by_same : (b : Bool) → is_same m y ≡ b → (b || has_monitor m others) ≡ true → (has_monitor m others ≡ true → is_before x m ≡ true) → is_before x m ≡ true
  by_same true same has above_others = rw (same-monitors m y same) ((compares x y).before ∙ ap (λ o. match_ordering o true false false) later.0)
  by_same false same has above_others = above_others has

not-below : (m x : Monitor) → is_before x m ≡ true → is_before m x ≡ false
not-below m x before = by_numbers m.process x.process m.number x.number before where
  by_numbers : (p q m n : ℕ) → (ltb q p || (eqb q p && ltb n m)) ≡ true → (ltb p q || (eqb p q && ltb m n)) ≡ false
  by_numbers p q m n before = elim (cases_order p q) [
    | inl e ↦ rw (le-ltb p q (omega arith), eq-eqb p q e) (by_number m n (rw (le-ltb q p (omega arith), eq-eqb q p (sym e)) at before))
    | inr (inl l) ↦ absurd (false≢true (rw (le-ltb q p (omega arith), ne_eqb q p (λ e. omega arith)) at before))
    | inr (inr l) ↦ rw (le-ltb p q (omega arith), ne_eqb p q (λ e. omega arith)) refl
  ] where
    by_number : (m n : ℕ) → ltb n m ≡ true → ltb m n ≡ false
    by_number m n below = le-ltb m n (omega (arith, ltb-true n m below))

not-before-itself : (x : Monitor) → is_before x x ≡ false
not-before-itself x = rw (le-ltb x.process x.process (omega arith), eq-eqb x.process x.process refl, le-ltb x.number x.number (omega arith)) refl

-- a monitor that is there stays as it is
pub with-there : (m : Monitor) (ms : List Monitor) → IsStrictlySortedBy monitor_cmp ms → has_monitor m ms ≡ true → with_monitor m ms ≡ ms
with-there m [] rising has = absurd (false≢true has)
with-there m (x ∷ others) rising has = by_same (is_same m x) refl has (λ has. with-there m others (sorted_tail monitor_cmp x others rising) has) where
  by_same : (b : Bool) → is_same m x ≡ b → (b || has_monitor m others) ≡ true → (has_monitor m others ≡ true → with_monitor m others ≡ others)
      → with_monitor m (x ∷ others) ≡ x ∷ others
  by_same true same has there =
      let before : is_before m x ≡ false = rw (same-monitors m x same) (not-before-itself x) in
      rw (before, same) refl
  by_same false same has there =
      let before : is_before m x ≡ false = not-below m x (above m x others (sorted_head monitor_cmp x others rising) has) in
      rw (before, same) (ap (λ ms. x ∷ ms) (there has))

-- the monitors of other processes
pub other-entries : (process : ℕ) (es : List (Monitor × ℕ)) → keys_of (filter (λ e. not (eqb e.0.process process)) es) ≡ without_watcher process (keys_of es)
other-entries process [] = refl
other-entries process (e ∷ es) = by_test (not (eqb e.0.process process)) (other-entries process es) where
  by_test : (b : Bool) → keys_of (filter (λ e. not (eqb e.0.process process)) es) ≡ without_watcher process (keys_of es)
      → keys_of (cond b (e ∷ filter (λ e. not (eqb e.0.process process)) es) (filter (λ e. not (eqb e.0.process process)) es)) ≡ cond b (e.0 ∷ without_watcher process (keys_of es)) (without_watcher process (keys_of es))
  by_test true i = ap (λ ms. e.0 ∷ ms) i
  by_test false i = i

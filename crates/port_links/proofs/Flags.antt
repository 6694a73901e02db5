-- Flags by process, and the list of the processes whose flags are set.
use Rattle.std.proofs.Common.{◌≡◌, ℕ, zero, suc, ◌+◌, ◌<◌, ◌≤◌, List, [], ◌∷◌, ◌++◌, length, map, take, get_or, set, replicate, All, Bool, true, false, not, eqb, cond, refl, sym, ap, ◌∙◌, append-nil, arith, ◌^◌, ltb, ◌&&◌, inl, inr}
use Rattle.std.proofs.lemmas.Bool.{cases_lt, eq-eqb, ne_eqb, lt-ltb, le-ltb, false≢true}
use Rattle.std.proofs.lemmas.List.{length-replicate, length-set, length-take, set_past, take_more, map-append, get_or_default, get_or_past}
use Rattle.std.proofs.lemmas.List.Elements.{All-nil, All-cons, All-head, All-tail, All-filter}
use Rattle.port_history.specs.port_model.port_signal.declared.monitor.Monitor.{Monitor}
use Rattle.port_history.specs.port_model.port_signal.Links.{has, with_process, without_process, is_before, is_same, with_monitor, without_monitor, without_watcher}
use Rattle.port_links.specs.Flags.{set_flags, IsKept}

-- a process before the first flag has none
has-below : (p first : ℕ) (flags : List Bool) → p < first → has p (set_flags first flags) ≡ false
has-below p first [] below = refl
has-below p first (true ∷ flags) below = rw (ne_eqb first p (λ e. omega arith)) (has-below p (first + 1) flags (omega arith))
has-below p first (false ∷ flags) below = has-below p (first + 1) flags (omega arith)

with-below : (p first : ℕ) (flags : List Bool) → p < first → with_process p (set_flags first flags) ≡ p ∷ set_flags first flags
with-below p first [] below = refl
with-below p first (true ∷ flags) below = rw (lt-ltb p first below) refl
with-below p first (false ∷ flags) below = with-below p (first + 1) flags (omega arith)

without-below : (p first : ℕ) (flags : List Bool) → p < first → without_process p (set_flags first flags) ≡ set_flags first flags
without-below p first [] below = refl
without-below p first (true ∷ flags) below =
    rw (ne_eqb first p (λ e. omega arith)) (ap (λ later. first ∷ later) (without-below p (first + 1) flags (omega arith)))
without-below p first (false ∷ flags) below = without-below p (first + 1) flags (omega arith)

-- whether a process is in the list
has-set_flags : (p first k : ℕ) (flags : List Bool) → p ≡ first + k → has p (set_flags first flags) ≡ get_or flags k false
has-set_flags p first k [] e = refl
has-set_flags p first zero (true ∷ flags) e = rw (eq-eqb first p (omega arith)) refl
has-set_flags p first zero (false ∷ flags) e = has-below p (first + 1) flags (omega arith)
has-set_flags p first (suc k) (true ∷ flags) e = rw (ne_eqb first p (λ same. omega arith)) (has-set_flags p (first + 1) k flags (omega arith))
has-set_flags p first (suc k) (false ∷ flags) e = has-set_flags p (first + 1) k flags (omega arith)

with-set_flags : (p first k : ℕ) (flags : List Bool) → p ≡ first + k → k < length flags → with_process p (set_flags first flags) ≡ set_flags first (set flags k true)
with-set_flags p first k [] e within = absurd (omega arith)
with-set_flags p first zero (true ∷ flags) e within = rw (le-ltb p first (omega arith), eq-eqb first p (omega arith)) refl
with-set_flags p first zero (false ∷ flags) e within =
    let same : p ≡ first = omega arith in
    with-below p (first + 1) flags (omega arith) ∙ ap (λ q. q ∷ set_flags (first + 1) flags) same
with-set_flags p first (suc k) (true ∷ flags) e within =
    rw (le-ltb p first (omega arith), ne_eqb first p (λ same. omega arith))
    (ap (λ later. first ∷ later) (with-set_flags p (first + 1) k flags (omega arith) (omega arith)))
with-set_flags p first (suc k) (false ∷ flags) e within = with-set_flags p (first + 1) k flags (omega arith) (omega arith)

without-set_flags : (p first k : ℕ) (flags : List Bool) → p ≡ first + k → without_process p (set_flags first flags) ≡ set_flags first (set flags k false)
without-set_flags p first k [] e = refl
without-set_flags p first zero (true ∷ flags) e = rw (eq-eqb first p (omega arith)) (without-below p (first + 1) flags (omega arith))
without-set_flags p first zero (false ∷ flags) e = without-below p (first + 1) flags (omega arith)
without-set_flags p first (suc k) (true ∷ flags) e =
    rw (ne_eqb first p (λ same. omega arith))
    (ap (λ later. first ∷ later) (without-set_flags p (first + 1) k flags (omega arith)))
without-set_flags p first (suc k) (false ∷ flags) e = without-set_flags p (first + 1) k flags (omega arith)

none-set_flags : (first n : ℕ) → set_flags first (replicate n false) ≡ []
none-set_flags first zero = refl
none-set_flags first (suc n) = none-set_flags (first + 1) n

-- the processes in the list have flags
below-set_flags : (first n : ℕ) (flags : List Bool) → n ≡ first + length flags → All (λ p. p < n) (set_flags first flags)
below-set_flags first n [] e = All-nil (λ p. p < n)
below-set_flags first n (true ∷ flags) e = All-cons (λ p. p < n) first (set_flags (first + 1) flags) (omega arith) (below-set_flags (first + 1) n flags (omega arith))
below-set_flags first n (false ∷ flags) e = below-set_flags (first + 1) n flags (omega arith)

set_flags-append : (first next : ℕ) (flags more : List Bool) → next ≡ first + length flags → set_flags first (flags ++ more) ≡ set_flags first flags ++ set_flags next more
set_flags-append first next [] more e = ap (λ n. set_flags n more) (omega arith)
set_flags-append first next (true ∷ flags) more e = ap (λ later. first ∷ later) (set_flags-append (first + 1) next flags more (omega arith))
set_flags-append first next (false ∷ flags) more e = set_flags-append (first + 1) next flags more (omega arith)

-- The table's flags, whose first process is 0

pub has-flag : (p : ℕ) (flags : List Bool) → has p (set_flags 0 flags) ≡ get_or flags p false
has-flag p flags = has-set_flags p 0 p flags (omega arith)

pub with-flag : (p : ℕ) (flags : List Bool) → p < length flags → set_flags 0 (set flags p true) ≡ with_process p (set_flags 0 flags)
with-flag p flags within = sym (with-set_flags p 0 p flags (omega arith) within)

pub without-flag : (p : ℕ) (flags : List Bool) → set_flags 0 (set flags p false) ≡ without_process p (set_flags 0 flags)
without-flag p flags = sym (without-set_flags p 0 p flags (omega arith))

pub without-none : (p : ℕ) (flags : List Bool) → length flags ≤ p → set_flags 0 flags ≡ without_process p (set_flags 0 flags)
without-none p flags past = ap (λ fs. set_flags 0 fs) (sym (set_past flags p false past)) ∙ without-flag p flags

pub no-flags : (n : ℕ) → set_flags 0 (replicate n false) ≡ []
no-flags n = none-set_flags 0 n

pub one-flag : (p n : ℕ) → p < n → set_flags 0 (set (replicate n false) p true) ≡ p ∷ []
one-flag p n within = with-flag p (replicate n false) (omega (arith, length-replicate n false)) ∙ ap (with_process p) (no-flags n)

pub flags-below : (flags : List Bool) → All (λ p. p < length flags) (set_flags 0 flags)
flags-below flags = below-set_flags 0 (length flags) flags (omega arith)

-- a process that is there and whose flag is not set
pub here-flag : (p : ℕ) (flags : List Bool) → not (get_or flags p true) ≡ (ltb p (length flags) && not (has p (set_flags 0 flags)))
here-flag p flags = elim (cases_lt p (length flags)) [
  | inl within ↦ rw (has-flag p flags, lt-ltb p (length flags) within, get_or_default flags p true false within) refl
  | inr past ↦ rw (le-ltb p (length flags) past, get_or_past flags p true past) refl
]

pub here-below : (p : ℕ) (flags : List Bool) → not (get_or flags p true) ≡ true → p < length flags
here-below p flags is = elim (cases_lt p (length flags)) [
  | inl within ↦ within
  | inr past ↦ absurd (false≢true (rw (get_or_past flags p true past) at is))
]

-- one flag more
pub flags-more : (p : ℕ) (flags : List Bool) → p < length flags → set_flags 0 (take (p + 1) flags) ≡ set_flags 0 (take p flags) ++ cond (get_or flags p false) (p ∷ []) []
flags-more p flags within =
    rw (take_more flags p false within)
    (set_flags-append 0 p (take p flags) (get_or flags p false ∷ []) (omega (arith, length-take p flags)) ∙ ap (λ later. set_flags 0 (take p flags) ++ later) (one (get_or flags p false))) where
      one : (flag : Bool) → set_flags p (flag ∷ []) ≡ cond flag (p ∷ []) []
      one true = refl
      one false = refl

pub map-more_set : {Y : Type 0} (f : ℕ → Y) (p : ℕ) (flags : List Bool) → p < length flags → get_or flags p false ≡ true
    → map f (set_flags 0 (take (p + 1) flags)) ≡ map f (set_flags 0 (take p flags)) ++ f p ∷ []
map-more_set f p flags within is = rw (flags-more p flags within, is) (map-append f (set_flags 0 (take p flags)) (p ∷ []))

pub map-more_unset : {Y : Type 0} (f : ℕ → Y) (p : ℕ) (flags : List Bool) → p < length flags → get_or flags p false ≡ false
    → map f (set_flags 0 (take (p + 1) flags)) ≡ map f (set_flags 0 (take p flags))
map-more_unset f p flags within is = rw (flags-more p flags within, is) (ap (map f) (append-nil (set_flags 0 (take p flags))))

-- The invariant, where one flag or the owner changes

pub flag-kept : (owner : ℕ) (linked ended : List Bool) (ms : List Monitor) (p : ℕ) (flag : Bool) → IsKept owner linked ended ms → IsKept owner (set linked p flag) ended ms
flag-kept owner linked ended ms p flag kept = record {
  within = kept.within;
  few = kept.few;
  long = length-set linked p flag ∙ kept.long;
  known = kept.known;
}

pub owner-kept : (owner : ℕ) (linked ended : List Bool) (ms : List Monitor) (p : ℕ) → IsKept owner linked ended ms → p < length ended → IsKept p (set linked p true) ended ms
owner-kept owner linked ended ms p kept within = record {
  within = within;
  few = kept.few;
  long = length-set linked p true ∙ kept.long;
  known = kept.known;
}

pub gone-kept : (owner : ℕ) (linked ended : List Bool) (ms left : List Monitor) (p : ℕ) → IsKept owner linked ended ms
    → left ≡ without_watcher p ms → IsKept owner (set linked p false) (set ended p true) left
gone-kept owner linked ended ms left p kept e = record {
  within = rw (length-set ended p true) kept.within;
  few = rw (length-set ended p true) kept.few;
  long = length-set linked p false ∙ (kept.long ∙ sym (length-set ended p true));
  known = rw (e, length-set ended p true) (All-filter (λ m. not (eqb m.process p)) (λ m. m.process < length ended) ms kept.known);
}

pub none-kept : (owner : ℕ) (linked linked' ended : List Bool) (ms left : List Monitor) → IsKept owner linked ended ms
    → length linked' ≡ length linked → left ≡ [] → IsKept owner linked' ended left
none-kept owner linked linked' ended ms left kept e none = record {
  within = kept.within;
  few = kept.few;
  long = e ∙ kept.long;
  known = rw none (All-nil (λ m. m.process < length ended));
}

all-with : (P : Monitor → Type 0) (m : Monitor) (others : List Monitor) → P m → All P others → All P (with_monitor m others)
all-with P m [] here all = All-cons P m [] here all
all-with P m (other ∷ others) here all = by_order (is_before m other) (is_same m other) (all-with P m others here (All-tail P other others all)) where
  by_order : (before same : Bool) → All P (with_monitor m others) → All P (cond before (m ∷ other ∷ others) (cond same (other ∷ others) (other ∷ with_monitor m others)))
  by_order true same later = All-cons P m (other ∷ others) here all
  by_order false true later = all
  by_order false false later = All-cons P other (with_monitor m others) (All-head P other others all) later

pub with-kept : (owner : ℕ) (linked ended : List Bool) (ms more : List Monitor) (m : Monitor) → IsKept owner linked ended ms
    → m.process < length ended → more ≡ with_monitor m ms → IsKept owner linked ended more
with-kept owner linked ended ms more m kept known e = record {
  within = kept.within;
  few = kept.few;
  long = kept.long;
  known = rw e (all-with (λ m. m.process < length ended) m ms known kept.known);
}

pub without-kept : (owner : ℕ) (linked ended : List Bool) (ms left : List Monitor) (m : Monitor) → IsKept owner linked ended ms
    → left ≡ without_monitor m ms → IsKept owner linked ended left
without-kept owner linked ended ms left m kept e = record {
  within = kept.within;
  few = kept.few;
  long = kept.long;
  known = rw e (All-filter (λ other. not (is_same m other)) (λ m. m.process < length ended) ms kept.known);
}

pub new-kept : (owner n : ℕ) (linked ended : List Bool) (ms : List Monitor) → linked ≡ replicate n false → ended ≡ replicate n false → ms ≡ []
    → owner < n → n < 2 ^ 32 → IsKept owner (set linked owner true) ended ms
new-kept owner n linked ended ms e f none within few = record {
  within = rw (f, length-replicate n false) within;
  few = rw (f, length-replicate n false) (omega arith);
  long = length-set linked owner true ∙ ap length (e ∙ sym f);
  known = rw none (All-nil (λ m. m.process < length ended));
}

-- What is kept of events, event by event.
use Rattle.std.proofs.Common.{◌≡◌, ◌==◌, ℕ, zero, suc, ◌<◌, Bool, true, false, ◌&&◌, not, eqb, cond, List, [], ◌∷◌, ◌++◌, length, map, get_or, set, refl, sym, ap, ◌∙◌, ◌+◌, inl, inr, arith, subst}
use Rattle.std.proofs.lemmas.List.{get_or_read}
use Rattle.std.specs.Prelude.{Some, None, Result, Ok, Err, OnOk, position, nat_lt}
use Rattle.std.specs.List.{AllByRecursion, list_all, position_or_len}
use Rattle.std.proofs.lemmas.Bool.{eqb-true, eq-eqb, ne_eqb, and_parts, ltb-false, cases_lt}
use Rattle.std.proofs.lemmas.List.Quantifiers.{position-Some}
use Rattle.std.proofs.lemmas.List.Sums.{fails_before_first}
use Rattle.port_model.specs.declared.effect.Effect.{Effect}
use Rattle.port_model.specs.declared.effect.Effect.TheVariants as effect
use Rattle.port_model.specs.declared.event.Dir.{Dir}
use Rattle.port_model.specs.declared.event.Dir.TheVariants.{Read, Write}
use Rattle.port_history.specs.Events.{Event, unused, change, event_of, numbers, selected_by, select, disarm, give_up, drop_event}
use Rattle.port_history.specs.Laws.{is_given_back}
use Rattle.history_tables.specs.declared.events.EventState.{EventState}
use Rattle.history_tables.specs.declared.events.Sweep.{Sweep}
use Rattle.history_tables.specs.declared.events.Sweep.TheVariants.{Deselect, Arm, GiveUp}
use Rattle.history_tables.specs.declared.events.EventTable.{EventTable}
use Rattle.history_tables.specs.EventsKept.{Holds, KeepsNumber, Rising, event_in, swept, swept_state, is_at_rest}
use Rattle.history_tables.proofs.Rising.{changed, rising-change, rising-map, event-map, number-of}

abbrev kept : List EventState → List Event
kept items = map event_in items

-- where an event is found, and where it isn't
found : (n : ℕ) (items : List EventState) (i : ℕ) (d : EventState) → i < length items → eqb (get_or items i d).number n ≡ true
    → ((k : ℕ) → k < i → eqb (get_or items k d).number n ≡ false) → event_of n (kept items) ≡ event_in (get_or items i d)
found n [] i d within here before = absurd (omega arith)
found n (x ∷ items) zero d within here before = ap (λ b. cond b (event_in x) (event_of n (kept items))) here
found n (x ∷ items) (suc i) d within here before =
    ap (λ b. cond b (event_in x) (event_of n (kept items))) (before 0 (omega arith))
    ∙ found n items i d (omega arith) here (λ k below. before (suc k) (omega arith))

missing : (n : ℕ) (items : List EventState) (d : EventState) → ((k : ℕ) → k < length items → eqb (get_or items k d).number n ≡ false) → event_of n (kept items) ≡ unused n
missing n [] d none = refl
missing n (x ∷ items) d none =
    ap (λ b. cond b (event_in x) (event_of n (kept items))) (none 0 (omega arith)) ∙ missing n items d (λ k below. none (suc k) (omega arith))

pub found-at : (n : ℕ) (items : List EventState) (i : ℕ) (d : EventState) → position (λ (e : EventState). e.number == n) items ≡ Some i → event_of n (kept items) ≡ event_in (get_or items i d)
found-at n items i d at =
    let p = position-Some (λ (e : EventState). e.number == n) items i d at in found n items i d p.0 p.1 p.2

none-passes : (n : ℕ) (items : List EventState) (d : EventState) → position (λ (e : EventState). e.number == n) items ≡ None → (k : ℕ) → k < length items → eqb (get_or items k d).number n ≡ false
none-passes n items d at k below = by-test (ltb-of (position_or_len (λ (e : EventState). e.number == n) items) (length items)) refl at where
  ltb-of : ℕ → ℕ → Bool
  ltb-of a b = nat_lt a b

  by-test : (b : Bool) → ltb-of (position_or_len (λ (e : EventState). e.number == n) items) (length items) ≡ b
      → cond b (Some (position_or_len (λ (e : EventState). e.number == n) items)) None ≡ None → eqb (get_or items k d).number n ≡ false
  by-test true e at = absurd cc
  by-test false e at = fails_before_first (λ (e : EventState). e.number == n) items k d (omega (arith, ltb-false _ _ e))

pub missing-at : (n : ℕ) (items : List EventState) (d : EventState) → position (λ (e : EventState). e.number == n) items ≡ None → event_of n (kept items) ≡ unused n
missing-at n items d at = missing n items d (none-passes n items d at)

over : (b c : Bool) (x y z : Event) → (b ≡ true → c ≡ true → ⊥) → cond b x (cond c y z) ≡ cond c y (cond b x z)
over true true x y z apart = absurd (apart refl refl)
over true false x y z apart = refl
over false c x y z apart = refl

replaced : (s : EventState) (n : ℕ) (items : List EventState) (i : ℕ) (d : EventState) → i < length items → eqb (get_or items i d).number s.number ≡ true
    → ((k : ℕ) → k < i → eqb (get_or items k d).number s.number ≡ false) → event_of n (kept (set items i s)) ≡ cond (eqb s.number n) (event_in s) (event_of n (kept items))
replaced s n [] i d within here before = absurd (omega arith)
replaced s n (x ∷ items) zero d within here before =
    by-number (eqb s.number n) (ap (λ m. eqb m n) (eqb-true x.number s.number here)) where
      by-number : (b : Bool) → eqb x.number n ≡ b → cond b (event_in s) (event_of n (kept items)) ≡ cond b (event_in s) (cond (eqb x.number n) (event_in x) (event_of n (kept items)))
      by-number true e = refl
      by-number false e = sym (ap (λ c. cond c (event_in x) (event_of n (kept items))) e)
replaced s n (x ∷ items) (suc i) d within here before =
    let other : eqb x.number s.number ≡ false = before 0 (omega arith) in
    ap (λ e. cond (eqb x.number n) (event_in x) e) (replaced s n items i d (omega arith) here (λ k below. before (suc k) (omega arith)))
    ∙ over (eqb x.number n) (eqb s.number n) (event_in x) (event_in s) (event_of n (kept items))
    (λ a b. let same : eqb x.number s.number ≡ true = eq-eqb x.number s.number (eqb-true x.number n a ∙ sym (eqb-true s.number n b)) in absurd cc)

pub replaced-at : (s : EventState) (n : ℕ) (items : List EventState) (i : ℕ) (d : EventState) → position (λ (e : EventState). e.number == s.number) items ≡ Some i
    → event_of n (kept (set items i s)) ≡ cond (eqb s.number n) (event_in s) (event_of n (kept items))
replaced-at s n items i d at =
    let p = position-Some (λ (e : EventState). e.number == s.number) items i d at in replaced s n items i d p.0 p.1 p.2

pushed : (s : EventState) (n : ℕ) (items : List EventState) (d : EventState) → ((k : ℕ) → k < length items → eqb (get_or items k d).number s.number ≡ false)
    → event_of n (kept (items ++ s ∷ [])) ≡ cond (eqb s.number n) (event_in s) (event_of n (kept items))
pushed s n [] d none = refl
pushed s n (x ∷ items) d none =
    let other : eqb x.number s.number ≡ false = none 0 (omega arith) in
    ap (λ e. cond (eqb x.number n) (event_in x) e) (pushed s n items d (λ k below. none (suc k) (omega arith)))
    ∙ over (eqb x.number n) (eqb s.number n) (event_in x) (event_in s) (event_of n (kept items))
    (λ a b. let same : eqb x.number s.number ≡ true = eq-eqb x.number s.number (eqb-true x.number n a ∙ sym (eqb-true s.number n b)) in absurd cc)

pub pushed-at : (s : EventState) (n : ℕ) (items : List EventState) (d : EventState) → position (λ (e : EventState). e.number == s.number) items ≡ None
    → event_of n (kept (items ++ s ∷ [])) ≡ cond (eqb s.number n) (event_in s) (event_of n (kept items))
pushed-at s n items d at = pushed s n items d (none-passes s.number items d at)

-- an event that rests is as one that was never used
resting : (s : EventState) → is_at_rest (event_in s) ≡ true → event_in s ≡ unused s.number
resting s rests = all s.held s.waits s.reads s.writes s.armed_to_read s.armed_to_write rests where
  all : (h w r t a b : Bool) → (not h && not w && not r && not t && not a && not b) ≡ true
      → record { number = s.number; held = h; waits = w; reads = r; writes = t; armed_to_read = a; armed_to_write = b } ≡ unused s.number
  all false false false false false false e = refl
  all true w r t a b e = absurd cc
  all false true r t a b e = absurd cc
  all false false true t a b e = absurd cc
  all false false false true a b e = absurd cc
  all false false false false true b e = absurd cc
  all false false false false false true e = absurd cc

pub unkept-at : (s : EventState) (n : ℕ) (items : List EventState) (d : EventState) → position (λ (e : EventState). e.number == s.number) items ≡ None
    → is_at_rest (event_in s) ≡ true → event_of n (kept items) ≡ cond (eqb s.number n) (event_in s) (event_of n (kept items))
unkept-at s n items d at rests = by-number (eqb s.number n) refl where
  by-number : (b : Bool) → eqb s.number n ≡ b → event_of n (kept items) ≡ cond b (event_in s) (event_of n (kept items))
  by-number true e =
      subst (λ m. event_of m (kept items) ≡ event_in s) (eqb-true s.number n e) (missing-at s.number items d at ∙ sym (resting s rests))
  by-number false e = refl

-- a table in which one event has become something else
pub puts : (old new : EventTable) (s : EventState) → ((n : ℕ) → event_of n (kept new.used.items) ≡ cond (eqb s.number n) (event_in s) (event_of n (kept old.used.items)))
    → (how : Event → Event) (events : List Event) → KeepsNumber how → Holds old events → event_in s ≡ how (event_of s.number events) → Holds new (change s.number how events)
puts old new s becomes how events keeps is does = record {
  rising = rising-change s.number how keeps events is.rising;
  each = λ n.
      becomes n ∙ (ap (λ e. cond (eqb s.number n) (event_in s) e) (is.each n)
      ∙ (by-number n (eqb s.number n) refl ∙ sym (changed s.number how keeps n events is.rising)));
} where
  by-number : (n : ℕ) (b : Bool) → eqb s.number n ≡ b → cond b (event_in s) (event_of n events) ≡ cond b (how (event_of n events)) (event_of n events)
  by-number n true e = does ∙ ap (λ m. how (event_of m events)) (eqb-true s.number n e)
  by-number n false e = refl

-- every event is swept
sweeps : (sweep : Sweep) (items : List EventState) → kept (map (swept_state sweep) items) ≡ map (swept sweep) (kept items)
sweeps sweep [] = refl
sweeps Deselect (e ∷ items) = ap (λ es. event_in (swept_state Deselect e) ∷ es) (sweeps Deselect items)
sweeps Arm (e ∷ items) = ap (λ es. event_in (swept_state Arm e) ∷ es) (sweeps Arm items)
sweeps GiveUp (e ∷ items) = ap (λ es. event_in (swept_state GiveUp e) ∷ es) (sweeps GiveUp items)

pub keeps-number : (sweep : Sweep) → KeepsNumber (swept sweep)
keeps-number Deselect e = refl
keeps-number Arm e = refl
keeps-number GiveUp e = refl

leaves : (sweep : Sweep) (n : ℕ) → swept sweep (unused n) ≡ unused n
leaves Deselect n = refl
leaves Arm n = refl
leaves GiveUp n = refl

pub sweeps-all : (sweep : Sweep) (old new : EventTable) → new.used.items ≡ map (swept_state sweep) old.used.items
    → (events : List Event) → Holds old events → Holds new (map (swept sweep) events)
sweeps-all sweep old new items events is = record {
  rising = rising-map (swept sweep) (keeps-number sweep) events is.rising;
  each = λ n.
      ap (λ xs. event_of n (kept xs)) items ∙ (ap (event_of n) (sweeps sweep old.used.items)
      ∙ (event-map (swept sweep) (keeps-number sweep) n (leaves sweep n) (kept old.used.items)
      ∙ (ap (swept sweep) (is.each n) ∙ sym (event-map (swept sweep) (keeps-number sweep) n (leaves sweep n) events))));
}

-- the selections of effects, one effect after another
pub selected-cons : (e : Effect) (effects : List Effect) (events : List Event) → selected_by effects (selected_by (e ∷ []) events) ≡ selected_by (e ∷ effects) events
selected-cons (effect.Message flag bytes) effects events = refl
selected-cons effect.Eof effects events = refl
selected-cons (effect.Status status) effects events = refl
selected-cons (effect.Busy busy) effects events = refl
selected-cons (effect.Select event dir on) effects events = refl
selected-cons (effect.Unuse event) effects events = refl
selected-cons (effect.Async number key code input) effects events = refl
selected-cons (effect.Watch process) effects events = refl
selected-cons (effect.Reply bytes) effects events = refl
selected-cons effect.ReplyBadarg effects events = refl
selected-cons (effect.Fail reason) effects events = refl

-- each event stands under its number

lifted : (e : Event) (all events : List Event) → AllByRecursion (λ y. e.number < y) (numbers events) → AllByRecursion (λ x. event_of x.number all ≡ x) events
    → AllByRecursion (λ x. event_of x.number (e ∷ all) ≡ x) events
lifted e all [] above own = tt
lifted e all (x ∷ events) above own =
    let less : e.number < x.number = above.0 in
    (ap (λ b. cond b e (event_of x.number all)) (ne_eqb e.number x.number (λ equal. omega arith)) ∙ own.0, lifted e all events above.1 own.1)

stands : (events : List Event) → Rising (numbers events) → AllByRecursion (λ x. event_of x.number events ≡ x) events
stands [] up = tt
stands (e ∷ events) up =
    (ap (λ b. cond b e (event_of e.number events)) (eq-eqb e.number e.number refl), lifted e events events up.0 (stands events up.1))

given-back-at : (events : List Event) → list_all is_given_back events ≡ true → (n : ℕ) → is_given_back (event_of n events) ≡ true
given-back-at [] all n = refl
given-back-at (e ∷ events) all n =
    let both = and_parts (is_given_back e) (list_all is_given_back events) all in
    by-number (eqb e.number n) both.0 (given-back-at events both.1 n) where
      by-number : (b : Bool) → is_given_back e ≡ true → is_given_back (event_of n events) ≡ true → is_given_back (cond b e (event_of n events)) ≡ true
      by-number true here more = here
      by-number false here more = more

all-given-back : (all events : List Event) → AllByRecursion (λ x. event_of x.number all ≡ x) events → ((n : ℕ) → is_given_back (event_of n all) ≡ true) → list_all is_given_back events ≡ true
all-given-back all [] own each = refl
all-given-back all (e ∷ events) own each =
    ap (λ b. b && list_all is_given_back events) (ap is_given_back (sym own.0) ∙ each e.number) ∙ all-given-back all events own.1 each

-- an event that isn't given back
pub held-back : (table : EventTable) (events : List Event) (n : ℕ) → Holds table events → is_given_back (event_of n events) ≡ false → false ≡ list_all is_given_back events
held-back table events n is kept = by-all (list_all is_given_back events) refl where
  by-all : (b : Bool) → list_all is_given_back events ≡ b → false ≡ b
  by-all true all = absurd (let given = given-back-at events all n in cc)
  by-all false all = refl

unused-given-back : (events : List Event) (items : List EventState) (n : ℕ) → AllByRecursion (λ (e : EventState). is_given_back (event_of e.number events) ≡ true) items
    → event_of n (kept items) ≡ event_of n events → is_given_back (event_of n events) ≡ true
unused-given-back events [] n each same = ap is_given_back (sym same)
unused-given-back events (x ∷ items) n each same = by-number (eqb x.number n) refl (λ rest. unused-given-back events items n each.1 rest) where
  by-number : (b : Bool) → eqb x.number n ≡ b → (event_of n (kept items) ≡ event_of n events → is_given_back (event_of n events) ≡ true) → is_given_back (event_of n events) ≡ true
  by-number true e more = subst (λ m. is_given_back (event_of m events) ≡ true) (eqb-true x.number n e) each.0
  by-number false e more = more (ap (λ b. cond b (event_in x) (event_of n (kept items))) (sym e) ∙ same)

-- each event that is kept is given back
pub given-back : (table : EventTable) (events : List Event) → Holds table events
    → AllByRecursion (λ (e : EventState). is_given_back (event_of e.number events) ≡ true) table.used.items → true ≡ list_all is_given_back events
given-back table events is each =
    sym (all-given-back events events (stands events is.rising) (λ n. unused-given-back events table.used.items n each (is.each n)))

-- a step that is put after what was got

pub then-ok : {T F : Type 0} {P Q : Type 0} (r : Result T F) → (P → Q) → OnOk r P → OnOk r Q
then-ok (Ok value) f p = f p
then-ok (Err fault) f p = p

pub keeps-select : (dir : Dir) (on : Bool) → KeepsNumber (select dir on)
keeps-select Read on e = refl
keeps-select Write on e = refl

pub keeps-disarm : (dir : Dir) → KeepsNumber (disarm dir)
keeps-disarm Read e = refl
keeps-disarm Write e = refl

pub keeps-give_up : KeepsNumber give_up
keeps-give_up e = refl

pub keeps-drop : KeepsNumber drop_event
keeps-drop e = refl

abbrev pub Puts : EventTable → EventTable → EventState → Type 0
Puts old new s = (how : Event → Event) (events : List Event) → KeepsNumber how → Holds old events → event_in s ≡ how (event_of s.number events) → Holds new (change s.number how events)

pub steps : (old new : EventTable) (got s : EventState) (n : ℕ) (how : Event → Event) → KeepsNumber how → ((events : List Event) → Holds old events → event_in got ≡ event_of n events)
    → event_in s ≡ how (event_in got) → Puts old new s → (events : List Event) → Holds old events → Holds new (change n how events)
steps old new got s n how keeps gets made put events is =
    let e : event_in s ≡ how (event_of n events) = made ∙ ap how (gets events is) in
    let num : s.number ≡ n = ap (λ (x : Event). x.number) e ∙ (keeps (event_of n events) ∙ number-of n events) in
    subst (λ m. Holds new (change m how events)) num (put how events keeps is (subst (λ m. event_in s ≡ how (event_of m events)) (sym num) e))

pub from-index : {X : Type 0} (P : X → Type 0) (xs : List X) (d : X) → ((k : ℕ) → k < length xs → P (get_or xs k d)) → AllByRecursion P xs
from-index P [] d each = tt
from-index P (x ∷ xs) d each = (each 0 (omega arith), from-index P xs d (λ k below. each (suc k) (omega arith)))

-- so far as the first events are given back, the next one is too
pub more-given-back : (items : List EventState) (events : List Event) (i : ℕ) (d x : EventState) → i < length items → x ≡ get_or items i x
    → ((k : ℕ) → k < i → is_given_back (event_of (get_or items k d).number events) ≡ true) → is_given_back (event_of x.number events) ≡ true
    → (k : ℕ) → k < i + 1 → is_given_back (event_of (get_or items k d).number events) ≡ true
more-given-back items events i d x within is before here k below = elim (cases_lt k i) [
  | inl less ↦ before k less
  | inr more ↦
      let same : k ≡ i = omega arith in
      subst (λ (e : EventState). is_given_back (event_of e.number events) ≡ true) (get_or_read items i x within is d ∙ ap (λ m. get_or items m d) (sym same)) here
]

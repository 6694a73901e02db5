-- How often a poller tells of an entry.
use Rattle.std.proofs.Common.{◌≡◌, ℕ, ◌+◌, ◌≤◌, ◌==◌, Bool, true, false, ◌||◌, ◌&&◌, List, [], ◌∷◌, ◌++◌, length, map, filter, drop, count_by, cond, refl, sym, ap, ◌∙◌, subst, arith, eqb-true, append_assoc}
use Rattle.std.specs.List.{list_any, AllByRecursion}
use Rattle.std.specs.List.Sorted.{IsStrictlySortedBy}
use Rattle.std.specs.declared.cmp.Ordering.TheVariants.{Less}
use Rattle.std.proofs.lemmas.List.Sums.{sum_by-cons, sum_by-append}
use Rattle.ready_select.specs.declared.armed.Armed.{Armed}
use Rattle.ready_select.specs.declared.ask.PollAsk.{PollAsk}
use Rattle.ready_select.specs.declared.ask.PollAsk.TheVariants.{Arm, Drop, Finish}
use Rattle.port_model.specs.declared.event.Dir.TheVariants.{Read, Write}
use Rattle.outside.specs.Causes.{WaitErr}
use Rattle.outside.specs.declared.poll_set.PollFault.{PollFault}
use Rattle.outside.specs.declared.poll_set.PollFault.TheVariants.{Failed, NoMemory}
use Rattle.ready_select.specs.Sets.{has}
use Rattle.ready_select.specs.Order.{armed_cmp}
use Rattle.ready_select.specs.Polling.{arm_ask, entry_of, same_armed, same_bool, is_drop}
use Rattle.ready_select.specs.Answered.{tells, times, IsAnswered, all_found, last_answers, RoundsAreAnswered}
use Rattle.ready_select.proofs.Entries.{armed_total, armed_ties}
use Rattle.ready_select.proofs.Sorted.{none_above, only}

count-cons : {X : Type 0} (p : X → Bool) (x : X) (xs : List X) → count_by p (x ∷ xs) ≡ cond (p x) 1 0 + count_by p xs
count-cons p x xs = sum_by-cons (λ y. cond (p y) 1 0) x xs

count-append : {X : Type 0} (p : X → Bool) (xs ys : List X) → count_by p (xs ++ ys) ≡ count_by p xs + count_by p ys
count-append p xs ys = sum_by-append (λ y. cond (p y) 1 0) xs ys

count-none : {X : Type 0} (p : X → Bool) (xs : List X) → list_any p xs ≡ false → count_by p xs ≡ 0
count-none p [] none = refl
count-none p (x ∷ xs) none =
    elim (p x) as (λ b. p x ≡ b → (b || list_any p xs) ≡ false → count_by p (x ∷ xs) ≡ 0) [
      | true ↦ λ _ clash. absurd (cc)
      | false ↦ λ fails rest. count-cons p x xs ∙ rw (fails, count-none p xs rest) refl
    ] refl none

drops_tell_nothing : (a : Armed) (asks : List PollAsk) → count_by (tells a) (filter is_drop asks) ≡ 0
drops_tell_nothing a [] = refl
drops_tell_nothing a (Arm port event dir ∷ asks) = drops_tell_nothing a asks
drops_tell_nothing a (Drop port event ∷ asks) = count-cons (tells a) (Drop port event) (filter is_drop asks) ∙ rw (drops_tell_nothing a asks) refl
drops_tell_nothing a (Finish ∷ asks) = drops_tell_nothing a asks

tells-arm_ask : (a b : Armed) → tells a (arm_ask b) ≡ same_armed b a
tells-arm_ask a b = elim b.is_write as (λ w. same_armed (entry_of b.port b.event (cond w Write Read)) a ≡ ((b.event == a.event) && ((b.port == a.port) && same_bool w a.is_write))) [ true ↦ refl | false ↦ refl ]

count-arm_asks : (a : Armed) (t : List Armed) → count_by (tells a) (map arm_ask t) ≡ count_by (λ b. same_armed b a) t
count-arm_asks a [] = refl
count-arm_asks a (b ∷ t) =
    count-cons (tells a) (arm_ask b) (map arm_ask t) ∙ rw (tells-arm_ask a b, count-arm_asks a t) refl ∙ sym (count-cons (λ c. same_armed c a) b t)

none_later : (a b : Armed) (p : Armed → Bool) (t : List Armed) → same_armed b a ≡ true → AllByRecursion (λ c. armed_cmp b c ≡ Less) t → list_any (λ c. same_armed c a) (filter p t) ≡ false
none_later a b p t same all = fewer p t (none_above armed_cmp armed_total (λ c. same_armed c a) a b t (only armed_cmp armed_total same_armed armed_ties a) (only armed_cmp armed_total same_armed armed_ties a b same) all)
  where
    fewer : (p : Armed → Bool) (t : List Armed) → list_any (λ c. same_armed c a) t ≡ false → list_any (λ c. same_armed c a) (filter p t) ≡ false
    fewer p [] none = refl
    fewer p (c ∷ t) none =
        elim (same_armed c a) as (λ s. same_armed c a ≡ s → (s || list_any (λ d. same_armed d a) t) ≡ false → list_any (λ d. same_armed d a) (filter p (c ∷ t)) ≡ false) [
          | true ↦ λ _ clash. absurd (cc)
          | false ↦ λ out rest. elim (p c) as (λ q. list_any (λ d. same_armed d a) (cond q (c ∷ filter p t) (filter p t)) ≡ false) [ true ↦ rw out (fewer p t rest) | false ↦ fewer p t rest ]
        ] refl none

same_event : (b a : Armed) → same_armed b a ≡ true → b.event ≡ a.event
same_event b a same = eqb-true b.event a.event (front (b.event == a.event) _ same)
  where
    front : (x y : Bool) → (x && y) ≡ true → x ≡ true
    front true y both = refl
    front false y both = both

-- of a sorted table one entry at most is the same as another, and its event passes
once : (a : Armed) (q : ℕ → Bool) (t : List Armed) → IsStrictlySortedBy armed_cmp t → count_by (λ b. same_armed b a) (filter (λ b. q b.event) t) ≤ cond (q a.event) 1 0
unfolding IsStrictlySortedBy
once a q [] sorted = omega arith
once a q (b ∷ t) sorted =
    elim (q b.event) as (λ passes. q b.event ≡ passes → count_by (λ c. same_armed c a) (cond passes (b ∷ filter (λ c. q c.event) t) (filter (λ c. q c.event) t)) ≤ cond (q a.event) 1 0) [
      | true ↦ λ passes. with_it passes (once a q t sorted.1)
      | false ↦ λ _. once a q t sorted.1
    ] refl
  where
    with_it : q b.event ≡ true → count_by (λ c. same_armed c a) (filter (λ c. q c.event) t) ≤ cond (q a.event) 1 0 → count_by (λ c. same_armed c a) (b ∷ filter (λ c. q c.event) t) ≤ cond (q a.event) 1 0
    with_it passes rest =
        elim (same_armed b a) as (λ s. same_armed b a ≡ s → count_by (λ c. same_armed c a) (b ∷ filter (λ c. q c.event) t) ≤ cond (q a.event) 1 0) [
          | true ↦ λ same.
              let none : count_by (λ c. same_armed c a) (filter (λ c. q c.event) t) ≡ 0 = count-none (λ c. same_armed c a) _ (none_later a b (λ c. q c.event) t same sorted.0) in
              let here : q a.event ≡ true = subst (λ e. q e ≡ true) (same_event b a same) passes in
              rw (count-cons (λ c. same_armed c a) b (filter (λ c. q c.event) t), same, none, here) (omega arith)
          | false ↦ λ differ. rw (count-cons (λ c. same_armed c a) b (filter (λ c. q c.event) t), differ) (omega arith)
        ] refl

at_least_once : (e : ℕ) (events : List ℕ) → cond (has e events) 1 0 ≤ times e events
at_least_once e [] = omega arith
at_least_once e (x ∷ xs) =
    rw (count-cons (λ y. y == e) x xs) (elim (x == e) as (λ b. cond (b || has e xs) 1 0 ≤ cond b 1 0 + times e xs) [
      | true ↦ omega arith
      | false ↦ let rest = at_least_once e xs in omega arith
    ])

drop_front : {X : Type 0} (xs ys : List X) → drop (length xs) (xs ++ ys) ≡ ys
drop_front [] ys = refl
drop_front (x ∷ xs) ys = drop_front xs ys

-- a round that appends the drops and the entries that were answered
pub answered-round : (before after : List ℕ) (events : List ℕ) (asks : List PollAsk) (t : List Armed) (found found1 found2 : List PollAsk) → IsStrictlySortedBy armed_cmp t
    → after ≡ before ++ events → found1 ≡ found ++ filter is_drop asks → found2 ≡ found1 ++ map arm_ask (filter (λ b. has b.event events) t)
    → IsAnswered before after (drop (length found) found2)
answered-round before after events asks t found found1 found2 sorted told given arms =
    subst (λ now. IsAnswered before now (drop (length found) found2)) (sym told)
    (record {
      each = λ a. subst (λ added. count_by (tells a) added + times a.event before ≤ times a.event (before ++ events)) (sym whole)
          (let zero_drops = drops_tell_nothing a asks in
          let few = once a (λ e. has e events) t sorted in
          let some = at_least_once a.event events in
          rw (count-append (tells a) (filter is_drop asks) (map arm_ask (filter (λ b. has b.event events) t)), count-append (λ e. e == a.event) before events, zero_drops, count-arm_asks a (filter (λ b. has b.event events) t)) (omega arith));
    })
  where
    whole : drop (length found) found2 ≡ filter is_drop asks ++ map arm_ask (filter (λ b. has b.event events) t)
    whole = ap (drop (length found)) (arms ∙ ap (λ xs. xs ++ map arm_ask (filter (λ b. has b.event events) t)) given ∙ append_assoc found _ _) ∙ drop_front found _

-- a round that appends the drops alone
pub answered-none : (before after : List ℕ) (asks : List PollAsk) (found found1 : List PollAsk) → after ≡ before → found1 ≡ found ++ filter is_drop asks → IsAnswered before after (drop (length found) found1)
answered-none before after asks found found1 told given =
    subst (λ now. IsAnswered before now (drop (length found) found1)) (sym told)
    (record {
      each = λ a. subst (λ added. count_by (tells a) added + times a.event before ≤ times a.event before) (sym (ap (drop (length found)) given ∙ drop_front found _))
          (rw (drops_tell_nothing a asks) (omega arith));
    })

answered-chain : (x y z : List ℕ) (f g : List PollAsk) → IsAnswered x y f → IsAnswered y z g → IsAnswered x z (f ++ g)
answered-chain x y z f g left right = record { each = λ a. let l = left.each a in let r = right.each a in rw (count-append (tells a) f g) (omega arith) }

answered-nothing : (x : List ℕ) → IsAnswered x x []
answered-nothing x = record { each = λ a. omega arith }

pub answered-rounds : RoundsAreAnswered
answered-rounds before [] all = answered-nothing before
answered-rounds before (round ∷ rounds) all = answered-chain before round.after (last_answers round.after rounds) round.found (all_found rounds) all.0 (answered-rounds round.after rounds all.1)

-- a wait that gave no events answered none
pub none_answered : (faults faults' : ℕ) (before after : List ℕ) (fault : PollFault) → WaitErr faults faults' before after fault → after ≡ before
none_answered faults faults' before after Failed err = err.1
none_answered faults faults' before after NoMemory err = err.1

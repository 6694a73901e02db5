-- Selections: that a selected event is held, how many events are used, and what follows where nothing is to be done.
use Rattle.std.proofs.Common.{◌≡◌, ℕ, ◌+◌, ◌<◌, ◌≤◌, ◌==◌, cond, Bool, true, false, ◌||◌, ◌&&◌, not, List, [], ◌∷◌, ◌++◌, length, refl, sym, ap, ◌∙◌, subst, arith, unwrap_or, inl, inr, ◌⊎◌, le-leb, take, get_or, Result, Ok, Err, is_ok}
use Rattle.std.specs.Prelude.{nat_lt, nat_le, count_by, filter, OnOk, OnErr}
use Rattle.std.specs.List.{AllByRecursion, list_all}
use Rattle.std.specs.List.Sorted.{IsStrictlyIncreasing}
use Rattle.std.proofs.lemmas.List.Sums.{sum_by-cons}
use Rattle.std.proofs.lemmas.Bool.{ltb-true, lt-ltb, cases_order}
use Rattle.std.proofs.lemmas.List.{append-nil}
use Rattle.std.proofs.lemmas.List.Elements.{filter_more}
use Rattle.port_model.specs.declared.event.Dir.{Dir}
use Rattle.port_model.specs.declared.event.Dir.TheVariants.{Read, Write}
use Rattle.port_model.specs.declared.effect.Effect.TheVariants as effect
use Rattle.ready_select.specs.Latest.{latest, when}
use Rattle.ready_select.specs.Sets.{Events, has, in_dir, same_dir}
use Rattle.ready_select.specs.Events as by
use Rattle.ready_select.specs.Events.{Call, Select, Unuse, Arm, Deliver, Dropped, IsAfter, Makes, holds, selects, is_held, is_waiting}
use Rattle.port_history.specs.Events.{Event, change, event_of, unused, numbers, is_selected, is_armed_in, select, read_no_more}
use Rattle.port_history.specs.Laws.{is_given_back}
use Rattle.port_events.specs.Table.{Agrees, IsReached, Changes, held_of, is_empty}
use Rattle.port_events.specs.Asks.{is_used, has_room}
use Rattle.port_events.specs.Parts.{arm_in}
use Rattle.port_events.proofs.Rising.{Rising, lower, absent, up-from, one-list, has-filter, up-filter, up-those, has-those, count-those, none-used}
use Rattle.port_events.proofs.Steps.{selected-is, agrees-still, agrees-other, made-select, made-arm, keeps-select, keeps-arm_in}

goes_on : (b c on s h : Bool) → (s ≡ true → h ≡ true) → unwrap_or (when (b && c) on) s ≡ true → unwrap_or (when b true) h ≡ true
goes_on true c on s h imp is = refl
goes_on false c on s h imp is = imp is

ends : (b s h : Bool) → (s ≡ true → h ≡ true) → unwrap_or (when b false) s ≡ true → unwrap_or (when b false) h ≡ true
ends true s h imp is = is
ends false s h imp is = imp is

-- an event that is selected by the last call is held by it
selected_held : (n : ℕ) (dir : Dir) (calls : List Call) (s h : Bool) → (s ≡ true → h ≡ true)
    → latest (selects n dir) s calls ≡ true → latest (holds n) h calls ≡ true
selected_held n dir [] s h imp is = imp is
selected_held n dir (Select e d on ∷ calls) s h imp is =
    selected_held n dir calls (unwrap_or (when ((e == n) && same_dir d dir) on) s) (unwrap_or (when (e == n) true) h) (goes_on (e == n) (same_dir d dir) on s h imp) is
selected_held n dir (Unuse e answer ∷ calls) s h imp is =
    selected_held n dir calls (unwrap_or (when (e == n) false) s) (unwrap_or (when (e == n) false) h) (ends (e == n) s h imp) is
selected_held n dir (Arm e d ∷ calls) s h imp is = selected_held n dir calls s h imp is
selected_held n dir (Deliver e d answer ∷ calls) s h imp is = selected_held n dir calls s h imp is
selected_held n dir (Dropped e answer ∷ calls) s h imp is = selected_held n dir calls s h imp is

module _ (s : Events) (reached : IsReached s) (n : ℕ) (dir : Dir) (chosen : has n (in_dir dir s.selected) ≡ true) where
  held_now : is_held reached.calls n ≡ true
  held_now = selected_held n dir reached.calls false false (λ h. h) (sym (reached.after.selected n dir) ∙ chosen)

  pub selected-free : has n s.waiting ≡ false
  selected-free = reached.after.waiting n ∙ (sym (ap (λ h. h && is_waiting reached.calls n) held_now) ∙ reached.after.apart n)

  pub selected-listed : has n s.listed ≡ true
  selected-listed = reached.after.listed n ∙ ap (λ h. h || is_waiting reached.calls n) held_now

-- no more reading

pub read-off : (old new : Events) (n : ℕ) → IsReached old → has n (in_dir Read old.selected) ≡ true → Makes old new (Select n Read false) → Changes old new n read_no_more
read-off old new n reached chosen makes events a =
    let made = made-select old new n reached Read false makes (selected-free old reached n Read chosen) events a in
    let held = (a.lawful n).selected Read (sym (a.selected n Read) ∙ chosen) in
    agrees-other n read_no_more (λ e. refl) (select Read false) (keeps-select Read false) new events (up-from (numbers events) a.rising) made
    (ap (λ h. record (event_of n events) { held = h; reads = false }) (sym held))

pub read-off-still : (s : Events) (n : ℕ) → has n (in_dir Read s.selected) ≡ false → Changes s s n read_no_more
read-off-still s n out events a =
    agrees-still n read_no_more (λ e. refl) s events a
    (ap (λ r. record (event_of n events) { reads = r }) (sym (sym (a.selected n Read) ∙ out)))

-- arming

arm_same : (dir : Dir) (e : Event) → is_armed_in dir e ≡ true → arm_in dir e ≡ e
arm_same Read e h = ap (λ r. record e { armed_to_read = r }) (ap (λ b. b || e.reads) h ∙ sym h)
arm_same Write e h = ap (λ r. record e { armed_to_write = r }) (ap (λ b. b || e.writes) h ∙ sym h)

arm_none : (dir : Dir) (e : Event) → is_armed_in dir e ≡ false → is_selected dir e ≡ false → arm_in dir e ≡ e
arm_none Read e h s = ap (λ r. record e { armed_to_read = r }) (ap (λ b. b || e.reads) h ∙ (s ∙ sym h))
arm_none Write e h s = ap (λ r. record e { armed_to_write = r }) (ap (λ b. b || e.writes) h ∙ (s ∙ sym h))

pub arm-armed : (s : Events) (n : ℕ) (dir : Dir) → has n (in_dir dir s.armed) ≡ true → Changes s s n (arm_in dir)
arm-armed s n dir there events a =
    agrees-still n (arm_in dir) (keeps-arm_in dir) s events a (arm_same dir (event_of n events) (sym (a.armed n dir) ∙ there))

pub arm-armed-answer : (s : Events) (n : ℕ) (dir : Dir) → has n (in_dir dir s.armed) ≡ true → (events : List Event) → Agrees s events
    → false ≡ (is_selected dir (event_of n events) && not (is_armed_in dir (event_of n events)))
arm-armed-answer s n dir there events a =
    sym (ap (λ b. is_selected dir (event_of n events) && not b) (sym (a.armed n dir) ∙ there) ∙ none (is_selected dir (event_of n events))) where
      none : (b : Bool) → (b && false) ≡ false
      none true = refl
      none false = refl

pub arm-answer : (s : Events) (reached : IsReached s) (n : ℕ) (dir : Dir) (answer : Bool) → has n (in_dir dir s.armed) ≡ false
    → ((calls : List Call) → IsAfter calls s → answer ≡ by.is_selected calls n dir) → (events : List Event) → Agrees s events
    → answer ≡ (is_selected dir (event_of n events) && not (is_armed_in dir (event_of n events)))
arm-answer s reached n dir answer out tells events a =
    tells reached.calls reached.after ∙ (sym (reached.after.selected n dir) ∙ (a.selected n dir
    ∙ (sym (both (is_selected dir (event_of n events))) ∙ ap (λ b. is_selected dir (event_of n events) && not b) (sym (sym (a.armed n dir) ∙ out))))) where
      both : (b : Bool) → (b && true) ≡ b
      both true = refl
      both false = refl

-- room

only : (b : Bool) → (b || false) ≡ true → b ≡ true
only true h = refl
only false h = h

numbers-used : (s : Events) (events : List Event) → Agrees s events → IsStrictlyIncreasing s.listed → numbers (filter is_used events) ≡ s.listed
numbers-used s events a rising =
    let up = up-from (numbers events) a.rising in
    one-list (numbers (filter is_used events)) s.listed (up-those is_used events up) (up-from s.listed rising)
    (λ z. has-those is_used (λ n. refl) z events up ∙ sym (a.listed z))

pub count-used : (s : Events) (events : List Event) → Agrees s events → IsStrictlyIncreasing s.listed → count_by is_used events ≡ length s.listed
count-used s events a rising = count-those is_used events ∙ ap length (numbers-used s events a rising)

pub empty-is : (s : Events) (events : List Event) → Agrees s events → IsStrictlyIncreasing s.listed → is_empty s.listed ≡ list_all is_given_back events
empty-is s events a rising = ap is_empty (sym (numbers-used s events a rising)) ∙ none-used events

pub held-are : (s : Events) (events : List Event) → Agrees s events → IsStrictlyIncreasing s.listed
    → filter (λ event. not (has event s.waiting)) s.listed ≡ held_of events
held-are s events a rising =
    let up = up-from (numbers events) a.rising in
    one-list (filter (λ event. not (has event s.waiting)) s.listed) (held_of events)
    (up-filter (λ event. not (has event s.waiting)) s.listed (up-from s.listed rising)) (up-those (λ e. e.held) events up) (λ z.
    has-filter (λ event. not (has event s.waiting)) z s.listed
    ∙ (ap (λ b. b && not (has z s.waiting)) (a.listed z)
    ∙ (ap (λ b. ((event_of z events).held || (event_of z events).waits) && not b) (a.waiting z)
    ∙ (alone (event_of z events).held (event_of z events).waits (a.lawful z).apart
    ∙ sym (has-those (λ e. e.held) (λ n. refl) z events up)))))
  where
    alone : (h w : Bool) → (h && w) ≡ false → ((h || w) && not w) ≡ h
    alone true true p = absurd (cc)
    alone true false p = refl
    alone false true p = refl
    alone false false p = refl

select_used : (dir : Dir) (on : Bool) (e : Event) → is_used (select dir on e) ≡ true
select_used Read on e = refl
select_used Write on e = refl

count-cons : (e : Event) (events : List Event) → count_by is_used (e ∷ events) ≡ cond (is_used e) 1 0 + count_by is_used events
count-cons e events = sum_by-cons (λ x. cond (is_used x) 1 0) e events

-- a selection makes one event more, where it wasn't used
counted : (n : ℕ) (dir : Dir) (on : Bool) (events : List Event) → Rising events
    → count_by is_used (change n (select dir on) events) ≡ cond (is_used (event_of n events)) 0 1 + count_by is_used events
counted n dir on [] up = count-cons (select dir on (unused n)) [] ∙ ap (λ b. cond b 1 0 + 0) (select_used dir on (unused n))
counted n dir on (e ∷ events) up =
    elim (nat_lt n e.number) as (λ b. nat_lt n e.number ≡ b → count_by is_used (cond b (select dir on (unused n) ∷ e ∷ events) (cond (e.number == n) (select dir on e ∷ events) (e ∷ change n (select dir on) events)))
    ≡ cond (is_used (event_of n (e ∷ events))) 0 1 + count_by is_used (e ∷ events)) [
      | true ↦ λ below.
          count-cons (select dir on (unused n)) (e ∷ events)
          ∙ (ap (λ b. cond b 1 0 + count_by is_used (e ∷ events)) (select_used dir on (unused n))
          ∙ ap (λ b. cond b 0 1 + count_by is_used (e ∷ events)) (sym (ap is_used (absent n (e ∷ events) (below_all n e.number (numbers events) (ltb-true n e.number below) up.0)))))
      | false ↦ λ _. elim (e.number == n) as (λ b. count_by is_used (cond b (select dir on e ∷ events) (e ∷ change n (select dir on) events))
          ≡ cond (is_used (cond b e (event_of n events))) 0 1 + count_by is_used (e ∷ events)) [
            | true ↦
                count-cons (select dir on e) events
                ∙ (ap (λ b. cond b 1 0 + count_by is_used events) (select_used dir on e)
                ∙ (one_more (is_used e) (count_by is_used events) ∙ ap (λ k. cond (is_used e) 0 1 + k) (sym (count-cons e events))))
            | false ↦
                count-cons e (change n (select dir on) events)
                ∙ (ap (λ k. cond (is_used e) 1 0 + k) (counted n dir on events up.1)
                ∙ (swap (cond (is_used e) 1 0) (cond (is_used (event_of n events)) 0 1) (count_by is_used events)
                ∙ ap (λ k. cond (is_used (event_of n events)) 0 1 + k) (sym (count-cons e events))))
          ]
    ] refl
  where
    one_more : (b : Bool) (k : ℕ) → 1 + k ≡ cond b 0 1 + (cond b 1 0 + k)
    one_more true k = omega arith
    one_more false k = omega arith

    swap : (i j k : ℕ) → i + (j + k) ≡ j + (i + k)
    swap i j k = omega arith

    below_all : (m k : ℕ) (xs : List ℕ) → m < k → AllByRecursion (λ y. k < y) xs → AllByRecursion (λ y. m < y) (k ∷ xs)
    below_all m k xs less all = (less, lower m k xs less all)

module _ (s : Events) (n : ℕ) (dir : Dir) (on : Bool) (rising : IsStrictlyIncreasing s.listed) (events : List Event) (a : Agrees s events) where
  pub room-waits : has n s.waiting ≡ true → has_room (effect.Select n dir on ∷ []) events ≡ false
  room-waits waits = rw (sym (a.waiting n) ∙ waits) refl

  used-is : is_used (event_of n events) ≡ has n s.listed
  used-is = sym (a.listed n)

  count-is : count_by is_used (change n (select dir on) events) ≡ cond (has n s.listed) 0 1 + length s.listed
  count-is =
      counted n dir on events (up-from (numbers events) a.rising)
      ∙ (ap (λ b. cond b 0 1 + count_by is_used events) used-is ∙ ap (λ k. cond (has n s.listed) 0 1 + k) (count-used s events a rising))

  none : (b : Bool) → ((b && false) && true) ≡ false
  none true = refl
  none false = refl

  is_full : (b c : Bool) → (b || c) ≡ false → (b ≡ false) × (c ≡ false)
  is_full true c h = absurd (cc)
  is_full false c h = (refl, h)

  pub room-full : length s.listed ≤ 64 → (nat_lt (length s.listed) 64 || has n s.listed) ≡ false → has_room (effect.Select n dir on ∷ []) events ≡ false
  room-full few full =
      let (at_most, out) = is_full (nat_lt (length s.listed) 64) (has n s.listed) full in
      let above : 64 ≤ length s.listed = le-above (length s.listed) at_most in
      let all : length s.listed ≡ 64 = omega arith in
      let count : count_by is_used (change n (select dir on) events) ≡ 65 = count-is ∙ (ap (λ b. cond b 0 1 + length s.listed) out ∙ ap (λ k. 1 + k) all) in
      ap (λ k. (not (event_of n events).waits && nat_le k 64) && true) count ∙ none (not (event_of n events).waits)
    where
      le-above : (k : ℕ) → nat_lt k 64 ≡ false → 64 ≤ k
      le-above k out = elim (cases_order k 64) [
        | inl equal ↦ omega arith
        | inr (inl less) ↦ absurd (let below : nat_lt k 64 ≡ true = lt-ltb k 64 less in cc)
        | inr (inr more) ↦ omega arith
      ]

  pub room-yes : has n s.waiting ≡ false → length s.listed ≤ 64 → (nat_lt (length s.listed) 64 || has n s.listed) ≡ true → has_room (effect.Select n dir on ∷ []) events ≡ true
  room-yes free few room =
      let fits : nat_le (count_by is_used (change n (select dir on) events)) 64 ≡ true = ap (λ k. nat_le k 64) count-is ∙ fit (has n s.listed) room in
      ap (λ w. (not w && nat_le (count_by is_used (change n (select dir on) events)) 64) && true) (sym (a.waiting n) ∙ free)
      ∙ ap (λ b. b && true) fits
    where
      fit : (b : Bool) → (nat_lt (length s.listed) 64 || b) ≡ true → nat_le (cond b 0 1 + length s.listed) 64 ≡ true
      fit true h = le-leb (0 + length s.listed) 64 (omega arith)
      fit false h = let less : length s.listed < 64 = ltb-true (length s.listed) 64 (only (nat_lt (length s.listed) 64) h) in le-leb (1 + length s.listed) 64 (omega arith)

pub place-of : (k : ℕ) (there : Bool) → (nat_lt k 64 || there) ≡ true → (there ≡ true) ⊎ (k < 64)
place-of k true h = inl refl
place-of k false h = inr (ltb-true k 64 (only (nat_lt k 64) h))

-- one number more of a filtered list

pub filter-kept : (p : ℕ → Bool) (xs items : List ℕ) (i : ℕ) → i < length xs → p (get_or xs i 0) ≡ true → items ≡ filter p (take i xs)
    → items ++ get_or xs i 0 ∷ [] ≡ filter p (take (i + 1) xs)
filter-kept p xs items i less kept so_far =
    ap (λ ys. ys ++ get_or xs i 0 ∷ []) so_far
    ∙ sym (filter_more p xs i 0 less ∙ ap (λ b. filter p (take i xs) ++ cond b (get_or xs i 0 ∷ []) []) kept)

pub filter-passed : (p : ℕ → Bool) (xs items : List ℕ) (i : ℕ) → i < length xs → p (get_or xs i 0) ≡ false → items ≡ filter p (take i xs)
    → items ≡ filter p (take (i + 1) xs)
filter-passed p xs items i less passed so_far =
    so_far ∙ sym (filter_more p xs i 0 less ∙ (ap (λ b. filter p (take i xs) ++ cond b (get_or xs i 0 ∷ []) []) passed ∙ append-nil (filter p (take i xs))))

-- an arm that was asked for

module _ {T F : Type 0} (old new : Events) (n : ℕ) (reached : IsReached old) (dir : Dir) where
  pub made-arm-if : (r : Result T F) → OnOk r (Makes old new (Arm n dir)) → OnErr r (new ≡ old)
      → ((calls : List Call) → IsAfter calls old → is_ok r ≡ by.is_selected calls n dir) → has n (in_dir dir old.armed) ≡ false → Changes old new n (arm_in dir)
  made-arm-if (Ok value) makes same tells out events a =
      made-arm old new n reached dir makes events a
      (sym (selected-is old reached.calls reached.after events a n dir) ∙ sym (tells reached.calls reached.after))
  made-arm-if (Err fault) makes same tells out events a =
      subst (λ s. Agrees s (change n (arm_in dir) events)) (sym same)
      (agrees-still n (arm_in dir) (keeps-arm_in dir) old events a
      (arm_none dir (event_of n events) (sym (a.armed n dir) ∙ out) (sym (selected-is old reached.calls reached.after events a n dir) ∙ sym (tells reached.calls reached.after))))

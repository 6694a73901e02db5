-- The events that a driver holds are those that the history of its port tells.
use Rattle.std.proofs.Common.{◌≡◌, ℕ, ◌<◌, ◌==◌, cond, map, arith, Bool, true, false, ◌||◌, ◌&&◌, not, List, [], ◌∷◌, ◌++◌, refl, sym, ap, ◌∙◌, subst, eqb-true, eq-eqb, ne_eqb}
use Rattle.std.specs.Cmp.{IsEquivalence}
use Rattle.std.specs.Prelude.{filter}
use Rattle.std.specs.List.{AllByRecursion, IsDistinct}
use Rattle.std.specs.List.Sorted.{IsStrictlyIncreasing}
use Rattle.std.proofs.lemmas.Cmp.{nat_eq_equiv}
use Rattle.std.proofs.lemmas.List.Folds.{list_any-append}
use Rattle.std.proofs.lemmas.Map.Made.{length-from_same_keys}
use Rattle.port_driver.specs.port_config.declared.config.Config.{Config}
use Rattle.port_model.specs.declared.event.Dir.{Dir}
use Rattle.port_model.specs.declared.event.Dir.TheVariants.{Read, Write}
use Rattle.port_model.specs.declared.signal.Signal.{Signal}
use Rattle.port_model.specs.declared.signal.Signal.TheVariants as signal
use Rattle.port_model.specs.declared.effect.Effect.{Effect}
use Rattle.port_model.specs.declared.effect.Effect.TheVariants.{Message, Eof, Status, Busy, Select, Unuse, Async, Watch, Reply, ReplyBadarg, Fail}
use Rattle.port_driver.specs.driver_model.Calls.{Kind, DriverCall}
use Rattle.port_driver.specs.driver_model.Drivers.{is_held, with_event, without_event, held_by, held_events, effects_of}
use Rattle.port_driver.specs.Context.{SameEvents}
use Rattle.port_events.specs.port_history.Events.{Event, unused, change, event_of, numbers, select, give_up, disarm, drop_event, read_no_more, arm, told_of, selected_by, deselected}
use Rattle.port_events.specs.Table.{held_of}
use Rattle.port_events.proofs.Rising.{Up, Rising, up-from, changed, rising-change, event-map, rising-map, up-those, has-those, has-filter}
use Rattle.port_events.specs.port_history.Opening.{Opening}
use Rattle.port_events.specs.port_history.Service.{effects_after}

flip : (x y : ℕ) → (x == y) ≡ (y == x)
flip x y = nat_eq_equiv.symm x y

-- events are the same where their numbers are
abbrev pub same : ℕ → ℕ → Bool
same x y = y == x

same-laws : IsEquivalence same
same-laws = record {
  refl = λ x. eq-eqb x x refl;
  symm = λ x y. flip y x;
  congr = λ x y z e. ap (λ w. z == w) (sym (eqb-true y x e));
}

-- Each event of a list once

all-snoc : (P : ℕ → Type 0) (xs : List ℕ) (y : ℕ) → AllByRecursion P xs → P y → AllByRecursion P (xs ++ y ∷ [])
all-snoc P [] y all last = (last, tt)
all-snoc P (x ∷ xs) y all last = (all.0, all-snoc P xs y all.1 last)

or-left : (a b : Bool) → (a || b) ≡ false → a ≡ false
or-left true b e = e
or-left false b e = refl

or-right : (a b : Bool) → (a || b) ≡ false → b ≡ false
or-right true b e = absurd cc
or-right false b e = e

distinct-snoc : (xs : List ℕ) (y : ℕ) → IsDistinct same xs → is_held y xs ≡ false → IsDistinct same (xs ++ y ∷ [])
unfolding IsDistinct
distinct-snoc [] y apart out = (tt, tt)
distinct-snoc (x ∷ xs) y apart out =
    (all-snoc (λ z. same x z ≡ false) xs y apart.0 (flip y x ∙ or-left (x == y) (is_held y xs) out), distinct-snoc xs y apart.1 (or-right (x == y) (is_held y xs) out))

all-filter : (P : ℕ → Type 0) (p : ℕ → Bool) (xs : List ℕ) → AllByRecursion P xs → AllByRecursion P (filter p xs)
all-filter P p [] all = tt
all-filter P p (x ∷ xs) all = elim (p x) as (λ b. AllByRecursion P (cond b (x ∷ filter p xs) (filter p xs))) [
  | true ↦ (all.0, all-filter P p xs all.1)
  | false ↦ all-filter P p xs all.1
]

distinct-filter : (p : ℕ → Bool) (xs : List ℕ) → IsDistinct same xs → IsDistinct same (filter p xs)
unfolding IsDistinct
distinct-filter p [] apart = tt
distinct-filter p (x ∷ xs) apart = elim (p x) as (λ b. IsDistinct same (cond b (x ∷ filter p xs) (filter p xs))) [
  | true ↦ (all-filter (λ z. same x z ≡ false) p xs apart.0, distinct-filter p xs apart.1)
  | false ↦ distinct-filter p xs apart.1
]

distinct-with : (event : ℕ) (held : List ℕ) → IsDistinct same held → IsDistinct same (with_event event held)
distinct-with event held apart = elim (is_held event held) as (λ b. is_held event held ≡ b → IsDistinct same (cond b held (held ++ event ∷ []))) [
  | true ↦ λ _. apart
  | false ↦ λ out. distinct-snoc held event apart out
] refl

distinct-by : (effects : List Effect) (held : List ℕ) → IsDistinct same held → IsDistinct same (held_by effects held)
distinct-by [] held apart = apart
distinct-by (Message flag bytes ∷ effects) held apart = distinct-by effects held apart
distinct-by (Eof ∷ effects) held apart = distinct-by effects held apart
distinct-by (Status status ∷ effects) held apart = distinct-by effects held apart
distinct-by (Busy busy ∷ effects) held apart = distinct-by effects held apart
distinct-by (Select event dir on ∷ effects) held apart = distinct-by effects (with_event event held) (distinct-with event held apart)
distinct-by (Unuse event ∷ effects) held apart = distinct-by effects (without_event event held) (distinct-filter (λ other. not (other == event)) held apart)
distinct-by (Async number key code input ∷ effects) held apart = distinct-by effects held apart
distinct-by (Watch process ∷ effects) held apart = distinct-by effects held apart
distinct-by (Reply bytes ∷ effects) held apart = distinct-by effects held apart
distinct-by (ReplyBadarg ∷ effects) held apart = distinct-by effects held apart
distinct-by (Fail reason ∷ effects) held apart = distinct-by effects held apart

distinct-held : (kind : Kind) (config : Config) (calls : List DriverCall) → IsDistinct same (held_events kind config calls)
unfolding IsDistinct
distinct-held kind config [] = tt
distinct-held kind config (call ∷ earlier) = distinct-by (effects_of kind config (call ∷ earlier)) (held_events kind config earlier) (distinct-held kind config earlier)

up-distinct : (xs : List ℕ) → Up xs → IsDistinct same xs
unfolding IsDistinct
up-distinct [] up = tt
up-distinct (x ∷ xs) up = (above xs up.0, up-distinct xs up.1) where
  above : (ys : List ℕ) → AllByRecursion (λ y. x < y) ys → AllByRecursion (λ y. same x y ≡ false) ys
  above [] all = tt
  above (y ∷ ys) all = let less : x < y = all.0 in (ne_eqb y x (λ equal. omega arith), above ys all.1)

-- A list of the events that are held, among these

abbrev pub Holds : List ℕ → List Event → Type 0
Holds held events = (n : ℕ) → is_held n held ≡ (event_of n events).held

number-select : (dir : Dir) (on : Bool) (e : Event) → (select dir on e).number ≡ e.number
number-select Read on e = refl
number-select Write on e = refl

held-select : (dir : Dir) (on : Bool) (e : Event) → (select dir on e).held ≡ true
held-select Read on e = refl
held-select Write on e = refl

number-disarm : (dir : Dir) (e : Event) → (disarm dir e).number ≡ e.number
number-disarm Read e = refl
number-disarm Write e = refl

held-disarm : (dir : Dir) (e : Event) → (disarm dir e).held ≡ e.held
held-disarm Read e = refl
held-disarm Write e = refl

is_held-with : (n event : ℕ) (held : List ℕ) → is_held n (with_event event held) ≡ ((event == n) || is_held n held)
is_held-with n event held = elim (is_held event held) as (λ b. is_held event held ≡ b → is_held n (cond b held (held ++ event ∷ [])) ≡ ((event == n) || is_held n held)) [
  | true ↦ λ there. elim (event == n) as (λ b. (event == n) ≡ b → is_held n held ≡ (b || is_held n held)) [
    | true ↦ λ here. subst (λ m. is_held m held ≡ true) (eqb-true event n here) there
    | false ↦ λ _. refl
  ] refl
  | false ↦ λ _. list_any-append (λ other. other == n) held (event ∷ []) ∙ swap (is_held n held) (event == n)
] refl where
  swap : (a b : Bool) → (a || (b || false)) ≡ (b || a)
  swap true true = refl
  swap true false = refl
  swap false true = refl
  swap false false = refl

is_held-without : (n event : ℕ) (held : List ℕ) → is_held n (without_event event held) ≡ cond (event == n) false (is_held n held)
is_held-without n event held =
    has-filter (λ other. not (other == event)) n held
    ∙ (ap (λ b. is_held n held && not b) (flip n event)
    ∙ elim (event == n) as (λ b. (is_held n held && not b) ≡ cond b false (is_held n held)) [
      | true ↦ and-false (is_held n held)
      | false ↦ and-true (is_held n held)
    ]) where
      and-false : (b : Bool) → (b && false) ≡ false
      and-false true = refl
      and-false false = refl

      and-true : (b : Bool) → (b && true) ≡ b
      and-true true = refl
      and-true false = refl

held-if : (b : Bool) (x y : Event) → (cond b x y).held ≡ cond b x.held y.held
held-if true x y = refl
held-if false x y = refl

holds-select : (event : ℕ) (dir : Dir) (on : Bool) (held : List ℕ) (events : List Event) → Rising events → Holds held events
    → Holds (with_event event held) (change event (select dir on) events)
holds-select event dir on held events up holds n =
    is_held-with n event held
    ∙ (ap (λ b. (event == n) || b) (holds n)
    ∙ (or-cond (event == n) (event_of n events).held
    ∙ (ap (λ b. cond (event == n) b (event_of n events).held) (sym (held-select dir on (event_of n events)))
    ∙ (sym (held-if (event == n) (select dir on (event_of n events)) (event_of n events))
    ∙ ap (λ (e : Event). e.held) (sym (changed event (select dir on) (number-select dir on) n events up)))))) where
      or-cond : (a b : Bool) → (a || b) ≡ cond a true b
      or-cond true b = refl
      or-cond false b = refl

holds-unuse : (event : ℕ) (held : List ℕ) (events : List Event) → Rising events → Holds held events → Holds (without_event event held) (change event give_up events)
holds-unuse event held events up holds n =
    is_held-without n event held
    ∙ (ap (λ b. cond (event == n) false b) (holds n)
    ∙ (sym (held-if (event == n) (give_up (event_of n events)) (event_of n events))
    ∙ ap (λ (e : Event). e.held) (sym (changed event give_up (λ e. refl) n events up))))

-- the effects of a callback leave what they leave held
pub record Followed (held : List ℕ) (events : List Event) : Type 0 where
  pub rising : Rising events
  pub holds : Holds held events

pub followed : (effects : List Effect) (held : List ℕ) (events : List Event) → Rising events → Holds held events → Followed (held_by effects held) (selected_by effects events)
followed [] held events up holds = record { rising = up; holds = holds }
followed (Message flag bytes ∷ effects) held events up holds = followed effects held events up holds
followed (Eof ∷ effects) held events up holds = followed effects held events up holds
followed (Status status ∷ effects) held events up holds = followed effects held events up holds
followed (Busy busy ∷ effects) held events up holds = followed effects held events up holds
followed (Select event dir on ∷ effects) held events up holds =
    followed effects (with_event event held) (change event (select dir on) events) (rising-change event (select dir on) (number-select dir on) events up)
    (holds-select event dir on held events up holds)
followed (Unuse event ∷ effects) held events up holds =
    followed effects (without_event event held) (change event give_up events) (rising-change event give_up (λ e. refl) events up) (holds-unuse event held events up holds)
followed (Async number key code input ∷ effects) held events up holds = followed effects held events up holds
followed (Watch process ∷ effects) held events up holds = followed effects held events up holds
followed (Reply bytes ∷ effects) held events up holds = followed effects held events up holds
followed (ReplyBadarg ∷ effects) held events up holds = followed effects held events up holds
followed (Fail reason ∷ effects) held events up holds = followed effects held events up holds

-- what changes no event's holding leaves what is held
held-change : (event : ℕ) (how : Event → Event) → ((e : Event) → (how e).number ≡ e.number) → ((e : Event) → (how e).held ≡ e.held) → (held : List ℕ) (events : List Event)
    → Rising events → Holds held events → Followed held (change event how events)
held-change event how keeps leaves held events up holds = record {
  rising = rising-change event how keeps events up;
  holds = λ n. holds n ∙ (sym (cond-same (event == n) (event_of n events).held)
      ∙ (ap (λ b. cond (event == n) b (event_of n events).held) (sym (leaves (event_of n events)))
      ∙ (sym (held-if (event == n) (how (event_of n events)) (event_of n events))
      ∙ ap (λ (e : Event). e.held) (sym (changed event how keeps n events up)))));
} where
  cond-same : (b : Bool) (x : Bool) → cond b x x ≡ x
  cond-same true x = refl
  cond-same false x = refl

held-map : (how : Event → Event) → ((e : Event) → (how e).number ≡ e.number) → ((e : Event) → (how e).held ≡ e.held) → ((n : ℕ) → how (unused n) ≡ unused n)
    → (held : List ℕ) (events : List Event) → Followed held events → Followed held (map how events)
held-map how keeps leaves fresh held events before = record {
  rising = rising-map how keeps events before.rising;
  holds = λ n. before.holds n ∙ (sym (leaves (event_of n events)) ∙ ap (λ (e : Event). e.held) (sym (event-map how keeps n (fresh n) events)));
}

pub told-held : (signal : Signal) (held : List ℕ) (events : List Event) → Rising events → Holds held events → Followed held (told_of false signal events)
told-held (signal.Command payload) held events up holds = record { rising = up; holds = holds }
told-held (signal.OwnerCommand payload) held events up holds = record { rising = up; holds = holds }
told-held (signal.Control op bytes) held events up holds = record { rising = up; holds = holds }
told-held (signal.Call op bytes) held events up holds = record { rising = up; holds = holds }
told-held signal.Close held events up holds = record { rising = up; holds = holds }
told-held signal.OwnerClose held events up holds = record { rising = up; holds = holds }
told-held (signal.Connect process) held events up holds = record { rising = up; holds = holds }
told-held (signal.OwnerConnect process) held events up holds = record { rising = up; holds = holds }
told-held signal.Link held events up holds = record { rising = up; holds = holds }
told-held signal.Unlink held events up holds = record { rising = up; holds = holds }
told-held (signal.Monitor number) held events up holds = record { rising = up; holds = holds }
told-held (signal.Demonitor number) held events up holds = record { rising = up; holds = holds }
told-held (signal.Exit reason) held events up holds = record { rising = up; holds = holds }
told-held (signal.Gone reason) held events up holds = record { rising = up; holds = holds }
told-held (signal.Ready event dir) held events up holds = held-change event (disarm dir) (number-disarm dir) (held-disarm dir) held events up holds
told-held (signal.Dropped event) held events up holds = held-change event drop_event (λ e. refl) (λ e. refl) held events up holds
told-held (signal.AsyncDone number output) held events up holds = record { rising = up; holds = holds }

pub told-late : (signal : Signal) (held : List ℕ) (events : List Event) → Rising events → Holds held events → Followed held (told_of true signal events)
told-late (signal.Command payload) held events up holds = record { rising = up; holds = holds }
told-late (signal.OwnerCommand payload) held events up holds = record { rising = up; holds = holds }
told-late (signal.Control op bytes) held events up holds = record { rising = up; holds = holds }
told-late (signal.Call op bytes) held events up holds = record { rising = up; holds = holds }
told-late signal.Close held events up holds = record { rising = up; holds = holds }
told-late signal.OwnerClose held events up holds = record { rising = up; holds = holds }
told-late (signal.Connect process) held events up holds = record { rising = up; holds = holds }
told-late (signal.OwnerConnect process) held events up holds = record { rising = up; holds = holds }
told-late signal.Link held events up holds = record { rising = up; holds = holds }
told-late signal.Unlink held events up holds = record { rising = up; holds = holds }
told-late (signal.Monitor number) held events up holds = record { rising = up; holds = holds }
told-late (signal.Demonitor number) held events up holds = record { rising = up; holds = holds }
told-late (signal.Exit reason) held events up holds = record { rising = up; holds = holds }
told-late (signal.Gone reason) held events up holds = record { rising = up; holds = holds }
told-late (signal.Ready event dir) held events up holds = held-change event (disarm dir) (number-disarm dir) (held-disarm dir) held events up holds
told-late (signal.Dropped event) held events up holds = record { rising = up; holds = holds }
told-late (signal.AsyncDone number output) held events up holds = record { rising = up; holds = holds }

-- the events after a handled task whose row doesn't stop the driver
pub row-held : (signal : Signal) (effects : List Effect) (closed : Bool) (held : List ℕ) (events : List Event) → Rising events → Holds held events
    → Followed (held_by effects held) (map arm (deselected closed (selected_by effects (told_of false signal events))))
row-held signal effects closed held events up holds =
    let told = told-held signal held events up holds in
    let selected = followed effects held (told_of false signal events) told.rising told.holds in
    held-map arm (λ e. refl) (λ e. refl) (λ n. refl) (held_by effects held) (deselected closed (selected_by effects (told_of false signal events))) (closing closed selected)
  where
    closing : (closed : Bool) → Followed (held_by effects held) (selected_by effects (told_of false signal events))
        → Followed (held_by effects held) (deselected closed (selected_by effects (told_of false signal events)))
    closing true before = held-map read_no_more (λ e. refl) (λ e. refl) (λ n. refl) (held_by effects held) (selected_by effects (told_of false signal events)) before
    closing false before = before

-- the effects of some calls leave held what those of all calls leave
held-append : (effects more : List Effect) (held : List ℕ) → held_by (effects ++ more) held ≡ held_by more (held_by effects held)
held-append [] more held = refl
held-append (Message flag bytes ∷ effects) more held = held-append effects more held
held-append (Eof ∷ effects) more held = held-append effects more held
held-append (Status status ∷ effects) more held = held-append effects more held
held-append (Busy busy ∷ effects) more held = held-append effects more held
held-append (Select event dir on ∷ effects) more held = held-append effects more (with_event event held)
held-append (Unuse event ∷ effects) more held = held-append effects more (without_event event held)
held-append (Async number key code input ∷ effects) more held = held-append effects more held
held-append (Watch process ∷ effects) more held = held-append effects more held
held-append (Reply bytes ∷ effects) more held = held-append effects more held
held-append (ReplyBadarg ∷ effects) more held = held-append effects more held
held-append (Fail reason ∷ effects) more held = held-append effects more held

pub held-after : (port : Opening) (earlier calls : List DriverCall)
    → held_events port.kind port.config (calls ++ earlier) ≡ held_by (effects_after port earlier calls) (held_events port.kind port.config earlier)
held-after port earlier [] = refl
held-after port earlier (call ∷ before) =
    ap (λ held. held_by (effects_of port.kind port.config (call ∷ before ++ earlier)) held) (held-after port earlier before)
    ∙ sym (held-append (effects_after port earlier before) (effects_of port.kind port.config (call ∷ before ++ earlier)) (held_events port.kind port.config earlier))

-- two tellings of the same events
pub to-same : (kind : Kind) (config : Config) (calls : List DriverCall) (events : List Event) → Followed (held_events kind config calls) events
    → SameEvents (held_of events) (held_events kind config calls)
to-same kind config calls events f =
    let each : (n : ℕ) → is_held n (held_of events) ≡ is_held n (held_events kind config calls) =
    λ n. has-those (λ e. e.held) (λ m. refl) n events f.rising ∙ sym (f.holds n) in
    record {
      each = each;
      count = length-from_same_keys same-laws (held_of events) (held_events kind config calls) (up-distinct (held_of events) (up-those (λ e. e.held) events f.rising))
          (distinct-held kind config calls) each;
    }

pub from-same : (held : List ℕ) (events : List Event) → IsStrictlyIncreasing (numbers events) → SameEvents (held_of events) held → Followed held events
from-same held events rising s =
    let up = up-from (numbers events) rising in
    record {
      rising = up;
      holds = λ n. sym (s.each n) ∙ has-those (λ e. e.held) (λ m. refl) n events up;
    }

-- the events after the effects of a start
pub start-held : (effects : List Effect) → Followed (held_by effects []) (map arm (selected_by effects []))
start-held effects = held-map arm (λ e. refl) (λ e. refl) (λ n. refl) (held_by effects []) (selected_by effects []) (followed effects [] [] tt (λ n. refl))

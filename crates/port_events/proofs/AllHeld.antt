-- What is done to each event that is held, one after another, is done to all.
use Rattle.std.proofs.Common.{◌≡◌, ℕ, ◌<◌, ◌==◌, cond, map, Bool, true, false, ◌||◌, ◌&&◌, not, List, [], ◌∷◌, ◌++◌, refl, sym, ap, ◌∙◌, subst, arith, eqb-true, eq-eqb, ne_eqb}
use Rattle.std.specs.Prelude.{filter}
use Rattle.std.specs.List.{AllByRecursion, flat_map, list_all}
use Rattle.std.proofs.lemmas.Bool.{and_parts}
use Rattle.port_history.specs.Laws.{is_given_back}
use Rattle.ready_select.specs.declared.ask.PollAsk.{PollAsk}
use Rattle.ready_select.specs.Sets.{has}
use Rattle.port_history.specs.Events.{Event, change, event_of, unused, numbers, is_armed, arm, give_up, read_no_more, left_by}
use Rattle.port_events.specs.Table.{EventTable, Agrees, IsLawful, held_of}
use Rattle.port_events.specs.Asks.{arm_asks, drop_asks}
use Rattle.port_events.specs.Parts.{IsDone, one, each, none, back_now, closing, arming, stopping}
use Rattle.port_model.specs.declared.event.Dir.TheVariants.{Read, Write}
use Rattle.port_events.proofs.Rising.{Up, Rising, not_in, up-from, changed, rising-change, event-map, rising-map, up-those, has-those}
use Rattle.port_events.proofs.Steps.{agrees-as}

module _ (how : Event → Event) (keeps : (e : Event) → (how e).number ≡ e.number) (asks : Event → List PollAsk) (back : Event → List ℕ) where
  rising_each : (ns : List ℕ) (events : List Event) → Rising events → Rising ((each (one how asks back) ns).after events)
  rising_each [] events up = up
  rising_each (n ∷ ns) events up = rising_each ns (change n how events) (rising-change n how keeps events up)

  -- the events of these numbers are changed, each once
  each_changed : (o : ℕ) (ns : List ℕ) (events : List Event) → Up ns → Rising events
      → event_of o ((each (one how asks back) ns).after events) ≡ cond (has o ns) (how (event_of o events)) (event_of o events)
  each_changed o [] events distinct up = refl
  each_changed o (n ∷ ns) events distinct up =
      each_changed o ns (change n how events) distinct.1 (rising-change n how keeps events up)
      ∙ (ap (λ x. cond (has o ns) (how x) x) (changed n how keeps o events up)
      ∙ elim (n == o) as (λ b. (n == o) ≡ b → cond (has o ns) (how (cond b (how (event_of o events)) (event_of o events))) (cond b (how (event_of o events)) (event_of o events))
      ≡ cond (b || has o ns) (how (event_of o events)) (event_of o events)) [
        | true ↦ λ here. ap (λ b. cond b (how (how (event_of o events))) (how (event_of o events))) (subst (λ m. has m ns ≡ false) (eqb-true n o here) (not_in n ns distinct.0))
        | false ↦ λ _. refl
      ] refl)

  -- an event that stands behind isn't changed
  others : {X : Type 0} (f : Event → List X) (n : ℕ) (ns : List ℕ) (events : List Event) → Rising events → AllByRecursion (λ y. n < y) ns
      → flat_map (λ m. f (event_of m (change n how events))) ns ≡ flat_map (λ m. f (event_of m events)) ns
  others f n [] events up all = refl
  others f n (m ∷ ns) events up all =
      let less : n < m = all.0 in
      let same : event_of m (change n how events) ≡ event_of m events =
      changed n how keeps m events up ∙ ap (λ b. cond b (how (event_of m events)) (event_of m events)) (ne_eqb n m (λ equal. omega arith)) in
      ap (λ e. f e ++ flat_map (λ k. f (event_of k (change n how events))) ns) same
      ∙ ap (λ xs. f (event_of m events) ++ xs) (others f n ns events up all.1)

  each_asked : (ns : List ℕ) (events : List Event) → Up ns → Rising events → (each (one how asks back) ns).asks events ≡ flat_map (λ n. asks (event_of n events)) ns
  each_asked [] events distinct up = refl
  each_asked (n ∷ ns) events distinct up =
      ap (λ xs. asks (event_of n events) ++ xs)
      (each_asked ns (change n how events) distinct.1 (rising-change n how keeps events up) ∙ others asks n ns events up distinct.0)

  each_back : (ns : List ℕ) (events : List Event) → Up ns → Rising events → (each (one how asks back) ns).given_back events ≡ flat_map (λ n. back (event_of n events)) ns
  each_back [] events distinct up = refl
  each_back (n ∷ ns) events distinct up =
      ap (λ xs. back (event_of n events) ++ xs)
      (each_back ns (change n how events) distinct.1 (rising-change n how keeps events up) ∙ others back n ns events up distinct.0)

-- each event stands under its number

lifted : (e : Event) (all events : List Event) → AllByRecursion (λ y. e.number < y) (numbers events) → AllByRecursion (λ x. event_of x.number all ≡ x) events
    → AllByRecursion (λ x. event_of x.number (e ∷ all) ≡ x) events
lifted e all [] above own = tt
lifted e all (x ∷ events) above own =
    let less : e.number < x.number = above.0 in
    (ap (λ b. cond b e (event_of x.number all)) (ne_eqb e.number x.number (λ equal. omega arith)) ∙ own.0, lifted e all events above.1 own.1)

stands : (events : List Event) → Rising events → AllByRecursion (λ x. event_of x.number events ≡ x) events
stands [] up = tt
stands (e ∷ events) up =
    (ap (λ b. cond b e (event_of e.number events)) (eq-eqb e.number e.number refl), lifted e events events up.0 (stands events up.1))

of_held : {X : Type 0} (f : Event → List X) (all events : List Event) → AllByRecursion (λ x. event_of x.number all ≡ x) events
    → flat_map (λ n. f (event_of n all)) (held_of events) ≡ flat_map f (filter (λ e. e.held) events)
of_held f all [] own = refl
of_held f all (e ∷ events) own =
    elim e.held as (λ b. flat_map (λ n. f (event_of n all)) (numbers (cond b (e ∷ filter (λ e. e.held) events) (filter (λ e. e.held) events)))
    ≡ flat_map f (cond b (e ∷ filter (λ e. e.held) events) (filter (λ e. e.held) events))) [
      | true ↦ ap (λ x. f x ++ flat_map (λ n. f (event_of n all)) (held_of events)) own.0 ∙ ap (λ xs. f e ++ xs) (of_held f all events own.1)
      | false ↦ of_held f all events own.1
    ]

-- and where nothing is said of one that isn't held, it is said of all
of_all : {X : Type 0} (f : Event → List X) (events : List Event) → AllByRecursion (λ e. e.held ≡ false → f e ≡ []) events
    → flat_map f (filter (λ e. e.held) events) ≡ flat_map f events
of_all f [] quiet = refl
of_all f (e ∷ events) quiet =
    elim e.held as (λ b. e.held ≡ b → flat_map f (cond b (e ∷ filter (λ e. e.held) events) (filter (λ e. e.held) events)) ≡ f e ++ flat_map f events) [
      | true ↦ λ _. ap (λ xs. f e ++ xs) (of_all f events quiet.1)
      | false ↦ λ free. of_all f events quiet.1 ∙ ap (λ xs. xs ++ flat_map f events) (sym (quiet.0 free))
    ] refl

all_of : (P : Event → Type 0) (all events : List Event) → AllByRecursion (λ x. event_of x.number all ≡ x) events → ((n : ℕ) → P (event_of n all)) → AllByRecursion P events
all_of P all [] own holds = tt
all_of P all (e ∷ events) own holds = (subst P own.0 (holds e.number), all_of P all events own.1 holds)

-- a sweep over the held events, of a change that leaves those alone that aren't held
module _ (how : Event → Event) (keeps : (e : Event) → (how e).number ≡ e.number) (fresh : (n : ℕ) → how (unused n) ≡ unused n)
    (still : (e : Event) → IsLawful e → e.held ≡ false → how e ≡ e) (asks : Event → List PollAsk) (back : Event → List ℕ) where
  pub swept : (events : List Event) (old new : EventTable) (before after : List ℕ) → Agrees old.selector events
      → IsDone (each (one how asks back) (held_of events)) events old new before after
      → IsDone (record { after = map how; asks = λ es. flat_map asks (filter (λ e. e.held) es); given_back = λ es. flat_map back (filter (λ e. e.held) es); room = λ es. true }) events old new before after
  swept events old new before after a done =
      let up = up-from (numbers events) a.rising in
      let distinct = up-those (λ e. e.held) events up in
      let own = stands events up in
      record {
        agrees = agrees-as new.selector ((each (one how asks back) (held_of events)).after events) (map how events) done.agrees (rising-map how keeps events up) (λ o.
            each_changed how keeps asks back o (held_of events) events distinct up
            ∙ (ap (λ b. cond b (how (event_of o events)) (event_of o events)) (has-those (λ e. e.held) (λ n. refl) o events up)
            ∙ (done_or_still (event_of o events) (a.lawful o) ∙ sym (event-map how keeps o (fresh o) events))));
        asked = done.asked ∙ ap (λ xs. old.asks.sent ++ xs) (each_asked how keeps asks back (held_of events) events distinct up ∙ of_held asks events events own);
        given_back = done.given_back ∙ ap (λ xs. before ++ xs) (each_back how keeps asks back (held_of events) events distinct up ∙ of_held back events events own);
        room = refl;
      }
    where
      done_or_still : (e : Event) → IsLawful e → cond e.held (how e) e ≡ how e
      done_or_still e l = elim e.held as (λ b. e.held ≡ b → cond b (how e) e ≡ how e) [ true ↦ λ _. refl | false ↦ λ free. sym (still e l free) ] refl

-- the three sweeps

unselected : (d : Bool) (h : Bool) → (d ≡ true → h ≡ true) → h ≡ false → d ≡ false
unselected true h imp free = absurd (let held = imp refl in cc)
unselected false h imp free = refl

still_read : (e : Event) → IsLawful e → e.held ≡ false → read_no_more e ≡ e
still_read e l free = ap (λ r. record e { reads = r }) (sym (unselected e.reads e.held (l.selected Read) free))

or_none : (a s : Bool) → s ≡ false → (a || s) ≡ a
or_none true s h = refl
or_none false s h = h

still_arm : (e : Event) → IsLawful e → e.held ≡ false → arm e ≡ e
still_arm e l free =
    ap (λ r. record e { armed_to_read = r; armed_to_write = e.armed_to_write || e.writes }) (or_none e.armed_to_read e.reads (unselected e.reads e.held (l.selected Read) free))
    ∙ ap (λ w. record e { armed_to_write = w }) (or_none e.armed_to_write e.writes (unselected e.writes e.held (l.selected Write) free))

still_give_up : (e : Event) → IsLawful e → e.held ≡ false → give_up e ≡ e
still_give_up e l free =
    ap (λ h. record e { held = false; waits = e.waits || (h && is_armed e); reads = false; writes = false }) free
    ∙ (ap (λ w. record e { held = false; waits = w; reads = false; writes = false }) (or_none e.waits false refl)
    ∙ (ap (λ h. record e { held = h; reads = false; writes = false }) (sym free)
    ∙ (ap (λ r. record e { reads = r; writes = false }) (sym (unselected e.reads e.held (l.selected Read) free))
    ∙ ap (λ w. record e { writes = w }) (sym (unselected e.writes e.held (l.selected Write) free)))))

no_arm : (port : ℕ) (e : Event) → IsLawful e → e.held ≡ false → arm_asks port e ≡ []
no_arm port e l free = rw (unselected e.reads e.held (l.selected Read) free, unselected e.writes e.held (l.selected Write) free) refl

no_drop : (port : ℕ) (e : Event) → e.held ≡ false → drop_asks port e ≡ []
no_drop port e free = rw free refl

nothing : {X : Type 0} (events : List Event) → flat_map (none {X = X}) events ≡ []
nothing [] = refl
nothing (e ∷ events) = nothing events

left : (events : List Event) → flat_map back_now (filter (λ e. e.held) events) ≡ left_by true events
left [] = refl
left (e ∷ events) =
    elim e.held as (λ b. flat_map back_now (cond b (e ∷ filter (λ e. e.held) events) (filter (λ e. e.held) events))
    ≡ numbers (cond (b && not (is_armed e)) (e ∷ filter (λ e. e.held && not (is_armed e)) events) (filter (λ e. e.held && not (is_armed e)) events))) [
      | true ↦ elim (is_armed e) as (λ b. cond b [] (e.number ∷ []) ++ flat_map back_now (filter (λ e. e.held) events)
          ≡ numbers (cond (not b) (e ∷ filter (λ e. e.held && not (is_armed e)) events) (filter (λ e. e.held && not (is_armed e)) events))) [
            | true ↦ left events
            | false ↦ ap (λ xs. e.number ∷ xs) (left events)
          ]
      | false ↦ left events
    ]

pub closed-all : (events : List Event) (old new : EventTable) (before after : List ℕ) → Agrees old.selector events
    → IsDone (each (one read_no_more none none) (held_of events)) events old new before after → IsDone (closing true) events old new before after
closed-all events old new before after a done =
    let d = swept read_no_more (λ e. refl) (λ n. refl) still_read none none events old new before after a done in
    record {
      agrees = d.agrees;
      asked = d.asked ∙ ap (λ xs. old.asks.sent ++ xs) (nothing (filter (λ e. e.held) events));
      given_back = d.given_back ∙ ap (λ xs. before ++ xs) (nothing (filter (λ e. e.held) events));
      room = refl;
    }

pub armed-all : (port : ℕ) (events : List Event) (old new : EventTable) (before after : List ℕ) → Agrees old.selector events
    → IsDone (each (one arm (arm_asks port) none) (held_of events)) events old new before after → IsDone (arming port) events old new before after
armed-all port events old new before after a done =
    let d = swept arm (λ e. refl) (λ n. refl) still_arm (arm_asks port) none events old new before after a done in
    let own = stands events (up-from (numbers events) a.rising) in
    record {
      agrees = d.agrees;
      asked = d.asked ∙ ap (λ xs. old.asks.sent ++ xs)
          (of_all (arm_asks port) events (all_of (λ e. e.held ≡ false → arm_asks port e ≡ []) events events own (λ n. no_arm port (event_of n events) (a.lawful n))));
      given_back = d.given_back ∙ ap (λ xs. before ++ xs) (nothing (filter (λ e. e.held) events));
      room = refl;
    }

pub stopped-all : (port : ℕ) (events : List Event) (old new : EventTable) (before after : List ℕ) → Agrees old.selector events
    → IsDone (each (one give_up (drop_asks port) back_now) (held_of events)) events old new before after → IsDone (stopping port true) events old new before after
stopped-all port events old new before after a done =
    let d = swept give_up (λ e. refl) (λ n. refl) still_give_up (drop_asks port) back_now events old new before after a done in
    let own = stands events (up-from (numbers events) a.rising) in
    record {
      agrees = d.agrees;
      asked = d.asked ∙ ap (λ xs. old.asks.sent ++ xs)
          (of_all (drop_asks port) events (all_of (λ e. e.held ≡ false → drop_asks port e ≡ []) events events own (λ n. no_drop port (event_of n events))));
      given_back = d.given_back ∙ ap (λ xs. before ++ xs) (left events);
      room = refl;
    }

-- where each event is given back, none is held
pub none-held : (events : List Event) → list_all is_given_back events ≡ true → held_of events ≡ []
none-held [] all = refl
none-held (e ∷ events) all =
    let p = and_parts (is_given_back e) (list_all is_given_back events) all in
    let free : e.held ≡ false = elim e.held as (λ b. not (b || e.waits) ≡ true → b ≡ false) [
      | true ↦ λ h. absurd cc
      | false ↦ λ _. refl
    ] p.0 in
    rw free (none-held events p.1)

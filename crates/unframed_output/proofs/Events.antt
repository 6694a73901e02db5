-- Which events are selected for reading after some effects.
use Rattle.std.proofs.Common.{◌≡◌, ℕ, List, [], ◌∷◌, ◌++◌, map, Bool, true, false, eqb, cond, refl, sym, ◌∙◌, ap}
use Rattle.std.specs.Prelude.{nat_lt}
use Rattle.std.proofs.lemmas.Bool.Decides.{Decides-eqb}
use Rattle.driver_model.specs.port_model.declared.event.Dir.{Dir}
use Rattle.driver_model.specs.port_model.declared.event.Dir.TheVariants.{Read, Write}
use Rattle.driver_model.specs.port_model.declared.signal.Signal.{Signal}
use Rattle.driver_model.specs.port_model.declared.signal.Signal.TheVariants.{Ready, Dropped}
use Rattle.driver_model.specs.port_model.declared.effect.Effect.{Effect}
use Rattle.driver_model.specs.port_model.declared.effect.Effect.TheVariants.{Select, Unuse}
use Rattle.port_history.specs.Events.{Event, unused, change, event_of, select, disarm, give_up, drop_event, told_of, selected_by, read_no_more, arm, stopped_by, events_after}

-- a change that keeps the number, and selects none for reading
pub record Keeps (how : Event → Event) : Type 0 where
  pub number : (e : Event) → (how e).number ≡ e.number
  pub reads : (e : Event) → (how e).reads ≡ true → e.reads ≡ true

-- the event of a number is selected for reading
abbrev pub IsRead : ℕ → List Event → Type 0
IsRead event events = (event_of event events).reads ≡ true

pub bad : {P : Type 0} (b : Bool) → b ≡ true → b ≡ false → P
bad b is isnt = let e : true ≡ false = sym is ∙ isnt in absurd (cc)

-- the first of a list, or the event among the others
choice : (b : Bool) (x y : Event) (P : Bool → Type 0) → (b ≡ true → P x.reads) → (b ≡ false → P y.reads) → P (cond b x y).reads
choice true x y P f g = f refl
choice false x y P f g = g refl

pub choose : (b : Bool) (x y : Event) {P : Type 0} → (cond b x y).reads ≡ true → (b ≡ true → x.reads ≡ true → P) → (b ≡ false → y.reads ≡ true → P) → P
choose true x y is f g = f refl is
choose false x y is f g = g refl is

-- a list that begins with a changed event
head-kept : (how : Event → Event) → Keeps how → (x : Event) (event : ℕ) (xs ys : List Event) → (IsRead event xs → IsRead event ys) → IsRead event (how x ∷ xs) → IsRead event (x ∷ ys)
head-kept how keeps x event xs ys tail is =
    choose (eqb (how x).number event) (how x) (event_of event xs) is
    (λ here reads. choice (eqb x.number event) x (event_of event ys) (λ b. b ≡ true) (λ e. keeps.reads x reads) (λ e. bad (eqb x.number event) (ap (λ n. eqb n event) (sym (keeps.number x)) ∙ here) e))
    (λ there reads. choice (eqb x.number event) x (event_of event ys) (λ b. b ≡ true) (λ e. bad (eqb x.number event) e (ap (λ n. eqb n event) (sym (keeps.number x)) ∙ there)) (λ e. tail reads))

-- or with one that was never used
head-unused : (how : Event → Event) → Keeps how → (number event : ℕ) (xs : List Event) → IsRead event (how (unused number) ∷ xs) → IsRead event xs
head-unused how keeps number event xs is =
    choose (eqb (how (unused number)).number event) (how (unused number)) (event_of event xs) is (λ here reads. bad false (keeps.reads (unused number) reads) refl) (λ there reads. reads)

-- a change of one event selects none
pub changed : (how : Event → Event) → Keeps how → (number event : ℕ) (events : List Event) → IsRead event (change number how events) → IsRead event events
changed how keeps number event [] is = head-unused how keeps number event [] is
changed how keeps number event (x ∷ xs) is =
    elim (nat_lt number x.number) as (λ b. IsRead event (cond b (how (unused number) ∷ x ∷ xs) (cond (eqb x.number number) (how x ∷ xs) (x ∷ change number how xs))) → IsRead event (x ∷ xs)) [
      | true ↦ λ h. head-unused how keeps number event (x ∷ xs) h
      | false ↦ λ h.
          elim (eqb x.number number) as (λ b. IsRead event (cond b (how x ∷ xs) (x ∷ change number how xs)) → IsRead event (x ∷ xs)) [
            | true ↦ λ h. head-kept how keeps x event xs xs (λ r. r) h
            | false ↦ λ h. head-kept (λ e. e) (record { number = λ e. refl; reads = λ e r. r }) x event (change number how xs) xs (changed how keeps number event xs) h
          ] h
    ] is

pub eqb-same : (n : ℕ) → eqb n n ≡ true
eqb-same n = (Decides-eqb n n).1 refl

-- a change that deselects its event
pub deselects : (how : Event → Event) → ((e : Event) → (how e).number ≡ e.number) → ((e : Event) → (how e).reads ≡ false) → (number : ℕ) (events : List Event)
    → (event_of number (change number how events)).reads ≡ false
deselects how same none number [] = choice (eqb (how (unused number)).number number) (how (unused number)) (unused number) (λ b. b ≡ false) (λ e. none (unused number)) (λ e. refl)
deselects how same none number (x ∷ xs) =
    elim (nat_lt number x.number) as (λ b. (event_of number (cond b (how (unused number) ∷ x ∷ xs) (cond (eqb x.number number) (how x ∷ xs) (x ∷ change number how xs)))).reads ≡ false) [
      | true ↦ choice (eqb (how (unused number)).number number) (how (unused number)) (event_of number (x ∷ xs)) (λ b. b ≡ false) (λ e. none (unused number))
          (λ e. bad (eqb number number) (eqb-same number) (ap (λ n. eqb n number) (sym (same (unused number))) ∙ e))
      | false ↦
          elim (eqb x.number number) as (λ b. eqb x.number number ≡ b → (event_of number (cond b (how x ∷ xs) (x ∷ change number how xs))).reads ≡ false) [
            | true ↦ λ is. choice (eqb (how x).number number) (how x) (event_of number xs) (λ b. b ≡ false) (λ e. none x)
                (λ e. bad (eqb x.number number) is (ap (λ n. eqb n number) (sym (same x)) ∙ e))
            | false ↦ λ is. choice (eqb x.number number) x (event_of number (change number how xs)) (λ b. b ≡ false) (λ e. bad (eqb x.number number) e is) (λ e. deselects how same none number xs)
          ] refl
    ]

-- a change of all events selects none
pub mapped : (how : Event → Event) → Keeps how → (event : ℕ) (events : List Event) → IsRead event (map how events) → IsRead event events
mapped how keeps event [] is = is
mapped how keeps event (x ∷ xs) is = head-kept how keeps x event (map how xs) xs (mapped how keeps event xs) is

-- and one that deselects all leaves none selected
pub none-mapped : (how : Event → Event) → ((e : Event) → (how e).reads ≡ false) → (event : ℕ) (events : List Event) → (event_of event (map how events)).reads ≡ false
none-mapped how none event [] = refl
none-mapped how none event (x ∷ xs) = choice (eqb (how x).number event) (how x) (event_of event (map how xs)) (λ b. b ≡ false) (λ e. none x) (λ e. none-mapped how none event xs)

keeps-arm : Keeps arm
keeps-arm = record { number = λ e. refl; reads = λ e r. r }

keeps-give_up : Keeps give_up
keeps-give_up = record { number = λ e. refl; reads = λ e r. bad false r refl }

keeps-disarm : (dir : Dir) → Keeps (disarm dir)
keeps-disarm Read = record { number = λ e. refl; reads = λ e r. r }
keeps-disarm Write = record { number = λ e. refl; reads = λ e r. r }

keeps-drop : Keeps drop_event
keeps-drop = record { number = λ e. refl; reads = λ e r. r }

keeps-write : (on : Bool) → Keeps (select Write on)
keeps-write on = record { number = λ e. refl; reads = λ e r. r }

keeps-off : Keeps (select Read false)
keeps-off = record { number = λ e. refl; reads = λ e r. bad false r refl }

-- an effect selects an event for reading
abbrev pub selects_reading : List Effect → Bool
selects_reading [] = false
selects_reading (Select event Read true ∷ effects) = true
selects_reading (effect ∷ effects) = selects_reading effects

-- effects that select none for reading
pub selected : (event : ℕ) (effects : List Effect) (events : List Event) → selects_reading effects ≡ false → IsRead event (selected_by effects events) → IsRead event events
selected event [] events none is = is
selected event (Select number Read true ∷ effects) events none is = bad true refl none
selected event (Select number Read false ∷ effects) events none is = changed (select Read false) keeps-off number event events (selected event effects (change number (select Read false) events) none is)
selected event (Select number Write on ∷ effects) events none is = changed (select Write on) (keeps-write on) number event events (selected event effects (change number (select Write on) events) none is)
selected event (Unuse number ∷ effects) events none is = changed give_up keeps-give_up number event events (selected event effects (change number give_up events) none is)
selected event (effect ∷ effects) events none is = selected event effects events none is

pub selected_by-append : (effects more : List Effect) (events : List Event) → selected_by (effects ++ more) events ≡ selected_by more (selected_by effects events)
selected_by-append [] more events = refl
selected_by-append (Select number dir on ∷ effects) more events = selected_by-append effects more (change number (select dir on) events)
selected_by-append (Unuse number ∷ effects) more events = selected_by-append effects more (change number give_up events)
selected_by-append (effect ∷ effects) more events = selected_by-append effects more events

-- a task that comes selects none
pub told : (late : Bool) (signal : Signal) (event : ℕ) (events : List Event) → IsRead event (told_of late signal events) → IsRead event events
told late (Ready number dir) event events is = changed (disarm dir) (keeps-disarm dir) number event events is
told false (Dropped number) event events is = changed drop_event keeps-drop number event events is
told late signal event events is = is

stopped-kept : (stops : Bool) (event : ℕ) (events : List Event) → IsRead event (stopped_by stops events) → IsRead event events
stopped-kept true event events is = mapped give_up keeps-give_up event events is
stopped-kept false event events is = is

-- what is selected after a handled task was selected by its effects, and the port isn't closed
pub after-selected : (signal : Signal) (effects : List Effect) (closed stops : Bool) (event : ℕ) (events : List Event) → IsRead event (events_after signal effects closed stops events)
    → (closed ≡ false) × IsRead event (selected_by effects (told_of false signal events))
after-selected signal effects true stops event events is =
    bad (event_of event (map read_no_more (selected_by effects (told_of false signal events)))).reads
    (mapped arm keeps-arm event (map read_no_more (selected_by effects (told_of false signal events)))
    (stopped-kept stops event (map arm (map read_no_more (selected_by effects (told_of false signal events)))) is))
    (none-mapped read_no_more (λ e. refl) event (selected_by effects (told_of false signal events)))
after-selected signal effects false stops event events is =
    (refl, mapped arm keeps-arm event (selected_by effects (told_of false signal events)) (stopped-kept stops event (map arm (selected_by effects (told_of false signal events))) is))

-- and before it, where its effects select none
pub before-selected : (signal : Signal) (effects : List Effect) (closed stops : Bool) (event : ℕ) (events : List Event) → selects_reading effects ≡ false
    → IsRead event (events_after signal effects closed stops events) → (closed ≡ false) × IsRead event events
before-selected signal effects closed stops event events none is =
    let after = after-selected signal effects closed stops event events is in
    (after.0, told false signal event events (selected event effects (told_of false signal events) none after.1))

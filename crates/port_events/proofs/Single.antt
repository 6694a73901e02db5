-- What is done to one event.
use Rattle.std.proofs.Common.{◌≡◌, ℕ, ◌==◌, cond, Bool, true, false, ◌||◌, ◌&&◌, not, List, [], ◌∷◌, ◌++◌, refl, sym, ap, ◌∙◌, subst, eq-eqb, Result, Ok, Err}
use Rattle.std.specs.Prelude.{OnOk}
use Rattle.std.specs.Result.{is_err}
use Rattle.std.proofs.lemmas.List.{append-nil, append_assoc}
use Rattle.port_model.specs.declared.event.Dir.{Dir}
use Rattle.port_model.specs.declared.event.Dir.TheVariants.{Read, Write}
use Rattle.port_model.specs.declared.effect.Effect.TheVariants as effect
use Rattle.ready_select.specs.declared.selector.Unused.{Unused}
use Rattle.ready_select.specs.declared.selector.Unused.TheVariants.{Now, Later}
use Rattle.ready_select.specs.declared.ask.PollAsk.TheVariants.{Arm, Drop}
use Rattle.ready_select.specs.Sets.{Events, has}
use Rattle.port_history.specs.Events.{Event, change, event_of, numbers, is_selected, is_armed_in, is_armed, select, give_up, arm}
use Rattle.port_events.specs.Table.{EventTable, Agrees, IsLawful, Changes, KeepsEnd}
use Rattle.port_events.specs.Asks.{arm_asks, drop_asks, has_room}
use Rattle.port_events.specs.Parts.{Part, Does, following, one, none, back_now, arm_in, arm_in_asks}
use Rattle.port_events.proofs.Rising.{up-from, number-of, changed, rising-change}
use Rattle.port_events.proofs.Steps.{agrees-as, keeps-arm_in}
use Rattle.port_events.proofs.Parts.{same-port}

-- nothing is asked or given back
pub quiet : (how : Event → Event) (t : EventTable) (s : Events) (n : ℕ) → Changes t.selector s n how → Does (one how none none n) t (record t { selector = s }) [] []
quiet how t s n changes events a = record { agrees = changes events a; asked = sym (append-nil t.asks.sent); given_back = refl; room = refl }

is_now : (b : Bool) → Now ≡ cond b Later Now → b ≡ false
is_now true h = absurd cc
is_now false h = refl

is_later : (b : Bool) → Later ≡ cond b Later Now → b ≡ true
is_later true h = refl
is_later false h = absurd cc

and_false : (b : Bool) → (b && false) ≡ false
and_false true = refl
and_false false = refl

held_not : (h w : Bool) → (h && w) ≡ false → w ≡ true → h ≡ false
held_not true true p q = absurd cc
held_not true false p q = absurd cc
held_not false w p q = refl

held_then : (h w : Bool) → (h || w) ≡ true → w ≡ false → h ≡ true
held_then true w p q = refl
held_then false true p q = absurd cc
held_then false false p q = absurd cc

some_armed : (e : Event) → IsLawful e → is_armed e ≡ true → (e.held || e.waits) ≡ true
some_armed e l = pick e.armed_to_read e.armed_to_write (l.armed Read) (l.armed Write) where
  pick : (r w : Bool) → (r ≡ true → (e.held || e.waits) ≡ true) → (w ≡ true → (e.held || e.waits) ≡ true) → (r || w) ≡ true → (e.held || e.waits) ≡ true
  pick true w f g h = f refl
  pick false w f g h = g h

module _ (t : EventTable) (s : Events) (n : ℕ) (changes : Changes t.selector s n give_up) (answer : Unused)
    (tells : (events : List Event) → Agrees t.selector events → answer ≡ cond (is_armed (event_of n events)) Later Now) where
  pub gave-now : answer ≡ Now → (before after : List ℕ) → after ≡ before ++ n ∷ []
      → Does (one give_up (drop_asks t.port) back_now n) t (record t { selector = s }) before after
  gave-now now before after pushed events a =
      let e = event_of n events in
      let idle = is_now (is_armed e) (sym now ∙ tells events a) in
      record {
        agrees = changes events a;
        asked = sym (append-nil t.asks.sent) ∙ ap (λ xs. t.asks.sent ++ xs)
            (sym (ap (λ b. cond (e.held && b) (Drop t.port e.number ∷ []) []) idle ∙ ap (λ b. cond b (Drop t.port e.number ∷ []) []) (and_false e.held)));
        given_back = pushed ∙ ap (λ xs. before ++ xs) (sym (ap (λ b. cond b [] (e.number ∷ [])) idle ∙ ap (λ m. m ∷ []) (number-of n events)));
        room = refl;
      }

  pub gave-waits : answer ≡ Later → has n t.selector.waiting ≡ true → (before : List ℕ)
      → Does (one give_up (drop_asks t.port) back_now n) t (record t { selector = s }) before before
  gave-waits later waits before events a =
      let e = event_of n events in
      let armed = is_later (is_armed e) (sym later ∙ tells events a) in
      let out = held_not e.held e.waits (a.lawful n).apart (sym (a.waiting n) ∙ waits) in
      record {
        agrees = changes events a;
        asked = sym (append-nil t.asks.sent) ∙ ap (λ xs. t.asks.sent ++ xs) (sym (ap (λ b. cond (b && is_armed e) (Drop t.port e.number ∷ []) []) out));
        given_back = sym (append-nil before) ∙ ap (λ xs. before ++ xs) (sym (ap (λ b. cond b [] (e.number ∷ [])) armed));
        room = refl;
      }

  pub gave-drop : answer ≡ Later → has n t.selector.waiting ≡ false → (p : ℕ) → p ≡ t.port → (new : EventTable)
      → new ≡ record t { selector = s; asks = record t.asks { sent = t.asks.sent ++ Drop p n ∷ [] } } → (before : List ℕ)
      → Does (one give_up (drop_asks t.port) back_now n) t new before before
  gave-drop later waits p port new is before events a =
      let e = event_of n events in
      let armed = is_later (is_armed e) (sym later ∙ tells events a) in
      let held = held_then e.held e.waits (some_armed e (a.lawful n) armed) (sym (a.waiting n) ∙ waits) in
      record {
        agrees = subst (λ (u : EventTable). Agrees u.selector (change n give_up events)) (sym is) (changes events a);
        asked = ap (λ (u : EventTable). u.asks.sent) is ∙ ap (λ xs. t.asks.sent ++ xs)
            (ap (λ m. Drop m n ∷ []) port
            ∙ (ap (λ m. Drop t.port m ∷ []) (sym (number-of n events))
            ∙ (ap (λ b. cond b (Drop t.port e.number ∷ []) []) (sym armed)
            ∙ ap (λ b. cond (b && is_armed e) (Drop t.port e.number ∷ []) []) (sym held))));
        given_back = sym (append-nil before) ∙ ap (λ xs. before ++ xs) (sym (ap (λ b. cond b [] (e.number ∷ [])) armed));
        room = refl;
      }

module _ (t : EventTable) (s : Events) (n : ℕ) (dir : Dir) (changes : Changes t.selector s n (arm_in dir)) (answer : Bool)
    (tells : (events : List Event) → Agrees t.selector events → answer ≡ (is_selected dir (event_of n events) && not (is_armed_in dir (event_of n events)))) where
  pub armed-asked : answer ≡ true → (p : ℕ) → p ≡ t.port → (new : EventTable)
      → new ≡ record t { selector = s; asks = record t.asks { sent = t.asks.sent ++ Arm p n dir ∷ [] } }
      → Does (one (arm_in dir) (arm_in_asks dir t.port) none n) t new [] []
  armed-asked became p port new is events a =
      let e = event_of n events in
      record {
        agrees = subst (λ (u : EventTable). Agrees u.selector (change n (arm_in dir) events)) (sym is) (changes events a);
        asked = ap (λ (u : EventTable). u.asks.sent) is ∙ ap (λ xs. t.asks.sent ++ xs)
            (ap (λ m. Arm m n dir ∷ []) port
            ∙ (ap (λ m. Arm t.port m dir ∷ []) (sym (number-of n events))
            ∙ ap (λ b. cond b (Arm t.port e.number dir ∷ []) []) (sym became ∙ tells events a)));
        given_back = refl;
        room = refl;
      }

  pub armed-silent : answer ≡ false → Does (one (arm_in dir) (arm_in_asks dir t.port) none n) t (record t { selector = s }) [] []
  armed-silent out events a =
      let e = event_of n events in
      record {
        agrees = changes events a;
        asked = sym (append-nil t.asks.sent) ∙ ap (λ xs. t.asks.sent ++ xs) (ap (λ b. cond b (Arm t.port e.number dir ∷ []) []) (sym out ∙ tells events a));
        given_back = refl;
        room = refl;
      }

-- both directions
pub armed-both : {T F : Type 0} (r : Result T F) (t u v : EventTable) (n : ℕ) → Does (one (arm_in Read) (arm_in_asks Read t.port) none n) t u [] [] → KeepsEnd t u
    → OnOk r (Does (one (arm_in Write) (arm_in_asks Write u.port) none n) u v [] []) → OnOk r (Does (one arm (arm_asks t.port) none n) t v [] [])
armed-both (Err fault) t u v n first keeps second = second
armed-both (Ok value) t u v n first keeps second = λ events a.
    let e = event_of n events in
    let up = up-from (numbers events) a.rising in
    let d1 = first events a in
    let d2 = second (change n (arm_in Read) events) d1.agrees in
    let middle : event_of n (change n (arm_in Read) events) ≡ arm_in Read e =
    changed n (arm_in Read) (keeps-arm_in Read) n events up ∙ ap (λ b. cond b (arm_in Read e) e) (eq-eqb n n refl) in
    record {
      agrees = agrees-as v.selector (change n (arm_in Write) (change n (arm_in Read) events)) (change n arm events) d2.agrees (rising-change n arm (λ x. refl) events up) (λ o.
          changed n (arm_in Write) (keeps-arm_in Write) o (change n (arm_in Read) events) (rising-change n (arm_in Read) (keeps-arm_in Read) events up)
          ∙ (ap (λ x. cond (n == o) (arm_in Write x) x) (changed n (arm_in Read) (keeps-arm_in Read) o events up)
          ∙ (elim (n == o) as (λ b. cond b (arm_in Write (cond b (arm_in Read (event_of o events)) (event_of o events))) (cond b (arm_in Read (event_of o events)) (event_of o events))
          ≡ cond b (arm (event_of o events)) (event_of o events)) [
            | true ↦ refl
            | false ↦ refl
          ] ∙ sym (changed n arm (λ x. refl) o events up))));
      asked = d2.asked
          ∙ (ap (λ sent. sent ++ arm_in_asks Write u.port (event_of n (change n (arm_in Read) events))) d1.asked
          ∙ (append_assoc t.asks.sent (arm_in_asks Read t.port e) (arm_in_asks Write u.port (event_of n (change n (arm_in Read) events)))
          ∙ ap (λ xs. t.asks.sent ++ (arm_in_asks Read t.port e ++ xs))
          (ap (λ x. arm_in_asks Write u.port x) middle ∙ ap (λ p. arm_in_asks Write p (arm_in Read e)) (same-port t u keeps))));
      given_back = refl;
      room = refl;
    }

-- a selection
pub selected-done : {T F : Type 0} (r : Result T F) (t : EventTable) (s : Events) (n : ℕ) (dir : Dir) (on : Bool) → is_err r ≡ false → OnOk r (Changes t.selector s n (select dir on))
    → OnOk r ((events : List Event) → Agrees t.selector events → has_room (effect.Select n dir on ∷ []) events ≡ true)
    → Does (following t.port (effect.Select n dir on ∷ [])) t (record t { selector = s }) [] []
selected-done (Err fault) t s n dir on ok changes room = absurd cc
selected-done (Ok value) t s n dir on ok changes room = λ events a.
    record { agrees = changes events a; asked = sym (append-nil t.asks.sent); given_back = refl; room = room events a }

-- the same with a list of events that are given back before
pub with-before : (part : Part) (t u : EventTable) → ((events : List Event) → part.given_back events ≡ []) → Does part t u [] [] → (before : List ℕ) → Does part t u before before
with-before part t u nothing does before events a =
    let d = does events a in
    record { agrees = d.agrees; asked = d.asked; given_back = sym (append-nil before) ∙ ap (λ xs. before ++ xs) (sym (nothing events)); room = d.room }

-- a table is seen as its fields
pub as-seen : (part : EventTable → Part) (t t' new : EventTable) (before after : List ℕ) → t ≡ t' → Does (part t) t new before after → Does (part t') t' new before after
as-seen part t t' new before after same = subst (λ u. Does (part u) u new before after) same

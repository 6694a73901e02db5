-- The parts of a row, one after another.
use Rattle.std.proofs.Common.{◌≡◌, ℕ, ◌+◌, ◌<◌, ◌≤◌, length, drop, get_or, cond, Bool, true, false, ◌&&◌, List, [], ◌∷◌, ◌++◌, refl, sym, ap, ◌∙◌, subst}
use Rattle.std.proofs.lemmas.List.{append-nil, append_assoc, drop_more, drop_all}
use Rattle.port_model.specs.declared.effect.Effect.{Effect}
use Rattle.port_model.specs.declared.effect.Effect.TheVariants.{Message, Eof, Status, Busy, Select, Unuse, Async, Watch, Reply, ReplyBadarg, Fail}
use Rattle.ready_select.specs.declared.ask.PollAsk.{PollAsk}
use Rattle.std.specs.Prelude.{not, nat_le, count_by}
use Rattle.port_history.specs.Events.{Event, change, event_of, select, give_up, given_up, is_armed}
use Rattle.port_events.specs.Table.{EventTable, Agrees, KeepsEnd}
use Rattle.port_events.specs.Asks.{drop_asks, given_up_asks, has_room, is_used}
use Rattle.port_events.specs.Parts.{Part, Does, HasNoRoom, following, one, each}

-- the end stays the same one

pub keeps-none : (a b : EventTable) → b ≡ a → KeepsEnd a b
keeps-none a b same = subst (KeepsEnd a) (sym same) refl

pub keeps-then : (a b c : EventTable) → KeepsEnd a b → KeepsEnd b c → KeepsEnd a c
keeps-then a b c p q = q ∙ ap (λ (t : EventTable). record t { selector = c.selector; asks = record t.asks { sent = c.asks.sent } }) p

pub same-port : (a b : EventTable) → KeepsEnd a b → b.port ≡ a.port
same-port a b keeps = ap (λ (t : EventTable). t.port) keeps

-- a part is one part and then another
pub record IsThen (whole first rest : Part) : Type 0 where
  pub after : (events : List Event) → whole.after events ≡ rest.after (first.after events)
  pub asks : (events : List Event) → whole.asks events ≡ first.asks events ++ rest.asks (first.after events)
  pub given_back : (events : List Event) → whole.given_back events ≡ first.given_back events ++ rest.given_back (first.after events)
  pub room : (events : List Event) → whole.room events ≡ (first.room events && rest.room (first.after events))

-- In the midst of a part: from these events on, what is left leads to what the whole leads to
pub record IsMidway (part rest : Part) (events : List Event) (old now : EventTable) (before given : List ℕ) : Type 0 where
  pub mid : List Event
  pub agrees : Agrees now.selector mid
  pub after : rest.after mid ≡ part.after events
  pub asked : now.asks.sent ++ rest.asks mid ≡ old.asks.sent ++ part.asks events
  pub given_back : given ++ rest.given_back mid ≡ before ++ part.given_back events
  pub room : rest.room mid ≡ part.room events

abbrev pub Midway : Part → Part → EventTable → EventTable → List ℕ → List ℕ → Type 0
Midway part rest old now before given = (events : List Event) → Agrees old.selector events → IsMidway part rest events old now before given

pub midway-start : (part : Part) (old : EventTable) (before : List ℕ) → Midway part part old old before before
midway-start part old before events a = record { mid = events; agrees = a; after = refl; asked = refl; given_back = refl; room = refl }

rest_room : (w f r p : Bool) → w ≡ p → w ≡ (f && r) → f ≡ true → r ≡ p
rest_room w true r p e s t = sym s ∙ e
rest_room w false r p e s t = absurd cc

pub midway-next : (part whole first rest : Part) (old now next : EventTable) (before given more : List ℕ)
    → Midway part whole old now before given → IsThen whole first rest → Does first now next given more → Midway part rest old next before more
midway-next part whole first rest old now next before given more m t does events a =
    let w = m events a in
    let d = does w.mid w.agrees in
    record {
      mid = first.after w.mid;
      agrees = d.agrees;
      after = sym (t.after w.mid) ∙ w.after;
      asked = ap (λ sent. sent ++ rest.asks (first.after w.mid)) d.asked
          ∙ (append_assoc now.asks.sent (first.asks w.mid) (rest.asks (first.after w.mid))
          ∙ (ap (λ xs. now.asks.sent ++ xs) (sym (t.asks w.mid)) ∙ w.asked));
      given_back = ap (λ xs. xs ++ rest.given_back (first.after w.mid)) d.given_back
          ∙ (append_assoc given (first.given_back w.mid) (rest.given_back (first.after w.mid))
          ∙ (ap (λ xs. given ++ xs) (sym (t.given_back w.mid)) ∙ w.given_back));
      room = rest_room (whole.room w.mid) (first.room w.mid) (rest.room (first.after w.mid)) (part.room events) w.room (t.room w.mid) d.room;
    }

no_room : (w f r p : Bool) → w ≡ p → w ≡ (f && r) → f ≡ false → p ≡ false
no_room w true r p e s t = absurd cc
no_room w false r p e s t = sym e ∙ s

pub midway-full : (part whole first rest : Part) (old now : EventTable) (before given : List ℕ)
    → Midway part whole old now before given → IsThen whole first rest → HasNoRoom first now → HasNoRoom part old
midway-full part whole first rest old now before given m t full events a =
    let w = m events a in
    no_room (whole.room w.mid) (first.room w.mid) (rest.room (first.after w.mid)) (part.room events) w.room (t.room w.mid) (full w.mid w.agrees)

-- nothing is left
abbrev pub Nothing : Part
Nothing = record { after = λ events. events; asks = λ events. []; given_back = λ events. []; room = λ events. true }

pub midway-done : (part : Part) (old now : EventTable) (before given : List ℕ) → Midway part Nothing old now before given → Does part old now before given
midway-done part old now before given m events a =
    let w = m events a in
    record {
      agrees = subst (Agrees now.selector) w.after w.agrees;
      asked = sym (append-nil now.asks.sent) ∙ w.asked;
      given_back = sym (append-nil given) ∙ w.given_back;
      room = sym w.room;
    }

and_true : (b : Bool) → (b && true) ≡ b
and_true true = refl
and_true false = refl

-- the effects of a callback, one and then the rest
pub then-following : (port : ℕ) (x : Effect) (xs : List Effect) → IsThen (following port (x ∷ xs)) (following port (x ∷ [])) (following port xs)
then-following port (Select event dir on) xs = record {
  after = λ events. refl;
  asks = λ events. refl;
  given_back = λ events. refl;
  room = λ events. ap (λ b. b && has_room xs (change event (select dir on) events))
      (sym (and_true (not (event_of event events).waits && nat_le (count_by is_used (change event (select dir on) events)) 64)));
}
then-following port (Unuse event) xs = record {
  after = λ events. refl;
  asks = λ events. ap (λ asks. asks ++ given_up_asks port xs (change event give_up events)) (sym (append-nil (drop_asks port (event_of event events))));
  given_back = λ events. ap (λ numbers. numbers ++ given_up xs (change event give_up events)) (sym (append-nil (cond (is_armed (event_of event events)) [] (event ∷ []))));
  room = λ events. refl;
}
then-following port (Message flag bytes) xs = record { after = λ events. refl; asks = λ events. refl; given_back = λ events. refl; room = λ events. refl }
then-following port Eof xs = record { after = λ events. refl; asks = λ events. refl; given_back = λ events. refl; room = λ events. refl }
then-following port (Status status) xs = record { after = λ events. refl; asks = λ events. refl; given_back = λ events. refl; room = λ events. refl }
then-following port (Busy busy) xs = record { after = λ events. refl; asks = λ events. refl; given_back = λ events. refl; room = λ events. refl }
then-following port (Async number key code input) xs = record { after = λ events. refl; asks = λ events. refl; given_back = λ events. refl; room = λ events. refl }
then-following port (Watch process) xs = record { after = λ events. refl; asks = λ events. refl; given_back = λ events. refl; room = λ events. refl }
then-following port (Reply bytes) xs = record { after = λ events. refl; asks = λ events. refl; given_back = λ events. refl; room = λ events. refl }
then-following port ReplyBadarg xs = record { after = λ events. refl; asks = λ events. refl; given_back = λ events. refl; room = λ events. refl }
then-following port (Fail reason) xs = record { after = λ events. refl; asks = λ events. refl; given_back = λ events. refl; room = λ events. refl }

-- the numbers of a list, one and then the rest
pub then-each : (how : Event → Event) (asks : Event → List PollAsk) (given_back : Event → List ℕ) (n : ℕ) (ns : List ℕ)
    → IsThen (each (one how asks given_back) (n ∷ ns)) (one how asks given_back n) (each (one how asks given_back) ns)
then-each how asks given_back n ns = record { after = λ events. refl; asks = λ events. refl; given_back = λ events. refl; room = λ events. room_is ns (change n how events) } where
  room_is : (ms : List ℕ) (es : List Event) → true ≡ (true && (each (one how asks given_back) ms).room es)
  room_is [] es = refl
  room_is (m ∷ ms) es = refl

pub each-at : (how : Event → Event) (asks : Event → List PollAsk) (given_back : Event → List ℕ) (ns : List ℕ) (i : ℕ) → i < length ns
    → IsThen (each (one how asks given_back) (drop i ns)) (one how asks given_back (get_or ns i 0)) (each (one how asks given_back) (drop (i + 1) ns))
each-at how asks given_back ns i less =
    subst (λ ms. IsThen (each (one how asks given_back) ms) (one how asks given_back (get_or ns i 0)) (each (one how asks given_back) (drop (i + 1) ns)))
    (sym (drop_more ns i 0 less)) (then-each how asks given_back (get_or ns i 0) (drop (i + 1) ns))

pub following-at : (port : ℕ) (effects : List Effect) (i : ℕ) (x : Effect) → i < length effects → x ≡ get_or effects i x
    → IsThen (following port (drop i effects)) (following port (x ∷ [])) (following port (drop (i + 1) effects))
following-at port effects i x less is =
    subst (λ es. IsThen (following port es) (following port (x ∷ [])) (following port (drop (i + 1) effects)))
    (sym (drop_more effects i x less ∙ ap (λ y. y ∷ drop (i + 1) effects) (sym is))) (then-following port x (drop (i + 1) effects))

-- nothing is left at the end
pub each-done : (how : Event → Event) (asks : Event → List PollAsk) (given_back : Event → List ℕ) (ns : List ℕ) (i : ℕ) (part : Part) (old now : EventTable) (before given : List ℕ)
    → length ns ≤ i → Midway part (each (one how asks given_back) (drop i ns)) old now before given → Does part old now before given
each-done how asks given_back ns i part old now before given all m =
    midway-done part old now before given (subst (λ ms. Midway part (each (one how asks given_back) ms) old now before given) (drop_all i ns all) m)

pub following-done : (port : ℕ) (effects : List Effect) (i : ℕ) (part : Part) (old now : EventTable) (before given : List ℕ)
    → length effects ≤ i → Midway part (following port (drop i effects)) old now before given → Does part old now before given
following-done port effects i part old now before given all m =
    midway-done part old now before given (subst (λ es. Midway part (following port es) old now before given) (drop_all i effects all) m)

-- A row, from its parts.
use Rattle.std.proofs.Common.{◌≡◌, ℕ, cond, map, Bool, false, List, [], ◌∷◌, ◌++◌, refl, sym, ap, ◌∙◌, subst, Result, Ok, Err}
use Rattle.std.specs.Prelude.{OnOk, IfErr}
use Rattle.std.specs.Result.{IsErrAnd}
use Rattle.std.specs.List.{flat_map}
use Rattle.std.proofs.lemmas.List.{append-nil, append_assoc}
use Rattle.port_model.specs.declared.signal.Signal.{Signal}
use Rattle.port_model.specs.declared.effect.Effect.{Effect}
use Rattle.port_model.specs.declared.effect.Effect.TheVariants.{Message, Eof, Status, Busy, Select, Unuse, Async, Watch, Reply, ReplyBadarg, Fail}
use Rattle.port_history.specs.Events.{Event, change, event_of, is_armed, select, give_up, given_up, told_of, selected_by, deselected, arm, events_after, given_back, dropped_by, left_by}
use Rattle.port_events.specs.Table.{EventTable, Agrees, KeepsEnd}
use Rattle.port_events.specs.Asks.{arm_asks, drop_asks, given_up_asks, stop_asks, asks_of, has_room, gives_up}
use Rattle.port_events.specs.Parts.{Part, Does, following, closing, arming, starting, stopping, one, back_now}
use Rattle.port_events.proofs.Rising.{number-of}
use Rattle.port_events.proofs.Parts.{same-port}

pub then-ok : {T F : Type 0} {P Q : Type 0} (r : Result T F) → (P → Q) → OnOk r P → OnOk r Q
then-ok (Ok value) f p = f p
then-ok (Err fault) f p = p

-- an event that is given up
pub unused-one : (port n : ℕ) (t u : EventTable) (before after : List ℕ) → Does (one give_up (drop_asks port) back_now n) t u before after
    → Does (following port (Unuse n ∷ [])) t u before after
unused-one port n t u before after does events a =
    let d = does events a in
    let e = event_of n events in
    record {
      agrees = d.agrees;
      asked = d.asked ∙ ap (λ xs. t.asks.sent ++ xs) (sym (append-nil (drop_asks port e)));
      given_back = d.given_back ∙ ap (λ xs. before ++ xs)
          (ap (λ m. cond (is_armed e) [] (m ∷ [])) (number-of n events) ∙ sym (append-nil (cond (is_armed e) [] (n ∷ []))));
      room = refl;
    }

-- where nothing is given up, nothing is dropped
no_drops : (port : ℕ) (effects : List Effect) → gives_up effects ≡ false → (events : List Event) → given_up_asks port effects events ≡ []
no_drops port [] none events = refl
no_drops port (Select event dir on ∷ effects) none events = no_drops port effects none (change event (select dir on) events)
no_drops port (Unuse event ∷ effects) none events = absurd cc
no_drops port (Message flag bytes ∷ effects) none events = no_drops port effects none events
no_drops port (Eof ∷ effects) none events = no_drops port effects none events
no_drops port (Status status ∷ effects) none events = no_drops port effects none events
no_drops port (Busy busy ∷ effects) none events = no_drops port effects none events
no_drops port (Async number key code input ∷ effects) none events = no_drops port effects none events
no_drops port (Watch process ∷ effects) none events = no_drops port effects none events
no_drops port (Reply bytes ∷ effects) none events = no_drops port effects none events
no_drops port (ReplyBadarg ∷ effects) none events = no_drops port effects none events
no_drops port (Fail reason ∷ effects) none events = no_drops port effects none events

pub started : (effects : List Effect) → gives_up effects ≡ false → (t u v : EventTable) (before after : List ℕ) → Does (following t.port effects) t u before after → KeepsEnd t u
    → Does (arming u.port) u v [] [] → Does (starting t.port effects) t v [] []
started effects none t u v before after follow keeps armed events a =
    let d1 = follow events a in
    let d2 = armed (selected_by effects events) d1.agrees in
    record {
      agrees = d2.agrees;
      asked = d2.asked
          ∙ (ap (λ sent. sent ++ flat_map (arm_asks u.port) (selected_by effects events))
          (d1.asked ∙ (ap (λ xs. t.asks.sent ++ xs) (no_drops t.port effects none events) ∙ append-nil t.asks.sent))
          ∙ ap (λ p. t.asks.sent ++ flat_map (arm_asks p) (selected_by effects events)) (same-port t u keeps));
      given_back = refl;
      room = d1.room;
    }

-- the row of a handled task
abbrev pub handling : ℕ → Signal → List Effect → Bool → Bool → Part
handling port signal effects closed stops = record {
  after = events_after signal effects closed stops;
  asks = asks_of port signal effects closed stops;
  given_back = given_back signal effects closed stops;
  room = λ events. has_room effects (told_of false signal events);
}

pub handled : (signal : Signal) (effects : List Effect) (closed stops : Bool) (t0 t1 t2 t3 t4 t5 : EventTable) (g1 g2 g5 : List ℕ)
    → ((events : List Event) → Agrees t0.selector events → Agrees t1.selector (told_of false signal events)) → t1 ≡ record t0 { selector = t1.selector }
    → g1 ≡ dropped_by signal
    → Does (following t1.port effects) t1 t2 g1 g2 → KeepsEnd t1 t2
    → Does (closing closed) t2 t3 [] [] → KeepsEnd t2 t3
    → Does (arming t3.port) t3 t4 [] [] → KeepsEnd t3 t4
    → Does (stopping t4.port stops) t4 t5 g2 g5
    → Does (handling t0.port signal effects closed stops) t0 t5 [] g5
handled signal effects closed stops t0 t1 t2 t3 t4 t5 g1 g2 g5 told same dropped follow keeps2 close keeps3 armed keeps4 stop events a =
    let e1 = told_of false signal events in
    let e2 = selected_by effects e1 in
    let e3 = deselected closed e2 in
    let d2 = follow e1 (told events a) in
    let d3 = close e2 d2.agrees in
    let d4 = armed e3 d3.agrees in
    let d5 = stop (map arm e3) d4.agrees in
    let p1 : t1.port ≡ t0.port = ap (λ (t : EventTable). t.port) same in
    let p3 : t3.port ≡ t0.port = same-port t2 t3 keeps3 ∙ (same-port t1 t2 keeps2 ∙ p1) in
    let p4 : t4.port ≡ t0.port = same-port t3 t4 keeps4 ∙ p3 in
    let s1 : t1.asks.sent ≡ t0.asks.sent = ap (λ (t : EventTable). t.asks.sent) same in
    let s2 : t2.asks.sent ≡ t0.asks.sent ++ given_up_asks t0.port effects e1 =
    d2.asked ∙ (ap (λ sent. sent ++ given_up_asks t1.port effects e1) s1 ∙ ap (λ p. t0.asks.sent ++ given_up_asks p effects e1) p1) in
    let s3 : t3.asks.sent ≡ t0.asks.sent ++ given_up_asks t0.port effects e1 = d3.asked ∙ (append-nil t2.asks.sent ∙ s2) in
    let s4 : t4.asks.sent ≡ (t0.asks.sent ++ given_up_asks t0.port effects e1) ++ flat_map (arm_asks t0.port) e3 =
    d4.asked ∙ (ap (λ sent. sent ++ flat_map (arm_asks t3.port) e3) s3
    ∙ ap (λ p. (t0.asks.sent ++ given_up_asks t0.port effects e1) ++ flat_map (arm_asks p) e3) p3) in
    record {
      agrees = d5.agrees;
      asked = d5.asked
          ∙ (ap (λ sent. sent ++ stop_asks t4.port stops (map arm e3)) s4
          ∙ (ap (λ p. ((t0.asks.sent ++ given_up_asks t0.port effects e1) ++ flat_map (arm_asks t0.port) e3) ++ stop_asks p stops (map arm e3)) p4
          ∙ (ap (λ xs. xs ++ stop_asks t0.port stops (map arm e3)) (append_assoc t0.asks.sent (given_up_asks t0.port effects e1) (flat_map (arm_asks t0.port) e3))
          ∙ append_assoc t0.asks.sent (given_up_asks t0.port effects e1 ++ flat_map (arm_asks t0.port) e3) (stop_asks t0.port stops (map arm e3)))));
      given_back = d5.given_back
          ∙ ap (λ xs. xs ++ left_by stops (map arm e3)) (d2.given_back ∙ ap (λ xs. xs ++ given_up effects e1) dropped);
      room = d2.room;
    }

-- a fault that is handed on
pub on-err : {T F : Type 0} (r : Result T F) (fault : F) (X : F → Type 0) → IsErrAnd r (λ e. e ≡ fault) → X fault → IfErr r X
on-err (Ok value) fault X is x = tt
on-err (Err e) fault X is x = subst X (sym is) x

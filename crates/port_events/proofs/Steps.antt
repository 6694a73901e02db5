-- What each call of a selector does to the events of a history.
use Rattle.std.proofs.Common.{◌≡◌, ℕ, ◌==◌, cond, Bool, true, false, ◌||◌, ◌&&◌, List, [], ◌∷◌, ◌++◌, refl, sym, ap, ◌∙◌, subst, Option, None, unwrap_or, eqb-true, eq-eqb}
use Rattle.port_model.specs.declared.event.Dir.{Dir}
use Rattle.port_model.specs.declared.event.Dir.TheVariants.{Read, Write}
use Rattle.ready_select.specs.declared.selector.Unused.{Unused}
use Rattle.ready_select.specs.declared.selector.Unused.TheVariants.{Now, Later}
use Rattle.ready_select.specs.declared.selector.Delivered.{Delivered}
use Rattle.ready_select.specs.declared.selector.Delivered.TheVariants as told
use Rattle.ready_select.specs.Latest.{when}
use Rattle.ready_select.specs.Sets.{Events, has, same_dir}
use Rattle.ready_select.specs.Events as by
use Rattle.ready_select.specs.Events.{Call, Select, Unuse, Arm, Deliver, Dropped, IsAfter, Makes, holds, waits, selects, arms, is_held, is_waiting}
use Rattle.ready_select.proofs.Selecting.{latest-snoc}
use Rattle.port_history.specs.Events.{Event, change, event_of, numbers, is_selected, is_armed_in, is_armed, select, disarm, give_up, drop_event}
use Rattle.port_events.specs.Table.{Agrees, IsLawful, IsReached, Changes}
use Rattle.port_events.specs.Parts.{arm_in}
use Rattle.port_events.proofs.Rising.{Rising, up-from, up-to, changed, rising-change}

or_same : {a b c d : Bool} → a ≡ c → b ≡ d → (a || b) ≡ (c || d)
or_same p q = cc

-- the same events, told by each number
pub agrees-as : (s : Events) (xs ys : List Event) → Agrees s xs → Rising ys → ((o : ℕ) → event_of o xs ≡ event_of o ys) → Agrees s ys
agrees-as s xs ys a up same = record {
  rising = up-to (numbers ys) up;
  listed = λ n. a.listed n ∙ ap (λ (e : Event). e.held || e.waits) (same n);
  waiting = λ n. a.waiting n ∙ ap (λ (e : Event). e.waits) (same n);
  selected = λ n dir. a.selected n dir ∙ ap (is_selected dir) (same n);
  armed = λ n dir. a.armed n dir ∙ ap (is_armed_in dir) (same n);
  lawful = λ n. subst IsLawful (same n) (a.lawful n);
}

-- what the last call decides of an event is what becomes of it
pub record Follows (holds waits : Option Bool) (selects arms : Dir → Option Bool) (e e' : Event) : Type 0 where
  pub held : unwrap_or holds e.held ≡ e'.held
  pub waiting : unwrap_or waits e.waits ≡ e'.waits
  pub selected : (dir : Dir) → unwrap_or (selects dir) (is_selected dir e) ≡ is_selected dir e'
  pub armed : (dir : Dir) → unwrap_or (arms dir) (is_armed_in dir e) ≡ is_armed_in dir e'

only_held : (h w h' : Bool) → (h || w) ≡ (h' || w) → (h && w) ≡ false → (h' && w) ≡ false → h ≡ h'
only_held true true h' p q r = absurd (cc)
only_held false true true p q r = absurd (cc)
only_held false true false p q r = refl
only_held true false true p q r = refl
only_held true false false p q r = absurd (cc)
only_held false false true p q r = absurd (cc)
only_held false false false p q r = refl

module _ (old : Events) (calls : List Call) (at : IsAfter calls old) (events : List Event) (a : Agrees old events) where
  pub waiting-is : (o : ℕ) → is_waiting calls o ≡ (event_of o events).waits
  waiting-is o = sym (at.waiting o) ∙ a.waiting o

  pub held-is : (o : ℕ) → is_held calls o ≡ (event_of o events).held
  held-is o =
      let e = event_of o events in
      only_held (is_held calls o) (is_waiting calls o) e.held
      (sym (at.listed o) ∙ (a.listed o ∙ ap (λ w. e.held || w) (sym (waiting-is o))))
      (at.apart o)
      (ap (λ w. e.held && w) (waiting-is o) ∙ (a.lawful o).apart)

  pub selected-is : (o : ℕ) (dir : Dir) → by.is_selected calls o dir ≡ is_selected dir (event_of o events)
  selected-is o dir = sym (at.selected o dir) ∙ a.selected o dir

  pub armed-is : (o : ℕ) (dir : Dir) → by.is_armed calls o dir ≡ is_armed_in dir (event_of o events)
  armed-is o dir = sym (at.armed o dir) ∙ a.armed o dir

module _ (n : ℕ) (how : Event → Event) (keeps : (e : Event) → (how e).number ≡ e.number) where
  -- the call made of the event what is said, and nothing of another
  pub agrees-made : (old new : Events) (call : Call) → IsReached old → Makes old new call → (events : List Event) → Agrees old events
      → ((o : ℕ) → Follows (holds o call) (waits o call) (λ dir. selects o dir call) (λ dir. arms o dir call) (event_of o events) (cond (n == o) (how (event_of o events)) (event_of o events)))
      → IsLawful (how (event_of n events)) → Agrees new (change n how events)
  agrees-made old new call reached makes events a follows lawful =
      let at = reached.after in
      let at' = makes reached.calls at in
      let up = up-from (numbers events) a.rising in
      let is = λ (o : ℕ). sym (changed n how keeps o events up) in
      record {
        rising = up-to (numbers (change n how events)) (rising-change n how keeps events up);
        listed = λ o. at'.listed o
            ∙ or_same
            (latest-snoc (holds o) false reached.calls call ∙ (ap (unwrap_or (holds o call)) (held-is old reached.calls at events a o) ∙ ((follows o).held ∙ ap (λ (e : Event). e.held) (is o))))
            (latest-snoc (waits o) false reached.calls call ∙ (ap (unwrap_or (waits o call)) (waiting-is old reached.calls at events a o) ∙ ((follows o).waiting ∙ ap (λ (e : Event). e.waits) (is o))));
        waiting = λ o. at'.waiting o ∙ (latest-snoc (waits o) false reached.calls call ∙ (ap (unwrap_or (waits o call)) (waiting-is old reached.calls at events a o) ∙ ((follows o).waiting ∙ ap (λ (e : Event). e.waits) (is o))));
        selected = λ o dir. at'.selected o dir
            ∙ (latest-snoc (selects o dir) false reached.calls call ∙ (ap (unwrap_or (selects o dir call)) (selected-is old reached.calls at events a o dir) ∙ ((follows o).selected dir ∙ ap (is_selected dir) (is o))));
        armed = λ o dir. at'.armed o dir
            ∙ (latest-snoc (arms o dir) false reached.calls call ∙ (ap (unwrap_or (arms o dir call)) (armed-is old reached.calls at events a o dir) ∙ ((follows o).armed dir ∙ ap (is_armed_in dir) (is o))));
        lawful = λ o. subst IsLawful (is o) (elim (n == o) as (λ b. (n == o) ≡ b → IsLawful (cond b (how (event_of o events)) (event_of o events))) [
          | true ↦ λ here. subst (λ m. IsLawful (how (event_of m events))) (eqb-true n o here) lawful
          | false ↦ λ _. a.lawful o
        ] refl);
      }

  -- nothing was to be done
  pub agrees-still : (s : Events) (events : List Event) → Agrees s events → how (event_of n events) ≡ event_of n events → Agrees s (change n how events)
  agrees-still s events a still =
      let up = up-from (numbers events) a.rising in
      agrees-as s events (change n how events) a (rising-change n how keeps events up) (λ o.
      elim (n == o) as (λ b. (n == o) ≡ b → event_of o events ≡ cond b (how (event_of o events)) (event_of o events)) [
        | true ↦ λ here. subst (λ m. event_of m events ≡ how (event_of m events)) (eqb-true n o here) (sym still)
        | false ↦ λ _. refl
      ] refl ∙ sym (changed n how keeps o events up))

  -- another change did the same
  pub agrees-other : (other : Event → Event) → ((e : Event) → (other e).number ≡ e.number) → (s : Events) (events : List Event) → Rising events
      → Agrees s (change n other events) → other (event_of n events) ≡ how (event_of n events) → Agrees s (change n how events)
  agrees-other other keeps' s events up a same =
      agrees-as s (change n other events) (change n how events) a (rising-change n how keeps events up) (λ o.
      changed n other keeps' o events up
      ∙ (elim (n == o) as (λ b. (n == o) ≡ b → cond b (other (event_of o events)) (event_of o events) ≡ cond b (how (event_of o events)) (event_of o events)) [
        | true ↦ λ here. subst (λ m. other (event_of m events) ≡ how (event_of m events)) (eqb-true n o here) same
        | false ↦ λ _. refl
      ] refl ∙ sym (changed n how keeps o events up)))

-- each of these keeps the number

pub keeps-select : (dir : Dir) (on : Bool) (e : Event) → (select dir on e).number ≡ e.number
keeps-select Read on e = refl
keeps-select Write on e = refl

pub keeps-disarm : (dir : Dir) (e : Event) → (disarm dir e).number ≡ e.number
keeps-disarm Read e = refl
keeps-disarm Write e = refl

pub keeps-arm_in : (dir : Dir) (e : Event) → (arm_in dir e).number ≡ e.number
keeps-arm_in Read e = refl
keeps-arm_in Write e = refl

-- and keeps the law of events

pub lawful-select : (dir : Dir) (on : Bool) (e : Event) → IsLawful e → e.waits ≡ false → IsLawful (select dir on e)
lawful-select Read on e l free = record { apart = free; selected = λ d _. refl; armed = λ d _. refl }
lawful-select Write on e l free = record { apart = free; selected = λ d _. refl; armed = λ d _. refl }

pub lawful-disarm : (dir : Dir) (e : Event) → IsLawful e → IsLawful (disarm dir e)
lawful-disarm Read e l = record { apart = l.apart; selected = selected; armed = armed } where
  selected : (d : Dir) → is_selected d (disarm Read e) ≡ true → e.held ≡ true
  selected Read h = l.selected Read h
  selected Write h = l.selected Write h

  armed : (d : Dir) → is_armed_in d (disarm Read e) ≡ true → (e.held || e.waits) ≡ true
  armed Read h = absurd (cc)
  armed Write h = l.armed Write h
lawful-disarm Write e l = record { apart = l.apart; selected = selected; armed = armed } where
  selected : (d : Dir) → is_selected d (disarm Write e) ≡ true → e.held ≡ true
  selected Read h = l.selected Read h
  selected Write h = l.selected Write h

  armed : (d : Dir) → is_armed_in d (disarm Write e) ≡ true → (e.held || e.waits) ≡ true
  armed Read h = l.armed Read h
  armed Write h = absurd (cc)

-- an armed event is held or waits
any_armed : (e : Event) → IsLawful e → is_armed e ≡ true → (e.held || e.waits) ≡ true
any_armed e l = pick e.armed_to_read e.armed_to_write (l.armed Read) (l.armed Write) where
  pick : (r w : Bool) → (r ≡ true → (e.held || e.waits) ≡ true) → (w ≡ true → (e.held || e.waits) ≡ true) → (r || w) ≡ true → (e.held || e.waits) ≡ true
  pick true w f g h = f refl
  pick false w f g h = g h

waits_now : (h w a : Bool) → a ≡ true → (h || w) ≡ true → (w || (h && a)) ≡ true
waits_now h true a p q = refl
waits_now true false true p q = refl
waits_now true false false p q = absurd (cc)
waits_now false false a p q = absurd (cc)

waits_still : (h w a : Bool) → a ≡ false → (w || (h && a)) ≡ w
waits_still h true a p = refl
waits_still true false true p = absurd (cc)
waits_still true false false p = refl
waits_still false false a p = refl

right : (r w : Bool) → w ≡ true → (r || w) ≡ true
right true w h = refl
right false w h = h

pub lawful-give_up : (e : Event) → IsLawful e → IsLawful (give_up e)
lawful-give_up e l = record { apart = refl; selected = selected; armed = armed } where
  selected : (d : Dir) → is_selected d (give_up e) ≡ true → false ≡ true
  selected Read h = h
  selected Write h = h

  armed : (d : Dir) → is_armed_in d (give_up e) ≡ true → (e.waits || (e.held && is_armed e)) ≡ true
  armed Read h = let any : is_armed e ≡ true = rw h refl in waits_now e.held e.waits (is_armed e) any (any_armed e l any)
  armed Write h = let any : is_armed e ≡ true = right e.armed_to_read e.armed_to_write h in waits_now e.held e.waits (is_armed e) any (any_armed e l any)

pub lawful-drop_event : (e : Event) → IsLawful e → IsLawful (drop_event e)
lawful-drop_event e l = record { apart = none e.held; selected = selected; armed = armed } where
  none : (h : Bool) → (h && false) ≡ false
  none true = refl
  none false = refl

  selected : (d : Dir) → is_selected d (drop_event e) ≡ true → e.held ≡ true
  selected Read h = l.selected Read h
  selected Write h = l.selected Write h

  armed : (d : Dir) → is_armed_in d (drop_event e) ≡ true → (e.held || false) ≡ true
  armed Read h = absurd (cc)
  armed Write h = absurd (cc)

one_of : (e : Event) (a s : Bool) → (a ≡ true → (e.held || e.waits) ≡ true) → (s ≡ true → e.held ≡ true) → (a || s) ≡ true → (e.held || e.waits) ≡ true
one_of e true s f g h = f refl
one_of e false s f g h = rw (g h) refl

pub lawful-arm_in : (dir : Dir) (e : Event) → IsLawful e → IsLawful (arm_in dir e)
lawful-arm_in Read e l = record { apart = l.apart; selected = selected; armed = armed } where
  selected : (d : Dir) → is_selected d (arm_in Read e) ≡ true → e.held ≡ true
  selected Read h = l.selected Read h
  selected Write h = l.selected Write h

  armed : (d : Dir) → is_armed_in d (arm_in Read e) ≡ true → (e.held || e.waits) ≡ true
  armed Read h = one_of e e.armed_to_read e.reads (l.armed Read) (l.selected Read) h
  armed Write h = l.armed Write h
lawful-arm_in Write e l = record { apart = l.apart; selected = selected; armed = armed } where
  selected : (d : Dir) → is_selected d (arm_in Write e) ≡ true → e.held ≡ true
  selected Read h = l.selected Read h
  selected Write h = l.selected Write h

  armed : (d : Dir) → is_armed_in d (arm_in Write e) ≡ true → (e.held || e.waits) ≡ true
  armed Read h = l.armed Read h
  armed Write h = one_of e e.armed_to_write e.writes (l.armed Write) (l.selected Write) h

-- what each call decides

unchanged : (e : Event) → Follows None None (λ dir. None) (λ dir. None) e e
unchanged e = record { held = refl; waiting = refl; selected = λ dir. refl; armed = λ dir. refl }

follows-select : (b : Bool) (dir : Dir) (on : Bool) (e : Event)
    → Follows (when b true) None (λ d. when (b && same_dir dir d) on) (λ d. None) e (cond b (select dir on e) e)
follows-select false dir on e = unchanged e
follows-select true Read on e = record { held = refl; waiting = refl; selected = selected; armed = armed } where
  selected : (d : Dir) → unwrap_or (when (true && same_dir Read d) on) (is_selected d e) ≡ is_selected d (select Read on e)
  selected Read = refl
  selected Write = refl

  armed : (d : Dir) → is_armed_in d e ≡ is_armed_in d (select Read on e)
  armed Read = refl
  armed Write = refl
follows-select true Write on e = record { held = refl; waiting = refl; selected = selected; armed = armed } where
  selected : (d : Dir) → unwrap_or (when (true && same_dir Write d) on) (is_selected d e) ≡ is_selected d (select Write on e)
  selected Read = refl
  selected Write = refl

  armed : (d : Dir) → is_armed_in d e ≡ is_armed_in d (select Write on e)
  armed Read = refl
  armed Write = refl

follows-later : (b : Bool) (e : Event) → IsLawful e → (b ≡ true → is_armed e ≡ true)
    → Follows (when b false) (when b true) (λ d. when b false) (λ d. None) e (cond b (give_up e) e)
follows-later false e l armed = unchanged e
follows-later true e l armed = record {
  held = refl;
  waiting = sym (waits_now e.held e.waits (is_armed e) (armed refl) (any_armed e l (armed refl)));
  selected = selected;
  armed = stays;
} where
  selected : (d : Dir) → false ≡ is_selected d (give_up e)
  selected Read = refl
  selected Write = refl

  stays : (d : Dir) → is_armed_in d e ≡ is_armed_in d (give_up e)
  stays Read = refl
  stays Write = refl

follows-now : (b : Bool) (e : Event) → (b ≡ true → is_armed e ≡ false)
    → Follows (when b false) None (λ d. when b false) (λ d. None) e (cond b (give_up e) e)
follows-now false e armed = unchanged e
follows-now true e armed = record {
  held = refl;
  waiting = sym (waits_still e.held e.waits (is_armed e) (armed refl));
  selected = selected;
  armed = stays;
} where
  selected : (d : Dir) → false ≡ is_selected d (give_up e)
  selected Read = refl
  selected Write = refl

  stays : (d : Dir) → is_armed_in d e ≡ is_armed_in d (give_up e)
  stays Read = refl
  stays Write = refl

follows-disarm : (b : Bool) (dir : Dir) (e : Event) → Follows None None (λ d. None) (λ d. when (b && same_dir dir d) false) e (cond b (disarm dir e) e)
follows-disarm false dir e = unchanged e
follows-disarm true Read e = record { held = refl; waiting = refl; selected = selected; armed = armed } where
  selected : (d : Dir) → is_selected d e ≡ is_selected d (disarm Read e)
  selected Read = refl
  selected Write = refl

  armed : (d : Dir) → unwrap_or (when (true && same_dir Read d) false) (is_armed_in d e) ≡ is_armed_in d (disarm Read e)
  armed Read = refl
  armed Write = refl
follows-disarm true Write e = record { held = refl; waiting = refl; selected = selected; armed = armed } where
  selected : (d : Dir) → is_selected d e ≡ is_selected d (disarm Write e)
  selected Read = refl
  selected Write = refl

  armed : (d : Dir) → unwrap_or (when (true && same_dir Write d) false) (is_armed_in d e) ≡ is_armed_in d (disarm Write e)
  armed Read = refl
  armed Write = refl

becomes : (a s : Bool) → s ≡ true → true ≡ (a || s)
becomes true s h = refl
becomes false s h = sym h

follows-arm : (b : Bool) (dir : Dir) (e : Event) → (b ≡ true → is_selected dir e ≡ true)
    → Follows None None (λ d. None) (λ d. when (b && same_dir dir d) true) e (cond b (arm_in dir e) e)
follows-arm false dir e chosen = unchanged e
follows-arm true Read e chosen = record { held = refl; waiting = refl; selected = selected; armed = armed } where
  selected : (d : Dir) → is_selected d e ≡ is_selected d (arm_in Read e)
  selected Read = refl
  selected Write = refl

  armed : (d : Dir) → unwrap_or (when (true && same_dir Read d) true) (is_armed_in d e) ≡ is_armed_in d (arm_in Read e)
  armed Read = becomes e.armed_to_read e.reads (chosen refl)
  armed Write = refl
follows-arm true Write e chosen = record { held = refl; waiting = refl; selected = selected; armed = armed } where
  selected : (d : Dir) → is_selected d e ≡ is_selected d (arm_in Write e)
  selected Read = refl
  selected Write = refl

  armed : (d : Dir) → unwrap_or (when (true && same_dir Write d) true) (is_armed_in d e) ≡ is_armed_in d (arm_in Write e)
  armed Read = refl
  armed Write = becomes e.armed_to_write e.writes (chosen refl)

follows-drop : (b : Bool) (e : Event) → Follows None (when b false) (λ d. None) (λ d. when b false) e (cond b (drop_event e) e)
follows-drop false e = unchanged e
follows-drop true e = record { held = refl; waiting = refl; selected = selected; armed = armed } where
  selected : (d : Dir) → is_selected d e ≡ is_selected d (drop_event e)
  selected Read = refl
  selected Write = refl

  armed : (d : Dir) → false ≡ is_armed_in d (drop_event e)
  armed Read = refl
  armed Write = refl

-- where the event is this one, what is known of it
at_one : (n o : ℕ) (events : List Event) (P : Event → Type 0) → P (event_of n events) → (n == o) ≡ true → P (event_of o events)
at_one n o events P known here = subst (λ m. P (event_of m events)) (eqb-true n o here) known

-- the calls

module _ (old new : Events) (n : ℕ) (reached : IsReached old) where
  pub reached-made : (call : Call) → Makes old new call → IsReached new
  reached-made call makes = record { calls = reached.calls ++ call ∷ []; after = makes reached.calls reached.after }

  pub made-select : (dir : Dir) (on : Bool) → Makes old new (Select n dir on) → has n old.waiting ≡ false → Changes old new n (select dir on)
  made-select dir on makes free events a =
      agrees-made n (select dir on) (keeps-select dir on) old new (Select n dir on) reached makes events a
      (λ o. follows-select (n == o) dir on (event_of o events))
      (lawful-select dir on (event_of n events) (a.lawful n) (sym (a.waiting n) ∙ free))

  pub unuse-answer : (answer : Unused) → ((calls : List Call) → IsAfter calls old → answer ≡ by.unused calls n)
      → (events : List Event) → Agrees old events → answer ≡ cond (is_armed (event_of n events)) Later Now
  unuse-answer answer tells events a =
      tells reached.calls reached.after
      ∙ ap (λ b. cond b Later Now) (or_same (armed-is old reached.calls reached.after events a n Read) (armed-is old reached.calls reached.after events a n Write))

  is_later : (b : Bool) → Later ≡ cond b Later Now → b ≡ true
  is_later true h = refl
  is_later false h = absurd (cc)

  is_now : (b : Bool) → Now ≡ cond b Later Now → b ≡ false
  is_now true h = absurd (cc)
  is_now false h = refl

  pub made-give_up : (answer : Unused) → Makes old new (Unuse n answer) → ((calls : List Call) → IsAfter calls old → answer ≡ by.unused calls n) → Changes old new n give_up
  made-give_up Later makes tells events a =
      let armed = is_later (is_armed (event_of n events)) (unuse-answer Later tells events a) in
      agrees-made n give_up (λ e. refl) old new (Unuse n Later) reached makes events a
      (λ o. follows-later (n == o) (event_of o events) (a.lawful o) (at_one n o events (λ e. is_armed e ≡ true) armed))
      (lawful-give_up (event_of n events) (a.lawful n))
  made-give_up Now makes tells events a =
      let armed = is_now (is_armed (event_of n events)) (unuse-answer Now tells events a) in
      agrees-made n give_up (λ e. refl) old new (Unuse n Now) reached makes events a
      (λ o. follows-now (n == o) (event_of o events) (at_one n o events (λ e. is_armed e ≡ false) armed))
      (lawful-give_up (event_of n events) (a.lawful n))

  pub made-disarm : (dir : Dir) (answer : Delivered) → Makes old new (Deliver n dir answer) → Changes old new n (disarm dir)
  made-disarm dir answer makes events a =
      agrees-made n (disarm dir) (keeps-disarm dir) old new (Deliver n dir answer) reached makes events a
      (λ o. follows-disarm (n == o) dir (event_of o events))
      (lawful-disarm dir (event_of n events) (a.lawful n))

  pub made-arm : (dir : Dir) → Makes old new (Arm n dir) → (events : List Event) → Agrees old events → is_selected dir (event_of n events) ≡ true
      → Agrees new (change n (arm_in dir) events)
  made-arm dir makes events a chosen =
      agrees-made n (arm_in dir) (keeps-arm_in dir) old new (Arm n dir) reached makes events a
      (λ o. follows-arm (n == o) dir (event_of o events) (at_one n o events (λ e. is_selected dir e ≡ true) chosen))
      (lawful-arm_in dir (event_of n events) (a.lawful n))

unchanged_if : (b : Bool) (e : Event) → Follows None None (λ d. None) (λ d. None) e (cond b e e)
unchanged_if true e = unchanged e
unchanged_if false e = unchanged e

-- the poller's drop, after both directions were disarmed
module _ (s0 s1 s2 s3 : Events) (n : ℕ) (reached : IsReached s0) (d1 d2 : Delivered)
    (m1 : Makes s0 s1 (Deliver n Read d1)) (m2 : Makes s1 s2 (Deliver n Write d2)) (events : List Event) (a : Agrees s0 events) where
  reached1 : IsReached s1
  reached1 = reached-made s0 s1 n reached (Deliver n Read d1) m1

  reached2 : IsReached s2
  reached2 = reached-made s1 s2 n reached1 (Deliver n Write d2) m2

  a1 : Agrees s1 (change n (disarm Read) events)
  a1 = made-disarm s0 s1 n reached Read d1 m1 events a

  a2 : Agrees s2 (change n (disarm Write) (change n (disarm Read) events))
  a2 = made-disarm s1 s2 n reached1 Write d2 m2 (change n (disarm Read) events) a1

  twice_is : (o : ℕ) → event_of o (change n (disarm Write) (change n (disarm Read) events))
      ≡ cond (n == o) (disarm Write (disarm Read (event_of o events))) (event_of o events)
  twice_is o =
      let up = up-from (numbers events) a.rising in
      changed n (disarm Write) (keeps-disarm Write) o (change n (disarm Read) events) (rising-change n (disarm Read) (keeps-disarm Read) events up)
      ∙ (ap (λ x. cond (n == o) (disarm Write x) x) (changed n (disarm Read) (keeps-disarm Read) o events up)
      ∙ elim (n == o) as (λ b. cond b (disarm Write (cond b (disarm Read (event_of o events)) (event_of o events))) (cond b (disarm Read (event_of o events)) (event_of o events))
      ≡ cond b (disarm Write (disarm Read (event_of o events))) (event_of o events)) [
        | true ↦ refl
        | false ↦ refl
      ])

  still : (event_of n (change n (disarm Write) (change n (disarm Read) events))).waits ≡ false
      → drop_event (event_of n (change n (disarm Write) (change n (disarm Read) events))) ≡ event_of n (change n (disarm Write) (change n (disarm Read) events))
  still free =
      let is : event_of n (change n (disarm Write) (change n (disarm Read) events)) ≡ disarm Write (disarm Read (event_of n events)) =
      twice_is n ∙ ap (λ b. cond b (disarm Write (disarm Read (event_of n events))) (event_of n events)) (eq-eqb n n refl) in
      let free' : (event_of n events).waits ≡ false = sym (ap (λ (e : Event). e.waits) is) ∙ free in
      ap drop_event is ∙ (ap (λ w. record (disarm Write (disarm Read (event_of n events))) { waits = w }) (sym free') ∙ sym is)

  third : (d3 : Delivered) → Makes s2 s3 (Dropped n d3) → ((calls : List Call) → IsAfter calls s2 → d3 ≡ by.dropped calls n)
      → Agrees s3 (change n drop_event (change n (disarm Write) (change n (disarm Read) events)))
  third told.Call m3 tells = absurd (clash (is_waiting reached2.calls n) (tells reached2.calls reached2.after)) where
    clash : (b : Bool) → told.Call ≡ cond b told.Stopped told.Stale → ⊥
    clash true h = absurd (cc)
    clash false h = absurd (cc)
  third told.Stopped m3 tells =
      agrees-made n drop_event (λ e. refl) s2 s3 (Dropped n told.Stopped) reached2 m3 (change n (disarm Write) (change n (disarm Read) events)) a2
      (λ o. follows-drop (n == o) (event_of o (change n (disarm Write) (change n (disarm Read) events))))
      (lawful-drop_event (event_of n (change n (disarm Write) (change n (disarm Read) events))) (a2.lawful n))
  third told.Stale m3 tells =
      let same = agrees-made n (λ e. e) (λ e. refl) s2 s3 (Dropped n told.Stale) reached2 m3 (change n (disarm Write) (change n (disarm Read) events)) a2
      (λ o. unchanged_if (n == o) (event_of o (change n (disarm Write) (change n (disarm Read) events)))) (a2.lawful n) in
      agrees-other n drop_event (λ e. refl) (λ e. e) (λ e. refl) s3 (change n (disarm Write) (change n (disarm Read) events)) (up-from _ a2.rising) same
      (sym (still (sym (waiting-is s2 reached2.calls reached2.after (change n (disarm Write) (change n (disarm Read) events)) a2 n) ∙ is_stale (is_waiting reached2.calls n) (tells reached2.calls reached2.after))))
    where
      is_stale : (b : Bool) → told.Stale ≡ cond b told.Stopped told.Stale → b ≡ false
      is_stale true h = absurd (cc)
      is_stale false h = refl

  pub made-drop : (d3 : Delivered) → Makes s2 s3 (Dropped n d3) → ((calls : List Call) → IsAfter calls s2 → d3 ≡ by.dropped calls n)
      → Agrees s3 (change n drop_event events)
  made-drop d3 m3 tells =
      let up = up-from (numbers events) a.rising in
      agrees-as s3 (change n drop_event (change n (disarm Write) (change n (disarm Read) events))) (change n drop_event events) (third d3 m3 tells)
      (rising-change n drop_event (λ e. refl) events up) (λ o.
      changed n drop_event (λ e. refl) o (change n (disarm Write) (change n (disarm Read) events)) (up-from _ a2.rising)
      ∙ (ap (λ x. cond (n == o) (drop_event x) x) (twice_is o)
      ∙ (elim (n == o) as (λ b. cond b (drop_event (cond b (disarm Write (disarm Read (event_of o events))) (event_of o events))) (cond b (disarm Write (disarm Read (event_of o events))) (event_of o events))
      ≡ cond b (drop_event (event_of o events)) (event_of o events)) [
        | true ↦ refl
        | false ↦ refl
      ] ∙ sym (changed n drop_event (λ e. refl) o events up))))

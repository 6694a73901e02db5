-- What each call of a selector does to its sets, told by the calls so far.
use Rattle.std.proofs.Common.{◌≡◌, ℕ, ◌<◌, ◌≤◌, ◌==◌, Bool, true, false, ◌||◌, ◌&&◌, not, List, [], ◌∷◌, ◌++◌, length, refl, sym, ap, ◌∙◌, subst, arith, ◌⊎◌, inl, inr, eqb-true, eq-eqb, Option, unwrap_or}
use Rattle.std.specs.List.Sorted.{IsStrictlySortedBy}
use Rattle.std.specs.Ordering.{nat_cmp}
use Rattle.std.proofs.lemmas.List.Sums.{fold-append}
use Rattle.port_model.specs.declared.event.Dir.{Dir}
use Rattle.port_model.specs.declared.event.Dir.TheVariants.{Read, Write}
use Rattle.ready_select.specs.declared.selector.Unused.TheVariants.{Now, Later}
use Rattle.ready_select.specs.declared.selector.Delivered.{Delivered}
use Rattle.ready_select.specs.declared.selector.Delivered.TheVariants as told
use Rattle.ready_select.specs.Latest.{latest, when}
use Rattle.ready_select.specs.Sets.{has, in_dir, same_dir, PerDir, IsPartOf, IsKept, IsWith, IsWithout}
use Rattle.ready_select.specs.Events.{Call, Select, Unuse, Arm, Deliver, Dropped, IsAfter, holds, waits, selects, arms, is_held, is_waiting, is_selected, is_armed}
use Rattle.ready_select.proofs.Sets.{shorter-part}

pub latest-snoc : {X : Type 0} (decides : X → Option Bool) (before : Bool) (xs : List X) (x : X) → latest decides before (xs ++ x ∷ []) ≡ unwrap_or (decides x) (latest decides before xs)
latest-snoc decides before xs x = fold-append (λ answer entry. unwrap_or (decides entry) answer) before xs (x ∷ [])

or_same : {a b c d : Bool} → a ≡ c → b ≡ d → (a || b) ≡ (c || d)
or_same p q = cc

and_same : {a b c d : Bool} → a ≡ c → b ≡ d → (a && b) ≡ (c && d)
and_same p q = cc

put_in : (c x : Bool) → (c || x) ≡ unwrap_or (when c true) x
put_in true x = refl
put_in false x = refl

taken_out : (c x : Bool) → (x && not c) ≡ unwrap_or (when c false) x
taken_out true true = refl
taken_out true false = refl
taken_out false true = refl
taken_out false false = refl

taken_out_of_both : (c x : Bool) → (x && not (c && true)) ≡ unwrap_or (when c false) x
taken_out_of_both true true = refl
taken_out_of_both true false = refl
taken_out_of_both false true = refl
taken_out_of_both false false = refl

or_true : (x : Bool) → (x || true) ≡ true
or_true true = refl
or_true false = refl

and_false : (x : Bool) → (x && false) ≡ false
and_false true = refl
and_false false = refl

and_true : (x : Bool) → (x && true) ≡ x
and_true true = refl
and_true false = refl

-- a part that lacks an event of the whole has room for it
pub room : (events part : List ℕ) (event : ℕ) → IsStrictlySortedBy nat_cmp events → length events ≤ 64 → IsPartOf events part → has event events ≡ true → (has event part ≡ true) ⊎ (length part < 64)
room events part event rising few within there =
    elim (has event part) as (λ b. has event part ≡ b → (b ≡ true) ⊎ (length part < 64)) [
      | true ↦ λ _. inl refl
      | false ↦ λ out. let shorter = shorter-part part events event within.rising rising within.within out there in inr (omega arith)
    ] refl

module _ (calls : List Call) (listed waiting : List ℕ) (selected armed : PerDir) (event : ℕ) (at : IsAfter calls (record { listed = listed; waiting = waiting; selected = selected; armed = armed })) where
  by_event : (o : ℕ) (P : Bool → Type 0) → (event ≡ o → P true) → P false → P (event == o)
  by_event o P here there = elim (event == o) as (λ b. (event == o) ≡ b → P b) [ true ↦ λ equal. here (eqb-true event o equal) | false ↦ λ _. there ] refl

  -- what the calls so far say of an event that is in a set, or out of it
  says_waiting : (b : Bool) (o : ℕ) → event ≡ o → has event waiting ≡ b → is_waiting calls o ≡ b
  says_waiting b o is known = sym (at.waiting o) ∙ subst (λ z. has z waiting ≡ b) is known

  pub after_select : (dir : Dir) (on : Bool) (listed' : List ℕ) (selected' : PerDir) → has event waiting ≡ false
      → ((o : ℕ) → has o listed' ≡ ((event == o) || has o listed))
      → ((o : ℕ) (d : Dir) → has o (in_dir d selected') ≡ unwrap_or (when ((event == o) && same_dir dir d) on) (has o (in_dir d selected)))
      → IsAfter (calls ++ Select event dir on ∷ []) (record { listed = listed'; waiting = waiting; selected = selected'; armed = armed })
  after_select dir on listed' selected' free added sets =
      let call = Select event dir on in
      record {
        listed = λ o. added o ∙ ap (λ x. (event == o) || x) (at.listed o)
            ∙ by_event o (λ b. (b || (is_held calls o || is_waiting calls o)) ≡ (unwrap_or (when b true) (is_held calls o) || is_waiting calls o)) (λ _. refl) refl
            ∙ sym (or_same (latest-snoc (holds o) false calls call) (latest-snoc (waits o) false calls call));
        waiting = λ o. at.waiting o ∙ sym (latest-snoc (waits o) false calls call);
        selected = λ o d. sets o d ∙ ap (unwrap_or (when ((event == o) && same_dir dir d) on)) (at.selected o d) ∙ sym (latest-snoc (selects o d) false calls call);
        armed = λ o d. at.armed o d ∙ sym (latest-snoc (arms o d) false calls call);
        apart = λ o. and_same (latest-snoc (holds o) false calls call) (latest-snoc (waits o) false calls call)
            ∙ by_event o (λ b. (unwrap_or (when b true) (is_held calls o) && is_waiting calls o) ≡ false) (λ is. says_waiting false o is free) (at.apart o);
      }

  pub after_later : (waiting' : List ℕ) (selected' : PerDir) → has event listed ≡ true
      → ((o : ℕ) → has o waiting' ≡ ((event == o) || has o waiting))
      → ((d : Dir) → IsWithout (in_dir d selected) (in_dir d selected') event true)
      → IsAfter (calls ++ Unuse event Later ∷ []) (record { listed = listed; waiting = waiting'; selected = selected'; armed = armed })
  after_later waiting' selected' there added sets =
      let call = Unuse event Later in
      record {
        listed = λ o. by_event o (λ b. has o listed ≡ (unwrap_or (when b false) (is_held calls o) || unwrap_or (when b true) (is_waiting calls o))) (λ is. subst (λ z. has z listed ≡ true) is there) (at.listed o)
            ∙ sym (or_same (latest-snoc (holds o) false calls call) (latest-snoc (waits o) false calls call));
        waiting = λ o. added o ∙ ap (λ x. (event == o) || x) (at.waiting o) ∙ put_in (event == o) (is_waiting calls o) ∙ sym (latest-snoc (waits o) false calls call);
        selected = λ o d. (sets d).has_lem o ∙ taken_out_of_both (event == o) (has o (in_dir d selected)) ∙ ap (unwrap_or (when (event == o) false)) (at.selected o d) ∙ sym (latest-snoc (selects o d) false calls call);
        armed = λ o d. at.armed o d ∙ sym (latest-snoc (arms o d) false calls call);
        apart = λ o. and_same (latest-snoc (holds o) false calls call) (latest-snoc (waits o) false calls call)
            ∙ by_event o (λ b. (unwrap_or (when b false) (is_held calls o) && unwrap_or (when b true) (is_waiting calls o)) ≡ false) (λ _. refl) (at.apart o);
      }

  pub after_now : (listed' : List ℕ) (selected' : PerDir)
      → ((o : ℕ) → has o listed' ≡ (unwrap_or (when (event == o) false) (is_held calls o) || is_waiting calls o))
      → ((d : Dir) → IsWithout (in_dir d selected) (in_dir d selected') event true)
      → IsAfter (calls ++ Unuse event Now ∷ []) (record { listed = listed'; waiting = waiting; selected = selected'; armed = armed })
  after_now listed' selected' left sets =
      let call = Unuse event Now in
      record {
        listed = λ o. left o ∙ sym (or_same (latest-snoc (holds o) false calls call) (latest-snoc (waits o) false calls call));
        waiting = λ o. at.waiting o ∙ sym (latest-snoc (waits o) false calls call);
        selected = λ o d. (sets d).has_lem o ∙ taken_out_of_both (event == o) (has o (in_dir d selected)) ∙ ap (unwrap_or (when (event == o) false)) (at.selected o d) ∙ sym (latest-snoc (selects o d) false calls call);
        armed = λ o d. at.armed o d ∙ sym (latest-snoc (arms o d) false calls call);
        apart = λ o. and_same (latest-snoc (holds o) false calls call) (latest-snoc (waits o) false calls call)
            ∙ by_event o (λ b. (unwrap_or (when b false) (is_held calls o) && is_waiting calls o) ≡ false) (λ _. refl) (at.apart o);
      }

  -- an event that waits stays listed, and another leaves the list
  pub stays_listed : has event waiting ≡ true → (o : ℕ) → has o listed ≡ (unwrap_or (when (event == o) false) (is_held calls o) || is_waiting calls o)
  stays_listed known o =
      by_event o (λ b. has o listed ≡ (unwrap_or (when b false) (is_held calls o) || is_waiting calls o))
      (λ is. let waits_here = says_waiting true o is known in at.listed o ∙ or_same refl waits_here ∙ or_true (is_held calls o) ∙ sym waits_here) (at.listed o)

  pub leaves_list : (listed' : List ℕ) → has event waiting ≡ false → ((o : ℕ) → has o listed' ≡ (has o listed && not (event == o)))
      → (o : ℕ) → has o listed' ≡ (unwrap_or (when (event == o) false) (is_held calls o) || is_waiting calls o)
  leaves_list listed' known left o = left o
      ∙ by_event o (λ b. (has o listed && not b) ≡ (unwrap_or (when b false) (is_held calls o) || is_waiting calls o))
      (λ is. and_false (has o listed) ∙ sym (says_waiting false o is known)) (and_true (has o listed) ∙ at.listed o)

  pub after_arm : (dir : Dir) (armed' : PerDir) → ((d : Dir) → IsWith (in_dir d armed) (in_dir d armed') event (same_dir dir d))
      → IsAfter (calls ++ Arm event dir ∷ []) (record { listed = listed; waiting = waiting; selected = selected; armed = armed' })
  after_arm dir armed' sets =
      let call = Arm event dir in
      record {
        listed = λ o. at.listed o ∙ sym (or_same (latest-snoc (holds o) false calls call) (latest-snoc (waits o) false calls call));
        waiting = λ o. at.waiting o ∙ sym (latest-snoc (waits o) false calls call);
        selected = λ o d. at.selected o d ∙ sym (latest-snoc (selects o d) false calls call);
        armed = λ o d. (sets d).has_lem o ∙ put_in ((event == o) && same_dir dir d) (has o (in_dir d armed)) ∙ ap (unwrap_or (when ((event == o) && same_dir dir d) true)) (at.armed o d) ∙ sym (latest-snoc (arms o d) false calls call);
        apart = λ o. and_same (latest-snoc (holds o) false calls call) (latest-snoc (waits o) false calls call) ∙ at.apart o;
      }

  pub after_deliver : (dir : Dir) (answer : Delivered) (armed' : PerDir) → ((d : Dir) → IsWithout (in_dir d armed) (in_dir d armed') event (same_dir dir d))
      → IsAfter (calls ++ Deliver event dir answer ∷ []) (record { listed = listed; waiting = waiting; selected = selected; armed = armed' })
  after_deliver dir answer armed' sets =
      let call = Deliver event dir answer in
      record {
        listed = λ o. at.listed o ∙ sym (or_same (latest-snoc (holds o) false calls call) (latest-snoc (waits o) false calls call));
        waiting = λ o. at.waiting o ∙ sym (latest-snoc (waits o) false calls call);
        selected = λ o d. at.selected o d ∙ sym (latest-snoc (selects o d) false calls call);
        armed = λ o d. (sets d).has_lem o ∙ taken_out ((event == o) && same_dir dir d) (has o (in_dir d armed)) ∙ ap (unwrap_or (when ((event == o) && same_dir dir d) false)) (at.armed o d) ∙ sym (latest-snoc (arms o d) false calls call);
        apart = λ o. and_same (latest-snoc (holds o) false calls call) (latest-snoc (waits o) false calls call) ∙ at.apart o;
      }

  pub after_stopped : (listed' waiting' : List ℕ) (armed' : PerDir) → has event waiting ≡ true
      → ((o : ℕ) → has o listed' ≡ (has o listed && not (event == o))) → ((o : ℕ) → has o waiting' ≡ (has o waiting && not (event == o)))
      → ((d : Dir) → IsWithout (in_dir d armed) (in_dir d armed') event true)
      → IsAfter (calls ++ Dropped event told.Stopped ∷ []) (record { listed = listed'; waiting = waiting'; selected = selected; armed = armed' })
  after_stopped listed' waiting' armed' known left over sets =
      let call = Dropped event told.Stopped in
      record {
        listed = λ o. left o
            ∙ by_event o (λ b. (has o listed && not b) ≡ (is_held calls o || unwrap_or (when b false) (is_waiting calls o)))
            (λ is. and_false (has o listed) ∙ sym (or_same (not_held o is) refl)) (and_true (has o listed) ∙ at.listed o)
            ∙ sym (or_same (latest-snoc (holds o) false calls call) (latest-snoc (waits o) false calls call));
        waiting = λ o. over o ∙ taken_out (event == o) (has o waiting) ∙ ap (unwrap_or (when (event == o) false)) (at.waiting o) ∙ sym (latest-snoc (waits o) false calls call);
        selected = λ o d. at.selected o d ∙ sym (latest-snoc (selects o d) false calls call);
        armed = λ o d. (sets d).has_lem o ∙ taken_out_of_both (event == o) (has o (in_dir d armed)) ∙ ap (unwrap_or (when (event == o) false)) (at.armed o d) ∙ sym (latest-snoc (arms o d) false calls call);
        apart = λ o. and_same (latest-snoc (holds o) false calls call) (latest-snoc (waits o) false calls call)
            ∙ by_event o (λ b. (is_held calls o && unwrap_or (when b false) (is_waiting calls o)) ≡ false) (λ _. and_false (is_held calls o)) (at.apart o);
      }
    where
      not_held : (o : ℕ) → event ≡ o → is_held calls o ≡ false
      not_held o is = sym (and_true (is_held calls o)) ∙ sym (and_same refl (says_waiting true o is known)) ∙ at.apart o

  pub after_stale : IsAfter (calls ++ Dropped event told.Stale ∷ []) (record { listed = listed; waiting = waiting; selected = selected; armed = armed })
  after_stale =
      let call = Dropped event told.Stale in
      record {
        listed = λ o. at.listed o ∙ sym (or_same (latest-snoc (holds o) false calls call) (latest-snoc (waits o) false calls call));
        waiting = λ o. at.waiting o ∙ sym (latest-snoc (waits o) false calls call);
        selected = λ o d. at.selected o d ∙ sym (latest-snoc (selects o d) false calls call);
        armed = λ o d. at.armed o d ∙ sym (latest-snoc (arms o d) false calls call);
        apart = λ o. and_same (latest-snoc (holds o) false calls call) (latest-snoc (waits o) false calls call) ∙ at.apart o;
      }

-- an armed event is listed
pub listed_if_armed : (listed waiting : List ℕ) (selected armed : PerDir) (event : ℕ) → IsKept (record { listed = listed; waiting = waiting; selected = selected; armed = armed })
    → (has event (in_dir Read armed) || has event (in_dir Write armed)) ≡ true → has event listed ≡ true
listed_if_armed listed waiting selected armed event kept is_armed_now =
    elim (has event (in_dir Read armed)) as (λ b. has event (in_dir Read armed) ≡ b → (b || has event (in_dir Write armed)) ≡ true → has event listed ≡ true) [
      | true ↦ λ reads _. (kept.armed Read).within event reads
      | false ↦ λ _ writes. (kept.armed Write).within event writes
    ] refl is_armed_now

-- the sets after an `unuse` of an armed event
pub kept_later : (listed waiting waiting' : List ℕ) (selected selected' armed : PerDir) (event : ℕ) → IsKept (record { listed = listed; waiting = waiting; selected = selected; armed = armed })
    → (has event (in_dir Read armed) || has event (in_dir Write armed)) ≡ true
    → ((o : ℕ) → has o waiting' ≡ ((event == o) || has o waiting)) → IsStrictlySortedBy nat_cmp waiting'
    → ((d : Dir) → IsWithout (in_dir d selected) (in_dir d selected') event true)
    → IsKept (record { listed = listed; waiting = waiting'; selected = selected'; armed = armed })
kept_later listed waiting waiting' selected selected' armed event kept is_armed_now added rising sets =
    record {
      rising = kept.rising;
      few = kept.few;
      waiting = record { rising = rising; within = grows };
      selected = λ d. record { rising = (sets d).rising (kept.selected d).rising; within = λ o in_it. (kept.selected d).within o (front_of (has o (in_dir d selected)) _ (sym ((sets d).has_lem o) ∙ in_it)) };
      armed = kept.armed;
      given_up = given;
    }
  where
    front_of : (a b : Bool) → (a && b) ≡ true → a ≡ true
    front_of true b both = refl
    front_of false b both = both

    grows : (o : ℕ) → has o waiting' ≡ true → has o listed ≡ true
    grows o in_it = elim (event == o) as (λ b. (event == o) ≡ b → (b || has o waiting) ≡ true → has o listed ≡ true) [
      | true ↦ λ equal _. subst (λ z. has z listed ≡ true) (eqb-true event o equal) (listed_if_armed listed waiting selected armed event kept is_armed_now)
      | false ↦ λ _ was. kept.waiting.within o was
    ] refl (sym (added o) ∙ in_it)

    given : (o : ℕ) (d : Dir) → has o waiting' ≡ true → has o (in_dir d selected') ≡ false
    given o d in_it = (sets d).has_lem o ∙ elim (event == o) as (λ b. (b || has o waiting) ≡ true → (has o (in_dir d selected) && not (b && true)) ≡ false) [
      | true ↦ λ _. and_false (has o (in_dir d selected))
      | false ↦ λ was. and_true (has o (in_dir d selected)) ∙ kept.given_up o d was
    ] (sym (added o) ∙ in_it)

-- room for an event that was just listed
pub room_after : (listed listed' part : List ℕ) (event : ℕ) → IsPartOf listed part → ((o : ℕ) → has o listed' ≡ ((event == o) || has o listed)) → IsStrictlySortedBy nat_cmp listed' → length listed' ≤ 64
    → (has event part ≡ true) ⊎ (length part < 64)
room_after listed listed' part event within added rising few =
    room listed' part event rising few
    (record { rising = within.rising; within = λ o in_it. added o ∙ or_same refl (within.within o in_it) ∙ or_true (event == o) })
    (added event ∙ or_same (eq-eqb event event refl) refl)

module _ (calls : List Call) (listed waiting : List ℕ) (selected armed : PerDir) (event : ℕ) (at : IsAfter calls (record { listed = listed; waiting = waiting; selected = selected; armed = armed })) where
  pub after_on : (dir : Dir) (on : Bool) (listed' : List ℕ) (selected' : PerDir) → on ≡ true → has event waiting ≡ false
      → ((o : ℕ) → has o listed' ≡ ((event == o) || has o listed)) → ((d : Dir) → IsWith (in_dir d selected) (in_dir d selected') event (same_dir dir d))
      → IsAfter (calls ++ Select event dir on ∷ []) (record { listed = listed'; waiting = waiting; selected = selected'; armed = armed })
  after_on dir on listed' selected' is free added sets =
      after_select calls listed waiting selected armed event at dir on listed' selected' free added
      (λ o d. (sets d).has_lem o ∙ put_in ((event == o) && same_dir dir d) (has o (in_dir d selected)) ∙ ap (λ v. unwrap_or (when ((event == o) && same_dir dir d) v) (has o (in_dir d selected))) (sym is))

  pub after_off : (dir : Dir) (on : Bool) (listed' : List ℕ) (selected' : PerDir) → on ≡ false → has event waiting ≡ false
      → ((o : ℕ) → has o listed' ≡ ((event == o) || has o listed)) → ((d : Dir) → IsWithout (in_dir d selected) (in_dir d selected') event (same_dir dir d))
      → IsAfter (calls ++ Select event dir on ∷ []) (record { listed = listed'; waiting = waiting; selected = selected'; armed = armed })
  after_off dir on listed' selected' is free added sets =
      after_select calls listed waiting selected armed event at dir on listed' selected' free added
      (λ o d. (sets d).has_lem o ∙ taken_out ((event == o) && same_dir dir d) (has o (in_dir d selected)) ∙ ap (λ v. unwrap_or (when ((event == o) && same_dir dir d) v) (has o (in_dir d selected))) (sym is))

  -- the answers, by what was found in the sets
  pub tells_unused : (b : Bool) → (has event (in_dir Read armed) || has event (in_dir Write armed)) ≡ b → (is_armed calls event Read || is_armed calls event Write) ≡ b
  tells_unused b found = sym (or_same (at.armed event Read) (at.armed event Write)) ∙ found

  pub tells_delivered : (dir : Dir) (a b : Bool) → a ≡ has event (in_dir dir selected) → b ≡ has event (in_dir dir armed) → (is_selected calls event dir && is_armed calls event dir) ≡ (a && b)
  tells_delivered dir a b left right = sym (and_same (left ∙ at.selected event dir) (right ∙ at.armed event dir))

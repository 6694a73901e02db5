-- What an end may conclude from the rule at one moment.
use Rattle.std.proofs.Common.{◌≡◌, ℕ, ◌<◌, Some, None, Option, MatchOption, IfSome, IfNone, List, [], ◌∷◌, ◌++◌, length, All, Contains, refl, sym, ap, ◌∙◌, subst, append-nil, append_assoc, arith}
use mathlib.Core.List.{IsPrefix}
use Rattle.std.proofs.lemmas.List.Elements.{All-weaker, All-contains, Contains-push, Contains-append_left}
use Rattle.task_queue.specs.declared.item.Item.{Item}
use Rattle.task_queue.specs.declared.protocol.Ended.{Ended}
use Rattle.task_queue.specs.declared.protocol.Hand.{Hand}
use Rattle.task_queue.specs.Items.{of, IsNumbered}
use Rattle.task_queue.specs.Lane.{IsEnded, FitsKey, Stood, WasFront, taker_hand, after_take}
use Rattle.task_queue.specs.Ends.{LaneId, Sending, Taking, ended_of, KeepsOrder, TookAll}
use Rattle.task_queue.specs.Laws.{TakenIsPrefix, LeftIsQueued, EndedIsPrefix, EndedIsQueued}
use Rattle.std.proofs.Math.ListN.{get_or-append, length-append}
use Rattle.std.proofs.Math.Seq.{get_or-append_seam}
use Rattle.task_queue.proofs.Items.{of-append, IsNumbered-front, IsNumbered-at}

module _ {T : Type 0} where
  -- what holds of each holds of each in front
  pub All-front : (P : T → Type 0) (xs ys : List T) → All P (xs ++ ys) → All P xs
  All-front P xs ys all i d below = subst P (get_or-append xs ys d i below) (all i d (omega (arith, length-append xs ys)))

  -- and of the one that stands behind these
  pub All-at : (P : T → Type 0) (xs : List T) (x : T) (ys : List T) → All P (xs ++ x ∷ ys) → P x
  All-at P xs x ys all =
      subst P (get_or-append_seam xs x ys x) (all (length xs) x (omega (arith, length-append xs (x ∷ ys))))

module _ {T K : Type 0} (fits : K → ℕ → T → Type 0) where
  -- an item that fits a lane with a key fits that key
  fits_of_key : (k : K) (key : Option K) (x : Item T) → Some k ≡ key → FitsKey fits key x → fits k x.sender x.value
  fits_of_key k key x has (found, is, fit) = let e : found ≡ k = cc in subst (λ y. fits y x.sender x.value) e fit

  -- at a moment at which the rule holds, the order of what the taker took, or took and the front of the queue with it
  pub order_of : (t : Taking T K) (items front rest : List (Item T)) → Stood fits items (taker_hand (Some t.key) t.taken t.ended)
      → front ++ rest ≡ t.taken ++ items → KeepsOrder fits (record t { taken = front })
  order_of t items front rest (pass, views, (key, reader, seats, made, taken, laid), at) e =
      let me = (laid.hands pass (taker_hand (Some t.key) t.taken t.ended) at).taker refl in
      let log : List (Item T) = taken ++ items in
      let whole : front ++ rest ≡ log = e ∙ ap (λ l. l ++ items) me.took in
      let known : All (λ (x : Item T). x.sender < made) front = All-front (λ (x : Item T). x.sender < made) front rest (subst (All (λ (x : Item T). x.sender < made)) (sym whole) laid.known) in
      record {
        numbered = IsNumbered-front front rest (subst IsNumbered (sym whole) laid.numbered);
        fit = All-weaker (FitsKey fits key) (λ (x : Item T). fits t.key x.sender x.value) (λ x. fits_of_key t.key key x me.has_key) front
            (All-front (FitsKey fits key) front rest (subst (All (FitsKey fits key)) (sym whole) laid.fit));
        prefix = All-weaker (IsEnded seats made log) (λ (d : Ended T). IsPrefix (of d.number front) d.sent)
            (λ d old. (of d.number rest, sym (of-append d.number front rest) ∙ ap (of d.number) whole ∙ old.sent)) t.ended me.ended;
        differ = me.differ;
        counted = All-weaker (IsEnded seats made log) (λ (d : Ended T). d.number ≡ 0 → All (λ (x : Item T). x.sender < d.made) front × All (λ (c : Ended T). c.number < d.made) t.ended)
            (λ d old zero. let count : d.made ≡ made = old.counts zero in (
              All-weaker (λ (x : Item T). x.sender < made) (λ (x : Item T). x.sender < d.made) (λ x low. omega arith) front known,
              All-weaker (IsEnded seats made log) (λ (c : Ended T). c.number < d.made) (λ c its. let low = its.below in omega arith) t.ended me.ended,
            )) t.ended me.ended;
      }

  -- where the queue was empty, all that the ended senders sent was taken
  pub all_of : (t : Taking T K) → Stood fits [] (taker_hand (Some t.key) t.taken t.ended) → TookAll t
  all_of t (pass, views, (key, reader, seats, made, taken, laid), at) =
      let me = (laid.hands pass (taker_hand (Some t.key) t.taken t.ended) at).taker refl in
      All-weaker (IsEnded seats made (taken ++ [])) (λ (d : Ended T). of d.number t.taken ≡ d.sent)
      (λ d old. ap (of d.number) (me.took ∙ sym (append-nil taken)) ∙ old.sent) t.ended me.ended

  -- the item at the front is the next one of its sender, and fits
  pub next_of : (t : Taking T K) (x : Item T) → WasFront fits (taker_hand (Some t.key) t.taken t.ended) x → x.seq ≡ length (of x.sender t.taken)
  next_of t x (items, (pass, views, (key, reader, seats, made, taken, laid), at)) =
      let me = (laid.hands pass (taker_hand (Some t.key) t.taken t.ended) at).taker refl in
      IsNumbered-at taken x items laid.numbered ∙ ap (λ l. length (of x.sender l)) (sym me.took)

  pub fits_of : (t : Taking T K) (x : Item T) → WasFront fits (taker_hand (Some t.key) t.taken t.ended) x → fits t.key x.sender x.value
  fits_of t x (items, (pass, views, (key, reader, seats, made, taken, laid), at)) =
      let me = (laid.hands pass (taker_hand (Some t.key) t.taken t.ended) at).taker refl in
      fits_of_key t.key key x me.has_key (All-at (FitsKey fits key) taken x items laid.fit)

  -- of any two ends at any moment
  pub left_always : LeftIsQueued fits
  left_always items v w ends =
      let (key, reader, seats, made, taken, laid) = ends.rule in
      let me = (laid.hands ends.taker.0 v ends.taker.1).taker ends.takes in
      let it = (laid.hands ends.sender.0 w ends.sender.1).sender ends.sends in
      sym (of-append w.number v.taken items) ∙ ap (λ l. of w.number (l ++ items)) me.took ∙ it.sent

  pub prefix_always : TakenIsPrefix fits
  prefix_always items v w ends = (of w.number items, left_always items v w ends)

  pub ended_left_always : EndedIsQueued fits
  ended_left_always items v takes' (pass, views, (key, reader, seats, made, taken, laid), at) =
      let me = (laid.hands pass v at).taker takes' in
      All-weaker (IsEnded seats made (taken ++ items)) (λ (d : Ended T). of d.number v.taken ++ of d.number items ≡ d.sent)
      (λ d old. sym (of-append d.number v.taken items) ∙ ap (λ l. of d.number (l ++ items)) me.took ∙ old.sent) v.ended me.ended

  pub ended_prefix_always : EndedIsPrefix fits
  ended_prefix_always items v takes' stood =
      All-weaker (λ (d : Ended T). of d.number v.taken ++ of d.number items ≡ d.sent) (λ (d : Ended T). IsPrefix (of d.number v.taken) d.sent)
      (λ d whole. (of d.number items, whole)) v.ended (ended_left_always items v takes' stood)

  -- what a pop tells of the taker's hand before and after it
  abbrev pub Pop : Hand T K → Hand T K → Type 0 → Option (Item T) → Type 0
  Pop v w idle r = MatchOption r ((w ≡ v) × Stood fits [] v) (λ x. ((w ≡ after_take v x) × WasFront fits v x) × idle)

  -- the taking end as its hand shows it
  abbrev pub end_of : LaneId → K → Hand T K → Taking T K
  end_of lane key v = record { lane = lane; key = key; taken = v.taken; ended = v.ended }

  pub next_told : (lane : LaneId) (key : K) (v w : Hand T K) (idle : Type 0) (r : Option (Item T)) → v ≡ taker_hand (Some key) v.taken v.ended
      → Pop v w idle r → IfSome r (λ x. x.seq ≡ length (of x.sender v.taken))
  next_told lane key v w idle None is told = tt
  next_told lane key v w idle (Some x) is told = next_of (end_of lane key v) x (subst (λ h. WasFront fits h x) is told.0.1)

  pub fits_told : (lane : LaneId) (key : K) (v w : Hand T K) (idle : Type 0) (r : Option (Item T)) → v ≡ taker_hand (Some key) v.taken v.ended
      → Pop v w idle r → IfSome r (λ x. fits key x.sender x.value)
  fits_told lane key v w idle None is told = tt
  fits_told lane key v w idle (Some x) is told = fits_of (end_of lane key v) x (subst (λ h. WasFront fits h x) is told.0.1)

  pub all_told : (lane : LaneId) (key : K) (v w : Hand T K) (idle : Type 0) (r : Option (Item T)) → v ≡ taker_hand (Some key) v.taken v.ended
      → Pop v w idle r → IfNone r (TookAll (end_of lane key v))
  all_told lane key v w idle None is told = all_of (end_of lane key v) (subst (Stood fits []) is told.1)
  all_told lane key v w idle (Some x) is told = tt

  pub order_told : (lane : LaneId) (key : K) (v w : Hand T K) (idle : Type 0) (r : Option (Item T)) → v ≡ taker_hand (Some key) v.taken v.ended
      → Pop v w idle r → KeepsOrder fits (end_of lane key w)
  order_told lane key v w idle None is told =
      subst (λ h. KeepsOrder fits (end_of lane key h)) (sym told.0)
      (order_of (end_of lane key v) [] v.taken [] (subst (Stood fits []) is told.1) refl)
  order_told lane key v w idle (Some x) is told =
      let (items, stood) = told.0.1 in
      subst (λ h. KeepsOrder fits (end_of lane key h)) (sym told.0.0)
      (order_of (end_of lane key v) (x ∷ items) (v.taken ++ x ∷ []) items (subst (Stood fits (x ∷ items)) is stood) (append_assoc v.taken (x ∷ []) items))

module _ {T K : Type 0} where
  -- once all was taken, this holds of each ended sender
  pub took : (t : Taking T K) (e : Ended T) → Contains t.ended e → TookAll t → of e.number t.taken ≡ e.sent
  took t e among all = All-contains (λ d. of d.number t.taken ≡ d.sent) t.ended e all among

  -- an end that is taken in is among the ended ones, and so are those that were
  pub among_last : (t u : Taking T K) (end : Sending T K) → u ≡ record t { ended = t.ended ++ ended_of end ∷ [] } → Contains u.ended (ended_of end)
  among_last t u end step = subst (λ v. Contains v.ended (ended_of end)) (sym step) (Contains-push t.ended (ended_of end))

  pub among_still : (t u : Taking T K) (end : Sending T K) (e : Ended T) → u ≡ record t { ended = t.ended ++ ended_of end ∷ [] }
      → Contains t.ended e → Contains u.ended e
  among_still t u end e step among = subst (λ v. Contains v.ended e) (sym step) (Contains-append_left t.ended (ended_of end ∷ []) e among)

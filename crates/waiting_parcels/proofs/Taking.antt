-- What a call on the list finds and leaves, from what it does with the queues.
use Rattle.std.proofs.Common.{◌≡◌, ℕ, ◌<◌, ◌≤◌, List, [], ◌∷◌, ◌++◌, length, take, drop, All, Bool, true, false, not, ◌&&◌, ◌||◌, eqb, ltb, refl, sym, ap, ◌∙◌, append-nil, arith, subst}
use Rattle.std.specs.Prelude.{Option, Some, None, slice_index, slice_set, option_to_list}
use Rattle.std.specs.List.{list_any}
use Rattle.std.proofs.lemmas.Bool.{ne_eqb, lt-ltb, true≢false}
use Rattle.std.proofs.lemmas.List.{take-append-le, take_all}
use Rattle.std.proofs.lemmas.List.Elements.{All-head, All-get_or}
use Rattle.task_queue.specs.declared.item.Item.{Item}
use Rattle.port_lanes.specs.Parcels.{ParcelView}
use Rattle.port_lanes.specs.port_history.Laws.{waits_where_busy}
use Rattle.waiting_parcels.specs.declared.arrival.Arrival.{Arrival}
use Rattle.waiting_parcels.specs.declared.arrival.Head.{Head}
use Rattle.waiting_parcels.specs.Waiting.{has_sender, may_go, GoesFirst, NoneGoes}
use Rattle.waiting_parcels.specs.Queues.{queue_of, arrivals, in_order, goes_at, NotBefore, IsHead, IsTaken, IsKept}
use Rattle.waiting_parcels.proofs.Senders.{has_sender-append}
use Rattle.waiting_parcels.proofs.Arrivals.{has_sender-in_order}
use Rattle.waiting_parcels.proofs.Choosing.{NoneGoes-push, NoneGoes-in_order, GoesFirst-more, GoesFirst-last, GoesFirst-in_order, not_before-all, none-not_before, IsGoing, going}
use Rattle.waiting_parcels.proofs.Kept.{All-queue}

-- a slice that was lent and came back as long as it was
pub written-back : {X : Type 0} (len : ℕ) (new old : List X) → length new ≡ length old → len ≡ length old → take len (new ++ drop (length new) old) ≡ new
written-back len new old same long =
    take-append-le len new (drop (length new) old) (omega arith) ∙ take_all len new (omega arith)

-- a sender's first task is in its queue
some-below : (queue : List Arrival) (next : ℕ) → All (λ a. a.stamp < next) queue → list_any (λ a. ltb a.stamp next) queue ≡ not (eqb (length queue) 0)
some-below [] next below = refl
some-below (a ∷ later) next below =
    ap (λ b. b || list_any (λ (a : Arrival). ltb a.stamp next) later) (lt-ltb a.stamp next (All-head (λ (a : Arrival). a.stamp < next) a later below))
    ∙ sym (ap not (ne_eqb (length (a ∷ later)) 0 (λ e. absurd (omega arith))))

module _ (queues : List (List Arrival)) (waiting : List ℕ) (queued next : ℕ) (newest : Option (Item ParcelView)) (k : IsKept queues waiting queued next newest) where
  pub has_sender-queue : (n : ℕ) → n < length queues → has_sender n (in_order next (arrivals queues)) ≡ not (eqb (length (queue_of n queues)) 0)
  has_sender-queue n within =
      has_sender-in_order n next queues k.own ∙ some-below (queue_of n queues) next (All-queue (λ (a : Arrival). a.stamp < next) queues n within k.past)

  -- a sender has a task in its queue, or sent the newest
  pub has_sender-list : (n : ℕ) (empty : Bool) → n < length queues → empty ≡ eqb (length (queue_of n queues)) 0
      → has_sender n (in_order next (arrivals queues) ++ option_to_list newest) ≡ (not empty || has_sender n (option_to_list newest))
  has_sender-list n empty within is =
      has_sender-append n (in_order next (arrivals queues)) (option_to_list newest)
      ∙ ap (λ b. b || has_sender n (option_to_list newest)) (has_sender-queue n within ∙ ap not (sym is))

  -- the newest task goes where its sender's queue is empty, and it isn't an unforced command or the port isn't busy
  pub may_go-last : (busy : Bool) (item : Item ParcelView) → item.sender < length queues
      → may_go busy (in_order next (arrivals queues)) item ≡ (eqb (length (queue_of item.sender queues)) 0 && not (busy && waits_where_busy item.value.task))
  may_go-last busy item within =
      ap (λ b. not b && not (busy && waits_where_busy item.value.task)) (has_sender-queue item.sender within)
      ∙ ap (λ b. b && not (busy && waits_where_busy item.value.task)) (not_not (eqb (length (queue_of item.sender queues)) 0)) where
        not_not : (b : Bool) → not (not b) ≡ b
        not_not true = refl
        not_not false = refl

  -- none of the queues gives a task
  pub none-queued : (busy : Bool) → All (λ n. goes_at busy (queue_of n queues) ≡ None) waiting → NoneGoes busy (in_order next (arrivals queues))
  none-queued busy none =
      NoneGoes-in_order busy queues k.own k.rising k.single next (not_before-all busy queues waiting next k.complete (none-not_before busy queues waiting next none))

  pub none-goes : (busy : Bool) → All (λ n. goes_at busy (queue_of n queues) ≡ None) waiting → newest ≡ None
      → NoneGoes busy (in_order next (arrivals queues) ++ option_to_list newest)
  none-goes busy none is =
      subst (NoneGoes busy) (sym (ap (λ o. in_order next (arrivals queues) ++ option_to_list o) is ∙ append-nil (in_order next (arrivals queues)))) (none-queued busy none)

  pub none-last : (busy : Bool) (item : Item ParcelView) → All (λ n. goes_at busy (queue_of n queues) ≡ None) waiting → newest ≡ Some item → item.sender < length queues
      → (eqb (length (queue_of item.sender queues)) 0 && not (busy && waits_where_busy item.value.task)) ≡ false
      → NoneGoes busy (in_order next (arrivals queues) ++ option_to_list newest)
  none-last busy item none is within stays =
      subst (λ o. NoneGoes busy (in_order next (arrivals queues) ++ option_to_list o)) (sym is)
      (NoneGoes-push busy (in_order next (arrivals queues)) item (none-queued busy none) (may_go-last busy item within ∙ stays))

  pub went-last : (busy : Bool) (item : Item ParcelView) → All (λ n. goes_at busy (queue_of n queues) ≡ None) waiting → newest ≡ Some item → item.sender < length queues
      → (eqb (length (queue_of item.sender queues)) 0 && not (busy && waits_where_busy item.value.task)) ≡ true
      → GoesFirst busy (in_order next (arrivals queues) ++ option_to_list newest) item (in_order next (arrivals queues) ++ [])
  went-last busy item none is within goes =
      subst (λ rest. GoesFirst busy (in_order next (arrivals queues) ++ option_to_list newest) item rest) (sym (append-nil (in_order next (arrivals queues))))
      (subst (λ o. GoesFirst busy (in_order next (arrivals queues) ++ option_to_list o) item (in_order next (arrivals queues))) (sym is)
      (GoesFirst-last busy (in_order next (arrivals queues)) item (none-queued busy none) (may_go-last busy item within ∙ goes)))

  -- the choice is a first task that is there
  pub head-there : (busy : Bool) (head : Head) → IsHead busy queues waiting waiting head → IsGoing busy (queue_of (slice_index waiting head.place) queues) head.stamp
  head-there busy head h = going busy (queue_of (slice_index waiting head.place) queues) head.stamp h.goes

  pub some-queued : (busy : Bool) (head : Head) → IsHead busy queues waiting waiting head → 0 < length (queue_of (slice_index waiting head.place) queues)
  some-queued busy head h = let g = head-there busy head h in omega (arith, ap length g.is)

  -- the choice goes first
  pub went-first : (busy : Bool) (head : Head) (new_queues : List (List Arrival)) (new_waiting : List ℕ) (a : Arrival) → IsHead busy queues waiting waiting head
      → IsTaken queues new_queues waiting new_waiting head.place a
      → GoesFirst busy (in_order next (arrivals queues) ++ option_to_list newest) a.item (in_order next (arrivals new_queues) ++ option_to_list newest)
  went-first busy head new_queues new_waiting a h t =
      let n : ℕ = slice_index waiting head.place in
      let known : slice_index waiting head.place < length queues = All-get_or (λ (i : ℕ). i < length queues) waiting head.place 0 h.within k.known in
      let g : IsGoing busy (a ∷ t.later) head.stamp = going busy (a ∷ t.later) head.stamp (ap (goes_at busy) (sym t.was) ∙ h.goes) in
      let same : g.a ≡ a = first_is g.a a g.later t.later (sym g.is) in
      let stamp : a.stamp ≡ head.stamp = ap (λ (b : Arrival). b.stamp) (sym same) ∙ g.stamp_is in
      let free : (busy && waits_where_busy a.item.value.task) ≡ false = ap (λ (b : Arrival). busy && waits_where_busy b.item.value.task) (sym same) ∙ g.free in
      let below : a.stamp < next =
      All-head (λ (b : Arrival). b.stamp < next) a t.later (subst (All (λ (b : Arrival). b.stamp < next)) t.was (All-queue (λ (b : Arrival). b.stamp < next) queues n known k.past)) in
      let first : GoesFirst busy (in_order next (arrivals queues)) a.item (in_order next (arrivals (slice_set queues n t.later))) =
      GoesFirst-in_order busy queues k.own k.rising k.single next n a t.later t.was below free
      (subst (λ s. (m : ℕ) → NotBefore s (goes_at busy (queue_of m queues))) (sym stamp) (not_before-all busy queues waiting head.stamp k.complete h.least)) in
      GoesFirst-more busy (in_order next (arrivals queues)) a.item (in_order next (arrivals new_queues)) (option_to_list newest)
      (subst (λ qs. GoesFirst busy (in_order next (arrivals queues)) a.item (in_order next (arrivals qs))) (sym t.now) first) where
        first_is : (x y : Arrival) (xs ys : List Arrival) → x ∷ xs ≡ y ∷ ys → x ≡ y
        first_is x y xs ys e = ap head_of e where
          head_of : List Arrival → Arrival
          head_of [] = x
          head_of (z ∷ zs) = z

  pub queued-some : (busy : Bool) (head : Head) (new_queues : List (List Arrival)) (new_waiting : List ℕ) (a : Arrival) → IsHead busy queues waiting waiting head
      → IsTaken queues new_queues waiting new_waiting head.place a → 1 ≤ queued
  queued-some busy head new_queues new_waiting a h t =
      let n : ℕ = slice_index waiting head.place in
      let known : slice_index waiting head.place < length queues = All-get_or (λ (i : ℕ). i < length queues) waiting head.place 0 h.within k.known in
      let some : has_sender n (in_order next (arrivals queues)) ≡ true =
      has_sender-queue n known ∙ ap not (ne_eqb (length (queue_of n queues)) 0 (λ e. absurd (omega (arith, ap length t.was)))) in
      by_list (in_order next (arrivals queues)) refl n some where
        by_list : (items : List (Item ParcelView)) → in_order next (arrivals queues) ≡ items → (n : ℕ) → has_sender n (in_order next (arrivals queues)) ≡ true → 1 ≤ queued
        by_list [] e n some = absurd (true≢false (sym some ∙ ap (has_sender n) e))
        by_list (i ∷ items) e n some = omega (arith, k.counted, ap length e)

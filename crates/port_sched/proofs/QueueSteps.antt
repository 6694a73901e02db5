-- What a seat of queues knows after it put a ticket, or took one.
use Rattle.std.proofs.Common.{◌≡◌, true≢false, ℕ, zero, suc, ◌+◌, ◌<◌, List, [], ◌∷◌, ◌++◌, Option, Some, None, IsSome, map, length, slice_get, sym, refl, ap, ◌∙◌, subst, arith, inl, inr}
use Rattle.std.specs.Prelude.{option_map, option_to_list, is_some}
use Rattle.std.specs.List.{sum_by}
use Rattle.std.proofs.lemmas.List.Sums.{sum_by-cons, sum_by-append}
use Rattle.std.proofs.lemmas.Option.{get_or_from_slice_get, slice_get_within, same_Some, none-some}
use Rattle.port_words.specs.declared.home.homes.Ticket.{Ticket}
use Rattle.run_queue.specs.declared.account.QueueHand.{QueueHand}
use Rattle.run_queue.specs.Account.{after_put, after_take, parts_of, put_weight, taken_weight}
use Rattle.run_queue.specs.Seats.{DequeKnown, RunKnown, changed_first, changed_at, hands_of, took_own, stole, took_entry, KeepsShape, KeepsEnds, IsDequeEnd, put_by_owner, Took}
use Rattle.run_queue.proofs.SeatLemmas.{at_set, keeps, all_to_get}
use Rattle.port_sched.specs.Tickets.{has_owner, parts_in, IsQueueSeat, IsSameSeat, QueueStep}

module _ {A : Type 0} where
  found : (xs : List A) (n : ℕ) → n < length xs → (x : A) × (slice_get xs n ≡ Some x)
  found [] n lt = absurd (omega arith)
  found (x ∷ xs) zero lt = (x, refl)
  found (x ∷ xs) (suc n) lt = found xs n (omega arith)

  sum_changed : (f : A → ℕ) (g : A → A) (n : ℕ) (xs : List A) (x : A) (a : ℕ) → slice_get xs n ≡ Some x → f (g x) ≡ f x + a → sum_by f (changed_at g n xs) ≡ sum_by f xs + a
  sum_changed f g n [] x a e more = absurd (none-some x e)
  sum_changed f g zero (y ∷ ys) x a e more =
      let same : f y ≡ f x = ap f (same_Some y x e) in
      let same' : f (g y) ≡ f (g x) = ap (λ z. f (g z)) (same_Some y x e) in
      omega (arith, sum_by-cons f y ys, sum_by-cons f (g y) ys)
  sum_changed f g (suc n) (y ∷ ys) x a e more =
      let inner = sum_changed f g n ys x a e more in
      omega (arith, sum_by-cons f y ys, sum_by-cons f y (changed_at g n ys))

  map_changed : {C : Type 0} (h : A → C) (g : A → A) (n : ℕ) (xs : List A) → ((x : A) → h (g x) ≡ h x) → map h (changed_at g n xs) ≡ map h xs
  map_changed h g n [] each = refl
  map_changed h g zero (x ∷ xs) each = ap (λ y. y ∷ map h xs) (each x)
  map_changed h g (suc n) (x ∷ xs) each = ap (λ ys. h x ∷ ys) (map_changed h g n xs each)

  first_length : (g : A → A) (xs : List A) → length (changed_first g xs) ≡ length xs
  first_length g [] = refl
  first_length g (x ∷ xs) = refl

some_map : (h : QueueHand → QueueHand) (own : Option QueueHand) → IsSome own → IsSome (option_map h own)
some_map h None some = absurd (true≢false (sym some))
some_map h (Some v) some = some

-- the owner's hand changes, or that of the first pass
own_changed : (f : QueueHand → ℕ) (h : QueueHand → QueueHand) (a : ℕ) → ((v : QueueHand) → f (h v) ≡ f v + a) → (own : Option QueueHand) (guests : List QueueHand) → IsSome own
    → sum_by f (option_to_list (option_map h own) ++ guests) ≡ sum_by f (option_to_list own ++ guests) + a
own_changed f h a each None guests some = absurd (true≢false (sym some))
own_changed f h a each (Some v) guests some = let one = each v in omega (arith, sum_by-cons f v guests, sum_by-cons f (h v) guests)

guest_changed : (f : QueueHand → ℕ) (h : QueueHand → QueueHand) (a : ℕ) → ((v : QueueHand) → f (h v) ≡ f v + a) → (own : Option QueueHand) (guests : List QueueHand) → 0 < length guests
    → sum_by f (option_to_list own ++ changed_first h guests) ≡ sum_by f (option_to_list own ++ guests) + a
guest_changed f h a each own [] has = absurd (omega arith)
guest_changed f h a each own (v ∷ vs) has =
    let one = each v in
    omega (arith, sum_by-append f (option_to_list own) (h v ∷ vs), sum_by-append f (option_to_list own) (v ∷ vs), sum_by-cons f v vs, sum_by-cons f (h v) vs)

-- the owner stays where it is, and each hand has the parts that it had
same_owner : (h : QueueHand → QueueHand) (own : Option QueueHand) → is_some (option_map h own) ≡ is_some own
same_owner h None = refl
same_owner h (Some v) = refl

own_parts : (h : QueueHand → QueueHand) → ((v : QueueHand) → parts_of (h v) ≡ parts_of v) → (own : Option QueueHand) (guests : List QueueHand)
    → sum_by parts_of (option_to_list (option_map h own) ++ guests) ≡ sum_by parts_of (option_to_list own ++ guests)
own_parts h each None guests = refl
own_parts h each (Some v) guests = let one = each v in omega (arith, sum_by-cons parts_of v guests, sum_by-cons parts_of (h v) guests)

guest_parts : (h : QueueHand → QueueHand) → ((v : QueueHand) → parts_of (h v) ≡ parts_of v) → (own : Option QueueHand) (guests : List QueueHand)
    → sum_by parts_of (option_to_list own ++ changed_first h guests) ≡ sum_by parts_of (option_to_list own ++ guests)
guest_parts h each own [] = refl
guest_parts h each own (v ∷ vs) =
    let one = each v in
    omega (arith, sum_by-append parts_of (option_to_list own) (h v ∷ vs), sum_by-append parts_of (option_to_list own) (v ∷ vs), sum_by-cons parts_of v vs, sum_by-cons parts_of (h v) vs)

-- what a put and a take add to a hand
put_more : (weight : Ticket → ℕ) (t : Ticket) (v : QueueHand) → put_weight weight (after_put (t ∷ []) v) ≡ put_weight weight v + sum_by weight (t ∷ [])
put_more weight t v = sum_by-append weight v.put (t ∷ [])

put_same : (weight : Ticket → ℕ) (t : Ticket) (v : QueueHand) → put_weight weight (after_take (t ∷ []) v) ≡ put_weight weight v + sum_by weight []
put_same weight t v = omega arith

taken_more : (weight : Ticket → ℕ) (t : Ticket) (v : QueueHand) → taken_weight weight (after_take (t ∷ []) v) ≡ taken_weight weight v + sum_by weight (t ∷ [])
taken_more weight t v = sum_by-append weight v.taken (t ∷ [])

taken_same : (weight : Ticket → ℕ) (t : Ticket) (v : QueueHand) → taken_weight weight (after_put (t ∷ []) v) ≡ taken_weight weight v + sum_by weight []
taken_same weight t v = omega arith

keeps_changed : (xs : List DequeKnown) (n : ℕ) (f : DequeKnown → DequeKnown) (x : DequeKnown) → slice_get xs n ≡ Some x → KeepsShape x (f x) → KeepsEnds xs (changed_at f n xs)
keeps_changed xs n f x e shape =
    let at = sym (get_or_from_slice_get xs n x x e) in
    let lt = slice_get_within xs n x e in
    subst (KeepsEnds xs) (at_set f xs n x (f x) lt at refl) (keeps xs n x (f x) lt at shape)

-- the seat's own deque, which it owns
own_deque : (s : RunKnown) → IsQueueSeat s → (k : DequeKnown) × (slice_get s.deques s.number ≡ Some k) × IsSome k.own
own_deque s is = let k = found s.deques s.number is.0.0 in (k.0, k.1, is.0.1 k.0 k.1)

-- one of the deques changes as its owner's hand does
own_step : (h : QueueHand → QueueHand) (s : RunKnown) → ((v : QueueHand) → parts_of (h v) ≡ parts_of v)
    → IsSameSeat s (record s { deques = changed_at (λ (k : DequeKnown). record k { own = option_map h k.own }) s.number s.deques })
own_step h s each =
    let F : DequeKnown → DequeKnown = λ k. record k { own = option_map h k.own } in
    record {
      number = refl;
      seats = refl;
      deques = map_changed (λ (k : DequeKnown). k.deque) F s.number s.deques (λ x. refl);
      owners = map_changed has_owner F s.number s.deques (λ x. same_owner h x.own);
      parts = map_changed parts_in F s.number s.deques (λ x. own_parts h each x.own x.guests);
      injector = refl;
      entry_parts = refl;
      is_seat = λ is.
          let mine = own_deque s is in
          let kept = keeps_changed s.deques s.number F mine.0 mine.1 (record { deque = refl; owner = some_map h mine.0.own; guests = refl; room = refl }) in
          (kept.owns s.number is.0, kept.ends s.seats is.1);
    }

own_sum : (f : QueueHand → ℕ) (h : QueueHand → QueueHand) (a : ℕ) (s : RunKnown) → ((v : QueueHand) → f (h v) ≡ f v + a) → IsQueueSeat s
    → sum_by (λ k. sum_by f (hands_of k)) (changed_at (λ (k : DequeKnown). record k { own = option_map h k.own }) s.number s.deques) ≡ sum_by (λ k. sum_by f (hands_of k)) s.deques + a
own_sum f h a s each is =
    let mine = own_deque s is in
    sum_changed (λ k. sum_by f (hands_of k)) (λ (k : DequeKnown). record k { own = option_map h k.own }) s.number s.deques mine.0 a mine.1 (own_changed f h a each mine.0.own mine.0.guests mine.2)

-- the owner put a ticket
pub pushed : (ticket : Ticket) (old new : RunKnown) → new ≡ put_by_owner ticket old → QueueStep [] (ticket ∷ []) old new
pushed ticket old new e = subst (QueueStep [] (ticket ∷ []) old) (sym e) (record {
  same = own_step (after_put (ticket ∷ [])) old (λ v. refl);
  taken_tickets = λ is weight. let s = own_sum (taken_weight weight) (after_put (ticket ∷ [])) (sum_by weight []) old (taken_same weight ticket) is in omega arith;
  put_tickets = λ is weight. let s = own_sum (put_weight weight) (after_put (ticket ∷ [])) (sum_by weight (ticket ∷ [])) old (put_more weight ticket) is in omega arith;
})

took_of_own : (ticket : Ticket) (old : RunKnown) → QueueStep (ticket ∷ []) [] old (record old { deques = changed_at (took_own (ticket ∷ [])) old.number old.deques })
took_of_own ticket old = record {
  same = own_step (after_take (ticket ∷ [])) old (λ v. refl);
  taken_tickets = λ is weight. let s = own_sum (taken_weight weight) (after_take (ticket ∷ [])) (sum_by weight (ticket ∷ [])) old (taken_more weight ticket) is in omega arith;
  put_tickets = λ is weight. let s = own_sum (put_weight weight) (after_take (ticket ∷ [])) (sum_by weight []) old (put_same weight ticket) is in omega arith;
}

took_of_entry : (ticket : Ticket) (old : RunKnown) → QueueStep (ticket ∷ []) [] old (record old { entry = took_entry (ticket ∷ []) old.entry })
took_of_entry ticket old = record {
  same = record { number = refl; seats = refl; deques = refl; owners = refl; parts = refl; injector = refl; entry_parts = refl; is_seat = λ is. is };
  taken_tickets = λ is weight. let s = taken_more weight ticket old.entry.hand in omega arith;
  put_tickets = λ is weight. let s = put_same weight ticket old.entry.hand in omega arith;
}

stolen_shape : (ticket : Ticket) (k : DequeKnown) → KeepsShape k (stole (ticket ∷ []) k)
stolen_shape ticket k = record { deque = refl; owner = λ own. own; guests = first_length (after_take (ticket ∷ [])) k.guests; room = refl }

took_of_other : (ticket : Ticket) (n : ℕ) (old : RunKnown) → n < length old.deques → QueueStep (ticket ∷ []) [] old (record old { deques = changed_at (stole (ticket ∷ [])) n old.deques })
took_of_other ticket n old lt =
    let there = found old.deques n lt in
    record {
      same = record {
        number = refl;
        seats = refl;
        deques = map_changed (λ (k : DequeKnown). k.deque) (stole (ticket ∷ [])) n old.deques (λ x. refl);
        owners = map_changed has_owner (stole (ticket ∷ [])) n old.deques (λ x. refl);
        parts = map_changed parts_in (stole (ticket ∷ [])) n old.deques (λ x. guest_parts (after_take (ticket ∷ [])) (λ v. refl) x.own x.guests);
        injector = refl;
        entry_parts = refl;
        is_seat = λ is. let kept = keeps_changed old.deques n (stole (ticket ∷ [])) there.0 there.1 (stolen_shape ticket there.0) in (kept.owns old.number is.0, kept.ends old.seats is.1);
      };
      taken_tickets = λ is weight.
          let has = (all_to_get (IsDequeEnd (length old.deques) old.seats) old.deques n there.0 is.1 there.1).guest in
          let s = sum_changed (λ k. sum_by (taken_weight weight) (hands_of k)) (stole (ticket ∷ [])) n old.deques there.0 (sum_by weight (ticket ∷ [])) there.1
          (guest_changed (taken_weight weight) (after_take (ticket ∷ [])) (sum_by weight (ticket ∷ [])) (taken_more weight ticket) there.0.own there.0.guests has) in
          omega arith;
      put_tickets = λ is weight.
          let has = (all_to_get (IsDequeEnd (length old.deques) old.seats) old.deques n there.0 is.1 there.1).guest in
          let s = sum_changed (λ k. sum_by (put_weight weight) (hands_of k)) (stole (ticket ∷ [])) n old.deques there.0 (sum_by weight []) there.1
          (guest_changed (put_weight weight) (after_take (ticket ∷ [])) (sum_by weight []) (put_same weight ticket) there.0.own there.0.guests has) in
          omega arith;
    }

-- the seat took a ticket, of whichever queue
pub took : (ticket : Ticket) (old new : RunKnown) → Took ticket old new → QueueStep (ticket ∷ []) [] old new
took ticket old new (inl own) = subst (QueueStep (ticket ∷ []) [] old) (sym own.taken) (took_of_own ticket old)
took ticket old new (inr (inl entry)) = subst (QueueStep (ticket ∷ []) [] old) (sym entry.taken) (took_of_entry ticket old)
took ticket old new (inr (inr other)) =
    let is : new ≡ record old { deques = changed_at (stole (ticket ∷ [])) other.taken.deque old.deques } = other.same ∙ ap (λ ds. record old { deques = ds }) other.taken.stolen in
    subst (QueueStep (ticket ∷ []) [] old) (sym is) (took_of_other ticket other.taken.deque old other.taken.exists)

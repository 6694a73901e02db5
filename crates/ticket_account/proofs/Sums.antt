-- How the accounts of two jobs add up.
use Rattle.std.proofs.Common.{◌≡◌, ◌⊎◌, ℕ, zero, suc, ◌+◌, ◌-◌, ◌<◌, List, [], ◌∷◌, ◌++◌, Option, Some, None, map, length, slice_get, sym, refl, ap, subst, arith, inl, inr}
use Rattle.std.specs.Prelude.{option_to_list}
use Rattle.std.specs.List.{All, sum_by}
use Rattle.std.proofs.lemmas.List.Sums.{sum_by-cons, sum_by-append}
use Rattle.std.proofs.lemmas.List.Elements.{All-head, All-tail}
use Rattle.std.proofs.lemmas.Option.{none-some, slice_get_within}
use Rattle.atomic_blocks.specs.Laid.{WebId}
use Rattle.atomic_blocks.specs.Lent.{RowsId}
use Rattle.port_words.specs.home.Seats.{HomeKnown}
use Rattle.run_queue.specs.declared.account.QueueHand.{QueueHand}
use Rattle.run_queue.specs.Account.{hand, all_parts, put_weight, taken_weight}
use Rattle.run_queue.specs.Seats.{DequeKnown, RunKnown, the_own, hands_of, joined_deque, joined_deques, changed_at, with_own, guest_end, fresh_seat, entry_parts}
use Rattle.run_queue.proofs.OpeningLemmas.{fresh_row}
use Rattle.port_sched.specs.Homes.{used_at, made_at, used_of, made_of, weighed}
use Rattle.port_sched.specs.Closing.{joined_home, joined_homes}
use Rattle.port_sched.specs.Tickets.{IsQueueSeat}
use Rattle.ticket_account.specs.Account.{OwnApart, HomesAddUp, SeatsAddUp, EndsAddUp, IsUnused, NewSeatIsUnused, HasNoTickets, NewAccount, ServedAccount, JoinedAccount, JoinedJobAccount, EachTicketOnce}

module _ {B : Type 0} where
  made_both : (v w : HomeKnown B) (weight : ℕ → ℕ → ℕ) → w.port ≡ v.port → made_at (weight v.port) (joined_home v w) ≡ made_at (weight v.port) v + made_at (weight w.port) w
  made_both v w weight same =
      let there : made_at (weight w.port) w ≡ made_at (weight v.port) w = ap (λ p. made_at (weight p) w) same in
      omega (arith, sum_by-append (weight v.port) v.known.made w.known.made)

  used_both : (v w : HomeKnown B) (weight : ℕ → ℕ → ℕ) → w.port ≡ v.port → used_at (weight v.port) (joined_home v w) ≡ used_at (weight v.port) v + used_at (weight w.port) w
  used_both v w weight same =
      let there : used_at (weight w.port) w ≡ used_at (weight v.port) w = ap (λ p. used_at (weight p) w) same in
      omega (arith, sum_by-append (weight v.port) v.known.claimed w.known.claimed, sum_by-append (weight v.port) v.known.stale w.known.stale)

  homes_add : (f : HomeKnown B → ℕ) → ((v w : HomeKnown B) → w.port ≡ v.port → f (joined_home v w) ≡ f v + f w) → (vs ws : List (HomeKnown B)) → length ws ≡ length vs
      → ((n : ℕ) (v w : HomeKnown B) → slice_get vs n ≡ Some v → slice_get ws n ≡ Some w → w.port ≡ v.port) → sum_by f (joined_homes vs ws) ≡ sum_by f vs + sum_by f ws
  homes_add f both [] [] count same = refl
  homes_add f both [] (w ∷ ws) count same = absurd (omega arith)
  homes_add f both (v ∷ vs) [] count same = absurd (omega arith)
  homes_add f both (v ∷ vs) (w ∷ ws) count same =
      let one = both v w (same 0 v w refl refl) in
      let more = homes_add f both vs ws (omega arith) (λ n x y here there. same (suc n) x y here there) in
      omega (arith, sum_by-cons f (joined_home v w) (joined_homes vs ws), sum_by-cons f v vs, sum_by-cons f w ws)

pub homes_add_up : (B : Type 0) → HomesAddUp B
homes_add_up B vs ws same weight = (
  homes_add (λ s. made_at (weight s.port) s) (λ v w e. made_both v w weight e) vs ws same.0 same.1,
  homes_add (λ s. used_at (weight s.port) s) (λ v w e. used_both v w weight e) vs ws same.0 same.1,
)

pub own_add : (f : QueueHand → ℕ) (a b : Option QueueHand) (g h : List QueueHand) → (a ≡ None) ⊎ (b ≡ None)
    → sum_by f (option_to_list (the_own a b) ++ (g ++ h)) ≡ sum_by f (option_to_list a ++ g) + sum_by f (option_to_list b ++ h)
own_add f None b g h apart = omega (arith, sum_by-append f (option_to_list b) (g ++ h), sum_by-append f g h, sum_by-append f (option_to_list b) h)
own_add f (Some x) None g h apart = omega (arith, sum_by-cons f x (g ++ h), sum_by-append f g h, sum_by-cons f x g)
own_add f (Some x) (Some y) g h (inl e) = absurd (none-some x (sym e))
own_add f (Some x) (Some y) g h (inr e) = absurd (none-some y (sym e))

deques_add : (f : QueueHand → ℕ) (vs ws : List DequeKnown) → length ws ≡ length vs
    → ((n : ℕ) (k l : DequeKnown) → slice_get vs n ≡ Some k → slice_get ws n ≡ Some l → OwnApart k l)
    → sum_by (λ k. sum_by f (hands_of k)) (joined_deques vs ws) ≡ sum_by (λ k. sum_by f (hands_of k)) vs + sum_by (λ k. sum_by f (hands_of k)) ws
deques_add f [] [] count apart = refl
deques_add f [] (w ∷ ws) count apart = absurd (omega arith)
deques_add f (v ∷ vs) [] count apart = absurd (omega arith)
deques_add f (v ∷ vs) (w ∷ ws) count apart =
    let F : DequeKnown → ℕ = λ k. sum_by f (hands_of k) in
    let one : F (joined_deque v w) ≡ F v + F w = own_add f v.own w.own v.guests w.guests (apart 0 v w refl refl) in
    let more = deques_add f vs ws (omega arith) (λ n k l here there. apart (suc n) k l here there) in
    omega (arith, sum_by-cons F (joined_deque v w) (joined_deques vs ws), sum_by-cons F v vs, sum_by-cons F w ws)

pub seats_add_up : SeatsAddUp
seats_add_up v w apart weight = (
  (let d = deques_add (put_weight weight) v.deques w.deques apart.0 apart.1 in omega (arith, sum_by-append weight v.entry.hand.put w.entry.hand.put)),
  (let d = deques_add (taken_weight weight) v.deques w.deques apart.0 apart.1 in omega (arith, sum_by-append weight v.entry.hand.taken w.entry.hand.taken)),
)

pub ends_add_up : EndsAddUp
ends_add_up s e weight = (
  omega (arith, sum_by-append weight s.entry.hand.put e.hand.put),
  omega (arith, sum_by-append weight s.entry.hand.taken e.hand.taken),
)

pub served_account : (B : Type 0) → ServedAccount B
served_account B kept strange more homes homes' run run' is account served = record {
  made = λ weight. let a = account.made weight in let s = served.made is weight in omega (arith, sum_by-append (weighed weight) kept more);
  used = λ weight. let a = account.used weight in let s = served.used is weight in omega (arith, sum_by-append (weighed weight) strange served.strange);
}

pub joined_account : (B : Type 0) → JoinedAccount B
joined_account B kept strange more stranger homes homes' run run' same apart one two = record {
  made = λ weight.
      let h = (homes_add_up B homes homes' same weight).0 in
      let q = (seats_add_up run run' apart (weighed weight)).0 in
      let a = one.made weight in
      let b = two.made weight in
      omega (arith, sum_by-append (weighed weight) kept more);
  used = λ weight.
      let h = (homes_add_up B homes homes' same weight).1 in
      let q = (seats_add_up run run' apart (weighed weight)).1 in
      let a = one.used weight in
      let b = two.used weight in
      omega (arith, sum_by-append (weighed weight) strange stranger);
}

pub joined_job_account : (B : Type 0) → JoinedJobAccount B
joined_job_account B kept strange more homes homes' run entry same one two = record {
  made = λ weight.
      let h = (homes_add_up B homes homes' same weight).0 in
      let q = (ends_add_up run entry (weighed weight)).0 in
      let a = one.made weight in
      let b = two.made weight in
      omega (arith, sum_by-append (weighed weight) kept more);
  used = λ weight.
      let h = (homes_add_up B homes homes' same weight).1 in
      let q = (ends_add_up run entry (weighed weight)).1 in
      let a = one.used weight in
      let b = two.used weight in
      let none : taken_weight (weighed weight) entry.hand ≡ 0 = ap (sum_by (weighed weight)) two.taken in
      omega arith;
}

pub each_once : (B : Type 0) → EachTicketOnce B
each_once B kept strange left homes run account is_left weight =
    let a = account.made weight in
    let b = account.used weight in
    let l = is_left (weighed weight) in
    omega arith

-- what new ends of deques weigh
no_ends : (f : QueueHand → ℕ) → ((parts : ℕ) → f (hand parts [] []) ≡ 0) → (most : ℕ) (ids : List RowsId) → sum_by (λ k. sum_by f (hands_of k)) (map (guest_end most) ids) ≡ 0
no_ends f none most [] = refl
no_ends f none most (id ∷ ids) =
    let F : DequeKnown → ℕ = λ k. sum_by f (hands_of k) in
    let one : f (hand 1 [] []) ≡ 0 = none 1 in
    let here : F (guest_end most id) ≡ f (hand 1 [] []) + sum_by f [] = sum_by-cons f (hand 1 [] []) [] in
    let rest : sum_by F (map (guest_end most) ids) ≡ 0 = no_ends f none most ids in
    omega (arith, sum_by-cons F (guest_end most id) (map (guest_end most) ids))

no_row : (f : QueueHand → ℕ) → ((parts : ℕ) → f (hand parts [] []) ≡ 0) → (parts n most : ℕ) (ids : List RowsId)
    → sum_by (λ k. sum_by f (hands_of k)) (changed_at (with_own (hand parts [] [])) n (map (guest_end most) ids)) ≡ 0
no_row f none parts n most [] = refl
no_row f none parts zero most (id ∷ ids) =
    let F : DequeKnown → ℕ = λ k. sum_by f (hands_of k) in
    let own : f (hand parts [] []) ≡ 0 = none parts in
    let one : f (hand 1 [] []) ≡ 0 = none 1 in
    let here : F (with_own (hand parts [] []) (guest_end most id)) ≡ f (hand parts [] []) + sum_by f (hand 1 [] [] ∷ []) = sum_by-cons f (hand parts [] []) (hand 1 [] [] ∷ []) in
    let guest : sum_by f (hand 1 [] [] ∷ []) ≡ f (hand 1 [] []) + sum_by f [] = sum_by-cons f (hand 1 [] []) [] in
    let rest : sum_by F (map (guest_end most) ids) ≡ 0 = no_ends f none most ids in
    omega (arith, sum_by-cons F (with_own (hand parts [] []) (guest_end most id)) (map (guest_end most) ids))
no_row f none parts (suc n) most (id ∷ ids) =
    let F : DequeKnown → ℕ = λ k. sum_by f (hands_of k) in
    let one : f (hand 1 [] []) ≡ 0 = none 1 in
    let here : F (guest_end most id) ≡ f (hand 1 [] []) + sum_by f [] = sum_by-cons f (hand 1 [] []) [] in
    let rest : sum_by F (changed_at (with_own (hand parts [] [])) n (map (guest_end most) ids)) ≡ 0 = no_row f none parts n most ids in
    omega (arith, sum_by-cons F (guest_end most id) (changed_at (with_own (hand parts [] [])) n (map (guest_end most) ids)))

-- a seat that was just made, whatever parts of the injector it has
pub unused_seat : (ids : List RowsId) (injector : WebId) (number entry : ℕ) (s : RunKnown) → number < length ids → s ≡ fresh_seat ids injector number entry → IsQueueSeat s × IsUnused s
unused_seat ids injector number entry s within is =
    let parts = all_parts - length ids in
    let row = changed_at (with_own (hand parts [] [])) number (map (guest_end (length ids)) ids) in
    subst (λ (r : RunKnown). IsQueueSeat r × IsUnused r) (sym is) (
      fresh_row (length ids) number (hand parts [] []) ids row refl refl within,
      λ weight. (
        (let d = no_row (put_weight weight) (λ p. refl) parts number (length ids) ids in omega arith),
        (let d = no_row (taken_weight weight) (λ p. refl) parts number (length ids) ids in omega arith),
      ),
    )

pub new_seat_is_unused : NewSeatIsUnused
new_seat_is_unused schedulers entries seats ends are n s here =
    unused_seat are.deques are.injector n (entry_parts schedulers entries n) s
    (let lt = slice_get_within seats n s here in let a = are.deques_count in let b = are.seats_count in omega arith) (are.each n s here)

pub no_tickets : {B : Type 0} (homes : List (HomeKnown B)) → All HasNoTickets homes → (weight : ℕ → ℕ → ℕ) → (made_of weight homes ≡ 0) × (used_of weight homes ≡ 0)
no_tickets [] all weight = (refl, refl)
no_tickets (s ∷ ss) all weight =
    let is = All-head HasNoTickets s ss all in
    let rest = no_tickets ss (All-tail HasNoTickets s ss all) weight in
    let made : sum_by (weight s.port) s.known.made ≡ 0 = ap (sum_by (weight s.port)) is.0 in
    let claimed : sum_by (weight s.port) s.known.claimed ≡ 0 = ap (sum_by (weight s.port)) is.1 in
    let stale : sum_by (weight s.port) s.known.stale ≡ 0 = ap (sum_by (weight s.port)) is.2 in (
      (let r = rest.0 in omega (arith, sum_by-cons (λ u. made_at (weight u.port) u) s ss)),
      (let r = rest.1 in omega (arith, sum_by-cons (λ u. used_at (weight u.port) u) s ss)),
    )

pub new_account : (B : Type 0) → NewAccount B
new_account B homes run none unused = record {
  made = λ weight. let h = no_tickets homes none weight in let m = h.0 in let u = unused (weighed weight) in let p = u.0 in omega arith;
  used = λ weight. let h = no_tickets homes none weight in let m = h.1 in let u = unused (weighed weight) in let p = u.1 in omega arith;
}

-- What seats of one run have together, in the midst of being joined.
use Rattle.std.proofs.Common.{◌≡◌, ◌≢◌, ◌⊎◌, ℕ, zero, suc, ◌+◌, ◌-◌, ◌<◌, ◌≤◌, Bool, true, false, true≢false, List, [], ◌∷◌, Option, Some, None, map, length, slice_get, sym, refl, ap, ◌∙◌, subst, arith, inl, inr}
use Rattle.std.specs.Prelude.{is_some}
use Rattle.std.specs.List.{All}
use Rattle.std.proofs.lemmas.List.Sums.{sum_by-cons}
use Rattle.std.proofs.lemmas.Option.{same_Some, none-some, slice_get_within}
use mathlib.Core.Logic.{dite}
use native.Mathlib.Decide.{ℕ_discrete}
use Rattle.std.specs.declared.snapshot.Snapshot.{Snapshot}
use Rattle.atomic_blocks.specs.Laid.{WebId}
use Rattle.atomic_blocks.specs.Lent.{RowsId}
use Rattle.atomic_table.specs.Seated.{TableId}
use Rattle.port_words.specs.home.Home.{IsNamed}
use Rattle.port_words.specs.home.Seats.{HomeKnown}
use Rattle.run_queue.specs.declared.account.QueueHand.{QueueHand}
use Rattle.run_queue.specs.Account.{hand, all_parts, parts_of}
use Rattle.run_queue.specs.Seats.{DequeKnown, RunKnown, the_own, joined_deque, joined_deques, joined_seat, changed_at, with_own, guest_end, fresh_seat, HasAll, AreOfOneQueue}
use Rattle.run_queue.proofs.SeatLemmas.{all_from_get}
use Rattle.port_sched.specs.Homes.{AreHomes, HomesStep}
use Rattle.port_sched.specs.Closing.{joined_home, joined_homes, CanJoinHomes, IsWhole}
use Rattle.port_sched.specs.Tickets.{has_owner, parts_in, IsSameSeat}
use Rattle.ticket_account.specs.Account.{AreOfSamePorts, OwnersApart}
use Rattle.ticket_account.specs.Run.{IsHomeOf, AreHomesOf, AreDealt, KeepNames}
use Rattle.ticket_account.proofs.Sums.{own_add}

module _ {A C : Type 0} where
  get_map : (f : A → C) (xs : List A) (n : ℕ) (x : A) → slice_get xs n ≡ Some x → slice_get (map f xs) n ≡ Some (f x)
  get_map f [] n x e = absurd (none-some x e)
  get_map f (y ∷ ys) zero x e = ap (λ z. Some (f z)) (same_Some y x e)
  get_map f (y ∷ ys) (suc n) x e = get_map f ys n x e

  pub map_length : (f : A → C) (xs : List A) → length (map f xs) ≡ length xs
  map_length f [] = refl
  map_length f (x ∷ xs) = ap suc (map_length f xs)

  -- where two lists map to one, so does what stands at a place
  pub map_same : (f : A → C) (xs ys : List A) (n : ℕ) (x y : A) → map f xs ≡ map f ys → slice_get xs n ≡ Some x → slice_get ys n ≡ Some y → f x ≡ f y
  map_same f xs ys n x y same here there = same_Some (f x) (f y) (sym (get_map f xs n x here) ∙ ap (λ l. slice_get l n) same ∙ get_map f ys n y there)

module _ {A : Type 0} where
  pub found_at : (xs : List A) (n : ℕ) → n < length xs → (x : A) × (slice_get xs n ≡ Some x)
  found_at [] n lt = absurd (omega arith)
  found_at (x ∷ xs) zero lt = (x, refl)
  found_at (x ∷ xs) (suc n) lt = found_at xs n (omega arith)

-- one seat of the queues: it is the owner of the deque of its number, with so many parts more than of each other deque
pub record QueueOne (ids : List RowsId) (injector : WebId) (number rest : ℕ) (s : RunKnown) : Type 0 where
  pub ids_are : map (λ k. k.deque) s.deques ≡ ids
  pub injector_is : s.entry.injector ≡ injector
  pub seats_are : s.seats ≡ 1
  pub mine : (m : ℕ) (k : DequeKnown) → slice_get s.deques m ≡ Some k → m ≡ number → (has_owner k ≡ true) × (parts_in k ≡ 1 + rest)
  pub other : (m : ℕ) (k : DequeKnown) → slice_get s.deques m ≡ Some k → m ≢ number → (has_owner k ≡ false) × (parts_in k ≡ 1)

-- all seats from a number on, joined
pub record QueueFrom (ids : List RowsId) (injector : WebId) (number count rest : ℕ) (s : RunKnown) : Type 0 where
  pub ids_are : map (λ k. k.deque) s.deques ≡ ids
  pub injector_is : s.entry.injector ≡ injector
  pub seats_are : s.seats ≡ count
  pub below : (m : ℕ) (k : DequeKnown) → slice_get s.deques m ≡ Some k → m < number → (has_owner k ≡ false) × (parts_in k ≡ count)
  pub above : (m : ℕ) (k : DequeKnown) → slice_get s.deques m ≡ Some k → number ≤ m → (has_owner k ≡ true) × (parts_in k ≡ count + rest)

fresh_ids : (v : QueueHand) (most number : ℕ) (ids : List RowsId) → map (λ (k : DequeKnown). k.deque) (changed_at (with_own v) number (map (guest_end most) ids)) ≡ ids
fresh_ids v most number [] = refl
fresh_ids v most zero (x ∷ xs) = ap (λ l. x ∷ l) (plain xs)
  where
    plain : (ids : List RowsId) → map (λ (k : DequeKnown). k.deque) (map (guest_end most) ids) ≡ ids
    plain [] = refl
    plain (x ∷ xs) = ap (λ l. x ∷ l) (plain xs)
fresh_ids v most (suc n) (x ∷ xs) = ap (λ l. x ∷ l) (fresh_ids v most n xs)

Owns : ℕ → DequeKnown → Type 0
Owns parts k = (has_owner k ≡ true) × (parts_in k ≡ parts)

Visits : ℕ → DequeKnown → Type 0
Visits parts k = (has_owner k ≡ false) × (parts_in k ≡ parts)

fresh_owner : (v : QueueHand) (most : ℕ) (id : RowsId) → (has_owner (with_own v (guest_end most id)) ≡ true) × (parts_in (with_own v (guest_end most id)) ≡ 1 + v.parts)
fresh_owner v most id = (refl, omega (arith, sum_by-cons parts_of v (hand 1 [] [] ∷ []), sum_by-cons parts_of (hand 1 [] []) []))

fresh_guest : (most : ℕ) (id : RowsId) → (has_owner (guest_end most id) ≡ false) × (parts_in (guest_end most id) ≡ 1)
fresh_guest most id = (refl, omega (arith, sum_by-cons parts_of (hand 1 [] []) []))

fresh_mine : (v : QueueHand) (most m number : ℕ) (ids : List RowsId) (k : DequeKnown) → slice_get (changed_at (with_own v) number (map (guest_end most) ids)) m ≡ Some k → m ≡ number
    → (has_owner k ≡ true) × (parts_in k ≡ 1 + v.parts)
fresh_mine v most m number [] k e same = absurd (none-some k e)
fresh_mine v most zero zero (x ∷ xs) k e same = subst (λ (d : DequeKnown). (has_owner d ≡ true) × (parts_in d ≡ 1 + v.parts)) (same_Some (with_own v (guest_end most x)) k e) (fresh_owner v most x)
fresh_mine v most zero (suc n) (x ∷ xs) k e same = absurd (omega arith)
fresh_mine v most (suc m) zero (x ∷ xs) k e same = absurd (omega arith)
fresh_mine v most (suc m) (suc n) (x ∷ xs) k e same = fresh_mine v most m n xs k e (omega arith)

fresh_plain : (most m : ℕ) (ids : List RowsId) (k : DequeKnown) → slice_get (map (guest_end most) ids) m ≡ Some k → (has_owner k ≡ false) × (parts_in k ≡ 1)
fresh_plain most m [] k e = absurd (none-some k e)
fresh_plain most zero (x ∷ xs) k e = subst (λ (d : DequeKnown). (has_owner d ≡ false) × (parts_in d ≡ 1)) (same_Some (guest_end most x) k e) (fresh_guest most x)
fresh_plain most (suc m) (x ∷ xs) k e = fresh_plain most m xs k e

fresh_other : (v : QueueHand) (most m number : ℕ) (ids : List RowsId) (k : DequeKnown) → slice_get (changed_at (with_own v) number (map (guest_end most) ids)) m ≡ Some k → m ≢ number
    → (has_owner k ≡ false) × (parts_in k ≡ 1)
fresh_other v most m number [] k e differ = absurd (none-some k e)
fresh_other v most zero zero (x ∷ xs) k e differ = absurd (differ refl)
fresh_other v most (suc m) zero (x ∷ xs) k e differ = fresh_plain most m xs k e
fresh_other v most zero (suc n) (x ∷ xs) k e differ = subst (λ (d : DequeKnown). (has_owner d ≡ false) × (parts_in d ≡ 1)) (same_Some (guest_end most x) k e) (fresh_guest most x)
fresh_other v most (suc m) (suc n) (x ∷ xs) k e differ = fresh_other v most m n xs k e (λ same. differ (ap suc same))

-- a seat that was just made
pub one_of_fresh : (ids : List RowsId) (injector : WebId) (number parts : ℕ) (s : RunKnown) → s ≡ fresh_seat ids injector number parts → QueueOne ids injector number (all_parts - length ids) s
one_of_fresh ids injector number parts s is = subst (QueueOne ids injector number (all_parts - length ids)) (sym is) (record {
  ids_are = fresh_ids (hand (all_parts - length ids) [] []) (length ids) number ids;
  injector_is = refl;
  seats_are = refl;
  mine = λ m k e same. fresh_mine (hand (all_parts - length ids) [] []) (length ids) m number ids k e same;
  other = λ m k e differ. fresh_other (hand (all_parts - length ids) [] []) (length ids) m number ids k e differ;
})

-- after it has run
pub one_after : (ids : List RowsId) (injector : WebId) (number rest : ℕ) (old new : RunKnown) → QueueOne ids injector number rest old → IsSameSeat old new → QueueOne ids injector number rest new
one_after ids injector number rest old new one same =
    let size : length new.deques ≡ length old.deques = sym (map_length (λ (k : DequeKnown). k.deque) new.deques) ∙ ap length same.deques ∙ map_length (λ (k : DequeKnown). k.deque) old.deques in
    let was = λ (m : ℕ) (k : DequeKnown) (e : slice_get new.deques m ≡ Some k). found_at old.deques m (let w = slice_get_within new.deques m k e in omega arith) in
    record {
      ids_are = same.deques ∙ one.ids_are;
      injector_is = same.injector ∙ one.injector_is;
      seats_are = same.seats ∙ one.seats_are;
      mine = λ m k e is.
          let w = was m k e in
          let h = one.mine m w.0 w.1 is in
          (map_same has_owner new.deques old.deques m k w.0 same.owners e w.1 ∙ h.0, map_same parts_in new.deques old.deques m k w.0 same.parts e w.1 ∙ h.1);
      other = λ m k e differ.
          let w = was m k e in
          let h = one.other m w.0 w.1 differ in
          (map_same has_owner new.deques old.deques m k w.0 same.owners e w.1 ∙ h.0, map_same parts_in new.deques old.deques m k w.0 same.parts e w.1 ∙ h.1);
    }

ids_length : (ids : List RowsId) (s : RunKnown) → map (λ (k : DequeKnown). k.deque) s.deques ≡ ids → length s.deques ≡ length ids
ids_length ids s are = sym (map_length (λ (k : DequeKnown). k.deque) s.deques) ∙ ap length are

-- the last seat
pub from_last : (ids : List RowsId) (injector : WebId) (number rest : ℕ) (s : RunKnown) → QueueOne ids injector number rest s → number + 1 ≡ length ids → QueueFrom ids injector number 1 rest s
from_last ids injector number rest s one last = record {
  ids_are = one.ids_are;
  injector_is = one.injector_is;
  seats_are = one.seats_are;
  below = λ m k e lt. one.other m k e (λ same. absurd (omega arith));
  above = λ m k e le. one.mine m k e (let w = slice_get_within s.deques m k e in let l = ids_length ids s one.ids_are in omega arith);
}

own_has : (a b : Option QueueHand) → is_some a ≡ false → is_some (the_own a b) ≡ is_some b
own_has None b away = refl
own_has (Some x) b away = absurd (true≢false away)

own_stays : (a b : Option QueueHand) → is_some a ≡ true → is_some (the_own a b) ≡ true
own_stays None b there = absurd (true≢false (sym there))
own_stays (Some x) b there = refl

pub is_none : (a : Option QueueHand) → is_some a ≡ false → a ≡ None
is_none None away = refl
is_none (Some x) away = absurd (true≢false away)

joined_ids : (vs ws : List DequeKnown) → map (λ (k : DequeKnown). k.deque) (joined_deques vs ws) ≡ map (λ (k : DequeKnown). k.deque) vs
joined_ids [] ws = refl
joined_ids (v ∷ vs) [] = refl
joined_ids (v ∷ vs) (w ∷ ws) = ap (λ l. v.deque ∷ l) (joined_ids vs ws)

joined_at : (vs ws : List DequeKnown) (m : ℕ) (k : DequeKnown) → length ws ≡ length vs → slice_get (joined_deques vs ws) m ≡ Some k
    → (v : DequeKnown) × (w : DequeKnown) × (slice_get vs m ≡ Some v) × (slice_get ws m ≡ Some w) × (joined_deque v w ≡ k)
joined_at [] ws m k same e = absurd (none-some k e)
joined_at (v ∷ vs) [] m k same e = absurd (omega arith)
joined_at (v ∷ vs) (w ∷ ws) zero k same e = (v, w, refl, refl, same_Some (joined_deque v w) k e)
joined_at (v ∷ vs) (w ∷ ws) (suc m) k same e = joined_at vs ws m k (omega arith) e

-- two ends of a deque of which one at most is its owner's have together the parts of both
both_parts : (v w : DequeKnown) → (v.own ≡ None) ⊎ (w.own ≡ None) → parts_in (joined_deque v w) ≡ parts_in v + parts_in w
both_parts v w apart = own_add parts_of v.own w.own v.guests w.guests apart

-- a guest's ends and any other's
guest_first : (v w k : DequeKnown) (a b : ℕ) (owns : Bool) → joined_deque v w ≡ k → (has_owner v ≡ false) × (parts_in v ≡ a) → (has_owner w ≡ owns) × (parts_in w ≡ b)
    → (has_owner k ≡ owns) × (parts_in k ≡ a + b)
guest_first v w k a b owns is one two = subst (λ (d : DequeKnown). (has_owner d ≡ owns) × (parts_in d ≡ a + b)) is (
  own_has v.own w.own one.0 ∙ two.0,
  (let p = both_parts v w (inl (is_none v.own one.0)) in let x = one.1 in let y = two.1 in omega arith),
)

guest_second : (v w k : DequeKnown) (a b : ℕ) → joined_deque v w ≡ k → (has_owner v ≡ true) × (parts_in v ≡ a) → (has_owner w ≡ false) × (parts_in w ≡ b)
    → (has_owner k ≡ true) × (parts_in k ≡ a + b)
guest_second v w k a b is one two = subst (λ (d : DequeKnown). (has_owner d ≡ true) × (parts_in d ≡ a + b)) is (
  own_stays v.own w.own one.0,
  (let p = both_parts v w (inr (is_none w.own two.0)) in let x = one.1 in let y = two.1 in omega arith),
)

resized : (b : Bool) (k : DequeKnown) (m n : ℕ) → m ≡ n → (has_owner k ≡ b) × (parts_in k ≡ m) → (has_owner k ≡ b) × (parts_in k ≡ n)
resized b k m n same h = (h.0, h.1 ∙ same)

-- one seat more
pub from_more : (ids : List RowsId) (injector : WebId) (number count rest : ℕ) (v w : RunKnown) → QueueFrom ids injector (number + 1) count rest v → QueueOne ids injector number rest w
    → QueueFrom ids injector number (count + 1) rest (joined_seat v w)
from_more ids injector number count rest v w all one =
    let size : length w.deques ≡ length v.deques = ids_length ids w one.ids_are ∙ sym (ids_length ids v all.ids_are) in
    record {
      ids_are = joined_ids v.deques w.deques ∙ all.ids_are;
      injector_is = all.injector_is;
      seats_are = (let a = all.seats_are in let b = one.seats_are in omega arith);
      below = λ m k e lt.
          let at = joined_at v.deques w.deques m k size e in
          guest_first at.0 at.1 k count 1 false at.4 (all.below m at.0 at.2 (omega arith)) (one.other m at.1 at.3 (λ same. absurd (omega arith)));
      above = λ m k e le.
          let at = joined_at v.deques w.deques m k size e in
          dite (ℕ_discrete m number)
          (λ same. resized true k (count + (1 + rest)) (count + 1 + rest) (omega arith)
          (guest_first at.0 at.1 k count (1 + rest) true at.4 (all.below m at.0 at.2 (omega arith)) (one.mine m at.1 at.3 same)))
          (λ differ. resized true k (count + rest + 1) (count + 1 + rest) (omega arith)
          (guest_second at.0 at.1 k (count + rest) 1 at.4 (all.above m at.0 at.2 (omega arith)) (one.other m at.1 at.3 differ)));
    }

-- they can be joined, and no deque has its owner in both
pub of_one_queue : (ids : List RowsId) (injector : WebId) (number count rest : ℕ) (v w : RunKnown) → QueueFrom ids injector (number + 1) count rest v → QueueOne ids injector number rest w
    → count + 1 ≤ length ids → AreOfOneQueue v w
of_one_queue ids injector number count rest v w all one few = record {
  deques = all.ids_are ∙ sym one.ids_are;
  injector = all.injector_is ∙ sym one.injector_is;
  apart = (let a = all.seats_are in let b = one.seats_are in let l = ids_length ids v all.ids_are in omega arith);
}

pub owners_apart : (ids : List RowsId) (injector : WebId) (number count rest : ℕ) (v w : RunKnown) → QueueFrom ids injector (number + 1) count rest v → QueueOne ids injector number rest w
    → OwnersApart v w
owners_apart ids injector number count rest v w all one = (
  ids_length ids w one.ids_are ∙ sym (ids_length ids v all.ids_are),
  λ m k l here there. dite (ℕ_discrete m number)
      (λ same. inl (is_none k.own (all.below m k here (omega arith)).0))
      (λ differ. inr (is_none l.own (one.other m l there differ).0)),
)

-- all seats have every part of each deque, and its owner
pub has_all : (ids : List RowsId) (injector : WebId) (count rest : ℕ) (s : RunKnown) → QueueFrom ids injector 0 count rest s → count + rest ≡ all_parts → All HasAll s.deques
has_all ids injector count rest s all whole = all_from_get HasAll s.deques (λ m k e.
    let h = all.above m k e (omega arith) in
    record { owner = h.0; parts = h.1 ∙ whole })

module _ {B : Type 0} where
  -- a seat of the home of this port that rests, with so many of its shares
  pub record IsHeld (homes : List TableId) (bodies : List B) (seats shares port : ℕ) (s : HomeKnown B) : Type 0 where
    pub home : slice_get homes port ≡ Some s.home
    pub home_of : IsHomeOf bodies port s
    pub port_is : s.port ≡ port
    pub rests : s.known.running ≡ None
    pub shares_are : s.known.shares ≡ shares
    pub seats_are : s.known.seats ≡ seats

  abbrev pub AreHeld : List TableId → List B → ℕ → ℕ → List (HomeKnown B) → Type 0
  AreHeld homes bodies seats shares mine = (length mine ≡ length homes) × ((port : ℕ) (s : HomeKnown B) → slice_get mine port ≡ Some s → IsHeld homes bodies seats shares port s)

  -- the seats that were dealt, after the run
  pub held_after : (homes : List TableId) (bodies : List B) (seats : ℕ) (old new : List (HomeKnown B)) → AreDealt homes bodies seats old → HomesStep old new → AreHomes new → AreHeld homes bodies seats 1 new
  held_after homes bodies seats old new dealt steps rest = (
    steps.count ∙ dealt.0,
    λ port s e.
        let was = found_at old port (let w = slice_get_within new port s e in let c = steps.count in omega arith) in
        let same = steps.same port was.0 s was.1 e in
        let d = dealt.1 port was.0 was.1 in
        record {
          home = d.home ∙ ap Some (sym same.home);
          home_of = record { first = d.home_of.first; fixed = same.body ∙ d.home_of.fixed; made_with = d.home_of.made_with };
          port_is = (rest port s e).0;
          rests = (rest port s e).1;
          shares_are = same.shares ∙ d.share;
          seats_are = same.seats ∙ d.seats_are;
        },
  )

  homes_at : (vs ws : List (HomeKnown B)) (m : ℕ) (k : HomeKnown B) → length ws ≡ length vs → slice_get (joined_homes vs ws) m ≡ Some k
      → (v : HomeKnown B) × (w : HomeKnown B) × (slice_get vs m ≡ Some v) × (slice_get ws m ≡ Some w) × (joined_home v w ≡ k)
  homes_at [] ws m k same e = absurd (none-some k e)
  homes_at (v ∷ vs) [] m k same e = absurd (omega arith)
  homes_at (v ∷ vs) (w ∷ ws) zero k same e = (v, w, refl, refl, same_Some (joined_home v w) k e)
  homes_at (v ∷ vs) (w ∷ ws) (suc m) k same e = homes_at vs ws m k (omega arith) e

  homes_size : (vs ws : List (HomeKnown B)) → length (joined_homes vs ws) ≡ length vs
  homes_size [] ws = refl
  homes_size (v ∷ vs) [] = refl
  homes_size (v ∷ vs) (w ∷ ws) = ap suc (homes_size vs ws)

  pub held_both : (homes : List TableId) (bodies : List B) (seats a b : ℕ) (vs ws : List (HomeKnown B)) → AreHeld homes bodies seats a vs → AreHeld homes bodies seats b ws
      → AreHeld homes bodies seats (a + b) (joined_homes vs ws)
  held_both homes bodies seats a b vs ws one two = (
    homes_size vs ws ∙ one.0,
    λ m k e.
        let at = homes_at vs ws m k (two.0 ∙ sym one.0) e in
        let v = one.1 m at.0 at.2 in
        let w = two.1 m at.1 at.3 in
        subst (IsHeld homes bodies seats (a + b) m) at.4 (record {
          home = v.home;
          home_of = record { first = v.home_of.first; fixed = v.home_of.fixed; made_with = v.home_of.made_with };
          port_is = v.port_is;
          rests = v.rests;
          shares_are = (let x = v.shares_are in let y = w.shares_are in omega arith);
          seats_are = v.seats_are;
        }),
  )

  pub can_join_homes : (homes : List TableId) (bodies : List B) (seats a b : ℕ) (vs ws : List (HomeKnown B)) → AreHeld homes bodies seats a vs → AreHeld homes bodies seats b ws → CanJoinHomes vs ws
  can_join_homes homes bodies seats a b vs ws one two = (
    two.0 ∙ sym one.0,
    λ n v w here there. (same_Some w.home v.home (sym (two.1 n w there).home ∙ (one.1 n v here).home), (two.1 n w there).rests),
  )

  pub same_ports : (homes : List TableId) (bodies : List B) (seats a b : ℕ) (vs ws : List (HomeKnown B)) → AreHeld homes bodies seats a vs → AreHeld homes bodies seats b ws → AreOfSamePorts vs ws
  same_ports homes bodies seats a b vs ws one two = (
    two.0 ∙ sym one.0,
    λ n v w here there. (two.1 n w there).port_is ∙ sym (one.1 n v here).port_is,
  )

  pub held_whole : (homes : List TableId) (bodies : List B) (seats : ℕ) (mine : List (HomeKnown B)) → AreHeld homes bodies seats seats mine → All IsWhole mine
  held_whole homes bodies seats mine held = all_from_get IsWhole mine (λ n s e.
      let h = held.1 n s e in
      (h.shares_are ∙ sym h.seats_are, h.rests))

  pub homes_of : (homes : List TableId) (bodies : List B) (seats shares : ℕ) (mine : List (HomeKnown B)) → length homes ≡ length bodies → AreHeld homes bodies seats shares mine → AreHomesOf bodies mine
  homes_of homes bodies seats shares mine many held = (held.0 ∙ many, λ port s e. (held.1 port s e).home_of)

  -- the bodies that come out have the names of those that went in
  pub keep_names : {N : Type 0} (name : B → N) → KeepNames name
  keep_names name [] [] [] are last = refl
  keep_names name [] (x ∷ xs) [] are last = absurd last
  keep_names name (b ∷ bs) [] [] are last = absurd (let l = are.0 in omega arith)
  keep_names name (b ∷ bs) (x ∷ xs) [] are last = absurd last
  keep_names name [] last (h ∷ hs) are is_last = absurd (let l = are.0 in omega arith)
  keep_names name (b ∷ bs) [] (h ∷ hs) are last = absurd last
  keep_names name (b ∷ bs) (x ∷ xs) (h ∷ hs) are last =
      let of = are.1 0 h refl in
      let here : name x ≡ name of.first.value = subst (λ (o : Option (Snapshot B)). IsNamed name o x) of.fixed last.0.0 in
      let same : of.first.value ≡ b = same_Some of.first.value b (sym of.made_with) in
      let rest = keep_names name bs xs hs (
        (let l = are.0 in omega arith),
        λ p s e. (let o = are.1 (suc p) s e in record { first = o.first; fixed = o.fixed; made_with = o.made_with }),
      ) last.1 in
      (λ i. (here ∙ ap name same) i ∷ rest i)

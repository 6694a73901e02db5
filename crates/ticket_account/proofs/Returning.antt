-- The bodies of homes of which no turn began come out as they went in.
use Rattle.std.proofs.Common.{◌≡◌, ℕ, suc, ◌+◌, ◌-◌, ◌<◌, List, [], ◌∷◌, ◌++◌, Option, Some, map, length, slice_get, sym, refl, ap, ◌∙◌, subst, arith}
use Rattle.std.specs.List.{All}
use Rattle.std.specs.declared.snapshot.Snapshot.{Snapshot}
use Rattle.std.proofs.lemmas.List.Elements.{All-nil, All-cons, All-head, All-tail}
use Rattle.std.proofs.lemmas.Option.{same_Some}
use Rattle.atomic_table.specs.Seated.{TableId}
use Rattle.port_words.specs.home.Home.{HasBegunNone, IsFirst}
use Rattle.port_words.specs.home.Seats.{HomeKnown}
use Rattle.run_queue.proofs.SeatLemmas.{all_from_get, all_to_get}
use Rattle.port_sched.specs.declared.body.PortBody.{Ghosts}
use Rattle.port_sched.specs.declared.lodger.Lodger.{Lodger}
use Rattle.port_sched.specs.Closing.{joined_home, joined_homes, CanJoinHomes, IsWhole}
use Rattle.ticket_account.specs.Run.{IsHomeOf, AreDealt}
use Rattle.ticket_account.specs.Opening.{AreAlike}
use Rattle.ticket_account.proofs.Seats.{AreHeld, held_both, can_join_homes}

both_empty : {A : Type 0} (xs ys : List A) → xs ≡ [] → ys ≡ [] → xs ++ ys ≡ []
both_empty xs ys e f = ap (λ l. l ++ ys) e ∙ f

module _ {B : Type 0} where
  abbrev pub Unbegun : HomeKnown B → Type 0
  Unbegun s = HasBegunNone s.known

  -- what was dealt is held
  pub held_fresh : (homes : List TableId) (bodies : List B) (seats : ℕ) (mine : List (HomeKnown B)) → AreDealt homes bodies seats mine → AreHeld homes bodies seats 1 mine
  held_fresh homes bodies seats mine dealt = (
    dealt.0,
    λ port s e.
        let d = dealt.1 port s e in
        record { home = d.home; home_of = d.home_of; port_is = d.port_is; rests = d.rests; shares_are = d.share; seats_are = d.seats_are },
  )

  unbegun_both : (vs ws : List (HomeKnown B)) → All Unbegun vs → All Unbegun ws → All Unbegun (joined_homes vs ws)
  unbegun_both [] ws one two = All-nil Unbegun
  unbegun_both (v ∷ vs) [] one two = one
  unbegun_both (v ∷ vs) (w ∷ ws) one two =
      let x = All-head Unbegun v vs one in
      let y = All-head Unbegun w ws two in
      All-cons Unbegun (joined_home v w) (joined_homes vs ws) (record {
        claimed = both_empty v.known.claimed w.known.claimed x.claimed y.claimed;
        idle = both_empty v.known.idle w.known.idle x.idle y.idle;
        withdrawn = both_empty v.known.withdrawn w.known.withdrawn x.withdrawn y.withdrawn;
      }) (unbegun_both vs ws (All-tail Unbegun v vs one) (All-tail Unbegun w ws two))

  -- these rows aren't joined yet, and the others are one
  pub record Unjoined (bodies : List B) (seats : ℕ) (rows : List (List (HomeKnown B))) (all : List (HomeKnown B)) : Type 0 where
    pub homes : List TableId
    pub many : length homes ≡ length bodies
    pub row : List (HomeKnown B)
    pub dealt : AreDealt homes bodies seats row
    pub rest : All (λ r. r ≡ row) rows
    pub held : AreHeld homes bodies seats (seats - length rows) all
    pub unbegun : All Unbegun all

  row_unbegun : (homes : List TableId) (bodies : List B) (seats : ℕ) (row : List (HomeKnown B)) → AreDealt homes bodies seats row → All Unbegun row
  row_unbegun homes bodies seats row dealt = all_from_get Unbegun row (λ n s e. (dealt.1 n s e).begun_none)

  pub unjoined_last : (bodies : List B) (seats : ℕ) (old rows : List (List (HomeKnown B))) (all : List (HomeKnown B)) (alike : AreAlike seats bodies old) → All (λ r. r ≡ alike.row) rows → all ≡ alike.row
      → length rows + 1 ≡ seats → Unjoined bodies seats rows all
  unjoined_last bodies seats old rows all alike rest is one = record {
    homes = alike.homes;
    many = alike.many;
    row = alike.row;
    dealt = alike.dealt;
    rest = rest;
    held = subst (λ n. AreHeld alike.homes bodies seats n all) (let e : 1 ≡ seats - length rows = omega arith in e)
        (subst (AreHeld alike.homes bodies seats 1) (sym is) (held_fresh alike.homes bodies seats alike.row alike.dealt));
    unbegun = subst (All Unbegun) (sym is) (row_unbegun alike.homes bodies seats alike.row alike.dealt);
  }

  pub can_join_next : (bodies : List B) (seats : ℕ) (rows : List (List (HomeKnown B))) (all others : List (HomeKnown B)) (un : Unjoined bodies seats rows all) → others ≡ un.row → CanJoinHomes all others
  can_join_next bodies seats rows all others un is =
      subst (CanJoinHomes all) (sym is) (can_join_homes un.homes bodies seats (seats - length rows) 1 all un.row un.held (held_fresh un.homes bodies seats un.row un.dealt))

  pub unjoined_more : (bodies : List B) (seats : ℕ) (old rows : List (List (HomeKnown B))) (all others new : List (HomeKnown B)) (un : Unjoined bodies seats old all) → All (λ r. r ≡ un.row) rows → others ≡ un.row
      → length old ≡ length rows + 1 → length old < seats → new ≡ joined_homes all others → Unjoined bodies seats rows new
  unjoined_more bodies seats old rows all others new un rest is one few joined =
      let now : new ≡ joined_homes all un.row = joined ∙ ap (joined_homes all) is in
      record {
        homes = un.homes;
        many = un.many;
        row = un.row;
        dealt = un.dealt;
        rest = rest;
        held = subst (λ n. AreHeld un.homes bodies seats n new) (let e : seats - length old + 1 ≡ seats - length rows = omega arith in e)
            (subst (AreHeld un.homes bodies seats (seats - length old + 1)) (sym now)
            (held_both un.homes bodies seats (seats - length old) 1 all un.row un.held (held_fresh un.homes bodies seats un.row un.dealt)));
        unbegun = subst (All Unbegun) (sym now) (unbegun_both all un.row un.unbegun (row_unbegun un.homes bodies seats un.row un.dealt));
      }

module _ {B : Type 0} {g : Ghosts B} where
  -- this body comes out of the home
  pub record Gives (b : B) (s : HomeKnown (Lodger B g)) : Type 0 where
    pub whole : IsWhole s
    pub unbegun : HasBegunNone s.known
    pub first : Snapshot (Lodger B g)
    pub fixed : s.known.body ≡ Some first
    pub body_is : first.value.body ≡ b

  abbrev pub GiveAll : List B → List (HomeKnown (Lodger B g)) → Type 0
  GiveAll [] [] = Unit {0}
  GiveAll (b ∷ bs) (h ∷ hs) = Gives b h × GiveAll bs hs
  GiveAll bs hs = ⊥

  pub given : (b : B) (s : HomeKnown (Lodger B g)) (x : Lodger B g) → Gives b s → (HasBegunNone s.known → IsFirst s.known.body x) → x.body ≡ b
  given b s x gives last =
      let is = subst (λ (o : Option (Snapshot (Lodger B g))). IsFirst o x) gives.fixed (last gives.unbegun) in
      ap (λ (l : Lodger B g). l.body) is ∙ gives.body_is

  give_all : (lodgers : List (Lodger B g)) (mine : List (HomeKnown (Lodger B g))) → length mine ≡ length lodgers
      → ((n : ℕ) (s : HomeKnown (Lodger B g)) → slice_get mine n ≡ Some s → IsWhole s × HasBegunNone s.known × IsHomeOf lodgers n s) → GiveAll (map (λ l. l.body) lodgers) mine
  give_all [] [] count each = tt
  give_all [] (s ∷ ss) count each = absurd (omega arith)
  give_all (l ∷ ls) [] count each = absurd (omega arith)
  give_all (l ∷ ls) (s ∷ ss) count each =
      let here = each 0 s refl in (
        record { whole = here.0; unbegun = here.1; first = here.2.first; fixed = here.2.fixed; body_is = ap (λ (k : Lodger B g). k.body) (sym (same_Some l here.2.first.value here.2.made_with)) },
        give_all ls ss (omega arith) (λ n t e. (let o = each (suc n) t e in (o.0, o.1, record { first = o.2.first; fixed = o.2.fixed; made_with = o.2.made_with }))),
      )

  pub all_give : (lodgers : List (Lodger B g)) (seats : ℕ) (rows : List (List (HomeKnown (Lodger B g)))) (all : List (HomeKnown (Lodger B g))) → Unjoined lodgers seats rows all → length rows ≡ 0
      → GiveAll (map (λ l. l.body) lodgers) all
  all_give lodgers seats rows all un none = give_all lodgers all (un.held.0 ∙ un.many) (λ n s e.
      let h = un.held.1 n s e in
      let shares : s.known.shares ≡ s.known.seats = (let a = h.shares_are in let b = h.seats_are in omega arith) in
      ((shares, h.rests), all_to_get Unbegun all n s un.unbegun e, h.home_of))

  pub give_size : (bs : List B) (hs : List (HomeKnown (Lodger B g))) → GiveAll bs hs → length hs ≡ length bs
  give_size [] [] all = refl
  give_size [] (h ∷ hs) all = absurd all
  give_size (b ∷ bs) [] all = absurd all
  give_size (b ∷ bs) (h ∷ hs) all = ap suc (give_size bs hs all.1)

  -- the next home gives the next body
  pub give_next : (bs : List B) (h : HomeKnown (Lodger B g)) (hs : List (HomeKnown (Lodger B g))) → GiveAll bs (h ∷ hs) → (b : B) × (rest : List B) × (bs ≡ b ∷ rest) × Gives b h × GiveAll rest hs
  give_next [] h hs all = absurd all
  give_next (b ∷ bs) h hs all = (b, bs, refl, all.0, all.1)

-- What stays of the seats of all homes where one of them makes a step.
use Rattle.std.proofs.Common.{◌≡◌, ℕ, zero, suc, ◌+◌, ◌<◌, List, [], ◌∷◌, Option, Some, None, IfSome, length, set, get_or, slice_get, sym, refl, ap, ◌∙◌, subst, arith}
use Rattle.std.specs.Prelude.{option_to_list}
use Rattle.std.specs.List.{sum_by}
use Rattle.std.proofs.lemmas.List.Sums.{sum_by-cons}
use Rattle.std.proofs.lemmas.List.{length-set}
use Rattle.std.proofs.lemmas.Option.{slice_get_read, slice_get-get_or, same_Some, slice_get_within, none-some}
use mathlib.Core.Logic.{dite}
use native.Mathlib.Decide.{ℕ_discrete}
use Rattle.port_words.specs.declared.home.homes.Ticket.{Ticket}
use Rattle.port_words.specs.home.Seats.{HomeKnown}
use Rattle.run_queue.proofs.SeatLemmas.{get_other, get_written}
use Rattle.port_sched.specs.Homes.{HomeStep, AreHomes, HomesStep, HomesUse, IsSameHome, turns_of, used_at, made_at, weighed}

module _ {B : Type 0} where
  same_home : (s : HomeKnown B) → IsSameHome s s
  same_home s = record { home = refl; body = refl; seats = refl; shares = refl }

  -- nothing changed
  pub steps_none : (homes : List (HomeKnown B)) → HomesStep homes homes
  steps_none homes = record { count = refl; same = λ port s t here there. subst (IsSameHome s) (same_Some s t (sym here ∙ there)) (same_home s) }

  -- one step after another
  pub steps_then : (first second third : List (HomeKnown B)) → HomesStep first second → HomesStep second third → HomesStep first third
  steps_then first second third one two = record {
    count = two.count ∙ one.count;
    same = λ port s t here there.
        let within : port < length second = (let w = slice_get_within first port s here in let e = one.count in omega arith) in
        let between = get_or second port s in
        let middle = slice_get-get_or second port s within in
        let a = one.same port s between here middle in
        let b = two.same port between t middle there in
        record { home = b.home ∙ a.home; body = b.body ∙ a.body; seats = b.seats ∙ a.seats; shares = b.shares ∙ a.shares };
  }

  -- the seat of one port made a step
  pub step_at : (homes : List (HomeKnown B)) (port : ℕ) (x y : HomeKnown B) (used made : List ℕ) → port < length homes → x ≡ get_or homes port x → AreHomes homes → HomeStep used made x y
      → AreHomes (set homes port y) × HomesStep homes (set homes port y)
  step_at homes port x y used made lt at are step =
      let here : slice_get homes port ≡ Some x = slice_get_read homes (length homes) port x refl lt at in (
        (λ p t e. dite (ℕ_discrete p port)
            (λ same. let is = get_written homes port y t (subst (λ m. slice_get (set homes port y) m ≡ Some t) same e) in
            subst (λ (s : HomeKnown B). (s.port ≡ p) × (s.known.running ≡ None)) (sym is) (step.port ∙ (are port x here).0 ∙ sym same, step.rests))
            (λ other. are p t (get_other homes port p y t other e))),
        record {
          count = length-set homes port y;
          same = λ p s t before after. dite (ℕ_discrete p port)
              (λ same.
              let is = get_written homes port y t (subst (λ m. slice_get (set homes port y) m ≡ Some t) same after) in
              let was = same_Some x s (sym here ∙ ap (λ m. slice_get homes m) (sym same) ∙ before) in
              let mine : IsSameHome x y = record { home = step.home; body = step.body; seats = step.seats; shares = step.shares } in
              subst (λ (u : HomeKnown B). IsSameHome s u) (sym is) (subst (λ (u : HomeKnown B). IsSameHome u y) was mine))
              (λ other. subst (IsSameHome s) (same_Some s t (sym before ∙ get_other homes port p y t other after)) (same_home s));
        },
      )

  -- the seat in a place is of its port, and rests
  pub home_at : (homes : List (HomeKnown B)) (port : ℕ) (x : HomeKnown B) → port < length homes → x ≡ get_or homes port x → AreHomes homes → (x.port ≡ port) × (x.known.running ≡ None)
  home_at homes port x lt at are = are port x (slice_get_read homes (length homes) port x refl lt at)

  -- one seat more, in the sum over all
  pub sum_written : (f : HomeKnown B → ℕ) (homes : List (HomeKnown B)) (port : ℕ) (x y : HomeKnown B) (a : ℕ) → slice_get homes port ≡ Some x → f y ≡ f x + a
      → sum_by f (set homes port y) ≡ sum_by f homes + a
  sum_written f [] port x y a e more = absurd (none-some x e)
  sum_written f (z ∷ zs) zero x y a e more =
      let same : f z ≡ f x = ap f (same_Some z x e) in
      omega (arith, sum_by-cons f z zs, sum_by-cons f y zs)
  sum_written f (z ∷ zs) (suc n) x y a e more =
      let inner = sum_written f zs n x y a e more in
      omega (arith, sum_by-cons f z zs, sum_by-cons f z (set zs n y))

  -- the seat of one port used these tickets and made those, of turns that are theirs
  pub use_at : (homes : List (HomeKnown B)) (port : ℕ) (x y : HomeKnown B) (used made : List ℕ) (used_tickets made_tickets : List Ticket)
      → ((weight : ℕ → ℕ → ℕ) → sum_by (weight port) used ≡ sum_by (weighed weight) used_tickets)
      → ((weight : ℕ → ℕ → ℕ) → sum_by (weight port) made ≡ sum_by (weighed weight) made_tickets)
      → port < length homes → x ≡ get_or homes port x → AreHomes homes → HomeStep used made x y
      → AreHomes (set homes port y) × HomesUse used_tickets made_tickets homes (set homes port y)
  use_at homes port x y used made used_tickets made_tickets of_used of_made lt at are step =
      let here : slice_get homes port ≡ Some x = slice_get_read homes (length homes) port x refl lt at in
      let mine : x.port ≡ port = (are port x here).0 in
      let all = step_at homes port x y used made lt at are step in (
        all.0,
        record {
          steps = all.1;
          used_tickets = λ weight.
              let one : used_at (weight y.port) y ≡ used_at (weight x.port) x + sum_by (weighed weight) used_tickets =
              ap (λ p. used_at (weight p) y) (step.port ∙ mine) ∙ step.used_tickets (weight port) ∙ (λ i. used_at (weight (sym mine i)) x + of_used weight i) in
              sum_written (λ s. used_at (weight s.port) s) homes port x y (sum_by (weighed weight) used_tickets) here one;
          made_tickets = λ weight.
              let one : made_at (weight y.port) y ≡ made_at (weight x.port) x + sum_by (weighed weight) made_tickets =
              ap (λ p. made_at (weight p) y) (step.port ∙ mine) ∙ step.made_tickets (weight port) ∙ (λ i. made_at (weight (sym mine i)) x + of_made weight i) in
              sum_written (λ s. made_at (weight s.port) s) homes port x y (sum_by (weighed weight) made_tickets) here one;
        },
      )

-- tickets of one port weigh as their turns do
pub no_tickets : (port : ℕ) (weight : ℕ → ℕ → ℕ) → sum_by (weight port) [] ≡ sum_by (weighed weight) []
no_tickets port weight = refl

pub one_ticket : (ticket : Ticket) (port : ℕ) → ticket.port ≡ port → (weight : ℕ → ℕ → ℕ) → sum_by (weight port) (ticket.turn ∷ []) ≡ sum_by (weighed weight) (ticket ∷ [])
one_ticket ticket port is weight =
    let same : weight ticket.port ticket.turn ≡ weight port ticket.turn = ap (λ p. weight p ticket.turn) is in
    omega (arith, sum_by-cons (weight port) ticket.turn [], sum_by-cons (weighed weight) ticket [])

pub some_ticket : (found : Option Ticket) (port : ℕ) → IfSome found (λ t. t.port ≡ port) → (weight : ℕ → ℕ → ℕ) → sum_by (weight port) (turns_of found) ≡ sum_by (weighed weight) (option_to_list found)
some_ticket None port is weight = refl
some_ticket (Some ticket) port is weight = one_ticket ticket port is weight

pub if_some : {T : Type 0} (o : Option T) {P Q : T → Type 0} → ((x : T) → P x → Q x) → IfSome o P → IfSome o Q
if_some None f h = h
if_some (Some x) f h = f x h

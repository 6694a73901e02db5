-- What a job did by one call after another.
use Rattle.std.proofs.Common.{◌≡◌, ℕ, zero, suc, List, [], ◌∷◌, Some, map, length, slice_get, ap, Result, Ok, Err, true≢false, ◌∙◌, refl, subst, sym}
use Rattle.port_words.specs.declared.home.homes.Ticket.{Ticket}
use Rattle.port_sched.specs.declared.body.PortBody.{Ghosts}
use Rattle.port_sched.specs.declared.waking.JobSeats.{JobSeats}
use Rattle.port_sched.specs.Homes.{AreHomes}
use Rattle.port_sched.specs.Serving.{KeptBy}
use Rattle.port_sched.specs.Waking.{Woke, Wakes, Refuses}
use Rattle.port_sched.proofs.Wakings.{woke_none, woke_then}
use Rattle.std.proofs.lemmas.Option.{same_Some, none-some}
use Rattle.port_sched.specs.Jobs.{WentEach}
use Rattle.ticket_account.specs.Run.{HasWoken}
use Rattle.sched_load.specs.declared.putter.Putter.{Putter}
use Rattle.sched_load.specs.Putting.{HasPut, HasGoneOn}

module _ {B : Type 0} {g : Ghosts B} where
  pub nothing_woken : (j : JobSeats B g) → AreHomes j.homes.items → Woke [] j j
  nothing_woken j homes = record { homes = homes; all_put = λ _. refl; tickets = woke_none j.homes.items j.entry }

  pub woken_then : (kept : List Ticket) (first second third : JobSeats B g) → Woke [] first second → Woke kept second third → Woke kept first third
  woken_then kept first second third one two = record { homes = two.homes; all_put = two.all_put; tickets = woke_then kept _ _ _ _ _ _ one.tickets two.tickets }

  pub put_then : {A E : Type 0} (r : Result A E) (first second third : JobSeats B g) → Woke [] first second → HasPut r second third → HasPut r first third
  put_then r first second third one two = (two.0, two.1, woken_then two.0 first second third one two.2)

  -- a call that found memory kept nothing
  pub put_ok : (kept : List Ticket) (first second : JobSeats B g) → kept ≡ [] → Woke kept first second → Woke [] first second
  put_ok kept first second none woke = subst (λ (k : List Ticket). Woke k first second) none woke

  -- one call of wake
  pub waken : {A E : Type 0} (r : Result A E) (old new : JobSeats B g) (kept : List Ticket) → Refuses r old.refused new.refused → AreHomes new.homes.items → KeptBy r kept
      → Wakes kept old.homes.items old.entry new.homes.items new.entry → HasPut r old new
  waken (Ok x) old new kept refuses homes keeps wakes = (kept, keeps, record { homes = homes; all_put = λ _. keeps; tickets = wakes })
  waken (Err e) old new kept refuses homes keeps wakes = (kept, keeps, record { homes = homes; all_put = λ none. absurd (true≢false (sym refuses ∙ none)); tickets = wakes })

map_at : {A C : Type 0} (f : A → C) (xs : List A) (n : ℕ) (z : C) → slice_get (map f xs) n ≡ Some z → (x : A) × (slice_get xs n ≡ Some x) × (z ≡ f x)
map_at f [] n z e = absurd (none-some z e)
map_at f (x ∷ xs) zero z e = (x, refl, sym (same_Some (f x) z e))
map_at f (x ∷ xs) (suc n) z e = map_at f xs n z e

map_many : {A C : Type 0} (f : A → C) (xs : List A) → length (map f xs) ≡ length xs
map_many f [] = refl
map_many f (x ∷ xs) = ap suc (map_many f xs)

-- what holds of the jobs holds of their seats
pub went_seats : (old new : List Putter) → WentEach HasGoneOn old new → WentEach HasWoken (map (λ (p : Putter). p.seats) old) (map (λ (p : Putter). p.seats) new)
went_seats old new went = record {
  count = map_many (λ (p : Putter). p.seats) new ∙ went.count ∙ sym (map_many (λ (p : Putter). p.seats) old);
  each = λ n x y here there.
      let a = map_at (λ (p : Putter). p.seats) old n x here in
      let b = map_at (λ (p : Putter). p.seats) new n y there in
      subst (λ s. HasWoken s y) (sym a.2) (subst (λ s. HasWoken a.0.seats s) (sym b.2) (went.each n a.0 b.0 a.1 b.1));
}

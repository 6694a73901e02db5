-- Homes in the midst of a join, and bodies in the midst of the closing.
use Rattle.std.proofs.Common.{◌≡◌, ℕ, zero, suc, List, [], ◌∷◌, ◌++◌, Some, length, slice_get, sym, refl, ap, arith}
use Rattle.std.proofs.lemmas.Option.{same_Some, none-some}
use Rattle.port_words.specs.home.Home.{IsLastBody}
use Rattle.port_words.specs.home.Seats.{HomeKnown}
use Rattle.run_queue.specs.Seats.{changed_at}
use Rattle.port_sched.specs.Closing.{joined_home, joined_homes, AreLastBodies}

module _ {B : Type 0} where
  -- from the number n on the seats of both are joined
  abbrev pub joined_from : ℕ → List (HomeKnown B) → List (HomeKnown B) → List (HomeKnown B)
  joined_from zero vs ws = joined_homes vs ws
  joined_from (suc n) [] ws = []
  joined_from (suc n) (v ∷ vs) [] = v ∷ vs
  joined_from (suc n) (v ∷ vs) (w ∷ ws) = v ∷ joined_from n vs ws

  pub joined_none : (vs ws : List (HomeKnown B)) → joined_from (length vs) vs ws ≡ vs
  joined_none [] ws = refl
  joined_none (v ∷ vs) [] = refl
  joined_none (v ∷ vs) (w ∷ ws) = ap (λ us. v ∷ us) (joined_none vs ws)

  pub joined_one : (n : ℕ) (vs ws : List (HomeKnown B)) (w : HomeKnown B) → length ws ≡ length vs → slice_get ws n ≡ Some w
      → changed_at (λ s. joined_home s w) n (joined_from (suc n) vs ws) ≡ joined_from n vs ws
  joined_one n vs [] w same e = absurd (none-some w e)
  joined_one n [] (x ∷ ws) w same e = absurd (omega arith)
  joined_one zero (v ∷ vs) (x ∷ ws) w same e = ap (λ y. joined_home v y ∷ joined_homes vs ws) (sym (same_Some x w e))
  joined_one (suc n) (v ∷ vs) (x ∷ ws) w same e = ap (λ us. v ∷ us) (joined_one n vs ws w (omega arith) e)

  pub joined_length : (n : ℕ) (vs ws : List (HomeKnown B)) → length (joined_from n vs ws) ≡ length vs
  joined_length zero [] ws = refl
  joined_length zero (v ∷ vs) [] = refl
  joined_length zero (v ∷ vs) (w ∷ ws) = ap suc (joined_length zero vs ws)
  joined_length (suc n) [] ws = refl
  joined_length (suc n) (v ∷ vs) [] = refl
  joined_length (suc n) (v ∷ vs) (w ∷ ws) = ap suc (joined_length n vs ws)

  -- what isn't joined yet is as it was
  pub unjoined : (n : ℕ) (vs ws : List (HomeKnown B)) (k : HomeKnown B) → slice_get (joined_from (suc n) vs ws) n ≡ Some k → slice_get vs n ≡ Some k
  unjoined n [] ws k e = e
  unjoined n (v ∷ vs) [] k e = e
  unjoined zero (v ∷ vs) (w ∷ ws) k e = e
  unjoined (suc n) (v ∷ vs) (w ∷ ws) k e = unjoined n vs ws k e

  -- one home more is closed
  pub last_more : {N : Type 0} (name : B → N) (homes : List (HomeKnown B)) (bodies : List B) (home : HomeKnown B) (body : B)
      → AreLastBodies name homes bodies → IsLastBody name home.known body → AreLastBodies name (homes ++ home ∷ []) (bodies ++ body ∷ [])
  last_more name [] [] home body are is = (is, tt)
  last_more name [] (x ∷ xs) home body are is = absurd are
  last_more name (h ∷ hs) [] home body are is = absurd are
  last_more name (h ∷ hs) (x ∷ xs) home body are is = (are.0, last_more name hs xs home body are.1 is)

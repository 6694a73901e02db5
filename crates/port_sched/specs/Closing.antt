-- The end of a run: the seats of all schedulers are joined, and the homes are closed.
use Rattle.std.specs.Prelude.{◌≡◌, ℕ, List, [], ◌∷◌, length, slice_get, Some, None}
use Rattle.port_words.specs.home.Home.{joined, IsLastBody}
use Rattle.port_words.specs.home.Seats.{HomeKnown, home_known}

module _ {B : Type 0} where
  -- a seat that took in another of its home
  abbrev pub joined_home : HomeKnown B → HomeKnown B → HomeKnown B
  joined_home v w = home_known v.home v.port (joined v.known w.known)

  -- the seats of all homes, joined port by port
  abbrev pub joined_homes : List (HomeKnown B) → List (HomeKnown B) → List (HomeKnown B)
  joined_homes [] ws = []
  joined_homes (v ∷ vs) [] = v ∷ vs
  joined_homes (v ∷ vs) (w ∷ ws) = joined_home v w ∷ joined_homes vs ws

  -- two seats of one home, of which the other doesn't run
  abbrev pub CanJoinHome : HomeKnown B → HomeKnown B → Type 0
  CanJoinHome v w = (w.home ≡ v.home) × (w.known.running ≡ None)

  abbrev pub CanJoinHomes : List (HomeKnown B) → List (HomeKnown B) → Type 0
  CanJoinHomes vs ws = (length ws ≡ length vs) × ((n : ℕ) (v w : HomeKnown B) → slice_get vs n ≡ Some v → slice_get ws n ≡ Some w → CanJoinHome v w)

  -- all other seats of the home were joined into this one, and it doesn't run
  abbrev pub IsWhole : HomeKnown B → Type 0
  IsWhole s = (s.known.shares ≡ s.known.seats) × (s.known.running ≡ None)

  -- the bodies of the homes, one of each, in their order, and each under the name that its home fixed
  abbrev pub AreLastBodies : {N : Type 0} → (B → N) → List (HomeKnown B) → List B → Type 0
  AreLastBodies name [] [] = Unit {0}
  AreLastBodies name (home ∷ homes) (body ∷ bodies) = IsLastBody name home.known body × AreLastBodies name homes bodies
  AreLastBodies name homes bodies = ⊥

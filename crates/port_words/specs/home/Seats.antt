-- A seat of a home as contracts see it.
use Rattle.std.specs.Prelude.{◌≡◌, ℕ, replicate, List, [], ◌∷◌, Option, Some, None}
use Rattle.std.specs.declared.snapshot.Snapshot.{Snapshot}
use Rattle.atomic_table.specs.Seated.{TableId}
use Rattle.port_words.specs.declared.home.view.HomeView.{HomeView}
use Rattle.port_words.specs.home.Home.{fresh_view}

pub record HomeKnown (B : Type 0) : Type 0 where
  pub home : TableId
  pub port : ℕ
  pub known : HomeView B

abbrev pub home_known : {B : Type 0} → TableId → ℕ → HomeView B → HomeKnown B
home_known home port known = record { home = home; port = port; known = known }

-- while a seat runs a turn it holds the slot, empty
abbrev pub held : {B : Type 0} → Option ℕ → List (ℕ × Option B)
held None = []
held (Some turn) = (0, None) ∷ []

-- the seats of one new home, alike, with a share each
pub record AreSeatsOf {B : Type 0} (port : ℕ) (body : B) (seats : ℕ) (all : List (HomeKnown B)) : Type 0 where
  pub home : TableId
  pub first : Snapshot B
  pub made_with : first.value ≡ body
  pub dealt : all ≡ replicate seats (home_known home port (fresh_view (Some first) seats 1))

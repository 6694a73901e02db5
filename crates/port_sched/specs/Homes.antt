-- What a scheduler does with the seats of its homes.
use Rattle.std.specs.Prelude.{◌≡◌, ℕ, ◌+◌, List, [], ◌∷◌, ◌++◌, Option, Some, None, length, slice_get, sum_by}
use Rattle.port_words.specs.declared.home.homes.Ticket.{Ticket}
use Rattle.port_words.specs.home.Home.{IsNotIdle}
use Rattle.port_words.specs.home.Seats.{HomeKnown}

-- the turn of the ticket, where there is one
abbrev pub turns_of : Option Ticket → List ℕ
turns_of None = []
turns_of (Some ticket) = ticket.turn ∷ []

-- a ticket weighs by its port and its turn
abbrev pub weighed : (ℕ → ℕ → ℕ) → Ticket → ℕ
weighed weight ticket = weight ticket.port ticket.turn

module _ {B : Type 0} where
  -- the tickets that a seat claimed or found stale, and those that it made, each with a weight
  abbrev pub used_at : (ℕ → ℕ) → HomeKnown B → ℕ
  used_at weight s = sum_by weight s.known.claimed + sum_by weight s.known.stale

  abbrev pub made_at : (ℕ → ℕ) → HomeKnown B → ℕ
  made_at weight s = sum_by weight s.known.made

  -- A seat is of the same home, and has put the body home. Beside what it had, it claimed or found stale the tickets of these turns, and made those of the others
  pub record HomeStep (used made : List ℕ) (old new : HomeKnown B) : Type 0 where
    pub home : new.home ≡ old.home
    pub port : new.port ≡ old.port
    pub body : new.known.body ≡ old.known.body
    pub seats : new.known.seats ≡ old.known.seats
    pub shares : new.known.shares ≡ old.known.shares
    pub rests : new.known.running ≡ None
    pub used_tickets : (weight : ℕ → ℕ) → used_at weight new ≡ used_at weight old + sum_by weight used
    pub made_tickets : (weight : ℕ → ℕ) → made_at weight new ≡ made_at weight old + sum_by weight made

  -- the seats of all ports, each in its place, and none runs
  abbrev pub AreHomes : List (HomeKnown B) → Type 0
  AreHomes homes = (port : ℕ) (s : HomeKnown B) → slice_get homes port ≡ Some s → (s.port ≡ port) × (s.known.running ≡ None)

  -- each seat is of the home that it was of
  pub record IsSameHome (old new : HomeKnown B) : Type 0 where
    pub home : new.home ≡ old.home
    pub body : new.known.body ≡ old.known.body
    pub seats : new.known.seats ≡ old.known.seats
    pub shares : new.known.shares ≡ old.known.shares

  pub record HomesStep (old new : List (HomeKnown B)) : Type 0 where
    pub count : length new ≡ length old
    pub same : (port : ℕ) (s t : HomeKnown B) → slice_get old port ≡ Some s → slice_get new port ≡ Some t → IsSameHome s t

  -- the tickets that the seats of all ports claimed or found stale, and those that they made, each with a weight by its port and turn
  abbrev pub used_of : (ℕ → ℕ → ℕ) → List (HomeKnown B) → ℕ
  used_of weight homes = sum_by (λ s. used_at (weight s.port) s) homes

  abbrev pub made_of : (ℕ → ℕ → ℕ) → List (HomeKnown B) → ℕ
  made_of weight homes = sum_by (λ s. made_at (weight s.port) s) homes

  -- the seats of all ports claimed or found stale these tickets, each at its port, and made those
  pub record HomesUse (used made : List Ticket) (old new : List (HomeKnown B)) : Type 0 where
    pub steps : HomesStep old new
    pub used_tickets : (weight : ℕ → ℕ → ℕ) → used_of weight new ≡ used_of weight old + sum_by (weighed weight) used
    pub made_tickets : (weight : ℕ → ℕ → ℕ) → made_of weight new ≡ made_of weight old + sum_by (weighed weight) made

  -- the last word that the seat found wasn't idle: the port's turn is queued, or runs already
  abbrev pub FoundNotIdle : HomeKnown B → Type 0
  FoundNotIdle s = (before : List ℕ) × (run : ℕ) × (s.known.found ≡ before ++ run ∷ []) × IsNotIdle run

  abbrev pub FoundNotIdleAt : ℕ → List (HomeKnown B) → Type 0
  FoundNotIdleAt port homes = (s : HomeKnown B) → slice_get homes port ≡ Some s → FoundNotIdle s

-- The seats of a run in a test.
use Rattle.std.specs.Prelude.{◌≡◌, ℕ, true, false, None}
use Rattle.port_words.specs.home.Seats.{HomeKnown}
use Rattle.port_words.specs.over.Over.{OverKnown, HasNotStopped}
use Rattle.port_sched.specs.Lodging.{is_counted, has_finished}

-- two counted seats of OVER that haven't finished, and two that haven't stopped the run
pub record AreFour (first second third fourth : OverKnown) : Type 0 where
  pub first_waits : (is_counted first.known ≡ true) × (has_finished first.known ≡ false)
  pub second_waits : (is_counted second.known ≡ true) × (has_finished second.known ≡ false)
  pub third_runs : HasNotStopped third.known.places
  pub fourth_runs : HasNotStopped fourth.known.places

module _ {B : Type 0} where
  -- one of the two seats of a home, which rests
  pub record IsSeatOfTwo (port : ℕ) (s : HomeKnown B) : Type 0 where
    pub port_is : s.port ≡ port
    pub rests : s.known.running ≡ None
    pub share : s.known.shares ≡ 1
    pub seats : s.known.seats ≡ 2

  -- the seat came back, and rests
  pub record IsSeatBack (old new : HomeKnown B) : Type 0 where
    pub home : new.home ≡ old.home
    pub rests : new.known.running ≡ None
    pub share : new.known.shares ≡ old.known.shares
    pub seats : new.known.seats ≡ old.known.seats

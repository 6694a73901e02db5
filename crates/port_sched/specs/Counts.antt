-- How many turns the seats of a scheduler began, and what its counts say of them.
use Rattle.std.specs.Prelude.{◌≡◌, ℕ, ◌+◌, List, length, sum_by}
use Rattle.port_words.specs.home.Seats.{HomeKnown}
use Rattle.run_queue.specs.Seats.{counted}
use Rattle.port_sched.specs.declared.counts.TurnCounts.{TurnCounts}

module _ {B : Type 0} where
  -- a seat began so many turns with a ticket, and so many without one
  pub record BeginsAt (queued idle : ℕ) (old new : HomeKnown B) : Type 0 where
    pub queued_more : length new.known.claimed ≡ length old.known.claimed + queued
    pub idle_more : length new.known.idle ≡ length old.known.idle + idle

  -- the turns that the seats of all ports began with a ticket, and those that they began without one
  abbrev pub queued_turns : List (HomeKnown B) → ℕ
  queued_turns homes = sum_by (λ s. length s.known.claimed) homes

  abbrev pub idle_turns : List (HomeKnown B) → ℕ
  idle_turns homes = sum_by (λ s. length s.known.idle) homes

  pub record Begin (queued idle : ℕ) (old new : List (HomeKnown B)) : Type 0 where
    pub queued_more : queued_turns new ≡ queued_turns old + queued
    pub idle_more : idle_turns new ≡ idle_turns old + idle

  -- these are the counts of the turns that the seats have begun since they were as at the start
  pub record AreCounts (counts : TurnCounts) (start homes : List (HomeKnown B)) : Type 0 where
    pub queued : ℕ
    pub idle : ℕ
    pub begun : Begin queued idle start homes
    pub queued_count : counts.queued ≡ counted queued
    pub idle_count : counts.idle ≡ counted idle

  -- counts of all turns since some start are so still
  abbrev pub KeepsCounts : TurnCounts → List (HomeKnown B) → TurnCounts → List (HomeKnown B) → Type 0
  KeepsCounts counts homes counts' homes' = (start : List (HomeKnown B)) → AreCounts counts start homes → AreCounts counts' start homes'

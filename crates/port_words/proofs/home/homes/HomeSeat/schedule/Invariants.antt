use Rattle.std.proofs.Common.{◌≡◌, ℕ, ◌+◌, ◌-◌, ◌^◌, List, [], ◌∷◌, ◌++◌}
use Rattle.port_words.specs.home.Home.{TellsHome, looked}
use Rattle.port_words.specs.home.Seats.{home_known}
use Rattle.port_words.proofs.home.homes.HomeSeat.schedule.Given as goal

-- the words found so far, of which RUN's is the last
abbrev pub invariant-tries : goal.invariant-tries
invariant-tries g l = (ns : List ℕ) × (l.self ≡ home_known l.fn.self.home l.fn.self.port (looked l.fn.self.known (ns ++ l.run ∷ []))) × TellsHome (looked l.fn.self.known ns) l.run

abbrev pub decreases-tries : goal.decreases-tries
decreases-tries g l = 2 ^ 63 + 3 - l.run

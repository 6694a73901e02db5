use Rattle.std.proofs.Common.{◌≡◌, ℕ, ◌+◌, ◌-◌, ◌^◌, List, [], ◌∷◌, ◌++◌}
use Rattle.port_words.specs.home.Home.{TellsHome, looked}
use Rattle.port_words.proofs.home.homes.close.Given as goal

-- the words found so far, of which RUN's is the last
abbrev pub invariant-tries : goal.invariant-tries
invariant-tries g l =
    (ns : List ℕ) × (l.seat.me ≡ (looked l.fn.seat.me.0 (ns ++ l.run ∷ []), [])) × TellsHome (looked l.fn.seat.me.0 ns) l.run × (l.seat.table_id ≡ l.fn.seat.table_id)

abbrev pub decreases-tries : goal.decreases-tries
decreases-tries g l = 2 ^ 63 + 3 - l.run

use Rattle.std.proofs.Common.{ap}
use Rattle.port_words.proofs.lemmas.home.HomeLemmas.{fewer_left}
use Rattle.port_words.proofs.home.homes.HomeSeat.claim_idle.Goals as goal

pub tries-smaller : goal.tries-smaller
tries-smaller g c = fewer_left _ _ _ _ _ (ap (λ k. k.known) c.tries.invariant.1) c.in-Err.ensures.err.1 c.in-Err.ensures.err.0

-- What several calls together did to a count of faults.
use Rattle.std.proofs.Common.{ℕ, ◌^◌, ◌<◌, ◌≤◌, arith}
use Rattle.outside.specs.Causes.{Rose}

-- a count that rose has risen after calls before it
pub Rose-after : (before middle after : ℕ) → before ≤ middle → Rose middle after → Rose before after
Rose-after before middle after rises rose = omega (arith, rises, rose)

-- a count that rose has risen after calls behind it
pub Rose-before : (before middle after : ℕ) → Rose before middle → middle ≤ after → Rose before after
Rose-before before middle after rose rises = omega (arith, rises, rose)

-- a count that rose has not fallen
pub Rose-rises : (before after : ℕ) → before < 2 ^ 64 → Rose before after → before ≤ after
Rose-rises before after within rose = omega (arith, within, rose)

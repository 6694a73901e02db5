use Rattle.std.specs.Prelude.{ℕ, ◌<◌, ◌^◌}
use Rattle.port_driver.specs.declared.life.Life.{Life}

-- a tally: where it stands, how many commands it had, and how many bytes these had
pub record Tallied : Type 0 where
  pub life : Life
  pub commands : ℕ
  pub bytes : ℕ

-- both numbers fit the integers of a term
pub record IsTallied (commands bytes : ℕ) : Type 0 where
  pub commands_fit : commands < 2 ^ 63
  pub bytes_fit : bytes < 2 ^ 63

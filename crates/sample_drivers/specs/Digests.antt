-- What the driver digest does with a command.
use Rattle.std.specs.Prelude.{◌≡◌, ℕ, ◌+◌, List, ◌++◌, if◌then◌else◌}
use Rattle.driver_model.specs.Digest.{command_effects, is_job}
use Rattle.port_driver.specs.declared.life.Life.{Life}
use Rattle.port_driver.specs.Context.{Context}

-- a digest: where it stands, and how many jobs it submitted
pub record DigestView : Type 0 where
  pub life : Life
  pub jobs : ℕ

-- the data of a command was made a job with the port's next number, or the port failed
abbrev pub Commands : List ℕ → Context → Context → Type 0
Commands bytes old new = new ≡ record old {
  effects = old.effects ++ command_effects old.next_job bytes;
  next_job = if is_job bytes then old.next_job + 1 else old.next_job;
}

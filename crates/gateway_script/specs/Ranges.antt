-- The ranges in which the numbers of a line lie.
use Rattle.std.specs.Prelude.{◌≡◌, ◌≤◌, true, All}
use Rattle.port_config.specs.Config.{is_served}
use Rattle.gateway_script.specs.declared.options.LimitPair.{LimitPair}
use Rattle.gateway_script.specs.declared.options.PortOption.{PortOption}
use Rattle.gateway_script.specs.declared.options.PortOption.TheVariants.{Msgq, Framing, Busy}
use Rattle.gateway_script.specs.declared.statement.Statement.{Statement}
use Rattle.gateway_script.specs.declared.statement.Statement.TheVariants.{Port, Step}
use Rattle.gateway_script.specs.declared.statement.Action.{Action}
use Rattle.gateway_script.specs.declared.statement.Action.TheVariants.{File}

-- both limits are from 1 to 1,073,741,824
pub record AreLimits (limits : LimitPair) : Type 0 where
  pub low_from : 1 ≤ limits.low
  pub low_to : limits.low ≤ 1073741824
  pub high_from : 1 ≤ limits.high
  pub high_to : limits.high ≤ 1073741824

-- the numbers of an option lie in their ranges
abbrev pub InOption : PortOption → Type 0
InOption (Msgq limits) = AreLimits limits
InOption (Framing mode) = is_served mode ≡ true
InOption (Busy limits) = AreLimits limits
InOption _ = Unit {0}

-- a file is cut into pieces of 1 to 262,143 bytes
abbrev pub InAction : Action → Type 0
InAction (File size name how) = (1 ≤ size) × (size ≤ 262143)
InAction _ = Unit {0}

-- so it is of what a line says
abbrev pub InStatement : Statement → Type 0
InStatement (Port name process driver options) = All InOption options
InStatement (Step process port action) = InAction action
InStatement _ = Unit {0}

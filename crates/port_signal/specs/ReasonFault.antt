use Rattle.std.specs.Prelude.{ℕ}
use Rattle.port_signal.specs.declared.name.ReasonFault.{ReasonFault}
use Rattle.port_signal.specs.declared.name.ReasonFault.TheVariants.{NotAName}

-- the place that a fault tells
abbrev pub place_of : ReasonFault → ℕ
place_of (NotAName at) = at

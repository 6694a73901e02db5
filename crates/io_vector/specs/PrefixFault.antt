-- why a prefix is refused
use Rattle.std.specs.Prelude.{◌≡◌, ◌<◌, ◌≤◌, ℕ}
use Rattle.io_vector.specs.declared.fault.PrefixFault.{PrefixFault}
use Rattle.io_vector.specs.declared.fault.PrefixFault.TheVariants.{Past, NoMemory}

-- n bytes of a vector of this size were asked for: there are fewer, or memory was short
abbrev pub PrefixFails : ℕ → ℕ → PrefixFault → Type 0
PrefixFails n size (Past told) = (size < n) × (told ≡ size)
PrefixFails n size NoMemory = n ≤ size

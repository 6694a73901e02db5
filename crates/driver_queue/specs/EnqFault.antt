-- why a vector isn't put into a queue
use Rattle.std.specs.Prelude.{◌≡◌, ◌<◌, ◌≤◌, ℕ}
use Rattle.driver_queue.specs.declared.fault.EnqFault.{EnqFault}
use Rattle.driver_queue.specs.declared.fault.EnqFault.TheVariants.{SkipPast, NoMemory}

-- `skip` bytes of a vector of this size were to be skipped: there are fewer, or memory was short
abbrev pub EnqFails : ℕ → ℕ → EnqFault → Type 0
EnqFails skip size (SkipPast told) = (size < skip) × (told ≡ size)
EnqFails skip size NoMemory = skip ≤ size

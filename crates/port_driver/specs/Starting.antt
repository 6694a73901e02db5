-- How drivers refuse to start.
use Rattle.std.specs.Prelude.{◌≡◌, ℕ, ◌<◌, ◌^◌, ◌-◌, ◌⊎◌, Some}
use Rattle.port_config.specs.declared.config.Config.{Config}
use Rattle.driver_model.specs.Calls.{Kind}
use Rattle.driver_model.specs.Drivers.{refusal_of}
use Rattle.driver_model.specs.Drivers as refusal
use Rattle.port_driver.specs.declared.life.StartRefusal.{StartRefusal}
use Rattle.port_driver.specs.declared.life.StartRefusal.TheVariants.{General, Errno, Badarg, StartFault, NoMemory}

-- a count of faults rose, or stands at its end, the greatest `u64`
abbrev pub Rose : ℕ → ℕ → Type 0
Rose before after = (before < after) ⊎ (after ≡ 2 ^ 64 - 1)

-- a driver of this kind with this config refuses so: by its kind, where the count of its faults rose, or for want of memory
abbrev pub Refuses : Kind → Config → ℕ → ℕ → StartRefusal → Type 0
Refuses kind config before after General = refusal_of kind config ≡ Some refusal.General
Refuses kind config before after Errno = refusal_of kind config ≡ Some refusal.Errno
Refuses kind config before after Badarg = refusal_of kind config ≡ Some refusal.Badarg
Refuses kind config before after StartFault = Rose before after
Refuses kind config before after NoMemory = Unit {0}

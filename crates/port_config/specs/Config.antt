-- The options of a port: what they are where nothing is said, and their ranges.
use Rattle.std.specs.Prelude.{ℕ, [], Bool, true, false, ◌&&◌, nat_le}
use Rattle.packet_framing.specs.declared.mode.Mode.{Mode}
use Rattle.packet_framing.specs.declared.mode.Mode.TheVariants.{Line, Stream}
use Rattle.port_config.specs.declared.config.Config.{Config}

-- the options of a port of which nothing is said
abbrev pub plain : Config
plain = record { run = []; mode = Stream; eof = false; exit_status = false; busy_low = 4096; busy_high = 8192; msgq_on = true; msgq_low = 4096; msgq_high = 8192 }

-- a pair of limits in its range
abbrev pub is_pair : ℕ → ℕ → Bool
is_pair low high = nat_le 1 low && nat_le low high && nat_le high 1073741824

-- an unframer can be made
abbrev pub is_served : Mode → Bool
is_served (Line limit) = nat_le 1 limit && nat_le limit 262143
is_served mode = true

-- the mode is served, and each pair of limits lies in its range
abbrev pub is_config : Config → Bool
is_config config = is_served config.mode && is_pair config.busy_low config.busy_high && is_pair config.msgq_low config.msgq_high

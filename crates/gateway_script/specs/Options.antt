-- The options of a port as a line lists them, and what they say together.
use Rattle.std.specs.Prelude.{ℕ, List, [], ◌∷◌, Bool, true, false, ◌||◌, if◌then◌else◌, Result, Ok, Err, codes, min}
use Rattle.std.specs.List.{list_any}
use Rattle.std.specs.Str.{bytes_eq}
use Rattle.port_config.specs.declared.config.Config.{Config}
use Rattle.port_config.specs.Config.{plain}
use Rattle.gateway_script.specs.declared.line_fault.LineFault.{LineFault}
use Rattle.gateway_script.specs.declared.line_fault.LineFault.TheVariants.{Repeated}
use Rattle.gateway_script.specs.declared.options.PortOption.{PortOption}
use Rattle.gateway_script.specs.declared.options.PortOption.TheVariants.{Msgq, MsgqOff, Run, Framing, Eof, ExitStatus, Busy}

-- the limits of the message queue are an option of every driver, and each other option is one of `spawn`
abbrev pub is_for_every_driver : PortOption → Bool
is_for_every_driver (Msgq limits) = true
is_for_every_driver MsgqOff = true
is_for_every_driver _ = false

-- a port with this driver can have the option
abbrev pub suits : List ℕ → PortOption → Bool
suits driver option = is_for_every_driver option || bytes_eq driver (codes "spawn")

-- the two are one option: both are limits of the message queue, or both are framings, ..
abbrev pub is_same : PortOption → PortOption → Bool
is_same (Msgq limits) (Msgq others) = true
is_same (Msgq limits) MsgqOff = true
is_same MsgqOff (Msgq limits) = true
is_same MsgqOff MsgqOff = true
is_same (Run command) (Run other) = true
is_same (Framing mode) (Framing other) = true
is_same Eof Eof = true
is_same ExitStatus ExitStatus = true
is_same (Busy limits) (Busy others) = true
is_same _ _ = false

-- one option stands twice
abbrev pub is_repeated : List PortOption → Bool
is_repeated [] = false
is_repeated (option ∷ options) = list_any (is_same option) options || is_repeated options

-- the options of a port, with one that is written. A low limit above its high limit is taken as the high limit
abbrev pub set : PortOption → Config → Config
set (Msgq limits) config = record config { msgq_on = true; msgq_low = min limits.low limits.high; msgq_high = limits.high }
set MsgqOff config = record config { msgq_on = false }
set (Run command) config = record config { run = command }
set (Framing mode) config = record config { mode = mode }
set Eof config = record config { eof = true }
set ExitStatus config = record config { exit_status = true }
set (Busy limits) config = record config { busy_low = min limits.low limits.high; busy_high = limits.high }

-- the options of a port, with those that are written
abbrev pub set_all : List PortOption → Config → Config
set_all [] config = config
set_all (option ∷ options) config = set_all options (set option config)

-- the options of a port of which these are written
abbrev pub config_of : List PortOption → Result Config LineFault
config_of options = if is_repeated options then Err Repeated else Ok (set_all options plain)

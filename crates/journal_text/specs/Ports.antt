-- CommandFlags a port is written: its line, the lines of its rows, and the line `end`.
use Rattle.std.specs.Prelude.{◌==◌, ℕ, List, [], ◌∷◌, ◌++◌, map, Bool, true, false, not, ◌&&◌, ◌||◌, if◌then◌else◌, nat_lt, codes}
use Rattle.std.specs.List.{list_all, list_any}
use Rattle.std.specs.Str.{bytes_eq}
use Rattle.std.specs.Fmt.{decimal}
use Rattle.packet_framing.specs.declared.mode.Mode.{Mode}
use Rattle.packet_framing.specs.declared.mode.Mode.TheVariants.{Packet1, Packet2, Packet4, Line, Stream}
use Rattle.port_config.specs.declared.config.Config.{Config}
use Rattle.port_config.specs.Config.{is_config}
use Rattle.driver_model.specs.Calls.{Echo, Tally, Valve, Store, Digest, Spawn}
use Rattle.driver_model.specs.Drivers.{kind_name}
use Rattle.port_model.specs.declared.row.Row.{Row}
use Rattle.journal_text.specs.declared.book.PortReport.{PortReport}
use Rattle.journal_text.specs.declared.port_line.PortLine.{PortLine}
use Rattle.journal_text.specs.Words.{spaced, bytes_text, are_bytes, is_32, is_name}
use Rattle.journal_text.specs.Rows.{row_text, is_row}

-- the kinds of driver that don't refuse their start
abbrev pub drivers : List (List ℕ)
drivers = map kind_name (Echo ∷ Tally ∷ Valve false ∷ Valve true ∷ Store ∷ Digest ∷ Spawn ∷ [])

abbrev pub is_driver : List ℕ → Bool
is_driver driver = list_any (bytes_eq driver) drivers

abbrev pub is_spawn : List ℕ → Bool
is_spawn driver = bytes_eq driver (codes "spawn")

abbrev pub msgq_text : Bool → ℕ → ℕ → List ℕ
msgq_text on low high = spaced (if on then codes "msgq" ∷ decimal low ∷ decimal high ∷ [] else codes "msgq" ∷ codes "off" ∷ [])

abbrev pub mode_text : Mode → List ℕ
mode_text Packet1 = spaced (codes "packet" ∷ codes "1" ∷ [])
mode_text Packet2 = spaced (codes "packet" ∷ codes "2" ∷ [])
mode_text Packet4 = spaced (codes "packet" ∷ codes "4" ∷ [])
mode_text (Line limit) = spaced (codes "line" ∷ decimal limit ∷ [])
mode_text Stream = codes "stream"

abbrev pub eof_text : Bool → List ℕ
eof_text true = codes "eof"
eof_text false = codes "noeof"

abbrev pub status_text : Bool → List ℕ
status_text true = codes "status"
status_text false = codes "nostatus"

-- the options and the two events of a program
abbrev pub program_text : Config → ℕ × ℕ → List ℕ
program_text config events =
    spaced (codes "run" ∷ bytes_text config.run ∷ mode_text config.mode ∷ eof_text config.eof ∷ status_text config.exit_status
    ∷ codes "busy" ∷ decimal config.busy_low ∷ decimal config.busy_high ∷ codes "events" ∷ decimal events.0 ∷ decimal events.1 ∷ [])

abbrev pub port_line : PortLine → List ℕ
port_line port =
    spaced (codes "port" ∷ port.name ∷ decimal port.owner ∷ port.driver ∷ msgq_text port.config.msgq_on port.config.msgq_low port.config.msgq_high
    ∷ (if is_spawn port.driver then program_text port.config port.events ∷ [] else []))

-- nothing is said of a program
abbrev pub is_stream : Mode → Bool
is_stream Stream = true
is_stream mode = false

abbrev pub is_nothing : List ℕ → Bool
is_nothing [] = true
is_nothing (byte ∷ bytes) = false

abbrev pub without_program : Config → ℕ × ℕ → Bool
without_program config events =
    is_nothing config.run && (is_stream config.mode && (not config.eof && (not config.exit_status
    && (config.busy_low == 4096 && (config.busy_high == 8192 && (events.0 == 0 && events.1 == 0))))))

-- the limits of a message queue that has none are those where nothing is said
abbrev pub are_limits : Bool → ℕ → ℕ → Bool
are_limits on low high = on || (low == 4096 && high == 8192)

abbrev pub is_port : ℕ → PortLine → Bool
is_port names port =
    is_name port.name && (nat_lt port.owner names && (is_driver port.driver && (is_config port.config
    && (are_limits port.config.msgq_on port.config.msgq_low port.config.msgq_high
    && (if is_spawn port.driver then are_bytes port.config.run && (is_32 port.events.0 && is_32 port.events.1)
    else without_program port.config port.events)))))

-- what the line of a port tells
abbrev pub line_of : PortReport → PortLine
line_of port = record { name = port.name; driver = port.driver; owner = port.owner; config = port.config; events = port.events }

-- a port with this line and these rows
abbrev pub with_rows : PortLine → List Row → PortReport
with_rows line rows = record { name = line.name; driver = line.driver; owner = line.owner; config = line.config; events = line.events; journal = record { rows = rows } }

abbrev pub is_report : ℕ → PortReport → Bool
is_report names port = is_port names (line_of port) && list_all (is_row names) port.journal.rows

-- the lines of a port, each without the byte 10 that ends it
abbrev pub port_lines : PortReport → List (List ℕ)
port_lines port = port_line (line_of port) ∷ map row_text port.journal.rows ++ codes "end" ∷ []

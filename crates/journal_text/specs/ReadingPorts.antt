-- Reading the line of a port.
use Rattle.std.specs.Prelude.{ℕ, ◌^◌, Bool, true, false, if◌then◌else◌, List, [], Option, Some, None, codes}
use Rattle.std.specs.List.{take_while}
use Rattle.std.specs.Str.{bytes_eq}
use Rattle.packet_framing.specs.declared.mode.Mode.{Mode}
use Rattle.packet_framing.specs.declared.mode.Mode.TheVariants.{Packet1, Packet2, Packet4, Line, Stream}
use Rattle.port_config.specs.Config.{is_config}
use Rattle.journal_text.specs.declared.port_line.Limits.{Limits}
use Rattle.journal_text.specs.declared.port_line.ProgramOptions.{ProgramOptions}
use Rattle.journal_text.specs.declared.port_line.PortLine.{PortLine}
use Rattle.journal_text.specs.Ports.{is_driver, is_spawn}
use Rattle.journal_text.specs.Words.{is_word_byte}
use Rattle.journal_text.specs.Reading.{◌>>=◌, behind, field_at, by_word, spaced_at, pair_at, made, number_of, number_at, name_at, bytes_at}
use Rattle.journal_text.specs.ReadingRows.{whole, all_of}

-- this word
abbrev pub this : List ℕ → List ℕ → Option (Unit {0})
this keyword word = if bytes_eq word keyword then Some tt else None

unfoldable pub driver_of : List ℕ → Option (List ℕ)
driver_of word = if is_driver word then Some word else None

-- `off`, or two numbers
unfoldable pub limits_by : List ℕ → List ℕ → Option (Limits × List ℕ)
limits_by word rest =
    if bytes_eq word (codes "off") then Some (record { on = false; low = 4096; high = 8192 }, rest)
    else (number_of (2 ^ 32) word >>= λ low. made (λ high. record { on = true; low = low; high = high }) (spaced_at (number_at (2 ^ 32)) rest))

abbrev pub limits_at : List ℕ → Option (Limits × List ℕ)
limits_at = by_word limits_by

-- `1`, `2` or `4`
unfoldable pub packet_of : List ℕ → Option Mode
packet_of word =
    if bytes_eq word (codes "1") then Some Packet1
    else (if bytes_eq word (codes "2") then Some Packet2
    else (if bytes_eq word (codes "4") then Some Packet4 else None))

unfoldable pub mode_by : List ℕ → List ℕ → Option (Mode × List ℕ)
mode_by word rest =
    if bytes_eq word (codes "stream") then Some (Stream, rest)
    else (if bytes_eq word (codes "packet") then spaced_at (field_at packet_of) rest
    else (if bytes_eq word (codes "line") then made Line (spaced_at (number_at (2 ^ 32)) rest)
    else None))

abbrev pub mode_at : List ℕ → Option (Mode × List ℕ)
mode_at = by_word mode_by

-- one word or the other
abbrev pub either : List ℕ → List ℕ → List ℕ → Option Bool
either first second word = if bytes_eq word first then Some true else (if bytes_eq word second then Some false else None)

abbrev pub this_at : List ℕ → List ℕ → Option (Unit {0} × List ℕ)
this_at keyword = field_at (this keyword)

abbrev pub eof_at : List ℕ → Option (Bool × List ℕ)
eof_at = field_at (either (codes "eof") (codes "noeof"))

abbrev pub exit_status_at : List ℕ → Option (Bool × List ℕ)
exit_status_at = field_at (either (codes "status") (codes "nostatus"))

abbrev pub two_at : List ℕ → Option ((ℕ × ℕ) × List ℕ)
two_at = pair_at (number_at (2 ^ 32)) (number_at (2 ^ 32))

-- `events` and two events
abbrev pub events_at : List ℕ → Option ((Unit {0} × (ℕ × ℕ)) × List ℕ)
events_at = pair_at (this_at (codes "events")) two_at

-- `busy`, two limits, and the events
abbrev pub Tail : Type 0
Tail = Unit {0} × (ℕ × (ℕ × (Unit {0} × (ℕ × ℕ))))

abbrev pub tail_at : List ℕ → Option (Tail × List ℕ)
tail_at = pair_at (this_at (codes "busy")) (pair_at (number_at (2 ^ 32)) (pair_at (number_at (2 ^ 32)) events_at))

abbrev pub Parts : Type 0
Parts = Unit {0} × (List ℕ × (Mode × (Bool × (Bool × Tail))))

abbrev pub parts_at : List ℕ → Option (Parts × List ℕ)
parts_at = pair_at (this_at (codes "run")) (pair_at bytes_at (pair_at mode_at (pair_at eof_at (pair_at exit_status_at tail_at))))

abbrev pub program_of : Parts → ProgramOptions
program_of p = record {
  run = p.1.0;
  mode = p.1.1.0;
  eof = p.1.1.1.0;
  exit_status = p.1.1.1.1.0;
  busy_low = p.1.1.1.1.1.1.0;
  busy_high = p.1.1.1.1.1.1.1.0;
  events = p.1.1.1.1.1.1.1.1.1;
}

-- the options and the events of a program
abbrev pub program_at : List ℕ → Option (ProgramOptions × List ℕ)
program_at bytes = made program_of (parts_at bytes)

-- nothing is said of a program
abbrev pub no_program : ProgramOptions
no_program = record { run = []; mode = Stream; eof = false; exit_status = false; busy_low = 4096; busy_high = 8192; events = (0, 0) }

-- what stands behind the limits of a port of this driver, to the end of its line
unfoldable pub program_after : List ℕ → List ℕ → Option ProgramOptions
program_after driver rest = if is_spawn driver then all_of (spaced_at program_at rest) else whole no_program rest

-- a name, an owner, a driver and the limits of the message queue
abbrev pub PortHead : Type 0
PortHead = List ℕ × (ℕ × (List ℕ × (Unit {0} × Limits)))

abbrev pub head_at : ℕ → List ℕ → Option (PortHead × List ℕ)
head_at names = pair_at name_at (pair_at (number_at names) (pair_at (field_at driver_of) (pair_at (this_at (codes "msgq")) limits_at)))

abbrev pub line_with : PortHead → ProgramOptions → PortLine
line_with head program = record {
  name = head.0;
  driver = head.1.1.0;
  owner = head.1.0;
  config = record {
    run = program.run;
    mode = program.mode;
    eof = program.eof;
    exit_status = program.exit_status;
    busy_low = program.busy_low;
    busy_high = program.busy_high;
    msgq_on = head.1.1.1.1.on;
    msgq_low = head.1.1.1.1.low;
    msgq_high = head.1.1.1.1.high;
  };
  events = program.events;
}

-- the line, if its limits and its mode are in their ranges
abbrev pub checked : PortLine → Option PortLine
checked line = if is_config line.config then Some line else None

-- the line of a port, behind its first word
unfoldable pub port_behind : ℕ → List ℕ → Option PortLine
port_behind names rest = do
  head ← spaced_at (head_at names) rest
  program ← program_after head.0.1.1.0 head.1
  checked (line_with head.0 program)

abbrev pub port_by : ℕ → List ℕ → List ℕ → Option PortLine
port_by names word rest = if bytes_eq word (codes "port") then port_behind names rest else None

-- the line of a port
unfoldable pub port_line_of : ℕ → List ℕ → Option PortLine
port_line_of names line = port_by names (take_while is_word_byte line) (behind is_word_byte line)

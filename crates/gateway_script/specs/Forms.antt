-- The forms of a line, and what a line of each form says.
use Rattle.std.specs.Prelude.{ℕ, zero, suc, ◌∷◌, List, [], length, Bool, true, false, ◌&&◌, not, Option, Some, None, if◌then◌else◌, nat_eq, nat_le, codes}
use Rattle.std.specs.List.{list_all}
use Rattle.std.specs.Str.{bytes_eq}
use Rattle.packet_framing.specs.declared.mode.Mode.{Mode}
use Rattle.packet_framing.specs.declared.mode.Mode.TheVariants.{Packet1, Packet2, Packet4, Line, Stream}
use Rattle.port_terms.specs.declared.values.TheConstants.{MAX_DEPTH}
use Rattle.port_terms.specs.Written.{external}
use Rattle.script_text.specs.Data as data_of
use Rattle.script_text.specs.Reading.{io_bytes_at, value_at}
use Rattle.gateway_script.specs.Words.{◌>>=◌, gap_at, word_at, next_word_at, next_name_at, free_name_of, next_free_name_at, last, next_number_at, number_within, next_text_at, next_file_at}
use Rattle.gateway_script.specs.Options.{suits}
use Rattle.gateway_script.specs.declared.options.LimitPair.{LimitPair}
use Rattle.gateway_script.specs.declared.options.PortOption.{PortOption}
use Rattle.gateway_script.specs.declared.options.PortOption.TheVariants.{Msgq, MsgqOff, Run, Framing, Eof, ExitStatus, Busy}
use Rattle.gateway_script.specs.declared.statement.Statement.{Statement}
use Rattle.gateway_script.specs.declared.statement.Statement.TheVariants.{Nothing, Process, Port, Journal, Save, Step, Die}
use Rattle.gateway_script.specs.declared.statement.CommandOptions.{CommandOptions}
use Rattle.gateway_script.specs.declared.statement.Action.{Action}
use Rattle.gateway_script.specs.declared.statement.Action.TheVariants.{Command, File, Send, Control, Call, Close, Connect, SendClose, SendConnect, Link, Unlink, Monitor, Demonitor, Exit, Expect, Bytes}

-- ---- the options of a port, each behind the word for it

-- `LOW HIGH`, each from 1 to 1,073,741,824
unfoldable pub limits_at : List ℕ → Option (LimitPair × List ℕ)
limits_at bytes = do
  low ← number_within 1 1073741824 bytes
  high ← number_within 1 1073741824 low.1
  Some (record { low = low.0; high = high.0 }, high.1)

-- `off` or `LOW HIGH`
unfoldable pub msgq_at : List ℕ → Option (PortOption × List ℕ)
msgq_at bytes = do
  word ← next_word_at bytes
  if bytes_eq word.0 (codes "off") then Some (MsgqOff, word.1) else (limits_at bytes >>= λ limits. Some (Msgq limits.0, limits.1))

-- the framing with so many bytes of length
abbrev pub packet_of : ℕ → Option Mode
packet_of n = if nat_eq n 1 then Some Packet1 else (if nat_eq n 2 then Some Packet2 else (if nat_eq n 4 then Some Packet4 else None))

-- N, which is 1, 2 or 4
unfoldable pub packet_at : List ℕ → Option (PortOption × List ℕ)
packet_at bytes = do
  number ← next_number_at bytes
  mode ← packet_of number.0
  Some (Framing mode, number.1)

-- L, from 1 to 262,143
unfoldable pub line_at : List ℕ → Option (PortOption × List ℕ)
line_at bytes = number_within 1 262143 bytes >>= λ limit. Some (Framing (Line limit.0), limit.1)

-- a TEXT
unfoldable pub run_at : List ℕ → Option (PortOption × List ℕ)
run_at bytes = next_text_at bytes >>= λ command. Some (Run command.0, command.1)

-- `LOW HIGH`
unfoldable pub busy_at : List ℕ → Option (PortOption × List ℕ)
busy_at bytes = limits_at bytes >>= λ limits. Some (Busy limits.0, limits.1)

-- an option that is a word alone
abbrev pub flag_of : List ℕ → Option PortOption
flag_of kind =
    if bytes_eq kind (codes "stream") then Some (Framing Stream)
    else (if bytes_eq kind (codes "eof") then Some Eof
    else (if bytes_eq kind (codes "exit_status") then Some ExitStatus
    else None))

-- what stands behind the word that says which option it is
unfoldable pub option_behind : List ℕ → List ℕ → Option (PortOption × List ℕ)
option_behind kind bytes =
    if bytes_eq kind (codes "msgq") then msgq_at bytes
    else (if bytes_eq kind (codes "run") then run_at bytes
    else (if bytes_eq kind (codes "packet") then packet_at bytes
    else (if bytes_eq kind (codes "line") then line_at bytes
    else (if bytes_eq kind (codes "busy") then busy_at bytes
    else (flag_of kind >>= λ option. Some (option, bytes))))))

-- an option behind a gap
unfoldable pub option_at : List ℕ → Option (PortOption × List ℕ)
option_at bytes = do
  kind ← next_word_at bytes
  option_behind kind.0 kind.1

abbrev pub is_end : List ℕ → Bool
is_end [] = true
is_end (byte ∷ rest) = false

-- options to the end of the line, at most so many
unfoldable pub some_options_at : ℕ → List ℕ → Option (List PortOption)
some_options_at zero bytes = if is_end bytes then Some [] else None
some_options_at (suc n) bytes = if is_end bytes then Some [] else (option_at bytes >>= λ option. (some_options_at n option.1 >>= λ options. Some (option.0 ∷ options)))

-- options to the end of the line. Each has a byte, so there are no more than bytes
abbrev pub options_at : List ℕ → Option (List PortOption)
options_at bytes = some_options_at (length bytes) bytes

-- ---- the data of a step

-- HOW, to the end of the line
unfoldable pub nosuspend_at : Bool → List ℕ → Option CommandOptions
nosuspend_at force bytes =
    if is_end bytes then Some (record { force = force; nosuspend = false })
    else (next_word_at bytes >>= λ word. (if bytes_eq word.0 (codes "nosuspend") then last word.1 (record { force = force; nosuspend = true }) else None))

unfoldable pub how_at : List ℕ → Option CommandOptions
how_at bytes =
    if is_end bytes then Some (record { force = false; nosuspend = false })
    else (next_word_at bytes >>= λ word. (if bytes_eq word.0 (codes "force") then nosuspend_at true word.1 else nosuspend_at false bytes))

-- the bytes of an IOLIST, and what stands behind it
unfoldable pub payload_at : List ℕ → Option (List ℕ × List ℕ)
payload_at bytes = gap_at bytes >>= io_bytes_at

-- OP, a NUMBER below 2^32
abbrev pub op_at : List ℕ → Option (ℕ × List ℕ)
op_at bytes = number_within 0 4294967295 bytes

-- `IOLIST HOW`
unfoldable pub command_at : List ℕ → Option Action
command_at bytes = do
  payload ← payload_at bytes
  how ← how_at payload.1
  Some (Command payload.0 how)

-- `SIZE TEXT HOW`
unfoldable pub file_at : List ℕ → Option Action
file_at bytes = do
  size ← number_within 1 262143 bytes
  name ← next_file_at size.1
  how ← how_at name.1
  Some (File size.0 name.0 how)

-- `IOLIST`
unfoldable pub send_at : List ℕ → Option Action
send_at bytes = do
  payload ← payload_at bytes
  last payload.1 (Send payload.0)

-- `OP TEXT`
unfoldable pub control_at : List ℕ → Option Action
control_at bytes = do
  op ← op_at bytes
  text ← next_text_at op.1
  last text.1 (Control op.0 text.0)

-- the external form of a TERM, and what stands behind it
unfoldable pub term_at : List ℕ → Option (List ℕ × List ℕ)
term_at bytes = do
  inner ← gap_at bytes
  found ← value_at data_of.term MAX_DEPTH inner
  Some (external found.0, found.1)

-- `OP TERM`
unfoldable pub call_at : List ℕ → Option Action
call_at bytes = do
  op ← op_at bytes
  term ← term_at op.1
  last term.1 (Call op.0 term.0)

-- a NUMBER
unfoldable pub only_number_at : List ℕ → Option ℕ
only_number_at bytes = do
  number ← next_number_at bytes
  last number.1 number.0

-- a NAME
unfoldable pub only_name_at : List ℕ → Option (List ℕ)
only_name_at bytes = do
  name ← next_name_at bytes
  last name.1 name.0

-- ---- steps, by the word that says which

-- a step with nothing behind its port
abbrev pub bare_action : List ℕ → Option Action
bare_action kind =
    if bytes_eq kind (codes "close") then Some Close
    else (if bytes_eq kind (codes "sendclose") then Some SendClose
    else (if bytes_eq kind (codes "link") then Some Link
    else (if bytes_eq kind (codes "unlink") then Some Unlink
    else (if bytes_eq kind (codes "monitor") then Some Monitor
    else (if bytes_eq kind (codes "demonitor") then Some Demonitor
    else None)))))

abbrev pub bare_at : List ℕ → List ℕ → Option Action
bare_at kind bytes = bare_action kind >>= last bytes

-- a step with one NAME or NUMBER behind its port
unfoldable pub named_at : List ℕ → List ℕ → Option Action
named_at kind bytes =
    if bytes_eq kind (codes "connect") then (only_name_at bytes >>= λ name. Some (Connect name))
    else (if bytes_eq kind (codes "sendconnect") then (only_name_at bytes >>= λ name. Some (SendConnect name))
    else (if bytes_eq kind (codes "exit") then (only_name_at bytes >>= λ reason. Some (Exit reason))
    else (if bytes_eq kind (codes "expect") then (only_number_at bytes >>= λ count. Some (Expect count))
    else (if bytes_eq kind (codes "bytes") then (only_number_at bytes >>= λ count. Some (Bytes count))
    else bare_at kind bytes))))

-- what stands behind the port of a step
unfoldable pub action_at : List ℕ → List ℕ → Option Action
action_at kind bytes =
    if bytes_eq kind (codes "command") then command_at bytes
    else (if bytes_eq kind (codes "file") then file_at bytes
    else (if bytes_eq kind (codes "send") then send_at bytes
    else (if bytes_eq kind (codes "control") then control_at bytes
    else (if bytes_eq kind (codes "call") then call_at bytes
    else named_at kind bytes))))

-- what a process does, behind the word that says which step it is
unfoldable pub step_behind : List ℕ → List ℕ → List ℕ → Option Statement
step_behind process kind bytes =
    if bytes_eq kind (codes "die") then (only_name_at bytes >>= λ reason. Some (Die process reason))
    else (next_name_at bytes >>= λ port. (action_at kind port.1 >>= λ action. Some (Step process port.0 action)))

-- ---- lines

-- `process NAME`, behind its first word
unfoldable pub process_at : List ℕ → Option Statement
process_at bytes = do
  name ← next_free_name_at bytes
  last name.1 (Process name.0)

-- the declaration of a port whose driver can have each of the options
abbrev pub suited : List ℕ → List ℕ → List ℕ → List PortOption → Option Statement
suited name process driver options = if list_all (suits driver) options then Some (Port name process driver options) else None

-- `port NAME PROCESS DRIVER OPTIONS`, behind its first word
unfoldable pub port_at : List ℕ → Option Statement
port_at bytes = do
  name ← next_free_name_at bytes
  process ← next_name_at name.1
  driver ← next_name_at process.1
  options ← options_at driver.1
  suited name.0 process.0 driver.0 options

-- `journal TEXT`, behind its first word
unfoldable pub journal_at : List ℕ → Option Statement
journal_at bytes = do
  name ← next_file_at bytes
  last name.1 (Journal name.0)

-- `save PROCESS PORT TEXT`, behind its first word
unfoldable pub save_at : List ℕ → Option Statement
save_at bytes = do
  process ← next_name_at bytes
  port ← next_name_at process.1
  name ← next_file_at port.1
  last name.1 (Save process.0 port.0 name.0)

-- a step, behind the name of its process
unfoldable pub step_at : List ℕ → List ℕ → Option Statement
step_at process bytes = do
  process ← free_name_of process
  kind ← next_word_at bytes
  step_behind process kind.0 kind.1

-- a line by its first word, which tells a declaration from a step
unfoldable pub form_at : List ℕ → List ℕ → Option Statement
form_at first bytes =
    if bytes_eq first (codes "process") then process_at bytes
    else (if bytes_eq first (codes "port") then port_at bytes
    else (if bytes_eq first (codes "journal") then journal_at bytes
    else (if bytes_eq first (codes "save") then save_at bytes
    else step_at first bytes)))

-- a byte that a line may have
abbrev pub is_printable : ℕ → Bool
is_printable byte = nat_le 32 byte && nat_le byte 126

-- whether a line of such bytes says nothing: it is empty, or a comment
abbrev pub is_silent : List ℕ → Bool
is_silent [] = true
is_silent (first ∷ rest) = nat_eq first 35

-- what a line says, if it has a form
unfoldable pub statement_of : List ℕ → Option Statement
statement_of line =
    if not (list_all is_printable line) then None
    else (if is_silent line then Some Nothing
    else form_at (word_at line).0 (word_at line).1)

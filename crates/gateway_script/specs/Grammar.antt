-- The grammar of a line. `Forms` says what a line says; here it is said how what is said is written.
use Rattle.std.specs.Prelude.{◌≡◌, ℕ, suc, ◌≤◌, List, [], ◌∷◌, ◌++◌, true, false, None, codes}
use Rattle.std.specs.List.{list_all}
use Rattle.std.specs.Str.{IsUtf8}
use Rattle.packet_framing.specs.declared.mode.Mode.TheVariants.{Packet1, Packet2, Packet4, Line, Stream}
use Rattle.port_signal.specs.Name.{name_fault}
use Rattle.port_terms.specs.Tree.{Tree}
use Rattle.port_terms.specs.Written.{external, flattened}
use Rattle.script_text.specs.Tokens.{gap, SpellsNumber}
use Rattle.script_text.specs.Texts.{SpellsText}
use Rattle.script_text.specs.Data.{SpellsIoList, SpellsTerm}
use Rattle.gateway_script.specs.Words.{is_reserved}
use Rattle.gateway_script.specs.Options.{suits}
use Rattle.gateway_script.specs.Forms.{is_printable}
use Rattle.gateway_script.specs.declared.options.LimitPair.{LimitPair}
use Rattle.gateway_script.specs.declared.options.PortOption.{PortOption}
use Rattle.gateway_script.specs.declared.options.PortOption.TheVariants.{Msgq, MsgqOff, Run, Framing, Eof, ExitStatus, Busy}
use Rattle.gateway_script.specs.declared.statement.Statement.{Statement}
use Rattle.gateway_script.specs.declared.statement.Statement.TheVariants.{Nothing, Process, Port, Journal, Save, Step, Die}
use Rattle.gateway_script.specs.declared.statement.CommandOptions.{CommandOptions}
use Rattle.gateway_script.specs.declared.statement.Action.{Action}
use Rattle.gateway_script.specs.declared.statement.Action.TheVariants.{Command, File, Send, Control, Call, Close, Connect, SendClose, SendConnect, Link, Unlink, Monitor, Demonitor, Exit, Expect, Bytes}

-- a NAME: a letter a to z, and up to 15 letters, digits or `_`
abbrev pub IsName : List ℕ → Type 0
IsName text = name_fault text ≡ None

-- a NAME that a process or a port can have
abbrev pub IsFreeName : List ℕ → Type 0
IsFreeName text = IsName text × (is_reserved text ≡ false)

-- a NUMBER between these
pub record SpellsWithin (low high number : ℕ) (text : List ℕ) : Type 0 where
  pub spelled : SpellsNumber number text
  pub least : low ≤ number
  pub greatest : number ≤ high

-- a TEXT that names a file: it is UTF-8
pub record SpellsFile (name text : List ℕ) : Type 0 where
  pub spelled : SpellsText name text
  pub utf8 : IsUtf8 name

-- LOW and HIGH, each from 1 to 1,073,741,824
pub record SpellsLimits (limits : LimitPair) (text : List ℕ) : Type 0 where
  pub before : ℕ
  pub between : ℕ
  pub low : List ℕ
  pub high : List ℕ
  pub is : text ≡ gap (suc before) ++ (low ++ (gap (suc between) ++ high))
  pub spelled_low : SpellsWithin 1 1073741824 limits.low low
  pub spelled_high : SpellsWithin 1 1073741824 limits.high high

-- An option of a port: the word for it, and what stands behind that.
pub data SpellsOption : PortOption → List ℕ → List ℕ → Type 0 where
  msgq : (limits : LimitPair) (text : List ℕ) → SpellsLimits limits text → SpellsOption (Msgq limits) (codes "msgq") text
  msgq_off : (n : ℕ) → SpellsOption MsgqOff (codes "msgq") (gap (suc n) ++ codes "off")
  run : (command : List ℕ) (n : ℕ) (text : List ℕ) → SpellsText command text → SpellsOption (Run command) (codes "run") (gap (suc n) ++ text)
  packet1 : (n : ℕ) (number : List ℕ) → SpellsNumber 1 number → SpellsOption (Framing Packet1) (codes "packet") (gap (suc n) ++ number)
  packet2 : (n : ℕ) (number : List ℕ) → SpellsNumber 2 number → SpellsOption (Framing Packet2) (codes "packet") (gap (suc n) ++ number)
  packet4 : (n : ℕ) (number : List ℕ) → SpellsNumber 4 number → SpellsOption (Framing Packet4) (codes "packet") (gap (suc n) ++ number)
  line : (limit n : ℕ) (number : List ℕ) → SpellsWithin 1 262143 limit number → SpellsOption (Framing (Line limit)) (codes "line") (gap (suc n) ++ number)
  stream : SpellsOption (Framing Stream) (codes "stream") []
  eof : SpellsOption Eof (codes "eof") []
  exit_status : SpellsOption ExitStatus (codes "exit_status") []
  busy : (limits : LimitPair) (text : List ℕ) → SpellsLimits limits text → SpellsOption (Busy limits) (codes "busy") text

-- The options of a port, each behind one or more spaces.
pub data SpellsOptions : List PortOption → List ℕ → Type 0 where
  none : SpellsOptions [] []
  more : (option : PortOption) (options : List PortOption) (n : ℕ) (kind text rest : List ℕ) → SpellsOption option kind text → SpellsOptions options rest
      → SpellsOptions (option ∷ options) (gap (suc n) ++ (kind ++ (text ++ rest)))

-- HOW: nothing, `force`, `nosuspend` or `force nosuspend`, behind one or more spaces.
pub data SpellsHow : CommandOptions → List ℕ → Type 0 where
  plain : SpellsHow (record { force = false; nosuspend = false }) []
  force : (n : ℕ) → SpellsHow (record { force = true; nosuspend = false }) (gap (suc n) ++ codes "force")
  nosuspend : (n : ℕ) → SpellsHow (record { force = false; nosuspend = true }) (gap (suc n) ++ codes "nosuspend")
  both : (m n : ℕ) → SpellsHow (record { force = true; nosuspend = true }) (gap (suc m) ++ (codes "force" ++ (gap (suc n) ++ codes "nosuspend")))

-- What a process does at a port: the word for it, and what stands behind the port.
pub data SpellsAction : Action → List ℕ → List ℕ → Type 0 where
  command : (payload : Tree) (how : CommandOptions) (n : ℕ) (text behind : List ℕ) → SpellsIoList payload text → SpellsHow how behind
      → SpellsAction (Command (flattened payload) how) (codes "command") (gap (suc n) ++ (text ++ behind))
  file : (size : ℕ) (name : List ℕ) (how : CommandOptions) (m n : ℕ) (number text behind : List ℕ) → SpellsWithin 1 262143 size number → SpellsFile name text → SpellsHow how behind
      → SpellsAction (File size name how) (codes "file") (gap (suc m) ++ (number ++ (gap (suc n) ++ (text ++ behind))))
  send : (payload : Tree) (n : ℕ) (text : List ℕ) → SpellsIoList payload text → SpellsAction (Send (flattened payload)) (codes "send") (gap (suc n) ++ text)
  control : (op : ℕ) (bytes : List ℕ) (m n : ℕ) (number text : List ℕ) → SpellsWithin 0 4294967295 op number → SpellsText bytes text
      → SpellsAction (Control op bytes) (codes "control") (gap (suc m) ++ (number ++ (gap (suc n) ++ text)))
  call : (op : ℕ) (term : Tree) (m n : ℕ) (number text : List ℕ) → SpellsWithin 0 4294967295 op number → SpellsTerm term text
      → SpellsAction (Call op (external term)) (codes "call") (gap (suc m) ++ (number ++ (gap (suc n) ++ text)))
  connect : (to : List ℕ) (n : ℕ) → IsName to → SpellsAction (Connect to) (codes "connect") (gap (suc n) ++ to)
  sendconnect : (to : List ℕ) (n : ℕ) → IsName to → SpellsAction (SendConnect to) (codes "sendconnect") (gap (suc n) ++ to)
  exit : (reason : List ℕ) (n : ℕ) → IsName reason → SpellsAction (Exit reason) (codes "exit") (gap (suc n) ++ reason)
  expect : (count n : ℕ) (number : List ℕ) → SpellsNumber count number → SpellsAction (Expect count) (codes "expect") (gap (suc n) ++ number)
  bytes : (count n : ℕ) (number : List ℕ) → SpellsNumber count number → SpellsAction (Bytes count) (codes "bytes") (gap (suc n) ++ number)
  close : SpellsAction Close (codes "close") []
  sendclose : SpellsAction SendClose (codes "sendclose") []
  link : SpellsAction Link (codes "link") []
  unlink : SpellsAction Unlink (codes "unlink") []
  monitor : SpellsAction Monitor (codes "monitor") []
  demonitor : SpellsAction Demonitor (codes "demonitor") []

-- What stands in a line of each form.
pub data SpellsForm : Statement → List ℕ → Type 0 where
  empty : SpellsForm Nothing []
  comment : (text : List ℕ) → SpellsForm Nothing (codes "#" ++ text)
  process : (name : List ℕ) (n : ℕ) → IsFreeName name → SpellsForm (Process name) (codes "process" ++ (gap (suc n) ++ name))
  port : (name process driver : List ℕ) (options : List PortOption) (l m n : ℕ) (rest : List ℕ) → IsFreeName name → IsName process → IsName driver
      → SpellsOptions options rest → list_all (suits driver) options ≡ true
      → SpellsForm (Port name process driver options) (codes "port" ++ (gap (suc l) ++ (name ++ (gap (suc m) ++ (process ++ (gap (suc n) ++ (driver ++ rest)))))))
  journal : (name : List ℕ) (n : ℕ) (text : List ℕ) → SpellsFile name text → SpellsForm (Journal name) (codes "journal" ++ (gap (suc n) ++ text))
  save : (process port name : List ℕ) (l m n : ℕ) (text : List ℕ) → IsName process → IsName port → SpellsFile name text
      → SpellsForm (Save process port name) (codes "save" ++ (gap (suc l) ++ (process ++ (gap (suc m) ++ (port ++ (gap (suc n) ++ text))))))
  step : (process port : List ℕ) (action : Action) (m n : ℕ) (kind rest : List ℕ) → IsFreeName process → IsName port → SpellsAction action kind rest
      → SpellsForm (Step process port action) (process ++ (gap (suc m) ++ (kind ++ (gap (suc n) ++ (port ++ rest)))))
  die : (process reason : List ℕ) (m n : ℕ) → IsFreeName process → IsName reason
      → SpellsForm (Die process reason) (process ++ (gap (suc m) ++ (codes "die" ++ (gap (suc n) ++ reason))))

-- a line: printable bytes of a form
pub record SpellsLine (said : Statement) (line : List ℕ) : Type 0 where
  pub printable : list_all is_printable line ≡ true
  pub form : SpellsForm said line

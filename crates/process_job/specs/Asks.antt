-- The calls that a process makes by its steps, and which of them were made.
use Rattle.std.specs.Prelude.{ℕ, ◌+◌, List, [], ◌∷◌, ◌++◌, Bool, true, false, length, take, drop, map, reverse, codes, if◌then◌else◌}
use Rattle.std.proofs.Common.{zero, suc}
use Rattle.port_model.specs.declared.signal.Signal.TheVariants as signal
use Rattle.process_end.specs.process_receipts.declared.how.How.{How}
use Rattle.process_end.specs.process_receipts.declared.how.How.TheVariants as how
use Rattle.process_end.specs.process_receipts.declared.receipt.Outcome.{Outcome}
use Rattle.process_end.specs.process_receipts.declared.receipt.Outcome.TheVariants as outcome
use Rattle.process_end.specs.process_receipts.declared.receipt.Receipt.{Receipt}
use Rattle.process_end.specs.process_receipts.Asks.{Asked, asked}
use Rattle.process_end.specs.Commanded.{command_of}
use Rattle.process_end.specs.Ended.{gone_asks}
use Rattle.script_plan.specs.declared.step.Step.{Step}
use Rattle.script_plan.specs.declared.step.Act.{Act}
use Rattle.script_plan.specs.declared.step.Act.TheVariants.{Command, File, Send, Control, Call, Close, Connect, SendClose, SendConnect, Link, Unlink, Monitor, Demonitor, Exit, Die}
use Rattle.script_plan.specs.Monitors.{is_die}

-- data as a vector: one segment, or none where there are no bytes
abbrev pub vector_of : List ℕ → List (List ℕ)
vector_of [] = []
vector_of (byte ∷ bytes) = (byte ∷ bytes) ∷ []

-- so many pieces of a content at most
abbrev pub pieces_up_to : ℕ → ℕ → List ℕ → List (List ℕ)
pieces_up_to zero size bytes = []
pieces_up_to (suc count) size [] = []
pieces_up_to (suc count) size (byte ∷ bytes) = take size (byte ∷ bytes) ∷ pieces_up_to count size (drop size (byte ∷ bytes))

-- a content in pieces of `size` bytes, the last one shorter, and none of an empty content. There are at most as many as bytes
abbrev pub pieces : ℕ → List ℕ → List (List ℕ)
pieces size content = pieces_up_to (length content) size content

-- how a command with the options `force` and `nosuspend` is sent
abbrev pub how_of : Bool → Bool → How
how_of false false = how.Plain
how_of false true = how.NoSuspend
how_of true false = how.Force
how_of true true = how.ForceNoSuspend

abbrev pub command_ask : ℕ → ℕ → How → List ℕ → Asked
command_ask line port how bytes = asked line port (command_of how (vector_of bytes)) how

-- The calls of a step on this line, in order. `content` is that of its file. A step that waits makes none, and so does the one that ends the process
abbrev pub asks_of : ℕ → Act → List ℕ → List Asked
asks_of line (Command port bytes force nosuspend) content = command_ask line port (how_of force nosuspend) bytes ∷ []
asks_of line (File port size file force nosuspend) content = map (command_ask line port (how_of force nosuspend)) (pieces size content)
asks_of line (Send port bytes) content = command_ask line port how.Owner bytes ∷ []
asks_of line (Control port op bytes) content = asked line port (signal.Control op bytes) how.Plain ∷ []
asks_of line (Call port op bytes) content = asked line port (signal.Call op bytes) how.Plain ∷ []
asks_of line (Close port) content = asked line port signal.Close how.Plain ∷ []
asks_of line (Connect port to) content = asked line port (signal.Connect to) how.Plain ∷ []
asks_of line (SendClose port) content = asked line port signal.OwnerClose how.Plain ∷ []
asks_of line (SendConnect port to) content = asked line port (signal.OwnerConnect to) how.Plain ∷ []
asks_of line (Link port) content = asked line port signal.Link how.Plain ∷ []
asks_of line (Unlink port) content = asked line port signal.Unlink how.Plain ∷ []
asks_of line (Monitor port number) content = asked line port (signal.Monitor number) how.Plain ∷ []
asks_of line (Demonitor port number) content = asked line port (signal.Demonitor number) how.Plain ∷ []
asks_of line (Exit port reason) content = asked line port (signal.Exit reason) how.Plain ∷ []
asks_of line _ content = []

-- the content of the next file, and those behind it, where the act sends a file
abbrev pub next_content : List (List ℕ) → List ℕ
next_content [] = []
next_content (content ∷ contents) = content

abbrev pub is_file : Act → Bool
is_file (File port size file force nosuspend) = true
is_file _ = false

abbrev pub files_after : Act → List (List ℕ) → List (List ℕ)
files_after act files = if is_file act then drop 1 files else files

-- The calls of each step in turn, up to the one that ends the process. `files` has the contents of the files of the steps, in their order
abbrev pub calls_of : List Step → List (List ℕ) → List (List Asked)
calls_of [] files = []
calls_of (step ∷ steps) files =
    if is_die step.act then [] else (asks_of step.line step.act (next_content files) ∷ calls_of steps (files_after step.act files))

-- why the process ends: for the reason of the first step that ends it, or with `normal`
abbrev pub reason_of : Act → List ℕ → List ℕ
reason_of (Die reason) later = reason
reason_of _ later = later

abbrev pub end_reason : List Step → List ℕ
end_reason [] = codes "normal"
end_reason (step ∷ steps) = reason_of step.act (end_reason steps)

-- the outcome ends the calls of a file
abbrev pub ends_file : Outcome → Bool
ends_file outcome.Closed = true
ends_file outcome.SentOut = true
ends_file _ = false

-- The calls of one step that were made, by the receipts from its first one on: those up to the first that was SentOut or Closed, and that one. So of a step that makes one
-- call none is left out
abbrev pub made_of_step : List Asked → List Receipt → List Asked
made_of_step [] receipts = []
made_of_step (ask ∷ asks) [] = []
made_of_step (ask ∷ asks) (receipt ∷ receipts) = ask ∷ (if ends_file receipt.outcome then [] else made_of_step asks receipts)

-- the calls of the steps that were made, in order, by the receipts of the process, in order
abbrev pub made_of : List (List Asked) → List Receipt → List Asked
made_of [] receipts = []
made_of (asks ∷ later) receipts = made_of_step asks receipts ++ made_of later (drop (length (made_of_step asks receipts)) receipts)

-- and then those by which each of so many ports is told of the end, by rising number
abbrev pub made_asks : ℕ → List Step → List (List ℕ) → List Receipt → List Asked
made_asks ports steps files receipts = made_of (calls_of steps files) receipts ++ reverse (gone_asks (end_reason steps) 0 ports)

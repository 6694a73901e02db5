-- The words of all ports, once the seats of all processes were joined.
use Rattle.std.specs.Prelude.{◌≡◌, ℕ, ◌<◌, List, [], All, length, map, slice_index_or}
use Rattle.port_words.specs.busy.Known.{PortKnown}
use Rattle.run_end.specs.Shown.{QueueWordsHold, WordsHold}
use Rattle.run_end.specs.Ran.{RanProcess, calls_made}
use Rattle.run_end.specs.Rows.{HaveJoinedRows}
use Rattle.run_end.specs.Tell.{HaveRunWhole}

-- the port has so many senders, of which it took in no seat
abbrev pub HasJoinedNone : ℕ → PortKnown → Type 0
HasJoinedNone senders port = (port.known.senders ≡ []) × (port.known.setup.senders ≡ senders)

-- the words in all receipts for this port hold
abbrev pub AllWordsHold : ℕ → PortKnown → List RanProcess → Type 0
AllWordsHold number port processes = All (WordsHold number port.known.setup.limits port.known.marks (map calls_made processes)) (map calls_made processes)

-- so they do for each port whose senders are these processes, in their order
abbrev pub RunWordsHold : Type 0
RunWordsHold = (old new : List PortKnown) (processes : List RanProcess) → HaveRunWhole (length old) processes → All (HasJoinedNone (length processes)) old
    → HaveJoinedRows old (map (λ p. p.end.seats.items) processes) new → (k : ℕ) (d : PortKnown) → k < length old → AllWordsHold k (slice_index_or old k d) processes

-- and the words hold that each of these ports itself found or left
abbrev pub RunPortsHold : Type 0
RunPortsHold = (old new : List PortKnown) (processes : List RanProcess) → HaveRunWhole (length old) processes → All (HasJoinedNone (length processes)) old
    → HaveJoinedRows old (map (λ p. p.end.seats.items) processes) new → (k : ℕ) (d : PortKnown) → k < length old
    → QueueWordsHold k (slice_index_or old k d).known.setup.limits (map calls_made processes) (slice_index_or old k d).known.words

-- Reading on lists: a value and the bytes behind it, where its text stands in front of the bytes of a line.
use Rattle.std.specs.Prelude.{ℕ, ℤ, pos, negsuc, zero, suc, ◌+◌, ◌-◌, ◌^◌, ◌==◌, Bool, true, false, not, ◌&&◌, ◌||◌, nat_lt, nat_le, is_none, if◌then◌else◌, List, [], ◌∷◌, length, drop, Option, Some, None, Result, Ok, Err, codes, option_and_then}
use Rattle.std.specs.List.{list_all, take_while, prefix_len}
use Rattle.std.specs.Str.{bytes_eq}
use Rattle.std.specs.Str.Parse.{digits_value}
use Rattle.hex.specs.Hex.{decode_of}
use Rattle.hex.specs.declared.error.FromHexError.{FromHexError}
use Rattle.port_signal.specs.Name.{name_fault}
use Rattle.port_model.specs.declared.event.Dir.{Dir}
use Rattle.port_model.specs.declared.event.Dir.TheVariants.{Read, Write}
use Rattle.port_model.specs.declared.signal.Sender.{Sender}
use Rattle.port_model.specs.declared.signal.Sender.TheVariants.{Process, Poller, Worker, Timer}
use Rattle.port_model.specs.declared.signal.Signal.{Signal}
use Rattle.port_model.specs.declared.signal.Signal.TheVariants as signal
use Rattle.port_model.specs.Tasks.{TaskView}
use Rattle.io_vector.specs.declared.flag.Flag.{Flag}
use Rattle.io_vector.specs.declared.flag.Flag.TheVariants as flag
use Rattle.port_signal.specs.declared.outside.Outside.{Outside}
use Rattle.port_signal.specs.declared.outside.Outside.TheVariants as answer
use Rattle.port_model.specs.declared.effect.Effect.{Effect}
use Rattle.port_model.specs.declared.effect.Effect.TheVariants as effect
use Rattle.journal_text.specs.declared.how.CommandFlags.{CommandFlags}
use Rattle.journal_text.specs.declared.how.CommandFlags.TheVariants.{Plain, Suspends, Forced}
use Rattle.journal_text.specs.Words.{is_word_byte}
use Rattle.journal_text.specs.Signals.{task_of}

-- ---- ways to read

infixl 10 ◌>>=◌
abbrev pub ◌>>=◌ : {A B : Type 0} → Option A → (A → Option B) → Option B
o >>= f = option_and_then f o

-- what stands behind this byte, if it is the first one
abbrev pub after : ℕ → List ℕ → Option (List ℕ)
after byte [] = None
after byte (first ∷ rest) = if first == byte then Some rest else None

-- what stands behind the longest front that passes
abbrev pub behind : (ℕ → Bool) → List ℕ → List ℕ
behind passes bytes = drop (prefix_len passes bytes) bytes

-- what a word is, and what stands behind it
abbrev pub field_at : {A : Type 0} → (List ℕ → Option A) → List ℕ → Option (A × List ℕ)
field_at of bytes = of (take_while is_word_byte bytes) >>= λ x. Some (x, behind is_word_byte bytes)

-- by the word in front
abbrev pub by_word : {A : Type 0} → (List ℕ → List ℕ → Option (A × List ℕ)) → List ℕ → Option (A × List ℕ)
by_word by bytes = by (take_while is_word_byte bytes) (behind is_word_byte bytes)

-- behind one space
abbrev pub spaced_at : {A : Type 0} → (List ℕ → Option (A × List ℕ)) → List ℕ → Option (A × List ℕ)
spaced_at at bytes = after 32 bytes >>= at

-- one value, and behind a space another
abbrev pub pair_at : {A B : Type 0} → (List ℕ → Option (A × List ℕ)) → (List ℕ → Option (B × List ℕ)) → List ℕ → Option ((A × B) × List ℕ)
pair_at first second bytes = first bytes >>= λ x. (spaced_at second x.1 >>= λ y. Some ((x.0, y.0), y.1))

-- what is made of a value that was read
abbrev pub made : {A B : Type 0} → (A → B) → Option (A × List ℕ) → Option (B × List ℕ)
made of read = read >>= λ x. Some (of x.0, x.1)

-- ---- numbers, names and bytes

-- a byte 0 to 9
abbrev pub is_digit : ℕ → Bool
is_digit byte = nat_le 48 byte && nat_le byte 57

-- decimal digits without leading zeros
abbrev pub is_numeral : List ℕ → Bool
is_numeral [] = false
is_numeral (first ∷ digits) = list_all is_digit (first ∷ digits) && (not (first == 48) || length digits == 0)

-- a number below this one
unfoldable pub number_of : ℕ → List ℕ → Option ℕ
number_of limit word = if is_numeral word && nat_lt (digits_value 10 word) limit then Some (digits_value 10 word) else None

abbrev pub number_at : ℕ → List ℕ → Option (ℕ × List ℕ)
number_at limit = field_at (number_of limit)

-- a whole number of 32 bits
abbrev pub negative : ℕ → Option ℤ
negative zero = None
negative (suc n) = Some (negsuc n)

unfoldable pub status_of : List ℕ → Option ℤ
status_of [] = None
status_of (first ∷ digits) =
    if first == 45 then (number_of (2 ^ 31 + 1) digits >>= negative) else (number_of (2 ^ 31) (first ∷ digits) >>= λ n. Some (pos n))

abbrev pub status_at : List ℕ → Option (ℤ × List ℕ)
status_at = field_at status_of

unfoldable pub name_of : List ℕ → Option (List ℕ)
name_of word = if is_none (name_fault word) then Some word else None

abbrev pub name_at : List ℕ → Option (List ℕ × List ℕ)
name_at = field_at name_of

-- a digit 0 to 9 or a to f
abbrev pub is_lower_digit : ℕ → Bool
is_lower_digit byte = (nat_le 48 byte && nat_le byte 57) || (nat_le 97 byte && nat_le byte 102)

abbrev pub decoded : Result (List ℕ) FromHexError → Option (List ℕ)
decoded (Ok bytes) = Some bytes
decoded (Err error) = None

unfoldable pub bytes_of : List ℕ → Option (List ℕ)
bytes_of word =
    if bytes_eq word (codes "-") then Some []
    else (if list_all is_lower_digit word && nat_lt 0 (length word) then decoded (decode_of word) else None)

abbrev pub bytes_at : List ℕ → Option (List ℕ × List ℕ)
bytes_at = field_at bytes_of

-- the vector of these bytes
abbrev pub payload_of : List ℕ → List (List ℕ)
payload_of [] = []
payload_of (byte ∷ bytes) = (byte ∷ bytes) ∷ []

abbrev pub payload_at : List ℕ → Option (List (List ℕ) × List ℕ)
payload_at bytes = made payload_of (bytes_at bytes)

-- ---- senders and tasks

unfoldable pub sender_of : ℕ → List ℕ → Option Sender
sender_of names [] = None
sender_of names (first ∷ digits) =
    if first == 112 then (number_of names digits >>= λ n. Some (Process n))
    else (if first == 119 then (number_of (2 ^ 32) digits >>= λ n. Some (Worker n))
    else (if length digits == 0 then (if first == 101 then Some Poller else (if first == 116 then Some Timer else None)) else None))

abbrev pub sender_at : ℕ → List ℕ → Option (Sender × List ℕ)
sender_at names = field_at (sender_of names)

unfoldable pub how_of : List ℕ → Option CommandFlags
how_of word =
    if bytes_eq word (codes "-") then Some Plain
    else (if bytes_eq word (codes "s") then Some Suspends
    else (if bytes_eq word (codes "f") then Some Forced else None))

abbrev pub how_at : List ℕ → Option (CommandFlags × List ℕ)
how_at = field_at how_of

-- a signal of the poller or of a worker, behind its word
unfoldable pub event_by : List ℕ → List ℕ → Option (Signal × List ℕ)
event_by word rest =
    if bytes_eq word (codes "input") then made (λ event. signal.Ready event Read) (spaced_at (number_at (2 ^ 32)) rest)
    else (if bytes_eq word (codes "output") then made (λ event. signal.Ready event Write) (spaced_at (number_at (2 ^ 32)) rest)
    else (if bytes_eq word (codes "dropped") then made signal.Dropped (spaced_at (number_at (2 ^ 32)) rest)
    else (if bytes_eq word (codes "done") then made (λ p. signal.AsyncDone p.0 p.1) (spaced_at (pair_at (number_at (2 ^ 64)) bytes_at) rest)
    else None)))

-- a signal of a process that carries a number or a reason, behind its word
unfoldable pub carrying_by : ℕ → List ℕ → List ℕ → Option (Signal × List ℕ)
carrying_by names word rest =
    if bytes_eq word (codes "connect") then made signal.Connect (spaced_at (number_at names) rest)
    else (if bytes_eq word (codes "ownerconnect") then made signal.OwnerConnect (spaced_at (number_at names) rest)
    else (if bytes_eq word (codes "monitor") then made signal.Monitor (spaced_at (number_at (2 ^ 64)) rest)
    else (if bytes_eq word (codes "demonitor") then made signal.Demonitor (spaced_at (number_at (2 ^ 64)) rest)
    else (if bytes_eq word (codes "exit") then made signal.Exit (spaced_at name_at rest)
    else (if bytes_eq word (codes "gone") then made signal.Gone (spaced_at name_at rest)
    else event_by word rest)))))

-- a signal that isn't a command, behind its word
unfoldable pub signal_by : ℕ → List ℕ → List ℕ → Option (Signal × List ℕ)
signal_by names word rest =
    if bytes_eq word (codes "control") then made (λ p. signal.Control p.0 p.1) (spaced_at (pair_at (number_at (2 ^ 32)) bytes_at) rest)
    else (if bytes_eq word (codes "call") then made (λ p. signal.Call p.0 p.1) (spaced_at (pair_at (number_at (2 ^ 32)) bytes_at) rest)
    else (if bytes_eq word (codes "close") then Some (signal.Close, rest)
    else (if bytes_eq word (codes "ownerclose") then Some (signal.OwnerClose, rest)
    else (if bytes_eq word (codes "link") then Some (signal.Link, rest)
    else (if bytes_eq word (codes "unlink") then Some (signal.Unlink, rest)
    else carrying_by names word rest)))))

unfoldable pub task_by : ℕ → List ℕ → List ℕ → Option (TaskView × List ℕ)
task_by names word rest =
    if bytes_eq word (codes "command") then made (λ p. task_of p.0 (signal.Command p.1)) (spaced_at (pair_at how_at payload_at) rest)
    else (if bytes_eq word (codes "send") then made (λ p. task_of p.0 (signal.OwnerCommand p.1)) (spaced_at (pair_at how_at payload_at) rest)
    else made (task_of Plain) (signal_by names word rest))

abbrev pub task_at : ℕ → List ℕ → Option (TaskView × List ℕ)
task_at names = by_word (task_by names)

-- ---- answers and effects

unfoldable pub answer_by : List ℕ → List ℕ → Option (Outside × List ℕ)
answer_by word rest =
    if bytes_eq word (codes "took") then made answer.Took (spaced_at (number_at (2 ^ 32)) rest)
    else (if bytes_eq word (codes "got") then made answer.Got (spaced_at bytes_at rest)
    else (if bytes_eq word (codes "again") then Some (answer.Again, rest)
    else (if bytes_eq word (codes "end") then Some (answer.End, rest)
    else (if bytes_eq word (codes "failed") then Some (answer.Failed, rest)
    else (if bytes_eq word (codes "status") then made answer.Status (spaced_at status_at rest)
    else None)))))

abbrev pub answer_at : List ℕ → Option (Outside × List ℕ)
answer_at = by_word answer_by

unfoldable pub flag_of : List ℕ → Option Flag
flag_of word =
    if bytes_eq word (codes "plain") then Some flag.Plain
    else (if bytes_eq word (codes "eol") then Some flag.Eol
    else (if bytes_eq word (codes "noeol") then Some flag.Noeol else None))

unfoldable pub dir_of : List ℕ → Option Dir
dir_of word = if bytes_eq word (codes "r") then Some Read else (if bytes_eq word (codes "w") then Some Write else None)

unfoldable pub bit_of : List ℕ → Option Bool
bit_of word = if bytes_eq word (codes "0") then Some false else (if bytes_eq word (codes "1") then Some true else None)

-- bytes, or `badarg`
unfoldable pub reply_of : List ℕ → Option Effect
reply_of word = if bytes_eq word (codes "badarg") then Some effect.ReplyBadarg else (bytes_of word >>= λ bytes. Some (effect.Reply bytes))

-- an effect on events, jobs and processes, behind its word
unfoldable pub asking_by : ℕ → List ℕ → List ℕ → Option (Effect × List ℕ)
asking_by names word rest =
    if bytes_eq word (codes "select") then made (λ p. effect.Select p.0 p.1.0 p.1.1) (spaced_at (pair_at (number_at (2 ^ 32)) (pair_at (field_at dir_of) (field_at bit_of))) rest)
    else (if bytes_eq word (codes "unuse") then made effect.Unuse (spaced_at (number_at (2 ^ 32)) rest)
    else (if bytes_eq word (codes "async") then made (λ p. effect.Async p.0 p.1.0 p.1.1.0 p.1.1.1) (spaced_at (pair_at (number_at (2 ^ 64)) (pair_at (number_at (2 ^ 32)) (pair_at (number_at 256) bytes_at))) rest)
    else (if bytes_eq word (codes "watch") then made effect.Watch (spaced_at (number_at names) rest)
    else None)))

unfoldable pub effect_by : ℕ → List ℕ → List ℕ → Option (Effect × List ℕ)
effect_by names word rest =
    if bytes_eq word (codes "data") then made (λ p. effect.Message p.0 p.1) (spaced_at (pair_at (field_at flag_of) bytes_at) rest)
    else (if bytes_eq word (codes "eof") then Some (effect.Eof, rest)
    else (if bytes_eq word (codes "xstatus") then made effect.Status (spaced_at status_at rest)
    else (if bytes_eq word (codes "busy") then made effect.Busy (spaced_at (field_at bit_of) rest)
    else (if bytes_eq word (codes "reply") then spaced_at (field_at reply_of) rest
    else (if bytes_eq word (codes "fail") then made effect.Fail (spaced_at name_at rest)
    else asking_by names word rest)))))

abbrev pub effect_at : ℕ → List ℕ → Option (Effect × List ℕ)
effect_at names = by_word (effect_by names)

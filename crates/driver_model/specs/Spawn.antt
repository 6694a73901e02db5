-- The driver of a program: it frames the data of commands and offers it to the program, and unframes what the program gives.
use Rattle.std.specs.Prelude.{◌==◌, ◌&&◌, ◌||◌, not, ℕ, ◌+◌, ◌-◌, List, [], ◌∷◌, ◌++◌, length, take, drop, map, min, nat_le, nat_lt, Bool, true, false, if◌then◌else◌, codes}
use Rattle.port_model.specs.io_vector.declared.flag.Flag.TheVariants.{Plain}
use Rattle.port_config.specs.packet_framing.declared.mode.Mode.{Mode}
use Rattle.port_config.specs.packet_framing.declared.mode.Mode.TheVariants.{Line, Stream}
use Rattle.port_config.specs.packet_framing.declared.message.Message.{Message as Unframed}
use Rattle.port_config.specs.packet_framing.Frames.{header_len, header_limit, frame_of}
use Rattle.port_config.specs.packet_framing.Packets.{told_len}
use Rattle.port_config.specs.packet_framing.Messages.{last_message, messages_of, rest_of}
use Rattle.port_config.specs.declared.config.Config.{Config}
use Rattle.port_model.specs.port_signal.declared.outside.Outside.{Outside}
use Rattle.port_model.specs.port_signal.declared.outside.Outside.TheVariants.{Took, Got, Again, End, Failed, Status}
use Rattle.port_model.specs.declared.event.Dir.TheVariants.{Read, Write}
use Rattle.port_model.specs.declared.effect.Effect.{Effect}
use Rattle.port_model.specs.declared.effect.Effect.TheVariants.{Message, Eof, Status as TellStatus, Busy, Select, ReplyBadarg, Fail}
use Rattle.driver_model.specs.Calls.{Callback, Start, Outputv, Control, Call, ReadyInput, ReadyOutput, DriverCall, Program, is_empty}

-- the most bytes of one offer and of one fetch
abbrev pub most_at_once : ℕ
most_at_once = 65536

-- the most bytes that are taken from one program
abbrev pub most_taken : ℕ
most_taken = 33554432

-- a header of the mode can tell so many bytes
abbrev pub fits : Mode → ℕ → Bool
fits (Line limit) size = true
fits Stream size = true
fits mode size = nat_lt size (header_limit mode)

-- the frame of a command's data, where its length fits
abbrev pub framed : Config → Callback → List ℕ
framed config (Outputv bytes) = if fits config.mode (length bytes) then frame_of config.mode bytes else []
framed config callback = []

-- the frames of all commands so far, in their order
abbrev pub asked : Config → List DriverCall → List ℕ
asked config [] = []
asked config (call ∷ earlier) = asked config earlier ++ framed config call.callback

-- how many bytes the program took by these answers
abbrev pub took_by : List Outside → ℕ
took_by [] = 0
took_by (Took n ∷ answers) = n + took_by answers
took_by (answer ∷ answers) = took_by answers

-- the bytes that the program gave by these answers
abbrev pub got_by : List Outside → List ℕ
got_by [] = []
got_by (Got bytes ∷ answers) = bytes ++ got_by answers
got_by (answer ∷ answers) = got_by answers

-- a call of the program failed
abbrev pub has_failed : List Outside → Bool
has_failed [] = false
has_failed (Failed ∷ answers) = true
has_failed (answer ∷ answers) = has_failed answers

-- the program told the end of its output
abbrev pub has_end : List Outside → Bool
has_end [] = false
has_end (End ∷ answers) = true
has_end (answer ∷ answers) = has_end answers

-- how many bytes the program was given: no more than there are
abbrev pub given : Config → List DriverCall → ℕ
given config [] = 0
given config (call ∷ earlier) = min (given config earlier + took_by call.outside) (length (asked config (call ∷ earlier)))

-- the bytes that were taken from the program, in their order
abbrev pub taken_bytes : List DriverCall → List ℕ
taken_bytes [] = []
taken_bytes (call ∷ earlier) = taken_bytes earlier ++ got_by call.outside

-- those of them that came since its output last ended
abbrev pub unended_bytes : List DriverCall → List ℕ
unended_bytes [] = []
unended_bytes (call ∷ earlier) = if has_end call.outside then [] else unended_bytes earlier ++ got_by call.outside

-- a call of the program has failed
abbrev pub program_failed : List DriverCall → Bool
program_failed [] = false
program_failed (call ∷ earlier) = has_failed call.outside || program_failed earlier

-- the driver queue: the frames but for what the program was given, and nothing once a call of the program failed
abbrev pub spawn_queue : Config → List DriverCall → List ℕ
spawn_queue config calls = if program_failed calls then [] else drop (given config calls) (asked config calls)

-- whether the port is held busy after a callback that left a queue of this size: a command's frame sets busy at the high limit, and what
-- the program takes frees it below the low limit
abbrev pub held_busy : Config → Bool → ℕ → Callback → List Outside → Bool
held_busy config busy size (Outputv bytes) answers = busy || (fits config.mode (length bytes) && nat_le config.busy_high size)
held_busy config busy size (ReadyOutput event) answers = busy && (has_failed answers || nat_le config.busy_low size)
held_busy config busy size callback answers = busy

-- whether the driver holds its port busy
abbrev pub holds_busy : Config → List DriverCall → Bool
holds_busy config [] = false
holds_busy config (call ∷ earlier) =
    held_busy config (holds_busy config earlier) (length (spawn_queue config (call ∷ earlier))) call.callback call.outside

-- the events of the program after a callback, if before it they were these
abbrev pub read_after : Callback → ℕ → ℕ
read_after (Start read write) event = read
read_after callback event = event

abbrev pub write_after : Callback → ℕ → ℕ
write_after (Start read write) event = write
write_after callback event = event

-- the event of what the program gives, as `start` told it
abbrev pub read_event : List DriverCall → ℕ
read_event [] = 0
read_event (call ∷ earlier) = read_after call.callback (read_event earlier)

-- the event of what the program takes
abbrev pub write_event : List DriverCall → ℕ
write_event [] = 0
write_event (call ∷ earlier) = write_after call.callback (write_event earlier)

-- a header in front of the rest tells more than 262,143 bytes
abbrev pub is_oversize : Mode → List ℕ → Bool
is_oversize (Line limit) rest = false
is_oversize Stream rest = false
is_oversize mode rest = nat_le (header_len mode) (length rest) && nat_lt 262143 (told_len mode rest)

-- no more messages are found: more bytes were taken than may be, or a header told too many
abbrev pub is_refused : Config → List DriverCall → Bool
is_refused config [] = false
is_refused config (call ∷ earlier) =
    is_refused config earlier || (nat_lt most_taken (length (taken_bytes (call ∷ earlier)))
    || is_oversize config.mode (rest_of config.mode (unended_bytes (call ∷ earlier))))

-- the bytes that no message has yet, as long as messages are found
abbrev pub rest : Config → List DriverCall → List ℕ
rest config calls = if is_refused config calls then [] else rest_of config.mode (unended_bytes calls)

-- what the driver keeps beside its queue
abbrev pub program : Config → List DriverCall → Program
program config calls = record {
  config = config;
  read = read_event calls;
  write = write_event calls;
  rest = rest config calls;
  refused = is_refused config calls;
  taken = length (taken_bytes calls);
  busy = holds_busy config calls;
  failed = program_failed calls;
}

-- the effects of a command whose frame left this queue
abbrev pub output_effects : Config → List DriverCall → List ℕ → List Effect
output_effects config earlier queue =
    (if is_empty (spawn_queue config earlier) && not (is_empty queue) then Select (write_event earlier) Write true ∷ [] else [])
    ++ (if nat_le config.busy_high (length queue) && not (holds_busy config earlier) then Busy true ∷ [] else [])

-- the effects of what the program took of the queue, or of a failure
abbrev pub offer_effects : Config → List DriverCall → List ℕ → List Outside → List Effect
offer_effects config earlier queue answers =
    if has_failed answers then Fail (codes "eio") ∷ []
    else (if holds_busy config earlier && nat_lt (length queue) config.busy_low then Busy false ∷ [] else [])
    ++ (if is_empty queue then Select (write_event earlier) Write false ∷ [] else [])

-- the bytes in pieces of these lengths, where these are lengths of pieces that aren't empty and make up all the bytes; else one piece
abbrev pub is_cut : List ℕ → ℕ → Bool
is_cut [] size = size == 0
is_cut (len ∷ lens) size = nat_lt 0 len && nat_le len size && is_cut lens (size - len)

abbrev pub pieces : List ℕ → List ℕ → List (List ℕ)
pieces [] bytes = []
pieces (len ∷ lens) bytes = take len bytes ∷ pieces lens (drop len bytes)

abbrev pub cut_into : List ℕ → List ℕ → List (List ℕ)
cut_into lens bytes = if is_cut lens (length bytes) then pieces lens bytes else bytes ∷ []

abbrev pub sent : Unframed → Effect
sent m = Message m.flag m.bytes

abbrev pub plain_message : List ℕ → Effect
plain_message bytes = Message Plain bytes

-- the messages that bytes bring after those before them: a stream is cut into pieces of these lengths
abbrev pub brought : Mode → List ℕ → List ℕ → List ℕ → List Effect
brought Stream cut before bytes = map plain_message (cut_into cut bytes)
brought mode cut before bytes = map sent (drop (length (messages_of mode before)) (messages_of mode (before ++ bytes)))

-- the effects of bytes that the program gave, after earlier calls
abbrev pub got_effects : Config → List DriverCall → DriverCall → List ℕ → List Effect
got_effects config earlier call bytes =
    if nat_lt most_taken (length (taken_bytes (call ∷ earlier))) then Fail (codes "enospc") ∷ []
    else (if is_refused config (call ∷ earlier) then Fail (codes "emsgsize") ∷ []
    else brought config.mode call.cut (unended_bytes earlier) bytes)

-- the effects of the answer to a question for the program's status: the status, or a failure
abbrev pub status_effects : List Outside → List Effect
status_effects (Status status ∷ answers) = TellStatus status ∷ []
status_effects (Failed ∷ answers) = Fail (codes "eio") ∷ []
status_effects answers = []

-- the effects of the end of the program's output: the last message, what the options ask to tell, no more reading, and the end of the
-- port unless the option eof keeps it
abbrev pub end_effects : Config → List DriverCall → List Outside → List Effect
end_effects config earlier answers =
    map sent (last_message config.mode (rest config earlier))
    ++ (if config.eof then Eof ∷ [] else [])
    ++ (if config.exit_status then status_effects answers else [])
    ++ Select (read_event earlier) Read false ∷ []
    ++ (if config.eof || has_failed answers then [] else Fail (codes "normal") ∷ [])

-- the effects of a fetch that was answered so
abbrev pub fetch_effects : Config → List DriverCall → DriverCall → List Outside → List Effect
fetch_effects config earlier call (Got bytes ∷ answers) = got_effects config earlier call bytes
fetch_effects config earlier call (Failed ∷ answers) = Fail (codes "eio") ∷ []
fetch_effects config earlier call (End ∷ answers) = end_effects config earlier answers
fetch_effects config earlier call answers = []

-- the effects of a callback after earlier calls, which left this queue
abbrev pub callback_effects : Config → List DriverCall → DriverCall → List ℕ → Callback → List Effect
callback_effects config earlier call queue (Start read write) = Select read Read true ∷ []
callback_effects config earlier call queue (Outputv bytes) =
    if fits config.mode (length bytes) then output_effects config earlier queue else Fail (codes "einval") ∷ []
callback_effects config earlier call queue (ReadyOutput event) = offer_effects config earlier queue call.outside
callback_effects config earlier call queue (ReadyInput event) = fetch_effects config earlier call call.outside
callback_effects config earlier call queue (Control op bytes) = ReplyBadarg ∷ []
callback_effects config earlier call queue (Call op bytes) = ReplyBadarg ∷ []
callback_effects config earlier call queue callback = []

abbrev pub spawn_effects : Config → List DriverCall → DriverCall → List Effect
spawn_effects config earlier call = callback_effects config earlier call (spawn_queue config (call ∷ earlier)) call.callback

-- a fetch gave so many bytes
abbrev pub is_fetch : ℕ → Bool
is_fetch size = nat_le 1 size && nat_le size most_at_once

-- one answer to a question for a status
abbrev pub is_status : List Outside → Bool
is_status (Status status ∷ []) = true
is_status (Failed ∷ []) = true
is_status answers = false

abbrev pub is_none : List Outside → Bool
is_none [] = true
is_none answers = false

-- the answers to one offer of so many bytes
abbrev pub answers_offer : ℕ → List Outside → Bool
answers_offer size (Took n ∷ []) = nat_le n (min size most_at_once)
answers_offer size (Failed ∷ []) = true
answers_offer size answers = false

-- the answers to one fetch, and where the output ended and its status is asked for, to that
abbrev pub answers_fetch : Bool → List Outside → Bool
answers_fetch asks (Got bytes ∷ []) = is_fetch (length bytes)
answers_fetch asks (Again ∷ []) = true
answers_fetch asks (Failed ∷ []) = true
answers_fetch asks (End ∷ answers) = if asks then is_status answers else is_none answers
answers_fetch asks answers = false

-- the outside answered what the callback asked for
abbrev pub spawn_answered : Config → List DriverCall → List Outside → Callback → Bool
spawn_answered config earlier answers (ReadyOutput event) = answers_offer (length (spawn_queue config earlier)) answers
spawn_answered config earlier answers (ReadyInput event) = answers_fetch config.exit_status answers
spawn_answered config earlier answers callback = is_none answers

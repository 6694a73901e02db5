-- Histories of ports whose driver is a program. The program's read event is 0 and its write event 1.
use Rattle.std.specs.Prelude.{ℕ, List, [], ◌∷◌, ◌++◌, true, false, codes}
use Rattle.io_vector.specs.declared.flag.Flag.TheVariants.{Plain, Eol, Noeol}
use Rattle.packet_framing.specs.declared.mode.Mode.{Mode}
use Rattle.port_config.specs.Config.{plain}
use Rattle.port_signal.specs.declared.outside.Outside.TheVariants.{Took, Got, End, Failed}
use Rattle.port_model.specs.declared.event.Dir.TheVariants.{Read, Write}
use Rattle.port_model.specs.declared.signal.Signal.TheVariants.{Close, Exit}
use Rattle.port_model.specs.declared.effect.Effect.{Effect}
use Rattle.port_model.specs.declared.effect.Effect.TheVariants.{Message, Select, Fail}
use Rattle.port_model.specs.declared.mail.Mail.{Mail}
use Rattle.port_model.specs.declared.mail.Mail.TheVariants as mail
use Rattle.port_model.specs.declared.row.Row.{Row}
use Rattle.driver_model.specs.Calls.{Spawn}
use Rattle.port_history.specs.Opening.{Opening}
use Rattle.worked_histories.specs.Rows.{port_with, command, handled, ready, dropped, closed}

-- the port of a program in this mode
abbrev pub program_port : Mode → Opening
program_port mode = port_with Spawn (record plain { run = codes "cat"; mode = mode }) 0 1

abbrev pub hello : Row
hello = handled 0 0 (command (codes "hello")) (Select 1 Write true ∷ [])

-- the program takes one byte
abbrev pub takes_one : ℕ → Row
takes_one seq = ready seq 1 Write (Took 1 ∷ []) []

abbrev pub takes_the_last : ℕ → Row
takes_the_last seq = ready seq 1 Write (Took 1 ∷ []) (Select 1 Write false ∷ [])

abbrev pub four_taken : List Row
four_taken = takes_one 0 ∷ takes_one 1 ∷ takes_one 2 ∷ takes_one 3 ∷ []

-- a command of five bytes, a close, and a program that takes a byte at a time: the row that empties the queue stops the driver, and the
-- read event is dropped later
abbrev pub close_over_five_rows : List Row
close_over_five_rows = hello ∷ handled 0 1 Close [] ∷ closed ∷ (four_taken ++ takes_the_last 4 ∷ dropped 5 0 ∷ [])

-- the same with a kill: the driver is stopped in the closing row, and both events are dropped later
abbrev pub killed_program : List Row
killed_program = hello ∷ handled 0 1 (Exit (codes "kill")) [] ∷ closed ∷ dropped 0 0 ∷ dropped 1 1 ∷ []

abbrev pub event_never_dropped : List Row
event_never_dropped = hello ∷ handled 0 1 Close [] ∷ closed ∷ (four_taken ++ takes_the_last 4 ∷ [])

abbrev pub ready_while_not_selected : List Row
ready_while_not_selected = ready 0 1 Write (Took 0 ∷ []) (Select 1 Write false ∷ []) ∷ []

abbrev pub taken_after_the_stop : List Row
taken_after_the_stop = hello ∷ handled 0 1 (Exit (codes "kill")) [] ∷ closed ∷ takes_one 0 ∷ []

abbrev pub dropped_twice : List Row
dropped_twice = close_over_five_rows ++ dropped 6 0 ∷ []

abbrev pub took_more_than_was_offered : List Row
took_more_than_was_offered = hello ∷ ready 0 1 Write (Took 6 ∷ []) (Select 1 Write false ∷ []) ∷ []

-- a fetch that fails ends the port, whose queue is dropped; the owner is told why
abbrev pub failed_fetch : List Row
failed_fetch = ready 0 0 Read (Failed ∷ []) (Fail (codes "eio") ∷ []) ∷ closed ∷ []

abbrev pub failed_mail : List Mail
failed_mail = mail.Exit 0 (codes "eio") ∷ []

-- the end of the output, where no option asks for more
abbrev pub ends : ℕ → List Effect → Row
ends seq last = ready seq 0 Read (End ∷ []) (last ++ Select 0 Read false ∷ Fail (codes "normal") ∷ [])

abbrev pub gives : ℕ → List ℕ → List Effect → Row
gives seq bytes messages = ready seq 0 Read (Got bytes ∷ []) messages

-- packets in chunks: `abc`, an empty message, and a cut frame that is dropped
abbrev pub packets : List Row
packets =
    gives 0 (0 ∷ 3 ∷ 97 ∷ 98 ∷ []) []
    ∷ gives 1 (99 ∷ 0 ∷ 0 ∷ []) (Message Plain (codes "abc") ∷ Message Plain [] ∷ [])
    ∷ gives 2 (0 ∷ []) [] ∷ ends 3 [] ∷ closed ∷ []

-- lines of at most 3 bytes
abbrev pub lines : List Row
lines =
    gives 0 (97 ∷ 98 ∷ 99 ∷ 10 ∷ 97 ∷ 98 ∷ 99 ∷ 100 ∷ 10 ∷ 10 ∷ 120 ∷ [])
    (Message Eol (codes "abc") ∷ Message Noeol (codes "abc") ∷ Message Eol (codes "d") ∷ Message Eol [] ∷ [])
    ∷ ends 1 (Message Noeol (codes "x") ∷ []) ∷ closed ∷ []

-- a stream may be cut into messages anywhere, but none is empty
abbrev pub streamed : List Row
streamed = gives 0 (codes "abc") (Message Plain (codes "a") ∷ Message Plain (codes "bc") ∷ []) ∷ []

abbrev pub streamed_with_an_empty_message : List Row
streamed_with_an_empty_message = gives 0 (codes "abc") (Message Plain (codes "abc") ∷ Message Plain [] ∷ []) ∷ []

-- a header of 2,147,483,647 bytes fails the port
abbrev pub oversized : List Row
oversized = gives 0 (127 ∷ 255 ∷ 255 ∷ 255 ∷ []) (Fail (codes "emsgsize") ∷ []) ∷ closed ∷ []

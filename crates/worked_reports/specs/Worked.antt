-- A worked report, and its texts.
use Rattle.std.specs.Prelude.{ℕ, List, [], ◌∷◌, ◌++◌, false, Option, None, Some, codes}
use Rattle.io_vector.specs.declared.flag.Flag.TheVariants.{Plain, Eol}
use Rattle.port_config.specs.Config.{plain}
use Rattle.port_signal.specs.declared.answer.Answer.TheVariants.{True}
use Rattle.port_signal.specs.declared.mark.MarkKind.TheVariants.{Closed}
use Rattle.port_model.specs.declared.signal.Sender.TheVariants.{Process}
use Rattle.port_model.specs.declared.signal.Signal.{Signal}
use Rattle.port_model.specs.declared.signal.Signal.TheVariants.{Command, OwnerCommand, Close, Connect, Exit, Gone}
use Rattle.port_model.specs.declared.effect.Effect.{Effect}
use Rattle.port_model.specs.declared.effect.Effect.TheVariants.{Message, Fail}
use Rattle.port_model.specs.declared.mail.Mail.{Mail}
use Rattle.port_model.specs.declared.mail.Mail.TheVariants as mail
use Rattle.port_model.specs.declared.row.Row.{Row}
use Rattle.port_model.specs.declared.row.Row.TheVariants.{Handled, Late, Listed, Resumed, Mark}
use Rattle.process_receipts.specs.declared.receipt.Outcome.{Outcome}
use Rattle.process_receipts.specs.declared.receipt.Outcome.TheVariants.{Accepted, Suspended, Dropped, Closed as ClosedPort}
use Rattle.process_receipts.specs.declared.receipt.Receipt.{Receipt}
use Rattle.journal_text.specs.declared.book.PortReport.{PortReport}
use Rattle.run_report.specs.declared.report.ProcessRecord.{ProcessRecord}
use Rattle.run_report.specs.declared.report.Report.{Report}

abbrev pub handled : ℕ → ℕ → Signal → List Effect → Row
handled process seq signal effects = Handled (Process process) seq (record { signal = signal; suspends = false; forced = false }) [] effects

-- a command with `abc`, and a close
abbrev pub worked_port : PortReport
worked_port = record {
  name = codes "p";
  driver = codes "echo";
  owner = 0;
  config = plain;
  events = (0, 0);
  journal = record { rows = handled 0 0 (Command (codes "abc" ∷ [])) (Message Plain (codes "abc") ∷ []) ∷ handled 0 1 Close [] ∷ Mark Closed ∷ [] };
}

-- the receipts of both, and what came: the data, the reply, and the exit signal of the port
abbrev pub worked_process : ProcessRecord
worked_process = record {
  name = codes "a";
  receipts =
      record { line = 3; port = 0; seq = Some 0; stat = Some 0; msgq = Some 3; outcome = Accepted }
      ∷ record { line = 4; port = 0; seq = Some 1; stat = Some 0; msgq = None; outcome = Accepted } ∷ [];
  mails = mail.Message 0 Plain (codes "abc") ∷ mail.Reply 0 1 True ∷ mail.Exit 0 (codes "normal") ∷ [];
}

abbrev pub worked_report : Report
worked_report = record { ports = worked_port ∷ []; processes = worked_process ∷ [] }

-- its text: the digest of `abc` is that of the standard's first example
abbrev pub worked_text : List ℕ
worked_text =
    codes "report processes=1 ports=1" ++ 10 ∷ codes "port p driver=echo commands=1 late=0 bytes=3 end=normal" ++ 10
    ∷ codes "process a commands=1 dropped=0 suspended=0 data=1 sha256=ba7816bf8f01cfea414140de5dae2223b00361a396177a9cb410ff61f20015ad" ++ 10 ∷ []

abbrev pub worked_summary : List ℕ
worked_summary = codes "load number=7 commands=1 late=0 bytes=3" ++ 10 ∷ codes "port p commands=1 bytes=3" ++ 10 ∷ []

-- data of the second port, and a line of the first
abbrev pub mails_of_two_ports : List Mail
mails_of_two_ports = mail.Message 1 Plain (codes "c") ∷ mail.Eof 1 ∷ mail.Message 0 Eol (codes "ab") ∷ []

abbrev pub late : ℕ → ℕ → Signal → Row
late process seq signal = Late (Process process) seq (record { signal = signal; suspends = false; forced = false })

abbrev pub command : List ℕ → Signal
command bytes = Command (bytes ∷ [])

abbrev pub owner_command : List ℕ → Signal
owner_command bytes = OwnerCommand (bytes ∷ [])

-- a port of process 0 with these rows
abbrev pub port : List ℕ → List ℕ → List Row → PortReport
port name driver rows = record { name = name; driver = driver; owner = 0; config = plain; events = (0, 0); journal = record { rows = rows } }

-- three commands `ab` of each of two processes, and the ends of both, of which the owner's closes the port
abbrev pub shared_port : PortReport
shared_port =
    port (codes "p") (codes "echo") (handled 0 0 (command (codes "ab")) [] ∷ handled 1 0 (command (codes "ab")) [] ∷ handled 0 1 (command (codes "ab")) []
    ∷ handled 1 1 (command (codes "ab")) [] ∷ handled 1 2 (command (codes "ab")) [] ∷ handled 0 2 (command (codes "ab")) []
    ∷ handled 0 3 (Gone (codes "normal")) [] ∷ Mark Closed ∷ late 1 3 (Gone (codes "normal")) ∷ [])

abbrev pub process : List ℕ → List Receipt → List Mail → ProcessRecord
process name receipts mails = record { name = name; receipts = receipts; mails = mails }

abbrev pub ab : Mail
ab = mail.Message 0 Plain (codes "ab")

abbrev pub shared_report : Report
shared_report = record {
  ports = shared_port ∷ [];
  processes = process (codes "a") [] (ab ∷ ab ∷ ab ∷ ab ∷ ab ∷ ab ∷ []) ∷ process (codes "b") [] [] ∷ [];
}

abbrev pub shared_text : List ℕ
shared_text =
    codes "report processes=2 ports=1" ++ 10 ∷ codes "port p driver=echo commands=6 late=0 bytes=12 end=normal" ++ 10
    ∷ codes "process a commands=3 dropped=0 suspended=0 data=6 sha256=43218caa080cb52b913ed120b7e76f18d4a2550920656e62c3244db8388d8f7d" ++ 10
    ∷ codes "process b commands=3 dropped=0 suspended=0 data=0 sha256=e3b0c44298fc1c149afbf4c8996fb92427ae41e4649b934ca495991b7852b855" ++ 10 ∷ []

-- an owner's command of each of two processes, of which the owner's alone calls the driver; the port is killed; a command of the other, which was
-- suspended, comes late
abbrev pub killed_port : PortReport
killed_port =
    port (codes "q") (codes "valve") (handled 1 0 (owner_command (codes "xy")) [] ∷ handled 0 0 (owner_command (codes "d")) [] ∷ Listed (Process 1) 1
    ∷ handled 0 1 (Exit (codes "kill")) [] ∷ Mark Closed ∷ Resumed (Process 1) 1 0 ∷ late 1 1 (command (codes "e")) ∷ [])

-- a connect makes process 1 the owner, whose end closes the port: the owner's command of process 0 calls the driver before that, and not after it
abbrev pub connected_port : PortReport
connected_port =
    port (codes "r") (codes "tally") (handled 0 0 (owner_command (codes "ab")) [] ∷ handled 0 1 (Connect 1) [] ∷ handled 0 2 (owner_command (codes "cde")) []
    ∷ handled 1 0 (owner_command (codes "f")) [] ∷ handled 1 1 (Gone (codes "oops")) [] ∷ Mark Closed ∷ [])

-- a driver that fails closes its port with its own reason, before a close that comes late
abbrev pub failed_port : PortReport
failed_port = port (codes "s") (codes "digest") (handled 0 0 (command (codes "z")) (Fail (codes "einval") ∷ []) ∷ Mark Closed ∷ late 0 1 Close ∷ [])

abbrev pub receipt : Option ℕ → Outcome → Receipt
receipt seq outcome = record { line = 3; port = 1; seq = seq; stat = Some 0; msgq = Some 3; outcome = outcome }

-- a report of four ports: process 0 got data of the second and a line of the first, process 1 has receipts of each kind
abbrev pub wide_report : Report
wide_report = record {
  ports = worked_port ∷ killed_port ∷ connected_port ∷ failed_port ∷ [];
  processes =
      process (codes "a") [] mails_of_two_ports
      ∷ process (codes "b") (receipt (Some 0) Accepted ∷ receipt None Dropped ∷ receipt (Some 1) Suspended ∷ receipt None ClosedPort ∷ []) [] ∷ [];
}

abbrev pub wide_text : List ℕ
wide_text =
    codes "report processes=2 ports=4" ++ 10 ∷ codes "port p driver=echo commands=1 late=0 bytes=3 end=normal" ++ 10
    ∷ codes "port q driver=valve commands=1 late=1 bytes=1 end=killed" ++ 10 ∷ codes "port r driver=tally commands=2 late=0 bytes=3 end=oops" ++ 10
    ∷ codes "port s driver=digest commands=1 late=0 bytes=1 end=einval" ++ 10
    ∷ codes "process a commands=5 dropped=0 suspended=0 data=2 sha256=0acdf9a2665198da784232d827b01ae3d24af5db060d723950cfcd47cd82ac07" ++ 10
    ∷ codes "process b commands=3 dropped=1 suspended=1 data=0 sha256=e3b0c44298fc1c149afbf4c8996fb92427ae41e4649b934ca495991b7852b855" ++ 10 ∷ []

abbrev pub wide_summary : List ℕ
wide_summary =
    codes "load number=7 commands=5 late=1 bytes=8" ++ 10 ∷ codes "port p commands=1 bytes=3" ++ 10 ∷ codes "port q commands=1 bytes=1" ++ 10
    ∷ codes "port r commands=2 bytes=3" ++ 10 ∷ codes "port s commands=1 bytes=1" ++ 10 ∷ []

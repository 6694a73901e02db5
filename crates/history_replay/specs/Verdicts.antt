-- What a replay tells of the ports of a journal.
use Rattle.std.specs.Prelude.{◌≡◌, ℕ, ◌+◌, List, [], ◌∷◌, reverse, Option, None, Some}
use Rattle.driver_model.specs.Calls.{Kind}
use Rattle.driver_model.specs.Drivers.{kind_name}
use Rattle.port_history.specs.Lawful.{Broken, verdict}
use Rattle.port_history.specs.Opening.{Opening}
use Rattle.port_model.specs.declared.row.Row.{Row}
use Rattle.journal_text.specs.declared.book.PortReport.{PortReport}
use Rattle.history_replay.specs.declared.port.BrokenLaw.{BrokenLaw}
use Rattle.history_replay.specs.declared.replaying.Verdict.{Verdict}
use Rattle.history_replay.specs.declared.replaying.Verdict.TheVariants.{Legal, Illegal}

-- how the port of this number was opened, of so many processes, where its driver is of this kind
abbrev pub opening_of : ℕ → ℕ → Kind → PortReport → Opening
opening_of number processes kind report = record {
  number = number;
  processes = processes;
  kind = kind;
  config = report.config;
  owner = report.owner;
  read = report.events.0;
  write = report.events.1;
}

-- the rows of a port, newest first
abbrev pub history_of : PortReport → List Row
history_of report = reverse report.journal.rows

abbrev pub broken_of : Option BrokenLaw → Option Broken
broken_of None = None
broken_of (Some broken) = Some (record { row = broken.row; law = broken.law })

-- where a port's history first breaks a law, if it does: its driver is of the kind of its name
abbrev pub IsVerdict : ℕ → ℕ → PortReport → Option BrokenLaw → Type 0
IsVerdict number processes report broken =
    (kind : Kind) × (kind_name kind ≡ report.driver) × (broken_of broken ≡ verdict (opening_of number processes kind report) (history_of report))

-- where a port's history first breaks a law tells of all ports from this one on: where it breaks none, as the later ones tell
abbrev pub TellsOf : ℕ → Option BrokenLaw → Type 0 → Verdict → Type 0
TellsOf number None Later told = Later
TellsOf number (Some broken) Later told = told ≡ Illegal number broken.row broken.law

-- all ports from the one of this number on are legal, or one of them is the first that isn't
abbrev pub Replays : ℕ → ℕ → List PortReport → Verdict → Type 0
Replays number processes [] told = told ≡ Legal
Replays number processes (report ∷ rest) told =
    (broken : Option BrokenLaw) × IsVerdict number processes report broken × TellsOf number broken (Replays (number + 1) processes rest told) told

-- What the verdict on a journal says of the histories of its ports.
use Rattle.std.specs.Prelude.{◌≡◌, ℕ, ◌+◌, List, [], ◌∷◌}
use Rattle.driver_model.specs.Calls.{Kind}
use Rattle.driver_model.specs.Drivers.{kind_name}
use Rattle.port_history.specs.Lawful.{Lawful, IsFinished}
use Rattle.journal_text.specs.declared.book.PortReport.{PortReport}
use Rattle.history_replay.specs.declared.replaying.Verdict.{Verdict}
use Rattle.history_replay.specs.declared.replaying.Verdict.TheVariants.{Legal}
use Rattle.history_replay.specs.Verdicts.{opening_of, history_of, Replays}

-- the port's driver is of the kind of its name, and its history keeps the laws and is finished
pub record IsLegal (number processes : ℕ) (report : PortReport) : Type 0 where
  pub kind : Kind
  pub is_named : kind_name kind ≡ report.driver
  pub keeps : Lawful (opening_of number processes kind report) (history_of report)
  pub ends : IsFinished (opening_of number processes kind report) (history_of report)

-- all ports from the one of this number on are so
abbrev pub AreLegal : ℕ → ℕ → List PortReport → Type 0
AreLegal number processes [] = Unit {0}
AreLegal number processes (report ∷ rest) = IsLegal number processes report × AreLegal (number + 1) processes rest

-- where all are told to be legal, they are
abbrev pub LegalIsWhole : Type 0
LegalIsWhole = (number processes : ℕ) (ports : List PortReport) → Replays number processes ports Legal → AreLegal number processes ports

-- of ports that are legal nothing else is told
abbrev pub LegalIsRight : Type 0
LegalIsRight = (number processes : ℕ) (ports : List PortReport) (told : Verdict) → AreLegal number processes ports → Replays number processes ports told → told ≡ Legal

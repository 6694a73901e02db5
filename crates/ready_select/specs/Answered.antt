-- What a poller tells, beside what its poll set answered.
use Rattle.std.specs.Prelude.{ℕ, ◌+◌, ◌≤◌, ◌==◌, Bool, false, List, [], ◌∷◌, ◌++◌, count_by}
use Rattle.ready_select.specs.declared.armed.Armed.{Armed}
use Rattle.ready_select.specs.declared.ask.PollAsk.{PollAsk}
use Rattle.ready_select.specs.declared.ask.PollAsk.TheVariants.{Arm}
use Rattle.ready_select.specs.Polling.{entry_of, same_armed}

-- whether a port is told of this entry
abbrev pub tells : Armed → PollAsk → Bool
tells a (Arm port event dir) = same_armed (entry_of port event dir) a
tells a _ = false

-- how often an event stands among these
abbrev pub times : ℕ → List ℕ → ℕ
times event events = count_by (λ e. e == event) events

-- No port was told of an event and a direction more often than the event was answered meanwhile
pub record IsAnswered (before after : List ℕ) (found : List PollAsk) : Type 0 where
  pub each : (a : Armed) → count_by (tells a) found + times a.event before ≤ times a.event after

-- what a round found, and all answers after it
pub record ToldRound : Type 0 where
  pub found : List PollAsk
  pub after : List ℕ

abbrev pub AreRounds : List ℕ → List ToldRound → Type 0
AreRounds before [] = Unit {0}
AreRounds before (round ∷ rounds) = IsAnswered before round.after round.found × AreRounds round.after rounds

abbrev pub all_found : List ToldRound → List PollAsk
all_found [] = []
all_found (round ∷ rounds) = round.found ++ all_found rounds

abbrev pub last_answers : List ℕ → List ToldRound → List ℕ
last_answers before [] = before
last_answers before (round ∷ rounds) = last_answers round.after rounds

-- the same of any list of rounds
abbrev pub RoundsAreAnswered : Type 0
RoundsAreAnswered = (before : List ℕ) (rounds : List ToldRound) → AreRounds before rounds → IsAnswered before (last_answers before rounds) (all_found rounds)

-- What the poller of a run does.
use Rattle.std.specs.Prelude.{◌≡◌, ◌<◌, ◌≤◌, ◌⊎◌, ℕ, false, Some, List, [], ◌∷◌, ◌++◌, length, All}
use Rattle.std.specs.List.{flat_map}
use Rattle.port_words.specs.declared.home.homes.Ticket.{Ticket}
use Rattle.port_words.specs.over.Over.{OverKnown, HasNotStopped}
use Rattle.port_model.specs.declared.event.Dir.{Dir}
use Rattle.port_model.specs.declared.signal.Sender.TheVariants as sender
use Rattle.port_model.specs.declared.signal.Signal.TheVariants.{Ready, Dropped}
use Rattle.port_model.specs.Tasks.{TaskView}
use Rattle.process_end.specs.Views.{LaneEnd}
use Rattle.ready_select.specs.declared.ask.PollAsk.{PollAsk}
use Rattle.ready_select.specs.declared.ask.PollAsk.TheVariants.{Arm, Drop}
use Rattle.ready_select.specs.declared.ask.Polled.{Polled}
use Rattle.ready_select.specs.declared.ask.Polled.TheVariants as polled
use Rattle.ready_select.specs.Answered.{IsAnswered}
use Rattle.ready_select.specs.Polling.{Poller, IsRound}
use Rattle.port_sched.specs.declared.body.PortBody.{Ghosts}
use Rattle.port_sched.specs.Homes.{AreHomes}
use Rattle.port_sched.specs.Running.{Looked, Stopped}
use Rattle.port_sched.specs.Waking.{Woke}
use Rattle.run_jobs.specs.declared.poller.PollerEnd.{PollerEnd}
use Rattle.run_jobs.specs.declared.poller.PollerEnd.TheVariants as end
use Rattle.run_jobs.specs.declared.poller.PollerJob.{PollerJob}
use Rattle.run_jobs.specs.declared.poller.RoundEnd.{RoundEnd}
use Rattle.run_jobs.specs.declared.poller.RoundEnd.TheVariants as round
use Rattle.run_jobs.specs.declared.watch.Watch.{Watch}
use Rattle.run_jobs.specs.Stops.{SawStop}
use Rattle.run_jobs.specs.Telling.{PortTask, AreEndsOf, Sends}

abbrev pub ready_task : ℕ → Dir → TaskView
ready_task event dir = record { signal = Ready event dir; suspends = false; forced = false }

abbrev pub dropped_task : ℕ → TaskView
dropped_task event = record { signal = Dropped event; suspends = false; forced = false }

-- how a port is told of what was found
abbrev pub told_of : PollAsk → List PortTask
told_of (Arm port event dir) = record { port = port; task = ready_task event dir } ∷ []
told_of (Drop port event) = record { port = port; task = dropped_task event } ∷ []
told_of ask = []

abbrev pub tasks_of : List PollAsk → List PortTask
tasks_of found = flat_map told_of found

-- a round of the poller, by how it ended and what it found
pub record FoundRound : Type 0 where
  pub polled : Polled
  pub found : List PollAsk

abbrev pub WasRound : FoundRound → Type 0
WasRound r = r.polled ≡ polled.Round

-- these rounds were made one after another, the newest first
abbrev pub RoundsTo : Poller → List FoundRound → Poller → Type 0
RoundsTo old [] new = new ≡ old
RoundsTo old (r ∷ earlier) new = (between : Poller) × RoundsTo old earlier between × IsRound between (record new { found = r.found }) r.polled

-- what was found in these, the oldest first
abbrev pub all_found : List FoundRound → List PollAsk
all_found [] = []
all_found (r ∷ earlier) = all_found earlier ++ r.found

-- the newest of these ended so, and the others waited once
abbrev pub EndsWith : Polled → List FoundRound → Type 0
EndsWith how [] = ⊥
EndsWith how (r ∷ earlier) = (r.polled ≡ how) × All WasRound earlier

-- of the tasks for what was found, these are the last
abbrev pub IsRestOf : List PollAsk → List PortTask → Type 0
IsRestOf found left = (told : List PortTask) × (tasks_of found ≡ told ++ left)

-- a round found no memory: it told all that it had found before it ran short, or there was something to tell, and it broke off on the way
abbrev pub RanShort : Polled → List PollAsk → List PortTask → Type 0
RanShort how found left = ((how ≡ polled.NoMemory) × (left ≡ [])) ⊎ (0 < length (tasks_of found))

-- What the newest round has to do with how the poller ended, and what it left untold: nothing. Where memory was wanting it left the last of what the newest round
-- found, or nothing: all that the earlier ones found was told
abbrev pub PollerEnds : PollerEnd → List FoundRound → List PortTask → Type 0
PollerEnds end.Finished rounds left = EndsWith polled.Finished rounds × (left ≡ [])
PollerEnds end.Stopped rounds left = All WasRound rounds × (left ≡ [])
PollerEnds end.PollFault rounds left = EndsWith polled.Failed rounds × (left ≡ [])
PollerEnds end.NoMemory [] left = ⊥
PollerEnds end.NoMemory (r ∷ earlier) left = All WasRound earlier × IsRestOf r.found left × RanShort r.polled r.found left

-- The poller made these rounds. It told all that they found, in order, but for what was left for want of memory, and no port was told of an event and a direction more
-- often than the poll set answered the event meanwhile
pub record PollsTo (how : PollerEnd) (old new : Poller) (lanes lanes' : List LaneEnd) : Type 0 where
  pub rounds : List FoundRound
  pub told : List PortTask
  pub left : List PortTask
  pub ran : RoundsTo old rounds new
  pub each_answered : IsAnswered old.answered new.answered (all_found rounds)
  pub whole : tasks_of (all_found rounds) ≡ told ++ left
  pub sends : Sends told lanes lanes'
  pub ends : PollerEnds how rounds left

-- one round, what it found, and what was left untold of that
abbrev pub EndsRound : RoundEnd → Polled → List PollAsk → List PortTask → Type 0
EndsRound round.Told how found left = (how ≡ polled.Round) × (left ≡ [])
EndsRound round.Quiet how found left = (how ≡ polled.Round) × (left ≡ [])
EndsRound round.Finished how found left = (how ≡ polled.Finished) × (left ≡ [])
EndsRound round.Failed how found left = (how ≡ polled.Failed) × (left ≡ [])
EndsRound round.NoMemory how found left = RanShort how found left

pub record RoundOf (how : RoundEnd) (old new : Poller) (lanes lanes' : List LaneEnd) : Type 0 where
  pub polled : Polled
  pub found : List PollAsk
  pub told : List PortTask
  pub left : List PortTask
  pub is_round : IsRound old (record new { found = found }) polled
  pub each_answered : IsAnswered old.answered new.answered found
  pub whole : tasks_of found ≡ told ++ left
  pub sends : Sends told lanes lanes'
  pub ends : EndsRound how polled found left

abbrev pub KeptIn : RoundEnd → List Ticket → Type 0
KeptIn round.NoMemory kept = length kept ≤ 1
KeptIn how kept = kept ≡ []

abbrev pub KeptAt : PollerEnd → List Ticket → Type 0
KeptAt end.NoMemory kept = length kept ≤ 1
KeptAt how kept = kept ≡ []

-- what its seat of OVER saw, and what it then said
abbrev pub LooksAt : PollerEnd → OverKnown → OverKnown → Type 0
LooksAt end.Stopped old new = Looked old new × SawStop old new
LooksAt how old new = Looked old new

abbrev pub SaysAt : PollerEnd → OverKnown → OverKnown → Type 0
SaysAt end.Finished old new = Looked old new
SaysAt end.Stopped old new = Looked old new × SawStop old new
SaysAt end.PollFault old new = Stopped old new
SaysAt end.NoMemory old new = Stopped old new

-- what a poller works on, between two rounds
abbrev pub poller_of : {S : Type 0} → (S → ℕ) → (S → List ℕ) → Watch S → Poller
poller_of faults answered w = record { faults = faults w.poll; answered = answered w.poll; table = w.table; found = []; lane = w.asks }

module _ {B S : Type 0} {g : Ghosts B} where
  -- its ends of the ports' lanes are the poller's, one for each port whose home it has a seat of
  pub record CanPoll (p : PollerJob B S g) : Type 0 where
    pub homes : AreHomes p.seats.homes.items
    pub ports : length p.seats.homes.items ≡ length p.lanes.items
    pub runs : HasNotStopped p.over.known.places
    pub ends : AreEndsOf sender.Poller p.lanes.items

  -- a run of the poller
  pub record HasPolled (faults : S → ℕ) (answered : S → List ℕ) (old new : PollerJob B S g) : Type 0 where
    pub how : PollerEnd
    pub end_is : new.end ≡ Some how
    pub polls : PollsTo how (poller_of faults answered old.watch) (poller_of faults answered new.watch) old.lanes.items new.lanes.items
    pub over : SaysAt how old.over new.over
    pub kept : List Ticket
    pub kept_at : KeptAt how kept
    pub woke : Woke kept old.seats new.seats

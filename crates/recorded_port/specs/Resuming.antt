-- Who is suspended and who is resumed.
use Rattle.std.specs.Prelude.{◌≡◌, ◌⊎◌, ◌<◌, ℕ, List, [], ◌∷◌, ◌++◌, map, Bool, true, false, ◌||◌, not, nat_le}
use Rattle.port_words.specs.busy.Steps.{port_heard, TellsQueue}
use Rattle.port_words.specs.busy.Known.{port_known}
use Rattle.port_model.specs.declared.row.Row.{Row}
use Rattle.port_model.specs.declared.row.Row.TheVariants.{Resumed}
use Rattle.port_model.specs.declared.signal.Sender.TheVariants.{Process}
use Rattle.port_lanes.specs.port_history.Laws.{count_of}
use Rattle.port_lanes.specs.port_history.Marks.{is_busy}
use Rattle.port_lanes.specs.port_history.State.{State, is_open}
use Rattle.port_lanes.specs.port_history.Suspension.{Entry, entry, has_entry, is_queue_busy}
use Rattle.recorded_port.specs.View.{RecordedView, state_of}

-- a task of this process that suspends it comes to be listed: it has no row and wasn't listed
pub record MayList (v : RecordedView) (process seq : ℕ) : Type 0 where
  pub among : process < v.opening.processes
  pub new : has_entry (entry (Process process) seq) (state_of v).entries ≡ false
  pub later : nat_le (count_of (Process process) (state_of v).senders) seq ≡ true

-- the rows by which these senders are resumed with this word
abbrev pub resumed_rows : ℕ → List Entry → List Row
resumed_rows word listed = map (λ (e : Entry). Resumed e.from e.seq word) listed

-- those who wait are resumed with this word: the port isn't open, or neither it nor its message queue is busy
abbrev pub may_go : State → ℕ → Bool
may_go s word = not (is_open s) || not (is_busy s.marks || is_queue_busy word)

-- the word MSGQ was loaded once: all who wait were resumed with it, in their order, or nobody was
pub record Looked (old new : RecordedView) (word : ℕ) : Type 0 where
  pub seat : new.seat ≡ port_known old.seat.table (port_heard old.seat.known (word ∷ []))
  pub tells : TellsQueue new.seat.known word
  pub all : may_go (state_of old) word ≡ true → (new.rows ≡ old.rows ++ resumed_rows word (state_of old).listed) × ((state_of new).listed ≡ [])
  pub nobody : may_go (state_of old) word ≡ false → (new.rows ≡ old.rows) × (new.suspended ≡ old.suspended)

-- the first of those who wait was resumed with this word
pub record ResumesFirst (old new : RecordedView) (word : ℕ) : Type 0 where
  pub first : Entry
  pub listed : (state_of old).listed ≡ first ∷ (state_of new).listed
  pub rows : new.rows ≡ old.rows ++ Resumed first.from first.seq word ∷ []
  pub goes : may_go (state_of new) word ≡ true
  pub seat : new.seat ≡ old.seat

-- or nobody waits
abbrev pub ResumesNext : Bool → RecordedView → RecordedView → ℕ → Type 0
ResumesNext true old new word = ResumesFirst old new word
ResumesNext false old new word = ((state_of old).listed ≡ []) × (new ≡ old)

-- all who wait were resumed with this word, in their order
pub record ResumesAll (old new : RecordedView) (word : ℕ) : Type 0 where
  pub rows : new.rows ≡ old.rows ++ resumed_rows word (state_of old).listed
  pub none_left : (state_of new).listed ≡ []
  pub seat : new.seat ≡ old.seat

-- nobody waits and nothing was done, or the word was loaded
abbrev pub Resumes : RecordedView → RecordedView → Type 0
Resumes old new = (((state_of old).listed ≡ []) × (new ≡ old)) ⊎ ((word : ℕ) × Looked old new word)

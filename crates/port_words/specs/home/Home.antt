-- Where a port's body is: the word RUN, the slot, and what the seats of the home together know of them.
-- RUN is 4 * turn where the body is idle, 4 * turn + 1 where the turn is queued, and 4 * turn + 2 where it runs.
use Rattle.std.specs.Prelude.{◌≡◌, ◌≢◌, ◌⊎◌, ℕ, ◌+◌, ◌-◌, ◌*◌, ◌/◌, ◌%◌, ◌^◌, ◌<◌, ◌≤◌, List, [], ◌∷◌, ◌++◌, ◌==◌, length, sum_by, All, Option, Some, None, slice_index, MatchOption}
use Rattle.std.specs.declared.snapshot.Snapshot.{Snapshot}
use mathlib.Core.Option.{none, some}
use Rattle.atomic_table.specs.Table.{State, Me}
use Rattle.port_words.specs.sums.Counts.{times, once_below, one_if}
use Rattle.port_words.specs.declared.home.view.HomeView.{HomeView}

abbrev pub idle : ℕ → ℕ
idle turn = 4 * turn

abbrev pub queued : ℕ → ℕ
queued turn = 4 * turn + 1

abbrev pub running : ℕ → ℕ
running turn = 4 * turn + 2

abbrev pub turn_of : ℕ → ℕ
turn_of run = run / 4

abbrev pub kind_of : ℕ → ℕ
kind_of run = run % 4

-- the number of turns that have begun
abbrev pub begun_of : ℕ → ℕ
begun_of run = (run + 2) / 4

-- no turn begins from it: it isn't idle, or the last idle word there is
abbrev pub IsNotIdle : ℕ → Type 0
IsNotIdle run = (kind_of run ≢ 0) ⊎ (run ≡ 2 ^ 63)

-- 1 where the turn that runs is this one
abbrev pub runs_at : ℕ → Option ℕ → ℕ
runs_at turn None = 0
runs_at turn (Some other) = one_if (other == turn)

-- what a view runs is what RUN says
abbrev pub RunsIn : ℕ → Option ℕ → Type 0
RunsIn run None = Unit {0}
RunsIn run (Some turn) = run ≡ running turn

module _ {B : Type 0} where
  abbrev pub fresh_view : Option (Snapshot B) → ℕ → ℕ → HomeView B
  fresh_view body seats shares = record { body = body; seats = seats; shares = shares; made = []; claimed = []; idle = []; withdrawn = []; stale = []; found = []; running = None }

  abbrev pub spent : HomeView B
  spent = fresh_view None 0 0

  abbrev pub shares_in : HomeView B → ℕ
  shares_in v = v.shares

  abbrev pub made_in : ℕ → HomeView B → ℕ
  made_in turn v = times turn v.made

  -- tickets that began their turn, and those that the end of the home took back
  abbrev pub used_in : ℕ → HomeView B → ℕ
  used_in turn v = times turn v.claimed + times turn v.withdrawn

  -- turns begun with a ticket and without one
  abbrev pub begun_in : ℕ → HomeView B → ℕ
  begun_in turn v = times turn v.claimed + times turn v.withdrawn + times turn v.idle

  abbrev pub runs_in : ℕ → HomeView B → ℕ
  runs_in turn v = runs_at turn v.running

  -- a view without a share has done nothing
  pub record IsBlank (v : HomeView B) : Type 0 where
    pub made : v.made ≡ []
    pub claimed : v.claimed ≡ []
    pub idle : v.idle ≡ []
    pub withdrawn : v.withdrawn ≡ []
    pub running : v.running ≡ None

  -- what holds of a view on its own, where RUN is this word
  pub record IsHomeView (was : B) (seats run : ℕ) (v : HomeView B) : Type 0 where
    pub found : All (λ n. n ≤ run) v.found
    pub made_with : 0 < v.shares → (v.seats ≡ seats) × MatchOption v.body ⊥ (λ b. b.value ≡ was)
    pub blank : v.shares ≡ 0 → IsBlank v

  -- The slot is out where a turn runs. Else it is at home, with a body of the name of the first one; and before the first turn it is the first one itself
  abbrev pub IsSlot : {N : Type 0} → (B → N) → B → ℕ → List (mathlib.Core.Option.Option (Option B)) → Type 0
  IsSlot name was run homes =
      (kind_of run ≡ 2 → homes ≡ none ∷ [])
      × (kind_of run ≢ 2 → (x : B) × (homes ≡ some (Some x) ∷ []) × (name x ≡ name was) × (run < 2 → x ≡ was))

  -- The rule. Each turn below those that have begun was begun once, by one seat. A ticket that was made is waiting or used, and only the ticket of a queued turn
  -- waits. One seat runs where RUN says so, and no seat else. The shares of all seats are the seats that were made
  pub record IsHome {N : Type 0} (name : B → N) (was : B) (seats : ℕ) (s : State (Option B) (HomeView B)) : Type 0 where
    pub one_word : length s.words ≡ 1
    pub kind : kind_of (slice_index s.words 0) ≤ 2
    pub last : (turn_of (slice_index s.words 0) ≤ 2 ^ 61) × (kind_of (slice_index s.words 0) ≡ 1 → turn_of (slice_index s.words 0) < 2 ^ 61)
    pub tickets : (turn : ℕ) → sum_by (made_in turn) s.views ≡ sum_by (used_in turn) s.views + one_if (slice_index s.words 0 == queued turn)
    pub turns : (turn : ℕ) → sum_by (begun_in turn) s.views ≡ once_below (begun_of (slice_index s.words 0)) turn
    pub one_runs : (turn : ℕ) → sum_by (runs_in turn) s.views ≡ one_if (slice_index s.words 0 == running turn)
    pub shares : sum_by shares_in s.views ≡ seats
    pub slot : IsSlot name was (slice_index s.words 0) s.homes
    pub known : All (IsHomeView was seats (slice_index s.words 0)) s.views

  -- What RUN, found at a step, tells a seat that knows v. With all shares it tells of each turn and each ticket
  pub record TellsHome (v : HomeView B) (run : ℕ) : Type 0 where
    pub kind : kind_of run ≤ 2
    pub last : (turn_of run ≤ 2 ^ 61) × (kind_of run ≡ 1 → turn_of run < 2 ^ 61)
    pub rises : All (λ n. n ≤ run) v.found
    pub runs : RunsIn run v.running
    pub one_ticket : (turn : ℕ) → times turn v.made ≤ 1
    pub begun_once : (turn : ℕ) → begun_in turn v ≤ once_below (begun_of run) turn
    pub every_turn : v.shares ≡ v.seats → (turn : ℕ) → begun_in turn v ≡ once_below (begun_of run) turn
    pub every_ticket : v.shares ≡ v.seats → (turn : ℕ) → made_in turn v ≡ used_in turn v + one_if (run == queued turn)
    pub nobody_runs : v.shares ≡ v.seats → v.running ≡ None → kind_of run ≢ 2

  -- it has the name that the home fixed
  abbrev pub IsNamed : {N : Type 0} → (B → N) → Option (Snapshot B) → B → Type 0
  IsNamed name body x = MatchOption body ⊥ (λ b. name x ≡ name b.value)

  -- it is the body with which the home was made, as it was then
  abbrev pub IsFirst : Option (Snapshot B) → B → Type 0
  IsFirst body x = MatchOption body ⊥ (λ b. x ≡ b.value)

  -- what comes out with a turn
  abbrev pub IsBodyOf : {N : Type 0} → (B → N) → Option (Snapshot B) → ℕ → B → Type 0
  IsBodyOf name body turn x = IsNamed name body x × (turn ≡ 0 → IsFirst body x)

  -- the views after a step that found this word
  abbrev pub looked : HomeView B → List ℕ → HomeView B
  looked v ns = record v { found = v.found ++ ns }

  -- a ticket of the turn was made
  abbrev pub scheduled : HomeView B → ℕ → HomeView B
  scheduled v turn = record v { made = v.made ++ turn ∷ []; found = v.found ++ idle turn ∷ [] }

  -- the turn was begun with its ticket
  abbrev pub claimed_view : HomeView B → ℕ → HomeView B
  claimed_view v turn = record v { claimed = v.claimed ++ turn ∷ []; found = v.found ++ queued turn ∷ []; running = Some turn }

  -- the ticket of the turn was found stale
  abbrev pub stale_view : HomeView B → ℕ → ℕ → HomeView B
  stale_view v turn run = record v { stale = v.stale ++ turn ∷ []; found = v.found ++ run ∷ [] }

  -- the turn was begun without a ticket
  abbrev pub begun_view : HomeView B → ℕ → HomeView B
  begun_view v turn = record v { idle = v.idle ++ turn ∷ []; found = v.found ++ idle turn ∷ []; running = Some turn }

  -- the end of the home took the waiting ticket of the turn back
  abbrev pub withdrawn_view : HomeView B → ℕ → HomeView B
  withdrawn_view v turn = record v { withdrawn = v.withdrawn ++ turn ∷ []; found = v.found ++ queued turn ∷ []; running = Some turn }

  -- the turn has ended
  abbrev pub ended_view : HomeView B → ℕ → HomeView B
  ended_view v turn = record v { found = v.found ++ running turn ∷ []; running = None }

  -- the view of a seat that took in another's, which does not run
  abbrev pub joined : HomeView B → HomeView B → HomeView B
  joined v w = record v {
    shares = v.shares + w.shares;
    made = v.made ++ w.made;
    claimed = v.claimed ++ w.claimed;
    idle = v.idle ++ w.idle;
    withdrawn = v.withdrawn ++ w.withdrawn;
    stale = v.stale ++ w.stale;
    found = v.found ++ w.found;
  }

  -- one share is cut off
  abbrev pub one_share : HomeView B → HomeView B
  one_share v = fresh_view v.body v.seats 1

  abbrev pub other_shares : HomeView B → HomeView B
  other_shares v = record v { shares = v.shares - 1 }

  -- a view that began no turn
  pub record HasBegunNone (v : HomeView B) : Type 0 where
    pub claimed : v.claimed ≡ []
    pub idle : v.idle ≡ []
    pub withdrawn : v.withdrawn ≡ []

  -- what the end of the home gives back
  abbrev pub IsLastBody : {N : Type 0} → (B → N) → HomeView B → B → Type 0
  IsLastBody name v x = IsNamed name v.body x × (HasBegunNone v → IsFirst v.body x)

  -- a call that tried until RUN was as it needs it has found these words before
  abbrev pub AfterTries : HomeView B → (HomeView B → Type 0) → Type 0
  AfterTries v P = (ns : List ℕ) × P (looked v ns)

  -- What a step tells. An exchange that found another word than it expected is a look
  abbrev pub Looks : Me (Option B) (HomeView B) → ℕ → Me (Option B) (HomeView B) → Type 0
  Looks me run after = (after ≡ (looked me.0 (run ∷ []), me.1)) × TellsHome me.0 run

  abbrev pub Queues : ℕ → Me (Option B) (HomeView B) → ℕ → Me (Option B) (HomeView B) → Type 0
  Queues expected me run after =
      (run ≡ expected → after ≡ (scheduled me.0 (turn_of run), me.1))
      × (run ≢ expected → after ≡ (looked me.0 (run ∷ []), me.1))
      × TellsHome me.0 run

  -- the seat now runs, as this view says, and has the body
  abbrev pub TakesBody : {N : Type 0} → (B → N) → Me (Option B) (HomeView B) → HomeView B → ℕ → Me (Option B) (HomeView B) → Type 0
  TakesBody name me w turn after = (x : B) × (after ≡ (w, (0, Some x) ∷ [])) × IsBodyOf name me.0.body turn x

  abbrev pub Claims : {N : Type 0} → (B → N) → ℕ → Me (Option B) (HomeView B) → ℕ → Me (Option B) (HomeView B) → Type 0
  Claims name expected me run after =
      (run ≡ expected → TakesBody name me (claimed_view me.0 (turn_of run)) (turn_of run) after)
      × (run ≢ expected → after ≡ (stale_view me.0 (turn_of expected) run, me.1))
      × TellsHome me.0 run

  abbrev pub Begins : {N : Type 0} → (B → N) → ℕ → Me (Option B) (HomeView B) → ℕ → Me (Option B) (HomeView B) → Type 0
  Begins name expected me run after =
      (run ≡ expected → TakesBody name me (begun_view me.0 (turn_of run)) (turn_of run) after)
      × (run ≢ expected → after ≡ (looked me.0 (run ∷ []), me.1))
      × TellsHome me.0 run

  abbrev pub Withdraws : {N : Type 0} → (B → N) → ℕ → Me (Option B) (HomeView B) → ℕ → Me (Option B) (HomeView B) → Type 0
  Withdraws name expected me run after =
      (run ≡ expected → TakesBody name me (withdrawn_view me.0 (turn_of run)) (turn_of run) after)
      × (run ≢ expected → after ≡ (looked me.0 (run ∷ []), me.1))
      × TellsHome me.0 run

  abbrev pub Ends : Me (Option B) (HomeView B) → ℕ → Me (Option B) (HomeView B) → Type 0
  Ends me run after = (after ≡ (ended_view me.0 (turn_of run), [])) × TellsHome me.0 run

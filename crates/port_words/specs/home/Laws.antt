-- What holds of every home, whatever its threads do and in whatever order.
use Rattle.std.specs.Prelude.{◌≡◌, ℕ, ◌+◌, ◌^◌, ◌<◌, ◌≤◌, [], ◌∷◌, ◌==◌, sum_by, Option, Some, None, slice_index}
use Rattle.std.specs.declared.snapshot.Snapshot.{Snapshot}
use mathlib.Core.Option as seat
use lib.ListN.{get_elem?}
use prog.Atomic.{either}
use Rattle.atomic_table.specs.Table.{State, Me, Allows, Splits, Joins, opening}
use Rattle.port_words.specs.declared.home.view.HomeView.{HomeView}
use Rattle.port_words.specs.home.Home.{IsHome, IsSlot, IsNamed, idle, queued, running, begun_in, made_in, fresh_view, other_shares, one_share, joined, spent, Looks, Queues, Claims, Begins, Withdraws, Ends}
use Rattle.port_words.specs.home.Seats.{held}

module _ {B N : Type 0} (name : B → N) where
  -- two seats that run are one seat, and RUN says which turn it runs
  abbrev pub OneRuns : Type 0
  OneRuns = (was : B) (seats : ℕ) (s : State (Option B) (HomeView B)) → IsHome name was seats s → (i j turn other : ℕ) (v w : HomeView B)
      → get_elem? s.views i ≡ seat.some v → get_elem? s.views j ≡ seat.some w → v.running ≡ Some turn → w.running ≡ Some other
      → (i ≡ j) × (turn ≡ other) × (slice_index s.words 0 ≡ running turn)

  -- where RUN says that a turn runs, a seat runs it
  abbrev pub RunsSomewhere : Type 0
  RunsSomewhere = (was : B) (seats : ℕ) (s : State (Option B) (HomeView B)) → IsHome name was seats s → (turn : ℕ) → slice_index s.words 0 ≡ running turn
      → (i : ℕ) × (v : HomeView B) × (get_elem? s.views i ≡ seat.some v) × (v.running ≡ Some turn)

  -- the body is at home, with the name that it came with, where no turn runs, and else it is out
  abbrev pub BodyIsKept : Type 0
  BodyIsKept = (was : B) (seats : ℕ) (s : State (Option B) (HomeView B)) → IsHome name was seats s → IsSlot name was (slice_index s.words 0) s.homes

  -- no turn begins twice, and no ticket is made twice
  abbrev pub TurnsBeginOnce : Type 0
  TurnsBeginOnce = (was : B) (seats : ℕ) (s : State (Option B) (HomeView B)) → IsHome name was seats s → (turn : ℕ) → (sum_by (begun_in turn) s.views ≤ 1) × (sum_by (made_in turn) s.views ≤ 1)

  -- a new home meets the rule
  abbrev pub NewHomeKept : Type 0
  NewHomeKept = (seats : ℕ) (b : Snapshot B) → IsHome name b.value seats (opening (0 ∷ []) (Some b.value ∷ []) (fresh_view (Some b) seats seats))

  -- a step by a seat with a share, which holds the slot while it runs
  abbrev pub Keeps : (ℕ → ℕ) → (Me (Option B) (HomeView B) → ℕ → Me (Option B) (HomeView B) → Type 0) → Type 0
  Keeps f then = (was : B) (seats slots id : ℕ) (v : HomeView B) → 0 < v.shares
      → Allows (IsHome name was seats) slots id (v, held v.running) 0 f (then (v, held v.running))

  abbrev pub HomeSplitKept : Type 0
  HomeSplitKept = (was : B) (seats id : ℕ) (v : HomeView B) → 1 < v.shares → Splits (IsHome name was seats) id v (other_shares v) (one_share v)

  abbrev pub HomeJoinKept : Type 0
  HomeJoinKept = (was : B) (seats id other : ℕ) (v w : HomeView B) → 0 < v.shares → w.running ≡ None → Joins (IsHome name was seats) id v other w (joined v w) spent

  abbrev pub HomeLookKept : Type 0
  HomeLookKept = Keeps (λ n. n) Looks

  -- idle to queued
  abbrev pub ScheduleKept : Type 0
  ScheduleKept = (turn : ℕ) → turn < 2 ^ 61 → Keeps (λ n. either (n == idle turn) (queued turn) n) (Queues (idle turn))

  -- queued to running, with the ticket and at the end of the home
  abbrev pub ClaimKept : Type 0
  ClaimKept = (turn : ℕ) → Keeps (λ n. either (n == queued turn) (running turn) n) (Claims name (queued turn))

  abbrev pub WithdrawKept : Type 0
  WithdrawKept = (turn : ℕ) → Keeps (λ n. either (n == queued turn) (running turn) n) (Withdraws name (queued turn))

  -- idle to running
  abbrev pub BeginKept : Type 0
  BeginKept = (turn : ℕ) → Keeps (λ n. either (n == idle turn) (running turn) n) (Begins name (idle turn))

  -- running to idle, with the body in the slot that the seat holds
  abbrev pub EndKept : Type 0
  EndKept = (was : B) (seats slots id turn : ℕ) (v : HomeView B) (x : B) → 0 < v.shares → v.running ≡ Some turn → turn < 2 ^ 61 → IsNamed name v.body x
      → Allows (IsHome name was seats) slots id (v, (0, Some x) ∷ []) 0 (λ n. idle (turn + 1)) (Ends (v, (0, Some x) ∷ []))

-- A poller's armed entries, and what a round does to them.
use Rattle.std.specs.Prelude.{◌≡◌, ℕ, ◌≤◌, ◌==◌, Bool, true, false, ◌&&◌, not, if◌then◌else◌, List, [], ◌∷◌, ◌++◌, Option, None, length, map, filter, ◌⊎◌}
use Rattle.std.specs.List.{list_any}
use Rattle.std.specs.List.Sorted.{IsStrictlyIncreasing}
use Rattle.port_model.specs.declared.event.Dir.{Dir}
use Rattle.port_model.specs.declared.event.Dir.TheVariants.{Read, Write}
use Rattle.outside.specs.Causes.{Rose, WaitOk}
use Rattle.task_queue.specs.declared.item.Item.{Item}
use Rattle.task_queue.specs.Ends.{Taking, TookAll, WasEmpty}
use Rattle.ready_select.specs.declared.armed.Armed.{Armed}
use Rattle.ready_select.specs.declared.ask.PollAsk.{PollAsk}
use Rattle.ready_select.specs.declared.ask.PollAsk.TheVariants.{Arm, Drop, Finish}
use Rattle.ready_select.specs.declared.ask.Polled.{Polled}
use Rattle.ready_select.specs.declared.ask.Polled.TheVariants as polled
use Rattle.ready_select.specs.declared.take_asks.Taken.{Taken}
use Rattle.ready_select.specs.declared.take_asks.Taken.TheVariants as taken
use Rattle.ready_select.specs.Latest.{latest, when}
use Rattle.ready_select.specs.Sets.{has}

abbrev pub entry_of : ℕ → ℕ → Dir → Armed
entry_of port event Read = record { event = event; port = port; is_write = false }
entry_of port event Write = record { event = event; port = port; is_write = true }

-- what a port is told of an entry
abbrev pub arm_ask : Armed → PollAsk
arm_ask a = Arm a.port a.event (if a.is_write then Write else Read)

abbrev pub same_bool : Bool → Bool → Bool
same_bool true b = b
same_bool false b = not b

abbrev pub same_armed : Armed → Armed → Bool
same_armed a b = (a.event == b.event) && ((a.port == b.port) && same_bool a.is_write b.is_write)

-- whether an entry is in a table
abbrev pub has_armed : Armed → List Armed → Bool
has_armed a table = list_any (λ b. same_armed b a) table

-- what an ask decides of an entry: an `Arm` arms its own, and a `Drop` ends those of its port and event
abbrev pub arms_entry : Armed → PollAsk → Option Bool
arms_entry a (Arm port event dir) = when (same_armed (entry_of port event dir) a) true
arms_entry a (Drop port event) = when ((event == a.event) && (port == a.port)) false
arms_entry a Finish = None

abbrev pub is_drop : PollAsk → Bool
is_drop (Drop port event) = true
is_drop _ = false

abbrev pub is_finish : PollAsk → Bool
is_finish Finish = true
is_finish _ = false

abbrev pub asks_of : List (Item PollAsk) → List PollAsk
asks_of items = map (λ item. item.value) items

-- a lane of asks has no key
abbrev pub Asks : Type 0
Asks = Taking PollAsk (Unit {0})

-- A round took these items, 1,024 at most. The table holds what they armed and didn't give up, and of what was armed before what they
-- didn't give up; what they gave up was found
pub record TookAsks (items : List (Item PollAsk)) (lane lane' : Asks) (table table' : List Armed) (found found' : List PollAsk) : Type 0 where
  pub lane_lem : lane' ≡ record lane { taken = lane.taken ++ items }
  pub few : length items ≤ 1024
  pub armed : (a : Armed) → has_armed a table' ≡ latest (arms_entry a) (has_armed a table) (asks_of items)
  pub given_up : found' ≡ found ++ filter is_drop (asks_of items)

-- A wait for the armed events, each once, by rising number, answered some of them. Their entries leave the table and are found, and
-- nothing else is
pub record IsWaited (faults faults' : ℕ) (answered answered' : List ℕ) (table table' : List Armed) (found found' : List PollAsk) : Type 0 where
  pub events : List ℕ
  pub armed : List ℕ
  pub each : (event : ℕ) → has event armed ≡ list_any (λ a. a.event == event) table
  pub rising : IsStrictlyIncreasing armed
  pub wait : WaitOk faults faults' answered answered' armed events
  pub left : table' ≡ filter (λ a. not (has a.event events)) table
  pub found_lem : found' ≡ found ++ map arm_ask (filter (λ a. has a.event events) table)

-- every ask fits
abbrev pub every_ask : Unit {0} → ℕ → PollAsk → Type 0
every_ask key number ask = Unit {0}

abbrev pub HasNoFinish : List (Item PollAsk) → Type 0
HasNoFinish items = list_any is_finish (asks_of items) ≡ false

-- the last of them, and no other, is a `Finish`
pub record EndsInFinish (items : List (Item PollAsk)) : Type 0 where
  pub before : List (Item PollAsk)
  pub last : Item PollAsk
  pub whole : items ≡ before ++ last ∷ []
  pub none_before : HasNoFinish before
  pub finish : last.value ≡ Finish

-- no more were there at the last take, or there were 1,024
abbrev pub AreAll : List (Item PollAsk) → Asks → Type 0
AreAll items lane = (length items ≡ 1024) ⊎ (WasEmpty every_ask lane × TookAll lane)

-- why a round takes no more
abbrev pub EndsTaking : Taken → List (Item PollAsk) → Asks → Type 0
EndsTaking taken.All items lane = HasNoFinish items × AreAll items lane
EndsTaking taken.Finished items lane = EndsInFinish items
EndsTaking taken.NoMemory items lane = HasNoFinish items

-- what a round works on: the poll set's count of faults and its answers so far, the table, what was found, and the lane of asks
pub record Poller : Type 0 where
  pub faults : ℕ
  pub answered : List ℕ
  pub table : List Armed
  pub found : List PollAsk
  pub lane : Asks

-- The asks were taken and stand in the table, what they gave up is found, and nothing else changed but the count of faults
pub record IsTaken (old new : Poller) (items : List (Item PollAsk)) : Type 0 where
  pub took : TookAsks items old.lane new.lane old.table new.table old.found new.found
  pub answered_lem : new.answered ≡ old.answered

-- a round, by how it ended
abbrev pub IsRound : Poller → Poller → Polled → Type 0
IsRound old new polled.Round = (items : List (Item PollAsk)) × (table : List Armed) × (found : List PollAsk)
    × TookAsks items old.lane new.lane old.table table old.found found × HasNoFinish items × AreAll items new.lane
    × IsWaited old.faults new.faults old.answered new.answered table new.table found new.found
IsRound old new polled.Finished = (items : List (Item PollAsk)) × IsTaken old new items × EndsInFinish items × (new.faults ≡ old.faults)
IsRound old new polled.Failed = (items : List (Item PollAsk)) × IsTaken old new items × HasNoFinish items × AreAll items new.lane × Rose old.faults new.faults
IsRound old new polled.NoMemory = (items : List (Item PollAsk)) × IsTaken old new items × HasNoFinish items × (new.faults ≡ old.faults)

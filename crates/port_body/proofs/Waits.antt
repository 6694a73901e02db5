-- When a task that was just taken has to wait, and when it may go.
use Rattle.std.proofs.Common.{◌≡◌, ℕ, ◌+◌, ◌-◌, ◌<◌, Bool, true, false, ◌&&◌, ◌||◌, List, [], ◌∷◌, ◌++◌, refl, sym, ap, ◌∙◌, subst, arith, ne_eqb, ◌⊎◌, inl, inr}
use Rattle.std.specs.Prelude.{not, nat_lt, if◌then◌else◌}
use Rattle.std.proofs.lemmas.Bool.{lt-ltb, ltb-true}
use Rattle.std.proofs.lemmas.List.{append-nil}
use Rattle.task_queue.specs.declared.item.Item.{Item}
use Rattle.port_lanes.specs.Keys.{Key, sender_at}
use Rattle.port_lanes.specs.Parcels.{ParcelView, FitsLane}
use Rattle.port_model.specs.declared.row.Row.{Row}
use Rattle.port_model.specs.declared.signal.Sender.TheVariants.{Poller, Worker}
use Rattle.port_model.specs.declared.signal.Signal.{Signal}
use Rattle.port_model.specs.declared.signal.Signal.TheVariants as signal
use Rattle.port_model.specs.Signals.{is_command}
use Rattle.port_events.specs.port_history.Laws.{may_send, waits_where_busy}
use Rattle.port_events.specs.port_history.State.{is_open}
use Rattle.waiting_parcels.specs.Waiting.{Waiting, GoesFirst, NoneGoes, has_sender}
use Rattle.recorded_port.specs.served_port.Outcomes.{is_handled}
use Rattle.recorded_port.specs.View.{RecordedView, state_of}
use Rattle.recorded_port.specs.Taking.{TellsOf}
use Rattle.port_body.specs.LanePort.{LanePortView, Holds, IsBody, OwnItems}
use Rattle.port_body.specs.Steps.{must_wait, is_busy_at, MayGo, Settles, CameToRow, CameToWait, Arrives, HasLooked, LaneWent, WaitingWent}
use Rattle.port_body.proofs.Holding.{within-lane, waits as waits-on}
use Rattle.port_body.proofs.Places.{Place, process, poller, worker, place, not-lt}
use Rattle.port_body.proofs.Settling.{process-at}

poller-sends : (sig : Signal) → may_send Poller sig ≡ true → is_command sig ≡ false
poller-sends (signal.Command payload) may = absurd cc
poller-sends (signal.OwnerCommand payload) may = absurd cc
poller-sends (signal.Control op bytes) may = refl
poller-sends (signal.Call op bytes) may = refl
poller-sends signal.Close may = refl
poller-sends signal.OwnerClose may = refl
poller-sends (signal.Connect other) may = refl
poller-sends (signal.OwnerConnect other) may = refl
poller-sends signal.Link may = refl
poller-sends signal.Unlink may = refl
poller-sends (signal.Monitor number) may = refl
poller-sends (signal.Demonitor number) may = refl
poller-sends (signal.Exit reason) may = refl
poller-sends (signal.Gone reason) may = refl
poller-sends (signal.Ready event dir) may = refl
poller-sends (signal.Dropped event) may = refl
poller-sends (signal.AsyncDone number output) may = refl

worker-sends : (n : ℕ) (sig : Signal) → may_send (Worker n) sig ≡ true → is_command sig ≡ false
worker-sends n (signal.Command payload) may = absurd cc
worker-sends n (signal.OwnerCommand payload) may = absurd cc
worker-sends n (signal.Control op bytes) may = refl
worker-sends n (signal.Call op bytes) may = refl
worker-sends n signal.Close may = refl
worker-sends n signal.OwnerClose may = refl
worker-sends n (signal.Connect other) may = refl
worker-sends n (signal.OwnerConnect other) may = refl
worker-sends n signal.Link may = refl
worker-sends n signal.Unlink may = refl
worker-sends n (signal.Monitor number) may = refl
worker-sends n (signal.Demonitor number) may = refl
worker-sends n (signal.Exit reason) may = refl
worker-sends n (signal.Gone reason) may = refl
worker-sends n (signal.Ready event dir) may = refl
worker-sends n (signal.Dropped event) may = refl
worker-sends n (signal.AsyncDone number output) may = refl

-- an end that is no process's sends no command
pub no-command : (key : Key) (x : Item ParcelView) → FitsLane key x.sender x.value → nat_lt x.sender key.processes ≡ false → is_command x.value.task.signal ≡ false
no-command key x fits other = by_place (place key x.sender (within-lane key x fits)) where
  by_place : Place key x.sender → is_command x.value.task.signal ≡ false
  by_place (process a) = absurd (let yes : nat_lt x.sender key.processes ≡ true = lt-ltb x.sender key.processes a.below in cc)
  by_place (poller a) = poller-sends x.value.task.signal (sym (ap (λ s. may_send s x.value.task.signal) a.is) ∙ fits.sender)
  by_place (worker a) = worker-sends (x.sender - (key.processes + 1)) x.value.task.signal (sym (ap (λ s. may_send s x.value.task.signal) a.is) ∙ fits.sender)

no-owner : (processes n : ℕ) (items : List (Item ParcelView)) → OwnItems processes items → nat_lt n processes ≡ false → has_sender n items ≡ false
no-owner processes n [] owners other = refl
no-owner processes n (y ∷ items) owners other =
    let low : y.sender < processes = owners.0 in
    let high = not-lt n processes other in
    rw (ne_eqb y.sender n (λ equal. omega (arith, low, high, equal))) (no-owner processes n items owners.1 other)

or-first : (a b : Bool) → (a || b) ≡ false → a ≡ false
or-first true b e = e
or-first false b e = refl

or-last : (a b : Bool) → (a || b) ≡ false → b ≡ false
or-last true b e = absurd cc
or-last false b e = e

and-flip : (a b : Bool) → (a && b) ≡ false → (b && a) ≡ false
and-flip true true e = e
and-flip true false e = refl
and-flip false true e = refl
and-flip false false e = refl

-- where it needn't wait, none of its sender waits
pub alone : (v : LanePortView) (x : Item ParcelView) → must_wait v x ≡ false → OwnItems v.processes v.waiting.items → (is_open (state_of v.port) ≡ false → v.waiting.items ≡ [])
    → has_sender x.sender v.waiting.items ≡ false
alone v x goes owners closed = elim (is_open (state_of v.port)) as (λ b. is_open (state_of v.port) ≡ b → has_sender x.sender v.waiting.items ≡ false) [
  | true ↦ λ opened. elim (nat_lt x.sender v.processes) as (λ b. nat_lt x.sender v.processes ≡ b → has_sender x.sender v.waiting.items ≡ false) [
    | true ↦ λ own. or-first (has_sender x.sender v.waiting.items) (is_busy_at v && waits_where_busy x.value.task)
        (sym (ap (λ b. b && (nat_lt x.sender v.processes && (has_sender x.sender v.waiting.items || (is_busy_at v && waits_where_busy x.value.task)))) opened
        ∙ ap (λ b. b && (has_sender x.sender v.waiting.items || (is_busy_at v && waits_where_busy x.value.task))) own) ∙ goes)
    | false ↦ λ other. no-owner v.processes x.sender v.waiting.items owners other
  ] refl
  | false ↦ λ shut. ap (has_sender x.sender) (closed shut)
] refl

-- and may go
pub free-to-go : (v : LanePortView) (x : Item ParcelView) → must_wait v x ≡ false → FitsLane v.lane.key x.sender x.value → v.processes ≡ v.lane.key.processes → MayGo v x
free-to-go v x goes fits same handled = elim (nat_lt x.sender v.processes) as (λ b. nat_lt x.sender v.processes ≡ b → (waits_where_busy x.value.task && is_busy_at v) ≡ false) [
  | true ↦ λ own.
      let at = process-at v.lane.key x.sender (subst (λ p. x.sender < p) same (ltb-true x.sender v.processes own)) in
      let opened : is_open (state_of v.port) ≡ true = sym (ap (λ s. is_handled (state_of v.port) s x.value.task.signal) at) ∙ handled in
      and-flip (is_busy_at v) (waits_where_busy x.value.task) (or-last (has_sender x.sender v.waiting.items) (is_busy_at v && waits_where_busy x.value.task)
      (sym (ap (λ b. b && (nat_lt x.sender v.processes && (has_sender x.sender v.waiting.items || (is_busy_at v && waits_where_busy x.value.task)))) opened
      ∙ ap (λ b. b && (has_sender x.sender v.waiting.items || (is_busy_at v && waits_where_busy x.value.task))) own) ∙ goes))
  | false ↦ λ other.
      let none = no-command v.lane.key x fits (subst (λ p. nat_lt x.sender p ≡ false) same other) in
      ap (λ b. (b && not x.value.task.forced) && is_busy_at v) none
] refl

-- a task that goes first doesn't wait for a busy port
pub first-free : (v : LanePortView) (waiting : Waiting) (items rest : List (Item ParcelView)) (x : Item ParcelView) (busy : Bool) → busy ≡ is_busy_at v → GoesFirst busy items x rest
    → MayGo (record v { waiting = waiting }) x
first-free v waiting items rest x busy same goes handled =
    subst (λ b. (waits_where_busy x.value.task && b) ≡ false) same (and-flip busy (waits_where_busy x.value.task) (second (has_sender x.sender goes.before) (busy && waits_where_busy x.value.task) goes.goes))
  where
    second : (a b : Bool) → (not a && not b) ≡ true → b ≡ false
    second true b e = absurd cc
    second false true e = absurd cc
    second false false e = refl

-- A body once a task came to wait, or to its row

own-append : (processes : ℕ) (items : List (Item ParcelView)) (x : Item ParcelView) → OwnItems processes items → x.sender < processes → OwnItems processes (items ++ x ∷ [])
own-append processes [] x owners below = (below, tt)
own-append processes (y ∷ items) x owners below = (owners.0, own-append processes items x owners.1 below)

own-parts : (processes : ℕ) (before after : List (Item ParcelView)) (x : Item ParcelView) → OwnItems processes (before ++ x ∷ after) → OwnItems processes (before ++ after)
own-parts processes [] after x owners = owners.1
own-parts processes (y ∷ before) after x owners = (owners.0, own-parts processes before after x owners.1)

pub rest-own : (processes : ℕ) (busy : Bool) (items rest : List (Item ParcelView)) (x : Item ParcelView) → GoesFirst busy items x rest → OwnItems processes items → OwnItems processes rest
rest-own processes busy items rest x goes owners =
    subst (OwnItems processes) (sym goes.left) (own-parts processes goes.before goes.after x (subst (OwnItems processes) goes.split owners))

and-first : (a b : Bool) → (a && b) ≡ true → a ≡ true
and-first true b e = refl
and-first false b e = absurd cc

and-last : (a b : Bool) → (a && b) ≡ true → b ≡ true
and-last true b e = e
and-last false b e = absurd cc

pub waits-body : (v : LanePortView) (w : Waiting) (x : Item ParcelView) → Holds v (v.waiting.items ++ x ∷ []) → must_wait v x ≡ true → OwnItems v.processes v.waiting.items
    → w.items ≡ v.waiting.items ++ x ∷ [] → w.senders ≡ v.waiting.senders → IsBody (record v { waiting = w })
waits-body v w x h waits owners items senders = record {
  holds = subst (Holds (record v { waiting = w })) (sym items) (waits-on v w (v.waiting.items ++ x ∷ []) h senders);
  owners = subst (OwnItems v.processes) (sym items) (own-append v.processes v.waiting.items x owners
      (ltb-true x.sender v.processes (and-first (nat_lt x.sender v.processes) _ (and-last (is_open (state_of v.port)) _ waits))));
  closed = λ shut. absurd (let opened = and-first (is_open (state_of v.port)) _ waits in cc);
}

pub waits-arrives : (old v : LanePortView) (w : Waiting) (x : Item ParcelView) → v ≡ record old { port = v.port } → must_wait v x ≡ true → w.items ≡ v.waiting.items ++ x ∷ [] → HasLooked v.port
    → Arrives old (record v { waiting = w }) x
waits-arrives old v w x rest waits items looked = record {
  went = inr (record {
    has_to = ap (λ (l : Waiting). must_wait (record v { waiting = l }) x) (sym (ap (λ (b : LanePortView). b.waiting) rest)) ∙ waits;
    waiting = items ∙ ap (λ (b : LanePortView). b.waiting.items ++ x ∷ []) rest;
  });
  lane = ap (λ (b : LanePortView). b.lane) rest;
  looked = looked;
}

pub settles-arrives : (old v new : LanePortView) (x : Item ParcelView) (before : List Row) → v ≡ record old { port = v.port } → v.port.rows ≡ old.port.rows ++ before → Settles v new x → Arrives old new x
settles-arrives old v new x before rest rows s =
    let lane = ap (λ (b : LanePortView). b.lane) rest in
    record {
      went = inl (record {
        row = record {
          before = before;
          row = s.row;
          behind = s.behind;
          rows = s.rows ∙ ap (λ r. r ++ s.row ∷ s.behind) rows;
          tells = subst (λ l. TellsOf s.row (sender_at l x.sender) x.seq x.value.task) (ap (λ l. l.key) lane) s.tells;
        };
        waiting = s.waiting ∙ ap (λ (b : LanePortView). if is_open (state_of new.port) then b.waiting.items else []) rest;
      });
      lane = s.lane ∙ lane;
      looked = s.looked;
    }

-- the body is the same with the same tasks waiting
pub body-waits : (v : LanePortView) (w : Waiting) → IsBody v → w.items ≡ v.waiting.items → w.senders ≡ v.waiting.senders → IsBody (record v { waiting = w })
body-waits v w body items senders = record {
  holds = subst (Holds (record v { waiting = w })) (sym items) (waits-on v w v.waiting.items body.holds senders);
  owners = subst (OwnItems v.processes) (sym items) body.owners;
  closed = λ shut. items ∙ body.closed shut;
}

pub waiting-went : (old new : LanePortView) (w : Waiting) (x : Item ParcelView) (busy : Bool) → busy ≡ is_busy_at old → GoesFirst busy old.waiting.items x w.items
    → Settles (record old { waiting = w }) new x → WaitingWent old new
waiting-went old new w x busy same goes s = record {
  item = x;
  rest = w.items;
  first = subst (λ b. GoesFirst b old.waiting.items x w.items) same goes;
  row = record {
    before = [];
    row = s.row;
    behind = s.behind;
    rows = s.rows ∙ ap (λ r. r ++ s.row ∷ s.behind) (sym (append-nil old.port.rows));
    tells = s.tells;
  };
  lane = s.lane;
  waiting = s.waiting;
}

pub lane-went : (old v new : LanePortView) (x : Item ParcelView) → NoneGoes (is_busy_at old) old.waiting.items → v.port ≡ old.port → v.lane ≡ record old.lane { taken = old.lane.taken ++ x ∷ [] }
    → v.waiting.items ≡ old.waiting.items → Arrives v new x → LaneWent old new
lane-went old v new x none port lane items arrives = record {
  item = x;
  none = none;
  lane = arrives.lane ∙ lane;
  went = went arrives.went;
} where
  went : (CameToRow v new x ⊎ CameToWait v new x) → (CameToRow old new x ⊎ CameToWait old new x)
  went (inl came) =
      let row = came.row in
      inl (record {
        row = record {
          before = row.before;
          row = row.row;
          behind = row.behind;
          rows = row.rows ∙ ap (λ (p : RecordedView). p.rows ++ row.before ++ row.row ∷ row.behind) port;
          tells = subst (λ l. TellsOf row.row (sender_at l x.sender) x.seq x.value.task) (ap (λ l. l.key) lane) row.tells;
        };
        waiting = came.waiting ∙ ap (λ t. if is_open (state_of new.port) then t else []) items;
      })
  went (inr waits) = inr (record {
    has_to = ap (λ t. is_open (state_of new.port) && (nat_lt x.sender new.processes && (has_sender x.sender t || (is_busy_at new && waits_where_busy x.value.task)))) (sym items) ∙ waits.has_to;
    waiting = waits.waiting ∙ ap (λ t. t ++ x ∷ []) items;
  })

-- The histories of closed ports, whose workers told them their jobs.
use Rattle.std.proofs.Common.{◌≡◌, ◌<◌, ◌≤◌, ◌+◌, ◌-◌, ◌++◌, ℕ, zero, suc, Bool, true, false, List, [], ◌∷◌, length, map, get_or, refl, sym, ap, ◌∙◌, subst, arith, All}
use Rattle.std.specs.Prelude.{reverse, nat_eq, if◌then◌else◌}
use Rattle.std.proofs.lemmas.Bool.{eqb-true, lt-ltb, ltb-true}
use Rattle.std.proofs.lemmas.List.{get_or-map, get_or-reverse, length-map, length-reverse}
use Rattle.std.proofs.lemmas.List.Elements.{All-tail}
use Rattle.async_jobs.specs.Pool.{Lanes, PoolEnd}
use Rattle.port_lanes.specs.Keys.{Key, EndsAreNumbered, NumbersHaveSenders, end_of, is_within, sender_at}
use Rattle.port_lanes.specs.Parcels.{ParcelView}
use Rattle.port_model.specs.declared.row.Row.{Row}
use Rattle.port_model.specs.declared.row.Row.TheVariants.{Handled, Late, Listed, Resumed, Mark}
use Rattle.port_model.specs.declared.signal.Sender.{Sender}
use Rattle.port_model.specs.declared.signal.Sender.TheVariants.{Process, Poller, Worker, Timer}
use Rattle.port_model.specs.Tasks.{TaskView}
use Rattle.driver_hosts.specs.port_body.Body.{BodyView, BodyName, name_of}
use Rattle.driver_hosts.specs.port_body.LanePort.{HasEnd, rows_from, task_from}
use Rattle.driver_hosts.specs.declared.ending.EndedPort.{EndedPort}
use Rattle.driver_hosts.specs.served_port.View.{EndName, end_name, end_names}
use Rattle.closed_ports.specs.Ends.{LaneEnd}
use Rattle.closed_ports.specs.Laws.{RowsAreSent, ends_at}
use Rattle.closed_ports.specs.Senders.{IsOfAnEnd}
use Rattle.port_history.specs.Lawful.{Lawful}
use Rattle.told_jobs.proofs.Worked.{workers-tell}
use Rattle.told_jobs.specs.Runs.{HasGiven, HasRun, HasSettled, PortRun}
use Rattle.told_jobs.specs.Told.{WorkersTell}
use Rattle.closed_ports.specs.Closed.{IsClosed}
use Rattle.closed_ports.specs.Jobs.{ClosedPortsAreLawful, IsNumbered}
use Rattle.closed_ports.proofs.Rest.{any-end}

-- a closed port as the run of its workers sees it
abbrev run_of : BodyView → EndedPort → PortRun
run_of v p = record { opening = (name_of v).opening; history = reverse p.journal.rows; pool = p.outlets.ends.pool }

abbrev port_runs : List BodyView → List EndedPort → List PortRun
port_runs [] ports = []
port_runs (v ∷ bodies) [] = []
port_runs (v ∷ bodies) (p ∷ ports) = run_of v p ∷ port_runs bodies ports

pub many-runs : (bodies : List BodyView) (ports : List EndedPort) → length ports ≡ length bodies → length (port_runs bodies ports) ≡ length bodies
many-runs [] ports same = refl
many-runs (v ∷ bodies) [] same = absurd (omega (arith, same))
many-runs (v ∷ bodies) (p ∷ ports) same = let less : length ports ≡ length bodies = omega (arith, same) in ap suc (many-runs bodies ports less)

pub at-run : (bodies : List BodyView) (ports : List EndedPort) (k : ℕ) (r : PortRun) (v : BodyView) (p : EndedPort) → length ports ≡ length bodies → k < length bodies
    → get_or (port_runs bodies ports) k r ≡ run_of (get_or bodies k v) (get_or ports k p)
at-run [] ports k r v p same within = absurd (omega (arith, within))
at-run (w ∷ bodies) [] k r v p same within = absurd (omega (arith, same))
at-run (w ∷ bodies) (q ∷ ports) zero r v p same within = refl
at-run (w ∷ bodies) (q ∷ ports) (suc k) r v p same within = at-run bodies ports k r v p (omega (arith, same)) (omega (arith, within))

-- numbers that differ aren't the same
not-same : (a b : ℕ) → b < a → (b' : Bool) → nat_eq a b ≡ b' → b' ≡ false
not-same a b less true is = absurd (let same = eqb-true a b is in omega (arith, less, same))
not-same a b less false is = refl

-- a sender with an end is no worker beyond those of the key
no-worker : NumbersHaveSenders → (key : Key) (from : Sender) (worker : ℕ) (task : TaskView) → HasEnd key from → key.workers ≤ worker → task_from (Worker worker) from task ≡ []
no-worker senders key (Process process) worker task has beyond = refl
no-worker senders key Poller worker task has beyond = refl
no-worker senders key Timer worker task has beyond = refl
no-worker senders key (Worker other) worker task has beyond =
    let is : is_within key (Worker other) ≡ true = subst (λ s. is_within key s ≡ true) (sym has.is) (senders key has.number (let w = has.within in omega (arith, w))).1 in
    let less : other < key.workers = ltb-true other key.workers is in
    ap (λ b. if b then task ∷ [] else []) (not-same worker other (omega (arith, less, beyond)) (nat_eq worker other) refl)

-- so none of them has a row
none-from : NumbersHaveSenders → (key : Key) (worker : ℕ) (history : List Row) → key.workers ≤ worker → All (IsOfAnEnd key) history → rows_from (Worker worker) history ≡ []
none-from senders key worker [] beyond all = refl
none-from senders key worker (Handled from seq task outside effects ∷ older) beyond all =
    let first = no-worker senders key from worker task (all 0 (Handled from seq task outside effects) (omega arith)) beyond in
    ap (λ l. l ++ task_from (Worker worker) from task) (none-from senders key worker older beyond (All-tail (IsOfAnEnd key) (Handled from seq task outside effects) older all)) ∙ first
none-from senders key worker (Late from seq task ∷ older) beyond all =
    let first = no-worker senders key from worker task (all 0 (Late from seq task) (omega arith)) beyond in
    ap (λ l. l ++ task_from (Worker worker) from task) (none-from senders key worker older beyond (All-tail (IsOfAnEnd key) (Late from seq task) older all)) ∙ first
none-from senders key worker (Listed from seq ∷ older) beyond all = none-from senders key worker older beyond (All-tail (IsOfAnEnd key) (Listed from seq) older all)
none-from senders key worker (Resumed from seq word ∷ older) beyond all = none-from senders key worker older beyond (All-tail (IsOfAnEnd key) (Resumed from seq word) older all)
none-from senders key worker (Mark kind ∷ older) beyond all = none-from senders key worker older beyond (All-tail (IsOfAnEnd key) (Mark kind) older all)

all-turned : {X : Type 0} (P : X → Type 0) (xs : List X) → All P xs → All P (reverse xs)
all-turned P xs all k d below =
    let many = length-reverse xs in
    let within : k < length xs = omega (arith, many, below) in
    subst P (sym (get_or-reverse xs k d within)) (all (length xs - 1 - k) d (omega (arith, within)))

-- the ends of a port in the lanes of the workers are those of its name
pool-at : (name : BodyName) (pool : Lanes) → end_names pool ≡ name.pool → (worker : ℕ) (d : PoolEnd) → worker < length pool → end_name (get_or pool worker d) ≡ get_or name.pool worker (end_name d)
pool-at name pool same worker d below = sym (get_or-map end_name pool worker d (end_name d) below) ∙ ap (λ l. get_or l worker (end_name d)) same

given-one : (ports workers number : ℕ) (v : BodyView) (p : EndedPort) (ends : List LaneEnd) → IsClosed (name_of v) ends p → IsNumbered ports workers number (name_of v) → HasGiven ports workers number (run_of v p)
given-one ports workers number v p ends closed is =
    let pool = p.outlets.ends.pool in
    let many : length pool ≡ workers = sym (length-map pool end_name) ∙ ap length closed.pool ∙ is.pool_many in
    record {
      number_is = is.number_is;
      lawful = closed.sent.lawful;
      gave = closed.sent.jobs;
      many = many;
      numbers = λ worker d below. ap (λ (n : EndName). n.number) (pool-at (name_of v) pool closed.pool worker d (omega (arith, many, below))) ∙ is.pool_numbers worker (end_name d) below;
      made = λ worker d below first. ap (λ (n : EndName). n.made) (pool-at (name_of v) pool closed.pool worker d (omega (arith, many, below))) ∙ is.pool_made worker (end_name d) below first;
    }

-- a worker's rows at a port are what its end sent
worker-rows : EndsAreNumbered → (key : Key) (columns : List (List LaneEnd)) (port worker : ℕ) (d : LaneEnd) (history : List Row) → RowsAreSent key (ends_at port d columns) history
    → length columns ≡ end_of key Timer → worker < key.workers
    → rows_from (Worker worker) history ≡ map (λ (p : ParcelView). p.task) (get_or (get_or columns (key.processes + 1 + worker) []) port d).sent
worker-rows numbered key columns port worker d history rows many below =
    let number = key.processes + 1 + worker in
    let low : number < length columns = omega (arith, many, below) in
    let long : length (ends_at port d columns) ≡ length columns = length-map columns (λ (l : List LaneEnd). get_or l port d) in
    let at : sender_at key number ≡ Worker worker = numbered key (Worker worker) (lt-ltb worker key.workers below) in
    let stands : get_or (ends_at port d columns) number d ≡ get_or (get_or columns number []) port d = get_or-map (λ (l : List LaneEnd). get_or l port d) columns number [] d low in
    ap (λ s. rows_from s history) (sym at) ∙ rows number d (omega (arith, long, low)) ∙ ap (λ (e : LaneEnd). map (λ (p : ParcelView). p.task) e.sent) stands

pub all-lawful : EndsAreNumbered → NumbersHaveSenders → ClosedPortsAreLawful
all-lawful numbered senders bodies columns ports workers all closed have port v p below =
    let same = closed.many in
    let runs = port_runs bodies ports in
    let many = many-runs bodies ports same in
    let ran : HasRun runs workers = record {
      some = have.some;
      given = λ k r less.
          let inside : k < length bodies = omega (arith, many, less) in
          let stands = at-run bodies ports k r v p same inside in
          subst (λ n. HasGiven n (length workers) k (get_or runs k r)) (sym many)
          (subst (HasGiven (length bodies) (length workers) k) (sym stands)
          (given-one (length bodies) (length workers) k (get_or bodies k v) (get_or ports k p) (ends_at k (any-end v) columns) (closed.each k v (any-end v) p inside) (have.numbered k v inside)));
      worked = λ w r less. subst (λ n. HasSettled n (get_or workers w r)) (sym many) (have.worked w r less);
      ends = λ k w r x d e inside less.
          let within : k < length bodies = omega (arith, many, inside) in
          have.ends k w p x d e within less ∙ ap (λ (t : PortRun). get_or t.pool w e) (sym (at-run bodies ports k r v p same within));
      rows = λ k w r x d inside less.
          let within : k < length bodies = omega (arith, many, inside) in
          let name = name_of (get_or bodies k v) in
          let own = closed.each k v d p within in
          let counts = (have.numbered k v within).workers_are in
          ap (λ (t : PortRun). rows_from (Worker w) t.history) (at-run bodies ports k r v p same within)
          ∙ worker-rows numbered name.key columns k w d (reverse (get_or ports k p).journal.rows) own.rows (all.many k v within) (omega (arith, counts, less))
          ∙ ap (λ (e : LaneEnd). map (λ (q : ParcelView). q.task) e.sent) (have.sent k w v x [] d within less);
      others = λ k w r inside beyond.
          let within : k < length bodies = omega (arith, many, inside) in
          let name = name_of (get_or bodies k v) in
          let own = closed.each k v (any-end v) p within in
          let counts = (have.numbered k v within).workers_are in
          ap (λ (t : PortRun). rows_from (Worker w) t.history) (at-run bodies ports k r v p same within)
          ∙ none-from senders name.key w (reverse (get_or ports k p).journal.rows) (omega (arith, counts, beyond)) (all-turned (IsOfAnEnd name.key) (get_or ports k p).journal.rows own.senders);
    } in
    let told = workers-tell runs workers ran port (run_of (get_or bodies port v) (get_or ports port p)) (omega (arith, many, below)) in
    subst (λ (t : PortRun). WorkersTell (length workers) t.opening t.history × Lawful t.opening t.history) (at-run bodies ports port (run_of (get_or bodies port v) (get_or ports port p)) v p same below) told

-- The workers of a run, whose lanes were emptied.
use Rattle.std.proofs.Common.{◌≡◌, ◌<◌, ◌+◌, ◌++◌, ℕ, List, [], ◌∷◌, length, map, get_or, refl, sym, ap, ◌∙◌, subst, arith, All}
use Rattle.std.proofs.lemmas.List.{get_or-map, get_or_default, length-map}
use Rattle.std.proofs.lemmas.List.Elements.{All-cons, All-nil}
use Rattle.async_jobs.specs.declared.job.WorkItem.TheVariants.{Finish}
use Rattle.async_jobs.specs.Items.{AnyFits}
use Rattle.async_jobs.specs.Pool.{Lanes, PoolEnd}
use Rattle.async_jobs.specs.Turns.{Worker}
use Rattle.run_opening.specs.driver_hosts.port_body.Body.{BodyView, name_of}
use Rattle.closed_ports.specs.Closed.{AreClosed}
use Rattle.closed_ports.specs.Jobs.{HaveWorkedFor, IsNumbered}
use Rattle.run_opening.specs.driver_hosts.declared.ending.EndedPort.{EndedPort}
use Rattle.run_end.specs.Ran.{RanProcess}
use Rattle.run_opening.specs.run_seats.threaded_jobs.run_jobs.declared.worker.WorkerEnd.TheVariants.{Finished}
use Rattle.run_opening.specs.run_seats.threaded_jobs.run_jobs.Finishing.{SendsOne}
use Rattle.run_lanes.specs.declared.parts.WorkerLanes.{WorkerLanes}
use Rattle.run_lanes.specs.Ends.{AreLaneRows, AreOfLanes, HaveEmptied, made_by, new_end}
use Rattle.run_lanes.specs.Opened.{HasWorker}
use Rattle.run_opening.specs.Setting.{Setting}
use Rattle.run_opening.specs.driver_hosts.served_port.View.{EndName, end_name, end_names}
use Rattle.closed_ports.specs.Ends.{LaneEnd}
use Rattle.task_queue.specs.Ends.{ended_of}
use Rattle.run_opening.specs.run_seats.threaded_jobs.declared.parting.WorkerLeft.{WorkerLeft}
use Rattle.closed_ports.specs.told_jobs.Runs.{HasSettled, WorkerRun}
use Rattle.closed_lanes.specs.declared.closing.LaneEnds.{LaneEnds}
use Rattle.closed_lanes.proofs.Lists.{Chosen, at-back, choose, some-of}
use Rattle.closed_lanes.proofs.Names.{many-lanes, opened-among}
use Rattle.closed_lanes.proofs.Setting.{IsRun, given-columns, many-given, many-worked, worked-at, worked-lane, worker-lanes}

-- the ends of an ended port in the workers' lanes are those of its name
pool-name : (pool : Lanes) (names : List EndName) → end_names pool ≡ names → (worker : ℕ) (d : PoolEnd) → worker < length pool → end_name (get_or pool worker d) ≡ get_or names worker (end_name d)
pool-name pool names same worker d below = sym (get_or-map end_name pool worker d (end_name d) below) ∙ ap (λ l. get_or l worker (end_name d)) same

one-finish : All (λ item. item ≡ Finish) (Finish ∷ [])
one-finish = All-cons (λ item. item ≡ Finish) Finish [] refl (All-nil (λ item. item ≡ Finish))

-- some end of a body's lane
pub any-end : BodyView → LaneEnd
any-end v = record { lane = v.lane_port.lane.lane; key = v.lane_port.lane.key; number = 0; made = 0; sent = [] }

-- each port's ends of the workers' lanes
pub record ArePools (ports : List EndedPort) (pools : List Lanes) : Type 0 where
  pub many : length pools ≡ length ports
  pub each : (port : ℕ) (p : EndedPort) (q : Lanes) → port < length ports → get_or pools port q ≡ (get_or ports port p).outlets.ends.pool

-- a worker of a run, once its lane was emptied
pub record IsWorkerOf (ports : List EndedPort) (workers : List WorkerLeft) (worker : ℕ) (r : WorkerRun) : Type 0 where
  pub settled : HasSettled (length ports) r
  pub ends : (port : ℕ) (p : EndedPort) (d e : PoolEnd) → port < length ports → get_or r.ends port d ≡ get_or (get_or ports port p).outlets.ends.pool worker e
  pub sent : (l : WorkerLeft) → r.sent ≡ (get_or workers worker l).lanes.items

module _ (s : Setting) (bodies : List BodyView) (processes : List RanProcess) (ends : LaneEnds) (run : IsRun s bodies processes ends) where
  -- the lane of a worker is that which it was dealt, and took in no end
  pub worker-lane : (n : ℕ) (w : WorkerLanes) (l : WorkerLeft) → n < s.size.workers → (get_or ends.workers.items n l).jobs.lane ≡ (get_or s.lanes.workers.items n w).jobs.lane
  worker-lane n w l below = ap (λ t. t.lane) (worked-lane s bodies processes ends run n w l below).taken

  none-ended : (n : ℕ) (w : WorkerLanes) (l : WorkerLeft) → n < s.size.workers → (get_or ends.workers.items n l).jobs.ended ≡ []
  none-ended n w l below =
      let has : HasWorker s.size s.lanes n (get_or s.lanes.workers.items n w) = run.set.lanes_are.workers n w below in
      ap (λ t. t.ended) (worked-lane s bodies processes ends run n w l below).taken ∙ has.jobs.ended

  many-jobs : length (map (λ (w : WorkerLeft). w.jobs) ends.workers.items) ≡ s.size.workers
  many-jobs = length-map ends.workers.items (λ (w : WorkerLeft). w.jobs) ∙ run.give.worked.many

  jobs-at : (n : ℕ) (t : Worker) (l : WorkerLeft) → n < s.size.workers → get_or (map (λ (w : WorkerLeft). w.jobs) ends.workers.items) n t ≡ (get_or ends.workers.items n l).jobs
  jobs-at n t l below =
      let many = run.give.worked.many in
      get_or-map (λ (w : WorkerLeft). w.jobs) ends.workers.items n l t (omega (arith, many, below))

  left-of : (n : ℕ) → n < s.size.workers → WorkerLeft
  left-of n below = let many = run.give.worked.many in some-of ends.workers.items n (omega (arith, many, below))

  many-finish : length ends.finish.items ≡ s.size.workers
  many-finish = run.give.told.many ∙ run.set.lanes_are.finish.workers_many

  -- the last end of a worker's lane sent one `Finish`
  finished : (n : ℕ) (w : WorkerLanes) (d : PoolEnd) → n < s.size.workers
      → get_or ends.finish.items n d ≡ record (new_end (get_or s.lanes.workers.items n w).jobs (length s.lanes.ports.items + 1) (length s.lanes.ports.items)) { sent = Finish ∷ [] }
  finished n w d below =
      let finish = run.set.lanes_are.finish in
      let many = finish.workers_many in
      let dealt = (finish.workers w).each n d below in
      let told : SendsOne Finish (get_or s.lanes.finish.workers.items n d) (get_or ends.finish.items n d) = run.give.told.each n d (omega (arith, many, below)) in
      told ∙ ap (λ (e : PoolEnd). record e { sent = e.sent ++ Finish ∷ [] }) dealt

  pub last-of-lanes : AreOfLanes (map (λ (w : WorkerLeft). w.jobs) ends.workers.items) ends.finish.items
  last-of-lanes = record {
    many = many-finish ∙ sym many-jobs;
    each = λ lane t d below.
        let many = many-jobs in
        let within : lane < s.size.workers = omega (arith, many, below) in
        let w = worker-lanes s bodies processes ends run lane within in
        let l = left-of lane within in
        ap (λ (e : PoolEnd). e.lane) (finished lane w d within) ∙ sym (worker-lane lane w l within) ∙ sym (ap (λ (x : Worker). x.lane) (jobs-at lane t l within));
  }

  -- the names of a body's ends of the workers' lanes
  names-many : (port : ℕ) (v : BodyView) → port < length bodies → length (name_of (get_or bodies port v)).pool ≡ s.size.workers
  names-many port v below =
      let lanes = many-lanes s bodies run.set run.named in
      let p = some-of s.lanes.ports.items port (omega (arith, lanes, below)) in
      let among = opened-among s bodies run.set run.named port v p below in
      ap length among.pool ∙ length-map (get_or s.lanes.ports.items port p).pool end_name ∙ among.has.pool_many

  names-at : (port worker : ℕ) (v : BodyView) (w : WorkerLanes) (d : EndName) → port < length bodies → worker < s.size.workers
      → get_or (name_of (get_or bodies port v)).pool worker d ≡ end_name (new_end (get_or s.lanes.workers.items worker w).jobs (length s.lanes.ports.items + 1) port)
  names-at port worker v w d below less =
      let lanes = many-lanes s bodies run.set run.named in
      let p = some-of s.lanes.ports.items port (omega (arith, lanes, below)) in
      let among = opened-among s bodies run.set run.named port v p below in
      let e = new_end (get_or s.lanes.workers.items worker w).jobs 0 0 in
      let many = among.has.pool_many in
      ap (λ l. get_or l worker d) among.pool ∙ get_or-map end_name (get_or s.lanes.ports.items port p).pool worker e d (omega (arith, many, less))
      ∙ ap end_name ((among.has.pool w).each worker e less)

  numbered : (workers port : ℕ) (v : BodyView) → workers ≡ s.size.workers → port < length bodies → IsNumbered (length bodies) workers port (name_of (get_or bodies port v))
  numbered workers port v many below =
      let lanes = many-lanes s bodies run.set run.named in
      let p = some-of s.lanes.ports.items port (omega (arith, lanes, below)) in
      let among = opened-among s bodies run.set run.named port v p below in
      record {
        number_is = among.number_is;
        workers_are = among.workers ∙ sym many;
        pool_many = names-many port v below ∙ sym many;
        pool_numbers = λ worker d less.
            let within : worker < s.size.workers = omega (arith, many, less) in
            ap (λ (n : EndName). n.number) (names-at port worker v (worker-lanes s bodies processes ends run worker within) d below within);
        pool_made = λ worker d less first.
            let within : worker < s.size.workers = omega (arith, many, less) in
            ap (λ (n : EndName). n.made) (names-at port worker v (worker-lanes s bodies processes ends run worker within) d below within)
            ∙ ap (made_by (length s.lanes.ports.items + 1)) first ∙ ap (λ n. n + 1) lanes;
      }

  module _ (ports : List EndedPort) (closed : AreClosed bodies (given-columns ends) ports) where
    pool-is : (port : ℕ) (v : BodyView) (p : EndedPort) → port < length bodies → end_names (get_or ports port p).outlets.ends.pool ≡ (name_of (get_or bodies port v)).pool
    pool-is port v p below = (closed.each port v (any-end v) p below).pool

    pool-many : (port : ℕ) (p : EndedPort) → port < length bodies → length (get_or ports port p).outlets.ends.pool ≡ s.size.workers
    pool-many port p below =
        let v = some-of bodies port below in
        sym (length-map (get_or ports port p).outlets.ends.pool end_name) ∙ ap length (pool-is port v p below) ∙ names-many port v below

    -- the name of a port's end of a worker's lane
    pool-at : (port worker : ℕ) (p : EndedPort) (w : WorkerLanes) (e : PoolEnd) → port < length bodies → worker < s.size.workers
        → end_name (get_or (get_or ports port p).outlets.ends.pool worker e) ≡ end_name (new_end (get_or s.lanes.workers.items worker w).jobs (length s.lanes.ports.items + 1) port)
    pool-at port worker p w e below less =
        let v = some-of bodies port below in
        let many = pool-many port p below in
        pool-name (get_or ports port p).outlets.ends.pool (name_of (get_or bodies port v)).pool (pool-is port v p below) worker e (omega (arith, many, less)) ∙ names-at port worker v w (end_name e) below less

    pub rows-of-lanes : (pools : List Lanes) → ArePools ports pools → AreLaneRows (map (λ (w : WorkerLeft). w.jobs) ends.workers.items) pools
    rows-of-lanes pools are = record {
      long = λ port q below.
          let many = are.many in
          let p = some-of ports port (omega (arith, many, below)) in
          let count = closed.many in
          ap length (are.each port p q (omega (arith, many, below))) ∙ pool-many port p (omega (arith, many, count, below)) ∙ sym many-jobs;
      lanes = λ port worker q t d below less.
          let many = are.many in
          let count = closed.many in
          let jobs = many-jobs in
          let within : worker < s.size.workers = omega (arith, jobs, less) in
          let p = some-of ports port (omega (arith, many, below)) in
          let w = worker-lanes s bodies processes ends run worker within in
          let l = left-of worker within in
          ap (λ (x : Lanes). (get_or x worker d).lane) (are.each port p q (omega (arith, many, below)))
          ∙ ap (λ (n : EndName). n.lane) (pool-at port worker p w d (omega (arith, many, count, below)) within)
          ∙ sym (worker-lane worker w l within) ∙ sym (ap (λ (x : Worker). x.lane) (jobs-at worker t l within));
    }

    module _ (pools : List Lanes) (are : ArePools ports pools) (settled : List Worker)
        (emptied : HaveEmptied AnyFits pools ends.finish.items (map (λ (w : WorkerLeft). w.jobs) ends.workers.items) settled) where
      worker-run : (n : ℕ) → n < s.size.workers → (r : WorkerRun) × IsWorkerOf ports ends.workers.items n r
      worker-run n below =
          let w = worker-lanes s bodies processes ends run n below in
          let l = left-of n below in
          let lanes = get_or s.lanes.workers.items n w in
          let left = get_or ends.workers.items n l in
          let d = new_end lanes.jobs 0 0 in
          let jobs = many-jobs in
          let has : HasWorker s.size s.lanes n lanes = run.set.lanes_are.workers n w below in
          let column = emptied.each n left.jobs left.jobs d (omega (arith, jobs, below)) in
          let here = jobs-at n left.jobs l below in
          let bodies_are = many-lanes s bodies run.set run.named in
          let ports_are = closed.many in
          let pools_are = are.many in
          let last_is = finished n w d below in
          let worked = run.give.worked.many in (
            record {
              how = Finished;
              before = lanes.jobs;
              after = left.jobs;
              settled = get_or settled n left.jobs;
              ends = column.ends;
              last = get_or ends.finish.items n d;
              unsent = lanes.lanes.items;
              sent = left.lanes.items;
            },
            record {
              settled = record {
                works = worked-lane s bodies processes ends run n w l below;
                untaken = has.jobs.taken;
                lanes_many = has.lanes.many ∙ bodies_are ∙ sym ports_are;
                unsent = λ port e within.
                    let p = some-of s.lanes.ports.items port (omega (arith, bodies_are, ports_are, within)) in
                    ap (λ (x : LaneEnd). x.sent) ((has.lanes.each p).each port e (omega (arith, bodies_are, ports_are, within)));
                more = column.emptied.more;
                later = ap (λ (x : Worker). x.taken) column.emptied.is ∙ ap (λ (x : Worker). x.taken ++ column.emptied.more) here;
                order = column.emptied.order;
                ended = ap (λ (x : Worker). x.ended) column.emptied.is ∙ ap (λ l. (l ++ map ended_of column.ends) ++ ended_of (get_or ends.finish.items n d) ∷ []) (ap (λ (x : Worker). x.ended) here ∙ none-ended n w l below);
                ends_many = column.column.many ∙ pools_are;
                last_is = ap (λ (e : PoolEnd). e.number) last_is ∙ bodies_are ∙ sym ports_are;
                finishes = subst (All (λ item. item ≡ Finish)) (sym (ap (λ (e : PoolEnd). e.sent) last_is)) one-finish;
              };
              ends = λ port p e f within.
                  column.column.at port [] e f (omega (arith, pools_are, within)) ∙ ap (λ (x : Lanes). get_or x n f) (are.each port p [] within);
              sent = λ k. ap (λ (x : WorkerLeft). x.lanes.items) (get_or_default ends.workers.items n l k (omega (arith, worked, below)));
            },
          )

      pub runs : Chosen (IsWorkerOf ports ends.workers.items) s.size.workers
      runs = choose (IsWorkerOf ports ends.workers.items) s.size.workers worker-run

      pub have-worked : HaveWorkedFor bodies (given-columns ends) ports runs.all
      have-worked =
          let many = runs.placed.many in
          let ports_are = closed.many in
          let first = map (λ c. c.items) ends.processes.items in
          let last = map (λ (w : WorkerLeft). w.lanes.items) ends.workers.items in
          record {
            some = let few = run.set.declared.some_workers in omega (arith, many, few);
            numbered = λ port v below. numbered (length runs.all) port v many below;
            worked = λ worker r less. subst (λ n. HasSettled n (get_or runs.all worker r)) ports_are (runs.placed.each worker r less).settled;
            ends = λ port worker p r d e below less. (runs.placed.each worker r less).ends port p d e (omega (arith, ports_are, below));
            sent = λ port worker v r c d below less.
                let within : worker < s.size.workers = omega (arith, many, less) in
                let lanes = many-lanes s bodies run.set run.named in
                let p = some-of s.lanes.ports.items port (omega (arith, lanes, below)) in
                let among = opened-among s bodies run.set run.named port v p below in
                let given = many-given s bodies processes ends run in
                let worked = many-worked s bodies processes ends run in
                let key : (name_of (get_or bodies port v)).key.processes ≡ length first = among.processes ∙ sym given in
                let l = left-of worker within in
                ap (λ m. get_or (get_or (given-columns ends) (m + 1 + worker) c) port d) key
                ∙ ap (λ x. get_or x port d) (at-back first ends.poller.items last worker c c (omega (arith, worked, within)) ∙ worked-at s bodies processes ends run worker c l within
                ∙ sym ((runs.placed.each worker r less).sent l));
          }

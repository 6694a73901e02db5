-- The lanes of a run with one port, as they are dealt.
use Rattle.std.proofs.Common.{arith, zero, suc, ◌≡◌, ◌∙◌, ◌+◌, ◌-◌, ◌<◌, ◌≤◌, ◌∷◌, [], ℕ, List, length, get_or, take, refl, sym, ap, subst}
use Rattle.std.specs.Prelude.{slice_index_or}
use Rattle.std.proofs.lemmas.List.{get_or-take}
use Rattle.port_model.specs.declared.signal.Sender.TheVariants.{Poller, Worker}
use Rattle.process_end.specs.Views.{LaneEnd}
use Rattle.process_end.specs.port_lanes.Keys.{Key, sender_at}
use Rattle.run_lanes.specs.declared.parts.PortLanes.{PortLanes}
use Rattle.run_lanes.specs.declared.parts.ProcessLanes.{ProcessLanes}
use Rattle.run_lanes.specs.declared.parts.WorkerLanes.{WorkerLanes}
use Rattle.run_lanes.specs.declared.parts.RunLanes.{RunLanes}
use Rattle.run_lanes.specs.declared.size.LaneSize.{LaneSize}
use Rattle.run_lanes.specs.Opened.{CanBegin, CanOpen, HasCounts, HasLaneEnds, HasPoller, HasProcess, HasWorker}
use Rattle.body_tests.specs.Beside.{CanServeEach, AreOfWorkers, CanServe, IsDealtToOne, IsOfPoller, IsOfWorker, LastIs, is_worker}

abbrev size : LaneSize
size = record { processes = 3; workers = 2; rows = 0 }

-- the end of this number in the lane of the one port
record IsEnd (number : ℕ) (lane : LaneEnd) : Type 0 where
  number_is : lane.number ≡ number
  processes : lane.key.processes ≡ 3
  workers : lane.key.workers ≡ 2

some_port : (ports : List PortLanes) → length ports ≡ 1 → PortLanes
some_port [] e = absurd (omega arith)
some_port (p ∷ ports) e = p

is_end : (run : RunLanes) (number : ℕ) (mine : List LaneEnd) → length run.ports.items ≡ 1 → ((d : PortLanes) → CanOpen size (slice_index_or run.ports.items 0 d))
    → HasLaneEnds size run number mine → (d : LaneEnd) → IsEnd number (slice_index_or mine 0 d)
is_end run number mine one can h d =
    let p = some_port run.ports.items one in
    let is = (h.each p).each 0 d (omega (arith, one)) in record {
      number_is = ap (λ l. l.number) is;
      processes = ap (λ l. l.key.processes) is ∙ (can p).processes;
      workers = ap (λ l. l.key.workers) is ∙ (can p).workers;
    }

poller_at : (key : Key) (number : ℕ) → key.processes ≡ 3 → number ≡ 3 → sender_at key number ≡ Poller
poller_at key number e f =
    subst (λ p. sender_at (record { processes = p; workers = key.workers; table = key.table }) number ≡ Poller) (sym e)
    (subst (λ n. sender_at (record { processes = 3; workers = key.workers; table = key.table }) n ≡ Poller) (sym f) refl)

worker_at : (key : Key) (number worker : ℕ) → key.processes ≡ 3 → key.workers ≡ 2 → number ≡ 4 + worker → worker < 2 → sender_at key number ≡ Worker worker
worker_at key number worker e f g lt =
    subst (λ p. sender_at (record { processes = p; workers = key.workers; table = key.table }) number ≡ Worker worker) (sym e)
    (subst (λ w. sender_at (record { processes = 3; workers = w; table = key.table }) number ≡ Worker worker) (sym f)
    (subst (λ n. sender_at (record { processes = 3; workers = 2; table = key.table }) n ≡ Worker worker) (sym g) (of_worker worker lt)))
  where
    of_worker : (w : ℕ) → w < 2 → sender_at (record { processes = 3; workers = 2; table = key.table }) (4 + w) ≡ Worker w
    of_worker zero l = refl
    of_worker (suc zero) l = refl
    of_worker (suc (suc w)) l = absurd (omega arith)

last_of_one : (P : LaneEnd → Type 0) (lanes : List LaneEnd) → length lanes ≡ 1 → ((d : LaneEnd) → P (slice_index_or lanes 0 d)) → LastIs P lanes
last_of_one P lanes one is d = subst (λ n. P (slice_index_or lanes (n - 1) d)) (sym one) (is d)

can_serve : (run : RunLanes) (number : ℕ) (p : ProcessLanes) → length run.ports.items ≡ 1 → ((d : PortLanes) → CanOpen size (slice_index_or run.ports.items 0 d))
    → CanBegin 1 number p → HasProcess size run number p → CanServe number p
can_serve run number p one can begins h = record {
  begins = begins;
  lanes = record { many = h.lanes.many ∙ one; key = λ d. (is_end run number p.lanes.items one can h.lanes d).processes };
}

works_for : (run : RunLanes) (worker : ℕ) (w : WorkerLanes) → length run.ports.items ≡ 1 → ((d : PortLanes) → CanOpen size (slice_index_or run.ports.items 0 d))
    → worker < 2 → HasWorker size run worker w → LastIs IsOfWorker w.lanes.items
works_for run worker w one can lt h = last_of_one IsOfWorker w.lanes.items (h.lanes.many ∙ one)
    (λ d. let e = is_end run (4 + worker) w.lanes.items one can h.lanes d in ap is_worker (worker_at (slice_index_or w.lanes.items 0 d).key (slice_index_or w.lanes.items 0 d).number worker e.processes e.workers e.number_is lt))

is_poller : (run : RunLanes) → length run.ports.items ≡ 1 → ((d : PortLanes) → CanOpen size (slice_index_or run.ports.items 0 d)) → HasPoller size run → LastIs IsOfPoller run.poller.lanes.items
is_poller run one can h = last_of_one IsOfPoller run.poller.lanes.items (h.lanes.many ∙ one)
    (λ d. let e = is_end run 3 run.poller.lanes.items one can h.lanes d in poller_at (slice_index_or run.poller.lanes.items 0 d).key (slice_index_or run.poller.lanes.items 0 d).number e.processes e.number_is)

pub is_dealt : (run : RunLanes) → HasCounts size 1 run → ((port : ℕ) (d : PortLanes) → port < 1 → CanOpen size (slice_index_or run.ports.items port d))
    → ((process : ℕ) (d : ProcessLanes) → process < 3 → CanBegin 1 process (slice_index_or run.processes.items process d))
    → ((process : ℕ) (d : ProcessLanes) → process < 3 → HasProcess size run process (slice_index_or run.processes.items process d))
    → ((worker : ℕ) (d : WorkerLanes) → worker < 2 → HasWorker size run worker (slice_index_or run.workers.items worker d))
    → HasPoller size run → IsDealtToOne run
is_dealt run counts can begins processes workers poller =
    let one = counts.ports_many in
    let first = λ (d : PortLanes). can 0 d (omega arith) in record {
      ports = λ d. subst (λ n. CanOpen size (slice_index_or run.ports.items (n - 1) d)) (sym one) (first d);
      processes = record {
        few = omega (arith, counts.processes_many);
        each = λ process d lt. let l : process < 3 = omega (arith, counts.processes_many, lt) in
            can_serve run process (slice_index_or run.processes.items process d) one first (begins process d l) (processes process d l);
      };
      workers = λ worker d lt. let l : worker < 2 = omega (arith, counts.workers_many, lt) in
          works_for run worker (slice_index_or run.workers.items worker d) one first l (workers worker d l);
      poller = is_poller run one first poller;
    }

-- what stands before a place
before : {A : Type 0} (n : ℕ) (all : List A) → length (take n all) ≤ n
before zero all = omega arith
before (suc n) [] = omega arith
before (suc n) (x ∷ all) = let b = before n all in omega arith

within : {A : Type 0} (n : ℕ) (all : List A) → length (take n all) ≤ length all
within zero all = omega arith
within (suc n) [] = omega arith
within (suc n) (x ∷ all) = let b = within n all in omega arith

pub fewer_processes : (n : ℕ) (all rest : List ProcessLanes) → rest ≡ take n all → CanServeEach all → CanServeEach rest
fewer_processes n all rest e are = subst CanServeEach (sym e) (record {
  few = let w = within n all in let f = are.few in omega arith;
  each = λ process d lt.
      let b = before n all in let w = within n all in
      let l : process < n = omega (arith, lt) in
      subst (CanServe process) (sym (get_or-take n all process d l)) (are.each process d (omega (arith, lt)));
})

pub fewer_workers : (n : ℕ) (all rest : List WorkerLanes) → rest ≡ take n all → AreOfWorkers all → AreOfWorkers rest
fewer_workers n all rest e are = subst AreOfWorkers (sym e)
    (λ worker d lt.
    let b = before n all in let w = within n all in
    let l : worker < n = omega (arith, lt) in
    subst (λ (w : WorkerLanes). LastIs IsOfWorker w.lanes.items) (sym (get_or-take n all worker d l)) (are worker d (omega (arith, lt))))

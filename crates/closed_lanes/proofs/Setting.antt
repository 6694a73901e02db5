-- What the jobs of a run give back, by what they were set up with.
use Rattle.std.proofs.Common.{◌≡◌, ◌<◌, ◌+◌, ℕ, List, length, map, get_or, sym, ap, ◌∙◌, subst, arith}
use Rattle.std.proofs.lemmas.List.{get_or-map, length-map}
use Rattle.run_opening.specs.driver_hosts.port_body.Body.{BodyView, name_of}
use Rattle.run_end.specs.Ran.{RanProcess}
use Rattle.run_end.proofs.Tells.{tells}
use Rattle.run_lanes.specs.declared.parts.ProcessLanes.{ProcessLanes}
use Rattle.run_lanes.specs.declared.parts.WorkerLanes.{WorkerLanes}
use Rattle.run_lanes.specs.Opened.{HasProcess, HasWorker}
use Rattle.run_opening.specs.Setting.{Setting, IsSetting, AreNamedIn}
use Rattle.run_opening.specs.Jobs.{HaveRunIn, HasWorkedLane}
use Rattle.closed_ports.specs.Ends.{LaneEnd}
use Rattle.run_opening.specs.run_seats.threaded_jobs.declared.parting.WorkerLeft.{WorkerLeft}
use Rattle.closed_lanes.specs.Closed.{GiveBack}
use Rattle.closed_lanes.specs.Parts.{all_columns}
use Rattle.closed_lanes.specs.declared.closing.LaneEnds.{LaneEnds}
use Rattle.closed_lanes.proofs.LaneColumns.{IsColumnOf, called-column, dealt-column, sent-column}
use Rattle.closed_lanes.proofs.Lists.{at-each, long, some-of}

-- a run that nobody stopped: its bodies, its processes and the ends that were given back
pub record IsRun (s : Setting) (bodies : List BodyView) (processes : List RanProcess) (ends : LaneEnds) : Type 0 where
  pub set : IsSetting s
  pub named : AreNamedIn s (map name_of bodies)
  pub ran : HaveRunIn s processes
  pub give : GiveBack s processes ends

-- the ends of the ports' lanes that were given back, by the numbers of their senders
abbrev pub given-columns : LaneEnds → List (List LaneEnd)
given-columns ends = all_columns (map (λ c. c.items) ends.processes.items) ends.poller.items (map (λ w. w.lanes.items) ends.workers.items)

module _ (s : Setting) (bodies : List BodyView) (processes : List RanProcess) (ends : LaneEnds) (run : IsRun s bodies processes ends) where
  -- the ends that a process was dealt are those that it began with
  pub process-began : (n : ℕ) (r : RanProcess) (l : ProcessLanes) → n < s.size.processes → (get_or processes n r).old.lanes ≡ (get_or s.lanes.processes.items n l).lanes.items
  process-began n r l below =
      let process_steps = run.set.process_steps_many in
      let p = some-of s.process_steps n (omega (arith, process_steps, below)) in
      ap (λ v. v.lanes) (run.ran.each n l p r below).old

  pub process-lanes : (n : ℕ) (below : n < s.size.processes) → ProcessLanes
  process-lanes n below = let many = run.set.lanes_are.counts.processes_many in some-of s.lanes.processes.items n (omega (arith, many, below))

  pub worker-lanes : (n : ℕ) (below : n < s.size.workers) → WorkerLanes
  worker-lanes n below = let many = run.set.lanes_are.counts.workers_many in some-of s.lanes.workers.items n (omega (arith, many, below))

  process-column : (n : ℕ) (r : RanProcess) → n < s.size.processes → IsColumnOf s.lanes.ports.items n (get_or processes n r).end.lanes.items
  process-column n r below =
      let l = process-lanes n below in
      let p = get_or processes n r in
      let many = run.ran.many in
      let has : HasProcess s.size s.lanes n (get_or s.lanes.processes.items n l) = run.set.lanes_are.processes n l below in
      let began = subst (IsColumnOf s.lanes.ports.items n) (sym (process-began n r l below)) (dealt-column s.size s.lanes n (get_or s.lanes.processes.items n l).lanes.items has.lanes) in
      let same = (tells p (run.ran.ran n r (omega (arith, many, below)))).ports in
      called-column s.lanes.ports.items n p.old.lanes p.end.lanes.items p.old.seats p.end.seats.items began same

  poller-column : IsColumnOf s.lanes.ports.items s.size.processes ends.poller.items
  poller-column =
      let dealt = dealt-column s.size s.lanes s.size.processes s.lanes.poller.lanes.items run.set.lanes_are.poller.lanes in
      sent-column s.lanes.ports.items s.size.processes run.give.polled.0 s.lanes.poller.lanes.items ends.poller.items dealt run.give.polled.1

  pub worked-lane : (n : ℕ) (w : WorkerLanes) (l : WorkerLeft) → n < s.size.workers → HasWorkedLane (get_or s.lanes.workers.items n w) (get_or ends.workers.items n l)
  worked-lane n w l below = run.give.worked.each n w l below

  worker-column : (n : ℕ) (l : WorkerLeft) → n < s.size.workers → IsColumnOf s.lanes.ports.items (s.size.processes + 1 + n) (get_or ends.workers.items n l).lanes.items
  worker-column n l below =
      let w = worker-lanes n below in
      let lanes = get_or s.lanes.workers.items n w in
      let has : HasWorker s.size s.lanes n lanes = run.set.lanes_are.workers n w below in
      let worked = worked-lane n w l below in
      let dealt = dealt-column s.size s.lanes (s.size.processes + 1 + n) lanes.lanes.items has.lanes in
      sent-column s.lanes.ports.items (s.size.processes + 1 + n) worked.told lanes.lanes.items (get_or ends.workers.items n l).lanes.items dealt worked.sends

  pub many-given : length (map (λ c. c.items) ends.processes.items) ≡ s.size.processes
  many-given = ap length run.give.processes_are ∙ length-map processes (λ (p : RanProcess). p.end.lanes.items) ∙ run.ran.many

  pub many-worked : length (map (λ (w : WorkerLeft). w.lanes.items) ends.workers.items) ≡ s.size.workers
  many-worked = length-map ends.workers.items (λ (w : WorkerLeft). w.lanes.items) ∙ run.give.worked.many

  -- what a process gave back
  pub given-at : (n : ℕ) (d : List LaneEnd) (r : RanProcess) → n < s.size.processes → get_or (map (λ c. c.items) ends.processes.items) n d ≡ (get_or processes n r).end.lanes.items
  given-at n d r below =
      let many = run.ran.many in
      ap (λ l. get_or l n d) run.give.processes_are ∙ get_or-map (λ (p : RanProcess). p.end.lanes.items) processes n r d (omega (arith, many, below))

  pub worked-at : (n : ℕ) (d : List LaneEnd) (l : WorkerLeft) → n < s.size.workers → get_or (map (λ (w : WorkerLeft). w.lanes.items) ends.workers.items) n d ≡ (get_or ends.workers.items n l).lanes.items
  worked-at n d l below =
      let many = run.give.worked.many in
      get_or-map (λ (w : WorkerLeft). w.lanes.items) ends.workers.items n l d (omega (arith, many, below))

  pub many-columns : length (given-columns ends) ≡ s.size.processes + 1 + s.size.workers
  many-columns =
      let first = many-given in
      let last = many-worked in
      long (map (λ c. c.items) ends.processes.items) ends.poller.items (map (λ (w : WorkerLeft). w.lanes.items) ends.workers.items) ∙ (λ i. first i + 1 + last i)

  -- each column has an end of each port's lane, with the column's number
  pub column-at : (n : ℕ) (c : List LaneEnd) → n < length (given-columns ends) → IsColumnOf s.lanes.ports.items n (get_or (given-columns ends) n c)
  column-at = at-each (IsColumnOf s.lanes.ports.items) (map (λ c. c.items) ends.processes.items) ends.poller.items (map (λ (w : WorkerLeft). w.lanes.items) ends.workers.items)
      (λ n d below.
      let many = many-given in
      let within : n < s.size.processes = omega (arith, many, below) in
      let ran = run.ran.many in
      let r = some-of processes n (omega (arith, ran, within)) in
      subst (IsColumnOf s.lanes.ports.items n) (sym (given-at n d r within)) (process-column n r within))
      (subst (λ m. IsColumnOf s.lanes.ports.items m ends.poller.items) (sym many-given) poller-column)
      (λ n d below.
      let many = many-worked in
      let within : n < s.size.workers = omega (arith, many, below) in
      let worked = run.give.worked.many in
      let l = some-of ends.workers.items n (omega (arith, worked, within)) in
      let number : s.size.processes + 1 + n ≡ length (map (λ c. c.items) ends.processes.items) + 1 + n = ap (λ m. m + 1 + n) (sym many-given) in
      subst (λ m. IsColumnOf s.lanes.ports.items m (get_or (map (λ (w : WorkerLeft). w.lanes.items) ends.workers.items) n d)) number
      (subst (IsColumnOf s.lanes.ports.items (s.size.processes + 1 + n)) (sym (worked-at n d l within)) (worker-column n l within)))

-- The rows of the poller's tasks at a port are what its end of the port's lane sent.
use Rattle.std.proofs.Common.{◌≡◌, ◌<◌, ℕ, List, [], length, map, get_or, refl, sym, ap, ◌∙◌, subst, arith}
use Rattle.std.specs.Prelude.{reverse}
use Rattle.std.proofs.lemmas.Bool.{eq-eqb, le-ltb}
use Rattle.std.proofs.lemmas.List.{get_or-map, length-map}
use Rattle.port_lanes.specs.Keys.{Key, sender_at}
use Rattle.port_model.specs.declared.signal.Sender.TheVariants.{Poller}
use Rattle.run_opening.specs.driver_hosts.port_body.Body.{BodyView, name_of}
use Rattle.run_opening.specs.driver_hosts.port_body.LanePort.{rows_from}
use Rattle.run_opening.specs.driver_hosts.declared.ending.EndedPort.{EndedPort}
use Rattle.closed_ports.specs.Closed.{AreClosed}
use Rattle.closed_ports.specs.Ends.{LaneEnd}
use Rattle.closed_ports.specs.Laws.{ends_at}
use Rattle.run_end.specs.Ran.{RanProcess}
use Rattle.run_opening.specs.Setting.{Setting}
use Rattle.run_opening.specs.run_seats.threaded_jobs.declared.parting.WorkerLeft.{WorkerLeft}
use Rattle.closed_lanes.specs.Closed.{tasks_sent}
use Rattle.closed_lanes.specs.declared.closing.LaneEnds.{LaneEnds}
use Rattle.closed_lanes.proofs.Lists.{at-middle, long, some-of}
use Rattle.closed_lanes.proofs.Names.{many-lanes, opened-among}
use Rattle.closed_lanes.proofs.Setting.{IsRun, given-columns, many-given}

-- the end behind those of the processes is the poller's
poller-at : (key : Key) (number : ℕ) → key.processes ≡ number → sender_at key number ≡ Poller
poller-at key number is = subst (λ n. sender_at key n ≡ Poller) is (rw (le-ltb key.processes key.processes (omega arith), eq-eqb key.processes key.processes refl) refl)

module _ (s : Setting) (bodies : List BodyView) (processes : List RanProcess) (ends : LaneEnds) (run : IsRun s bodies processes ends) where
  pub poller-rows : (left : List EndedPort) → AreClosed bodies (given-columns ends) left → (port : ℕ) (l : EndedPort) (d : LaneEnd) → port < length bodies
      → rows_from Poller (reverse (get_or left port l).journal.rows) ≡ tasks_sent (get_or ends.poller.items port d)
  poller-rows left closed port l d below =
      let v = some-of bodies port below in
      let name = name_of (get_or bodies port v) in
      let columns = given-columns ends in
      let first = map (λ c. c.items) ends.processes.items in
      let last = map (λ (w : WorkerLeft). w.lanes.items) ends.workers.items in
      let lanes = many-lanes s bodies run.set run.named in
      let p = some-of s.lanes.ports.items port (omega (arith, lanes, below)) in
      let among = opened-among s bodies run.set run.named port v p below in
      let given = many-given s bodies processes ends run in
      let many = long first ends.poller.items last in
      let within : length first < length columns = omega (arith, many) in
      let of_port : length (ends_at port d columns) ≡ length columns = length-map columns (λ (c : List LaneEnd). get_or c port d) in
      let end : get_or (ends_at port d columns) (length first) d ≡ get_or ends.poller.items port d =
      get_or-map (λ (c : List LaneEnd). get_or c port d) columns (length first) [] d within ∙ ap (λ c. get_or c port d) (at-middle first ends.poller.items last []) in
      ap (λ from. rows_from from (reverse (get_or left port l).journal.rows)) (sym (poller-at name.key (length first) (among.processes ∙ sym given)))
      ∙ (closed.each port v d l below).rows (length first) d (omega (arith, of_port, within)) ∙ ap tasks_sent end

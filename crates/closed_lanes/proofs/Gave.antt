-- The ends that were given back are all ends of the ports' lanes.
use Rattle.std.proofs.Common.{◌<◌, ◌+◌, ℕ, List, length, get_or, sym, ◌∙◌, arith}
use Rattle.run_opening.specs.driver_hosts.port_body.Body.{BodyView}
use Rattle.closed_ports.specs.Closed.{ArePortsOfLanes}
use Rattle.run_end.specs.Ran.{RanProcess}
use Rattle.run_opening.specs.Setting.{Setting}
use Rattle.closed_ports.specs.Ends.{AreOfBodies, LaneEnd}
use Rattle.closed_ports.specs.Laws.{AreAllColumns}
use Rattle.closed_lanes.specs.declared.closing.LaneEnds.{LaneEnds}
use Rattle.closed_lanes.proofs.LaneColumns.{IsColumnOf}
use Rattle.closed_lanes.proofs.Lists.{some-of}
use Rattle.closed_lanes.proofs.Names.{many-lanes, opened-among}
use Rattle.closed_lanes.proofs.Setting.{IsRun, column-at, given-columns, many-columns}

module _ (s : Setting) (bodies : List BodyView) (processes : List RanProcess) (ends : LaneEnds) (run : IsRun s bodies processes ends) where
  of-bodies : (number : ℕ) (column : List LaneEnd) → IsColumnOf s.lanes.ports.items number column → AreOfBodies bodies column
  of-bodies number column is =
      let lanes = many-lanes s bodies run.set run.named in
      record {
        many = is.many ∙ lanes;
        each = λ port v d below.
            let within : port < length s.lanes.ports.items = omega (arith, lanes, below) in
            let p = some-of s.lanes.ports.items port within in
            (is.each port p d within).lane ∙ sym (opened-among s bodies run.set run.named port v p below).lane;
      }

  all-of-bodies : AreAllColumns bodies (given-columns ends)
  all-of-bodies =
      let lanes = many-lanes s bodies run.set run.named in
      let columns = many-columns s bodies processes ends run in
      record {
        many = λ port v below.
            let p = some-of s.lanes.ports.items port (omega (arith, lanes, below)) in
            let among = opened-among s bodies run.set run.named port v p below in
            let first = among.processes in
            let last = among.workers in
            columns ∙ (λ i. sym first i + 1 + sym last i);
        numbered = λ number port c d within below.
            let p = some-of s.lanes.ports.items port (omega (arith, lanes, below)) in
            ((column-at s bodies processes ends run number c within).each port p d (omega (arith, lanes, below))).number_is;
      }

  pub ports-of-lanes : ArePortsOfLanes bodies (given-columns ends)
  ports-of-lanes = record {
    of_bodies = λ number c within. of-bodies number (get_or (given-columns ends) number c) (column-at s bodies processes ends run number c within);
    all = all-of-bodies;
  }

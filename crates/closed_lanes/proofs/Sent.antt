-- What the processes of a run sent to its ports is what they gave back.
use Rattle.std.proofs.Common.{◌<◌, List, length, get_or, sym, ap, ◌∙◌, arith}
use Rattle.run_opening.specs.driver_hosts.port_body.Body.{BodyView}
use Rattle.closed_ports.specs.Signals.{HaveSentTo}
use Rattle.run_end.specs.Ran.{RanProcess}
use Rattle.run_lanes.specs.Opened.{HasProcess}
use Rattle.run_opening.specs.Setting.{Setting}
use Rattle.std.specs.Prelude.{map}
use Rattle.closed_lanes.specs.declared.closing.LaneEnds.{LaneEnds}
use Rattle.closed_lanes.proofs.Lists.{at-front, some-of}
use Rattle.closed_lanes.proofs.Names.{many-lanes, opened-among}
use Rattle.closed_lanes.proofs.Setting.{IsRun, given-at, given-columns, many-given, process-began, process-lanes}

module _ (s : Setting) (bodies : List BodyView) (processes : List RanProcess) (ends : LaneEnds) (run : IsRun s bodies processes ends) where
  pub have-sent : HaveSentTo bodies (given-columns ends) processes
  have-sent =
      let lanes = many-lanes s bodies run.set run.named in
      let many = run.ran.many in
      record {
        ran = run.ran.ran;
        counted = λ port v below.
            let p = some-of s.lanes.ports.items port (omega (arith, lanes, below)) in
            (opened-among s bodies run.set run.named port v p below).processes ∙ sym many;
        lanes = λ process r below.
            let within : process < s.size.processes = omega (arith, many, below) in
            let l = process-lanes s bodies processes ends run process within in
            let has : HasProcess s.size s.lanes process (get_or s.lanes.processes.items process l) = run.set.lanes_are.processes process l within in
            ap length (process-began s bodies processes ends run process r l within) ∙ has.lanes.many ∙ lanes;
        sent = λ port process r c d below less.
            let within : process < s.size.processes = omega (arith, many, less) in
            let given = many-given s bodies processes ends run in
            let first = map (λ c. c.items) ends.processes.items in
            ap (λ l. get_or l port d) (at-front first ends.poller.items (map (λ w. w.lanes.items) ends.workers.items) process c c (omega (arith, given, within))
            ∙ given-at s bodies processes ends run process c r within);
      }

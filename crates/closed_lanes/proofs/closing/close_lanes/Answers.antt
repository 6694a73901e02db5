use Rattle.std.proofs.Common.{length, map, ap, sym, subst, arith}
use Rattle.async_jobs.specs.Items.{AnyFits}
use Rattle.closed_ports.specs.Closed.{AreClosed, ArePortsOfLanes}
use Rattle.run_lanes.specs.Ends.{AreLaneRows, AreOfLanes, HaveEmptied}
use Rattle.closed_lanes.specs.Parts.{ArePartedInto}
use Rattle.closed_lanes.proofs.Gave.{ports-of-lanes}
use Rattle.closed_lanes.proofs.Ports.{all-closed, back-at-once}
use Rattle.closed_lanes.proofs.Setting.{IsRun}
use Rattle.closed_lanes.proofs.Workers.{ArePools, have-worked, last-of-lanes, rows-of-lanes, runs}
use Rattle.closed_lanes.proofs.closing.close_lanes.Goals as goal

pub returns-in_default-clause-returned : goal.returns-in_default-clause-returned
returns-in_default-clause-returned g c = back-at-once g.D.Driver.kind g.D.Driver.stage g.D.Driver.faults g.D.Driver.own g.D.Driver.program c.args.bodies.items c.args.places.now
    c.args.hosts.now.items c.take_back.new.hosts.items c.take_back.ensures.returned

pub close_ports-requires-clause-lanes : goal.close_ports-requires-clause-lanes
close_ports-requires-clause-lanes g c =
    let r = c.requires.ran in
    subst (ArePortsOfLanes c.args.bodies.items) (sym c.in-Ok.ensures.columns)
    (ports-of-lanes r.0 c.args.bodies.items r.1 c.args.ends (record { set = r.2; named = r.3; ran = r.4; give = r.5 }))

pub part_ports-requires-clause-within : goal.part_ports-requires-clause-within
part_ports-requires-clause-within g c k d below =
    let value = ap length c.as_slice.ensures.value in
    let same = c.close_ports.ensures.returned.returned.len in
    let before = c.requires.within k d below in
    omega (arith, value, same, before)

pub empty_lanes-requires-clause-rows : goal.empty_lanes-requires-clause-rows
empty_lanes-requires-clause-rows g c =
    let r = c.requires.ran in
    let run : IsRun r.0 c.args.bodies.items r.1 c.args.ends = record { set = r.2; named = r.3; ran = r.4; give = r.5 } in
    let left = c.in_ok-left.left.items in
    let pools = map (λ p. p.items) c.in_ok-ports.pools.items in
    let parted = c.in_ok-ports.ensures in
    let closed = subst (λ columns. AreClosed c.args.bodies.items columns left) c.in-Ok.ensures.columns c.in_ok-left.ensures.closed in
    let are : ArePools left pools = record { many = parted.pools_many; each = parted.pools_are } in
    subst (λ l. AreLaneRows l pools) (sym c.in-Ok.ensures.jobs) (rows-of-lanes r.0 c.args.bodies.items r.1 c.args.ends run left closed pools are)

pub empty_lanes-requires-clause-last : goal.empty_lanes-requires-clause-last
empty_lanes-requires-clause-last g c =
    let r = c.requires.ran in
    subst (λ l. AreOfLanes l c.args.ends.finish.items) (sym c.in-Ok.ensures.jobs)
    (last-of-lanes r.0 c.args.bodies.items r.1 c.args.ends (record { set = r.2; named = r.3; ran = r.4; give = r.5 }))

pub returns-clause-closed : goal.returns-clause-closed
returns-clause-closed g c s processes set named ran give =
    let bodies = c.args.bodies.items in
    let ends = c.args.ends in
    let run : IsRun s bodies processes ends = record { set = set; named = named; ran = ran; give = give } in
    let left = c.in_ok-left.left.items in
    let pools = map (λ p. p.items) c.in_ok-ports.pools.items in
    let places = c.args.places.now in
    let hosts = c.close_ports.new.hosts.items in
    let settled = c.empty_lanes.new.lanes.items in
    let parted = subst (λ h. ArePartedInto g.D.Driver.own h places left c.in_ok-ports.ports.items pools) c.as_slice.ensures.value c.in_ok-ports.ensures in
    let closed = subst (λ columns. AreClosed bodies columns left) c.in-Ok.ensures.columns c.in_ok-left.ensures.closed in
    let are : ArePools left pools = record { many = parted.pools_many; each = parted.pools_are } in
    let emptied = subst (λ l. HaveEmptied AnyFits pools ends.finish.items l settled) c.in-Ok.ensures.jobs c.in_ok-empty_lanes.ensures.emptied in
    all-closed g.D.Driver.kind g.D.Driver.faults g.D.Driver.own g.D.Driver.program s bodies processes ends run left c.in_ok-ports.ports.items pools places hosts
    (runs s bodies processes ends run left closed pools are settled emptied).all c.closed_ports_are_lawful.ensures c.accepted_signals_have_rows.ensures.signals closed c.in_ok-left.ensures.stand parted
    (have-worked s bodies processes ends run left closed pools are settled emptied)

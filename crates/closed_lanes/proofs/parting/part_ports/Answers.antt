use Rattle.std.proofs.Common.{◌<◌, ◌∙◌, length, map, ap, arith}
use Rattle.std.specs.Prelude.{slice_index}
use Rattle.run_lanes.proofs.Places.{placed_more, rest_first, rest_more}
use Rattle.closed_lanes.proofs.Parts.{IsKeptAt, IsPoolAt, kept-at, parted-all, pushed}
use Rattle.closed_lanes.proofs.parting.part_ports.Goals as goal

pub loop-place-preserved : goal.loop-place-preserved
loop-place-preserved g c =
    let own = g.D.Driver.own in
    let inv = c.loop-place.invariant in
    let n = c.loop-place.place-index in
    let all = c.args.ports.items in
    let hosts = c.args.hosts.now in
    let places = c.args.places.now in
    let before = c.loop-place.left.rest in
    let next = c.next_of in
    let after = next.new.items.rest in
    let test = c.loop-place-test.true in
    let same = c.requires.len in
    let within : n < length all = omega (arith, test, same) in
    let inside : slice_index places n < length hosts = c.requires.within n 0 test in
    let first = rest_first n all before.items after.items next.result before.len within inv.0 next.ensures.items in (
      rest_more n all before.items after.items next.result before.len after.len within inv.0 next.ensures.items next.ensures.len,
      placed_more (IsKeptAt own hosts places all) n c.loop-place.all.items c.push.new.self.items c.part_port-port.result.0 c.in_ok-push.ensures.items inv.1
          (kept-at own hosts places all n c.part_port-port.result.0 next.result c.index-hosts-place.result c.events_of.result c.part_port-port.ensures.kept c.events_of.ensures inside c.index-hosts-place.is first),
      placed_more (IsPoolAt all) n (map (λ p. p.items) c.loop-place.pools.items) (map (λ p. p.items) c.push-in-loop-place.new.self.items) c.part_port-port.result.1.items
          (pushed (λ p. p.items) c.loop-place.pools.items c.push-in-loop-place.new.self.items c.part_port-port.result.1 c.in_ok-push-2.ensures.items) inv.2
          (λ l. c.part_port-port.ensures.pool ∙ ap (λ p. p.outlets.ends.pool) (first l)),
    )

pub returns : goal.returns
returns g c =
    let inv = c.loop-place.invariant in
    let end = c.loop-place.auto.place-index-end in
    let last = c.loop-place-test.false in
    let same = c.requires.len in
    parted-all g.D.Driver.own c.args.hosts.now c.args.places.now c.args.ports.items c.loop-place.all.items (map (λ p. p.items) c.loop-place.pools.items) c.loop-place.place-index (omega (arith, end, last, same)) inv.1 inv.2

use Rattle.std.proofs.Common.{map, arith}
use Rattle.run_lanes.specs.Dealt.{IsProcessAt}
use Rattle.run_lanes.proofs.Places.{rest_more, rest_first, rest_row, placed_more}
use Rattle.run_lanes.proofs.dealing.deal_processes.Goals as goal

pub processes-preserved : goal.processes-preserved
processes-preserved c =
    let inv = c.processes.invariant in
    let n = c.processes.counter in
    let boxes = c.args.mailboxes.items in
    let lanes = c.args.lanes.items in
    let seats = c.args.seats.items in
    let within = c.processes-test.true in
    let end = c.len-processes.ensures in
    let size = c.args.mailboxes.ok.0 in
    let many = c.requires in
    let box = c.next_of-mailbox in
    let lane = c.next_of-lanes in
    let seat = c.next_of-seats in (
      rest_more n boxes c.processes.mailboxes.rest.items box.new.items.rest.items box.result c.processes.mailboxes.rest.len box.new.items.rest.len (omega arith) inv.0 box.ensures.items box.ensures.len,
      rest_more n lanes c.processes.lanes.rest.items lane.new.items.rest.items lane.result c.processes.lanes.rest.len lane.new.items.rest.len (omega arith) inv.1 lane.ensures.items lane.ensures.len,
      rest_more n seats c.processes.seats.rest.items seat.new.items.rest.items seat.result c.processes.seats.rest.len seat.new.items.rest.len (omega arith) inv.2 seat.ensures.items seat.ensures.len,
      placed_more (IsProcessAt boxes (map (λ v. v.items) lanes) (map (λ v. v.items) seats)) n c.processes.all.items c.push.new.self.items
          (record { mailbox = box.result; lanes = lane.result; seats = seat.result }) c.in_ok-push.ensures.items inv.3
          (record {
            mailbox = rest_first n boxes c.processes.mailboxes.rest.items box.new.items.rest.items box.result c.processes.mailboxes.rest.len (omega arith) inv.0 box.ensures.items;
            lanes_are = rest_row (λ v. v.items) n lanes c.processes.lanes.rest.items lane.new.items.rest.items lane.result c.processes.lanes.rest.len (omega arith) inv.1 lane.ensures.items;
            seats_are = rest_row (λ v. v.items) n seats c.processes.seats.rest.items seat.new.items.rest.items seat.result c.processes.seats.rest.len (omega arith) inv.2 seat.ensures.items;
          }),
    )

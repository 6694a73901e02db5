use Rattle.std.proofs.Common.{◌<◌, vec_len, map, sym, ◌∙◌, subst, arith}
use Rattle.run_lanes.specs.Dealt.{IsPortAt}
use Rattle.run_lanes.proofs.Places.{rest_more, rest_first, rest_row, placed_more}
use Rattle.run_lanes.proofs.dealing.deal_ports.Goals as goal

pub new-requires-in-ports : goal.new-requires-in-ports
new-requires-in-ports c =
    let n = c.ports.counter in
    let pools = c.args.pools.items in
    let within = c.ports-test.true in
    let end = c.len-ports.ensures in
    let size = c.args.lanes.ok.0 in
    let many = c.requires.many in
    let pool = c.next_of-pool in
    subst (λ v. 0 < vec_len v) (sym (rest_first n pools c.ports.pools.rest.items pool.new.items.rest.items pool.result c.ports.pools.rest.len (omega arith) c.ports.invariant.4 pool.ensures.items pool.result))
    (c.requires.workers n pool.result (omega arith))

pub ports-preserved : goal.ports-preserved
ports-preserved c =
    let inv = c.ports.invariant in
    let n = c.ports.counter in
    let lanes = c.args.lanes.items in
    let mail = c.args.mail.items in
    let seats = c.args.seats.items in
    let asks = c.args.asks.items in
    let pools = c.args.pools.items in
    let within = c.ports-test.true in
    let end = c.len-ports.ensures in
    let size = c.args.lanes.ok.0 in
    let many = c.requires.many in
    let lane = c.next_of-lane in
    let box = c.next_of-mailboxes in
    let seat = c.next_of-seat in
    let ask = c.next_of-asks in
    let pool = c.next_of-pool in (
      rest_more n lanes c.ports.lanes.rest.items lane.new.items.rest.items lane.result c.ports.lanes.rest.len lane.new.items.rest.len (omega arith) inv.0 lane.ensures.items lane.ensures.len,
      rest_more n mail c.ports.mail.rest.items box.new.items.rest.items box.result c.ports.mail.rest.len box.new.items.rest.len (omega arith) inv.1 box.ensures.items box.ensures.len,
      rest_more n seats c.ports.seats.rest.items seat.new.items.rest.items seat.result c.ports.seats.rest.len seat.new.items.rest.len (omega arith) inv.2 seat.ensures.items seat.ensures.len,
      rest_more n asks c.ports.asks.rest.items ask.new.items.rest.items ask.result c.ports.asks.rest.len ask.new.items.rest.len (omega arith) inv.3 ask.ensures.items ask.ensures.len,
      rest_more n pools c.ports.pools.rest.items pool.new.items.rest.items pool.result c.ports.pools.rest.len pool.new.items.rest.len (omega arith) inv.4 pool.ensures.items pool.ensures.len,
      placed_more (IsPortAt lanes (map (λ v. v.items) mail) seats asks (map (λ v. v.items) pools)) n c.ports.all.items c.push.new.self.items
          (record { lane = lane.result; mailboxes = c.new.result; seat = seat.result; asks = ask.result; pool = c.new-in-ports.result }) c.in_ok-push.ensures.items inv.5
          (record {
            lane = rest_first n lanes c.ports.lanes.rest.items lane.new.items.rest.items lane.result c.ports.lanes.rest.len (omega arith) inv.0 lane.ensures.items;
            mailboxes = λ d. c.new.ensures ∙ rest_row (λ v. v.items) n mail c.ports.mail.rest.items box.new.items.rest.items box.result c.ports.mail.rest.len (omega arith) inv.1 box.ensures.items d;
            seat = rest_first n seats c.ports.seats.rest.items seat.new.items.rest.items seat.result c.ports.seats.rest.len (omega arith) inv.2 seat.ensures.items;
            asks_are = rest_first n asks c.ports.asks.rest.items ask.new.items.rest.items ask.result c.ports.asks.rest.len (omega arith) inv.3 ask.ensures.items;
            pool = λ d. c.new-in-ports.ensures ∙ rest_row (λ v. v.items) n pools c.ports.pools.rest.items pool.new.items.rest.items pool.result c.ports.pools.rest.len (omega arith) inv.4 pool.ensures.items d;
          }),
    )

use Rattle.std.proofs.Common.{◌+◌, length, ap, arith}
use Rattle.ticket_account.proofs.Openings.{fresh_length, places_split}
use Rattle.ticket_account.proofs.opening.places.Goals as goal

pub split_off-requires : goal.split_off-requires
split_off-requires c =
    let fresh = c.in_ok-all.ensures in
    let many = fresh_length fresh.0 c.args.counted (c.args.counted + c.args.others) 0 (c.args.counted + c.args.others) in
    let size = ap length fresh.1 in
    let len = c.in_ok-all.all.ok.0 in
    omega arith

pub returns : goal.returns
returns c =
    let fresh = c.in_ok-all.ensures in
    let len = c.in_ok-all.all.ok.0 in
    let now = c.split_off.new.self.ok.0 in
    let back = c.in_ok-rest.rest.ok.0 in
    places_split fresh.0 c.args.counted c.args.others _ _ _ fresh.1 c.in_ok-rest.ensures.items c.in_ok-rest.ensures.tail (let l = c.in_ok-rest.ensures.len in omega arith) (let l = c.in_ok-rest.ensures.tail_len in omega arith)

use Rattle.std.proofs.Common.{map}
use Rattle.script_run.proofs.closing.close_parts.Goals as goal

pub gather-requires : goal.gather-requires
gather-requires g c =
    let r = c.requires.ended in
    let have = r.2 in
    let closed = c.in_ok-closed.ensures.closed r.0 r.1 have.is have.named have.have_run have.given_back in
    (r.0, map _ c.args.bodies.items, r.1, record { is = have.is; named = have.named; have_run = have.have_run; many = closed.many; are_closed = closed.closed; receipts_are = have.receipts_are; of_processes = have.of_processes })

pub returns-clause-left : goal.returns-clause-left
returns-clause-left g c s ran have =
    let closed = c.in_ok-closed.ensures.closed s ran have.is have.named have.have_run have.given_back in
    record {
      have_run = have.have_run;
      closed = c.in_ok-closed.closed.items;
      are_closed = closed;
      gathered = c.in_ok-ran.ensures s _ ran (record { is = have.is; named = have.named; have_run = have.have_run; many = closed.many; are_closed = closed.closed; receipts_are = have.receipts_are; of_processes = have.of_processes });
    }

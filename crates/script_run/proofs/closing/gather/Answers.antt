use Rattle.std.proofs.Common.{length, refl, ap, arith}
use Rattle.std.proofs.lemmas.List.{length-map}
use Rattle.script_run.proofs.Gathered.{gathered, ports-named}
use Rattle.script_run.proofs.closing.gather.Goals as goal

pub join_peers-requires : goal.join_peers-requires
join_peers-requires g c =
    let r = c.requires in
    let can = r.3 in
    (r.0, r.1, r.2, can.is, can.named, can.have_run, ports-named r.0 r.1 r.2 c.args.closed.items c.args.receipts.items c.args.peers can c.in_ok-ports.field-0 c.in_ok-ports.ensures, can.of_processes)

pub processes_left-requires : goal.processes_left-requires
processes_left-requires g c =
    let r = c.requires in
    let can = r.3 in
    let joined = c.in_ok-mails.ensures r.0 r.1 r.2 can.is can.named can.have_run (ports-named r.0 r.1 r.2 c.args.closed.items c.args.receipts.items c.args.peers can c.in_ok-ports.field-0 c.in_ok-ports.ensures) can.of_processes in
    let many = joined.many in
    let mapped = length-map c.in_ok-mails.mails.items (λ m. m.items) in
    let receipts = ap length can.receipts_are in
    let counts = length-map r.2 (λ p. p.end.receipts) in
    omega (arith, many, mapped, receipts, counts)

pub returns : goal.returns
returns g c s names ran can =
    let are = c.in_ok-ports.ensures in
    let parts = c.in_ok-ports.field-0 in
    let joined = c.in_ok-mails.ensures s names ran can.is can.named can.have_run (ports-named s names ran c.args.closed.items c.args.receipts.items c.args.peers can parts are) can.of_processes in
    gathered s names ran c.args.closed.items c.args.receipts.items c.args.peers can parts are c.in_ok-mails.mails.items _ refl joined c.in_ok-processes.ensures

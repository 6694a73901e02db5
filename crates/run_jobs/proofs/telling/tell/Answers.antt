use Rattle.std.proofs.Common.{[], ◌∷◌, refl, arith}
use Rattle.port_sched.proofs.Served.{kept_err}
use Rattle.run_jobs.proofs.Tells.{sends_nowhere}
use Rattle.run_jobs.proofs.Wakes.{nothing_woken}
use Rattle.run_jobs.proofs.telling.tell.Goals as goal

pub returns-then-port-len-clause-told : goal.returns-then-port-len-clause-told
returns-then-port-len-clause-told g c =
    let past = c.if-port-len.true in
    let many = c.len.ensures in
    let size = c.args.lanes.now.ok.0 in
    record {
      told = record { port = c.args.port; task = c.args.task } ∷ [];
      left = [];
      whole = refl;
      left_by = refl;
      sends = sends_nowhere (record { port = c.args.port; task = c.args.task }) c.args.lanes.now.items (omega arith);
    }

pub returns-in_err-put_at-clause-woke : goal.returns-in_err-put_at-clause-woke
returns-in_err-put_at-clause-woke g c = ([], kept_err c.from_residual.result c.from_residual.ensures.0 [] (omega arith), nothing_woken c.args.seats.now c.requires.homes)

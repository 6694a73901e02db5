use Rattle.std.proofs.Common.{◌++◌, ◌+◌, [], refl, sym, drop, take, subst}
use Rattle.std.proofs.lemmas.List.{get_or_default}
use Rattle.port_sched.proofs.Served.{kept_err}
use Rattle.run_jobs.specs.Telling.{Sends}
use Rattle.run_jobs.specs.Rounds.{tasks_of}
use Rattle.run_jobs.proofs.Tells.{left_err, sends_then, tells_ok}
use Rattle.run_jobs.proofs.Wakes.{woken_ok, woken_then}
use Rattle.run_jobs.proofs.Polls.{told_next, told_in_part, told_some}
use Rattle.run_jobs.proofs.poller.tell_found.Goals as goal

pub returns-in_err-tell_one-clause-told : goal.returns-in_err-tell_one-clause-told
returns-in_err-tell_one-clause-told g c =
    let t = c.in_err-tell_one.ensures.told in
    let found = c.args.found.now in
    let i = c.found.ask-index in
    record {
      told = tasks_of (take i found) ++ t.told;
      left = t.left ++ tasks_of (drop (i + 1) found);
      whole = told_in_part found i _ t.told t.left c.found-test.true (get_or_default found i _ _ c.found-test.true) t.whole;
      left_by = left_err c.from_residual.result c.from_residual.ensures.0 _ _
          (told_some found i _ c.found-test.true (get_or_default found i _ _ c.found-test.true) t.left_by);
      sends = sends_then (tasks_of (take i found)) t.told c.args.lanes.now.items c.found.lanes.items c.tell_one.new.lanes.items c.found.invariant.0 t.sends;
    }

pub returns-in_err-tell_one-clause-woke : goal.returns-in_err-tell_one-clause-woke
returns-in_err-tell_one-clause-woke g c =
    let w = c.in_err-tell_one.ensures.woke in
    (w.0, kept_err c.from_residual.result c.from_residual.ensures.0 w.0 w.1, woken_then w.0 c.args.seats.now c.found.seats c.tell_one.new.seats c.found.invariant.1 w.2)

pub found-preserved : goal.found-preserved
found-preserved g c =
    let t = c.in_ok-tell_one.ensures.told in
    let w = c.in_ok-tell_one.ensures.woke in
    let found = c.args.found.now in
    let i = c.found.ask-index in (
      subst (λ l. Sends l c.args.lanes.now.items c.tell_one.new.lanes.items) (sym (told_next found i _ c.found-test.true (get_or_default found i _ _ c.found-test.true)))
          (sends_then (tasks_of (take i found)) _ c.args.lanes.now.items c.found.lanes.items c.tell_one.new.lanes.items c.found.invariant.0 (tells_ok _ tt _ _ _ refl t)),
      woken_then [] c.args.seats.now c.found.seats c.tell_one.new.seats c.found.invariant.1 (woken_ok w.0 c.found.seats c.tell_one.new.seats w.1 w.2),
    )

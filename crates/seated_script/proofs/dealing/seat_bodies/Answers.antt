use Rattle.std.proofs.Common.{length, sym}
use Rattle.run_opening.specs.run_seats.Plans.{ArePlansOf}
use Rattle.seated_script.proofs.Ready.{others-ready, plans-ready}
use Rattle.seated_script.proofs.dealing.seat_bodies.Goals as goal

pub seat_run-requires-clause-plans : goal.seat_run-requires-clause-plans
seat_run-requires-clause-plans g c =
    let parts = c.args.parts in
    let are : ArePlansOf parts.soft.items parts.lanes.processes.items parts.process_steps.items c.in-Ok.plans.items = rw (sym c.as_slice.ensures.value) c.in-Ok.ensures in
    plans-ready (length c.args.bodies.items) parts c.in-Ok.plans.items c.requires.parts are

pub seat_run-requires-clause-lanes : goal.seat_run-requires-clause-lanes
seat_run-requires-clause-lanes g c = others-ready c.each_sender_has_an_end.ensures.ends (length c.args.bodies.items) c.args.parts c.requires.parts

pub returns-in-Ok-seat_run-clause-seated : goal.returns-in-Ok-seat_run-clause-seated
returns-in-Ok-seat_run-clause-seated g c = record {
  plans = c.in-Ok.plans.items;
  plans_are = rw (sym c.as_slice.ensures.value) c.in-Ok.ensures;
  seated = c.in-Ok-seat_run.ensures.ok;
}

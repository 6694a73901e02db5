use Rattle.std.proofs.Common.{arith, refl, sym, subst}
use Rattle.process_tests.specs.Sides.{AreFreshSeats}
use Rattle.process_tests.proofs.Parts.{last-fresh}
use Rattle.process_tests.proofs.rig.one_port.Goals as goal

pub invariant_of-side : goal.invariant_of-side
invariant_of-side c =
    let last = last-fresh _ _ c.in-Some.sender (subst (AreFreshSeats c.in_ok-seat.seat.table) c.in-Some.ensures.items c.in_ok-seat.ensures.seats) in
    record {
      fresh = rw (c.in_ok-put.ensures.sender, c.of.ensures, c.new-key.ensures) (record { process = omega arith; unsent = refl; table = sym last.table_is; fresh = last.fresh });
    }

use Rattle.program_tests.proofs.Distinct.{distinct-one}
use Rattle.program_tests.proofs.programs.wait_for.Goals as goal

pub wait-requires : goal.wait-requires
wait-requires g c = distinct-one _

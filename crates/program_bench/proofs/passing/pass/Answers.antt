use Rattle.program_bench.proofs.Distinct.{distinct-one}
use Rattle.program_bench.proofs.passing.pass.Goals as goal

pub wait-requires : goal.wait-requires
wait-requires g c = distinct-one _

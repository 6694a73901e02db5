use Rattle.outside.specs.Reading.{Grows}
use Rattle.outside.proofs.real_files.read_rest.Given as goal

abbrev pub invariant-loop : goal.invariant-loop
invariant-loop g l = Grows (g.S.Read.remaining l.fn.source) (g.S.Read.remaining l.source) l.fn.bytes.items l.bytes.items

use Rattle.std.proofs.Common.{refl}
use Rattle.outside_tests.proofs.Distinct.{distinct-two, distinct-three}
use Rattle.outside_tests.proofs.files.a_memory_poll_set_goes_by_its_rounds.Goals as goal

pub waits-requires : goal.waits-requires
waits-requires g c = distinct-three 0 1 5 refl refl refl

pub waits-requires-2 : goal.waits-requires-2
waits-requires-2 g c = distinct-two 0 1 refl

pub waits-requires-3 : goal.waits-requires-3
waits-requires-3 g c = distinct-two 1 2 refl

pub waited-requires : goal.waited-requires
waited-requires g c = distinct-two 1 2 refl

pub waits-requires-4 : goal.waits-requires-4
waits-requires-4 g c = distinct-two 0 7 refl

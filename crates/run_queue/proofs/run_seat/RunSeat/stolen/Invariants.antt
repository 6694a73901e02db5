use Rattle.std.proofs.Common.{◌≡◌, take}
use Rattle.std.specs.List.{sum_by}
use Rattle.run_queue.specs.Seats.{counted, stolen_of}
use Rattle.run_queue.proofs.run_seat.RunSeat.stolen.Given as goal

abbrev pub invariant-deques : goal.invariant-deques
invariant-deques l = l.all ≡ counted (sum_by stolen_of (take l.deque-index l.self.deques))

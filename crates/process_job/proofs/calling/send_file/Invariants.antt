use Rattle.std.proofs.Common.{◌<◌, [], length, map}
use Rattle.process_job.specs.Asks.{pieces}
use Rattle.process_job.specs.Actions.{ask_by, file_asks}
use Rattle.process_job.specs.Going.{state}
use Rattle.process_job.specs.Seats.{SeatsGo, HasPorts}
use Rattle.process_job.proofs.Made.{HasSentOf}
use Rattle.process_job.proofs.calling.send_file.Given as goal

abbrev pub invariant-pieces : goal.invariant-pieces
invariant-pieces g l = record {
  seats : SeatsGo [] l.fn.seats l.seats;
  ports : HasPorts l.seats l.sender;
  inside : l.form.port < length l.sender.lanes;
  sent : HasSentOf (file_asks l.fn.file) (map (ask_by l.form) (pieces l.size l.content)) (state l.fn.proc l.fn.log) (state l.sender l.log);
}

abbrev pub decreases-pieces : goal.decreases-pieces
decreases-pieces g l = length l.content

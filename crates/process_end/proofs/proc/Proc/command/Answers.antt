use Rattle.std.proofs.Common.{refl}
use Rattle.process_end.specs.Commanded.{note_of}
use Rattle.process_end.proofs.proc.Proc.command.Goals as goal

pub commanded-requires-clause-stopped : goal.commanded-requires-clause-stopped
commanded-requires-clause-stopped g c = λ stops. c.in-Ok.ensures.stopped (note_of c.in-Ok.receipt) stops refl c.in-Ok.ensures.made.is_receipt.port

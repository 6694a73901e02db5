use Rattle.std.proofs.Common.{◌≡◌, take}
use Rattle.std.specs.List.{flat_map}
use Rattle.port_history.specs.Counts.{saved_of}
use Rattle.run_report.proofs.saved.saved_parts.Given as goal

abbrev pub invariant-loop-mail : goal.invariant-loop-mail
invariant-loop-mail l = flat_map (λ part. part.now) l.parts.items ≡ saved_of l.port (take l.mail-index l.mail-items)

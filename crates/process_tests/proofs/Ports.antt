-- No call changes how many ports a process has.
use Rattle.std.proofs.Common.{◌≡◌, ℕ, inl, inr, length, Result, ap}
use Rattle.process_receipts.specs.Asks.{Asked}
use Rattle.process_end.specs.declared.answers.NotYet.{NotYet}
use Rattle.process_end.specs.declared.answers.NotYet.TheVariants as notyet
use Rattle.process_end.specs.declared.answers.SendRefusal.{SendRefusal}
use Rattle.process_end.specs.Views.{ProcView, StoppedView}
use Rattle.process_end.specs.Commanded.{HasSignalled}
use Rattle.process_end.specs.Resumed.{HasWaited}

pub signalled_ports : (old new : ProcView) (ask : Asked) (answer : Result ℕ SendRefusal) → HasSignalled old ask new answer → length new.lanes ≡ length old.lanes
signalled_ports old new ask answer (inl made) = made.1.touched.many.0
signalled_ports old new ask answer (inr missed) = missed.0.touched.many.0

pub waited_ports : (old new : StoppedView) (why : NotYet) → HasWaited old new why → length new.proc.lanes ≡ length old.proc.lanes
waited_ports old new notyet.Empty h = ap (λ s. length s.proc.lanes) h.1
waited_ports old new (notyet.Other other) h = ap (λ s. length s.proc.lanes) h.1
waited_ports old new (notyet.SamePeriod word) h = h.1.found.touched.many.0

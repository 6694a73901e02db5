use Rattle.std.proofs.Common.{[], refl, sym, subst}
use Rattle.port_words.specs.over.Over.{OverKnown, HasNotStopped}
use Rattle.process_job.proofs.Seating.{ended_halt}
use Rattle.process_job.proofs.job.finish.Goals as goal

pub returns-in-Ok : goal.returns-in-Ok
returns-in-Ok g c = let h = c.in-Ok.ensures in ([], h.1, (h.0, h.2, refl))

pub halted-requires : goal.halted-requires
halted-requires g c = let h = c.in-Err.ensures in subst (λ (k : OverKnown). HasNotStopped k.known.places) (sym h.1.looked.1) c.requires.seats.runs

pub returns-in-Err : goal.returns-in-Err
returns-in-Err g c = ended_halt c.args.work c.in-Err.halt c.args.seats.now c.run_process.new.seats c.halted.new.over c.halted.result c.in-Err.ensures c.halted.ensures

use Rattle.std.proofs.Common.{◌∙◌, length}
use Rattle.std.proofs.lemmas.Iterator.Adapters.{YieldsList-from_vec}
use Rattle.std.proofs.lemmas.Iterator.Consumers.{YieldsList-turn}
use Rattle.threaded_jobs.proofs.Halts.{not-all}
use Rattle.threaded_jobs.proofs.ended.ended_processes.Goals as goal

pub returns-in_default : goal.returns-in_default
returns-in_default c =
    let gives = c.into_iter-end-iterator.ensures.into_iter_gives in
    let road = YieldsList-from_vec {s = c.into_iter-end-iterator.result} c.args.ends.items gives.0 (gives.1 ∙ c.args.ends.ok.0) in
    let turn = YieldsList-turn road c.loop-end.yielded _ c.loop-end.yielded_by _ c.next.new.self c.in-Some.end c.in-Some.is c.next.ensures.steps in
    record { ended = tt; halted = λ all same. not-all c.args.ends.items (length c.loop-end.yielded) c.in-Some.end all turn.0 turn.1 same c.in_default.not-Ended }

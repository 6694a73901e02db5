use Rattle.history_replay.proofs.walk.Walk.broken_by_end.Goals as goal

pub returns : goal.returns
returns c = λ port s at. c.broken_by_end.ensures port s at.state_is

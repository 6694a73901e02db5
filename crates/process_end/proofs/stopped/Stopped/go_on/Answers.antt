use Rattle.process_end.proofs.Adds.{contrary}
use Rattle.process_end.proofs.Going.{free-found, stopped-found}
use Rattle.process_end.proofs.stopped.Stopped.go_on.Goals as goal

pub invariant_of-result : goal.invariant_of-result
invariant_of-result c = free-found (record { proc = c.self.inside.sides; note = c.self.inside.note; resumed = c.self.inside.resumed }) c.find_words-msgq.new.self
    c.find_words-msgq.result.0 c.find_words-msgq.result.1 c.self.invariant c.find_words-msgq.ensures (λ waits. contrary c.may_go.result c.if-may_go.true (c.may_go.ensures.1 waits))

pub invariant_of-stopped : goal.invariant_of-stopped
invariant_of-stopped c = stopped-found (record { proc = c.self.inside.sides; note = c.self.inside.note; resumed = c.self.inside.resumed }) c.find_words-msgq.new.self
    c.find_words-msgq.result.0 c.find_words-msgq.result.1 c.self.inside.resumed c.self.invariant c.find_words-msgq.ensures

use Rattle.script_input.proofs.StepsDealt.{idle-more, none-idle}
use Rattle.script_input.proofs.dealing.empty_steps.Goals as goal

pub loop-process-init : goal.loop-process-init
loop-process-init c = rw c.new-process_steps.ensures.items none-idle

pub loop-process-preserved : goal.loop-process-preserved
loop-process-preserved c = rw c.in_ok-push.ensures.items (idle-more c.loop-process._process c.loop-process.process_steps.items _ c.loop-process.invariant c.new.ensures.items c.new-in-loop-process.ensures.items)

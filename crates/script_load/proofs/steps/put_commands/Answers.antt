use Rattle.std.proofs.lemmas.List.{take_more}
use Rattle.script_load.proofs.Commands.{pushed-command}
use Rattle.script_load.proofs.steps.put_commands.Goals as goal

pub loop-place-preserved : goal.loop-place-preserved
loop-place-preserved c =
    rw c.in_ok-push.ensures.items
    (pushed-command c.args.steps.now.items c.loop-place.steps.items c.args.line c.args.process c.loop-place.place _ c.port_of.result c.in_ok-bytes.bytes c.args.xs.now
    c.loop-place.invariant c.port_of.ensures c.in_ok-bytes.ensures c.loop-place-test.true (take_more c.args.xs.now c.loop-place.place 0 c.loop-place-test.true))

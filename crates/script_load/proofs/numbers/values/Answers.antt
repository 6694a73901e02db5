use Rattle.std.proofs.Common.{sym, ◌∙◌}
use Rattle.script_load.proofs.Values.{values_more, values_all}
use Rattle.script_load.proofs.numbers.values.Goals as goal

pub loop-preserved : goal.loop-preserved
loop-preserved c =
    rw (c.in_ok-push.ensures.items, c.next-x.ensures) (sym (values_more c.loop.all.items c.args.count c.loop.counter c.loop.x c.loop-test.true) ∙ c.loop.invariant)

pub returns : goal.returns
returns c = sym (values_all c.loop.all.items c.args.count c.loop.counter c.loop.x c.loop-test.false) ∙ c.loop.invariant

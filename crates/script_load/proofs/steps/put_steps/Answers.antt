use Rattle.std.proofs.Common.{ℕ, ◌+◌, ◌*◌, ap, arith}
use Rattle.std.proofs.lemmas.Result.{on_ok_weaker}
use Rattle.script_load.proofs.Commands.{joined}
use Rattle.script_load.proofs.steps.put_steps.Goals as goal

pub returns : goal.returns
returns c =
    on_ok_weaker c.put_wait.result
    (λ waited. joined c.args.steps.now.items c.put_commands.new.steps.items c.put_wait.new.steps.items c.args.xs.now c.args.process _ _
    (ap (λ (m : ℕ). 13 + 2000 * c.args.process + m) c.min.ensures) (omega arith) c.in_ok-put_commands.ensures waited)
    c.put_wait.ensures

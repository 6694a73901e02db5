use Rattle.std.proofs.Common.{ℕ, List, length, ap, ◌∙◌}
use Rattle.std.specs.List.{flat_map}
use Rattle.std.proofs.lemmas.List.{take_all}
use Rattle.script_load.specs.Load.{steps_of, processes}
use Rattle.script_load.proofs.Values.{length-values}
use Rattle.script_load.proofs.Lists.{more_steps}
use Rattle.script_load.proofs.load.steps.Goals as goal

pub put_steps-requires-clause-all : goal.put_steps-requires-clause-all
put_steps-requires-clause-all c =
    ap (λ (xs : List ℕ). length xs) (c.as_slice.ensures.value ∙ c.in_ok-xs.ensures) ∙ length-values 16000 c.args.number

pub loop-process-preserved : goal.loop-process-preserved
loop-process-preserved c =
    more_steps c.put_steps.new.steps.items c.loop-process.steps.items c.in_ok-xs.xs.items c.as_slice.result.now c.loop-process.process c.loop-process-test.true
    c.in_ok-put_steps.ensures c.as_slice.ensures.value c.loop-process.invariant

pub returns : goal.returns
returns c =
    c.loop-process.invariant ∙ ap (λ (ps : List ℕ). flat_map (steps_of c.in_ok-xs.xs.items) ps) (take_all c.loop-process.process processes c.loop-process-test.false)
    ∙ ap (λ (xs : List ℕ). flat_map (steps_of xs) processes) c.in_ok-xs.ensures

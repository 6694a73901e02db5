use Rattle.std.proofs.Common.{List, length, refl, sym, ap, subst, ◌∙◌}
use Rattle.script_plan.specs.Plan.{Plan}
use Rattle.script_plan.specs.declared.step.Step.{Step}
use Rattle.program_io.specs.declared.fault.InputFault.TheVariants.{NoMemory}
use Rattle.script_input.specs.Contents.{file_names}
use Rattle.script_input.proofs.Contents.{told-ends, none-done, all-done}
use Rattle.script_input.specs.StepsDealt.{AreStepsOfAll}
use Rattle.script_input.proofs.StepsDealt.{sending-many}
use Rattle.script_input.proofs.Runnable.{runnable}
use Rattle.script_input.proofs.loading.load_steps.Goals as goal

pub returns-in_err-names-clause-fault : goal.returns-in_err-names-clause-fault
returns-in_err-names-clause-fault g c = told-ends _ NoMemory c.args.script.steps _ _ c.from_residual.ensures.1 (none-done _ _)

pub deal_steps-requires-clause-many : goal.deal_steps-requires-clause-many
deal_steps-requires-clause-many g c =
    c.in_ok-contents.ensures.read.answer.many ∙ ap (λ (s : List Step). length (file_names s)) (c.steps.ensures.value ∙ sym (ap (λ (p : Plan). p.steps) c.into_parts-processes.ensures.value))
    ∙ sending-many c.into_parts-processes.result.steps.items

pub returns-in_err-process_steps-clause-fault : goal.returns-in_err-process_steps-clause-fault
returns-in_err-process_steps-clause-fault g c =
    told-ends _ NoMemory c.args.script.steps _ _ c.from_residual-in_err-process_steps.ensures.1
    (all-done c.args.script.steps _ _ _ _ c.in_ok-contents.ensures.read c.steps.ensures.value)

pub returns-clause-runnable : goal.returns-clause-runnable
returns-clause-runnable g c =
    let value = c.into_parts-processes.ensures.value in
    let contents = c.in_ok-contents.contents.items in
    let process_steps : AreStepsOfAll (length c.into_parts-processes.result.processes.items) c.into_parts-processes.result.steps.items contents c.in_ok-process_steps.process_steps.items =
    subst (λ n. AreStepsOfAll n c.into_parts-processes.result.steps.items contents c.in_ok-process_steps.process_steps.items) (c.len.ensures ∙ c.into_parts-processes.result.processes.ok.0) c.in_ok-process_steps.ensures in
    runnable c.args.script contents c.args.schedulers c.args.workers _ c.into_parts-processes.ensures.plan
    (record {
      ports = ap (λ (p : Plan). p.ports) value;
      process_steps = subst (λ (p : Plan). AreStepsOfAll (length p.processes) p.steps contents c.in_ok-process_steps.process_steps.items) value process_steps;
      schedulers_are = refl;
      workers_are = refl;
    })
    c.requires.some_schedulers c.requires.few_schedulers c.requires.some_workers c.requires.few_workers

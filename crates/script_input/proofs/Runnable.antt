-- What is run of a script can be run.
use Rattle.std.proofs.Common.{◌≤◌, ◌==◌, ℕ, List, length, arith}
use Rattle.std.specs.Prelude.{All}
use Rattle.std.proofs.lemmas.List.Elements.{All-filter}
use Rattle.script_plan.specs.declared.step.Step.{Step}
use Rattle.script_plan.specs.Plan.{Plan, IsPlan, IsWithin}
use Rattle.run_opening.specs.run_seats.process_job.Jobs.{AreWithin}
use Rattle.run_opening.specs.run_seats.declared.plans.ProcessSteps.{ProcessSteps}
use Rattle.run_opening.specs.declared.run_script.RunScript.{RunScript}
use Rattle.run_opening.specs.Script.{IsRunnable}
use Rattle.script_input.specs.StepsDealt.{AreStepsOfAll}
use Rattle.script_input.specs.Input.{IsRunOf}

-- the steps of each process name processes and ports that are there
all-steps-within : (plan : Plan) (contents : List (List ℕ)) (process_steps : List ProcessSteps) → IsPlan plan → AreStepsOfAll (length plan.processes) plan.steps contents process_steps
    → All (λ (p : ProcessSteps). AreWithin (length process_steps) (length plan.ports) p.steps.items) process_steps
all-steps-within plan contents process_steps is are = λ k d below.
    rw (are.each k d (omega (arith, are.many))).steps_are
    (rw are.many (All-filter (λ (s : Step). s.process == k) (λ (s : Step). IsWithin (length plan.processes) (length plan.ports) s.act) plan.steps is.named))

pub runnable : (plan : Plan) (contents : List (List ℕ)) (schedulers workers : ℕ) (script : RunScript) → IsPlan plan → IsRunOf plan contents schedulers workers script
    → 1 ≤ schedulers → schedulers ≤ 16 → 1 ≤ workers → workers ≤ 8 → IsRunnable script
runnable plan contents schedulers workers script is run some few some' few' = record {
  declared = record {
    few_ports = rw run.ports is.few_ports;
    few_processes = rw run.process_steps.many is.few_processes;
    some_workers = rw run.workers_are some';
    few_workers = rw run.workers_are few';
    owners = rw run.ports (rw run.process_steps.many is.owners);
    configs = rw run.ports is.configs;
  };
  some_schedulers = rw run.schedulers_are some;
  few_schedulers = rw run.schedulers_are few;
  within = rw run.ports (all-steps-within plan contents script.process_steps.items is run.process_steps);
}

use Rattle.std.proofs.Common.{refl, sym, subst}
use Rattle.script_input.specs.Words.{asked_by}
use Rattle.gateway.specs.Causes.{AllFound}
use Rattle.gateway.proofs.Reading.{plan-read, all-read, drivers-end, source-ends, files-end, err-so, load-plan-quiet, load-quiet, load-ends-quiet, load-source-quiet}
use Rattle.gateway.proofs.preparing.prepare.Goals as goal

pub returns-in-Err-source_script-clause-cause : goal.returns-in-Err-source_script-clause-cause
returns-in-Err-source_script-clause-cause g c =
    rw c.input_cause.ensures
    (source-ends g.D.Driver.kind g.D.Driver.stage g.D.Driver.faults _ c.args.hosts.now (asked_by c.in-Ok.asked) _ _ c.in-Err-source_script.fault (sym c.in-Ok.ensures.asked)
    c.in-Err-source_script.ensures.fault)

pub returns-in-Err-source_script-clause-load : goal.returns-in-Err-source_script-clause-load
returns-in-Err-source_script-clause-load g c = λ number asks.
    load-source-quiet _ (asked_by c.in-Ok.asked) _ _ number c.in-Err-source_script.fault (sym c.in-Ok.ensures.asked) asks c.in-Err-source_script.ensures.fault

pub returns-in_err-look_for_drivers-clause-cause : goal.returns-in_err-look_for_drivers-clause-cause
returns-in_err-look_for_drivers-clause-cause g c =
    let script = plan-read _ (asked_by c.in-Ok.asked) _ _ c.in-Ok-source_script.script (sym c.in-Ok.ensures.asked) c.in-Ok-source_script.ensures.says c.source_script.ensures.files.told
    c.in-Ok-source_script.ensures.plan in
    err-so c.from_residual.result c.in_err-look_for_drivers.field-0.0 _ c.from_residual.ensures.1
    (drivers-end g.D.Driver.kind g.D.Driver.stage g.D.Driver.faults _ c.args.hosts.now _ _ c.in-Ok-source_script.script c.ports.result.now c.in_err-look_for_drivers.field-0.0 script c.ports.ensures.value
    c.in_err-look_for_drivers.ensures.lacking)

pub returns-in_err-look_for_drivers-clause-load : goal.returns-in_err-look_for_drivers-clause-load
returns-in_err-look_for_drivers-clause-load g c = λ number asks.
    load-plan-quiet _ _ _ c.in-Ok-source_script.script number
    (plan-read _ (asked_by c.in-Ok.asked) _ _ c.in-Ok-source_script.script (sym c.in-Ok.ensures.asked) c.in-Ok-source_script.ensures.says c.source_script.ensures.files.told
    c.in-Ok-source_script.ensures.plan) asks

pub returns-in-Ok-load_steps-clause-input : goal.returns-in-Ok-load_steps-clause-input
returns-in-Ok-load_steps-clause-input g c = (
  c.in-Ok-source_script.script,
  all-read _ _ _ _ c.in-Ok-source_script.script c.in-Ok-load_steps.input
      (plan-read _ (asked_by c.in-Ok.asked) _ _ c.in-Ok-source_script.script (sym c.in-Ok.ensures.asked) c.in-Ok-source_script.ensures.says c.source_script.ensures.files.told
      c.in-Ok-source_script.ensures.plan) c.in-Ok-load_steps.ensures.input,
)

pub returns-in-Ok-load_steps-clause-source : goal.returns-in-Ok-load_steps-clause-source
returns-in-Ok-load_steps-clause-source g c = record { asked = asked_by c.in-Ok.asked; named = sym c.in-Ok.ensures.asked; source_is = refl }

pub returns-in-Ok-load_steps-clause-load : goal.returns-in-Ok-load_steps-clause-load
returns-in-Ok-load_steps-clause-load g c = λ number asks.
    load-quiet _ _ _ c.in-Ok-source_script.script c.in-Ok-load_steps.input number
    (all-read _ _ _ _ c.in-Ok-source_script.script c.in-Ok-load_steps.input
    (plan-read _ (asked_by c.in-Ok.asked) _ _ c.in-Ok-source_script.script (sym c.in-Ok.ensures.asked) c.in-Ok-source_script.ensures.says c.source_script.ensures.files.told
    c.in-Ok-source_script.ensures.plan) c.in-Ok-load_steps.ensures.input) asks

pub returns-in-Err-load_steps-clause-cause : goal.returns-in-Err-load_steps-clause-cause
returns-in-Err-load_steps-clause-cause g c =
    rw c.input_cause-in-Err-load_steps.ensures
    (files-end g.D.Driver.kind g.D.Driver.stage g.D.Driver.faults _ c.args.hosts.now _ _ _ c.in-Ok-source_script.script c.in-Err-load_steps.fault
    (plan-read _ (asked_by c.in-Ok.asked) _ _ c.in-Ok-source_script.script (sym c.in-Ok.ensures.asked) c.in-Ok-source_script.ensures.says c.source_script.ensures.files.told
    c.in-Ok-source_script.ensures.plan) c.in-Err-load_steps.ensures.fault
    (subst (λ ports. AllFound g.D.Driver.kind c.args.hosts.now ports) c.ports.ensures.value c.in_ok-look_for_drivers.ensures.found))

pub returns-in-Err-load_steps-clause-load : goal.returns-in-Err-load_steps-clause-load
returns-in-Err-load_steps-clause-load g c = λ number asks.
    load-ends-quiet _ _ _ _ c.in-Ok-source_script.script number c.in-Err-load_steps.fault
    (plan-read _ (asked_by c.in-Ok.asked) _ _ c.in-Ok-source_script.script (sym c.in-Ok.ensures.asked) c.in-Ok-source_script.ensures.says c.source_script.ensures.files.told
    c.in-Ok-source_script.ensures.plan) asks c.in-Err-load_steps.ensures.fault

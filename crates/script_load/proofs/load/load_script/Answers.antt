use Rattle.std.proofs.Common.{sym, subst, ◌∙◌}
use Rattle.script_plan.specs.Plan.{IsPlan}
use Rattle.script_load.proofs.Plans.{IsPlan-load, of_parts}
use Rattle.script_load.proofs.load.load_script.Goals as goal

pub new-requires-2 : goal.new-requires-2
new-requires-2 c = subst IsPlan (sym (of_parts _ _ _ _ c.args.number c.in_ok-processes.ensures c.in_ok-ports.ensures c.new.ensures.items c.in_ok-steps.ensures)) (IsPlan-load c.args.number)

pub returns-clause-plan : goal.returns-clause-plan
returns-clause-plan c = c.new-2.ensures ∙ of_parts _ _ _ _ c.args.number c.in_ok-processes.ensures c.in_ok-ports.ensures c.new.ensures.items c.in_ok-steps.ensures

pub returns-clause-is_plan : goal.returns-clause-is_plan
returns-clause-is_plan c =
    subst IsPlan (sym (c.new-2.ensures ∙ of_parts _ _ _ _ c.args.number c.in_ok-processes.ensures c.in_ok-ports.ensures c.new.ensures.items c.in_ok-steps.ensures)) (IsPlan-load c.args.number)

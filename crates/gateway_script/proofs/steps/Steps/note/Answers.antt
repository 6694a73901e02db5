use Rattle.std.proofs.Common.{[], ◌∷◌, ◌++◌, true, sym, subst}
use Rattle.std.proofs.lemmas.Result.{on_ok_weaker}
use Rattle.std.proofs.Math.ListN.{set}
use Rattle.script_plan.specs.declared.step.Act.{Act}
use Rattle.gateway_script.specs.Steps.{IsKept}
use Rattle.gateway_script.proofs.Kept.{IsKept-die, IsKept-other, no_die, no_monitor, no_begun, no_end}
use Rattle.gateway_script.proofs.steps.Steps.note.Goals as goal

pub returns-in_default-clause-kept : goal.returns-in_default-clause-kept
returns-in_default-clause-kept c =
    let a = c.args.step.now.act in
    let old = c.args.self.now in
    IsKept-other old.died old.monitors old.pairs.items old.list.items c.args.step.now c.requires.steps.kept
    (no_die a c.in_default.not-Die) (no_monitor a c.in_default.not-Monitor) (no_begun a c.in_default.not-Monitor) (no_end a c.in_default.not-Demonitor)

pub returns-in-Die-clause-kept : goal.returns-in-Die-clause-kept
returns-in-Die-clause-kept c =
    let s = c.args.step.now in
    let old = c.args.self.now in
    subst (λ (a : Act). IsKept (set old.died s.process true) old.monitors old.pairs.items (old.list.items ++ record { line = s.line; process = s.process; act = a } ∷ [])) (sym c.in-Die.is)
    (IsKept-die old.died old.monitors old.pairs.items old.list.items s.line s.process c.in-Die.field-0 c.requires.steps.kept c.requires.process)

pub returns-in-Monitor-clause-kept : goal.returns-in-Monitor-clause-kept
returns-in-Monitor-clause-kept c =
    let s = c.args.step.now in
    let new = c.note_monitor.new.self in
    on_ok_weaker c.note_monitor.result
    (λ kept. subst (λ (a : Act). IsKept new.died new.monitors new.pairs.items (c.args.self.now.list.items ++ record { line = s.line; process = s.process; act = a } ∷ [])) (sym c.in-Monitor.is) (kept s.line))
    c.note_monitor.ensures.kept

pub returns-in-Demonitor-clause-kept : goal.returns-in-Demonitor-clause-kept
returns-in-Demonitor-clause-kept c =
    let s = c.args.step.now in
    let new = c.note_end.new.self in
    subst (λ (a : Act). IsKept new.died new.monitors new.pairs.items (c.args.self.now.list.items ++ record { line = s.line; process = s.process; act = a } ∷ [])) (sym c.in-Demonitor.is) (c.note_end.ensures.kept s.line c.in-Demonitor.number)

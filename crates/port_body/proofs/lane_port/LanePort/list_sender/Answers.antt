use Rattle.std.proofs.Common.{[], ◌∷◌, ◌++◌, sym, ap, ◌∙◌, subst}
use Rattle.port_model.specs.declared.row.Row.TheVariants.{Listed}
use Rattle.port_model.specs.declared.signal.Sender.TheVariants.{Process}
use Rattle.port_model.specs.Tasks.{TaskView}
use Rattle.recorded_port.specs.Resuming.{MayList}
use Rattle.recorded_port.specs.Taking.{IsSameRecorded}
use Rattle.port_body.specs.LanePort.{LanePortView, Holds}
use Rattle.port_body.proofs.Arriving.{listed-behind, may-list, plain-behind}
use Rattle.port_body.proofs.Settling.{on-both}
use Rattle.port_body.proofs.lane_port.LanePort.list_sender.Goals as goal

pub returns-then-not-suspends-clause-holds : goal.returns-then-not-suspends-clause-holds
returns-then-not-suspends-clause-holds g c =
    plain-behind c.args.self.now c.args.item.now c.requires.came (sym (c.suspends.ensures ∙ ap (λ (t : TaskView). t.suspends) c.task.ensures) ∙ c.if-not-suspends.true)

pub list-requires-clause-may : goal.list-requires-clause-may
list-requires-clause-may g c =
    let at = sym c.sender_at.ensures ∙ c.in-Process.is in
    subst (λ (v : LanePortView). MayList v.port c.in-Process.process c.args.item.now.seq) (sym c.self.view_is)
    (may-list c.args.self.now c.args.item.now c.in-Process.process c.requires.came at)

pub returns-in-Process-clause-holds : goal.returns-in-Process-clause-holds
returns-in-Process-clause-holds g c =
    let old = c.args.self.now in
    let x = c.args.item.now in
    let at = sym c.sender_at.ensures ∙ c.in-Process.is in
    let suspends = sym (c.suspends.ensures ∙ ap (λ (t : TaskView). t.suspends) c.task.ensures) ∙ c.if-not-suspends.false in
    let same = subst (λ (v : LanePortView). IsSameRecorded v.port c.list.new.self) c.self.view_is c.list.ensures.same in
    on-both c.list.result (λ settled rows. subst (λ (v : LanePortView). Holds (record v { port = c.list.new.self }) (v.waiting.items ++ x ∷ [])) (sym c.self.view_is)
    (listed-behind old x c.list.new.self c.in-Process.process c.requires.came suspends at settled same
    (rows ∙ ap (λ (v : LanePortView). v.port.rows ++ Listed (Process c.in-Process.process) x.seq ∷ []) c.self.view_is))) c.list.ensures.settled c.list.ensures.rows

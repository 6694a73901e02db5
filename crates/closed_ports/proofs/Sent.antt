-- The rows of a settled port are what its ends sent.
use Rattle.std.proofs.Common.{◌≡◌, ◌<◌, ℕ, List, [], ◌∷◌, ◌++◌, ◌+◌, ◌-◌, length, map, get_or, refl, sym, ap, ◌∙◌, subst, arith}
use Rattle.std.specs.Prelude.{reverse}
use Rattle.std.proofs.lemmas.List.{append-nil, get_or-append_right, get_or-map, length-append, length-map}
use Rattle.task_queue.specs.declared.item.Item.{Item}
use Rattle.task_queue.specs.declared.protocol.Ended.{Ended}
use Rattle.task_queue.specs.Items.{items_of, of}
use Rattle.task_queue.specs.Ends.{Taking, ended_of}
use Rattle.port_lanes.specs.Keys.{Key, end_of, sender_at}
use Rattle.port_lanes.specs.Parcels.{ParcelView}
use Rattle.port_model.specs.declared.signal.Sender.TheVariants.{Timer}
use Rattle.port_model.specs.Tasks.{TaskView}
use Rattle.port_body.specs.Body.{BodyView}
use Rattle.port_body.specs.LanePort.{rows_from, tasks_of}
use Rattle.closed_ports.specs.Ends.{LaneEnd}
use Rattle.closed_ports.specs.Laws.{HasAllEnds, SettledRowsAreSent}

-- the tasks of items are those of their values
tasks-of-values : (items : List (Item ParcelView)) → map (λ (i : Item ParcelView). i.value.task) items ≡ map (λ (p : ParcelView). p.task) (map (λ (x : Item ParcelView). x.value) items)
tasks-of-values [] = refl
tasks-of-values (x ∷ items) = ap (λ tasks. x.value.task ∷ tasks) (tasks-of-values items)

-- of each end that was taken in, all that it sent was taken
took-sent : (v : BodyView) (ends : List LaneEnd) → HasAllEnds v ends → (number : ℕ) (d : LaneEnd) → number < length ends → of number v.lane_port.lane.taken ≡ (get_or ends number d).sent
took-sent v ends has number d below =
    let lane = v.lane_port.lane in
    let all = ap length has.ended ∙ length-append has.before (map ended_of ends) in
    let many = length-map ends ended_of in
    let place : (length has.before + number) - length has.before ≡ number = omega arith in
    let here : get_or lane.ended (length has.before + number) (ended_of d) ≡ ended_of (get_or ends number d) =
    ap (λ l. get_or l (length has.before + number) (ended_of d)) has.ended ∙ (get_or-append_right has.before (map ended_of ends) (length has.before) (length has.before + number) (ended_of d) refl (omega arith)
    ∙ (ap (λ k. get_or (map ended_of ends) k (ended_of d)) place ∙ get_or-map ended_of ends number d (ended_of d) below)) in
    let took : of (get_or ends number d).number lane.taken ≡ (get_or ends number d).sent =
    subst (λ (e : Ended ParcelView). of e.number lane.taken ≡ e.sent) here (has.settled.all (length has.before + number) (ended_of d) (omega arith)) in
    subst (λ n. of n lane.taken ≡ (get_or ends number d).sent) (has.numbered number d below) took

pub rows-are-sent : SettledRowsAreSent
rows-are-sent v rows outlets lane ends has same whole number d below =
    let many : length ends ≡ end_of lane.key Timer = has.many ∙ sym (ap (λ (l : Taking ParcelView Key). end_of l.key Timer) same) in
    let own : List TaskView = rows_from (sender_at lane.key number) (reverse rows) in
    let none = whole.none_waits has.settled.finished in
    let rows_are : own ≡ tasks_of number lane.taken =
    sym (append-nil own) ∙ (ap (λ w. own ++ tasks_of number w) (sym none) ∙ whole.taken number (subst (λ n. number < n) many below)) in
    rows_are ∙ (ap (λ (l : Taking ParcelView Key). tasks_of number l.taken) same
    ∙ (tasks-of-values (items_of number v.lane_port.lane.taken) ∙ ap (map (λ (p : ParcelView). p.task)) (took-sent v ends has number d below)))

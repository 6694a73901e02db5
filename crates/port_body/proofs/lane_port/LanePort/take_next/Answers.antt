use Rattle.std.proofs.Common.{[], ◌∷◌, ◌++◌, sym, ap, ◌∙◌, subst, inl, inr}
use Rattle.task_queue.specs.Ends.{Taking}
use Rattle.port_lanes.specs.Keys.{Key}
use Rattle.port_lanes.specs.Parcels.{ParcelView, FitsLane}
use Rattle.waiting_parcels.specs.Waiting.{GoesFirst, NoneGoes}
use Rattle.port_body.specs.LanePort.{LanePortView, Holds, IsBody, OwnItems}
use Rattle.port_body.specs.Steps.{Settles}
use Rattle.port_body.proofs.Holding.{first-moved, waits}
use Rattle.port_body.proofs.Waits.{rest-own, body-waits, waiting-went, lane-went}
use Rattle.port_body.proofs.lane_port.LanePort.take_next.Goals as goal

pub settle-requires-clause-holds : goal.settle-requires-clause-holds
settle-requires-clause-holds g c =
    let old = c.args.self.now in
    let items = ap (λ (v : LanePortView). v.waiting.items) c.self.view_is in
    let senders = c.take_first.ensures.senders ∙ ap (λ (v : LanePortView). v.waiting.senders) c.self.view_is in
    let x = c.in-Some.item in
    let goes = subst (λ l. GoesFirst c.is_busy.result l x c.take_first.new.self.items) items c.in-Some.ensures.some in
    subst (λ (v : LanePortView). Holds (record v { waiting = c.take_first.new.self }) (x ∷ c.take_first.new.self.items)) (sym c.self.view_is)
    (waits old c.take_first.new.self (x ∷ c.take_first.new.self.items) (first-moved old c.is_busy.result old.waiting.items x c.take_first.new.self.items c.requires.body.holds goes) senders)

pub settle-requires-clause-owners : goal.settle-requires-clause-owners
settle-requires-clause-owners g c =
    let old = c.args.self.now in
    let items = ap (λ (v : LanePortView). v.waiting.items) c.self.view_is in
    let senders = c.take_first.ensures.senders ∙ ap (λ (v : LanePortView). v.waiting.senders) c.self.view_is in
    let x = c.in-Some.item in
    let goes = subst (λ l. GoesFirst c.is_busy.result l x c.take_first.new.self.items) items c.in-Some.ensures.some in
    subst (λ (v : LanePortView). OwnItems v.processes c.take_first.new.self.items) (sym c.self.view_is)
    (rest-own old.processes c.is_busy.result old.waiting.items c.take_first.new.self.items x goes c.requires.body.owners)

pub returns-in-Some-clause-stepped : goal.returns-in-Some-clause-stepped
returns-in-Some-clause-stepped g c =
    let old = c.args.self.now in
    let items = ap (λ (v : LanePortView). v.waiting.items) c.self.view_is in
    let senders = c.take_first.ensures.senders ∙ ap (λ (v : LanePortView). v.waiting.senders) c.self.view_is in
    let x = c.in-Some.item in
    let goes = subst (λ l. GoesFirst c.is_busy.result l x c.take_first.new.self.items) items c.in-Some.ensures.some in
    let busy = c.is_busy.ensures ∙ (ap (λ (v : LanePortView). v.port.port.state.busy) c.self.view_is ∙ c.requires.body.holds.settled.recorded.at.state.busy) in
    let s = subst (λ (v : LanePortView). Settles (record v { waiting = c.take_first.new.self }) c.settle.new.self x) c.self.view_is c.in_ok-settle.ensures.settles in
    (inl (waiting-went old c.settle.new.self c.take_first.new.self x c.is_busy.result busy goes s), s.looked)

pub returns-in_default-take-clause-body : goal.returns-in_default-take-clause-body
returns-in_default-take-clause-body g c =
    let old = c.args.self.now in
    let items = ap (λ (v : LanePortView). v.waiting.items) c.self.view_is in
    let senders = c.take_first.ensures.senders ∙ ap (λ (v : LanePortView). v.waiting.senders) c.self.view_is in
    let same = ap (λ w. w.items) c.in_default.ensures.same ∙ items in
    let body = body-waits old c.take_first.new.self c.requires.body same senders in
    let lane = c.in_default-take.ensures.unchanged ∙ ap (λ (v : LanePortView). v.lane) c.self.view_is in
    subst (λ (v : LanePortView). IsBody (record v { lane = c.take.new.self; waiting = c.take_first.new.self })) (sym c.self.view_is)
    (subst (λ l. IsBody (record old { lane = l; waiting = c.take_first.new.self })) (sym lane) body)

pub arrive-requires-clause-came : goal.arrive-requires-clause-came
arrive-requires-clause-came g c =
    let old = c.args.self.now in
    let items = ap (λ (v : LanePortView). v.waiting.items) c.self.view_is in
    let senders = c.take_first.ensures.senders ∙ ap (λ (v : LanePortView). v.waiting.senders) c.self.view_is in
    let same = ap (λ w. w.items) c.in_default.ensures.same ∙ items in
    let body = body-waits old c.take_first.new.self c.requires.body same senders in
    let lane = ap (λ (l : Taking ParcelView Key). record l { taken = c.self.inside.lane.taken }) c.in-Some-take.ensures.taken ∙ ap (λ (v : LanePortView). v.lane) c.self.view_is in
    record {
      before = c.self.inside.lane.taken;
      taken = ap (λ l. l.taken) c.in-Some-take.ensures.taken;
      body = subst (λ (v : LanePortView). IsBody (record v { lane = record c.take.new.self { taken = c.self.inside.lane.taken }; waiting = c.take_first.new.self })) (sym c.self.view_is)
          (subst (λ l. IsBody (record old { lane = l; waiting = c.take_first.new.self })) (sym lane) body);
      next = c.in-Some-take.ensures.next;
      fits = subst (λ k. FitsLane k c.in-Some-take.item.sender c.in-Some-take.item.value) (sym (ap (λ l. l.key) c.in-Some-take.ensures.taken)) c.in-Some-take.ensures.fits;
    }

pub returns-clause-stepped : goal.returns-clause-stepped
returns-clause-stepped g c =
    let old = c.args.self.now in
    let items = ap (λ (v : LanePortView). v.waiting.items) c.self.view_is in
    let senders = c.take_first.ensures.senders ∙ ap (λ (v : LanePortView). v.waiting.senders) c.self.view_is in
    let busy = c.is_busy.ensures ∙ (ap (λ (v : LanePortView). v.port.port.state.busy) c.self.view_is ∙ c.requires.body.holds.settled.recorded.at.state.busy) in
    let same = ap (λ w. w.items) c.in_default.ensures.same ∙ items in
    let none = subst (λ b. NoneGoes b old.waiting.items) busy (subst (NoneGoes c.is_busy.result) items c.in_default.ensures.none) in
    let a = c.in_ok-arrive.ensures.arrives in (
      inr (lane-went old _ c.arrive.new.self c.in-Some-take.item none (ap (λ (v : LanePortView). v.port) c.self.view_is)
          (c.in-Some-take.ensures.taken ∙ ap (λ (v : LanePortView). record v.lane { taken = v.lane.taken ++ c.in-Some-take.item ∷ [] }) c.self.view_is) same a),
      a.looked,
    )

use Rattle.std.proofs.Common.{◌≡◌, ◌+◌, [], ◌∷◌, ◌++◌, length, arith, is_some, sym, ap, ◌∙◌, subst}
use Rattle.std.specs.Prelude.{not, reverse}
use Rattle.std.proofs.lemmas.List.{append_assoc}
use Rattle.port_events.specs.port_history.State.{state, is_open}
use Rattle.recorded_port.specs.View.{state_of}
use Rattle.recorded_port.specs.Taking.{IsSameRecorded, UsesRoom}
use Rattle.recorded_port.specs.Resuming.{Resumes}
use Rattle.port_body.specs.LanePort.{LanePortView, Holds, OwnItems}
use Rattle.port_body.proofs.Holding.{resumed, last-moved, same-tasks}
use Rattle.port_body.proofs.Settling.{added, after-look, on-one}
use Rattle.port_body.proofs.Room.{resumed_room}
use Rattle.port_body.proofs.Same.{lane_port_trans, same_lane}
use Rattle.port_body.proofs.Waits.{alone, waits-body, waits-arrives, settles-arrives}
use Rattle.port_body.proofs.lane_port.LanePort.arrive.Goals as goal

pub must_wait-requires : goal.must_wait-requires
must_wait-requires g c =
    let mid = c.list_sender.new.self in
    let x = c.args.item in
    let same = subst (λ (v : LanePortView). IsSameRecorded v.port c.resume.new.self) c.self.view_is c.resume.ensures.same in
    let resumes = subst (λ (v : LanePortView). Resumes v.port c.resume.new.self) c.self.view_is c.in_ok-resume.ensures.resumes in
    let holds = resumed mid c.resume.new.self (mid.waiting.items ++ x ∷ []) c.in_ok-list_sender.ensures.holds c.in_ok-resume.ensures.settled same resumes in
    let here = subst (λ (v : LanePortView). Holds (record v { port = c.resume.new.self }) (v.waiting.items ++ x ∷ [])) (sym c.self.view_is) holds in
    here

pub returns-then-must_wait-clause-body : goal.returns-then-must_wait-clause-body
returns-then-must_wait-clause-body g c =
    let mid = c.list_sender.new.self in
    let x = c.args.item in
    let same = subst (λ (v : LanePortView). IsSameRecorded v.port c.resume.new.self) c.self.view_is c.resume.ensures.same in
    let resumes = subst (λ (v : LanePortView). Resumes v.port c.resume.new.self) c.self.view_is c.in_ok-resume.ensures.resumes in
    let holds = resumed mid c.resume.new.self (mid.waiting.items ++ x ∷ []) c.in_ok-list_sender.ensures.holds c.in_ok-resume.ensures.settled same resumes in
    let here = subst (λ (v : LanePortView). Holds (record v { port = c.resume.new.self }) (v.waiting.items ++ x ∷ [])) (sym c.self.view_is) holds in
    let owners = subst (λ (v : LanePortView). OwnItems v.processes v.waiting.items) (sym (c.self.view_is ∙ c.in_ok-list_sender.ensures.lists.rest)) c.requires.came.body.owners in
    waits-body _ c.push.new.self x here (sym c.must_wait.ensures ∙ c.if-must_wait.true) owners c.push.ensures.items c.push.ensures.senders

pub returns-then-must_wait-clause-arrives : goal.returns-then-must_wait-clause-arrives
returns-then-must_wait-clause-arrives g c =
    let mid = c.list_sender.new.self in
    let x = c.args.item in
    let same = subst (λ (v : LanePortView). IsSameRecorded v.port c.resume.new.self) c.self.view_is c.resume.ensures.same in
    let resumes = subst (λ (v : LanePortView). Resumes v.port c.resume.new.self) c.self.view_is c.in_ok-resume.ensures.resumes in
    let holds = resumed mid c.resume.new.self (mid.waiting.items ++ x ∷ []) c.in_ok-list_sender.ensures.holds c.in_ok-resume.ensures.settled same resumes in
    let here = subst (λ (v : LanePortView). Holds (record v { port = c.resume.new.self }) (v.waiting.items ++ x ∷ [])) (sym c.self.view_is) holds in
    let rest = ap (λ (v : LanePortView). record v { port = c.resume.new.self }) (c.self.view_is ∙ c.in_ok-list_sender.ensures.lists.rest) in
    waits-arrives c.args.self.now _ c.push.new.self x rest (sym c.must_wait.ensures ∙ c.if-must_wait.true) c.push.ensures.items (after-look mid.port c.resume.new.self same resumes)

pub settle-requires-clause-holds : goal.settle-requires-clause-holds
settle-requires-clause-holds g c =
    let mid = c.list_sender.new.self in
    let x = c.args.item in
    let same = subst (λ (v : LanePortView). IsSameRecorded v.port c.resume.new.self) c.self.view_is c.resume.ensures.same in
    let resumes = subst (λ (v : LanePortView). Resumes v.port c.resume.new.self) c.self.view_is c.in_ok-resume.ensures.resumes in
    let holds = resumed mid c.resume.new.self (mid.waiting.items ++ x ∷ []) c.in_ok-list_sender.ensures.holds c.in_ok-resume.ensures.settled same resumes in
    let here = subst (λ (v : LanePortView). Holds (record v { port = c.resume.new.self }) (v.waiting.items ++ x ∷ [])) (sym c.self.view_is) holds in
    let owners = subst (λ (v : LanePortView). OwnItems v.processes v.waiting.items) (sym (c.self.view_is ∙ c.in_ok-list_sender.ensures.lists.rest)) c.requires.came.body.owners in
    let tasks = same-tasks mid.port c.resume.new.self same resumes in
    let reason = ap (λ o. (state o (reverse c.resume.new.self.rows)).reason) same.opening ∙ (tasks.reason ∙ c.in_ok-list_sender.ensures.lists.reason) in
    let closed = λ (shut : is_open (state_of c.resume.new.self) ≡ _).
    ap (λ (v : LanePortView). v.waiting.items) (c.self.view_is ∙ c.in_ok-list_sender.ensures.lists.rest) ∙ c.requires.came.body.closed (sym (ap (λ r. not (is_some r)) reason) ∙ shut) in
    let v : LanePortView = record { port = c.resume.new.self; lane = c.self.inside.lane; waiting = c.self.inside.waiting; processes = c.self.inside.processes; workers = c.self.inside.workers } in
    last-moved v c.self.inside.waiting.items x here (alone v x (sym c.must_wait.ensures ∙ c.if-must_wait.false) owners closed)

pub returns-clause-arrives : goal.returns-clause-arrives
returns-clause-arrives g c =
    let mid = c.list_sender.new.self in
    let x = c.args.item in
    let same = subst (λ (v : LanePortView). IsSameRecorded v.port c.resume.new.self) c.self.view_is c.resume.ensures.same in
    let resumes = subst (λ (v : LanePortView). Resumes v.port c.resume.new.self) c.self.view_is c.in_ok-resume.ensures.resumes in
    let holds = resumed mid c.resume.new.self (mid.waiting.items ++ x ∷ []) c.in_ok-list_sender.ensures.holds c.in_ok-resume.ensures.settled same resumes in
    let here = subst (λ (v : LanePortView). Holds (record v { port = c.resume.new.self }) (v.waiting.items ++ x ∷ [])) (sym c.self.view_is) holds in
    let old = c.args.self.now in
    let lists = c.in_ok-list_sender.ensures.lists in
    let more = added mid.port c.resume.new.self resumes in
    let rest = ap (λ (v : LanePortView). record v { port = c.resume.new.self }) (c.self.view_is ∙ lists.rest) in
    let rows = more.rows ∙ (ap (λ r. r ++ more.more) lists.rows ∙ append_assoc old.port.rows lists.more more.more) in
    on-one c.settle.result (λ s. settles-arrives old _ c.settle.new.self x (lists.more ++ more.more) rest rows s) c.settle.ensures.settles

pub settle-requires-clause-room : goal.settle-requires-clause-room
settle-requires-clause-room g c =
    let old = c.args.self.now in
    let mid = c.list_sender.new.self in
    let uses = subst (λ (v : LanePortView). UsesRoom v.port c.resume.new.self) c.self.view_is c.resume.ensures.room in
    let resumes = subst (λ (v : LanePortView). Resumes v.port c.resume.new.self) c.self.view_is c.in_ok-resume.ensures.resumes in
    let lists = c.in_ok-list_sender.ensures.lists in
    let before = c.requires.room in
    let listed = lists.room (5 + length old.waiting.items) (omega (arith, before)) in
    let enough = resumed_room mid.port c.resume.new.self c.in_ok-list_sender.ensures.holds.settled c.in_ok-resume.ensures.settled uses resumes (5 + length old.waiting.items) listed in
    let left = ap (λ (v : LanePortView). length v.waiting.items) (c.self.view_is ∙ lists.rest) in
    omega (arith, left, enough)

pub returns-clause-same : goal.returns-clause-same
returns-clause-same g c =
    let mid = c.list_sender.new.self in
    let same = subst (λ (v : LanePortView). IsSameRecorded v.port c.resume.new.self) c.self.view_is c.resume.ensures.same in
    lane_port_trans c.args.self.now mid c.settle.new.self c.list_sender.ensures.same (lane_port_trans mid _ c.settle.new.self
    (same_lane mid _ same (ap (λ (v : LanePortView). v.lane) c.self.view_is) (ap (λ (v : LanePortView). v.processes) c.self.view_is) (ap (λ (v : LanePortView). v.workers) c.self.view_is))
    c.settle.ensures.same)

pub returns-in_err-resume-clause-same : goal.returns-in_err-resume-clause-same
returns-in_err-resume-clause-same g c =
    let mid = c.list_sender.new.self in
    let same = subst (λ (v : LanePortView). IsSameRecorded v.port c.resume.new.self) c.self.view_is c.resume.ensures.same in
    lane_port_trans c.args.self.now mid _ c.list_sender.ensures.same
    (same_lane mid _ same (ap (λ (v : LanePortView). v.lane) c.self.view_is) (ap (λ (v : LanePortView). v.processes) c.self.view_is) (ap (λ (v : LanePortView). v.workers) c.self.view_is))

pub returns-then-must_wait-clause-same : goal.returns-then-must_wait-clause-same
returns-then-must_wait-clause-same g c =
    let mid = c.list_sender.new.self in
    let same = subst (λ (v : LanePortView). IsSameRecorded v.port c.resume.new.self) c.self.view_is c.resume.ensures.same in
    lane_port_trans c.args.self.now mid _ c.list_sender.ensures.same
    (same_lane mid _ same (ap (λ (v : LanePortView). v.lane) c.self.view_is) (ap (λ (v : LanePortView). v.processes) c.self.view_is) (ap (λ (v : LanePortView). v.workers) c.self.view_is))

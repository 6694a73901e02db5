-- The Ready rows of the ports of a run were answered by the waits of its poll set.
use Rattle.std.proofs.Common.{◌≡◌, ◌<◌, ◌==◌, ℕ, List, [], ◌++◌, length, map, get_or, Option, Some, refl, sym, ap, ◌∙◌, subst, arith, count_by, cond}
use Rattle.std.specs.Prelude.{reverse}
use Rattle.std.proofs.lemmas.List.{append-nil, get_or-map, length-map}
use Rattle.std.proofs.lemmas.List.Sorted.{IsPermutation-reverse, sum_by-IsPermutation}
use Rattle.driver_model.specs.Calls.{Kind, Own}
use Rattle.driver_model.specs.Programs.{ToldProgram}
use Rattle.port_history.specs.Lawful.{Lawful}
use Rattle.port_history.specs.Opening.{Opening}
use Rattle.port_lanes.specs.Parcels.{ParcelView}
use Rattle.port_model.specs.declared.event.Dir.{Dir}
use Rattle.port_model.specs.declared.event.Dir.TheVariants.{Read, Write}
use Rattle.port_model.specs.declared.row.Row.{Row}
use Rattle.port_model.specs.declared.signal.Sender.TheVariants.{Poller}
use Rattle.port_body.specs.Body.{BodyName}
use Rattle.port_body.specs.LanePort.{rows_from}
use Rattle.port_body.specs.served_port.ready_select.Answered.{times}
use Rattle.port_body.specs.served_port.ready_select.Polling.{Poller as PollerView, entry_of}
use Rattle.process_end.specs.Views.{LaneEnd}
use Rattle.driver_hosts.specs.declared.hosted.Hosted.{Hosted}
use Rattle.seated_script.specs.run_opening.run_seats.run_jobs.declared.poller.PollerEnd.TheVariants.{Finished}
use Rattle.seated_script.specs.run_opening.run_seats.run_jobs.Rounds.{PollsTo, all_found, poller_of, tasks_of}
use Rattle.seated_script.specs.run_opening.run_seats.run_jobs.Telling.{PortTask, parcels_for}
use Rattle.run_lanes.specs.declared.parts.PollerLanes.{PollerLanes}
use Rattle.seated_script.specs.run_opening.run_end.Ran.{RanProcess}
use Rattle.seated_script.specs.run_opening.Opened.{limits_of}
use Rattle.seated_script.specs.run_opening.run_seats.declared.plans.ProcessPlan.{ProcessPlan}
use Rattle.seated_script.specs.run_opening.Setting.{Setting, IsSetting}
use Rattle.script_plan.specs.declared.decl.PortDecl.{PortDecl}
use Rattle.seated_script.specs.run_opening.run_seats.threaded_jobs.declared.ended.EndedJobs.{EndedJobs}
use Rattle.closed_lanes.specs.Closed.{tasks_sent}
use Rattle.script_run.specs.declared.running.PortLeft.{PortLeft}
use Rattle.script_run.specs.declared.running.ScriptRan.{ScriptRan}
use Rattle.script_run.specs.Left.{HasEndedIn, IsLeft}
use Rattle.script_run.specs.Parted.{port_left}
use Rattle.script_run.specs.Readiness.{AreAnswered, ReadyRowsAreAnswered, is_ready_row}
use Rattle.script_run.proofs.Parts.{some}
use Rattle.script_run.proofs.Told.{all-answers, count-append, found-told, found_tasks, is_ready_task, rows-told}

event-of : (port event : ℕ) (dir : Dir) → (entry_of port event dir).event ≡ event
event-of port event Read = refl
event-of port event Write = refl

count-reverse : (event : ℕ) (dir : Dir) (rows : List Row) → count_by (is_ready_row event dir) (reverse rows) ≡ count_by (is_ready_row event dir) rows
count-reverse event dir rows = sum_by-IsPermutation (λ row. cond (is_ready_row event dir row) 1 0) rows (reverse rows) (IsPermutation-reverse rows)

-- what the poller's ends sent is what it found, where they had sent nothing
sent-found : (old new : PollerView) (lanes lanes' : List LaneEnd) (polls : PollsTo Finished old new lanes lanes') (port : ℕ) (d : LaneEnd) → port < length lanes → (get_or lanes port d).sent ≡ []
    → tasks_sent (get_or lanes' port d) ≡ found_tasks port (all_found polls.rounds)
sent-found old new lanes lanes' polls port d below none =
    let told : tasks_of (all_found polls.rounds) ≡ polls.told = polls.whole ∙ ap (λ left. polls.told ++ left) polls.ends.1 ∙ append-nil polls.told in
    ap tasks_sent (polls.sends.each port d below)
    ∙ ap (λ sent. map (λ (p : ParcelView). p.task) (sent ++ parcels_for port polls.told)) none
    ∙ ap (λ (tasks : List PortTask). map (λ (p : ParcelView). p.task) (parcels_for port tasks)) (sym told)

-- the rows of one port
port-answered : (opening : Opening) (rows : List Row) (old new : PollerView) (lanes lanes' : List LaneEnd) (answers : List ℕ) (polls : PollsTo Finished old new lanes lanes') (port : ℕ) (d : LaneEnd)
    → new.answered ≡ old.answered ++ answers → Lawful opening (reverse rows) → port < length lanes → (get_or lanes port d).sent ≡ [] → rows_from Poller (reverse rows) ≡ tasks_sent (get_or lanes' port d)
    → AreAnswered answers rows
port-answered opening rows old new lanes lanes' answers polls port d grown lawful below none sent event dir =
    let entry = entry_of port event dir in
    let told = rows-told opening event dir (reverse rows) lawful in
    let tasks = ap (count_by (is_ready_task event dir)) (sent ∙ sent-found old new lanes lanes' polls port d below none) in
    let found = found-told port event dir (all_found polls.rounds) in
    let each = polls.each_answered.each entry in
    let before = ap (λ e. times e old.answered) (event-of port event dir) in
    let after = (λ i. times (event-of port event dir i) (grown i)) ∙ count-append (λ e. e == event) old.answered answers in
    let same = count-reverse event dir rows in
    omega (arith, told, tasks, found, each, before, after, same)

-- the poller was dealt an end of each port's lane, which had sent nothing
dealt-many : (s : Setting) → IsSetting s → length s.lanes.poller.lanes.items ≡ length s.ports
dealt-many s is = is.lanes_are.poller.lanes.many ∙ is.lanes_are.counts.ports_many ∙ length-map s.ports (λ (x : PortDecl). limits_of x.config)

unsent : (s : Setting) (port : ℕ) (d : LaneEnd) → IsSetting s → port < length s.lanes.poller.lanes.items → (get_or s.lanes.poller.lanes.items port d).sent ≡ []
unsent s port d is below =
    let has = is.lanes_are.poller.lanes in
    let many = has.many in
    let lane : port < length s.lanes.ports.items = omega (arith, many, below) in
    ap (λ (e : LaneEnd). e.sent) ((has.each (some s.lanes.ports.items port lane)).each port d lane)

module _ {D S : Type 0} (kind : D → Kind) (driver_faults : D → ℕ) (own : D → Own) (program : D → Option ToldProgram) (faults : S → ℕ) (answered : S → List ℕ) where
  pub ready-rows : (s : Setting) (plans : List ProcessPlan) (poll : S) (names : List BodyName) (jobs : EndedJobs S) (ran : List RanProcess) (places : List ℕ) (hosts : List (Hosted D)) (left : ScriptRan)
      → HasEndedIn faults answered s plans poll names jobs → IsLeft kind driver_faults own program s ran jobs.poller.lanes.items names places hosts left
      → ReadyRowsAreAnswered (answered poll) (Some (answered jobs.poller.watch.poll)) left
  ready-rows s plans poll names jobs ran places hosts left has whole =
      let lanes = has.others.poller in
      let polls = has.ended.poller_told.polls in
      let old = poller_of faults answered (record { poll = poll; table = []; asks = lanes.asks }) in
      let new = poller_of faults answered jobs.poller.watch in
      let all = all-answers old new polls.rounds polls.ran in
      let ports = whole.gathered.ports_are ∙ whole.gathered.are_parts.left in
      let ports_many : length left.ports.items ≡ length whole.closed = ap length ports ∙ length-map whole.closed port_left in
      let closed_many = whole.are_closed.many in
      let names_many = has.named.many in
      let dealt = dealt-many s has.is in
      record {
        answers = all.0;
        answered = ap Some all.1;
        ports = λ k p below.
            let here : k < length whole.closed = omega (arith, ports_many, below) in
            let inside : k < length s.ports = omega (arith, closed_many, here) in
            let c = some whole.closed k here in
            let port = get_or whole.closed k c in
            let n = some names k (omega (arith, names_many, inside)) in
            let within : k < length s.lanes.poller.lanes.items = omega (arith, dealt, inside) in
            let lane : k < length lanes.lanes.items = subst (λ (x : PollerLanes). k < length x.lanes.items) (sym has.dealt.poller_is) within in
            let d = some lanes.lanes.items k lane in
            let is : get_or left.ports.items k p ≡ port_left port = ap (λ (l : List PortLeft). get_or l k p) ports ∙ get_or-map port_left whole.closed k c p here in
            let free : (get_or lanes.lanes.items k d).sent ≡ [] = subst (λ (x : PollerLanes). (get_or x.lanes.items k d).sent ≡ []) (sym has.dealt.poller_is) (unsent s k d has.is within) in
            subst (λ (x : PortLeft). AreAnswered all.0 x.journal.rows) (sym is)
            (port-answered (get_or names k n).opening port.journal.rows old new lanes.lanes.items jobs.poller.lanes.items all.0 polls k d all.1 (whole.are_closed.closed k n c inside).lawful
            lane free (whole.are_closed.polled k c d inside));
      }

-- A run that nobody stopped, whole: what its parts leave is what is promised of it.
use Rattle.std.proofs.Common.{inl, inr, ◌≡◌, ◌<◌, ◌≤◌, ◌++◌, ◌⊎◌, ℕ, zero, suc, Bool, true, false, List, [], ◌∷◌, length, map, get_or, Option, Some, None, refl, sym, ap, ◌∙◌, subst, arith, All}
use Rattle.std.specs.Prelude.{reverse, slice_index, Contains}
use Rattle.std.proofs.lemmas.Bool.{cases_lt, ltb-true}
use Rattle.std.proofs.lemmas.List.{ext_get_or, get_or-map, length-map, reverse-reverse}
use Rattle.std.proofs.lemmas.List.Elements.{All-contains, Contains-append_left}
use Rattle.std.proofs.lemmas.Slice.Eq.{bytes_eq-Decides}
use Rattle.driver_model.specs.Calls.{Kind, Own}
use Rattle.driver_model.specs.Drivers.{kind_name, refusal_of}
use Rattle.driver_model.specs.Programs.{ToldProgram}
use Rattle.port_config.specs.declared.config.Config.{Config}
use Rattle.port_driver.specs.Faults.{failures_in, RisenBy}
use Rattle.port_driver.specs.declared.life.Life.{Life}
use Rattle.port_history.specs.Opening.{Opening}
use Rattle.port_history.specs.Lawful.{Lawful, IsFinished}
use Rattle.port_model.specs.declared.row.Row.{Row}
use Rattle.port_model.specs.declared.row.Row.TheVariants.{Handled, Late, Listed, Resumed, Mark}
use Rattle.port_model.specs.declared.signal.Sender.{Sender}
use Rattle.port_model.specs.declared.signal.Sender.TheVariants.{Process, Poller, Worker, Timer}
use Rattle.port_lanes.specs.Keys.{Key, end_of, is_within, sender_at, NumbersHaveSenders}
use Rattle.port_body.specs.Body.{BodyView, BodyName, name_of}
use Rattle.port_body.specs.LanePort.{HasEnd}
use Rattle.port_sched.specs.declared.body.PortBody.{Ghosts}
use Rattle.port_body.specs.Openings.{IsNameOf}
use Rattle.driver_hosts.specs.declared.hosted.Hosted.{Hosted}
use Rattle.driver_hosts.specs.declared.room.PortRoom.{PortRoom}
use Rattle.driver_hosts.specs.Back.{AllCameBack, HasServed, HaveServed}
use Rattle.driver_hosts.specs.Hosts.{IsUnused, is_named}
use Rattle.driver_hosts.specs.Laws.{KeepNames}
use Rattle.driver_hosts.specs.Opening.{place_of}
use Rattle.driver_hosts.proofs.ComingBack.{served-come-back}
use Rattle.closed_lanes.specs.closed_ports.Closed.{HaveComeBack}
use Rattle.closed_lanes.specs.closed_ports.Senders.{IsOfAnEnd}
use Rattle.closed_lanes.specs.closed_ports.told_jobs.Told.{WorkersTell}
use Rattle.script_plan.specs.declared.decl.PortDecl.{PortDecl}
use Rattle.seated_script.specs.run_opening.run_end.Ran.{RanProcess, calls_made}
use Rattle.run_lanes.specs.declared.parts.PortLanes.{PortLanes}
use Rattle.seated_script.specs.run_opening.Opened.{room_of}
use Rattle.seated_script.specs.run_opening.declared.run_script.RunScript.{RunScript}
use Rattle.seated_script.specs.run_opening.Setting.{Setting, IsNamedIn, all_limits}
use Rattle.seated_script.specs.declared.seating.SeatedScript.{SeatedScript}
use Rattle.seated_script.specs.Seated.{IsSeatedScript}
use Rattle.closed_lanes.specs.declared.closing.ClosedPort.{ClosedPort}
use Rattle.closed_lanes.specs.Closed.{IsClosedPort}
use Rattle.seated_script.specs.run_opening.run_end.Shown.{Calls, HasCause, adds_of}
use Rattle.port_words.specs.busy.Queue.{bytes_of, period_of}
use Rattle.process_end.specs.Bounds.{queue_bound}
use Rattle.seated_script.specs.run_opening.run_seats.declared.plans.ProcessSteps.{ProcessSteps}
use Rattle.process_end.specs.Views.{LaneEnd, ProcView}
use Rattle.seated_script.specs.run_opening.run_end.process_job.Asks.{made_asks}
use Rattle.port_model.specs.declared.mail.Mail.{Mail}
use Rattle.seated_script.specs.run_opening.Setting.{IsSetting}
use Rattle.seated_script.specs.run_opening.Jobs.{HaveRunIn}
use Rattle.script_run.specs.declared.running.PortLeft.{PortLeft}
use Rattle.script_run.specs.declared.running.ProcessLeft.{ProcessLeft}
use Rattle.script_run.specs.declared.running.ScriptRan.{ScriptRan}
use Rattle.script_run.specs.Ran.{HasCounted, HasRun, IsAmong, IsFrom, PairHolds, PortHolds, PortServed, PortWordsHold, ProcessHolds, all_calls, calls_of, opening_of}
use Rattle.script_run.specs.Readiness.{ReadyRowsAreAnswered}
use Rattle.script_run.specs.Left.{AreProcessesLeft, IsGathered, IsLeft}
use Rattle.closed_lanes.specs.Joined.{rows_of, PortWordsHold as WordsOfPort}
use Rattle.port_body.specs.recorded_port.Asks.{resumed_words}
use Rattle.port_mail.specs.Ends.{MailEnd}
use Rattle.seated_script.specs.run_opening.run_end.process_job.Mails.{Came, own_mails, readable, AreReplied, HasReply}
use Rattle.seated_script.specs.run_opening.run_end.process_job.Waits.{WaitsAreShown}
use Rattle.process_receipts.specs.Asks.{Asked}
use Rattle.process_receipts.specs.declared.receipt.Receipt.{Receipt}
use Rattle.suspended_calls.specs.Listed.{ListedCallsAreInOrder, SuspendedCallsAreListed}
use Rattle.seated_script.specs.run_opening.run_end.process_job.declared.job.EndedProcess.{EndedProcess}
use Rattle.seated_script.specs.run_opening.run_end.Merge.{IsFromPort}
use Rattle.seated_script.specs.run_opening.run_end.Tell.{AllCallsTell}
use Rattle.seated_script.specs.run_opening.run_end.Waited.{AllWaitsAreShown}
use Rattle.seated_script.specs.run_opening.Opened.{soft_at}
use Rattle.run_lanes.specs.declared.size.LaneSize.{LaneSize}
use Rattle.run_lanes.specs.Keyed.{key_of}
use Rattle.port_body.specs.recorded_port.View.{stat_marks}
use Rattle.port_history.specs.State.{state}
use Rattle.port_words.specs.busy.Known.{PortKnown}
use Rattle.port_body.specs.Ends.{HaveRows, IsLeftByCalls}
use Rattle.seated_script.specs.run_opening.run_end.Shown.{WordsHold}
use Rattle.process_receipts.specs.Receipts.{AreReceipts, accepted}
use Rattle.port_history.specs.Mail.{mails}
use Rattle.port_body.specs.LanePort.{rows_from}
use Rattle.std.specs.Str.{bytes_eq}
use Rattle.std.specs.Option.{option_map_or}
use Rattle.seated_script.specs.run_opening.Opened.{limits_of}
use Rattle.closed_lanes.specs.served_port.View.{end_name}
use Rattle.script_run.specs.Parted.{port_left, ran_processes}
use Rattle.script_run.proofs.Parts.{some}

of-bytes : (xs ys : List ℕ) → bytes_eq xs ys ≡ true → xs ≡ ys
of-bytes xs ys is = (bytes_eq-Decides xs ys).0 is

-- an opening is what its parts are
same-opening : (o : Opening) (number processes : ℕ) (kind : Kind) (config : Config) (owner read write : ℕ) → o.number ≡ number → o.processes ≡ processes → o.kind ≡ kind → o.config ≡ config → o.owner ≡ owner → o.read ≡ read
    → o.write ≡ write → o ≡ record { number = number; processes = processes; kind = kind; config = config; owner = owner; read = read; write = write }
same-opening o number processes kind config owner read write a b c d e f g =
    ap (λ x. record { number = x; processes = o.processes; kind = o.kind; config = o.config; owner = o.owner; read = o.read; write = o.write }) a
    ∙ ap (λ x. record { number = number; processes = x; kind = o.kind; config = o.config; owner = o.owner; read = o.read; write = o.write }) b
    ∙ ap (λ x. record { number = number; processes = processes; kind = x; config = o.config; owner = o.owner; read = o.read; write = o.write }) c
    ∙ ap (λ x. record { number = number; processes = processes; kind = kind; config = x; owner = o.owner; read = o.read; write = o.write }) d
    ∙ ap (λ x. record { number = number; processes = processes; kind = kind; config = config; owner = x; read = o.read; write = o.write }) e
    ∙ ap (λ x. record { number = number; processes = processes; kind = kind; config = config; owner = owner; read = x; write = o.write }) f
    ∙ ap (λ x. record { number = number; processes = processes; kind = kind; config = config; owner = owner; read = read; write = x }) g

-- the opening of a closed port is that of its name
opened-as : (s : Setting) (number processes : ℕ) (kind : Kind) (faults : ℕ) (decl : PortDecl) (room : PortRoom) (workers : ℕ) (name : BodyName) (port : ClosedPort)
    → IsNameOf (place_of number decl room) kind faults decl.config workers room.outlets room.lane name → room.processes ≡ processes → IsClosedPort name port
    → name.opening ≡ opening_of number processes kind decl (port_left port)
opened-as s number processes kind faults decl room workers name port is same closed =
    same-opening name.opening number processes kind decl.config decl.owner port.events.0 port.events.1 is.number (is.opening_processes ∙ same) is.kind_is is.config_is is.owner (sym closed.read) (sym closed.write)

-- a sender with an end is one of the processes or workers of the key, or the poller
among : NumbersHaveSenders → (key : Key) (from : Sender) → HasEnd key from → IsAmong key.processes key.workers from
among senders key from has = go from has.is (senders key has.number (let w = has.within in omega (arith, w))).1 (senders key has.number (let w = has.within in omega (arith, w))).0
  where
    go : (f : Sender) → f ≡ sender_at key has.number → is_within key (sender_at key has.number) ≡ true → end_of key (sender_at key has.number) ≡ has.number → IsAmong key.processes key.workers f
    go (Process process) e within at = ltb-true process key.processes (subst (λ x. is_within key x ≡ true) (sym e) within)
    go Poller e within at = tt
    go (Worker worker) e within at = ltb-true worker key.workers (subst (λ x. is_within key x ≡ true) (sym e) within)
    go Timer e within at = let same = subst (λ x. end_of key x ≡ has.number) (sym e) at in let w = has.within in absurd (omega (arith, same, w))

from-end : NumbersHaveSenders → (key : Key) (row : Row) → IsOfAnEnd key row → IsFrom key.processes key.workers row
from-end senders key (Handled from seq task outside effects) has = among senders key from has
from-end senders key (Late from seq task) has = among senders key from has
from-end senders key (Listed from seq) has = tt
from-end senders key (Resumed from seq word) has = tt
from-end senders key (Mark kind) has = tt

-- the laws on which that of a run stands: whose number is whose, what the calls of a process tell, and which calls suspended it
pub record RunLaws : Type 0 where
  pub senders : NumbersHaveSenders
  pub tells : AllCallsTell
  pub waited : AllWaitsAreShown
  pub in_order : ListedCallsAreInOrder
  pub listed : SuspendedCallsAreListed

-- names that are the same by place
name-at : (xs ys : List BodyView) (k : ℕ) (v w : BodyView) → map name_of xs ≡ map name_of ys → k < length xs → name_of (get_or xs k v) ≡ name_of (get_or ys k w)
name-at xs ys k v w same below =
    let many : length xs ≡ length ys = sym (length-map xs name_of) ∙ ap length same ∙ length-map ys name_of in
    sym (get_or-map name_of xs k v (name_of v) below) ∙ ap (λ l. get_or l k (name_of v)) same ∙ get_or-map name_of ys k w (name_of v) (omega (arith, many, below))

module _ {D : Type 0} (kind : D → Kind) (stage : D → Life) (faults : D → ℕ) (own : D → Own) (program : D → Option ToldProgram) where
  keep-names : (bodies ended : List BodyView) (places : List ℕ) (mid new : List (Hosted D)) → map name_of ended ≡ map name_of bodies
      → (back : HaveComeBack kind stage faults own program ended places mid new) → KeepNames bodies back.last
  keep-names bodies ended places mid new same back =
      let many : length ended ≡ length bodies = sym (length-map ended name_of) ∙ ap length same ∙ length-map bodies name_of in
      record {
        count = back.many ∙ many;
        each = λ port v w below.
            let inside : port < length ended = omega (arith, many, below) in
            back.names port v w inside ∙ name-at ended bodies port v v same inside;
      }

module _ {D S : Type 0} {gh : Ghosts BodyView} (kind : D → Kind) (stage : D → Life) (faults : D → ℕ) (own : D → Own) (program : D → Option ToldProgram) where
  pub all-served : (script : RunScript) (poll : S) (old mid new : List (Hosted D)) (seated : SeatedScript BodyView S gh) (ended : List BodyView) → All (IsUnused stage) old
      → (is : IsSeatedScript kind faults script poll old mid seated) → map name_of ended ≡ map name_of is.bodies → HaveComeBack kind stage faults own program ended seated.places.items mid new
      → HaveServed kind stage faults seated.places.items old new × AllCameBack kind stage faults old new
  all-served script poll old mid new seated ended unused is same back =
      let ports = script.ports.items in
      let rooms = map (room_of is.setting.size) is.setting.lanes.ports.items in
      let lanes_many = is.is.is.lanes_are.counts.ports_many in
      let limits_many : length (all_limits is.setting.ports) ≡ length is.setting.ports = length-map is.setting.ports _ in
      let ports_many : length is.setting.ports ≡ length ports = ap length is.is.ports_are in
      let names_many = is.named.many in
      let bodies_many : length (map name_of is.bodies) ≡ length is.bodies = length-map is.bodies name_of in
      let rooms_many : length rooms ≡ length is.setting.lanes.ports.items = length-map is.setting.lanes.ports.items (room_of is.setting.size) in
      let places_many = is.found.len in
      served-come-back kind stage faults own program ports rooms seated.places.items old mid new is.bodies back.last unused is.found.within
      (omega (arith, places_many, ports_many, names_many, bodies_many)) (omega (arith, ports_many, names_many, bodies_many))
      (omega (arith, rooms_many, lanes_many, limits_many, names_many, bodies_many))
      (keep-names kind stage faults own program is.bodies ended seated.places.items mid new same back) is.opened back.returned

-- the calls of a process that ran, as its steps and what it left tell them
same-calls : (ports : ℕ) (p : ProcessSteps) (left : ProcessLeft) (ran : RanProcess) → ran.steps ≡ p.steps.items → ran.files ≡ p.files.items → length ran.old.lanes ≡ ports → left.receipts ≡ ran.end.receipts
    → calls_of ports p left ≡ calls_made ran
same-calls ports p left ran steps files lanes receipts =
    ap (λ n. calls_of n p left) (sym lanes)
    ∙ ap (λ l. record { asks = reverse (made_asks (length ran.old.lanes) l p.files.items left.receipts); receipts = reverse left.receipts }) (sym steps)
    ∙ ap (λ l. record { asks = reverse (made_asks (length ran.old.lanes) ran.steps l left.receipts); receipts = reverse left.receipts }) (sym files)
    ∙ ap (λ l. record { asks = reverse (made_asks (length ran.old.lanes) ran.steps ran.files l); receipts = reverse l }) receipts

-- each process of a run by place: its lanes are as many as the ports
lanes-many : (s : Setting) (ran : List RanProcess) (n : ℕ) (r : RanProcess) → IsSetting s → HaveRunIn s ran → n < length ran → length (get_or ran n r).old.lanes ≡ length s.ports
lanes-many s ran n r is have below =
    let many = have.many in
    let inside : n < s.size.processes = omega (arith, many, below) in
    let d = some s.lanes.processes.items n (let counts = is.lanes_are.counts.processes_many in omega (arith, counts, inside)) in
    let p = some s.process_steps n (let counts = is.process_steps_many in omega (arith, counts, inside)) in
    let set = have.each n d p r inside in
    let own = is.lanes_are.processes n d inside in
    ap (λ (v : ProcView). length v.lanes) set.old ∙ own.lanes.many ∙ is.lanes_are.counts.ports_many ∙ length-map s.ports _

-- the calls of all processes
all-calls : (s : Setting) (ran : List RanProcess) (mails : List (List Mail)) (left : ScriptRan) → IsSetting s → HaveRunIn s ran → AreProcessesLeft ran mails left → length mails ≡ length ran
    → all_calls (length s.ports) s.process_steps left.processes.items ≡ map calls_made ran
all-calls s ran mails left is have are many =
    let count = are.many in
    let process_steps = is.process_steps_many in
    let all = have.many in
    let same : length left.processes.items ≡ length s.process_steps = omega (arith, count, process_steps, all) in
    let none : Calls = record { asks = []; receipts = [] } in
    let long = many-calls (length s.ports) s.process_steps left.processes.items same in
    let mapped : length (map calls_made ran) ≡ length ran = length-map ran calls_made in
    ext_get_or none _ _ (omega (arith, long, mapped, count)) (λ k below.
    let inside : k < length ran = omega (arith, long, count, below) in
    let here : k < s.size.processes = omega (arith, inside, all) in
    let d = some s.lanes.processes.items k (let counts = is.lanes_are.counts.processes_many in omega (arith, counts, here)) in
    let p = some s.process_steps k (omega (arith, process_steps, here)) in
    let l = some left.processes.items k (omega (arith, count, inside)) in
    let r = some ran k inside in
    let set = have.each k d p r here in
    at-calls (length s.ports) s.process_steps left.processes.items k none p l same (omega (arith, count, inside))
    ∙ same-calls (length s.ports) (get_or s.process_steps k p) (get_or left.processes.items k l) (get_or ran k r) set.steps set.files (lanes-many s ran k r is have inside) (are.receipts_are k l r inside)
    ∙ sym (get_or-map calls_made ran k r none inside))
  where
    many-calls : (ports : ℕ) (process_steps : List ProcessSteps) (lefts : List ProcessLeft) → length lefts ≡ length process_steps → length (all_calls ports process_steps lefts) ≡ length lefts
    many-calls ports [] [] same = refl
    many-calls ports [] (l ∷ lefts) same = absurd (omega (arith, same))
    many-calls ports (p ∷ process_steps) [] same = absurd (omega (arith, same))
    many-calls ports (p ∷ process_steps) (l ∷ lefts) same = let less : length lefts ≡ length process_steps = omega (arith, same) in ap suc (many-calls ports process_steps lefts less)

    at-calls : (ports : ℕ) (process_steps : List ProcessSteps) (lefts : List ProcessLeft) (k : ℕ) (c : Calls) (p : ProcessSteps) (l : ProcessLeft) → length lefts ≡ length process_steps → k < length lefts
        → get_or (all_calls ports process_steps lefts) k c ≡ calls_of ports (get_or process_steps k p) (get_or lefts k l)
    at-calls ports [] [] k c p l same within = absurd (omega (arith, within))
    at-calls ports [] (y ∷ lefts) k c p l same within = absurd (omega (arith, same))
    at-calls ports (x ∷ process_steps) [] k c p l same within = absurd (omega (arith, same))
    at-calls ports (x ∷ process_steps) (y ∷ lefts) zero c p l same within = refl
    at-calls ports (x ∷ process_steps) (y ∷ lefts) (suc k) c p l same within = at-calls ports process_steps lefts k c p l (omega (arith, same)) (omega (arith, within))

-- the mail of each process, each with its source, where there are so many processes
abbrev came-of : (s : Setting) (ran : List RanProcess) (closed : List ClosedPort) (left : ScriptRan) → IsGathered s ran closed left → (n : ℕ) → (n < length ran) ⊎ (length ran ≤ n) → List Came
came-of s ran closed left g n (inl below) = (g.joined.merges n (some ran n below) [] below).merge.came
came-of s ran closed left g n (inr beyond) = []

-- what holds of the mail of each process holds of this one
came-holds : (s : Setting) (ran : List RanProcess) (closed : List ClosedPort) (left : ScriptRan) (g : IsGathered s ran closed left) (P : List Came → Type 0) (n : ℕ) → n < length ran
    → ((below : n < length ran) → P (g.joined.merges n (some ran n below) [] below).merge.came) → P (came-of s ran closed left g n (cases_lt n (length ran)))
came-holds s ran closed left g P n below all = go (cases_lt n (length ran))
  where
    go : (which : (n < length ran) ⊎ (length ran ≤ n)) → P (came-of s ran closed left g n which)
    go (inl less) = all less
    go (inr beyond) = absurd (omega (arith, below, beyond))

-- the end of process n's mailbox that port k has, among those of all ports
column-end : (s : Setting) (names : List BodyName) (ran : List RanProcess) (closed : List ClosedPort) (left : ScriptRan) (g : IsGathered s ran closed left) (k n : ℕ) (c : ClosedPort) (d e : MailEnd) (below : n < length ran)
    → k < length closed → get_or (g.joined.merges n (some ran n below) [] below).ends k d ≡ get_or (get_or closed k c).mailboxes n e
column-end s names ran closed left g k n c d e below inside =
    let at = g.joined.merges n (some ran n below) [] below in
    let rows = rows_of g.parts.peers in
    let rows_many : length rows ≡ length closed = ap length g.are_parts.ends_are ∙ length-map closed (λ (x : ClosedPort). x.mailboxes) in
    at.column.at k (get_or closed k c).mailboxes d e (omega (arith, rows_many, inside))
    ∙ ap (λ (row : List MailEnd). get_or row n e) (ap (λ (all : List (List MailEnd)). get_or all k (get_or closed k c).mailboxes) g.are_parts.ends_are ∙ get_or-map (λ (x : ClosedPort). x.mailboxes) closed k c (get_or closed k c).mailboxes inside)

-- a closed port has an end of each mailbox
mailboxes-many : (s : Setting) (k : ℕ) (p : PortDecl) (d : PortLanes) (name : BodyName) (port : ClosedPort) → IsSetting s → IsNamedIn s k p (get_or s.lanes.ports.items k d) name → IsClosedPort name port → k < length s.ports
    → length port.mailboxes ≡ s.size.processes
mailboxes-many s k p d name port is named closed below =
    let limits = length-map s.ports (λ (x : PortDecl). limits_of x.config) in
    let own = is.lanes_are.ports k (limits_of p.config) d (omega (arith, limits, below)) in
    sym (length-map port.mailboxes end_name) ∙ ap length (closed.mailboxes_are ∙ named.opened.mailboxes) ∙ length-map (get_or s.lanes.ports.items k d).mailboxes end_name ∙ own.mailboxes_many

-- the calls of a process that ran, as the script and what it left tell them
process-calls : (script : RunScript) (s : Setting) (ran : List RanProcess) (left : ScriptRan) → IsSetting s → HaveRunIn s ran → s.ports ≡ script.ports.items → s.process_steps ≡ script.process_steps.items
    → (m : ℕ) (q : ProcessSteps) (l : ProcessLeft) (r : RanProcess) → m < length ran → (get_or left.processes.items m l).receipts ≡ (get_or ran m r).end.receipts
    → calls_of (length script.ports.items) (get_or script.process_steps.items m q) (get_or left.processes.items m l) ≡ calls_made (get_or ran m r)
process-calls script s ran left is have ports process_steps m q l r below receipts =
    let many = have.many in
    let counts = is.lanes_are.counts.processes_many in
    let inside : m < s.size.processes = omega (arith, many, below) in
    let set = have.each m (some s.lanes.processes.items m (omega (arith, counts, inside))) q r inside in
    same-calls (length script.ports.items) (get_or script.process_steps.items m q) (get_or left.processes.items m l) (get_or ran m r)
    (set.steps ∙ ap (λ (x : List ProcessSteps). (get_or x m q).steps.items) process_steps) (set.files ∙ ap (λ (x : List ProcessSteps). (get_or x m q).files.items) process_steps)
    (lanes-many s ran m r is have below ∙ ap length ports) receipts

-- an answer that came stays among the mail
replied-later : (asks : List Asked) (receipts : List Receipt) (mails more : List Mail) → AreReplied asks receipts mails → AreReplied asks receipts (mails ++ more)
replied-later [] receipts mails more are = tt
replied-later (ask ∷ asks) [] mails more are = tt
replied-later (ask ∷ asks) (receipt ∷ receipts) mails more are = (λ put. later receipt.seq (are.0 put), replied-later asks receipts mails more are.1)
  where
    later : (seq : Option ℕ) → HasReply ask.port seq mails → HasReply ask.port seq (mails ++ more)
    later None has = has
    later (Some seq) has = (has.0, Contains-append_left mails more _ has.1)

-- receipts that are given back oldest first, newest first again
receipts-newest : {kept told : List Receipt} → told ≡ reverse kept → kept ≡ reverse told
receipts-newest {kept} {told} is = sym (reverse-reverse kept) ∙ ap reverse (sym is)

-- what is said of a process
process-holds : AllCallsTell → AllWaitsAreShown → (script : RunScript) (s : Setting) (ran : List RanProcess) (closed : List ClosedPort) (left : ScriptRan) (g : IsGathered s ran closed left) → IsSetting s → HaveRunIn s ran → length closed ≡ length s.ports
    → s.ports ≡ script.ports.items → s.process_steps ≡ script.process_steps.items → (soft : List Bool) → s.soft ≡ soft → (n : ℕ) (q : ProcessSteps) (l : ProcessLeft) (below : n < length ran)
    → ProcessHolds (length script.ports.items) soft (get_or script.process_steps.items n q) (calls_of (length script.ports.items) (get_or script.process_steps.items n q) (get_or left.processes.items n l)) (get_or left.processes.items n l)
    (g.joined.merges n (some ran n below) [] below).merge.came
process-holds tell waits script s ran closed left g is have closed_many ports process_steps soft softs n q l below =
    let r = some ran n below in
    let calls = process-calls script s ran left is have ports process_steps n q l r below (g.processes.receipts_are n l r below) in
    let told = tell (get_or ran n r) (have.ran n r below) in
    let many = have.many in
    let counts = is.lanes_are.counts.processes_many in
    let inside : n < s.size.processes = omega (arith, many, below) in
    let set = have.each n (some s.lanes.processes.items n (omega (arith, counts, inside))) q r inside in
    let at = g.joined.merges n r [] below in
    let grown = g.joined.grown n r [] below in
    let whole = (have.ran n r below).ran in
    let ports_many : length s.ports ≡ length script.ports.items = ap length ports in
    let ends_many : length at.ends ≡ length closed = at.column.many ∙ ap length g.are_parts.ends_are ∙ length-map closed (λ (x : ClosedPort). x.mailboxes) in
    let all : length at.ends ≡ length script.ports.items = omega (arith, ends_many, closed_many, ports_many) in
    record {
      receipts = subst (λ (x : Calls). AreReceipts soft x.asks x.receipts) (sym calls)
          (subst (λ (b : List Bool). AreReceipts b (calls_made (get_or ran n r)).asks (calls_made (get_or ran n r)).receipts) (ap (λ (v : ProcView). v.soft) set.old ∙ softs) told.receipts);
      mails_are = g.processes.mails_are n l [] below ∙ at.merge.mails_are;
      own = at.merge.own_is ∙ ap (λ (x : Calls). own_mails x.asks x.receipts) (sym calls);
      replied = subst (λ (x : Calls). AreReplied x.asks x.receipts (get_or left.processes.items n l).mails.items) (sym calls)
          (subst (λ m. AreReplied (calls_made (get_or ran n r)).asks (calls_made (get_or ran n r)).receipts m) (sym (g.processes.mails_are n l [] below ∙ grown.1))
          (replied-later (calls_made (get_or ran n r)).asks (calls_made (get_or ran n r)).receipts (get_or ran n r).mails grown.0
          (subst (λ asks. AreReplied (reverse asks) (reverse (get_or ran n r).end.receipts) (get_or ran n r).mails) whole.asks_are
          (subst (λ receipts. AreReplied (reverse whole.asks) receipts (get_or ran n r).mails) (receipts-newest whole.receipts_are) whole.replied))));
      waited = subst (λ steps. WaitsAreShown (get_or left.processes.items n l).mails.items (get_or left.processes.items n l).receipts steps (get_or script.process_steps.items n q).files.items)
          (set.steps ∙ ap (λ (x : List ProcessSteps). (get_or x n q).steps.items) process_steps)
          (subst (λ files. WaitsAreShown (get_or left.processes.items n l).mails.items (get_or left.processes.items n l).receipts (get_or ran n r).steps files)
          (set.files ∙ ap (λ (x : List ProcessSteps). (get_or x n q).files.items) process_steps)
          (subst (λ receipts. WaitsAreShown (get_or left.processes.items n l).mails.items receipts (get_or ran n r).steps (get_or ran n r).files) (sym (g.processes.receipts_are n l r below))
          (subst (λ m. WaitsAreShown m (get_or ran n r).end.receipts (get_or ran n r).steps (get_or ran n r).files) (sym (g.processes.mails_are n l [] below ∙ grown.1))
          (waits (get_or ran n r) grown.0 (have.ran n r below)))));
      among = subst (λ m. All (λ (c : Came). IsFromPort m c.from) at.merge.came) all at.merge.among;
    }

-- what holds of all words that a port found holds of those with which it resumed
all-within : (P : ℕ → Type 0) (words some-words : List ℕ) → All P words → All (λ w. Contains words w) some-words → All P some-words
all-within P words some-words all within k d below = All-contains P words (get_or some-words k d) all (within k d below)

-- the words of a closed port
words-hold : (k processes : ℕ) (of : Kind) (decl : PortDecl) (name : BodyName) (port : ClosedPort) (all : List Calls) → IsClosedPort name port → name.opening ≡ opening_of k processes of decl (port_left port)
    → WordsOfPort k (limits_of decl.config) port.seat all → PortWordsHold k processes of decl (port_left port) all
words-hold k processes of decl name port all closed same words = record {
  shown = subst (λ (o : Opening). All (WordsHold k (limits_of decl.config) (stat_marks (state o (reverse port.journal.rows)).marks) all) all) same
      (subst (λ marks. All (WordsHold k (limits_of decl.config) marks all) all) closed.marks words.shown);
  resumed = record {
    bounded = λ on. all-within (λ w. bytes_of w ≤ queue_bound (limits_of decl.config).high (adds_of k all)) port.seat.known.words (resumed_words (reverse port.journal.rows)) (words.own.bounded on) closed.resumed;
    caused = λ on. all-within (HasCause (limits_of decl.config).high (adds_of k all)) port.seat.known.words (resumed_words (reverse port.journal.rows)) (words.own.caused on) closed.resumed;
    free = λ off. all-within (λ w. period_of w ≡ 0) port.seat.known.words (resumed_words (reverse port.journal.rows)) (words.own.free off) closed.resumed;
  };
}

-- what is said of a process and a closed port
pair-holds : ListedCallsAreInOrder → SuspendedCallsAreListed → (s : Setting) (names : List BodyName) (ran : List RanProcess) (closed : List ClosedPort) (left : ScriptRan) (g : IsGathered s ran closed left) (k n : ℕ) (c : ClosedPort) (of : Kind) (decl : PortDecl) (name : BodyName)
    (calls : Calls) (below : n < length ran) → IsClosedPort name (get_or closed k c) → name.opening ≡ opening_of k s.size.processes of decl (port_left (get_or closed k c)) → k < length closed → n < length (get_or closed k c).mailboxes
    → rows_from (Process n) (reverse (get_or closed k c).journal.rows) ≡ accepted k (calls_made (get_or ran n (some ran n below))).asks (calls_made (get_or ran n (some ran n below))).receipts
    → calls ≡ calls_made (get_or ran n (some ran n below)) → (soft : List Bool) → AreReceipts soft (calls_made (get_or ran n (some ran n below))).asks (calls_made (get_or ran n (some ran n below))).receipts
    → PairHolds k n s.size.processes of decl (port_left (get_or closed k c)) calls (g.joined.merges n (some ran n below) [] below).merge.came
pair-holds in_order listed s names ran closed left g k n c of decl name calls below port same inside fits tasks made soft told =
    let at = g.joined.merges n (some ran n below) [] below in
    let e = some (get_or closed k c).mailboxes n fits in
    let ends_many : length at.ends ≡ length closed = at.column.many ∙ ap length g.are_parts.ends_are ∙ length-map closed (λ (x : ClosedPort). x.mailboxes) in
    let given = tasks ∙ ap (λ (x : Calls). accepted k x.asks x.receipts) (sym made) in
    let order = in_order name.opening n (reverse (get_or closed k c).journal.rows) port.listed in
    let same-calls = listed name.opening k n (reverse (get_or closed k c).journal.rows) soft calls.asks calls.receipts
    (record { lawful = port.lawful; are_receipts = subst (λ (x : Calls). AreReceipts soft x.asks x.receipts) (sym made) told; tasks = given }) port.finished order in
    record {
      tasks = given;
      listed = same-calls.0;
      resumed = same-calls.1;
      rising = order.rising;
      mail = at.merge.ports k e (omega (arith, ends_many, inside))
          ∙ ap (λ (x : MailEnd). readable x.sent) (column-end s names ran closed left g k n c e e below inside)
          ∙ ap readable (port.mail n e fits)
          ∙ ap (λ (o : Opening). readable (mails o n (reverse (get_or closed k c).journal.rows))) same;
    }

module _ {D : Type 0} (kind : D → Kind) (stage : D → Life) (faults : D → ℕ) (own : D → Own) (program : D → Option ToldProgram) where
  -- the driver of a host that served a port
  driver-back : (number : ℕ) (old new : Hosted D) (driver : D) → HasServed kind stage faults number old new → new.driver ≡ Some driver → new ≡ record { port = Some number; driver = Some driver }
  driver-back number old new driver served is = served.back.returned ∙ ap (λ (d : Option D). record { port = Some number; driver = d }) (sym (ap (λ (h : Hosted D). h.driver) served.back.returned) ∙ is)

  port-holds : NumbersHaveSenders → (s : Setting) (k : ℕ) (driver before : D) (decl : PortDecl) (name : BodyName) (port : ClosedPort) (old : Hosted D) → IsClosedPort name port
      → name.opening ≡ opening_of k s.size.processes (kind driver) decl (port_left port) → kind driver ≡ kind before → is_named kind decl.driver old ≡ true → old.driver ≡ Some before
      → refusal_of (kind before) decl.config ≡ None → name.key.processes ≡ s.size.processes → name.key.workers ≡ s.size.workers
      → PortHolds k s.size.processes s.size.workers (kind driver) decl (port_left port)
  port-holds senders s k driver before decl name port old closed same kinds named is starts processes workers = record {
    named = ap kind_name kinds ∙ of-bytes (kind_name (kind before)) decl.driver (sym (ap (λ d. option_map_or (λ x. bytes_eq (kind_name (kind x)) decl.driver) d false) is) ∙ named);
    config_is = closed.config_is ∙ ap (λ (o : Opening). o.config) same;
    starts = ap (λ x. refusal_of x decl.config) kinds ∙ starts;
    lawful = subst (λ o. Lawful o (reverse port.journal.rows)) same closed.lawful;
    finished = subst (λ o. IsFinished o (reverse port.journal.rows)) same closed.finished;
    senders = λ n d below. subst (λ p. IsFrom p s.size.workers (get_or port.journal.rows n d)) processes (subst (λ w. IsFrom name.key.processes w (get_or port.journal.rows n d)) workers
        (from-end senders name.key (get_or port.journal.rows n d) (closed.senders n d below)));
    worked = subst (λ o. WorkersTell s.size.workers o (reverse port.journal.rows)) same (subst (λ w. WorkersTell w name.opening (reverse port.journal.rows)) workers closed.workers);
    listed = subst (λ o. HaveRows (state o (reverse port.journal.rows))) same closed.listed.have_rows;
  }

module _ {D S : Type 0} {gh : Ghosts BodyView} (kind : D → Kind) (stage : D → Life) (faults : D → ℕ) (own : D → Own) (program : D → Option ToldProgram) where
  -- the port of this number, by what its parts left
  port-served : RunLaws → (script : RunScript) (poll : S) (old mid new : List (Hosted D)) (seated : SeatedScript BodyView S gh) (ended : List BodyView) (ran : List RanProcess) (left : ScriptRan)
      → (is : IsSeatedScript kind faults script poll old mid seated) → map name_of ended ≡ map name_of is.bodies → HaveServed kind stage faults seated.places.items old new
      → (poller : List LaneEnd) (whole : IsLeft kind faults own program is.setting ran poller (map name_of ended) seated.places.items new left) → (k : ℕ) (decl : PortDecl) (p : PortLeft) (h : Hosted D) → k < length script.ports.items
      → PortServed kind own program script left (λ n. came-of is.setting ran whole.closed left whole.gathered n (cases_lt n (length ran))) k (get_or script.ports.items k decl) (get_or left.ports.items k p)
      (get_or new (slice_index seated.places.items k) h)
  port-served laws script poll old mid new seated ended ran left is same served poller whole k decl p h below =
      let s = is.setting in
      let closed = whole.are_closed in
      let g = whole.gathered in
      let names = map name_of ended in
      let place = slice_index seated.places.items k in
      let ports_many : length s.ports ≡ length script.ports.items = ap length is.is.ports_are in
      let inside : k < length s.ports = omega (arith, ports_many, below) in
      let closed_many = closed.many in
      let here : k < length whole.closed = omega (arith, closed_many, inside) in
      let names_many = is.named.many in
      let bodies_many : length (map name_of is.bodies) ≡ length is.bodies = length-map is.bodies name_of in
      let body : k < length is.bodies = omega (arith, names_many, bodies_many, inside) in
      let v = some is.bodies k body in
      let n = name_of v in
      let c = some whole.closed k here in
      let lanes_many = is.is.is.lanes_are.counts.ports_many in
      let limits_many : length (all_limits s.ports) ≡ length s.ports = length-map s.ports (λ (x : PortDecl). limits_of x.config) in
      let lane : k < length s.lanes.ports.items = omega (arith, lanes_many, limits_many, inside) in
      let d = some s.lanes.ports.items k lane in
      let name = get_or names k n in
      let port = get_or whole.closed k c in
      let shut = closed.closed k n c inside in
      let stopped = closed.stopped k n c h inside in
      let room = room_of s.size (get_or s.lanes.ports.items k d) in
      let it = get_or script.ports.items k decl in
      let opened = is.opened.opened k decl room h v body in
      let room-is : get_or (map (room_of s.size) s.lanes.ports.items) k room ≡ room = get_or-map (room_of s.size) s.lanes.ports.items k d room lane in
      let name-is : name_of (get_or is.bodies k v) ≡ name = sym (get_or-map name_of is.bodies k v n body) ∙ ap (λ (l : List BodyName). get_or l k n) (sym same) in
      let before = opened.driver in
      let first : IsNameOf (place_of k it room) (kind before) (faults before) it.config room.workers room.outlets room.lane (name_of (get_or is.bodies k v)) =
      subst (λ (r : PortRoom). IsNameOf (place_of k it r) (kind before) (faults before) it.config r.workers r.outlets r.lane (name_of (get_or is.bodies k v))) room-is opened.opened.name in
      let called : IsNameOf (place_of k it room) (kind before) (faults before) it.config room.workers room.outlets room.lane name =
      subst (IsNameOf (place_of k it room) (kind before) (faults before) it.config room.workers room.outlets room.lane) name-is first in
      let kinds : kind stopped.driver ≡ kind before = stopped.kind_is ∙ called.kind_is in
      let as-opened : name.opening ≡ opening_of k s.size.processes (kind stopped.driver) it (port_left port) =
      opened-as s k s.size.processes (kind before) (faults before) it room room.workers name port called refl shut ∙ ap (λ x. opening_of k s.size.processes x it (port_left port)) (sym kinds) in
      let own-lane = is.is.is.lanes_are.ports k (limits_of it.config) d (omega (arith, limits_many, inside)) in
      let keyed : name.key ≡ key_of s.size (get_or s.lanes.ports.items k d).seat = called.key ∙ own-lane.lane.key_is in
      let sized : s.size.processes ≡ length script.process_steps.items = ap (λ (z : LaneSize). z.processes) is.is.size_is in
      let worked : s.size.workers ≡ script.workers = ap (λ (z : LaneSize). z.workers) is.is.size_is in
      let left_many : length left.ports.items ≡ length whole.closed = ap length (g.ports_are ∙ g.are_parts.left) ∙ length-map whole.closed port_left in
      let left-is : get_or left.ports.items k p ≡ port_left port = ap (λ (l : List PortLeft). get_or l k p) (g.ports_are ∙ g.are_parts.left) ∙ get_or-map port_left whole.closed k c p here in
      let calls = all_calls (length script.ports.items) script.process_steps.items left.processes.items in
      let calls-are : map calls_made ran ≡ calls = sym (all-calls s ran g.mails left is.is.is whole.have_run g.processes g.joined.many)
      ∙ ap (λ m. all_calls m s.process_steps left.processes.items) ports_many ∙ ap (λ l. all_calls (length script.ports.items) l left.processes.items) is.is.process_steps_are in
      let seat-is : get_or g.parts.peers.seats.items k port.seat ≡ port.seat = ap (λ (l : List PortKnown). get_or l k port.seat) g.are_parts.seats_are ∙ get_or-map (λ (x : ClosedPort). x.seat) whole.closed k c port.seat here in
      let decl-is : get_or s.ports k decl ≡ it = ap (λ (l : List PortDecl). get_or l k decl) is.is.ports_are in
      let named = is.found.named k decl h (let m = is.found.len in omega (arith, m, below)) in
      let ran_many = whole.have_run.many in
      subst (λ (x : PortLeft). PortServed kind own program script left (λ m. came-of s ran whole.closed left g m (cases_lt m (length ran))) k it x (get_or new place h)) (sym left-is)
      (record {
        driver = stopped.driver;
        back = driver-back kind stage faults own program k (get_or old place h) (get_or new place h) stopped.driver (served.served k h (let m = is.found.len in omega (arith, m, below))) stopped.back;
        holds = subst (λ m. PortHolds k m script.workers (kind stopped.driver) it (port_left port)) sized (subst (λ w. PortHolds k s.size.processes w (kind stopped.driver) it (port_left port)) worked
            (port-holds kind stage faults own program laws.senders s k stopped.driver before it name port (get_or old place h) shut as-opened kinds named opened.handed opened.starts (ap (λ (x : Key). x.processes) keyed) (ap (λ (x : Key). x.workers) keyed)));
        stands = subst (λ m. IsLeftByCalls (opening_of k m (kind stopped.driver) it (port_left port)) (reverse port.journal.rows) (own stopped.driver) (program stopped.driver)) sized
            (subst (λ o. IsLeftByCalls o (reverse port.journal.rows) (own stopped.driver) (program stopped.driver)) as-opened stopped.stands);
        told = stopped.told;
        pairs = λ m q l less.
            let within : m < length ran = omega (arith, ran_many, sized, less) in
            subst (λ x. PairHolds k m x (kind stopped.driver) it (port_left port) (calls_of (length script.ports.items) (get_or script.process_steps.items m q) (get_or left.processes.items m l))
            (came-of s ran whole.closed left g m (cases_lt m (length ran)))) sized
            (came-holds s ran whole.closed left g
            (λ came. PairHolds k m s.size.processes (kind stopped.driver) it (port_left port) (calls_of (length script.ports.items) (get_or script.process_steps.items m q) (get_or left.processes.items m l)) came) m within
            (λ low.
            let r = some ran m low in
            pair-holds laws.in_order laws.listed s names ran whole.closed left g k m c (kind stopped.driver) it name (calls_of (length script.ports.items) (get_or script.process_steps.items m q) (get_or left.processes.items m l)) low shut as-opened here
            (let boxes = mailboxes-many s k it d name port is.is.is (record { kind = kind before; faults = faults before; opened = called }) shut inside in omega (arith, boxes, ran_many, low))
            (closed.signals k m c r inside low)
            (process-calls script s ran left is.is.is whole.have_run is.is.ports_are is.is.process_steps_are m q l r low (g.processes.receipts_are m l r low))
            (get_or ran m r).old.soft (laws.tells (get_or ran m r) (whole.have_run.ran m r low)).receipts));
        words = subst (λ m. PortWordsHold k m (kind stopped.driver) it (port_left port) calls) sized
            (subst (λ (x : List Calls). PortWordsHold k s.size.processes (kind stopped.driver) it (port_left port) x) calls-are
            (words-hold k s.size.processes (kind stopped.driver) it name port (map calls_made ran) shut as-opened
            (subst (λ (x : PortKnown). WordsOfPort k (limits_of it.config) x (map calls_made ran)) seat-is
            (subst (λ (z : PortDecl). WordsOfPort k (limits_of z.config) (get_or g.parts.peers.seats.items k port.seat) (map calls_made ran)) decl-is (g.joined.words k decl port.seat inside)))));
      })

  -- what the driver of this port counted
  port-counted : (script : RunScript) (poll : S) (old mid new : List (Hosted D)) (seated : SeatedScript BodyView S gh) (ended : List BodyView) (ran : List RanProcess) (left : ScriptRan)
      → (is : IsSeatedScript kind faults script poll old mid seated) → map name_of ended ≡ map name_of is.bodies
      → (poller : List LaneEnd) → IsLeft kind faults own program is.setting ran poller (map name_of ended) seated.places.items new left → (k : ℕ) (p : PortLeft) (h : Hosted D) → k < length script.ports.items
      → HasCounted faults (get_or left.ports.items k p) (get_or old (slice_index seated.places.items k) h) (get_or new (slice_index seated.places.items k) h)
  port-counted script poll old mid new seated ended ran left is same poller whole k p h below =
      let s = is.setting in
      let closed = whole.are_closed in
      let g = whole.gathered in
      let place = slice_index seated.places.items k in
      let ports_many : length s.ports ≡ length script.ports.items = ap length is.is.ports_are in
      let inside : k < length s.ports = omega (arith, ports_many, below) in
      let closed_many = closed.many in
      let here : k < length whole.closed = omega (arith, closed_many, inside) in
      let names_many = is.named.many in
      let bodies_many : length (map name_of is.bodies) ≡ length is.bodies = length-map is.bodies name_of in
      let body : k < length is.bodies = omega (arith, names_many, bodies_many, inside) in
      let v = some is.bodies k body in
      let n = name_of v in
      let c = some whole.closed k here in
      let lanes_many = is.is.is.lanes_are.counts.ports_many in
      let limits_many : length (all_limits s.ports) ≡ length s.ports = length-map s.ports (λ (x : PortDecl). limits_of x.config) in
      let lane : k < length s.lanes.ports.items = omega (arith, lanes_many, limits_many, inside) in
      let d = some s.lanes.ports.items k lane in
      let decl = some script.ports.items k below in
      let port = get_or whole.closed k c in
      let stopped = closed.stopped k n c h inside in
      let opened = is.opened.opened k decl (room_of s.size d) h v body in
      let name-is : name_of (get_or is.bodies k v) ≡ get_or (map name_of ended) k n = sym (get_or-map name_of is.bodies k v n body) ∙ ap (λ (l : List BodyName). get_or l k n) (sym same) in
      let first : (get_or (map name_of ended) k n).faults ≡ faults opened.driver = ap (λ (x : BodyName). x.faults) (sym name-is) ∙ opened.opened.name.faults_are in
      let left-is : get_or left.ports.items k p ≡ port_left port = ap (λ (l : List PortLeft). get_or l k p) (g.ports_are ∙ g.are_parts.left) ∙ get_or-map port_left whole.closed k c p here in
      subst (λ (x : PortLeft). HasCounted faults x (get_or old place h) (get_or new place h)) (sym left-is) (record {
        before = opened.driver;
        after = stopped.driver;
        handed = opened.handed;
        back = stopped.back;
        failed = subst (λ count. RisenBy (failures_in port.journal.rows) count (faults stopped.driver)) first stopped.failed;
      })

  pub has-run : RunLaws → (script : RunScript) (poll : S) (old mid new : List (Hosted D)) (seated : SeatedScript BodyView S gh) (ended : List BodyView) (jobs : List EndedProcess) (left : ScriptRan) → All (IsUnused stage) old
      → (is : IsSeatedScript kind faults script poll old mid seated) → map name_of ended ≡ map name_of is.bodies → HaveComeBack kind stage faults own program ended seated.places.items mid new
      → (poller : List LaneEnd) → IsLeft kind faults own program is.setting (ran_processes is.plans jobs) poller (map name_of ended) seated.places.items new left
      → (before : List ℕ) (after : Option (List ℕ)) → ReadyRowsAreAnswered before after left → HasRun kind stage faults own program script old new before after left
  has-run laws script poll old mid new seated ended jobs left unused is same back poller whole before after ready =
      let s = is.setting in
      let ran = ran_processes is.plans jobs in
      let g = whole.gathered in
      let served = (all-served kind stage faults own program script poll old mid new seated ended unused is same back).0 in
      let closed_many = whole.are_closed.many in
      let ports_many : length s.ports ≡ length script.ports.items = ap length is.is.ports_are in
      let sized : s.size.processes ≡ length script.process_steps.items = ap (λ (z : LaneSize). z.processes) is.is.size_is in
      let ran_many = whole.have_run.many in
      let left_many : length left.ports.items ≡ length whole.closed = ap length (g.ports_are ∙ g.are_parts.left) ∙ length-map whole.closed port_left in
      let processes_many = g.processes.many in
      record {
        places = seated.places.items;
        found = is.found;
        served = served;
        ports_many = omega (arith, left_many, closed_many, ports_many);
        processes_many = omega (arith, processes_many, ran_many, sized);
        came = λ n. came-of s ran whole.closed left g n (cases_lt n (length ran));
        counted = port-counted script poll old mid new seated ended ran left is same poller whole;
        ports = port-served laws script poll old mid new seated ended ran left is same served poller whole;
        processes = λ n p l below.
            let within : n < length ran = omega (arith, ran_many, sized, below) in
            came-holds s ran whole.closed left g
            (λ came. ProcessHolds (length script.ports.items) (soft_at kind old seated.places.items) (get_or script.process_steps.items n p) (calls_of (length script.ports.items) (get_or script.process_steps.items n p) (get_or left.processes.items n l)) (get_or left.processes.items n l) came)
            n within
            (λ low. process-holds laws.tells laws.waited script s ran whole.closed left g is.is.is whole.have_run closed_many is.is.ports_are is.is.process_steps_are (soft_at kind old seated.places.items) is.is.soft_are n p l low);
        ready = ready;
      }

-- The rows of closed ports are what the processes sent.
use Rattle.std.proofs.Common.{◌≡◌, ◌<◌, ℕ, List, [], ◌∷◌, length, map, get_or, sym, ap, ◌∙◌, arith}
use Rattle.std.specs.Prelude.{reverse}
use Rattle.std.proofs.lemmas.Bool.{lt-ltb}
use Rattle.std.proofs.lemmas.List.{get_or-map, length-map}
use Rattle.port_lanes.specs.Keys.{Key, EndsAreNumbered, end_of, sender_at}
use Rattle.port_lanes.specs.Parcels.{ParcelView}
use Rattle.port_model.specs.declared.row.Row.{Row}
use Rattle.port_model.specs.declared.signal.Sender.TheVariants.{Process, Timer}
use Rattle.driver_hosts.specs.port_body.Body.{BodyView, name_of}
use Rattle.driver_hosts.specs.port_body.LanePort.{rows_from}
use Rattle.run_end.specs.Tell.{CallsTell}
use Rattle.run_end.proofs.Tells.{tells}
use Rattle.closed_ports.specs.Ends.{LaneEnd}
use Rattle.closed_ports.specs.Laws.{RowsAreSent, ends_at}
use Rattle.closed_ports.specs.Signals.{AcceptedSignalsHaveRows, MailIsOfHistories}
use Rattle.closed_ports.proofs.Rest.{any-end}

-- a process's rows at a port are what its end sent
process-rows : EndsAreNumbered → (key : Key) (columns : List (List LaneEnd)) (port process : ℕ) (d : LaneEnd) (history : List Row) → RowsAreSent key (ends_at port d columns) history
    → length columns ≡ end_of key Timer → process < key.processes
    → rows_from (Process process) history ≡ map (λ (p : ParcelView). p.task) (get_or (get_or columns process []) port d).sent
process-rows numbered key columns port process d history rows many below =
    let low : process < length columns = omega (arith, many, below) in
    let long : length (ends_at port d columns) ≡ length columns = length-map columns (λ (l : List LaneEnd). get_or l port d) in
    let at : sender_at key process ≡ Process process = numbered key (Process process) (lt-ltb process key.processes below) in
    let stands : get_or (ends_at port d columns) process d ≡ get_or (get_or columns process []) port d = get_or-map (λ (l : List LaneEnd). get_or l port d) columns process [] d low in
    ap (λ s. rows_from s history) (sym at) ∙ rows process d (omega (arith, long, low)) ∙ ap (λ (e : LaneEnd). map (λ (p : ParcelView). p.task) e.sent) stands

-- some body of a list that has one
some-body : (bodies : List BodyView) (k : ℕ) → k < length bodies → BodyView
some-body [] k within = absurd (omega (arith, within))
some-body (v ∷ bodies) k within = v

pub signals-have-rows : EndsAreNumbered → AcceptedSignalsHaveRows
signals-have-rows numbered bodies columns ports processes all closed have port process p r below less =
    let v = some-body bodies port below in
    let d = any-end v in
    let name = name_of (get_or bodies port v) in
    let own = closed.each port v d p below in
    let counts = have.counted port v below in
    let told : CallsTell (get_or processes process r) = tells (get_or processes process r) (have.ran process r less) in
    let many = have.lanes process r less in
    process-rows numbered name.key columns port process d (reverse (get_or ports port p).journal.rows) own.rows (all.many port v below) (omega (arith, counts, less))
    ∙ ap (λ (e : LaneEnd). map (λ (q : ParcelView). q.task) e.sent) (have.sent port process r [] d below less)
    ∙ told.tasks port d (omega (arith, many, below))

pub mail-of-histories : MailIsOfHistories
mail-of-histories bodies columns ports closed port process v p e below within = (closed.each port v (any-end v) p below).sent.mail process e within

-- Ports of a run that nobody stopped are closed as it was set up.
use Rattle.std.proofs.Common.{◌≡◌, ◌<◌, ℕ, List, length, map, get_or, refl, sym, ap, ◌∙◌, subst, arith, Option, Some}
use Rattle.std.specs.Prelude.{reverse, slice_index, None}
use Rattle.std.proofs.lemmas.List.{get_or-map, get_or_default}
use Rattle.driver_model.specs.Calls.{Kind, Own}
use Rattle.driver_model.specs.Programs.{ToldProgram}
use Rattle.async_jobs.specs.Pool.{Lanes}
use Rattle.run_opening.specs.driver_hosts.port_body.Body.{BodyView, BodyName, name_of}
use Rattle.run_opening.specs.driver_hosts.port_body.LanePort.{rows_from}
use Rattle.port_model.specs.declared.signal.Sender.TheVariants.{Process, Poller}
use Rattle.port_history.specs.Lawful.{Lawful}
use Rattle.closed_ports.specs.Closed.{AreClosed, HaveComeBack, HaveEndedFrom, IsClosed, StandsAsLeft}
use Rattle.closed_ports.specs.Jobs.{ClosedPortsAreLawful, HaveWorkedFor}
use Rattle.closed_ports.specs.Signals.{AcceptedSignalsHaveRows}
use Rattle.run_opening.specs.driver_hosts.declared.ending.EndedPort.{EndedPort}
use Rattle.run_opening.specs.driver_hosts.declared.hosted.Hosted.{Hosted}
use Rattle.run_opening.specs.driver_hosts.Returning.{AreReturned}
use Rattle.run_opening.specs.driver_hosts.port_driver.declared.life.Life.{Life}
use Rattle.run_end.specs.Ran.{RanProcess}
use Rattle.run_opening.specs.Setting.{Setting}
use Rattle.closed_ports.specs.Ends.{LaneEnd}
use Rattle.closed_ports.specs.told_jobs.Runs.{WorkerRun}
use Rattle.closed_ports.specs.told_jobs.Told.{WorkersTell}
use Rattle.closed_lanes.specs.Closed.{AreClosedIn, HasStopped, IsClosedPort, history_of}
use Rattle.closed_lanes.specs.Parts.{ArePartedInto, closed_of, events_of}
use Rattle.closed_lanes.specs.declared.closing.ClosedPort.{ClosedPort}
use Rattle.closed_lanes.specs.declared.closing.LaneEnds.{LaneEnds}
use Rattle.closed_lanes.proofs.Gave.{ports-of-lanes}
use Rattle.closed_lanes.proofs.Lists.{some-of}
use Rattle.closed_lanes.proofs.Names.{many-bodies}
use Rattle.closed_lanes.proofs.Polled.{poller-rows}
use Rattle.closed_lanes.proofs.Sent.{have-sent}
use Rattle.closed_lanes.proofs.Setting.{IsRun, given-columns}
use Rattle.closed_lanes.proofs.Workers.{any-end}

module _ {D : Type 0} (kind : D → Kind) (stage : D → Life) (faults : D → ℕ) (own : D → Own) (program : D → Option ToldProgram) where
  -- ports that made no turn and ended have come back
  pub back-at-once : (bodies : List BodyView) (places : List ℕ) (hosts back : List (Hosted D)) → AreReturned kind stage faults own program bodies places hosts back
      → HaveComeBack kind stage faults own program bodies places hosts back
  back-at-once bodies places hosts back returned = record {
    last = bodies;
    many = refl;
    names = λ port v w below. ap name_of (get_or_default bodies port w v below);
    returned = returned;
  }

module _ {D : Type 0} (kind : D → Kind) (faults : D → ℕ) (own : D → Own) (program : D → Option ToldProgram) where
  host-is : (host : Hosted D) (driver : D) → host.driver ≡ Some driver → host ≡ record host { driver = Some driver }
  host-is host driver back = ap (λ o. record host { driver = o }) back

  -- what is kept of one port
  closed-one : (name : BodyName) (ends : List LaneEnd) (left : EndedPort) (host : Hosted D) → IsClosed name ends left
      → WorkersTell name.key.workers name.opening (reverse left.journal.rows) → Lawful name.opening (reverse left.journal.rows) → StandsAsLeft kind faults own program name left host → IsClosedPort name (closed_of (events_of own host) left)
  closed-one name ends left host closed workers lawful stands = record {
    lawful = lawful;
    finished = closed.finished;
    senders = closed.senders;
    workers = workers;
    listed = closed.listed;
    mailboxes_are = closed.mailboxes;
    mail = closed.sent.mail;
    config_is = closed.config;
    table = closed.table;
    setup = closed.setup;
    joined = closed.joined;
    resumed = closed.sent.resumed;
    marks = closed.sent.marks;
    read = ap (λ (h : Hosted D). (events_of own h).0) (host-is host stands.driver stands.back) ∙ stands.stands.read;
    write = ap (λ (h : Hosted D). (events_of own h).1) (host-is host stands.driver stands.back) ∙ stands.stands.write;
  }

  stopped-one : (name : BodyName) (events : ℕ × ℕ) (left : EndedPort) (host : Hosted D) → StandsAsLeft kind faults own program name left host → HasStopped kind faults own program name (closed_of events left) host
  stopped-one name events left host stands = record { driver = stands.driver; back = stands.back; kind_is = stands.kind_is; stands = stands.stands; told = stands.told; failed = stands.failed }

  module _ (s : Setting) (bodies : List BodyView) (processes : List RanProcess) (ends : LaneEnds) (run : IsRun s bodies processes ends) where
    pub all-closed : (left : List EndedPort) (ports : List ClosedPort) (pools : List Lanes) (places : List ℕ) (hosts : List (Hosted D)) (workers : List WorkerRun) → ClosedPortsAreLawful → AcceptedSignalsHaveRows
        → AreClosed bodies (given-columns ends) left → HaveEndedFrom kind faults own program bodies places left hosts → ArePartedInto own hosts places left ports pools
        → HaveWorkedFor bodies (given-columns ends) left workers → AreClosedIn kind faults own program s processes ends.poller.items (map name_of bodies) places ports hosts
    all-closed left ports pools places hosts workers lawful signals closed stand parted worked =
        let columns = given-columns ends in
        let all = (ports-of-lanes s bodies processes ends run).all in
        let bodies_are = many-bodies s bodies run.set run.named in
        let left_are = closed.many in
        let name-at : (port : ℕ) (v : BodyView) (n : BodyName) → port < length bodies → get_or (map name_of bodies) port n ≡ name_of (get_or bodies port v) = λ port v n below. get_or-map name_of bodies port v n below in
        record {
          many = parted.many ∙ closed.many ∙ bodies_are;
          closed = λ port n p below.
              let within : port < length bodies = omega (arith, bodies_are, below) in
              let inside : port < length left = omega (arith, left_are, within) in
              let v = some-of bodies port within in
              let l = some-of left port inside in
              let h : Hosted D = record { port = None; driver = None } in
              let held = lawful bodies columns left workers all closed worked port v l within in
              subst (λ name. IsClosedPort name (get_or ports port p)) (sym (name-at port v n within))
              (subst (IsClosedPort (name_of (get_or bodies port v))) (sym (parted.each port h l p inside))
              (closed-one (name_of (get_or bodies port v)) _ (get_or left port l) (get_or hosts (slice_index places port) h) (closed.each port v (any-end v) l within)
              (subst (λ n. WorkersTell n (name_of (get_or bodies port v)).opening (reverse (get_or left port l).journal.rows)) (sym (worked.numbered port v within).workers_are) held.0) held.1
              (stand.each port v l h within)));
          stopped = λ port n p h below.
              let within : port < length bodies = omega (arith, bodies_are, below) in
              let inside : port < length left = omega (arith, left_are, within) in
              let v = some-of bodies port within in
              let l = some-of left port inside in
              subst (λ name. HasStopped kind faults own program name (get_or ports port p) (get_or hosts (slice_index places port) h)) (sym (name-at port v n within))
              (subst (λ q. HasStopped kind faults own program (name_of (get_or bodies port v)) q (get_or hosts (slice_index places port) h)) (sym (parted.each port h l p inside))
              (stopped-one (name_of (get_or bodies port v)) (events_of own (get_or hosts (slice_index places port) h)) (get_or left port l) (get_or hosts (slice_index places port) h) (stand.each port v l h within)));
          signals = λ port process p r below less.
              let within : port < length bodies = omega (arith, bodies_are, below) in
              let inside : port < length left = omega (arith, left_are, within) in
              let l = some-of left port inside in
              let h : Hosted D = record { port = None; driver = None } in
              ap (λ q. rows_from (Process process) (history_of q)) (parted.each port h l p inside)
              ∙ signals bodies columns left processes all closed (have-sent s bodies processes ends run) port process l r within less;
          polled = λ port p d below.
              let within : port < length bodies = omega (arith, bodies_are, below) in
              let inside : port < length left = omega (arith, left_are, within) in
              let l = some-of left port inside in
              let h : Hosted D = record { port = None; driver = None } in
              ap (λ q. rows_from Poller (history_of q)) (parted.each port h l p inside) ∙ poller-rows s bodies processes ends run left closed port l d within;
        }

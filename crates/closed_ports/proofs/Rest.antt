-- Ports that took in all ends of their lanes, came to rest and ended.
use Rattle.std.proofs.Common.{◌≡◌, ◌<◌, ℕ, List, [], length, get_or, sym, ap, ◌∙◌, subst, arith, All, Option}
use Rattle.std.specs.Prelude.{reverse, slice_index}
use Rattle.task_queue.specs.Ends.{Taking}
use Rattle.driver_model.specs.Calls.{Kind, Own}
use Rattle.driver_model.specs.Programs.{ToldProgram}
use Rattle.driver_hosts.specs.port_driver.Faults.{failures_in, RisenBy}
use Rattle.driver_hosts.specs.port_driver.declared.life.Life.{Life}
use Rattle.port_lanes.specs.Keys.{Key}
use Rattle.port_lanes.specs.Parcels.{ParcelView}
use Rattle.driver_hosts.specs.port_body.Body.{BodyView, name_of}
use Rattle.driver_hosts.specs.port_body.Ends.{IsLeftByCalls}
use Rattle.driver_hosts.specs.declared.ending.EndedPort.{EndedPort}
use Rattle.driver_hosts.specs.declared.hosted.Hosted.{Hosted}
use Rattle.driver_hosts.specs.Returning.{AreReturned, HasLeft, HasReturned, LeaveAll}
use Rattle.closed_ports.specs.Ends.{LaneEnd}
use Rattle.closed_ports.specs.Laws.{AreAllColumns, HasAllEnds, RowsAreSent, TakeColumnsIn, ends_at}
use Rattle.closed_ports.specs.Senders.{IsOfAnEnd}
use Rattle.closed_ports.specs.Settling.{AreSamePorts, AreSettled, IsSettled}
use Rattle.closed_ports.proofs.Columns.{columns-are-all-ends}
use Rattle.closed_ports.proofs.Senders.{every-row-is-of-an-end}
use Rattle.closed_ports.proofs.Sent.{rows-are-sent}
use Rattle.closed_ports.specs.Closed.{AreClosed, HaveComeBack, HaveEndedFrom, IsClosed, StandsAsLeft}

-- a settled port leaves what its history says
closed-one : (v : BodyView) (ends : List LaneEnd) (p : EndedPort) → HasAllEnds v ends → HasLeft v p → IsClosed (name_of v) ends p
closed-one v ends p has left =
    let whole = left.whole has.settled.finished has.settled.whole in
    let own = left.left in
    record {
      config = own.config;
      mailboxes = own.mailboxes;
      asks = own.asks;
      pool = own.pool;
      table = own.table;
      setup = own.setup;
      joined = own.joined;
      sent = whole.sent;
      finished = whole.finished has.settled.finished;
      rows = subst (λ (t : Taking ParcelView Key). RowsAreSent t.key ends (reverse p.journal.rows)) own.lane (rows-are-sent v p.journal.rows p.outlets p.lane ends has own.lane whole);
      senders = subst (λ (t : Taking ParcelView Key). All (IsOfAnEnd t.key) p.journal.rows) own.lane (every-row-is-of-an-end v p.journal.rows p.outlets p.lane whole);
      listed = record { falling = whole.falling; have_rows = whole.have_rows has.settled.finished };
    }

-- some end of a body's lane
pub any-end : BodyView → LaneEnd
any-end v = record { lane = v.lane_port.lane.lane; key = v.lane_port.lane.key; number = 0; made = 0; sent = [] }

-- ports that took in columns of ends, and made turns, have the names that they had
same-name : (old mid new : List BodyView) (columns : List (List LaneEnd)) → TakeColumnsIn old columns mid → AreSamePorts mid new
    → (port : ℕ) (v w : BodyView) → port < length old → name_of (get_or new port w) ≡ name_of (get_or old port v)
same-name old mid new columns takes same port v w within =
    let inside : port < length mid = let m = takes.many in omega (arith, m, within) in
    (same.each port v w inside).name ∙ ap name_of (takes.each port v v (any-end v) within)

pub all-closed : (old mid new : List BodyView) (columns : List (List LaneEnd)) (ports : List EndedPort) → AreAllColumns old columns → TakeColumnsIn old columns mid → AreSamePorts mid new → AreSettled new
    → LeaveAll new ports → AreClosed old columns ports
all-closed old mid new columns ports all takes same settled leave = record {
  many = leave.count ∙ same.many ∙ takes.many;
  each = λ port v d p within.
      let inside : port < length new = let m = takes.many in let n = same.many in omega (arith, m, n, within) in
      subst (λ name. IsClosed name (ends_at port d columns) (get_or ports port p)) (same-name old mid new columns takes same port v v within)
      (closed-one (get_or new port v) (ends_at port d columns) (get_or ports port p) (columns-are-all-ends old mid new columns all takes same settled port v d within) (leave.each port v p inside));
}

module _ {D : Type 0} (kind : D → Kind) (stage : D → Life) (faults : D → ℕ) (own : D → Own) (program : D → Option ToldProgram) where
  pub come-back : (old mid new : List BodyView) (columns : List (List LaneEnd)) (places : List ℕ) (hosts back : List (Hosted D)) → TakeColumnsIn old columns mid → AreSamePorts mid new
      → AreReturned kind stage faults own program new places hosts back → HaveComeBack kind stage faults own program old places hosts back
  come-back old mid new columns places hosts back takes same returned = record {
    last = new;
    many = same.many ∙ takes.many;
    names = λ port v w within. same-name old mid new columns takes same port v w within;
    returned = returned;
  }

  -- the driver of a settled port stands as its history's calls leave it, and has counted the failures
  stands-one : (v : BodyView) (p : EndedPort) (old new : Hosted D) → IsSettled v → HasLeft v p → HasReturned kind stage faults own program v old new → StandsAsLeft kind faults own program (name_of v) p new
  stands-one v p old new settled left returned = record {
    driver = returned.driver;
    back = ap (λ (h : Hosted D). h.driver) returned.back;
    kind_is = returned.same_kind;
    stands = subst (λ rows. IsLeftByCalls (name_of v).opening (reverse rows) (own returned.driver) (program returned.driver)) (sym left.left.rows) (returned.stands settled.finished settled.whole);
    told = returned.told;
    failed = subst (λ rows. RisenBy (failures_in rows) (name_of v).faults (faults returned.driver)) (sym left.left.rows) returned.failed;
  }

  pub all-stand : (old mid new : List BodyView) (columns : List (List LaneEnd)) (places : List ℕ) (hosts back : List (Hosted D)) (ports : List EndedPort) → TakeColumnsIn old columns mid
      → AreSamePorts mid new → AreSettled new → LeaveAll new ports → AreReturned kind stage faults own program new places hosts back → HaveEndedFrom kind faults own program old places ports back
  all-stand old mid new columns places hosts back ports takes same settled leave returned = record {
    each = λ port v p h within.
        let inside : port < length new = let m = takes.many in let n = same.many in omega (arith, m, n, within) in
        subst (λ name. StandsAsLeft kind faults own program name (get_or ports port p) (get_or back (slice_index places port) h)) (same-name old mid new columns takes same port v v within)
        (stands-one (get_or new port v) (get_or ports port p) (get_or hosts (slice_index places port) h) (get_or back (slice_index places port) h) (settled port v inside) (leave.each port v p inside)
        (returned.returned port v h inside));
  }

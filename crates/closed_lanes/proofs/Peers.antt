-- What ports and processes have of each other, by what the run was set up with.
use Rattle.std.proofs.Common.{◌≡◌, ◌<◌, ℕ, List, [], length, map, get_or, sym, ap, ◌∙◌, subst, arith, All}
use Rattle.std.proofs.lemmas.List.{get_or-map, length-map}
use Rattle.run_opening.specs.port_body.Body.{BodyName}
use Rattle.run_end.specs.port_mail.Ends.{MailEnd}
use Rattle.port_words.specs.busy.Known.{PortKnown, SendKnown, setup_of}
use Rattle.port_words.specs.declared.busy.view.BusySetup.{BusySetup}
use Rattle.port_words.specs.declared.busy.view.BusyView.{BusyView}
use Rattle.run_end.specs.process_end.Mailbox.{Mailbox}
use Rattle.run_end.specs.process_end.Views.{ProcView}
use Rattle.run_end.specs.Mailboxes.{AreMailRows, IsMailEndOf}
use Rattle.run_end.specs.Ran.{RanProcess}
use Rattle.run_end.specs.Rows.{AreSeatRows}
use Rattle.run_end.specs.Tell.{HaveRunWhole}
use Rattle.run_end.specs.Whole.{HasJoinedNone}
use Rattle.run_end.proofs.Merges.{first_of}
use Rattle.run_end.proofs.Tells.{rows_stay, tells}
use Rattle.run_end.specs.run_lanes.declared.parts.PortLanes.{PortLanes}
use Rattle.run_end.specs.run_lanes.declared.parts.ProcessLanes.{ProcessLanes}
use Rattle.run_end.specs.run_lanes.Ends.{made_by, new_end}
use Rattle.run_end.specs.run_lanes.Opened.{HasPort}
use Rattle.run_opening.specs.Opened.{limits_of}
use Rattle.run_opening.specs.run_seats.declared.plans.ProcessSteps.{ProcessSteps}
use Rattle.run_opening.specs.Jobs.{HaveRunIn, IsSetUp}
use Rattle.run_opening.specs.Setting.{Setting, IsSetting, AreNamedIn, IsNamedIn}
use Rattle.script_plan.specs.declared.decl.PortDecl.{PortDecl}
use Rattle.served_port.specs.View.{EndName, end_name, end_names}
use Rattle.closed_lanes.specs.Joined.{ArePortsNamed, rows_of}
use Rattle.closed_lanes.specs.declared.joining.PortPeers.{PortPeers}

-- ports and processes that have run as they were set up
pub record HavePeers (s : Setting) (names : List BodyName) (ran : List RanProcess) (ports : PortPeers) : Type 0 where
  pub set : IsSetting s
  pub named : AreNamedIn s names
  pub have : HaveRunIn s ran
  pub own : ArePortsNamed s names ports

-- ends with the same names, one by one
names_at : (a b : List MailEnd) → end_names a ≡ end_names b → (k : ℕ) (x : MailEnd) → k < length a → end_name (get_or a k x) ≡ end_name (get_or b k x)
names_at a b same k x below =
    let long : length b ≡ length a = sym (length-map b end_name) ∙ ap length (sym same) ∙ length-map a end_name in
    sym (get_or-map end_name a k x (end_name x) below) ∙ ap (λ l. get_or l k (end_name x)) same ∙ get_or-map end_name b k x (end_name x) (omega (arith, long, below))

module _ (s : Setting) (names : List BodyName) (ran : List RanProcess) (ports : PortPeers) (peers : HavePeers s names ran ports) where
  ports_many : length s.lanes.ports.items ≡ length s.ports
  ports_many = peers.set.lanes_are.counts.ports_many ∙ length-map s.ports (λ (p : PortDecl). limits_of p.config)

  pub rows_many : length (rows_of ports) ≡ length s.ports
  rows_many = length-map ports.ends.items (λ r. r.items) ∙ peers.own.ends_many

  -- what each process and each port was set up with
  process_lanes : (n : ℕ) → n < s.size.processes → ProcessLanes
  process_lanes n below = let many = peers.set.lanes_are.counts.processes_many in first_of s.lanes.processes.items n (omega (arith, many, below))

  steps_of_process : (n : ℕ) → n < s.size.processes → ProcessSteps
  steps_of_process n below = let many = peers.set.process_steps_many in first_of s.process_steps n (omega (arith, many, below))

  port_lanes : (q : ℕ) → q < length s.ports → PortLanes
  port_lanes q below = let many = ports_many in first_of s.lanes.ports.items q (omega (arith, many, below))

  port_name : (q : ℕ) → q < length s.ports → BodyName
  port_name q below = let many = peers.named.many in first_of names q (omega (arith, many, below))

  set_up : (n : ℕ) (r : RanProcess) (below : n < s.size.processes)
      → IsSetUp s n (get_or s.lanes.processes.items n (process_lanes n below)) (get_or s.process_steps n (steps_of_process n below)) (get_or ran n r)
  set_up n r below = peers.have.each n (process_lanes n below) (steps_of_process n below) r below

  opened : (q : ℕ) (p : PortDecl) (below : q < length s.ports) → IsNamedIn s q (get_or s.ports q p) (get_or s.lanes.ports.items q (port_lanes q below)) (get_or names q (port_name q below))
  opened q p below = peers.named.each q p (port_lanes q below) (port_name q below) below

  has_port : (q : ℕ) (p : PortDecl) (d : PortLanes) → q < length s.ports → HasPort s.size (limits_of (get_or s.ports q p).config) s.lanes q (get_or s.lanes.ports.items q d)
  has_port q p d below =
      let many = length-map s.ports (λ (o : PortDecl). limits_of o.config) in
      subst (λ l. HasPort s.size l s.lanes q (get_or s.lanes.ports.items q d)) (get_or-map (λ (o : PortDecl). limits_of o.config) s.ports q p (limits_of p.config) below)
      (peers.set.lanes_are.ports q (limits_of p.config) d (omega (arith, many, below)))

  -- the ends of a port have the names of those that were set up
  row_names : (q : ℕ) (row : List MailEnd) (below : q < length s.ports)
      → end_names (get_or (rows_of ports) q row) ≡ end_names (get_or s.lanes.ports.items q (port_lanes q below)).mailboxes
  row_names q row below = peers.own.ends_are q (port_name q below) row below ∙ (opened q (first_of s.ports q below) below).opened.mailboxes

  row_many : (q : ℕ) (row : List MailEnd) → q < length s.ports → length (get_or (rows_of ports) q row) ≡ s.size.processes
  row_many q row below =
      let lanes = get_or s.lanes.ports.items q (port_lanes q below) in
      sym (length-map (get_or (rows_of ports) q row) end_name) ∙ ap length (row_names q row below) ∙ length-map lanes.mailboxes end_name
      ∙ (has_port q (first_of s.ports q below) (port_lanes q below) below).mailboxes_many

  -- they are those of their number in each mailbox
  row_end : (q n : ℕ) (row : List MailEnd) (x : MailEnd) (below : q < length s.ports) (within : n < s.size.processes)
      → end_name (get_or (get_or (rows_of ports) q row) n x) ≡ end_name (new_end (get_or s.lanes.processes.items n (process_lanes n within)).mailbox (length s.lanes.ports.items) q)
  row_end q n row x below within =
      let lanes = get_or s.lanes.ports.items q (port_lanes q below) in
      let long = row_many q row below in
      names_at (get_or (rows_of ports) q row) lanes.mailboxes (row_names q row below) n x (omega (arith, long, within))
      ∙ ap end_name (((has_port q (first_of s.ports q below) (port_lanes q below) below).mailboxes (process_lanes n within)).each n x within)

  -- a process gives back the mailbox that it had
  mailbox_lane : (n : ℕ) (r : RanProcess) (below : n < s.size.processes) → (get_or ran n r).end.mailbox.lane ≡ (get_or s.lanes.processes.items n (process_lanes n below)).mailbox.lane
  mailbox_lane n r below =
      let many = peers.have.many in
      ap (λ (m : Mailbox). m.lane) (tells (get_or ran n r) (peers.have.ran n r (omega (arith, many, below)))).mailbox ∙ ap (λ (v : ProcView). v.mailbox.lane) (set_up n r below).old

  mail_end : (q n : ℕ) (row : List MailEnd) (x : MailEnd) (r : RanProcess) → q < length s.ports → n < s.size.processes
      → IsMailEndOf (length (rows_of ports)) q (get_or ran n r).end.mailbox (get_or (get_or (rows_of ports) q row) n x)
  mail_end q n row x r below within =
      let is = row_end q n row x below within in
      record {
        lane = ap (λ (e : EndName). e.lane) is ∙ sym (mailbox_lane n r within);
        number_is = ap (λ (e : EndName). e.number) is;
        made = ap (λ (e : EndName). e.made) is ∙ ap (λ k. made_by k q) (ports_many ∙ sym rows_many);
      }

  pub mail_rows : AreMailRows (map (λ (p : RanProcess). p.end.mailbox) ran) (rows_of ports)
  mail_rows =
      let boxes : length (map (λ (p : RanProcess). p.end.mailbox) ran) ≡ length ran = length-map ran (λ (p : RanProcess). p.end.mailbox) in
      let many = peers.have.many in
      let rows = rows_many in
      record {
        long = λ q row below. row_many q row (omega (arith, rows, below)) ∙ sym (boxes ∙ many);
        each = λ q n row x m below within.
            let inside : n < length ran = omega (arith, boxes, within) in
            let r = first_of ran n inside in
            subst (λ box. IsMailEndOf (length (rows_of ports)) q box (get_or (get_or (rows_of ports) q row) n x)) (sym (get_or-map (λ (p : RanProcess). p.end.mailbox) ran n r m inside))
            (mail_end q n row x r (omega (arith, rows, below)) (omega (arith, many, inside)));
      }

  -- the words of a port are those that were set up for it
  port_table : (q : ℕ) (x : PortKnown) (below : q < length s.ports) → (get_or ports.seats.items q x).table ≡ (get_or s.lanes.ports.items q (port_lanes q below)).seat.table
  port_table q x below = peers.own.tables q (port_name q below) x below ∙ (opened q (first_of s.ports q below) below).opened.table

  pub port_setup : (q : ℕ) (p : PortDecl) (x : PortKnown) → q < length s.ports → (get_or ports.seats.items q x).known.setup ≡ setup_of (limits_of (get_or s.ports q p).config) s.size.processes
  port_setup q p x below =
      peers.own.setups q (port_name q below) x below ∙ (opened q p below).opened.setup_is
      ∙ ap (λ (v : BusyView). v.setup) (has_port q p (port_lanes q below) below).seat.known

  port_joined : (q : ℕ) (x : PortKnown) → q < length s.ports → (get_or ports.seats.items q x).known.senders ≡ []
  port_joined q x below =
      let p = first_of s.ports q below in
      peers.own.joined q (port_name q below) x below ∙ (opened q p below).opened.joined_is
      ∙ ap (λ (v : BusyView). v.senders) (has_port q p (port_lanes q below) below).seat.known

  pub none_joined : All (HasJoinedNone (length ran)) ports.seats.items
  none_joined q x below =
      let many = peers.own.seats_many in
      let within : q < length s.ports = omega (arith, many, below) in
      (port_joined q x within, ap (λ (b : BusySetup). b.senders) (port_setup q (first_of s.ports q within) x within) ∙ sym peers.have.many)

  -- the processes had a lane's end and a seat of each port
  pub whole : HaveRunWhole (length ports.seats.items) ran
  whole = record {
    ran = peers.have.ran;
    many = λ n r below.
        let many = peers.have.many in
        let within : n < s.size.processes = omega (arith, many, below) in
        ap (λ (v : ProcView). length v.lanes) (set_up n r within).old ∙ (peers.set.lanes_are.processes n (process_lanes n within) within).lanes.many ∙ ports_many ∙ sym peers.own.seats_many;
  }

  pub whole_rows : HaveRunWhole (length (rows_of ports)) ran
  whole_rows = subst (λ n. HaveRunWhole n ran) (peers.own.seats_many ∙ sym rows_many) whole

  old_seats : (n : ℕ) (row : List SendKnown) (below : n < s.size.processes)
      → get_or (map (λ (p : RanProcess). p.old.seats) ran) n row ≡ (get_or s.lanes.processes.items n (process_lanes n below)).seats.items
  old_seats n row below =
      let many = peers.have.many in
      let inside : n < length ran = omega (arith, many, below) in
      let r = first_of ran n inside in
      get_or-map (λ (p : RanProcess). p.old.seats) ran n r row inside ∙ ap (λ (v : ProcView). v.seats) (set_up n r below).old

  old_rows : AreSeatRows ports.seats.items (map (λ (p : RanProcess). p.old.seats) ran)
  old_rows =
      let many = peers.have.many in
      let seats = peers.own.seats_many in
      let rows = length-map ran (λ (p : RanProcess). p.old.seats) in
      record {
        long = λ n row below.
            let within : n < s.size.processes = omega (arith, many, rows, below) in
            ap length (old_seats n row within) ∙ (peers.set.lanes_are.processes n (process_lanes n within) within).seats_many ∙ ports_many ∙ sym seats;
        tables = λ n q row d x below inside.
            let within : n < s.size.processes = omega (arith, many, rows, below) in
            let port : q < length s.ports = omega (arith, seats, inside) in
            let lanes = ports_many in
            ap (λ (l : List SendKnown). (get_or l q x).table) (old_seats n row within)
            ∙ ap (λ (k : SendKnown). k.table) (((peers.set.lanes_are.processes n (process_lanes n within) within).seats (port_lanes q port)).each q x (omega (arith, lanes, port))) ∙ sym (port_table q d port);
      }

  pub seat_rows : AreSeatRows ports.seats.items (map (λ (p : RanProcess). p.end.seats.items) ran)
  seat_rows = rows_stay ports.seats.items ran whole old_rows

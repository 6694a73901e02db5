-- The mail and the words of ports and processes, put together.
use Rattle.std.proofs.Common.{◌≡◌, ◌<◌, ℕ, List, length, map, get_or, sym, ap, ◌∙◌, subst, arith}
use Rattle.std.proofs.lemmas.List.{get_or-map, length-map}
use Rattle.run_opening.specs.port_body.Body.{BodyName}
use Rattle.port_model.specs.declared.mail.Mail.{Mail}
use Rattle.port_words.specs.busy.Known.{PortKnown}
use Rattle.port_words.specs.declared.busy.view.BusySetup.{BusySetup}
use Rattle.run_end.specs.Mailboxes.{AreMailRows, HaveTakenRows}
use Rattle.run_end.specs.Ran.{RanProcess, calls_made}
use Rattle.run_end.specs.Rest.{came_in}
use Rattle.run_end.specs.Rows.{AreSeatRows, HaveJoinedRows}
use Rattle.run_end.proofs.TakingRests.{all_merge}
use Rattle.run_end.proofs.Tells.{run_ports, run_words}
use Rattle.run_opening.specs.Opened.{limits_of}
use Rattle.run_opening.specs.Setting.{Setting}
use Rattle.script_plan.specs.declared.decl.PortDecl.{PortDecl}
use Rattle.closed_lanes.specs.Joined.{AreJoined, AreOfProcesses, HasGrown, PortWordsHold, rows_of}
use Rattle.closed_lanes.specs.declared.joining.PortPeers.{PortPeers}
use Rattle.closed_lanes.specs.declared.joining.ProcessPeers.{ProcessPeers}
use Rattle.closed_lanes.proofs.Peers.{HavePeers, mail_rows, none_joined, port_setup, seat_rows, whole, whole_rows}

module _ (s : Setting) (names : List BodyName) (ran : List RanProcess) (ports : PortPeers) (processes : ProcessPeers) (peers : HavePeers s names ran ports) (of : AreOfProcesses ran processes) where
  -- there is mail for each mailbox, and the ends and the seats are of these ports
  pub mails_many : length processes.mails.items ≡ length processes.mailboxes.items
  mails_many = sym (length-map processes.mails.items (λ m. m.items)) ∙ ap length of.mails_are ∙ length-map ran (λ (p : RanProcess). p.mails)
      ∙ sym (ap length of.mailboxes_are ∙ length-map ran (λ (p : RanProcess). p.end.mailbox))

  pub rows_of_mail : AreMailRows processes.mailboxes.items (rows_of ports)
  rows_of_mail = subst (λ boxes. AreMailRows boxes (rows_of ports)) (sym of.mailboxes_are) (mail_rows s names ran ports peers)

  pub rows_of_seats : AreSeatRows ports.seats.items (map (λ r. r.items) processes.seats.items)
  rows_of_seats = subst (AreSeatRows ports.seats.items) (sym of.seats_are) (seat_rows s names ran ports peers)

  port_words : (new : List PortKnown) → HaveJoinedRows ports.seats.items (map (λ (p : RanProcess). p.end.seats.items) ran) new → (q : ℕ) (p : PortDecl) (k : PortKnown) → q < length s.ports
      → PortWordsHold q (limits_of (get_or s.ports q p).config) (get_or ports.seats.items q k) (map calls_made ran)
  port_words new joined q p k below =
      let many = peers.own.seats_many in
      let within : q < length ports.seats.items = omega (arith, many, below) in
      let ran_whole = whole s names ran ports peers in
      let none = none_joined s names ran ports peers in
      subst (λ limits. PortWordsHold q limits (get_or ports.seats.items q k) (map calls_made ran)) (ap (λ (b : BusySetup). b.limits) (port_setup s names ran ports peers q p k below)) (record {
        shown = run_words ports.seats.items new ran ran_whole none joined q k within;
        own = run_ports ports.seats.items new ran ran_whole none joined q k within;
      })

  pub are_joined : (new : List PortKnown) (mails : List (List Mail)) → HaveJoinedRows ports.seats.items (map (λ r. r.items) processes.seats.items) new
      → HaveTakenRows processes.mailboxes.items (rows_of ports) (map (λ m. m.items) processes.mails.items) mails → AreJoined s ran ports mails
  are_joined new mails joined taken =
      let rows = subst (λ l. HaveJoinedRows ports.seats.items l new) of.seats_are joined in
      let took = subst (λ l. HaveTakenRows (map (λ (p : RanProcess). p.end.mailbox) ran) (rows_of ports) l mails) of.mails_are
      (subst (λ boxes. HaveTakenRows boxes (rows_of ports) (map (λ m. m.items) processes.mails.items) mails) of.mailboxes_are taken) in
      record {
        many = took.many ∙ length-map ran (λ (p : RanProcess). p.mails);
        merges = λ n r m below. all_merge ran (rows_of ports) mails (whole_rows s names ran ports peers) took n r m below;
        grown = λ n r m below.
            let boxes = map (λ (p : RanProcess). p.end.mailbox) ran in
            let boxes_many : length boxes ≡ length ran = length-map ran (λ (p : RanProcess). p.end.mailbox) in
            let column = took.each n (get_or ran n r).end.mailbox (get_or ran n r).mails m (omega (arith, boxes_many, below)) in
            let had : get_or (map (λ (p : RanProcess). p.mails) ran) n (get_or ran n r).mails ≡ (get_or ran n r).mails = get_or-map (λ (p : RanProcess). p.mails) ran n r (get_or ran n r).mails below in
            subst (λ old. HasGrown old (get_or mails n m)) had (map (λ c. c.mail) (came_in column.took.more.items), column.took.more.mails_are);
        words = λ q p k below. port_words new rows q p k below;
      }

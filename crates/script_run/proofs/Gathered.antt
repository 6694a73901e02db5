-- What the ports and the processes of a run leave, put together.
use Rattle.std.proofs.Common.{◌≡◌, ◌<◌, ℕ, List, [], length, map, get_or, sym, ap, ◌∙◌, arith}
use Rattle.std.proofs.lemmas.List.{get_or-map, length-map}
use Rattle.std.specs.Global.{Vec}
use Rattle.port_mail.specs.Ends.{MailEnd}
use Rattle.port_model.specs.declared.mail.Mail.{Mail}
use Rattle.port_body.specs.Body.{BodyName}
use Rattle.port_words.specs.busy.Known.{PortKnown}
use Rattle.process_receipts.specs.declared.receipt.Receipt.{Receipt}
use Rattle.closed_lanes.specs.served_port.View.{end_names}
use Rattle.seated_script.specs.run_opening.run_end.Ran.{RanProcess}
use Rattle.seated_script.specs.run_opening.Setting.{Setting}
use Rattle.closed_lanes.specs.declared.closing.ClosedPort.{ClosedPort}
use Rattle.closed_lanes.specs.declared.joining.ProcessPeers.{ProcessPeers}
use Rattle.closed_lanes.specs.Joined.{AreJoined, ArePortsNamed, rows_of}
use Rattle.script_run.specs.declared.parting.PartedPorts.{PartedPorts}
use Rattle.script_run.specs.declared.running.ProcessLeft.{ProcessLeft}
use Rattle.script_run.specs.declared.running.ScriptRan.{ScriptRan}
use Rattle.script_run.specs.Left.{CanGather, IsGathered}
use Rattle.script_run.specs.Parted.{AreLeftOf, ArePartedPorts}
use Rattle.script_run.proofs.Parts.{some}

module _ (s : Setting) (names : List BodyName) (ran : List RanProcess) (closed : List ClosedPort) (receipts : List (List Receipt)) (peers : ProcessPeers) (can : CanGather s names ran closed receipts peers) (parts : PartedPorts)
    (are : ArePartedPorts closed parts) where
  seat-at : (k : ℕ) (c : ClosedPort) (x : PortKnown) → k < length closed → get_or parts.peers.seats.items k x ≡ (get_or closed k c).seat
  seat-at k c x below = ap (λ (l : List PortKnown). get_or l k x) are.seats_are ∙ get_or-map (λ (y : ClosedPort). y.seat) closed k c x below

  -- what the ports have of the processes is that of their names
  pub ports-named : ArePortsNamed s names parts.peers
  ports-named =
      let many = can.many in
      let ends_many : length (rows_of parts.peers) ≡ length closed = ap length are.ends_are ∙ length-map closed (λ (y : ClosedPort). y.mailboxes) in
      let items_many : length (rows_of parts.peers) ≡ length parts.peers.ends.items = length-map parts.peers.ends.items (λ r. r.items) in
      let seats_many : length parts.peers.seats.items ≡ length closed = ap length are.seats_are ∙ length-map closed (λ (y : ClosedPort). y.seat) in
      record {
        ends_many = omega (arith, many, ends_many, items_many);
        seats_many = seats_many ∙ many;
        ends_are = λ k n row below.
            let inside : k < length closed = omega (arith, many, below) in
            let c = some closed k inside in
            ap end_names (ap (λ (l : List (List MailEnd)). get_or l k row) are.ends_are ∙ get_or-map (λ (y : ClosedPort). y.mailboxes) closed k c row inside) ∙ (can.are_closed k n c below).mailboxes_are;
        tables = λ k n x below.
            let inside : k < length closed = omega (arith, many, below) in
            let c = some closed k inside in
            ap (λ (y : PortKnown). y.table) (seat-at k c x inside) ∙ (can.are_closed k n c below).table;
        setups = λ k n x below.
            let inside : k < length closed = omega (arith, many, below) in
            let c = some closed k inside in
            ap (λ (y : PortKnown). y.known.setup) (seat-at k c x inside) ∙ (can.are_closed k n c below).setup;
        joined = λ k n x below.
            let inside : k < length closed = omega (arith, many, below) in
            let c = some closed k inside in
            ap (λ (y : PortKnown). y.known.senders) (seat-at k c x inside) ∙ (can.are_closed k n c below).joined;
      }

  pub gathered : (mails : List (Vec Mail)) (left : ScriptRan) → left.ports.items ≡ parts.left.items → AreJoined s ran parts.peers (map (λ m. m.items) mails) → AreLeftOf receipts mails left.processes.items
      → IsGathered s ran closed left
  gathered mails left ports joined lefts =
      let counts : length receipts ≡ length ran = ap length can.receipts_are ∙ length-map ran (λ (p : RanProcess). p.end.receipts) in
      let mails_many : length (map (λ (m : Vec Mail). m.items) mails) ≡ length mails = length-map mails (λ (m : Vec Mail). m.items) in
      let joined_many = joined.many in
      record {
        parts = parts;
        are_parts = are;
        ports_are = ports;
        mails = map (λ m. m.items) mails;
        joined = joined;
        processes = record {
          many = lefts.many ∙ counts;
          receipts_are = λ n l r below.
              let inside : n < length receipts = omega (arith, counts, below) in
              let m = some mails n (omega (arith, mails_many, joined_many, below)) in
              let d = (get_or ran n r).end.receipts in
              ap (λ (x : ProcessLeft). x.receipts) (lefts.each n l d m inside) ∙ ap (λ (x : List (List Receipt)). get_or x n d) can.receipts_are
              ∙ get_or-map (λ (p : RanProcess). p.end.receipts) ran n r d below;
          mails_are = λ n l d below.
              let inside : n < length receipts = omega (arith, counts, below) in
              let here : n < length mails = omega (arith, mails_many, joined_many, below) in
              let m = some mails n here in
              ap (λ (x : ProcessLeft). x.mails.items) (lefts.each n l [] m inside) ∙ sym (get_or-map (λ (y : Vec Mail). y.items) mails n m d here);
        };
      }

use Rattle.std.proofs.Common.{◌≡◌, get_or, ap, ◌∙◌, arith}
use Rattle.run_lanes.proofs.Places.{rest_more, rest_first, placed_more}
use Rattle.script_run.proofs.parting.processes_left.Goals as goal

pub processes-preserved : goal.processes-preserved
processes-preserved c =
    let inv = c.processes.invariant in
    let n = c.processes._process in
    let receipts = c.args.receipts.items in
    let mails = c.args.mails.items in
    let within = c.processes-test.true in
    let end = c.len-many.ensures in
    let size = c.args.receipts.ok.0 in
    let many = c.requires in
    let own = c.next_of-own in
    let mail = c.next_of-mail in (
      rest_more n receipts c.processes.receipts.rest.items own.new.items.rest.items own.result c.processes.receipts.rest.len own.new.items.rest.len (omega arith) inv.0 own.ensures.items own.ensures.len,
      rest_more n mails c.processes.mails.rest.items mail.new.items.rest.items mail.result c.processes.mails.rest.len mail.new.items.rest.len (omega arith) inv.1 mail.ensures.items mail.ensures.len,
      placed_more (λ n left. (r : _) (m : _) → left ≡ record { receipts = get_or receipts n r; mails = get_or mails n m }) n c.processes.left.items c.push.new.self.items (record { receipts = own.result; mails = mail.result })
          c.in_ok-push.ensures.items inv.2
          (λ r m. ap (λ x. record { receipts = x; mails = mail.result }) (rest_first n receipts c.processes.receipts.rest.items own.new.items.rest.items own.result c.processes.receipts.rest.len (omega arith) inv.0 own.ensures.items r)
          ∙ ap (λ x. record { receipts = get_or receipts n r; mails = x }) (rest_first n mails c.processes.mails.rest.items mail.new.items.rest.items mail.result c.processes.mails.rest.len (omega arith) inv.1 mail.ensures.items m)),
    )

use Rattle.std.proofs.Common.{◌≡◌, ◌<◌, [], get_or, length, map, sym, ap, arith, subst}
use Rattle.std.specs.List.{All}
use Rattle.std.proofs.lemmas.List.{length-drop, length-map}
use Rattle.process_end.specs.Mailbox.{Mailbox}
use Rattle.run_lanes.proofs.Places.{rest_more, rest_row, rest_within}
use Rattle.run_end.proofs.TakingRests.{takes_more, takes_each}
use Rattle.run_end.proofs.mailboxes.take_each_rest.Goals as goal

pub take_rest_at-requires-clause-lanes : goal.take_rest_at-requires-clause-lanes
take_rest_at-requires-clause-lanes g c = λ m.
    let inv = c.columns.invariant in
    let rest = c.columns.ends-iterator.rest in
    let steps = c.in-Some.ensures.steps in
    let all = c.args.columns.items in
    let within : c.columns.place < length all = rest_within c.columns.place all rest.items c.next.new.self.rest.items c.in-Some.ends rest.len inv.1 steps.0 in
    let is = rest_row (λ r. r.items) c.columns.place all rest.items c.next.new.self.rest.items c.in-Some.ends rest.len within inv.1 steps.0 in
    let many = c.requires.ends.many in
    let wide = length-map all (λ r. r.items) in
    subst (λ (o : Mailbox). All (λ e. e.lane ≡ o.lane) c.in-Some.ends.items) (sym (inv.0.boxes c.columns.place m (omega arith)))
    (subst (All (λ e. e.lane ≡ (get_or c.args.mailboxes.now.items c.columns.place m).lane)) (sym (is [])) (c.requires.ends.lanes c.columns.place m [] (omega arith)))

pub take_rest_at-requires-clause-place : goal.take_rest_at-requires-clause-place
take_rest_at-requires-clause-place g c =
    let inv = c.columns.invariant in
    let rest = c.columns.ends-iterator.rest in
    let steps = c.in-Some.ensures.steps in
    let all = c.args.columns.items in
    let within : c.columns.place < length all = rest_within c.columns.place all rest.items c.next.new.self.rest.items c.in-Some.ends rest.len inv.1 steps.0 in
    let many = c.requires.ends.many in
    let as_many = c.requires.many in
    let wide = length-map all (λ r. r.items) in
    let old = length-map c.args.mails.now.items (λ m. m.items) in
    let new = length-map c.columns.mails.items (λ m. m.items) in
    let boxes = inv.0.boxes_many in
    let mails = inv.0.mails_many in
    (omega arith, omega arith)

pub columns-preserved : goal.columns-preserved
columns-preserved g c =
    let inv = c.columns.invariant in
    let rest = c.columns.ends-iterator.rest in
    let after = c.next.new.self.rest in
    let steps = c.in-Some.ensures.steps in
    let all = c.args.columns.items in
    let within : c.columns.place < length all = rest_within c.columns.place all rest.items after.items c.in-Some.ends rest.len inv.1 steps.0 in (
      takes_more c.columns.place (map (λ r. r.items) all) c.in-Some.ends.items c.args.mailboxes.now.items c.columns.mailboxes.items c.take_rest_at.new.mailboxes.items
          (map (λ m. m.items) c.args.mails.now.items) (map (λ m. m.items) c.columns.mails.items) (map (λ m. m.items) c.take_rest_at.new.mails.items)
          (rest_row (λ r. r.items) c.columns.place all rest.items after.items c.in-Some.ends rest.len within inv.1 steps.0) inv.0 c.in_ok-take_rest_at.ensures,
      rest_more c.columns.place all rest.items after.items c.in-Some.ends rest.len after.len within inv.1 steps.0 steps.1,
      omega arith,
    )

pub returns : goal.returns
returns g c =
    let inv = c.columns.invariant in
    let rest = c.columns.ends-iterator.rest in
    let all = c.args.columns.items in
    let none = c.in-None.ensures.steps in
    let left = ap length inv.1.items in
    let dropped = length-drop c.columns.place all in
    let as_many = inv.1.many in
    let bound = inv.2 in
    let many = c.requires.ends.many in
    let wide = length-map all (λ r. r.items) in
    takes_each c.columns.place (map (λ r. r.items) all) c.args.mailboxes.now.items c.columns.mailboxes.items (map (λ m. m.items) c.args.mails.now.items) (map (λ m. m.items) c.columns.mails.items)
    (omega arith) inv.0

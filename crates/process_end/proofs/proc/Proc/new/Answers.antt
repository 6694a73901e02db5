use Rattle.std.proofs.Common.{[], sym, ap, subst}
use Rattle.process_end.specs.Calls.{HasAsked}
use Rattle.process_end.proofs.Opening.{asked-opened, free-opened}
use Rattle.process_end.proofs.proc.Proc.new.Goals as goal

pub invariant_of-result : goal.invariant_of-result
invariant_of-result c = free-opened c.args.parts.number c.args.parts.mailbox c.args.parts.lanes.items c.args.parts.seats.items c.args.parts.soft.items
    c.opened.result c.requires (ap (λ p. p.lanes) c.opened.ensures) (ap (λ p. p.seats) c.opened.ensures)

pub returns-clause-asked : goal.returns-clause-asked
returns-clause-asked c = subst (HasAsked []) (sym c.opened.ensures)
    (asked-opened c.args.parts.number c.args.parts.mailbox c.args.parts.lanes.items c.args.parts.seats.items c.args.parts.soft.items c.requires)

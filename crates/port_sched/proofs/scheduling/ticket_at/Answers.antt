use Rattle.std.proofs.Common.{◌∙◌, [], sym, subst}
use Rattle.std.specs.Prelude.{option_to_list}
use Rattle.run_queue.proofs.SeatLemmas.{get_written, on_none}
use Rattle.port_sched.specs.Homes.{FoundNotIdle, turns_of}
use Rattle.port_sched.proofs.HomeSteps.{use_at, home_at, no_tickets, some_ticket, if_some}
use Rattle.port_sched.proofs.scheduling.ticket_at.Goals as goal

pub next_ticket-requires : goal.next_ticket-requires
next_ticket-requires g c = (home_at c.args.homes.now.items c.args.port _ c.requires.port c.index_mut.ensures.value c.requires.homes).1

pub returns-clause-homes : goal.returns-clause-homes
returns-clause-homes g c =
    let mine = (home_at c.args.homes.now.items c.args.port _ c.requires.port c.index_mut.ensures.value c.requires.homes).0 in
    let found = c.next_ticket.result in
    use_at c.args.homes.now.items c.args.port _ _ [] (turns_of found) [] (option_to_list found)
    (no_tickets c.args.port) (some_ticket found c.args.port (if_some found (λ t is. is ∙ mine) c.next_ticket.ensures.port))
    c.requires.port c.index_mut.ensures.value c.requires.homes c.next_ticket.ensures.step

pub returns-clause-port : goal.returns-clause-port
returns-clause-port g c =
    let mine = (home_at c.args.homes.now.items c.args.port _ c.requires.port c.index_mut.ensures.value c.requires.homes).0 in
    if_some c.next_ticket.result (λ t is. is ∙ mine) c.next_ticket.ensures.port

pub returns-clause-busy : goal.returns-clause-busy
returns-clause-busy g c =
    on_none c.next_ticket.result (λ busy s e. subst FoundNotIdle (sym (get_written c.args.homes.now.items c.args.port _ s e)) busy) c.next_ticket.ensures.busy

use Rattle.ticket_account.proofs.Openings.{set_rows, set_others}
use Rattle.ticket_account.proofs.homes.give.Goals as goal

pub returns-clause-items : goal.returns-clause-items
returns-clause-items g c = set_rows (λ l. l.items) c.args.lists.now.items c.args.job _ _ c.args.seat c.requires.exists c.index_mut.ensures.value c.add.ensures.items

pub returns-clause-others : goal.returns-clause-others
returns-clause-others g c = λ n differ. set_others c.args.lists.now.items c.args.job c.add.new.all n differ

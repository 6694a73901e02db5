use Rattle.process_end.specs.Views.{proc_view}
use Rattle.process_end.proofs.Heard.{words-found}
use Rattle.process_end.proofs.sides.Sides.find_words.Goals as goal

pub invariant_of-self : goal.invariant_of-self
invariant_of-self c = (words-found c.args.self.now (proc_view c.self.inside.number c.self.inside.mailbox c.self.inside.lanes.items c.self.inside.seats.items c.self.inside.soft.items c.self.inside.receipts.items c.self.inside.undone c.self.inside.told)
    c.find_words_at.new.seats.items c.args.port c.find_words_at.result.0 c.find_words_at.result.1 c.self.view_is c.self.invariant c.requires c.find_words_at.ensures.same c.find_words_at.ensures.many c.find_words_at.ensures.finds).ports

pub returns : goal.returns
returns c = (words-found c.args.self.now (proc_view c.self.inside.number c.self.inside.mailbox c.self.inside.lanes.items c.self.inside.seats.items c.self.inside.soft.items c.self.inside.receipts.items c.self.inside.undone c.self.inside.told)
    c.find_words_at.new.seats.items c.args.port c.find_words_at.result.0 c.find_words_at.result.1 c.self.view_is c.self.invariant c.requires c.find_words_at.ensures.same c.find_words_at.ensures.many c.find_words_at.ensures.finds).found

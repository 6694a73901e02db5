use Rattle.std.proofs.Common.{◌<◌, subst, sym}
use Rattle.crossbeam_deque.specs.Injected.{injector_view}
use Rattle.run_queue.specs.Seats.{EntryKnown}
use Rattle.run_queue.proofs.Accounts.{splits}
use Rattle.run_queue.proofs.entry_seat.EntrySeat.split.Goals as goal

pub another-pass-requires-clause-rule : goal.another-pass-requires-clause-rule
another-pass-requires-clause-rule c = splits _ (injector_view c.self.inside.pass) (subst (λ (k : EntryKnown). 1 < k.hand.parts) (sym c.self.view_is) c.requires)

-- The end of a replay of a book whose histories are legal.
use Rattle.std.proofs.Common.{inl, inr, ap, ◌∙◌}
use Rattle.history_replay.specs.Laws.{LegalIsRight}
use Rattle.plain_command.specs.Ends.{cause_of}
use Rattle.plain_command.specs.Laws.{LegalBooksAreDone}

pub legal-done : LegalIsRight → LegalBooksAreDone
legal-done right command cause book ends replay legal = elim (ends.replays book replay) [
  | inl told ↦ inl (told.2 ∙ ap cause_of (right 0 _ book.ports told.0 legal told.1))
  | inr short ↦ inr short
]

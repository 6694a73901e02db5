use Rattle.history_tables.proofs.ties.PortTies.note_late.Goals as goal

pub returns-in-Process-Gone : goal.returns-in-Process-Gone
returns-in-Process-Gone c = rw (c.in-Process-Gone.is-0, c.in-Process-Gone.is-1) c.note_end.ensures

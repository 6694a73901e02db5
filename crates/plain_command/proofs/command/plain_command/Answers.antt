use Rattle.std.proofs.Common.{sym, ap}
use Rattle.plain_command.proofs.Replayed.{replay_ends}
use Rattle.plain_command.proofs.command.plain_command.Goals as goal

pub returns-in-Ok-Replay-clause-ends : goal.returns-in-Ok-Replay-clause-ends
returns-in-Ok-Replay-clause-ends g c =
    let named = rw c.in-Ok-Replay.field-0-is at (sym c.in-Ok-Replay.ensures) in
    replay_ends _ c.replay_journal.result _ c.in-Ok-Replay.journal.now (ap (λ plain. plain.cause) c.of-in-Ok-Replay.ensures) named
    c.replay_journal.ensures.files c.replay_journal.ensures.cause

use Rattle.std.proofs.Common.{◌<◌, List, length, sym, subst, arith, ◌++◌, ◌∷◌, []}
use Rattle.std.specs.Prelude.{slice_set}
use Rattle.std.proofs.lemmas.List.{get_or_read}
use Rattle.process_job.specs.declared.log.DataCount.{DataCount}
use Rattle.process_job.specs.Counts.{AreCounted}
use Rattle.process_job.proofs.Counting.{counted_set}
use Rattle.process_job.proofs.log.count.Goals as goal

pub returns-then-at-len : goal.returns-then-at-len
returns-then-at-len c = λ mails h.
    let counts : List DataCount = c.args.counts.now.items in
    let new : DataCount = record { messages = c.saturating_add.result; bytes = c.saturating_add-then-at-len.result } in
    let inside : c.in-Message.port < length counts = omega arith in
    subst (λ m. AreCounted (mails ++ m ∷ []) (slice_set counts c.in-Message.port new)) (sym c.in-Message.is)
    (counted_set mails counts c.in-Message.port c.in-Message.flag c.in-Message.bytes c.index.result.now new inside
    (λ d. sym (get_or_read counts c.in-Message.port c.index.result.now inside c.index.ensures d)) (omega arith) (omega arith) h)

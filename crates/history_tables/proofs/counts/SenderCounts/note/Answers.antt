use Rattle.std.proofs.Common.{◌≡◌, ◌∙◌, ◌+◌, ap, sym, refl, rules, arith}
use Rattle.history_tables.proofs.Keys.{counted-more}
use Rattle.history_tables.proofs.counts.SenderCounts.note.Goals as goal

pub returns : goal.returns
returns c = λ senders is. record {
  counts = counted-more c.args.from senders c.args.self.now.counts c.insert.new.self c.of.result c.in-Some.count c.of.ensures is.counts c.in_ok-insert.ensures.updates.0
      (c.in-Some.ensures.1 ∙ ap (λ n. n + 1) (c.count.ensures senders is));
}

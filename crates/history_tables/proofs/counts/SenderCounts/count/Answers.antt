use Rattle.std.proofs.Common.{◌≡◌, ◌∙◌, ap, sym, refl, rules}
use Rattle.std.specs.Option.{unwrap_or}
use Rattle.std.specs.Map.{count_at}
use Rattle.std.specs.BTreeMap.{get}
use Rattle.history_tables.specs.Keys.{key_cmp}
use Rattle.history_tables.proofs.counts.SenderCounts.count.Goals as goal

pub returns : goal.returns
returns c = λ senders is.
    c.unwrap_or.ensures ∙ (ap (λ o. unwrap_or o 0) (c.copied.ensures ∙ c.get.ensures.value)
    ∙ (ap (λ k. count_at (get key_cmp c.args.self.now.counts) k) c.of.ensures ∙ is.counts c.args.from))

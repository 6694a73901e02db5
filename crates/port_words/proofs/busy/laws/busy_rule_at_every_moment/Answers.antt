use Rattle.std.proofs.Common.{◌∙◌, sym, subst, arith, All}
use Rattle.port_words.proofs.lemmas.sums.Counting.{once_below-le}
use Rattle.port_words.specs.busy.Views.{size_of, is_add, over_senders, adds_made_by}
use Rattle.port_words.specs.busy.Stat.{stat_of, EachRises}
use Rattle.port_words.proofs.lemmas.busy.LawLemmas.{within}
use Rattle.port_words.proofs.busy.laws.busy_rule_at_every_moment.Goals as goal

pub returns-clause-stat : goal.returns-clause-stat
returns-clause-stat c setup s rule i v at is_port =
    let mine = (rule.stat.one_port i v at is_port).1 in
    (rule.stat.stat ∙ (λ k. stat_of (sym mine k)), subst (λ ms. All (λ u. EachRises ms u.senders) s.views) (sym mine) rule.stat.found)

pub returns-clause-bytes : goal.returns-clause-bytes
returns-clause-bytes c setup s rule = let bytes = rule.ledgered.bytes in let account = rule.ledgered.account size_of in omega arith

pub returns-clause-differ : goal.returns-clause-differ
returns-clause-differ c setup s rule sender place =
    let account = rule.ledgered.account (is_add sender place) in
    let places = rule.ledgered.places sender place in
    let most = once_below-le (over_senders (adds_made_by sender) s.views) place in
    omega arith

pub returns-clause-bounded : goal.returns-clause-bounded
returns-clause-bounded c setup s rule on = (within setup.limits _ _ (rule.bounded.now on), rule.level.even on, rule.bounded.unsuspended)

pub returns-clause-cause : goal.returns-clause-cause
returns-clause-cause c setup s rule on = (rule.filled.heavy on, rule.level.odd on)

pub returns-clause-climbs : goal.returns-clause-climbs
returns-clause-climbs c setup s rule = (rule.climbing.climbs, let most = rule.climbing.periods in omega arith)

pub returns-clause-words : goal.returns-clause-words
returns-clause-words c setup s rule = rule.bounded.words

pub returns-clause-filled : goal.returns-clause-filled
returns-clause-filled c setup s rule = rule.filled.filled

pub returns-clause-off : goal.returns-clause-off
returns-clause-off c setup s rule = rule.level.off

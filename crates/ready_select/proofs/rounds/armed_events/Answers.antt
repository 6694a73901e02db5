use Rattle.std.proofs.Common.{◌∙◌, ap, sym, subst, eqb}
use Rattle.std.specs.List.{dedup}
use Rattle.std.specs.List.Sorted.{IsStrictlyIncreasing}
use Rattle.std.proofs.lemmas.List.Filters.{dedup_is}
use Rattle.ready_select.specs.Sets.{has}
use Rattle.ready_select.proofs.Entries.{rising_events, has-events}
use Rattle.ready_select.proofs.rounds.armed_events.Goals as goal

pub returns-clause-each : goal.returns-clause-each
returns-clause-each c = λ event. ap (has event) (dedup_is eqb _ _ c.dedup.ensures.filtered ∙ ap (dedup eqb) c.in_ok-events.ensures) ∙ has-events event c.args.entries.now

pub returns-clause-rising : goal.returns-clause-rising
returns-clause-rising c = subst IsStrictlyIncreasing (sym (dedup_is eqb _ _ c.dedup.ensures.filtered ∙ ap (dedup eqb) c.in_ok-events.ensures)) (rising_events c.args.entries.now c.requires)

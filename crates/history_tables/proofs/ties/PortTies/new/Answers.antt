use Rattle.std.proofs.Common.{◌≡◌, rules, []}
use Rattle.std.specs.Ordering.{nat_cmp}
use Rattle.std.specs.BTreeSet.{contains}
use Rattle.port_signal.specs.Links.{has}
use Rattle.history_tables.proofs.Sets.{inserted}
use Rattle.history_tables.proofs.ties.PortTies.new.Goals as goal

pub returns : goal.returns
returns c = record {
  owner = search rules;
  linked = inserted c.args.owner c.new-linked.result c.insert.new.self [] c.in_ok-insert.ensures.updates.0 (λ p. search rules);
  ended = λ p. search rules;
}

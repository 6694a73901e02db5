use Rattle.port_words.proofs.lemmas.home.HolderLemmas.{one_runs, runs_somewhere, turns_begin_once}
use Rattle.port_words.proofs.home.laws.one_runs_at_every_moment.Goals as goal

pub returns-clause-one : goal.returns-clause-one
returns-clause-one g c = one_runs g.B.Lodged.name

pub returns-clause-some : goal.returns-clause-some
returns-clause-some g c = runs_somewhere g.B.Lodged.name

pub returns-clause-body : goal.returns-clause-body
returns-clause-body g c was seats s rule = rule.slot

pub returns-clause-once : goal.returns-clause-once
returns-clause-once g c = turns_begin_once g.B.Lodged.name

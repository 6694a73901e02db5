use Rattle.std.proofs.Common.{◌∷◌, [], Some, refl, arith}
use Rattle.port_words.specs.home.Home.{idle, queued, running}
use Rattle.port_words.specs.home.Seats.{held}
use Rattle.port_words.proofs.lemmas.home.HomeLemmas.{opens, cuts, joins, looks, queues, claims, withdraws, begins, ends}
use Rattle.port_words.proofs.home.laws.home_rule_kept_by_each_step.Goals as goal

pub returns-clause-new : goal.returns-clause-new
returns-clause-new g c seats b = opens g.B.Lodged.name b.value seats b b.value refl refl

pub returns-clause-split : goal.returns-clause-split
returns-clause-split g c was seats = cuts g.B.Lodged.name was seats

pub returns-clause-join : goal.returns-clause-join
returns-clause-join g c was seats = joins g.B.Lodged.name was seats

pub returns-clause-look : goal.returns-clause-look
returns-clause-look g c was seats slots id v own = looks g.B.Lodged.name was seats slots id (v, held v.running) own

pub returns-clause-schedule : goal.returns-clause-schedule
returns-clause-schedule g c turn below was seats slots id v own = queues g.B.Lodged.name was seats slots id (v, held v.running) (idle turn) (queued turn) own (omega arith) (omega arith) refl

pub returns-clause-claim : goal.returns-clause-claim
returns-clause-claim g c turn was seats slots id v own = claims g.B.Lodged.name was seats slots id (v, held v.running) held turn (queued turn) (running turn) refl refl own refl refl

pub returns-clause-withdraw : goal.returns-clause-withdraw
returns-clause-withdraw g c turn was seats slots id v own = withdraws g.B.Lodged.name was seats slots id (v, held v.running) held (queued turn) (running turn) refl refl own (omega arith) (omega arith)

pub returns-clause-begin : goal.returns-clause-begin
returns-clause-begin g c turn was seats slots id v own = begins g.B.Lodged.name was seats slots id (v, held v.running) held (idle turn) (running turn) refl refl own (omega arith) refl

pub returns-clause-end : goal.returns-clause-end
returns-clause-end g c was seats slots id turn v x own runs below named = ends g.B.Lodged.name was seats slots id (v, (0, Some x) ∷ []) turn x own runs below refl named

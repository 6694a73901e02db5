use Rattle.std.proofs.Common.{◌∙◌, refl}
use Rattle.ready_select.specs.Polling.{asks_of}
use Rattle.ready_select.proofs.Counting.{answered-none, answered-round, none_answered}
use Rattle.ready_select.proofs.rounds.poll_round.Goals as goal
use Rattle.ready_select.proofs.rounds.poll_round.Goals.{in-Ok, in-Err-Failed, in-Err-NoMemory}

pub returns-in-Finished-clause-answered : goal.returns-in-Finished-clause-answered
returns-in-Finished-clause-answered g c = let t = c.take_asks.ensures.took in answered-none _ _ (asks_of t.0) _ _ refl t.1.given_up

pub returns-in-NoMemory-clause-answered : goal.returns-in-NoMemory-clause-answered
returns-in-NoMemory-clause-answered g c = let t = c.take_asks.ensures.took in answered-none _ _ (asks_of t.0) _ _ refl t.1.given_up

pub returns-after-wait_once-clause-answered : goal.returns-after-wait_once-clause-answered
returns-after-wait_once-clause-answered g c =
    let t = c.take_asks.ensures.took in
    elim c.match-wait_once.branch [
      | in-Ok w ↦ let a = w.in-Ok.ensures.waited in answered-round _ _ a.events (asks_of t.0) _ _ _ _ c.take_asks.ensures.rising a.wait.3 t.1.given_up a.found_lem
      | in-Err-Failed w ↦ let r = w.in-Err-Failed.ensures.refused in answered-none _ _ (asks_of t.0) _ _ (none_answered _ _ _ _ _ r.0) (r.2 ∙ t.1.given_up)
      | in-Err-NoMemory w ↦ let r = w.in-Err-NoMemory.ensures.refused in answered-none _ _ (asks_of t.0) _ _ (none_answered _ _ _ _ _ r.0) (r.2 ∙ t.1.given_up)
    ]

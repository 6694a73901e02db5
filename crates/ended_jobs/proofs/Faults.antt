-- What the rounds of a poller do to the poll set's count of faults.
use Rattle.std.proofs.Common.{◌≡◌, List, [], ◌∷◌, ap, ◌∙◌, subst}
use Rattle.std.specs.List.{All}
use Rattle.std.proofs.lemmas.List.Elements.{All-head, All-tail}
use Rattle.outside.specs.Causes.{Rose}
use Rattle.ready_select.specs.declared.ask.Polled.TheVariants as polled
use Rattle.ready_select.specs.Polling.{Poller, IsRound}
use Rattle.run_seats.specs.run_jobs.Rounds.{FoundRound, WasRound, RoundsTo, EndsWith}

-- rounds that waited once leave it as it was
waits_keep : (rounds : List FoundRound) (old new : Poller) → RoundsTo old rounds new → All WasRound rounds → new.faults ≡ old.faults
waits_keep [] old new ran waited = ap (λ p. p.faults) ran
waits_keep (r ∷ earlier) old new ran waited =
    let last = subst (IsRound ran.0 (record new { found = r.found })) (All-head WasRound r earlier waited) ran.2 in
    last.6.wait.0 ∙ waits_keep earlier old ran.0 ran.1 (All-tail WasRound r earlier waited)

-- so do those that end in a `Finish`
pub finish_keeps : (rounds : List FoundRound) (old new : Poller) → RoundsTo old rounds new → EndsWith polled.Finished rounds → new.faults ≡ old.faults
finish_keeps [] old new ran ends = absurd ends
finish_keeps (r ∷ earlier) old new ran ends =
    let last = subst (IsRound ran.0 (record new { found = r.found })) ends.0 ran.2 in
    last.3 ∙ waits_keep earlier old ran.0 ran.1 ends.1

-- and where the last one failed, it rose
pub fault_raises : (rounds : List FoundRound) (old new : Poller) → RoundsTo old rounds new → EndsWith polled.Failed rounds → Rose old.faults new.faults
fault_raises [] old new ran ends = absurd ends
fault_raises (r ∷ earlier) old new ran ends =
    let last = subst (IsRound ran.0 (record new { found = r.found })) ends.0 ran.2 in
    subst (λ before. Rose before new.faults) (waits_keep earlier old ran.0 ran.1 ends.1) last.4

use Rattle.std.proofs.Common.{◌≡◌, ℕ, List, [], ◌∷◌, ◌++◌}
use Rattle.port_words.specs.busy.Steps.{TellsQueue, port_heard}
use Rattle.port_words.specs.busy.Known.{with_weight, EachChanged}
use Rattle.port_words.proofs.busy.port.remove.Given as goal

-- the words found so far, of which the present one is the last
abbrev pub invariant-tries : goal.invariant-tries
invariant-tries g l =
    (ns : List ℕ) × (l.seat.me ≡ (port_heard (with_weight l.fn.seat.me.0 l.fn.weight.name) (ns ++ l.word ∷ []), []))
    × TellsQueue (port_heard (with_weight l.fn.seat.me.0 l.fn.weight.name) (ns ++ l.word ∷ [])) l.word
    × (l.seat.table_id ≡ l.fn.seat.table_id) × (l.seat.id ≡ l.fn.seat.id)
    × EachChanged (ns ++ l.word ∷ [])

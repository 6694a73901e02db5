use Rattle.std.proofs.Common.{◌≡◌, ℕ, List, [], ◌∷◌, ◌++◌}
use Rattle.port_words.specs.busy.Views.{seat_view}
use Rattle.port_words.specs.busy.Steps.{TellsQueue, own, heard}
use Rattle.port_words.specs.busy.Known.{EachChanged}
use Rattle.port_words.proofs.busy.send.undo.Given as goal

-- the words found so far, of which the present one is the last
abbrev pub invariant-tries : goal.invariant-tries
invariant-tries g l =
    (ns : List ℕ) × (l.seat.me ≡ (seat_view l.setup (heard (own l.fn.seat.me.0) (ns ++ l.word ∷ [])) (l.fn.weight.name ∷ []), []))
    × TellsQueue (seat_view l.setup (heard (own l.fn.seat.me.0) (ns ++ l.word ∷ [])) (l.fn.weight.name ∷ [])) l.word
    × (l.seat.table_id ≡ l.fn.seat.table_id) × (l.seat.id ≡ l.fn.seat.id)
    × EachChanged (ns ++ l.word ∷ [])

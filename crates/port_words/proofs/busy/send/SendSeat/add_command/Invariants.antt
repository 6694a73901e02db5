use Rattle.std.proofs.Common.{◌≡◌, ℕ, List, [], ◌∷◌, ◌++◌}
use Rattle.port_words.specs.busy.Views.{seat_view}
use Rattle.port_words.specs.busy.Steps.{TellsQueue, heard}
use Rattle.port_words.specs.busy.Known.{send_known, EachChanged, LetsAdd}
use Rattle.port_words.proofs.busy.send.SendSeat.add_command.Given as goal

-- the words found so far, of which the present one is the last
abbrev pub invariant-tries : goal.invariant-tries
invariant-tries g l =
    (ns : List ℕ) × (l.self ≡ send_known l.fn.self.table l.fn.self.setup (heard l.fn.self.sender (ns ++ l.word ∷ [])))
    × TellsQueue (seat_view l.fn.self.setup (heard l.fn.self.sender (ns ++ l.word ∷ [])) []) l.word
    × EachChanged (ns ++ l.word ∷ []) × LetsAdd l.fn.how ns

-- Each row is from a sender who has an end.
use Rattle.std.proofs.Common.{List, [], ◌∷◌, ◌++◌, subst}
use Rattle.std.specs.Prelude.{All, reverse}
use Rattle.std.specs.List.{AllByRecursion}
use Rattle.std.proofs.lemmas.List.{reverse-append}
use Rattle.std.proofs.lemmas.List.Elements.{All-cons, All-nil}
use Rattle.port_lanes.specs.Keys.{Key}
use Rattle.port_model.specs.declared.row.Row.{Row}
use Rattle.port_model.specs.declared.row.Row.TheVariants.{Handled, Late, Listed, Resumed, Mark}
use Rattle.port_history.specs.Opening.{Opening}
use Rattle.port_history.specs.State.{state}
use Rattle.port_body.specs.LanePort.{HasEnd}
use Rattle.closed_ports.specs.Senders.{EveryRowIsOfAnEnd, IsOfAnEnd}

of-ends : (key : Key) (port : Opening) (history : List Row) → AllByRecursion (HasEnd key) (state port history).senders → AllByRecursion (IsOfAnEnd key) history
of-ends key port [] all = tt
of-ends key port (Handled from seq task outside effects ∷ older) all = (all.0, of-ends key port older all.1)
of-ends key port (Late from seq task ∷ older) all = (all.0, of-ends key port older all.1)
of-ends key port (Listed from seq ∷ older) all = (tt, of-ends key port older all)
of-ends key port (Resumed from seq word ∷ older) all = (tt, of-ends key port older all)
of-ends key port (Mark kind ∷ older) all = (tt, of-ends key port older all)

last-apart : {X : Type 0} (P : X → Type 0) (xs : List X) (x : X) → AllByRecursion P (xs ++ x ∷ []) → AllByRecursion P xs × P x
last-apart P [] x all = (tt, all.0)
last-apart P (y ∷ xs) x all = let rest = last-apart P xs x all.1 in ((all.0, rest.0), rest.1)

turned : {X : Type 0} (P : X → Type 0) (xs : List X) → AllByRecursion P (reverse xs) → All P xs
turned P [] all = All-nil P
turned P (x ∷ xs) all = let parts = last-apart P (reverse xs) x (subst (AllByRecursion P) (reverse-append (x ∷ []) xs) all) in All-cons P x xs parts.1 (turned P xs parts.0)

pub every-row-is-of-an-end : EveryRowIsOfAnEnd
every-row-is-of-an-end v rows outlets lane whole = turned (IsOfAnEnd lane.key) rows (of-ends lane.key v.lane_port.port.opening (reverse rows) whole.from_ends)

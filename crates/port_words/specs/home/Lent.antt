-- A body that runs a turn: whose home it is of, and how it is lent.
use Rattle.std.specs.Borrow.{Lends, MutBor, Fml}
use Rattle.atomic_table.specs.Seated.{TableId}
use denote.RattleType.{RattleType}
use Rattle.port_words.specs.declared.home.homes.Running.{Running}
use Rattle.port_words.specs.contracts.home.homes.Running.{the_row}

-- the home whose seat began the turn
abbrev pub home_of : {B : Type 0} → Running B → TableId
home_of r = r.seat.value.table_id

-- the turn ends with the body as it was left
abbrev pub LendsBody : (R : RattleType) → MutBor (Running R.Denot) → MutBor R.Denot → Fml
LendsBody R s r = Lends (the_row R) R s r (λ w. record { turn = s.now.turn; body = w; seat = s.now.seat; in_range = s.now.in_range })

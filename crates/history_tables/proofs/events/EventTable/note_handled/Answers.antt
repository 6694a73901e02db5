use Rattle.std.proofs.Common.{false, map, sym, subst}
use Rattle.port_history.specs.Events.{told_of, selected_by, deselected, stopped_by, arm, read_no_more}
use Rattle.history_tables.specs.EventsKept.{Holds}
use Rattle.history_tables.proofs.events.EventTable.note_handled.Goals as goal
use Rattle.history_tables.proofs.events.EventTable.note_handled.Goals.{then-closed, else-closed}

pub returns-then-stops : goal.returns-then-stops
returns-then-stops c = λ events is.
    let told = selected_by c.args.effects.now (told_of false c.args.signal.now events) in
    let followed : Holds c.follow.new.self told = c.in_ok-follow.ensures (told_of false c.args.signal.now events) (c.in_ok-tell.ensures events is) in
    let closed : Holds c.if-closed.self (deselected c.args.closed told) = elim c.if-closed.branch [
      | then-closed w ↦ subst (λ b. Holds c.if-closed.self (deselected b told)) (sym w.if-closed.true) (subst (λ t. Holds t (map read_no_more told)) (sym w.self-is) (w.sweep.ensures told followed))
      | else-closed w ↦ subst (λ b. Holds c.if-closed.self (deselected b told)) (sym w.if-closed.false) (subst (λ t. Holds t told) (sym w.self-is) followed)
    ] in
    let armed : Holds c.sweep-2.new.self (map arm (deselected c.args.closed told)) = c.sweep-2.ensures (deselected c.args.closed told) closed in
    subst (λ b. Holds c.sweep-then-stops.new.self (stopped_by b (map arm (deselected c.args.closed told)))) (sym c.if-stops.true) (c.sweep-then-stops.ensures (map arm (deselected c.args.closed told)) armed)

pub returns-else-stops : goal.returns-else-stops
returns-else-stops c = λ events is.
    let told = selected_by c.args.effects.now (told_of false c.args.signal.now events) in
    let followed : Holds c.follow.new.self told = c.in_ok-follow.ensures (told_of false c.args.signal.now events) (c.in_ok-tell.ensures events is) in
    let closed : Holds c.if-closed.self (deselected c.args.closed told) = elim c.if-closed.branch [
      | then-closed w ↦ subst (λ b. Holds c.if-closed.self (deselected b told)) (sym w.if-closed.true) (subst (λ t. Holds t (map read_no_more told)) (sym w.self-is) (w.sweep.ensures told followed))
      | else-closed w ↦ subst (λ b. Holds c.if-closed.self (deselected b told)) (sym w.if-closed.false) (subst (λ t. Holds t told) (sym w.self-is) followed)
    ] in
    let armed : Holds c.sweep-2.new.self (map arm (deselected c.args.closed told)) = c.sweep-2.ensures (deselected c.args.closed told) closed in
    subst (λ b. Holds c.sweep-2.new.self (stopped_by b (map arm (deselected c.args.closed told)))) (sym c.if-stops.false) armed

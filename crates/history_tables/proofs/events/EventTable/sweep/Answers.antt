use Rattle.std.proofs.Common.{◌≡◌, ◌≤◌, ◌++◌, ℕ, List, map, take, drop, length, ap, ◌∙◌, arith}
use Rattle.std.specs.Prelude.{slice_set}
use Rattle.std.proofs.lemmas.List.{take_all, drop_all, append-nil}
use Rattle.std.proofs.lemmas.List.Edits.{map_over_more}
use Rattle.history_tables.specs.EventsKept.{swept_state}
use Rattle.history_tables.proofs.EventSteps.{sweeps-all}
use Rattle.history_tables.proofs.events.EventTable.sweep.Goals as goal

all : {X : Type 0} (f : X → X) (xs : List X) (i : ℕ) → length xs ≤ i → map f (take i xs) ++ drop i xs ≡ map f xs
all f xs i past = ap (λ ys. map f (take i xs) ++ ys) (drop_all i xs past) ∙ (append-nil (map f (take i xs)) ∙ ap (map f) (take_all i xs past))

pub loop-i-preserved : goal.loop-i-preserved
loop-i-preserved c =
    ap (slice_set c.loop-i.self.used.items c.loop-i.i) c.swept.ensures
    ∙ map_over_more (swept_state c.args.sweep) c.args.self.now.used.items c.loop-i.self.used.items c.loop-i.i c.index-state.result.now
    (omega (arith, c.args.self.now.used.ok.0)) c.loop-i.invariant c.index-state.ensures

pub returns : goal.returns
returns c =
    sweeps-all c.args.sweep c.args.self.now c.loop-i.self
    (c.loop-i.invariant ∙ all (swept_state c.args.sweep) c.args.self.now.used.items c.loop-i.i (omega (arith, c.args.self.now.used.ok.0)))

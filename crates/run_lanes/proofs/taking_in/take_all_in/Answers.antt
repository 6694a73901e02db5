use Rattle.std.proofs.Common.{◌≡◌, ◌∙◌, length, sym, ap, arith}
use Rattle.std.proofs.lemmas.List.Elements.{All-tail, All-same}
use Rattle.run_lanes.specs.Ends.{taken_in}
use Rattle.run_lanes.proofs.Ends.{ended_next}
use Rattle.run_lanes.proofs.taking_in.take_all_in.Goals as goal

pub ends-preserved : goal.ends-preserved
ends-preserved g c =
    let inv = c.ends.invariant in
    let steps = c.in-Some.ensures.steps in
    let rest = c.next.new.self.rest.items in
    let all = All-same (λ e. e.lane ≡ c.args.taker.now.lane) _ _ (sym steps.0) inv.2 in
    let items = ap length steps.0 in
    let one = steps.1 in
    let was = inv.1 in (
      ap (λ t. taken_in t rest) c.take_in.ensures ∙ ap (λ l. record c.ends.taker { ended = l }) (sym (ended_next c.ends.taker c.in-Some.end rest c.ends.end-iterator.rest.items steps.0)) ∙ inv.0,
      omega arith,
      All-tail (λ e. e.lane ≡ c.args.taker.now.lane) c.in-Some.end rest all,
      ap (λ t. t.lane) c.take_in.ensures ∙ inv.3,
    )

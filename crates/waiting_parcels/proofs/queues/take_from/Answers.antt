use Rattle.std.proofs.Common.{◌≡◌, true, false, length, ap, ◌∙◌, sym, arith, eqb}
use Rattle.std.specs.Prelude.{swap_remove}
use Rattle.std.proofs.lemmas.List.{get_or_default}
use Rattle.std.proofs.lemmas.Bool.{cond-true, cond-false}
use Rattle.waiting_parcels.proofs.Places.{is-taken}
use Rattle.waiting_parcels.proofs.queues.take_from.Goals as goal

pub returns-then-is_empty : goal.returns-then-is_empty
returns-then-is_empty c =
    let at = c.index.ensures ∙ get_or_default c.args.waiting.now.items c.args.place c.index.result.now 0 c.requires.within in
    let removed = c.swap_remove.ensures.value ∙ get_or_default c.args.waiting.now.items c.args.place c.swap_remove.result 0 c.requires.within in
    let empty : eqb (length c.pop_front.new.self.items) 0 ≡ true = sym (c.is_empty.ensures ∙ ap (λ n. eqb n 0) c.pop_front.new.self.ok.0) ∙ c.if-is_empty.true in
    is-taken c.args.queues.now c.args.waiting.now.items c.swap_remove.new.self.items c.args.place c.index.result.now c.index-queues-index.result c.pop_front.new.self c.in-Some.arrival
    at (omega (arith, at, c.requires.known)) c.in-Some.ensures.items
    (c.swap_remove.ensures.items ∙ (ap (swap_remove c.args.waiting.now.items c.args.place) (removed ∙ sym at) ∙ sym (cond-true (eqb (length c.pop_front.new.self.items) 0) _ _ empty)))

pub returns-else-is_empty : goal.returns-else-is_empty
returns-else-is_empty c =
    let at = c.index.ensures ∙ get_or_default c.args.waiting.now.items c.args.place c.index.result.now 0 c.requires.within in
    let some : eqb (length c.pop_front.new.self.items) 0 ≡ false = sym (c.is_empty.ensures ∙ ap (λ n. eqb n 0) c.pop_front.new.self.ok.0) ∙ c.if-is_empty.false in
    is-taken c.args.queues.now c.args.waiting.now.items c.args.waiting.now.items c.args.place c.index.result.now c.index-queues-index.result c.pop_front.new.self c.in-Some.arrival
    at (omega (arith, at, c.requires.known)) c.in-Some.ensures.items (sym (cond-false (eqb (length c.pop_front.new.self.items) 0) _ _ some))

use Rattle.std.proofs.Common.{◌≡◌, List, [], ◌∷◌, ◌++◌, map, length, sym, ap, ◌∙◌, arith, append_assoc}
use Rattle.std.proofs.lemmas.List.{map-append}
use Rattle.std.proofs.lemmas.List.Elements.{All-tail, All-same}
use Rattle.port_words.specs.declared.busy.view.BusyView.{BusyView}
use Rattle.port_words.specs.busy.Known.{SendKnown, port_known, with_sender}
use Rattle.run_end.specs.Words.{IsOfTable, with_senders}
use Rattle.run_end.proofs.words.join_seats.Goals as goal

senders-more : (v : BusyView) (done : List SendKnown) (s : SendKnown) → with_sender (with_senders v done) s.sender ≡ with_senders v (done ++ s ∷ [])
senders-more v done s =
    ap (λ l. record v { senders = l }) (append_assoc v.senders (map (λ x. x.sender) done) (s.sender ∷ []) ∙ ap (λ l. v.senders ++ l) (sym (map-append (λ x. x.sender) done (s ∷ []))))

pub seats-preserved : goal.seats-preserved
seats-preserved c =
    let inv = c.seats.invariant in
    let steps = c.in-Some.ensures.steps in
    let seat = c.in-Some.seat in
    let rest = c.next.new.self.rest.items in
    let table = c.args.port.now.table in
    let v = c.args.port.now.known in (
      (
        inv.0.0 ++ seat ∷ [],
        append_assoc inv.0.0 (seat ∷ []) rest ∙ (ap (λ l. inv.0.0 ++ l) (sym steps.0) ∙ inv.0.1),
        c.join.ensures.seat ∙ (ap (λ p. port_known p.table (with_sender p.known seat.sender)) inv.0.2 ∙ ap (λ k. port_known table k) (senders-more v inv.0.0 seat)),
      ),
      (let e = ap length steps.0 in let one = steps.1 in let was = inv.1 in omega arith),
      All-tail (IsOfTable c.args.port.now) seat rest (All-same (IsOfTable c.args.port.now) _ _ (sym steps.0) inv.2),
    )

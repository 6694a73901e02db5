use Rattle.std.proofs.Common.{◌≡◌, suc, ◌++◌, ◌∷◌, [], Some, length, slice_get, sym, ap, ◌∙◌, arith, length-append, append_assoc, append-nil}
use Rattle.std.proofs.lemmas.Option.{slice_get_within}
use Rattle.run_queue.specs.Seats.{joined_deque, changed_at}
use Rattle.run_queue.proofs.SeatLemmas.{joined_from, joined_none, joined_one, joined_length, unjoined, get_middle}
use Rattle.run_queue.proofs.run_seat.join_each.Goals as goal

pub deques-init : goal.deques-init
deques-init c =
    let vs = c.args.deques.now.items in
    let ws = c.args.others.items in
    (sym (ap (λ m. joined_from m vs ws) c.requires.0 ∙ joined_none vs ws), ([], append-nil ws))

pub join_at-requires-clause-join : goal.join_at-requires-clause-join
join_at-requires-clause-join c =
    let vs = c.args.deques.now.items in
    let ws = c.args.others.items in
    let rest = c.pop.new.self.items in
    let other = c.in-Some.other in
    let n = length rest in
    let done = c.deques.invariant.1.0 in
    let size : length c.deques.others.items ≡ suc n = (let e = ap length c.in-Some.ensures.items in let a = length-append rest (other ∷ []) in omega arith) in
    let here : slice_get ws n ≡ Some other = ap (λ l. slice_get l n) (sym c.deques.invariant.1.1) ∙ ap (λ l. slice_get (l ++ done) n) c.in-Some.ensures.items ∙ get_middle rest other done in
    let mine : c.deques.deques.items ≡ joined_from (suc n) vs ws = c.deques.invariant.0 ∙ ap (λ m. joined_from m vs ws) size in
    let len : c.len.result ≡ n = c.len.ensures ∙ c.pop.new.self.ok.0 in
    λ k e. c.requires.1 n k other (unjoined n vs ws k (ap (λ l. slice_get l n) (sym mine) ∙ ap (λ m. slice_get c.deques.deques.items m) (sym len) ∙ e)) here

pub join_at-requires-clause-exists : goal.join_at-requires-clause-exists
join_at-requires-clause-exists c =
    let vs = c.args.deques.now.items in
    let ws = c.args.others.items in
    let rest = c.pop.new.self.items in
    let other = c.in-Some.other in
    let n = length rest in
    let done = c.deques.invariant.1.0 in
    let here : slice_get ws n ≡ Some other = ap (λ l. slice_get l n) (sym c.deques.invariant.1.1) ∙ ap (λ l. slice_get (l ++ done) n) c.in-Some.ensures.items ∙ get_middle rest other done in
    let len : c.len.result ≡ n = c.len.ensures ∙ c.pop.new.self.ok.0 in
    let within = slice_get_within ws n other here in
    let one = ap length c.deques.invariant.0 in
    let two = joined_length (length c.deques.others.items) vs ws in
    let three = c.requires.0 in
    omega arith

pub deques-preserved : goal.deques-preserved
deques-preserved c =
    let vs = c.args.deques.now.items in
    let ws = c.args.others.items in
    let rest = c.pop.new.self.items in
    let other = c.in-Some.other in
    let n = length rest in
    let done = c.deques.invariant.1.0 in
    let size : length c.deques.others.items ≡ suc n = (let e = ap length c.in-Some.ensures.items in let a = length-append rest (other ∷ []) in omega arith) in
    let here : slice_get ws n ≡ Some other = ap (λ l. slice_get l n) (sym c.deques.invariant.1.1) ∙ ap (λ l. slice_get (l ++ done) n) c.in-Some.ensures.items ∙ get_middle rest other done in
    let mine : c.deques.deques.items ≡ joined_from (suc n) vs ws = c.deques.invariant.0 ∙ ap (λ m. joined_from m vs ws) size in
    let len : c.len.result ≡ n = c.len.ensures ∙ c.pop.new.self.ok.0 in (
      c.join_at.ensures ∙ ap (λ m. changed_at (λ k. joined_deque k other) m c.deques.deques.items) len ∙ ap (changed_at (λ k. joined_deque k other) n) mine ∙ joined_one n vs ws other c.requires.0 here,
      (other ∷ done, sym (append_assoc rest (other ∷ []) done) ∙ ap (λ l. l ++ done) (sym c.in-Some.ensures.items) ∙ c.deques.invariant.1.1),
    )

use Rattle.std.proofs.Common.{◌≡◌, suc, ◌++◌, ◌∷◌, [], Some, length, slice_get, sym, ap, ◌∙◌, arith, length-append, append_assoc, append-nil}
use Rattle.std.proofs.lemmas.Option.{slice_get_within}
use Rattle.run_queue.specs.Seats.{changed_at}
use Rattle.run_queue.proofs.SeatLemmas.{get_middle}
use Rattle.port_sched.specs.Closing.{joined_home}
use Rattle.port_sched.proofs.Closings.{joined_from, joined_none, joined_one, joined_length, unjoined}
use Rattle.port_sched.proofs.closing.join_homes.Goals as goal

pub homes-init : goal.homes-init
homes-init g c =
    let vs = c.args.homes.now.items in
    let ws = c.args.others.items in
    (sym (ap (λ m. joined_from m vs ws) c.requires.0 ∙ joined_none vs ws), ([], append-nil ws))

pub join_at-requires-clause-join : goal.join_at-requires-clause-join
join_at-requires-clause-join g c =
    let vs = c.args.homes.now.items in
    let ws = c.args.others.items in
    let rest = c.pop.new.self.items in
    let other = c.in-Some.other in
    let n = length rest in
    let done = c.homes.invariant.1.0 in
    let size : length c.homes.others.items ≡ suc n = (let e = ap length c.in-Some.ensures.items in let a = length-append rest (other ∷ []) in omega arith) in
    let here : slice_get ws n ≡ Some other = ap (λ l. slice_get l n) (sym c.homes.invariant.1.1) ∙ ap (λ l. slice_get (l ++ done) n) c.in-Some.ensures.items ∙ get_middle rest other done in
    let mine : c.homes.homes.items ≡ joined_from (suc n) vs ws = c.homes.invariant.0 ∙ ap (λ m. joined_from m vs ws) size in
    let len : c.len.result ≡ n = c.len.ensures ∙ c.pop.new.self.ok.0 in
    λ k e. c.requires.1 n k other (unjoined n vs ws k (ap (λ l. slice_get l n) (sym mine) ∙ ap (λ m. slice_get c.homes.homes.items m) (sym len) ∙ e)) here

pub join_at-requires-clause-exists : goal.join_at-requires-clause-exists
join_at-requires-clause-exists g c =
    let vs = c.args.homes.now.items in
    let ws = c.args.others.items in
    let rest = c.pop.new.self.items in
    let other = c.in-Some.other in
    let n = length rest in
    let done = c.homes.invariant.1.0 in
    let here : slice_get ws n ≡ Some other = ap (λ l. slice_get l n) (sym c.homes.invariant.1.1) ∙ ap (λ l. slice_get (l ++ done) n) c.in-Some.ensures.items ∙ get_middle rest other done in
    let len : c.len.result ≡ n = c.len.ensures ∙ c.pop.new.self.ok.0 in
    let within = slice_get_within ws n other here in
    let one = ap length c.homes.invariant.0 in
    let two = joined_length (length c.homes.others.items) vs ws in
    let three = c.requires.0 in
    omega arith

pub homes-preserved : goal.homes-preserved
homes-preserved g c =
    let vs = c.args.homes.now.items in
    let ws = c.args.others.items in
    let rest = c.pop.new.self.items in
    let other = c.in-Some.other in
    let n = length rest in
    let done = c.homes.invariant.1.0 in
    let size : length c.homes.others.items ≡ suc n = (let e = ap length c.in-Some.ensures.items in let a = length-append rest (other ∷ []) in omega arith) in
    let here : slice_get ws n ≡ Some other = ap (λ l. slice_get l n) (sym c.homes.invariant.1.1) ∙ ap (λ l. slice_get (l ++ done) n) c.in-Some.ensures.items ∙ get_middle rest other done in
    let mine : c.homes.homes.items ≡ joined_from (suc n) vs ws = c.homes.invariant.0 ∙ ap (λ m. joined_from m vs ws) size in
    let len : c.len.result ≡ n = c.len.ensures ∙ c.pop.new.self.ok.0 in (
      c.join_at.ensures ∙ ap (λ m. changed_at (λ s. joined_home s other) m c.homes.homes.items) len ∙ ap (changed_at (λ s. joined_home s other) n) mine ∙ joined_one n vs ws other c.requires.0 here,
      (other ∷ done, sym (append_assoc rest (other ∷ []) done) ∙ ap (λ l. l ++ done) (sym c.in-Some.ensures.items) ∙ c.homes.invariant.1.1),
    )

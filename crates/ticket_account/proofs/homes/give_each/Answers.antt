use Rattle.std.proofs.Common.{◌≡◌, ◌+◌, ◌∷◌, ◌++◌, [], map, length, sym, ap, ◌∙◌, arith, add-one, length-append}
use Rattle.run_queue.specs.Seats.{changed_at}
use Rattle.run_queue.proofs.OpeningLemmas.{length_changed}
use Rattle.ticket_account.proofs.Seats.{map_length}
use Rattle.ticket_account.proofs.Openings.{given, given_next, given_all, pop_alike}
use Rattle.ticket_account.proofs.homes.give_each.Goals as goal

pub jobs-preserved : goal.jobs-preserved
jobs-preserved g c =
    let inv = c.jobs.invariant in
    let rest = c.pop.new.self.items in
    let seat = c.in-Some.seat in
    let taken = c.in-Some.ensures.items in
    let given_now = c.give.ensures.items in
    let size : length c.jobs.seats.items ≡ length rest + 1 = ap length taken ∙ length-append rest (seat ∷ []) in (
      sym (map_length (λ v. v.items) c.give.new.lists.items) ∙ ap length given_now ∙ length_changed (λ row. row ++ seat ∷ []) (map (λ v. v.items) c.jobs.lists.items) c.jobs.job
          ∙ map_length (λ v. v.items) c.jobs.lists.items ∙ inv.0,
      (let s = inv.1 in omega arith),
      (λ n from. c.give.ensures.others n (λ same. absurd (omega arith)) ∙ inv.2 n (omega arith)),
      (λ room all. c.give.ensures.capacity room (inv.3 room all)),
      λ s alike.
          let before = inv.4 s alike in
          let one = pop_alike (length c.jobs.seats.items) rest seat s (sym taken ∙ before.0) in (
            one.1,
            given_now ∙ ap (λ x. changed_at (λ row. row ++ x ∷ []) c.jobs.job (map (λ v. v.items) c.jobs.lists.items)) one.0
                ∙ ap (changed_at (λ row. row ++ s ∷ []) c.jobs.job) before.1
                ∙ given_next c.jobs.job s (map (λ v. v.items) c.args.lists.now.items)
                ∙ ap (λ n. given n s (map (λ v. v.items) c.args.lists.now.items)) (sym (add-one c.jobs.job)),
          ),
    )

pub returns-clause-each : goal.returns-clause-each
returns-clause-each g c = λ s alike.
    let inv = c.jobs.invariant in
    let before = inv.4 s alike in
    let all = map (λ v. v.items) c.args.lists.now.items in
    let many = map_length (λ v. v.items) c.args.lists.now.items in
    let len = c.len-job-end.ensures in
    let size = c.args.lists.now.ok.0 in
    let out = c.jobs-test.false in
    let within = c.jobs.auto.job-end in
    before.1 ∙ given_all c.jobs.job s all (omega arith)

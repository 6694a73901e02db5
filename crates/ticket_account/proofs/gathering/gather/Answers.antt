use Rattle.std.proofs.Common.{◌≡◌, ◌∷◌, [], length, sym, ap, subst, append-nil, arith}
use Rattle.ticket_account.proofs.Gathered.{Gathered, next_of, gathered_last, gathered_more, gathered_job, gathered_every, gathered_whole, gathered_homes, gathered_settled, can_join_part, can_join_job, all_schedulers, all_jobs}
use Rattle.ticket_account.proofs.gathering.gather.Goals as goal

pub schedulers-init : goal.schedulers-init
schedulers-init g c =
    let rest = c.pop.new.self.items in
    let last = c.in-Some.last in
    let next = next_of c.args.schedulers.items rest [] c.args.schedulers.items last c.in-Some.ensures.items (append-nil c.args.schedulers.items) in
    (last ∷ [], next.2, λ run. gathered_last run last (length rest) next.0 (sym next.1))

pub join-requires-clause-homes : goal.join-requires-clause-homes
join-requires-clause-homes g c =
    let inv = c.schedulers.invariant in
    let rest = c.pop-in-schedulers.new.self.items in
    let other = c.in-Some-pop.other in
    let next = next_of c.schedulers.schedulers.items rest inv.0 c.args.schedulers.items other c.in-Some-pop.ensures.items inv.1 in
    (can_join_part c.requires inv.0 (length rest) c.schedulers.all other next.0
    (subst (λ n. Gathered c.requires inv.0 [] n (length c.args.jobs.items) c.schedulers.all) next.1 (inv.2 c.requires))).0

pub join-requires-clause-run : goal.join-requires-clause-run
join-requires-clause-run g c =
    let inv = c.schedulers.invariant in
    let rest = c.pop-in-schedulers.new.self.items in
    let other = c.in-Some-pop.other in
    let next = next_of c.schedulers.schedulers.items rest inv.0 c.args.schedulers.items other c.in-Some-pop.ensures.items inv.1 in
    (can_join_part c.requires inv.0 (length rest) c.schedulers.all other next.0
    (subst (λ n. Gathered c.requires inv.0 [] n (length c.args.jobs.items) c.schedulers.all) next.1 (inv.2 c.requires))).1

pub join-requires-clause-over : goal.join-requires-clause-over
join-requires-clause-over g c =
    let inv = c.schedulers.invariant in
    let rest = c.pop-in-schedulers.new.self.items in
    let other = c.in-Some-pop.other in
    let next = next_of c.schedulers.schedulers.items rest inv.0 c.args.schedulers.items other c.in-Some-pop.ensures.items inv.1 in
    (can_join_part c.requires inv.0 (length rest) c.schedulers.all other next.0
    (subst (λ n. Gathered c.requires inv.0 [] n (length c.args.jobs.items) c.schedulers.all) next.1 (inv.2 c.requires))).2

pub schedulers-preserved : goal.schedulers-preserved
schedulers-preserved g c =
    let inv = c.schedulers.invariant in
    let rest = c.pop-in-schedulers.new.self.items in
    let other = c.in-Some-pop.other in
    let next = next_of c.schedulers.schedulers.items rest inv.0 c.args.schedulers.items other c.in-Some-pop.ensures.items inv.1 in (
      other ∷ inv.0,
      next.2,
      λ run. gathered_more run inv.0 (length rest) c.schedulers.all c.join.new.self other next.0
          (subst (λ n. Gathered run inv.0 [] n (length c.args.jobs.items) c.schedulers.all) next.1 (inv.2 run))
          c.join.ensures.homes c.join.ensures.run (ap (λ k. k.word) c.join.ensures.over),
    )

pub jobs-init : goal.jobs-init
jobs-init g c =
    let inv = c.schedulers.invariant in
    let none : length c.schedulers.schedulers.items ≡ 0 = (let e = c.in_default-pop.ensures.cases.0 in let l = c.schedulers.schedulers.ok.0 in omega arith) in
    ([], append-nil c.args.jobs.items, λ run. all_schedulers run inv.0 c.schedulers.schedulers.items c.schedulers.all inv.1 none (inv.2 run))

pub join_job-requires-clause-homes : goal.join_job-requires-clause-homes
join_job-requires-clause-homes g c =
    let inv = c.jobs.invariant in
    let rest = c.pop-in-jobs.new.self.items in
    let job = c.in-Some-pop-2.job in
    let next = next_of c.jobs.jobs.items rest inv.0 c.args.jobs.items job c.in-Some-pop-2.ensures.items inv.1 in
    (can_join_job c.requires c.args.schedulers.items inv.0 (length rest) c.jobs.all job next.0
    (subst (λ n. Gathered c.requires c.args.schedulers.items inv.0 0 n c.jobs.all) next.1 (inv.2 c.requires))).0

pub join_job-requires-clause-entry : goal.join_job-requires-clause-entry
join_job-requires-clause-entry g c =
    let inv = c.jobs.invariant in
    let rest = c.pop-in-jobs.new.self.items in
    let job = c.in-Some-pop-2.job in
    let next = next_of c.jobs.jobs.items rest inv.0 c.args.jobs.items job c.in-Some-pop-2.ensures.items inv.1 in
    (can_join_job c.requires c.args.schedulers.items inv.0 (length rest) c.jobs.all job next.0
    (subst (λ n. Gathered c.requires c.args.schedulers.items inv.0 0 n c.jobs.all) next.1 (inv.2 c.requires))).1

pub jobs-preserved : goal.jobs-preserved
jobs-preserved g c =
    let inv = c.jobs.invariant in
    let rest = c.pop-in-jobs.new.self.items in
    let job = c.in-Some-pop-2.job in
    let next = next_of c.jobs.jobs.items rest inv.0 c.args.jobs.items job c.in-Some-pop-2.ensures.items inv.1 in (
      job ∷ inv.0,
      next.2,
      λ run. gathered_job run c.args.schedulers.items inv.0 (length rest) c.jobs.all c.join_job.new.self job next.0
          (subst (λ n. Gathered run c.args.schedulers.items inv.0 0 n c.jobs.all) next.1 (inv.2 run))
          c.join_job.ensures.homes c.join_job.ensures.run (ap (λ k. k.word) c.join_job.ensures.over),
    )

pub close-requires : goal.close-requires
close-requires g c =
    let inv = c.jobs.invariant in
    let none : length c.jobs.jobs.items ≡ 0 = (let e = c.in_default-pop-2.ensures.cases.0 in let l = c.jobs.jobs.ok.0 in omega arith) in
    gathered_every c.requires _ _ c.jobs.all (all_jobs c.requires inv.0 c.jobs.jobs.items c.jobs.all inv.1 none (inv.2 c.requires))

pub returns-clause-whole : goal.returns-clause-whole
returns-clause-whole g c =
    let inv = c.jobs.invariant in
    let none : length c.jobs.jobs.items ≡ 0 = (let e = c.in_default-pop-2.ensures.cases.0 in let l = c.jobs.jobs.ok.0 in omega arith) in
    gathered_whole c.requires c.jobs.all (all_jobs c.requires inv.0 c.jobs.jobs.items c.jobs.all inv.1 none (inv.2 c.requires))

pub returns-clause-homes : goal.returns-clause-homes
returns-clause-homes g c =
    let inv = c.jobs.invariant in
    let none : length c.jobs.jobs.items ≡ 0 = (let e = c.in_default-pop-2.ensures.cases.0 in let l = c.jobs.jobs.ok.0 in omega arith) in
    gathered_homes c.jobs.all (λ run. all_jobs run inv.0 c.jobs.jobs.items c.jobs.all inv.1 none (inv.2 run))

pub returns-clause-tickets : goal.returns-clause-tickets
returns-clause-tickets g c =
    let inv = c.jobs.invariant in
    let none : length c.jobs.jobs.items ≡ 0 = (let e = c.in_default-pop-2.ensures.cases.0 in let l = c.jobs.jobs.ok.0 in omega arith) in
    gathered_settled c.requires c.jobs.all (all_jobs c.requires inv.0 c.jobs.jobs.items c.jobs.all inv.1 none (inv.2 c.requires)) c.close.ensures.0 c.close.ensures.1

use Rattle.std.proofs.Common.{◌≡◌, ◌+◌, ◌++◌, [], ◌∷◌, List, map, length, sym, ap, ◌∙◌, subst, arith, length-append, append_assoc, append-nil}
use Rattle.ticket_account.specs.Opening.{HomesOfBodies}
use Rattle.ticket_account.proofs.Gathered.{nil_of}
use Rattle.ticket_account.proofs.Openings.{pop_row}
use Rattle.ticket_account.proofs.Seats.{map_length}
use Rattle.ticket_account.proofs.Returning.{GiveAll, unjoined_last, unjoined_more, can_join_next, all_give, give_size, give_next, given}
use Rattle.ticket_account.proofs.homes.take_back.Goals as goal

pub jobs-init : goal.jobs-init
jobs-init g c =
    let rest = c.pop.new.self.items in
    let all = c.in-Some.all in
    let taken = c.in-Some.ensures.items in
    let size : length c.args.lists.items ≡ length rest + 1 = ap length taken ∙ length-append rest (all ∷ []) in (
      omega arith,
      λ bodies homes.
          let row = pop_row (λ v. v.items) c.args.lists.items rest all homes.2.row taken homes.2.same in
          unjoined_last homes.0 (length c.args.lists.items) (map (λ v. v.items) c.args.lists.items) (map (λ v. v.items) rest) all.items homes.2 row.0 row.1
          (let m = map_length (λ v. v.items) rest in omega arith),
    )

pub join_homes-requires : goal.join_homes-requires
join_homes-requires g c =
    let un = c.jobs.invariant.1 c.requires.homes.0 c.requires.homes.1 in
    let row = pop_row (λ v. v.items) c.jobs.lists.items c.pop-in-jobs.new.self.items c.in-Some-pop.others un.row c.in-Some-pop.ensures.items un.rest in
    can_join_next _ (length c.args.lists.items) (map (λ v. v.items) c.jobs.lists.items) c.jobs.all.items c.in-Some-pop.others.items un row.1

pub jobs-preserved : goal.jobs-preserved
jobs-preserved g c =
    let rest = c.pop-in-jobs.new.self.items in
    let others = c.in-Some-pop.others in
    let taken = c.in-Some-pop.ensures.items in
    let size : length c.jobs.lists.items ≡ length rest + 1 = ap length taken ∙ length-append rest (others ∷ []) in
    let few = c.jobs.invariant.0 in (
      omega arith,
      λ bodies homes.
          let un = c.jobs.invariant.1 bodies homes in
          let row = pop_row (λ v. v.items) c.jobs.lists.items rest others un.row taken un.rest in
          let m = map_length (λ v. v.items) rest in
          let n = map_length (λ v. v.items) c.jobs.lists.items in
          unjoined_more homes.0 (length c.args.lists.items) (map (λ v. v.items) c.jobs.lists.items) (map (λ v. v.items) rest) c.jobs.all.items others.items c.join_homes.new.homes.items un row.0 row.1
          (omega arith) (omega arith) c.join_homes.ensures,
    )

pub homes-init : goal.homes-init
homes-init g c =
    let gives = c.into_iter-home-iterator.ensures.into_iter_gives in
    let none : length (map (λ v. v.items) c.jobs.lists.items) ≡ 0 =
    (let e = c.in_default-pop.ensures.cases.0 in let l = c.jobs.lists.ok.0 in let m = map_length (λ v. v.items) c.jobs.lists.items in omega arith) in
    let each = λ (bodies : List _) (homes : HomesOfBodies (length c.args.lists.items) bodies (map (λ v. v.items) c.args.lists.items)).
    let give = all_give homes.0 (length c.args.lists.items) (map (λ v. v.items) c.jobs.lists.items) c.jobs.all.items (c.jobs.invariant.1 bodies homes) none in
    subst (λ b. GiveAll b c.jobs.all.items) homes.1 give in
    let count = give_size c.requires.homes.0 c.jobs.all.items (each c.requires.homes.0 c.requires.homes.1) in
    let room = c.requires.homes.2 in (
      gives.1 ∙ c.jobs.all.ok.0 ∙ ap length (sym gives.0),
      (let len = gives.1 in let size = c.jobs.all.ok.0 in omega arith),
      omega arith,
      λ bodies homes. ([], bodies, sym (append-nil c.args.back.now.items), (λ i. bodies), subst (GiveAll bodies) (sym gives.0) (each bodies homes)),
    )

pub close_home-requires-clause-all : goal.close_home-requires-clause-all
close_home-requires-clause-all g c =
    let inv = c.homes.invariant.3 c.requires.homes.0 c.requires.homes.1 in
    (give_next inv.1 c.in-Some-home.home c.next.new.self.rest.items (subst (GiveAll inv.1) c.in-Some-home.ensures.steps.0 inv.4)).3.whole.0

pub close_home-requires-clause-idle : goal.close_home-requires-clause-idle
close_home-requires-clause-idle g c =
    let inv = c.homes.invariant.3 c.requires.homes.0 c.requires.homes.1 in
    (give_next inv.1 c.in-Some-home.home c.next.new.self.rest.items (subst (GiveAll inv.1) c.in-Some-home.ensures.steps.0 inv.4)).3.whole.1

pub add-requires : goal.add-requires
add-requires g c =
    let one = c.in-Some-home.ensures.steps.1 in
    let room = c.homes.invariant.1 in
    omega arith

pub homes-preserved : goal.homes-preserved
homes-preserved g c =
    let inv = c.homes.invariant in
    let steps = c.in-Some-home.ensures.steps in
    let home = c.in-Some-home.home in
    let body = c.close_home.result.body in
    let rest = c.next.new.self.rest.items in
    let one = steps.1 in
    let was = inv.0 in
    let room = inv.1 in
    let capacity = inv.2 in
    let len = c.add.ensures.len in
    let grown = c.add.ensures.capacity in (
      (let e = ap length steps.0 in omega arith),
      omega arith,
      omega arith,
      λ bodies homes.
          let so_far = inv.3 bodies homes in
          let next = give_next so_far.1 home rest (subst (GiveAll so_far.1) steps.0 so_far.4) in
          let same : body ≡ next.0 = given next.0 home c.close_home.result next.3 c.close_home.ensures.1 in (
            so_far.0 ++ body ∷ [],
            next.1,
            c.add.ensures.items ∙ ap (λ l. l ++ body ∷ []) so_far.2 ∙ append_assoc c.args.back.now.items so_far.0 (body ∷ []),
            append_assoc so_far.0 (body ∷ []) next.1 ∙ ap (λ b. so_far.0 ++ (b ∷ next.1)) same ∙ ap (λ l. so_far.0 ++ l) (sym next.2) ∙ so_far.3,
            next.4,
          ),
    )

pub returns-clause-bodies : goal.returns-clause-bodies
returns-clause-bodies g c = λ bodies homes.
    let inv = c.homes.invariant in
    let so_far = inv.3 bodies homes in
    let none : length c.homes.home-iterator.rest.items ≡ 0 = sym inv.0 ∙ c.in-None.ensures.steps.0 in
    let size = give_size so_far.1 c.homes.home-iterator.rest.items so_far.4 in
    let left : so_far.1 ≡ [] = nil_of so_far.1 (omega arith) in
    so_far.2 ∙ ap (λ l. c.args.back.now.items ++ l) (sym (append-nil so_far.0) ∙ ap (λ l. so_far.0 ++ l) (sym left) ∙ so_far.3)

pub returns-clause-capacity : goal.returns-clause-capacity
returns-clause-capacity g c = c.homes.invariant.2

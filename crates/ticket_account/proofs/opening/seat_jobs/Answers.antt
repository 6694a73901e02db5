use Rattle.std.proofs.Common.{◌≡◌, ◌∷◌, ◌++◌, [], false, length, sym, refl, ap, ◌∙◌, subst, arith, length-append, append_assoc, append-nil}
use Rattle.ticket_account.specs.Opening.{AreJobSeats}
use Rattle.ticket_account.proofs.Gathered.{nil_of}
use Rattle.ticket_account.proofs.Openings.{pop_row, jobs_none, jobs_more}
use Rattle.ticket_account.proofs.opening.seat_jobs.Goals as goal

pub entries-init : goal.entries-init
entries-init g c =
    let gives = c.into_iter-entry-iterator.ensures.into_iter_gives in
    let size = c.args.entries.ok.0 in
    let len = gives.1 in
    let count = ap length gives.0 in
    let room = c.requires.room.1 in
    let empty = ap length c.requires.room.0 in
    let all = c.args.all.ok.0 in (
      [],
      gives.0,
      omega arith,
      omega arith,
      (λ row rows. (subst (AreJobSeats [] row) (sym c.requires.room.0) (jobs_none row), rows)),
      omega arith,
    )

pub add-requires : goal.add-requires
add-requires g c =
    let room = c.entries.invariant.5 in
    let one = c.in-Some.ensures.steps.1 in
    omega arith

pub entries-preserved : goal.entries-preserved
entries-preserved g c =
    let inv = c.entries.invariant in
    let steps = c.in-Some.ensures.steps in
    let entry = c.in-Some.entry in
    let rest = c.next.new.self.rest.items in
    let homes = c.in-Some-pop.homes in
    let lists = ap length c.in-Some-pop.ensures.items in
    let lists_more = length-append c.pop.new.self.items (homes ∷ []) in
    let done_more = length-append inv.0 (entry ∷ []) in
    let items = ap length steps.0 in
    let one = steps.1 in
    let was = inv.2 in
    let l = inv.3 in (
      inv.0 ++ entry ∷ [],
      append_assoc inv.0 (entry ∷ []) rest ∙ ap (λ xs. inv.0 ++ xs) (sym steps.0) ∙ inv.1,
      omega arith,
      omega arith,
      λ row rows.
          let before = inv.4 row rows in
          let mine = pop_row (λ v. v.items) c.entries.lists.items c.pop.new.self.items homes row c.in-Some-pop.ensures.items before.1 in (
            subst (AreJobSeats (inv.0 ++ entry ∷ []) row) (sym c.add.ensures.items)
                (jobs_more inv.0 entry row c.entries.all.items (record { homes = homes; entry = entry; refused = false }) before.0 (record { entry_is = refl; homes_are = mine.1 })),
            mine.0,
          ),
      (let more = c.add.ensures.len in let kept = c.add.ensures.capacity in let room = inv.5 in omega arith),
    )

pub returns : goal.returns
returns g c = λ row rows.
    let inv = c.entries.invariant in
    let none : length c.entries.entry-iterator.rest.items ≡ 0 = sym inv.2 ∙ c.in-None.ensures.steps.0 in
    let whole : inv.0 ≡ c.args.entries.items = sym (append-nil inv.0) ∙ ap (λ xs. inv.0 ++ xs) (sym (nil_of c.entries.entry-iterator.rest.items none)) ∙ inv.1 in
    subst (λ xs. AreJobSeats xs row c.entries.all.items) whole (inv.4 row rows).0

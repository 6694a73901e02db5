use Rattle.std.proofs.Common.{◌≡◌, ◌∷◌, ◌++◌, [], Some, length, sym, ap, ◌∙◌, subst, arith, length-append, append_assoc, append-nil}
use Rattle.std.proofs.lemmas.List.Elements.{All-pop}
use Rattle.ticket_account.specs.Opening.{IsOther, AreSeated}
use Rattle.ticket_account.proofs.Gathered.{nil_of}
use Rattle.ticket_account.proofs.Openings.{pop_row, seated_none, seated_more}
use Rattle.ticket_account.proofs.opening.seat_schedulers.Goals as goal

pub runs-init : goal.runs-init
runs-init g c =
    let gives = c.into_iter-run-iterator.ensures.into_iter_gives in
    let size = c.args.runs.ok.0 in
    let len = gives.1 in
    let count = ap length gives.0 in
    let room = c.requires.room.1 in
    let empty = ap length c.requires.room.0 in
    let all = c.args.all.ok.0 in (
      [],
      gives.0,
      omega arith,
      omega arith,
      omega arith,
      (λ row word rows others. (subst (AreSeated [] row word) (sym c.requires.room.0) (seated_none row word), rows, others)),
      omega arith,
    )

pub add-requires : goal.add-requires
add-requires g c =
    let room = c.runs.invariant.6 in
    let one = c.in-Some.ensures.steps.1 in
    omega arith

pub runs-preserved : goal.runs-preserved
runs-preserved g c =
    let inv = c.runs.invariant in
    let steps = c.in-Some.ensures.steps in
    let run = c.in-Some.run' in
    let rest = c.next.new.self.rest.items in
    let homes = c.in-Some-pop.homes in
    let over = c.in-Some-pop-2.over in
    let new = c.new.result in
    let lists = ap length c.in-Some-pop.ensures.items in
    let lists_more = length-append c.pop.new.self.items (homes ∷ []) in
    let places = ap length c.in-Some-pop-2.ensures.items in
    let places_more = length-append c.pop-in-runs.new.self.items (over ∷ []) in
    let done_more = length-append inv.0 (run ∷ []) in
    let items = ap length steps.0 in
    let one = steps.1 in
    let was = inv.2 in
    let l = inv.3 in
    let p = inv.4 in (
      inv.0 ++ run ∷ [],
      append_assoc inv.0 (run ∷ []) rest ∙ ap (λ xs. inv.0 ++ xs) (sym steps.0) ∙ inv.1,
      omega arith,
      omega arith,
      omega arith,
      λ row word rows others.
          let before = inv.5 row word rows others in
          let mine = pop_row (λ v. v.items) c.runs.lists.items c.pop.new.self.items homes row c.in-Some-pop.ensures.items before.1 in
          let place = All-pop (IsOther word) c.runs.places.items c.pop-in-runs.new.self.items (Some over) c.in-Some-pop-2.ensures.items before.2 in (
            subst (AreSeated (inv.0 ++ run ∷ []) row word) (sym c.add.ensures.items)
                (seated_more inv.0 run row word c.runs.all.items new before.0
                (record { run_is = ap (λ s. s.run) c.new.ensures.waits.0; homes_are = ap (λ s. s.homes.items) c.new.ensures.waits.0 ∙ mine.1; over = subst (IsOther word) (sym (ap (λ s. s.over) c.new.ensures.waits.0)) place.1 })),
            mine.0,
            place.0,
          ),
      (let more = c.add.ensures.len in let kept = c.add.ensures.capacity in let room = inv.6 in omega arith),
    )

pub returns-clause-seated : goal.returns-clause-seated
returns-clause-seated g c = λ row word rows others.
    let inv = c.runs.invariant in
    let none : length c.runs.run-iterator.rest.items ≡ 0 = sym inv.2 ∙ c.in-None.ensures.steps.0 in
    let whole : inv.0 ≡ c.args.runs.items = sym (append-nil inv.0) ∙ ap (λ xs. inv.0 ++ xs) (sym (nil_of c.runs.run-iterator.rest.items none)) ∙ inv.1 in
    let all = inv.5 row word rows others in
    (subst (λ xs. AreSeated xs row word c.runs.all.items) whole all.0, all.1, all.2)

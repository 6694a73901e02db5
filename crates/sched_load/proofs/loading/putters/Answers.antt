use Rattle.std.proofs.Common.{◌≡◌, ◌++◌, ◌∷◌, [], Some, length, map, sym, ap, ◌∙◌, subst, append_assoc, arith}
use Rattle.std.specs.List.{All}
use Rattle.std.proofs.lemmas.List.Elements.{All-push, All-pop, All-head, All-tail, All-same}
use Rattle.run_queue.proofs.EndLemmas.{map_push}
use Rattle.sched_load.specs.declared.putter.Putter.{Putter}
use Rattle.sched_load.specs.Putting.{CanPut}
use Rattle.ticket_account.specs.Opening.{IsOther, IsReadyJob}
use Rattle.sched_load.proofs.loading.putters.Goals as goal

pub jobs-preserved : goal.jobs-preserved
jobs-preserved c =
    let inv = c.jobs.invariant in
    let steps = c.in-Some.ensures.steps in
    let rest = c.next.new.self.rest.items in
    let job : Putter = record { seats = c.in-Some.seats; lanes = c.in-Some-pop.lanes; over = c.in-Some-pop-2.over; numbers = c.args.size.numbers; pause = c.args.size.pause } in
    let ready = All-same (IsReadyJob c.args.size.ports) _ _ (sym steps.0) inv.2 in
    let mine = All-head (IsReadyJob c.args.size.ports) c.in-Some.seats rest ready in
    let lists = All-pop (λ m. length m.items ≡ c.args.size.ports) c.jobs.lists.items c.pop.new.self.items (Some c.in-Some-pop.lanes) c.in-Some-pop.ensures.items inv.3 in
    let places = All-pop (IsOther inv.4.0) c.jobs.places.items c.pop-in-jobs.new.self.items (Some c.in-Some-pop-2.over) c.in-Some-pop-2.ensures.items inv.4.1 in
    let pushed = c.in_ok-push.ensures.items in (
      ap (λ l. map (λ p. p.seats) l ++ rest) pushed ∙ ap (λ l. l ++ rest) (map_push (λ (p : Putter). p.seats) c.jobs.all.items job)
          ∙ append_assoc (map (λ (p : Putter). p.seats) c.jobs.all.items) (c.in-Some.seats ∷ []) rest ∙ ap (λ l. map (λ (p : Putter). p.seats) c.jobs.all.items ++ l) (sym steps.0) ∙ inv.0,
      (let e = ap length steps.0 in let one = steps.1 in let was = inv.1 in omega arith),
      All-tail (IsReadyJob c.args.size.ports) c.in-Some.seats rest ready,
      lists.0,
      (inv.4.0, places.0),
      subst (All CanPut) (sym pushed) (All-push CanPut c.jobs.all.items job inv.5 (record { homes = mine.homes_are; ports = mine.many ∙ sym lists.1; runs = places.1.runs })),
    )

use Rattle.std.proofs.Common.{Contains, subst, sym, ap, ◌∙◌}
use Rattle.task_queue.specs.Items.{of}
use Rattle.task_queue.specs.Ends.{ended_of}
use Rattle.task_queue.proofs.Told.{took, among_last, among_still}
use Rattle.lane_tests.proofs.lanes.finish.Goals as goal

pub returns-clause-one : goal.returns-clause-one
returns-clause-one g c =
    let e = ended_of c.args.one in
    let first = among_last _ _ c.args.one c.take_in.ensures in
    let still = among_still _ _ c.args.two e c.take_in-2.ensures first in
    ap (of c.args.one.number) c.in-Some.all.kept
    ∙ took c.in-Some.all.end e (subst (λ t. Contains t.ended e) (sym c.in-Some.ensures.same) still) c.in-Some.ensures.all

pub returns-clause-two : goal.returns-clause-two
returns-clause-two g c =
    let e = ended_of c.args.two in
    let last = among_last _ _ c.args.two c.take_in-2.ensures in
    ap (of c.args.two.number) c.in-Some.all.kept
    ∙ took c.in-Some.all.end e (subst (λ t. Contains t.ended e) (sym c.in-Some.ensures.same) last) c.in-Some.ensures.all

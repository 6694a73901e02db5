use Rattle.std.proofs.Common.{◌≡◌, sym, ap, subst}
use Rattle.std.specs.List.{All}
use Rattle.std.proofs.lemmas.List.Elements.{All-push}
use Rattle.sched_load.proofs.loading.add_till.Goals as goal

pub returns-clause-first : goal.returns-clause-first
returns-clause-first c = λ all. subst (All (λ e. e.number ≡ 0)) (sym c.in_ok-push.ensures.items)
    (All-push (λ e. e.number ≡ 0) c.args.firsts.now.items c.in_ok-end.end all (ap (λ e. e.number) c.in_ok-end.ensures.sender))

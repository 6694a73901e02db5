use Rattle.std.proofs.Common.{true, false, refl, sym, ◌∙◌, arith}
use Rattle.history_tables.proofs.JobSteps.{submits-one, latest-more}
use Rattle.history_tables.proofs.jobs.JobTable.submit_one.Goals as goal

pub returns-then-not-contains : goal.returns-then-not-contains
returns-then-not-contains c = λ jobs done is.
    submits-one c.args.self.now _ jobs done c.args.key c.args.code c.args.input.now c.in_ok-input.input c.len.result false is (omega (arith, c.args.self.now.jobs.ok.0)) c.in_ok-input.ensures
    c.in_ok-push.ensures.items refl (sym c.contains.ensures ∙ c.if-not-contains.true) (λ q. refl)

pub returns : goal.returns
returns c = λ jobs done is.
    submits-one c.args.self.now _ jobs done c.args.key c.args.code c.args.input.now c.in_ok-input.input c.len.result true is (omega (arith, c.args.self.now.jobs.ok.0)) c.in_ok-input.ensures
    c.in_ok-push.ensures.items refl (sym c.contains.ensures ∙ c.if-not-contains.false)
    (λ q. latest-more c.args.key c.len.result c.args.self.now.latest c.insert.new.self q c.in_ok-insert.ensures.updates.0)

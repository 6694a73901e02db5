use Rattle.std.proofs.Common.{◌≡◌, true, refl, sym, ◌∙◌, subst}
use Rattle.history_tables.specs.JobsKept.{are_next}
use Rattle.history_driver.specs.Kinds.{kind_of}
use Rattle.history_replay.specs.Verdicts.{opening_of}
use Rattle.history_replay.proofs.Steps.{starts-walk}
use Rattle.history_replay.proofs.walk.Walk.start.Goals as goal

pub new-requires : goal.new-requires
new-requires c =
    let starts = c.in_ok-driver.ensures (opening_of 0 c.args.processes (kind_of c.args.kind) c.args.report.now) refl refl refl refl refl in
    subst (λ effects. are_next 0 effects ≡ true) (sym c.as_slice.ensures.items) starts.numbers.next_jobs

pub returns : goal.returns
returns c = λ port opened.
    let starts = c.in_ok-driver.ensures port opened.kind_is opened.config_is opened.owner_is opened.read_is opened.write_is in
    starts-walk port c.in_ok-state.state c.in_ok-driver.driver c.in_ok-driver.effects starts
    (c.in_ok-state.ensures port opened.processes_are opened.owner_is (c.as_slice.ensures.items ∙ starts.effects_are))

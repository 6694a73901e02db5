use Rattle.std.proofs.Common.{refl, sym, ◌∙◌, subst}
use Rattle.std.specs.Prelude.{if◌then◌else◌}
use Rattle.port_history.specs.Ties.{with_owner}
use Rattle.history_tables.specs.Tied.{Tied}
use Rattle.history_tables.proofs.Sets.{inserted}
use Rattle.history_tables.proofs.ties.PortTies.connect.Goals as goal

pub returns-then-not-may_own : goal.returns-then-not-may_own
returns-then-not-may_own c = λ port ties count is.
    subst (λ b. Tied c.args.self.now (if b then with_owner c.args.process ties else ties)) (sym (sym (c.may_own.ensures port ties count is) ∙ c.if-not-may_own.true)) is

pub returns : goal.returns
returns c = λ port ties count is.
    subst (λ b. Tied (record { owner = c.args.process; linked = c.insert.new.self; ended = c.args.self.now.ended }) (if b then with_owner c.args.process ties else ties))
    (sym (sym (c.may_own.ensures port ties count is) ∙ c.if-not-may_own.false))
    (record {
      owner = refl;
      linked = inserted c.args.process c.args.self.now.linked c.insert.new.self ties.linked c.in_ok-insert.ensures.updates.0 is.linked;
      ended = is.ended;
    })

use Rattle.std.proofs.Common.{sym, ap, ◌∙◌}
use Rattle.std.specs.Prelude.{if◌then◌else◌}
use Rattle.port_mail.specs.port_links.port_history.State.{closer_of}
use Rattle.port_state.proofs.serving.closer_after.Goals as goal

pub returns-then-asked : goal.returns-then-asked
returns-then-asked c = λ ties. c.closer_of.ensures ties ∙ sym (ap (λ b. if b then closer_of ties c.args.from c.args.signal.now else c.args.before) c.if-asked.true)

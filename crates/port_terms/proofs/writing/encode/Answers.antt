use Rattle.std.proofs.Common.{refl}
use Rattle.port_terms.specs.View.{tree}
use Rattle.port_terms.specs.Written.{written}
use Rattle.port_terms.proofs.Spelled.{written_spelled}
use Rattle.port_terms.proofs.writing.encode.Goals as goal

pub returns-clause-spelled : goal.returns-clause-spelled
returns-clause-spelled c =
    let t = tree c.args.term.now in
    record { text = written t; begins = rw (c.in_ok-put_term.ensures.added, c.in_ok-push.ensures.items, c.new-out.ensures.items) refl; spelled = written_spelled t c.in_ok-put_term.ensures.limits; levels = c.requires }

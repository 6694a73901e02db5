use Rattle.std.proofs.Common.{refl, ◌∙◌}
use Rattle.std.proofs.lemmas.Result.{IfOk-weaker}
use Rattle.gateway_script.proofs.Sources.{part-is}
use Rattle.gateway_script.proofs.source.LineSource.piece_of.Goals as goal

pub returns-in-Borrowed : goal.returns-in-Borrowed
returns-in-Borrowed c =
    let b = rw c.in-Borrowed.is at c.requires.borrowed in
    rw c.in-Borrowed.is (IfOk-weaker c.part.result _ _
    (λ piece is. is ∙ part-is c.args.self.text.now c.args.self.end c.args.bytes.now c.in-Borrowed.content.now _ c.requires.ends refl b.0 b.1) c.part.ensures)

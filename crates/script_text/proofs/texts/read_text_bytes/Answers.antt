use Rattle.std.proofs.Common.{◌≡◌, Some, ap, ◌∙◌}
use Rattle.script_text.specs.Texts.{SpellsText}
use Rattle.script_text.specs.Reading.{text_at}
use Rattle.script_text.proofs.Found.{text_found}
use Rattle.script_text.proofs.Again.{text_again}
use Rattle.script_text.proofs.Exact.{found_by, only_by}
use Rattle.script_text.proofs.texts.read_text_bytes.Goals as goal

pub returns-clause-found : goal.returns-clause-found
returns-clause-found c = found_by (λ x. x.0.items) (λ x. x.1.now) SpellsText text_at text_found c.args.bytes.now c.text_bytes.result c.text_bytes.ensures.reads

pub returns-clause-only : goal.returns-clause-only
returns-clause-only c = λ content rest front.
    let again : text_at c.args.bytes.now ≡ Some (content, rest) = ap text_at front.parts ∙ text_again content front.text front.spelled rest in
    only_by (λ x. x.0.items) (λ x. x.1.now) (text_at c.args.bytes.now) content rest again c.text_bytes.result c.text_bytes.ensures.reads

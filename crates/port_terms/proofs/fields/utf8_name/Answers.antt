use Rattle.std.proofs.Common.{length, inl, inr}
use Rattle.std.specs.Str.{chars}
use Rattle.std.proofs.lemmas.Bool.{cases_lt}
use Rattle.port_terms.specs.declared.values.TheConstants.{MAX_NAME_CHARS}
use Rattle.port_terms.proofs.Names.{utf8_given, utf8_bad}
use Rattle.port_terms.proofs.fields.utf8_name.Goals as goal

pub returns-in_default : goal.returns-in_default
returns-in_default c = λ _. utf8_bad c.args.at c.args.text.now c.in_default.ensures.cases.0

pub returns-in-Ok-atom : goal.returns-in-Ok-atom
returns-in-Ok-atom c =
    let text = c.args.text.now in
    let same = c.in-Ok.ensures.cases.0 in
    elim (cases_lt MAX_NAME_CHARS (length (chars c.in-Ok.text.now))) [
      | inl many ↦ absurd (cc (c.in-Ok-atom.ensures.too_long many))
      | inr few ↦ rw (c.in-Ok-atom.ensures.name, same) (utf8_given c.args.at text c.in-Ok.ensures.cases.1 (rw (← same) few))
    ]

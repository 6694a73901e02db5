use Rattle.std.proofs.Common.{sym, ◌∙◌}
use Rattle.std.proofs.lemmas.Str.{encodes-chars, scalars-chars, IsUtf8-string_bytes}
use Rattle.port_terms.proofs.values.AtomName.as_str.Goals as goal

pub returns-clause-text : goal.returns-clause-text
returns-clause-text c = rw (← c.self.view_is) (c.as_str.ensures.value ∙ sym (encodes-chars _ (IsUtf8-string_bytes c.self.inside.text)))

pub returns-clause-name : goal.returns-clause-name
returns-clause-name c = rw (← c.self.view_is) (scalars-chars _ (IsUtf8-string_bytes c.self.inside.text), c.self.invariant)

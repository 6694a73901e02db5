use Rattle.std.proofs.Common.{◌≡◌, ℕ, List, Bool, true, false, Some, None, refl, ap, subst, ◌∙◌}
use Rattle.std.specs.Prelude.{string_bytes}
use Rattle.std.specs.Str.{is_utf8, IsUtf8}
use Rattle.std.proofs.lemmas.Str.{IsUtf8-string_bytes, IsUtf8-from_is_utf8, is_utf8-from_IsUtf8}
use Rattle.gateway_script.specs.Words.{utf8_name_of}
use Rattle.gateway_script.proofs.words.utf8_name_of.Goals as goal

not_utf8 : (text : List ℕ) → (IsUtf8 text → ⊥) → (b : Bool) → is_utf8 text ≡ b → None ≡ utf8_name_of text
not_utf8 text never true e = absurd (never (IsUtf8-from_is_utf8 text e))
not_utf8 text never false e = rw e refl

pub returns-in-Ok : goal.returns-in-Ok
returns-in-Ok c =
    let bytes_are : string_bytes c.in-Ok.text ≡ c.args.text.items = cc (c.in-Ok.ensures.ok) in
    let is : is_utf8 c.args.text.items ≡ true = is_utf8-from_IsUtf8 c.args.text.items (subst IsUtf8 bytes_are (IsUtf8-string_bytes c.in-Ok.text)) in
    rw is (ap Some (c.new.ensures ∙ bytes_are))

pub returns : goal.returns
returns c = not_utf8 c.args.text.items (λ utf8. let bad : false ≡ true = c.in-Err.ensures.succeeds utf8 in absurd cc) (is_utf8 c.args.text.items) refl

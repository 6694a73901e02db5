use Rattle.std.proofs.Common.{◌≡◌, ℕ, List, Option, Some, None, sym, ap, ◌∙◌}
use Rattle.std.specs.Prelude.{IfSome, IsSomeAnd, option_map, slice_index, false}
use Rattle.script_text.specs.Tokens.{is_digit, SpellsNumber}
use Rattle.script_text.specs.InFront.{InFront}
use Rattle.script_text.specs.Reading.{number_at}
use Rattle.script_text.proofs.Found.{number_found, number_end}
use Rattle.script_text.proofs.Again.{number_again}
use Rattle.script_text.proofs.tokens.read_number.Goals as goal

found_by : {X : Type 0} (view : X → ℕ × List ℕ) (result : Option X) (bytes : List ℕ) → option_map view result ≡ number_at bytes → IfSome result (λ x. InFront SpellsNumber (view x).0 bytes (view x).1)
found_by view (Some x) bytes e = number_found bytes (view x).0 (view x).1 (sym e)
found_by view None bytes e = tt

end_by : {X : Type 0} (view : X → ℕ × List ℕ) (result : Option X) (bytes : List ℕ) → option_map view result ≡ number_at bytes → IfSome result (λ x. is_digit (slice_index (view x).1 0) ≡ false)
end_by view (Some x) bytes e = number_end bytes (view x).0 (view x).1 (sym e)
end_by view None bytes e = tt

pub returns-clause-found : goal.returns-clause-found
returns-clause-found c = found_by (λ x. (x.0, x.1.now)) c.number.result c.args.bytes.now c.number.ensures

pub returns-clause-end : goal.returns-clause-end
returns-clause-end c = end_by (λ x. (x.0, x.1.now)) c.number.result c.args.bytes.now c.number.ensures

only_by : {X : Type 0} (view : X → ℕ × List ℕ) (result : Option X) (number : ℕ) (rest : List ℕ) → option_map view result ≡ Some (number, rest) → IsSomeAnd result (λ x. ((view x).0 ≡ number) × ((view x).1 ≡ rest))
only_by view (Some x) number rest e = let same : view x ≡ (number, rest) = cc in (ap (λ (p : ℕ × List ℕ). p.0) same, ap (λ (p : ℕ × List ℕ). p.1) same)
only_by view None number rest e = absurd cc

pub returns-clause-only : goal.returns-clause-only
returns-clause-only c = λ number rest front stops. only_by (λ x. (x.0, x.1.now)) c.number.result number rest (c.number.ensures ∙ ap number_at front.parts ∙ number_again number front.text rest front.spelled stops)

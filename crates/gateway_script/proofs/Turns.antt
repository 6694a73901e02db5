-- The options of a line, as the reading of them goes on.
use Rattle.std.proofs.Common.{◌≡◌, ℕ, zero, suc, ◌<◌, ◌≤◌, Bool, true, false, List, [], ◌∷◌, ◌++◌, length, Option, Some, None, refl, sym, ap, ◌∙◌, arith, inl, inr}
use Rattle.std.specs.Prelude.{◌==◌}
use Rattle.std.proofs.lemmas.Bool.Decides.{nat_tests}
use Rattle.std.proofs.lemmas.List.{append-nil, append_assoc, length-append}
use Rattle.script_text.specs.Tokens.{gap}
use Rattle.script_text.proofs.Found.{cases_option}
use Rattle.gateway_script.specs.declared.options.PortOption.{PortOption}
use Rattle.gateway_script.specs.Words.{◌>>=◌}
use Rattle.gateway_script.specs.Forms.{option_at, some_options_at, options_at, is_end}
use Rattle.gateway_script.proofs.Found.{option_found}

pub option_shorter : (bytes : List ℕ) (option : PortOption) (rest : List ℕ) → option_at bytes ≡ Some (option, rest) → length rest < length bytes
option_shorter bytes option rest e =
    let g = option_found bytes option rest e in
    let same = ap (λ (xs : List ℕ). length xs) g.is in
    omega (arith, same, length-append (gap g.more) (g.kind ++ (g.text ++ rest)), length-append g.kind (g.text ++ rest), length-append g.text rest)

-- more options than bytes are never wanted
enough : (m n : ℕ) (bytes : List ℕ) → length bytes ≤ m → length bytes ≤ n → some_options_at m bytes ≡ some_options_at n bytes
unfolding some_options_at
enough zero zero [] a b = refl
enough zero (suc n) [] a b = refl
enough (suc m) zero [] a b = refl
enough (suc m) (suc n) [] a b = refl
enough zero n (byte ∷ bytes) a b = absurd (omega arith)
enough (suc m) zero (byte ∷ bytes) a b = absurd (omega arith)
enough (suc m) (suc n) (byte ∷ bytes) a b = elim (cases_option (option_at (byte ∷ bytes))) [
  | inl (found, e) ↦
      let shorter = option_shorter (byte ∷ bytes) found.0 found.1 e in
      ap (λ o. o >>= λ option. (some_options_at m option.1 >>= λ options. Some (option.0 ∷ options))) e
      ∙ ap (λ o. o >>= λ options. Some (found.0 ∷ options)) (enough m n found.1 (omega arith) (omega arith))
      ∙ ap (λ o. o >>= λ option. (some_options_at n option.1 >>= λ options. Some (option.0 ∷ options))) (sym e)
  | inr e ↦
      ap (λ o. o >>= λ option. (some_options_at m option.1 >>= λ options. Some (option.0 ∷ options))) e
      ∙ ap (λ o. o >>= λ option. (some_options_at n option.1 >>= λ options. Some (option.0 ∷ options))) (sym e)
]

-- options with these in front of them
abbrev pub with_front : List PortOption → Option (List PortOption) → Option (List PortOption)
with_front front (Some options) = Some (front ++ options)
with_front front None = None

with_more : (front : List PortOption) (option : PortOption) (o : Option (List PortOption)) → with_front front (o >>= λ options. Some (option ∷ options)) ≡ with_front (front ++ option ∷ []) o
with_more front option None = refl
with_more front option (Some options) = ap Some (sym (append_assoc front (option ∷ []) options))

-- behind an option that is read
pub option_goes_on : (front : List PortOption) (rest behind : List ℕ) (option : PortOption) (whole : Option (List PortOption)) → is_end rest ≡ false → option_at rest ≡ Some (option, behind)
    → with_front front (options_at rest) ≡ whole → with_front (front ++ option ∷ []) (options_at behind) ≡ whole
unfolding some_options_at
option_goes_on front [] behind option whole more e so_far = absurd cc
option_goes_on front (byte ∷ bytes) behind option whole more e so_far =
    let shorter = option_shorter (byte ∷ bytes) option behind e in
    let step : options_at (byte ∷ bytes) ≡ (options_at behind >>= λ options. Some (option ∷ options)) =
    ap (λ o. o >>= λ option. (some_options_at (length bytes) option.1 >>= λ options. Some (option.0 ∷ options))) e
    ∙ ap (λ o. o >>= λ options. Some (option ∷ options)) (enough (length bytes) (length behind) behind (omega arith) (omega arith))
    in
    sym (with_more front option (options_at behind)) ∙ ap (with_front front) (sym step) ∙ so_far

-- where no option stands
pub option_stops : (front : List PortOption) (rest : List ℕ) (whole : Option (List PortOption)) → is_end rest ≡ false → option_at rest ≡ None → with_front front (options_at rest) ≡ whole → whole ≡ None
unfolding some_options_at
option_stops front [] whole more e so_far = absurd cc
option_stops front (byte ∷ bytes) whole more e so_far =
    sym so_far ∙ ap (λ o. with_front front (o >>= λ option. (some_options_at (length bytes) option.1 >>= λ options. Some (option.0 ∷ options)))) e

-- at the end of the line
pub options_end : (front : List PortOption) (whole : Option (List PortOption)) → with_front front (options_at []) ≡ whole → whole ≡ Some front
unfolding some_options_at
options_end front whole so_far = sym so_far ∙ ap Some (append-nil front)

-- something is left
pub something_left : (rest : List ℕ) (b : Bool) → b ≡ (length rest == 0) → b ≡ false → is_end rest ≡ false
something_left [] b e f = absurd (grind (arith, nat_tests))
something_left (byte ∷ rest) b e f = refl

pub nothing_left : (rest : List ℕ) (b : Bool) → b ≡ (length rest == 0) → b ≡ true → rest ≡ []
nothing_left [] b e f = refl
nothing_left (byte ∷ rest) b e f = absurd (grind (arith, nat_tests))

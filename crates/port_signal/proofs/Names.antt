-- A name is ASCII, and so UTF-8.
use Rattle.std.proofs.Common.{◌≡◌, ℕ, ◌+◌, ◌<◌, zero, suc, List, [], ◌∷◌, Bool, true, false, None, Some, Option, ltb, cond, refl, arith, ◌&&◌}
use Rattle.std.specs.Str.{IsAscii, IsUtf8}
use Rattle.std.proofs.lemmas.Str.{IsUtf8-from_ascii}
use Rattle.std.proofs.lemmas.Bool.Decides.{nat_tests}
use Rattle.port_signal.specs.Name.{fault_from, name_fault, may_stand}

-- a byte that a name may have is ASCII
may_stand-ascii : (at byte : ℕ) → may_stand at byte ≡ true → byte < 128
may_stand-ascii at byte e = grind (arith, nat_tests)

-- a test that led on was true
passed : (ok : Bool) (at : ℕ) (rest : Option ℕ) → cond ok rest (Some at) ≡ None → (ok ≡ true) × (rest ≡ None)
passed true at rest e = (refl, e)
passed false at rest e = absurd cc

both : (a b : Bool) → (a && b) ≡ true → b ≡ true
both true b e = e
both false b e = absurd cc

pub IsAscii-fault_from : (at : ℕ) (bytes : List ℕ) → fault_from at bytes ≡ None → IsAscii bytes
IsAscii-fault_from at [] e = λ i. omega arith
IsAscii-fault_from at (byte ∷ bytes) e =
    let p = passed (ltb at 16 && may_stand at byte) at (fault_from (at + 1) bytes) e in
    λ i. elim i as (λ i. Rattle.std.specs.List.slice_index (byte ∷ bytes) i < 128) [
      | zero ↦ may_stand-ascii at byte (both (ltb at 16) _ p.0)
      | suc i ↦ IsAscii-fault_from (at + 1) bytes p.1 i
    ]

pub IsUtf8-name_fault : (text : List ℕ) → name_fault text ≡ None → IsUtf8 text
IsUtf8-name_fault [] e = IsUtf8-from_ascii [] (λ i. omega arith)
IsUtf8-name_fault (byte ∷ bytes) e = IsUtf8-from_ascii (byte ∷ bytes) (IsAscii-fault_from 0 (byte ∷ bytes) e)

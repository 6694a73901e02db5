use Rattle.std.proofs.Common.{◌≡◌, ℕ, List, [], ◌∷◌, length, eqb, refl, ap, ◌∙◌, arith}
use Rattle.std.proofs.lemmas.Bool.Decides.{nat_tests}
use Rattle.driver_model.specs.Calls.{is_empty}
use Rattle.port_driver.proofs.context.DriverCtx.is_drained.Goals as goal

none-queued : (bytes : List ℕ) → eqb (length bytes) 0 ≡ is_empty bytes
none-queued [] = refl
none-queued (byte ∷ bytes) = grind (arith, nat_tests)

pub returns : goal.returns
returns c =
    let e = ap (λ v. v.queue) c.self.view_is in
    ap (λ n. eqb n 0) c.sizeq.ensures.value ∙ (none-queued _ ∙ ap is_empty e)

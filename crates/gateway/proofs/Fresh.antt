-- One more driver that wasn't started.
use Rattle.std.proofs.Common.{◌≡◌, List, [], ◌∷◌, ◌++◌, refl, ap, ◌∙◌}
use Rattle.std.specs.Prelude.{map, filter}
use Rattle.std.proofs.lemmas.List.{map-append}
use Rattle.std.proofs.lemmas.List.Elements.{filter-append}
use Rattle.port_driver.specs.declared.life.Life.{Life}
use Rattle.port_driver.specs.declared.life.Life.TheVariants.{Fresh}
use Rattle.gateway.specs.Fresh.{is_fresh, unserving, hosted}

module _ {D : Type 0} where
  one : (stage : D → Life) (driver : D) → stage driver ≡ Fresh → hosted stage (driver ∷ []) ≡ unserving driver ∷ []
  one stage driver fresh = rw fresh refl

  pub hosted-push : (stage : D → Life) (drivers : List D) (driver : D) → stage driver ≡ Fresh → hosted stage (drivers ++ driver ∷ []) ≡ hosted stage drivers ++ unserving driver ∷ []
  hosted-push stage drivers driver fresh =
      ap (map unserving) (filter-append (λ d. is_fresh (stage d)) drivers (driver ∷ []))
      ∙ (map-append unserving (filter (λ d. is_fresh (stage d)) drivers) (filter (λ d. is_fresh (stage d)) (driver ∷ []))
      ∙ ap (λ hosts. hosted stage drivers ++ hosts) (one stage driver fresh))

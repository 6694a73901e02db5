use Rattle.std.proofs.Common.{◌≡◌, [], ◌∷◌, ◌++◌, refl, sym, ap, ◌∙◌}
use Rattle.std.proofs.lemmas.List.Elements.{All-push}
use Rattle.port_driver.specs.declared.life.Life.TheVariants.{Fresh}
use Rattle.driver_hosts.specs.Hosts.{IsUnused}
use Rattle.gateway.specs.Fresh.{unserving}
use Rattle.gateway.proofs.Fresh.{hosted-push}
use Rattle.gateway.proofs.making.host_drivers.Goals as goal

pub loop-driver-preserved-in-Continue-1 : goal.loop-driver-preserved-in-Continue-1
loop-driver-preserved-in-Continue-1 g c =
    let fresh : g.D.Driver.stage c.in-Some.driver ≡ Fresh = sym c.life.ensures.stage ∙ c.in-Fresh.is in
    record {
      hosted = c.in_ok-push-in-Fresh.ensures.items ∙ (ap (λ hosts. hosts ++ unserving c.in-Some.driver ∷ []) c.loop-driver.invariant.hosted ∙ sym (hosted-push g.D.Driver.stage c.loop-driver.yielded c.in-Some.driver fresh));
      unused = rw c.in_ok-push-in-Fresh.ensures.items (All-push (IsUnused g.D.Driver.stage) c.loop-driver.hosts.items (unserving c.in-Some.driver) c.loop-driver.invariant.unused (refl, fresh));
    }

-- Drivers that nobody touched.
use Rattle.std.proofs.Common.{inl, ◌≡◌, ℕ, List, Option, Some, None, refl, ap, ◌∙◌, arith}
use Rattle.std.specs.Prelude.{All, IsSomeAnd, slice_index_or}
use Rattle.driver_model.specs.Calls.{Kind}
use Rattle.port_driver.specs.declared.life.Life.{Life}
use Rattle.port_driver.specs.declared.life.Life.TheVariants.{Fresh}
use Rattle.driver_hosts.specs.declared.hosted.Hosted.{Hosted}
use Rattle.driver_hosts.specs.Back.{AllCameBack, CameBack}
use Rattle.driver_hosts.specs.Hosts.{IsUnused}

module _ {D : Type 0} (kind : D → Kind) (stage : D → Life) (faults : D → ℕ) where
  host-of : (host : Hosted D) (port : Option ℕ) (driver : Option D) → host.port ≡ port → host.driver ≡ driver → host ≡ record { port = port; driver = driver }
  host-of host port driver e f = ap (λ p. record { port = p; driver = host.driver }) e ∙ ap (λ d. record { port = port; driver = d }) f

  untouched : (host : Hosted D) → IsUnused stage host → CameBack kind stage faults host host
  untouched host unused = go host.driver refl unused.1
    where
      go : (driver : Option D) → host.driver ≡ driver → IsSomeAnd driver (λ d. stage d ≡ Fresh) → CameBack kind stage faults host host
      go None e fresh = absurd fresh
      go (Some d) e fresh =
          let is = host-of host None (Some d) unused.0 e in
          record {
            port = None;
            before = d;
            after = d;
            back = record { handed = is; returned = is; same_kind = refl; no_fewer_faults = omega arith };
            at_rest = inl fresh;
          }

  pub none-touched : (hosts : List (Hosted D)) → All (IsUnused stage) hosts → AllCameBack kind stage faults hosts hosts
  none-touched hosts unused = record { len = refl; hosts = λ at d l. untouched (slice_index_or hosts at d) (unused at d l) }

-- The drivers of ports that are given up are back.
use Rattle.std.proofs.Common.{ℕ, List, Option, refl, ap}
use Rattle.std.proofs.lemmas.List.{get_or_default}
use Rattle.driver_model.specs.Calls.{Kind, Own}
use Rattle.driver_model.specs.Programs.{ToldProgram}
use Rattle.port_driver.specs.declared.life.Life.{Life}
use Rattle.port_body.specs.Body.{BodyView, name_of}
use Rattle.driver_hosts.specs.declared.hosted.Hosted.{Hosted}
use Rattle.driver_hosts.specs.Returning.{AreReturned}
use Rattle.closed_lanes.specs.closed_ports.Closed.{HaveComeBack}

module _ {D : Type 0} (kind : D → Kind) (stage : D → Life) (faults : D → ℕ) (own : D → Own) (program : D → Option ToldProgram) where
  -- ports that made no turn and ended have come back
  pub back-at-once : (bodies : List BodyView) (places : List ℕ) (hosts back : List (Hosted D)) → AreReturned kind stage faults own program bodies places hosts back
      → HaveComeBack kind stage faults own program bodies places hosts back
  back-at-once bodies places hosts back returned = record {
    last = bodies;
    many = refl;
    names = λ port v w below. ap name_of (get_or_default bodies port w v below);
    returned = returned;
  }

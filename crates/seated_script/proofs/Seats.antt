-- The run of a script whose ports were opened.
use Rattle.std.proofs.Common.{◌≡◌, ◌≤◌, ℕ, List, [], length, map, ap, sym, subst, ◌∙◌, refl, arith}
use Rattle.std.specs.Prelude.{All, vec_capacity}
use Rattle.std.proofs.lemmas.List.{length-map}
use Rattle.driver_model.specs.Calls.{Kind}
use Rattle.port_driver.specs.declared.life.Life.{Life}
use Rattle.run_opening.specs.driver_hosts.port_body.Body.{BodyView}
use Rattle.port_sched.specs.declared.body.PortBody.{Ghosts}
use Rattle.run_opening.specs.driver_hosts.declared.hosted.Hosted.{Hosted}
use Rattle.run_opening.specs.driver_hosts.Hosts.{IsUnused}
use Rattle.run_opening.specs.run_lanes.declared.size.LaneSize.{LaneSize}
use Rattle.run_opening.specs.declared.opening.OpenPorts.{OpenPorts}
use Rattle.run_opening.specs.Opened.{HaveOpened, limits_of, room_of}
use Rattle.run_opening.specs.run_seats.Plans.{ArePlansOf}
use Rattle.run_opening.specs.declared.run_script.RunScript.{RunScript}
use Rattle.run_opening.specs.Script.{IsRunnable, size_of}
use Rattle.seated_script.specs.declared.dealing.JobParts.{JobParts}
use Rattle.seated_script.specs.declared.seating.SeatedScript.{SeatedScript}
use Rattle.seated_script.specs.Opened.{WereOpened}
use Rattle.seated_script.specs.Parts.{AreParts, IsRunOf, others_of}
use Rattle.seated_script.specs.Seated.{IsSeatedScript}
use Rattle.seated_script.proofs.Named.{is-setting, is-setting-of, named-in, setting_of}

-- what the jobs of a script are made of once its ports are opened
abbrev pub parts_of : {D : Type 0} → RunScript → OpenPorts D → JobParts
parts_of script o = record { soft = o.soft; lanes = o.lanes; process_steps = script.process_steps }

module _ {D : Type 0} (kind : D → Kind) (faults : D → ℕ) (script : RunScript) (old new : List (Hosted D)) (o : OpenPorts D) (size : LaneSize) (size_is : size ≡ size_of script)
    (was : HaveOpened kind faults size script.ports.items old new o) where
  have : HaveOpened kind faults (size_of script) script.ports.items old new o
  have = subst (λ size. HaveOpened kind faults size script.ports.items old new o) size_is was

  lanes-many : length have.run.ports.items ≡ length script.ports.items
  lanes-many = have.are.counts.ports_many ∙ length-map script.ports.items (λ p. limits_of p.config)

  pub have-parts : IsRunnable script → AreParts (length o.bodies.items) (parts_of script o)
  have-parts runnable = record {
    setting = setting_of kind faults script old new o have;
    is = is-setting kind faults script old new o runnable have;
    many = sym have.count;
    of = record { lanes_are = have.lanes_are; process_steps_are = refl; soft_are = refl; within = runnable.within };
  }

  pub were-opened : (stage : D → Life) → All (IsUnused stage) old → WereOpened kind stage faults o.places.items old new o.bodies.items
  were-opened stage unused = record {
    ports = script.ports.items;
    rooms = map (room_of (size_of script)) have.run.ports.items;
    ports_many = sym have.count;
    rooms_many = length-map have.run.ports.items (room_of (size_of script)) ∙ lanes-many ∙ sym have.count;
    places_many = have.found.len ∙ sym have.count;
    within = have.found.within;
    different = have.found.different;
    unused = unused;
    opened = have.opened;
  }

  pub is-seated : {S : Type 0} {g : Ghosts BodyView} (poll : S) (seated : SeatedScript BodyView S g) → IsRunnable script → IsRunOf o.bodies.items (parts_of script o) poll script.schedulers seated.run → seated.places ≡ o.places
      → seated.ended.items ≡ [] → length script.process_steps.items ≤ vec_capacity seated.ended → IsSeatedScript kind faults script poll old new seated
  is-seated poll seated runnable run places none room = record {
    setting = setting_of kind faults script old new o have;
    is = rw places (is-setting-of kind faults script old new o runnable have);
    found = rw places have.found;
    bodies = o.bodies.items;
    named = named-in kind faults (setting_of kind faults script old new o have) o.places.items old new o.bodies.items lanes-many have.count have.opened;
    opened = rw places have.opened;
    plans = run.plans;
    others = others_of o.lanes;
    dealt = record {
      plans_are = subst (λ ls. ArePlansOf o.soft.items ls script.process_steps.items run.plans) have.lanes_are.processes run.plans_are;
      workers_are = have.lanes_are.workers;
      poller_is = have.lanes_are.poller;
      finish_is = have.lanes_are.finish;
    };
    run = run.seated;
    no_ended = none;
    for_ended =
        let many = run.plans_are.many ∙ ap length have.lanes_are.processes ∙ have.are.counts.processes_many in
        omega arith;
  }

-- The setting of a run whose ports were opened, and the names of its bodies.
use Rattle.std.proofs.Common.{◌≡◌, ◌<◌, ℕ, None, List, length, map, ap, sym, subst, ◌∙◌, get_or, refl, slice_index}
use Rattle.std.proofs.lemmas.List.{get_or-map, length-map}
use Rattle.driver_model.specs.Calls.{Kind}
use Rattle.run_opening.specs.driver_hosts.port_body.Body.{BodyView, name_of}
use Rattle.run_opening.specs.driver_hosts.declared.hosted.Hosted.{Hosted}
use Rattle.run_opening.specs.driver_hosts.declared.room.PortRoom.{PortRoom}
use Rattle.run_opening.specs.driver_hosts.Opening.{AreOpened, HasOpened}
use Rattle.run_opening.specs.declared.opening.OpenPorts.{OpenPorts}
use Rattle.run_opening.specs.Opened.{HaveOpened, room_of, soft_of}
use Rattle.run_opening.specs.declared.run_script.RunScript.{RunScript}
use Rattle.run_opening.specs.Script.{IsRunnable, size_of}
use Rattle.run_opening.specs.Setting.{Setting, IsSetting, AreNamedIn}
use Rattle.seated_script.specs.Seated.{IsSettingOf}
use Rattle.seated_script.proofs.Ready.{some}

module _ {D : Type 0} (kind : D → Kind) (faults : D → ℕ) where
  -- each body that was opened has the name that its port and its lanes give it
  pub named-in : (s : Setting) (places : List ℕ) (old new : List (Hosted D)) (bodies : List BodyView) → length s.lanes.ports.items ≡ length s.ports → length bodies ≡ length s.ports
      → AreOpened kind faults s.ports (map (room_of s.size) s.lanes.ports.items) places old new bodies → AreNamedIn s (map name_of bodies)
  named-in s places old new bodies lanes count opened = record {
    many = length-map bodies name_of ∙ count;
    each = λ port p d n below.
        let inside : port < length bodies = subst (λ m. port < m) (sym count) below in
        let v : BodyView = some bodies port inside in
        let host : Hosted D = record { port = None; driver = None } in
        let room = get_or-map (room_of s.size) s.lanes.ports.items port d (room_of s.size d) (subst (λ m. port < m) (sym lanes) below) in
        let o = subst (λ (r : PortRoom). HasOpened kind faults port (get_or s.ports port p) r (get_or old (slice_index places port) host) (get_or new (slice_index places port) host) (get_or bodies port v)) room
        (opened.opened port p (room_of s.size d) host v inside) in
        record {
          kind = kind o.driver;
          faults = faults o.driver;
          opened = rw (get_or-map name_of bodies port v n inside) o.opened.name;
        };
  }

  -- what the run is set up with
  abbrev pub setting_of : (script : RunScript) (old new : List (Hosted D)) (o : OpenPorts D) → HaveOpened kind faults (size_of script) script.ports.items old new o → Setting
  setting_of script old new o have = record { size = size_of script; ports = script.ports.items; process_steps = script.process_steps.items; lanes = have.run; soft = o.soft.items }

  pub is-setting : (script : RunScript) (old new : List (Hosted D)) (o : OpenPorts D) → IsRunnable script → (have : HaveOpened kind faults (size_of script) script.ports.items old new o)
      → IsSetting (setting_of script old new o have)
  is-setting script old new o runnable have = record {
    declared = runnable.declared;
    lanes_are = have.are;
    process_steps_many = refl;
    soft_many = ap length have.soft ∙ length-map o.places.items (λ at. soft_of kind (get_or old at (record { port = None; driver = None }))) ∙ have.found.len;
  }

  pub is-setting-of : (script : RunScript) (old new : List (Hosted D)) (o : OpenPorts D) → IsRunnable script → (have : HaveOpened kind faults (size_of script) script.ports.items old new o)
      → IsSettingOf kind script old o.places.items (setting_of script old new o have)
  is-setting-of script old new o runnable have = record {
    is = is-setting script old new o runnable have;
    size_is = refl;
    ports_are = refl;
    process_steps_are = refl;
    soft_are = have.soft;
  }

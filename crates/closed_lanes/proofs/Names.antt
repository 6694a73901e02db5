-- The bodies of a run by what they were opened among.
use Rattle.std.proofs.Common.{◌≡◌, ◌<◌, ℕ, List, length, map, get_or, sym, ap, ◌∙◌, subst, arith}
use Rattle.std.proofs.lemmas.List.{get_or-map, length-map}
use Rattle.run_opening.specs.driver_hosts.port_body.Body.{BodyView, BodyName, name_of}
use Rattle.run_lanes.specs.declared.parts.PortLanes.{PortLanes}
use Rattle.run_lanes.specs.Opened.{HasPort}
use Rattle.run_lanes.proofs.WordsDealt.{no_limits}
use Rattle.script_plan.specs.declared.decl.PortDecl.{PortDecl}
use Rattle.run_opening.specs.driver_hosts.served_port.View.{end_names}
use Rattle.run_opening.specs.Opened.{limits_of}
use Rattle.run_opening.specs.Setting.{Setting, IsSetting, AreNamedIn, IsNamedIn, all_limits}
use Rattle.closed_lanes.proofs.Lists.{some-of}

-- the body of this name was opened among these lanes, with this number
pub record IsOpenedAmong (s : Setting) (number : ℕ) (lanes : PortLanes) (name : BodyName) : Type 0 where
  pub number_is : name.opening.number ≡ number
  pub lane : name.lane ≡ lanes.lane.lane
  pub processes : name.key.processes ≡ s.size.processes
  pub workers : name.key.workers ≡ s.size.workers
  pub pool : name.pool ≡ end_names lanes.pool
  pub has : HasPort s.size (get_or (all_limits s.ports) number no_limits) s.lanes number lanes

module _ (s : Setting) (bodies : List BodyView) (is : IsSetting s) (named : AreNamedIn s (map name_of bodies)) where
  pub many-bodies : length bodies ≡ length s.ports
  many-bodies = sym (length-map bodies name_of) ∙ named.many

  pub many-lanes : length s.lanes.ports.items ≡ length bodies
  many-lanes = is.lanes_are.counts.ports_many ∙ length-map s.ports (λ (p : PortDecl). limits_of p.config) ∙ sym many-bodies

  pub opened-among : (port : ℕ) (v : BodyView) (d : PortLanes) → port < length bodies → IsOpenedAmong s port (get_or s.lanes.ports.items port d) (name_of (get_or bodies port v))
  opened-among port v d below =
      let bodies_are = many-bodies in
      let within : port < length s.ports = omega (arith, bodies_are, below) in
      let limits = length-map s.ports (λ (p : PortDecl). limits_of p.config) in
      let p = some-of s.ports port within in
      let lanes = get_or s.lanes.ports.items port d in
      let has = is.lanes_are.ports port no_limits d (omega (arith, limits, within)) in
      let is_named = subst (IsNamedIn s port (get_or s.ports port p) lanes) (get_or-map name_of bodies port v (name_of v) below) (named.each port p d (name_of v) within) in
      let name = is_named.opened in
      record {
        number_is = name.number;
        lane = name.lane_is;
        processes = ap (λ k. k.processes) name.key ∙ ap (λ k. k.processes) has.lane.key_is;
        workers = ap (λ k. k.workers) name.key ∙ ap (λ k. k.workers) has.lane.key_is;
        pool = name.pool;
        has = has;
      }

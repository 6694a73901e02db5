-- How the ports of a run are opened.
use Rattle.std.proofs.Common.{rules, ◌≡◌, ◌<◌, ℕ, true, ◌&&◌, List, [], ◌∷◌, length, map, ap, sym, subst, ◌∙◌, All, slice_index_or, arith, refl}
use Rattle.std.proofs.lemmas.Bool.{and_parts, leb-true}
use Rattle.std.proofs.lemmas.List.{get_or-map, length-map}
use Rattle.driver_hosts.specs.driver_model.Calls.{Kind}
use Rattle.port_config.specs.declared.config.Config.{Config}
use Rattle.port_config.specs.Config.{is_config, is_pair, is_served}
use Rattle.driver_hosts.specs.port_driver.declared.life.Life.{Life}
use Rattle.driver_hosts.specs.port_driver.declared.life.StartRefusal.TheVariants as start
use Rattle.port_words.specs.busy.Known.{InRange}
use Rattle.port_words.specs.declared.busy.view.QueueLimits.{QueueLimits}
use Rattle.script_plan.specs.declared.decl.PortDecl.{PortDecl}
use Rattle.run_lanes.specs.declared.size.LaneSize.{LaneSize}
use Rattle.run_lanes.specs.declared.parts.PortLanes.{PortLanes}
use Rattle.run_lanes.specs.Opened.{CanOpen}
use Rattle.driver_hosts.proofs.ComingBack.{refused-come-back}
use Rattle.driver_hosts.specs.declared.finding.Lacking.{Lacking}
use Rattle.driver_hosts.specs.declared.finding.Lacking.TheVariants as lacking
use Rattle.driver_hosts.specs.declared.hosted.Hosted.{Hosted}
use Rattle.driver_hosts.specs.declared.opening.Unopened.{Unopened}
use Rattle.driver_hosts.specs.declared.opening.Unopened.TheVariants as unopened
use Rattle.driver_hosts.specs.declared.room.PortRoom.{PortRoom}
use Rattle.driver_hosts.specs.Back.{AllCameBack, AreBack}
use Rattle.driver_hosts.specs.Finding.{Found, Lacks}
use Rattle.driver_hosts.specs.Hosts.{IsUnused}
use Rattle.driver_hosts.specs.Opening.{FitsPort, Fit, IsUnopened}
use Rattle.run_opening.specs.declared.opening.OpenFault.{OpenFault}
use Rattle.run_opening.specs.Opened.{AreDeclared, limits_of, room_of}
use Rattle.run_opening.specs.Faults.{AreNotOpened, IsFaultOf, IsRefusalOf}

-- options in their ranges have limits in their range
pub in_range : (c : Config) → is_config c ≡ true → InRange (limits_of c).on (limits_of c).low (limits_of c).high
in_range c is _ =
    let pair = (and_parts (is_served c.mode && is_pair c.busy_low c.busy_high) (is_pair c.msgq_low c.msgq_high) is).1 in
    let outer = and_parts _ _ pair in
    let inner = and_parts _ _ outer.0 in
    (leb-true _ _ inner.0, leb-true _ _ inner.1, leb-true _ _ outer.1)

-- the limits of such options are in their range, by place
range_at : (first : PortDecl) (ports : List PortDecl) (limits : List QueueLimits) → All (λ p. is_config p.config ≡ true) ports → limits ≡ map (λ (p : PortDecl). limits_of p.config) ports
    → All (λ l. InRange l.on l.low l.high) limits
range_at first ports limits configs are k d below =
    let within : k < length ports = rw (sym (length-map ports (λ p. limits_of p.config)), sym are) below in
    let at : slice_index_or limits k d ≡ limits_of (slice_index_or ports k first).config =
    ap (λ ls. slice_index_or ls k d) are ∙ get_or-map (λ (p : PortDecl). limits_of p.config) ports k first d within in
    subst (λ l. InRange l.on l.low l.high) (sym at) (in_range (slice_index_or ports k first).config (configs k first within))

pub ranges_in : (ports : List PortDecl) (limits : List QueueLimits) → All (λ p. is_config p.config ≡ true) ports → limits ≡ map (λ (p : PortDecl). limits_of p.config) ports
    → All (λ l. InRange l.on l.low l.high) limits
ranges_in [] limits configs are k d below = let none : k < 0 = subst (λ ls. k < length ls) are below in search rules
ranges_in (first ∷ ports) limits configs are k d below = range_at first (first ∷ ports) limits configs are k d below

-- where there is a port, there is a process
pub some_owner : (processes : ℕ) (ports : List PortDecl) → All (λ p. p.owner < processes) ports → 0 < length ports → 0 < processes
some_owner processes [] owners h = search rules
some_owner processes (p ∷ ports) owners h = let owned = owners 0 p h in search rules

-- what the lanes of a port are, of which this is the room
abbrev lanes_in : PortRoom → PortLanes
lanes_in room = record { lane = room.lane; mailboxes = room.outlets.mailboxes; seat = room.outlets.seat; asks = room.outlets.ends.asks; pool = room.outlets.ends.pool }

-- a port fits its room
fits_one : (size : LaneSize) (port : PortDecl) (lanes : PortLanes) → port.owner < size.processes → CanOpen size lanes → FitsPort port (room_of size lanes)
fits_one size port lanes owner can = record {
  owner = owner;
  unused = record { mail = can.mail; asks = can.asks; jobs = can.jobs; marks = can.marks; removed = can.removed };
  lane = record { taken = can.taken; processes = can.processes; workers_are = can.workers; table = can.table };
}

-- each port fits its room
pub fits : (size : LaneSize) (ports : List PortDecl) (rooms : List PortRoom) (lanes : List PortLanes) → AreDeclared size ports → rooms ≡ map (room_of size) lanes → length lanes ≡ length ports
    → ((port : ℕ) (d : PortLanes) → port < length ports → CanOpen size (slice_index_or lanes port d)) → Fit ports rooms
fits size ports rooms lanes declared rooms_are many can port p r below =
    let within : port < length lanes = rw many below in
    let at : slice_index_or rooms port r ≡ room_of size (slice_index_or lanes port (lanes_in r)) =
    ap (λ rs. slice_index_or rs port r) rooms_are ∙ get_or-map (room_of size) lanes port (lanes_in r) r within in
    subst (λ room. FitsPort (slice_index_or ports port p) room) (sym at)
    (fits_one size (slice_index_or ports port p) (slice_index_or lanes port (lanes_in r)) (declared.owners port p below) (can port (lanes_in r) below))

some_decl : (ports : List PortDecl) (at : ℕ) → at < length ports → PortDecl
some_decl [] at within = absurd (omega arith)
some_decl (p ∷ ports) at within = p

module _ {D : Type 0} (kind : D → Kind) (stage : D → Life) (faults : D → ℕ) where
  -- a port that gets no driver
  pub lacking_told : (ports : List PortDecl) (hosts : List (Hosted D)) (l : Lacking) (f : OpenFault) → Lacks kind hosts ports l → IsFaultOf ports l f → AreNotOpened kind stage faults ports hosts hosts f
  lacking_told ports hosts (lacking.NoDriver at handed) f lacks (line, is, line_is) =
      subst (AreNotOpened kind stage faults ports hosts hosts) (sym is) (record { at = at; line_is = line_is; lacks = lacks }, refl)
  lacking_told ports hosts lacking.NoMemory f lacks is = subst (AreNotOpened kind stage faults ports hosts hosts) (sym is) tt

  -- a driver that didn't start
  pub refusal_told : (ports : List PortDecl) (places : List ℕ) (old new : List (Hosted D)) (u : Unopened) (f : OpenFault) → Found kind old ports places → IsUnopened kind ports places old u
      → AreBack kind stage faults ports places old new u → IsRefusalOf u f → AreNotOpened kind stage faults ports old new f
  refusal_told ports places old new unopened.NoMemory f found is back told = subst (AreNotOpened kind stage faults ports old new) (sym told) tt
  refusal_told ports places old new (unopened.Refused at line start.NoMemory) f found is back told = subst (AreNotOpened kind stage faults ports old new) (sym told) tt
  refusal_told ports places old new (unopened.Refused at line start.General) f found is back told =
      subst (AreNotOpened kind stage faults ports old new) (sym told) (record { places = places; at = at; found = found; refused = is; served = back; own = tt })
  refusal_told ports places old new (unopened.Refused at line start.Errno) f found is back told =
      subst (AreNotOpened kind stage faults ports old new) (sym told) (record { places = places; at = at; found = found; refused = is; served = back; own = tt })
  refusal_told ports places old new (unopened.Refused at line start.Badarg) f found is back told =
      subst (AreNotOpened kind stage faults ports old new) (sym told) (record { places = places; at = at; found = found; refused = is; served = back; own = tt })
  refusal_told ports places old new (unopened.Refused at line start.StartFault) f found is back told =
      subst (AreNotOpened kind stage faults ports old new) (sym told) (record { places = places; at = at; found = found; refused = is; served = back; own = tt })

  -- all drivers are back where no port is opened
  unused_back : (old : List (Hosted D)) → All (IsUnused stage) old → AllCameBack kind stage faults old old
  unused_back old unused = search rules

  pub all_back : (ports : List PortDecl) (places : List ℕ) (old new : List (Hosted D)) (u : Unopened) → All (IsUnused stage) old → IsUnopened kind ports places old u
      → AreBack kind stage faults ports places old new u → AllCameBack kind stage faults old new
  all_back ports places old new (unopened.Refused at line refusal) unused is back =
      refused-come-back kind stage faults ports (some_decl ports at is.within) places at refusal old new unused back
  all_back ports places old new unopened.NoMemory unused is back = subst (AllCameBack kind stage faults old) (sym back) (unused_back old unused)

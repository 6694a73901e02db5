-- The bodies of a run, as they come home.
use Rattle.std.specs.Prelude.{◌≡◌, ◌≤◌, ℕ, List, [], map, vec_capacity}
use Rattle.port_sched.specs.declared.body.PortBody.{Ghosts}
use Rattle.port_sched.specs.declared.lodger.Lodger.{Lodger}
use Rattle.run_seats.specs.declared.homing.HomeRoom.{HomeRoom}

module _ {B : Type 0} {g : Ghosts B} where
  -- the lists are empty, and have room for so many bodies
  pub record IsHomeRoom (ports : ℕ) (room : HomeRoom B g) : Type 0 where
    pub no_lodgers : room.lodgers.items ≡ []
    pub no_bodies : room.bodies.items ≡ []
    pub for_lodgers : ports ≤ vec_capacity room.lodgers
    pub for_bodies : ports ≤ vec_capacity room.bodies

  -- each body has the name of the one that went home at its port
  abbrev pub KeepTheirNames : {N : Type 0} → (B → N) → List (Lodger B g) → List B → Type 0
  KeepTheirNames name lodgers bodies = map name bodies ≡ map (λ l. name l.body) lodgers

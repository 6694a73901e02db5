-- The laws of a history that a port can see to by itself.
use Rattle.std.specs.Prelude.{◌≡◌, List, [], ◌∷◌, true}
use Rattle.port_model.specs.declared.row.Row.{Row}
use Rattle.port_lanes.specs.port_history.Opening.{Opening}
use Rattle.port_lanes.specs.port_history.State.{State, state}
use Rattle.port_lanes.specs.port_history.Laws.{keeps_order, keeps_lifetime, keeps_busy, keeps_effects, keeps_marks, keeps_listed, keeps_resumed, keeps_ready}
use Rattle.served_port.specs.Outcomes.{keeps_times}

-- a row keeps the laws after a state: all of them, but of the law of jobs what a worker has to see to, which output is told of a job, in which order, and
-- once
pub record KeepsPortLaws (port : Opening) (s : State) (row : Row) : Type 0 where
  pub order : keeps_order s row ≡ true
  pub lifetime : keeps_lifetime s row ≡ true
  pub busy : keeps_busy s row ≡ true
  pub effects : keeps_effects port s row ≡ true
  pub marks : keeps_marks s row ≡ true
  pub listed : keeps_listed s row ≡ true
  pub resumed : keeps_resumed s row ≡ true
  pub ready : keeps_ready s row ≡ true
  pub jobs : keeps_times s row ≡ true

-- each row of a history, newest first, keeps them after those before it
abbrev pub IsLawful : Opening → List Row → Type 0
IsLawful port [] = Unit {0}
IsLawful port (row ∷ older) = KeepsPortLaws port (state port older) row × IsLawful port older

-- A run of a script that can begin.
use Rattle.std.specs.Prelude.{◌≡◌, ◌≤◌, ℕ, List, [], length, map, vec_capacity}
use Rattle.driver_model.specs.Calls.{Kind}
use Rattle.run_opening.specs.driver_hosts.port_body.Body.{BodyView, name_of}
use Rattle.port_sched.specs.declared.body.PortBody.{Ghosts}
use Rattle.run_opening.specs.driver_hosts.declared.hosted.Hosted.{Hosted}
use Rattle.run_opening.specs.driver_hosts.Finding.{Found}
use Rattle.run_opening.specs.driver_hosts.Opening.{AreOpened}
use Rattle.run_opening.specs.Opened.{room_of, soft_at}
use Rattle.run_opening.specs.run_seats.declared.plans.ProcessPlan.{ProcessPlan}
use Rattle.run_opening.specs.run_seats.declared.seating.OtherLanes.{OtherLanes}
use Rattle.run_opening.specs.run_seats.Plans.{ArePlansOf}
use Rattle.run_opening.specs.run_seats.Seated.{IsSeated}
use Rattle.run_opening.specs.declared.run_script.RunScript.{RunScript}
use Rattle.run_opening.specs.Script.{size_of}
use Rattle.run_opening.specs.Setting.{Setting, IsSetting, AreNamedIn}
use Rattle.seated_script.specs.declared.seating.SeatedScript.{SeatedScript}

-- it is set up with what the script says, and with the drivers at these places
pub record IsSettingOf {D : Type 0} (kind : D → Kind) (script : RunScript) (hosts : List (Hosted D)) (places : List ℕ) (s : Setting) : Type 0 where
  pub is : IsSetting s
  pub size_is : s.size ≡ size_of script
  pub ports_are : s.ports ≡ script.ports.items
  pub process_steps_are : s.process_steps ≡ script.process_steps.items
  pub soft_are : s.soft ≡ soft_at kind hosts places

-- what is dealt to the jobs are the lanes of the run
pub record AreDealt (s : Setting) (plans : List ProcessPlan) (others : OtherLanes) : Type 0 where
  pub plans_are : ArePlansOf s.soft s.lanes.processes.items s.process_steps plans
  pub workers_are : others.workers.items ≡ s.lanes.workers.items
  pub poller_is : others.poller ≡ s.lanes.poller
  pub finish_is : others.finish ≡ s.lanes.finish

module _ {D S : Type 0} {g : Ghosts BodyView} where
  -- the ports were opened, each with the driver that was found for it, and the run is seated over their bodies
  pub record IsSeatedScript (kind : D → Kind) (faults : D → ℕ) (script : RunScript) (poll : S) (old new : List (Hosted D)) (seated : SeatedScript BodyView S g) : Type 0 where
    pub setting : Setting
    pub is : IsSettingOf kind script old seated.places.items setting
    pub found : Found kind old script.ports.items seated.places.items
    pub bodies : List BodyView
    pub named : AreNamedIn setting (map name_of bodies)
    pub opened : AreOpened kind faults script.ports.items (map (room_of setting.size) setting.lanes.ports.items) seated.places.items old new bodies
    pub plans : List ProcessPlan
    pub others : OtherLanes
    pub dealt : AreDealt setting plans others
    pub run : IsSeated bodies plans others poll script.schedulers seated.run
    pub no_ended : seated.ended.items ≡ []
    pub for_ended : length plans ≤ vec_capacity seated.ended

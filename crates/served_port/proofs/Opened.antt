-- A port that was just opened stands at the start of its history.
use Rattle.std.proofs.Common.{◌≡◌, ℕ, map, List, [], ◌∷◌, ◌++◌, ap, ◌∙◌, subst}
use Rattle.std.specs.List.{flat_map}
use Rattle.port_driver.specs.driver_model.Drivers.{effects_of}
use Rattle.port_model.specs.declared.effect.Effect.{Effect}
use Rattle.port_events.specs.port_history.Events.{selected_by, arm}
use Rattle.port_events.specs.port_history.Jobs.{submitted_by}
use Rattle.port_events.specs.port_history.Opening.{Opening}
use Rattle.port_events.specs.port_history.State.{start_call, state_at_start}
use Rattle.port_events.specs.Asks.{arm_asks}
use Rattle.ready_select.specs.declared.ask.PollAsk.{PollAsk}
use Rattle.task_queue.specs.Ends.{Sending}
use Rattle.async_jobs.specs.Pool.{Lanes}
use Rattle.port_events.specs.Table as table
use Rattle.port_events.specs.Table.{EventTable, KeepsEnd}
use Rattle.port_jobs.specs.Jobs as jobs
use Rattle.port_jobs.specs.Jobs.{JobsView, Submits, AreJobsOf}
use Rattle.port_state.specs.View.{IsStateOf}
use Rattle.served_port.specs.declared.ends.PortEnds.{PortEnds}
use Rattle.served_port.specs.View.{ServedView, end_names}
use Rattle.served_port.specs.Outcomes.{SubmitsJobs}
use Rattle.served_port.specs.Openings.{IsAtStart}
use Rattle.served_port.specs.Steps.{StartsEvents}
use Rattle.served_port.proofs.EndNames.{names_submitted}
use Rattle.served_port.proofs.Rows.{start-at}

submitted : (port number : ℕ) (effects others : List Effect) (old new : JobsView) → number ≡ port → effects ≡ others → old.port ≡ number → Submits old new effects
    → SubmitsJobs port others old.lanes new.lanes
submitted port number effects others old new p e q s = record {
  jobs = s.lanes.0;
  are = subst (λ x. AreJobsOf port x s.lanes.0) e (subst (λ x. AreJobsOf x effects s.lanes.0) (q ∙ p) s.lanes.1);
  submitted = s.lanes.2;
}

pub opened-at : (number : ℕ) (v : ServedView) (ends : PortEnds) (port : Opening) (events : EventTable) (told : JobsView) (effects : List Effect)
    → IsStateOf v.state port (state_at_start port) → effects ≡ effects_of port.kind port.config (start_call port ∷ []) → number ≡ port.number
    → StartsEvents events effects v.events → table.Agrees events.selector [] → events.port ≡ number → events.asks ≡ ends.asks → KeepsEnd events v.events
    → Submits told v.jobs effects → told.port ≡ number → told.lanes ≡ ends.pool → jobs.Agrees told [] []
    → IsAtStart port ends v
opened-at number v ends port events told effects state are n starts none ep ea kept submits jp jl agrees = record {
  at = start-at v port state
      (subst (λ x. table.Agrees v.events.selector (map arm (selected_by x []))) are (starts.agrees [] none))
      (ap (λ (x : EventTable). x.port) kept ∙ (ep ∙ n))
      (subst (λ x. jobs.Agrees v.jobs (submitted_by x) []) are (submits.agrees [] [] agrees))
      (submits.port ∙ (jp ∙ n));
  end = ap (λ (x : EventTable). x.asks) kept ∙ ap (λ (x : Sending PollAsk (Unit {0})). record x { sent = v.events.asks.sent }) ea;
  pool = names_submitted told v.jobs effects submits ∙ ap (λ (x : Lanes). end_names x) jl;
  asks = starts.asks [] none
      ∙ (ap (λ x. x.sent ++ flat_map (arm_asks events.port) (selected_by effects [])) ea
      ∙ (ap (λ x. ends.asks.sent ++ flat_map (arm_asks x) (selected_by effects [])) (ep ∙ n)
      ∙ ap (λ x. ends.asks.sent ++ flat_map (arm_asks port.number) (selected_by x [])) are));
  jobs = subst (λ x. SubmitsJobs port.number (effects_of port.kind port.config (start_call port ∷ [])) x v.jobs.lanes) jl
      (submitted port.number number effects (effects_of port.kind port.config (start_call port ∷ [])) told v.jobs n are jp submits);
}

-- The jobs of a run can begin with the parts that are dealt to them.
use Rattle.std.proofs.Common.{◌≡◌, ◌<◌, ◌+◌, ℕ, true, List, [], ◌∷◌, length, ap, sym, subst, ◌∙◌, All, get_or, arith, refl}
use Rattle.std.proofs.lemmas.Bool.{lt-ltb}
use Rattle.std.proofs.lemmas.List.{length-map}
use Rattle.port_words.specs.declared.busy.view.QueueLimits.{QueueLimits}
use Rattle.port_lanes.specs.Keys.{Key, EndsAreNumbered, end_of, is_within, sender_at}
use Rattle.port_model.specs.declared.signal.Sender.{Sender}
use Rattle.port_model.specs.declared.signal.Sender.TheVariants as sender
use Rattle.run_opening.specs.run_end.process_job.process_end.Views.{LaneEnd}
use Rattle.run_opening.specs.run_end.process_job.Jobs.{AreWithin}
use Rattle.run_opening.specs.run_seats.run_jobs.Telling.{AreEndsOf}
use Rattle.run_opening.specs.run_lanes.declared.parts.PortLanes.{PortLanes}
use Rattle.run_opening.specs.run_lanes.declared.parts.ProcessLanes.{ProcessLanes}
use Rattle.run_opening.specs.run_lanes.declared.size.LaneSize.{LaneSize}
use Rattle.run_opening.specs.run_lanes.Opened.{CanBegin, HasLaneEnds, HasProcess}
use Rattle.run_opening.specs.Opened.{limits_of}
use Rattle.run_opening.specs.run_seats.declared.plans.ProcessPlan.{ProcessPlan}
use Rattle.run_opening.specs.run_seats.declared.plans.ProcessSteps.{ProcessSteps}
use Rattle.run_opening.specs.run_seats.Plans.{ArePlansOf, IsPlanOf, IsReadyPlan, IsReadyWorker}
use Rattle.run_opening.specs.run_seats.Seated.{AreReadyLanes}
use Rattle.run_opening.specs.Setting.{Setting, IsSetting}
use Rattle.seated_script.specs.declared.dealing.JobParts.{JobParts}
use Rattle.seated_script.specs.Parts.{ArePartsOf, AreParts, others_of}

-- an element of a list that isn't empty
pub some : {X : Type 0} (xs : List X) (n : ℕ) → n < length xs → X
some [] n below = absurd (omega arith)
some (x ∷ xs) n below = x

-- the end of this number of a lane of a run of this size
record IsEnd (size : LaneSize) (number : ℕ) (end : LaneEnd) : Type 0 where
  pub processes : end.key.processes ≡ size.processes
  pub workers : end.key.workers ≡ size.workers
  pub number_is : end.number ≡ number

module _ (s : Setting) (is : IsSetting s) where
  lanes-many : length s.lanes.ports.items ≡ length s.ports
  lanes-many = is.lanes_are.counts.ports_many ∙ length-map s.ports (λ p. limits_of p.config)

  ends-many : (number : ℕ) (mine : List LaneEnd) → HasLaneEnds s.size s.lanes number mine → length mine ≡ length s.ports
  ends-many number mine has = has.many ∙ lanes-many

  end-at : (number : ℕ) (mine : List LaneEnd) → HasLaneEnds s.size s.lanes number mine → (k : ℕ) (d : LaneEnd) → k < length mine → IsEnd s.size number (get_or mine k d)
  end-at number mine has k d below =
      let inside : k < length s.lanes.ports.items = subst (λ n. k < n) has.many below in
      let p : PortLanes = some s.lanes.ports.items k inside in
      let l : QueueLimits = record { on = true; low = 0; high = 0 } in
      let at = (has.each p).each k d inside in
      let key = (is.lanes_are.ports k l p (subst (λ n. k < n) is.lanes_are.counts.ports_many inside)).lane.key_is in
      record {
        processes = ap (λ e. e.key.processes) at ∙ ap (λ (key : Key). key.processes) key;
        workers = ap (λ e. e.key.workers) at ∙ ap (λ (key : Key). key.workers) key;
        number_is = ap (λ e. e.number) at;
      }

  -- the ends of a sender's number are that sender's
  ends-of : EndsAreNumbered → (from : Sender) (number : ℕ) (mine : List LaneEnd) → HasLaneEnds s.size s.lanes number mine
      → ((key : Key) → key.processes ≡ s.size.processes → key.workers ≡ s.size.workers → (end_of key from ≡ number) × (is_within key from ≡ true)) → AreEndsOf from mine
  ends-of numbered from number mine has own port d below =
      let end = end-at number mine has port d below in
      let key : Key = (get_or mine port d).key in
      let mine_is = own key end.processes end.workers in
      ap (sender_at key) (end.number_is ∙ sym mine_is.0) ∙ numbered key from mine_is.1

  one-ready : (n : ℕ) (lanes : ProcessLanes) (own_steps : ProcessSteps) (plan : ProcessPlan) → IsPlanOf s.soft n lanes own_steps plan → CanBegin (length s.ports) n lanes → HasProcess s.size s.lanes n lanes
      → AreWithin s.size.processes (length s.ports) own_steps.steps.items → IsReadyPlan (length s.ports) plan
  one-ready n lanes own_steps plan of can has within = record {
    parts = rw (of.number_is, of.mailbox, of.lanes_are, of.seats, of.soft_are) (can s.soft is.soft_many);
    many = ap length of.lanes_are ∙ ends-many n lanes.lanes.items has.lanes;
    processes = s.size.processes;
    among = λ k d below. rw of.lanes_are ((end-at n lanes.lanes.items has.lanes k d (subst (λ ends. k < length ends) of.lanes_are below)).processes);
    within = subst (λ (p : ProcessSteps). AreWithin s.size.processes (length s.ports) p.steps.items) (sym of.own_steps_are) within;
  }

  -- each plan is that of the process of its number
  plan-at : (parts : JobParts) (plans : List ProcessPlan) → ArePartsOf s parts → ArePlansOf parts.soft.items parts.lanes.processes.items parts.process_steps.items plans
      → (n : ℕ) (l : ProcessLanes) (p : ProcessSteps) (d : ProcessPlan) → n < length parts.lanes.processes.items → IsPlanOf s.soft n (get_or s.lanes.processes.items n l) (get_or s.process_steps n p) (get_or plans n d)
  plan-at parts plans of are n l p d inside = rw (sym of.soft_are, sym of.lanes_are.processes, sym of.process_steps_are) (are.each n l p d inside)

  ready-plans : (parts : JobParts) (plans : List ProcessPlan) → ArePartsOf s parts → ArePlansOf parts.soft.items parts.lanes.processes.items parts.process_steps.items plans → All (IsReadyPlan (length s.ports)) plans
  ready-plans parts plans of are n d below =
      let inside : n < length parts.lanes.processes.items = subst (λ m. n < m) are.many below in
      let among : n < length s.lanes.processes.items = subst (λ ls. n < length ls) of.lanes_are.processes inside in
      let counted : n < s.size.processes = subst (λ m. n < m) is.lanes_are.counts.processes_many among in
      let has_steps : n < length s.process_steps = subst (λ m. n < m) (sym is.process_steps_many) counted in
      let l : ProcessLanes = some s.lanes.processes.items n among in
      let p : ProcessSteps = some s.process_steps n has_steps in
      one-ready n (get_or s.lanes.processes.items n l) (get_or s.process_steps n p) (get_or plans n d) (plan-at parts plans of are n l p d inside)
      (subst (λ ports. CanBegin ports n (get_or s.lanes.processes.items n l)) (length-map s.ports (λ p. limits_of p.config)) (is.lanes_are.can_begin n l counted)) (is.lanes_are.processes n l counted)
      (of.within n p has_steps)

  ready-others : EndsAreNumbered → (parts : JobParts) → ArePartsOf s parts → AreReadyLanes (length s.ports) (others_of parts.lanes)
  ready-others numbered parts of = record {
    workers = record {
      each = λ n d below.
          let inside : n < s.size.workers = subst (λ m. n < m) is.lanes_are.counts.workers_many (subst (λ ws. n < length ws) of.lanes_are.workers below) in
          let has = (is.lanes_are.workers n d inside).lanes in
          subst (λ ws. IsReadyWorker (length s.ports) n (get_or ws n d)) (sym of.lanes_are.workers) (record {
            many = ends-many (s.size.processes + 1 + n) _ has;
            ends = ends-of numbered (sender.Worker n) (s.size.processes + 1 + n) _ has (λ key processes workers. (ap (λ m. m + 1 + n) processes, lt-ltb n key.workers (subst (λ m. n < m) (sym workers) inside)));
          });
    };
    poller = rw of.lanes_are.poller (record {
      many = ends-many s.size.processes _ is.lanes_are.poller.lanes;
      ends = ends-of numbered sender.Poller s.size.processes _ is.lanes_are.poller.lanes (λ key processes workers. (processes, refl));
    });
  }

-- so it is with so many ports
pub plans-ready : (ports : ℕ) (parts : JobParts) (plans : List ProcessPlan) → AreParts ports parts → ArePlansOf parts.soft.items parts.lanes.processes.items parts.process_steps.items plans → All (IsReadyPlan ports) plans
plans-ready ports parts plans of are = subst (λ m. All (IsReadyPlan m) plans) of.many (ready-plans of.setting of.is parts plans of.of are)

pub others-ready : EndsAreNumbered → (ports : ℕ) (parts : JobParts) → AreParts ports parts → AreReadyLanes ports (others_of parts.lanes)
others-ready numbered ports parts of = subst (λ m. AreReadyLanes m (others_of parts.lanes)) of.many (ready-others of.setting of.is numbered parts of.of)

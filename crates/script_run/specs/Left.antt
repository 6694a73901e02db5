-- What a run leaves that nobody stopped, by its setting.
use Rattle.std.specs.Prelude.{◌≡◌, ◌<◌, ℕ, List, length, map, Option, slice_index_or}
use Rattle.driver_model.specs.Calls.{Kind, Own}
use Rattle.driver_model.specs.Programs.{ToldProgram}
use Rattle.port_model.specs.declared.mail.Mail.{Mail}
use Rattle.port_body.specs.Body.{BodyName}
use Rattle.driver_hosts.specs.declared.hosted.Hosted.{Hosted}
use Rattle.seated_script.specs.run_opening.run_end.Ran.{RanProcess}
use Rattle.seated_script.specs.run_opening.run_seats.declared.plans.ProcessPlan.{ProcessPlan}
use Rattle.seated_script.specs.run_opening.run_seats.declared.seating.OtherLanes.{OtherLanes}
use Rattle.seated_script.specs.run_opening.run_seats.threaded_jobs.declared.ended.EndedJobs.{EndedJobs}
use Rattle.closed_lanes.specs.declared.closing.ClosedPort.{ClosedPort}
use Rattle.closed_lanes.specs.declared.closing.LaneEnds.{LaneEnds}
use Rattle.closed_lanes.specs.Closed.{AreClosedIn, GiveBack, IsClosedPort}
use Rattle.async_jobs.specs.Pool.{PoolEnd}
use Rattle.process_end.specs.Views.{LaneEnd}
use Rattle.seated_script.specs.run_opening.run_end.process_job.declared.job.EndedProcess.{EndedProcess}
use Rattle.seated_script.specs.run_opening.run_seats.threaded_jobs.declared.parting.WorkerLeft.{WorkerLeft}
use Rattle.closed_lanes.specs.declared.joining.ProcessPeers.{ProcessPeers}
use Rattle.closed_lanes.specs.Joined.{AreJoined, AreOfProcesses}
use Rattle.process_receipts.specs.declared.receipt.Receipt.{Receipt}
use Rattle.ended_jobs.specs.Ended.{HaveEndedFor}
use Rattle.seated_script.specs.Seated.{AreDealt}
use Rattle.seated_script.specs.run_opening.Setting.{Setting, IsSetting, AreNamedIn}
use Rattle.seated_script.specs.run_opening.Jobs.{HaveRunIn}
use Rattle.script_run.specs.declared.parting.PartedPorts.{PartedPorts}
use Rattle.script_run.specs.declared.parting.ProcessParts.{ProcessParts}
use Rattle.script_run.specs.declared.running.ProcessLeft.{ProcessLeft}
use Rattle.script_run.specs.declared.running.ScriptRan.{ScriptRan}
use Rattle.script_run.specs.Parted.{ArePartedPorts, AreProcessParts}

-- the jobs of a run with this setting, whose bodies have these names, have ended
pub record HasEndedIn {S : Type 0} (faults : S → ℕ) (answered : S → List ℕ) (s : Setting) (plans : List ProcessPlan) (poll : S) (names : List BodyName) (jobs : EndedJobs S) : Type 0 where
  pub is : IsSetting s
  pub named : AreNamedIn s names
  pub others : OtherLanes
  pub dealt : AreDealt s plans others
  pub ended : HaveEndedFor faults answered plans others poll jobs

-- the receipts of each process are those that it left, and its mail is this
pub record AreProcessesLeft (ran : List RanProcess) (mails : List (List Mail)) (left : ScriptRan) : Type 0 where
  pub many : length left.processes.items ≡ length ran
  pub receipts_are : (n : ℕ) (l : ProcessLeft) (r : RanProcess) → n < length ran → (slice_index_or left.processes.items n l).receipts ≡ (slice_index_or ran n r).end.receipts
  pub mails_are : (n : ℕ) (l : ProcessLeft) (m : List Mail) → n < length ran → (slice_index_or left.processes.items n l).mails.items ≡ slice_index_or mails n m

-- the parts of what these jobs leave: those of each process in its place, and the rest as it is
pub record AreJobParts (processes : List EndedProcess) (poller : List LaneEnd) (workers : List WorkerLeft) (finish : List PoolEnd) (ends : LaneEnds) (receipts : List (List Receipt)) (peers : ProcessPeers) : Type 0 where
  pub parts : ProcessParts
  pub are_parts : AreProcessParts processes parts
  pub lanes_are : ends.processes ≡ parts.lanes
  pub poller_is : ends.poller.items ≡ poller
  pub workers_are : ends.workers.items ≡ workers
  pub finish_is : ends.finish.items ≡ finish
  pub receipts_are : receipts ≡ parts.receipts.items
  pub peers_are : peers ≡ parts.peers

-- they are of a run with this setting, whose bodies have these names, and whose processes ran so
pub record HaveJobParts (s : Setting) (names : List BodyName) (ran : List RanProcess) (ends : LaneEnds) (receipts : List (List Receipt)) (peers : ProcessPeers) : Type 0 where
  pub is : IsSetting s
  pub named : AreNamedIn s names
  pub have_run : HaveRunIn s ran
  pub given_back : GiveBack s ran ends
  pub receipts_are : receipts ≡ map (λ (p : RanProcess). p.end.receipts) ran
  pub of_processes : AreOfProcesses ran peers

-- the ports are closed, and the receipts and the rest of the processes are of those that ran
pub record CanGather (s : Setting) (names : List BodyName) (ran : List RanProcess) (closed : List ClosedPort) (receipts : List (List Receipt)) (peers : ProcessPeers) : Type 0 where
  pub is : IsSetting s
  pub named : AreNamedIn s names
  pub have_run : HaveRunIn s ran
  pub many : length closed ≡ length s.ports
  pub are_closed : (port : ℕ) (n : BodyName) (p : ClosedPort) → port < length s.ports → IsClosedPort (slice_index_or names port n) (slice_index_or closed port p)
  pub receipts_are : receipts ≡ map (λ (p : RanProcess). p.end.receipts) ran
  pub of_processes : AreOfProcesses ran peers

-- what they leave is put together
pub record IsGathered (s : Setting) (ran : List RanProcess) (closed : List ClosedPort) (left : ScriptRan) : Type 0 where
  pub parts : PartedPorts
  pub are_parts : ArePartedPorts closed parts
  pub ports_are : left.ports.items ≡ parts.left.items
  pub mails : List (List Mail)
  pub joined : AreJoined s ran parts.peers mails
  pub processes : AreProcessesLeft ran mails left

-- this is left of the ports and the processes of a run with this setting, whose poller gave back these ends of the ports' lanes: its ports are closed, and its mail and words put together
pub record IsLeft {D : Type 0} (kind : D → Kind) (faults : D → ℕ) (own : D → Own) (program : D → Option ToldProgram) (s : Setting) (ran : List RanProcess) (poller : List LaneEnd) (names : List BodyName) (places : List ℕ)
    (hosts : List (Hosted D)) (left : ScriptRan) : Type 0 where
  pub have_run : HaveRunIn s ran
  pub closed : List ClosedPort
  pub are_closed : AreClosedIn kind faults own program s ran poller names places closed hosts
  pub gathered : IsGathered s ran closed left

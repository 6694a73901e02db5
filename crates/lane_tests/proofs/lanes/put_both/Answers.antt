use denote.Param.{param}
use denote.Param.Send.{IsSend, IsSync}
use Rattle.lane_tests.specs.contracts.lanes.PutJob as job
use Rattle.lane_tests.specs.contracts.lanes.put_both.{R-row}
use Rattle.task_queue.proofs.Sent.{ends_cross}
use Rattle.lane_tests.proofs.lanes.put_both.Given.{Over}
use Rattle.lane_tests.proofs.lanes.put_both.Lts as lts
use Rattle.lane_tests.proofs.lanes.put_both.Goals as goal

job_send : IsSend job.the_row
job_send = search ends_cross depth 20

first_sent : (g : Over) (κs : _) → IsSync (R-row g.row.R) → IsSend (param 1 (lts.arg-0-1 g.row.R g.R.laws g.R.Threads-dict g.R.Wait-dict κs))
first_sent g κs sync = search (ends_cross, job_send) depth 20

pub join-one-requires-send-F : goal.join-one-requires-send-F
join-one-requires-send-F g c κs _ = first_sent g κs c.type_bounds.sync-R

pub join-one-requires-send-A : goal.join-one-requires-send-A
join-one-requires-send-A g c = search ends_cross depth 20

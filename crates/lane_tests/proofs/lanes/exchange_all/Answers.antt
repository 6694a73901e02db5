use denote.Param.{param}
use denote.Param.Send.{IsSend, IsSync}
use Rattle.lane_tests.specs.contracts.lanes.PutJob as job
use Rattle.lane_tests.specs.contracts.lanes.exchange_all.{R-row}
use Rattle.task_queue.proofs.Sent.{ends_cross}
use Rattle.lane_tests.proofs.lanes.exchange_all.Given.{Over}
use Rattle.lane_tests.proofs.lanes.exchange_all.Lts as lts
use Rattle.lane_tests.proofs.lanes.exchange_all.Goals as goal

job_send : IsSend job.the_row
job_send = search ends_cross depth 20

first_sent : (g : Over) (κs : _) → IsSync (R-row g.row.R) → IsSend (param 1 (lts.arg-1-1 g.row.R g.R.laws g.R.Threads-dict g.R.Wait-dict κs))
first_sent g κs sync = search (ends_cross, job_send) depth 20

pub join-requires-send-F : goal.join-requires-send-F
join-requires-send-F g c κs _ = first_sent g κs c.type_bounds.sync-R

pub join-requires-send-A : goal.join-requires-send-A
join-requires-send-A g c = search ends_cross depth 20

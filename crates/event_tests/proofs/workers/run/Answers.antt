use denote.Param.{param}
use denote.Param.Send.{IsSend, IsSync}
use Rattle.event_tests.specs.contracts.workers.run.{R-row}
use Rattle.async_jobs.proofs.Sent.{jobs_cross}
use Rattle.event_tests.proofs.workers.run.Given.{Over}
use Rattle.event_tests.proofs.workers.run.Lts as lts
use Rattle.event_tests.proofs.workers.run.Goals as goal

first_sent : (g : Over) (κs : _) → IsSync (R-row g.row.R) → IsSend (param 1 (lts.arg-0-1 g.row.R g.R.laws g.R.Threads-dict g.R.Wait-dict κs))
first_sent g κs sync = search jobs_cross depth 20

pub join-requires-send-F : goal.join-requires-send-F
join-requires-send-F g c κs _ = first_sent g κs c.type_bounds.sync-R

pub join-requires-send-A : goal.join-requires-send-A
join-requires-send-A g c = search jobs_cross depth 20

use denote.Param.Send.{IsSend}
use Rattle.lane_tests.specs.contracts.lanes.PutJob as job
use Rattle.task_queue.proofs.Sent.{ends_cross}
use Rattle.lane_tests.proofs.lanes.put_lists.Goals as goal

job_send : IsSend job.the_row
job_send = search ends_cross depth 20

pub map_vec-requires-send-J : goal.map_vec-requires-send-J
map_vec-requires-send-J g c = search (ends_cross, job_send) depth 20

pub map_vec-requires-send-X : goal.map_vec-requires-send-X
map_vec-requires-send-X g c = search ends_cross depth 20

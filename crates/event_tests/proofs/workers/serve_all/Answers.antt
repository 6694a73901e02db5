use Rattle.async_jobs.proofs.Sent.{jobs_cross}
use Rattle.event_tests.proofs.workers.serve_all.Goals as goal

pub map_vec-requires-send-J : goal.map_vec-requires-send-J
map_vec-requires-send-J g c = search jobs_cross depth 20

pub map_vec-requires-send-X : goal.map_vec-requires-send-X
map_vec-requires-send-X g c = search jobs_cross depth 20

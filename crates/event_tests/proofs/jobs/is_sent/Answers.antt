use Rattle.port_jobs.proofs.Sent.{port_jobs_cross}
use Rattle.event_tests.proofs.jobs.is_sent.Goals as goal

pub is_send-requires-send-T : goal.is_send-requires-send-T
is_send-requires-send-T c = search port_jobs_cross depth 20

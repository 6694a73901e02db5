-- The jobs of a port may cross threads. A crate that hands them to threads answers its goals on that by
-- `search port_jobs_cross depth 20`.
use denote.Param.Send.{IsSend}
use Rattle.std.proofs.Crossing.{frees, send}
use Rattle.std.proofs.MapsCrossingOver.{BTreeSet-send}
use Rattle.async_jobs.proofs.Sent.{jobs_cross}
use Rattle.port_jobs.specs.contracts.jobs.PortJobs as jobs

pub port_jobs_send : IsSend jobs.the_row
port_jobs_send = search (jobs_cross, BTreeSet-send, frees, send) depth 20

pub ruleset port_jobs_cross = (jobs_cross, port_jobs_send)

use denote.Exit.{no}
use denote.Param.Send.{param_send, arg_send}
use Rattle.program_bench.proofs.Sent.{started_send}
use Rattle.program_bench.proofs.main.Goals as goal

pub report-requires-send-S-Program : goal.report-requires-send-S-Program
report-requires-send-S-Program g c κs = param_send 3 _ (arg_send _ no _ started_send)

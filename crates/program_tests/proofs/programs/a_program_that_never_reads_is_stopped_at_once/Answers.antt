use denote.Exit.{no}
use denote.Param.Send.{param_send, arg_send}
use Rattle.program_tests.proofs.Sent.{started_send}
use Rattle.program_tests.proofs.programs.a_program_that_never_reads_is_stopped_at_once.Goals as goal

pub takes_before_stop-requires-send-C : goal.takes_before_stop-requires-send-C
takes_before_stop-requires-send-C g c κs = param_send 0 _ (arg_send _ no _ started_send)

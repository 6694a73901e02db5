use denote.Exit.{no}
use denote.Param.Send.{param_send, arg_send}
use Rattle.program_tests.proofs.Sent.{started_send}
use Rattle.program_tests.proofs.programs.a_program_ends_with_its_own_status.Goals as goal

pub status_after-requires-send-C : goal.status_after-requires-send-C
status_after-requires-send-C g c κs = param_send 0 _ (arg_send _ no _ started_send)

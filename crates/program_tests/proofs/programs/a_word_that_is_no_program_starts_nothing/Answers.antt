use denote.Exit.{no}
use denote.Param.Send.{param_send, arg_send}
use Rattle.program_tests.proofs.Sent.{started_send}
use Rattle.program_tests.proofs.programs.a_word_that_is_no_program_starts_nothing.Goals as goal

pub starts_neither-requires-send-S-Program : goal.starts_neither-requires-send-S-Program
starts_neither-requires-send-S-Program g c κs = param_send 1 _ (arg_send _ no _ started_send)

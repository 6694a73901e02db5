use denote.Exit.{no}
use denote.Param.Send.{param_send, arg_send}
use Rattle.program_tests.proofs.Sent.{started_send}
use Rattle.program_tests.proofs.programs.cat_answers_before_its_input_ends.Goals as goal

pub gives_back_both-requires-send-C : goal.gives_back_both-requires-send-C
gives_back_both-requires-send-C g c κs = param_send 0 _ (arg_send _ no _ started_send)

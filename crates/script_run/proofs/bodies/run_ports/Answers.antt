use denote.Exit.{no}
use denote.Param.Send.{param_send, arg_send}
use Rattle.port_body.proofs.Sent.{body_send}
use Rattle.script_run.proofs.bodies.run_ports.Goals as goal

pub run_to_end-requires-send-B : goal.run_to_end-requires-send-B
run_to_end-requires-send-B g c κs within = param_send 0 _ (arg_send _ no _ (body_send _ _ c.type_bounds.send-D))

use denote.Exit.{no}
use denote.Param.Send.{IsSend, param_send, arg_send, sendable}
use Rattle.std.specs.contracts.rt.LibcRuntime as runtime
use Rattle.gateway_cli.proofs.Sent.{child_send, poll_send}
use Rattle.gateway_cli.proofs.main.Goals as goal

runtime_send : IsSend runtime.the_row
runtime_send = search sendable depth 20

pub run-requires-send-S-Program : goal.run-requires-send-S-Program
run-requires-send-S-Program g c κs = param_send 3 _ (arg_send _ no _ (child_send runtime.the_row runtime_send))

pub run-requires-send-P : goal.run-requires-send-P
run-requires-send-P g c κs = param_send 1 _ (arg_send _ no _ (poll_send runtime.the_row runtime_send))

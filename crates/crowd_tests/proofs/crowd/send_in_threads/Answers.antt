use denote.Param.Send.{IsSend}
use Rattle.process_end.proofs.Sent.{processes_cross}
use Rattle.crowd_tests.specs.contracts.sending.Member as member
use Rattle.crowd_tests.proofs.crowd.send_in_threads.Goals as goal

member_send : IsSend member.the_row
member_send = search processes_cross depth 20

pub map_vec-requires-send-J : goal.map_vec-requires-send-J
map_vec-requires-send-J g c κs within = search (processes_cross, member_send) depth 20

pub map_vec-requires-send-X : goal.map_vec-requires-send-X
map_vec-requires-send-X g c κs within = search processes_cross depth 20

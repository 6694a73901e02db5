-- A child and the poll set of the machine may cross threads.
use denote.RattleType.{RattleType}
use denote.Struct.Field.{row_field}
use denote.Param.Send.{IsSend, sendable}
use denote.Param.SendFields.{as_row_send, declared_send}
use Rattle.std.proofs.Crossing.{crosses}
use Rattle.crossbeam_channel.proofs.channel.Receiver.TheSendSync as receiver_sent
use Rattle.crossbeam_channel.proofs.channel.Sender.TheSendSync as sender_sent
use Rattle.outside_programs.specs.contracts.threads.OutputPart as told
use Rattle.outside_programs.specs.contracts.ends.InputEnd as input
use Rattle.outside_programs.specs.contracts.ends.OutputEnd as output
use Rattle.outside_programs.specs.contracts.counts.Counts as counts
use Rattle.outside_programs.proofs.counts.Counts.TheSendSync as counts_sent
use Rattle.outside_programs.specs.contracts.real_child.Piped as piped
use Rattle.outside_programs.specs.contracts.real_child.RealChild as child
use Rattle.outside_programs.specs.contracts.real_poll.RealPoll as poll
use Rattle.outside_programs.proofs.pauses.Pauses.TheSendSync as pauses_sent

counts_send : IsSend counts.the_row
counts_send = counts_sent.the_send

told_send : IsSend told.the_row
told_send = search (sendable, crosses) depth 20

output_send : IsSend output.the_row
output_send = declared_send output.the_type (
  search (sendable, crosses, receiver_sent.the_send, told_send) depth 20,
  (
    search (sendable, crosses) depth 20,
    (
      search sendable depth 20,
      (
        search (sendable, crosses) depth 20,
        (search (sendable, crosses) depth 20, (counts_send, (search sendable depth 20, tt))),
      ),
    ),
  ),
)

input_send : IsSend input.the_row
input_send = declared_send input.the_type (
  search (sendable, crosses, sender_sent.the_send) depth 20,
  (counts_send, (search sendable depth 20, (search (sendable, crosses) depth 20, tt))),
)

piped_send : IsSend piped.the_row
piped_send = declared_send piped.the_type (search (sendable, crosses) depth 20, (output_send, (input_send, tt)))

pub child_send : (R : RattleType) → IsSend R → IsSend (child.the_row R)
child_send R t = declared_send (child.the_type R) (
  as_row_send (row_field R) t,
  (
    search (sendable, crosses) depth 20,
    (
      piped_send,
      (
        search sendable depth 20,
        (
          search sendable depth 20,
          (
            search (sendable, crosses) depth 20,
            (search sendable depth 20, (search sendable depth 20, (search (sendable, crosses) depth 20, tt))),
          ),
        ),
      ),
    ),
  ),
)

pub poll_send : (R : RattleType) → IsSend R → IsSend (poll.the_row R)
poll_send R t = declared_send (poll.the_type R) (
  as_row_send (row_field R) t,
  (counts_send, (pauses_sent.the_send, (search (sendable, crosses) depth 20, (search (sendable, crosses) depth 20, tt)))),
)

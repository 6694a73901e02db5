use Rattle.command_counts.proofs.Sending.{sends-one-each}
use Rattle.command_counts.proofs.echo_sends_one_message_each.Goals as goal

pub returns : goal.returns
returns c = sends-one-each

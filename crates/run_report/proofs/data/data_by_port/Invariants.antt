use Rattle.std.proofs.Common.{◌≡◌, ◌≤◌, take}
use Rattle.port_history.specs.Counts.{data_messages}
use Rattle.run_report.specs.Data.{Holds}
use Rattle.run_report.proofs.data.data_by_port.Given as goal

abbrev pub invariant-loop-mail : goal.invariant-loop-mail
invariant-loop-mail l = record {
  lists : Holds l.ports (take l.mail-index l.mails) l.lists.items;
  messages : l.messages ≡ data_messages (take l.mail-index l.mails);
  few : l.messages ≤ l.mail-index;
}

use Rattle.std.proofs.Common.{◌≡◌, map}
use Rattle.script_run.proofs.parting.part_processes.Given as goal

-- the processes so far were taken apart
abbrev pub invariant-loop-process : goal.invariant-loop-process
invariant-loop-process l = record {
  lanes : map (λ x. x.items) l.lanes.items ≡ map (λ e. e.proc.lanes.items) l.yielded;
  receipts : l.receipts.items ≡ map (λ e. e.proc.receipts) l.yielded;
  mailboxes : l.mailboxes.items ≡ map (λ e. e.proc.mailbox) l.yielded;
  mails : map (λ x. x.items) l.mails.items ≡ map (λ e. e.mails.items) l.yielded;
  seats : map (λ x. x.items) l.seats.items ≡ map (λ e. e.proc.seats.items) l.yielded;
}

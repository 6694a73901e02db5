use Rattle.std.proofs.Common.{◌≡◌, get_or}
use Rattle.run_lanes.proofs.Places.{IsRest, ArePlaced}
use Rattle.script_run.proofs.parting.processes_left.Given as goal

-- what the processes so far leave
abbrev pub invariant-processes : goal.invariant-processes
invariant-processes l =
    IsRest l._process l.fn.receipts.items l.receipts.rest.items l.receipts.rest.len
    × IsRest l._process l.fn.mails.items l.mails.rest.items l.mails.rest.len
    × ArePlaced (λ n left. (r : _) (m : _) → left ≡ record { receipts = get_or l.fn.receipts.items n r; mails = get_or l.fn.mails.items n m }) l._process l.left.items

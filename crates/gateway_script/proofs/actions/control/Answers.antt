use Rattle.std.proofs.Common.{sym}
use Rattle.gateway_script.proofs.Sources.{ends-number}
use Rattle.gateway_script.proofs.actions.control.Goals as goal

pub next_shared_piece-requires : goal.next_shared_piece-requires
next_shared_piece-requires c =
    ends-number c.args.source.text.now c.args.source.end 0 4294967295 c.args.bytes.now _ _ (sym (rw c.in_ok-op.ensures.ok_part at c.op.ensures)) c.requires

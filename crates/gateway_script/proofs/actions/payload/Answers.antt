use Rattle.std.proofs.Common.{sym}
use Rattle.gateway_script.proofs.Sources.{ends-gap}
use Rattle.gateway_script.proofs.actions.payload.Goals as goal

pub piece_of-requires-clause-ends : goal.piece_of-requires-clause-ends
piece_of-requires-clause-ends c = ends-gap c.args.source.text.now c.args.source.end c.args.bytes.now _ (sym (rw c.in_ok-inner.ensures.ok_part at c.gap.ensures)) c.requires

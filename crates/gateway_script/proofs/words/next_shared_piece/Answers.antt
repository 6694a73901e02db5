use Rattle.std.proofs.Common.{sym}
use Rattle.gateway_script.proofs.Sources.{ends-gap}
use Rattle.gateway_script.proofs.words.next_shared_piece.Goals as goal

pub piece_of-requires-clause-ends : goal.piece_of-requires-clause-ends
piece_of-requires-clause-ends c = ends-gap c.args.source.text.now c.args.source.end c.args.bytes.now _ (sym (rw c.in_ok-inner.ensures.ok_part at c.gap.ensures)) c.requires

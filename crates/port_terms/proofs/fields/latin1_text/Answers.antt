use Rattle.port_terms.proofs.Names.{text_more, text_done}
use Rattle.port_terms.proofs.fields.latin1_text.Goals as goal

pub loop-byte-preserved : goal.loop-byte-preserved
loop-byte-preserved c = rw (c.in_ok-push.ensures.bytes, c.from.ensures) (text_more c.args.text.now _ c.loop-byte.byte-index c.loop-byte-test.true c.loop-byte.invariant)

pub returns : goal.returns
returns c = text_done c.args.text.now _ c.loop-byte.byte-index c.type_inv.text c.loop-byte-test.false c.loop-byte.invariant

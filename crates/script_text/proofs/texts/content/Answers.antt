use Rattle.std.proofs.Common.{◌<◌, [], length, refl, sym, arith}
use Rattle.script_text.specs.Reading.{content_at}
use Rattle.script_text.proofs.Plain.{run_is_read, with_front-none}
use Rattle.script_text.proofs.Turns.{byte_last}
use Rattle.script_text.proofs.texts.content.Goals as goal

pub returns-clause-reads : goal.returns-clause-reads
returns-clause-reads c =
    let all = c.split_at.result.0.now in
    let few : length all < 262144 = omega (arith, c.if-plain-le-MAX_ITEMS.true) in
    let so_far = run_is_read [] all 262144 c.plain_len.result c.args.bytes.now c.args.bytes.now _ _ c.plain_len.ensures.within c.plain_len.ensures.plain c.split_at.ensures.front c.split_at.ensures.back refl (omega (arith, few)) (with_front-none (content_at 262144 c.args.bytes.now)) in
    byte_last all 262144 (length all) c.args.bytes.now _ c.in-Some.rest.now few (sym c.in-Some.ensures) so_far

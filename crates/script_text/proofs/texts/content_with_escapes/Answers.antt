use Rattle.std.proofs.Common.{◌≡◌, ◌+◌, ◌<◌, ◌≤◌, length, sym, arith}
use Rattle.std.proofs.lemmas.List.{length_push}
use Rattle.script_text.proofs.Plain.{run_is_read, run_past}
use Rattle.script_text.proofs.Turns.{byte_goes_on, byte_stops, byte_last, byte_past}
use Rattle.script_text.proofs.texts.content_with_escapes.Goals as goal

pub returns-then-len-plain-gt-MAX_ITEMS-clause-reads : goal.returns-then-len-plain-gt-MAX_ITEMS-clause-reads
returns-then-len-plain-gt-MAX_ITEMS-clause-reads c =
    let many : 262144 ≤ length c.loop.content.items + c.plain_len.result = omega (arith, c.if-len-plain-gt-MAX_ITEMS.true, c.len.ensures, c.split_at.ensures.front_len) in
    run_past c.loop.content.items 262144 c.plain_len.result c.args.bytes.now c.loop.rest.now c.plain_len.ensures.within c.plain_len.ensures.plain many c.loop.invariant.so_far

pub returns-in-Some-clause-reads : goal.returns-in-Some-clause-reads
returns-in-Some-clause-reads c =
    let more = c.extend_from_slice.new.self.items in
    let few : length more < 262144 = omega (arith, c.if-len-plain-gt-MAX_ITEMS.false, c.len.ensures, c.in_ok-extend_from_slice.ensures.len) in
    let so_far = run_is_read c.loop.content.items more 262144 c.plain_len.result c.args.bytes.now c.loop.rest.now _ _ c.plain_len.ensures.within c.plain_len.ensures.plain c.split_at.ensures.front c.split_at.ensures.back c.in_ok-extend_from_slice.ensures.items (omega (arith, few)) c.loop.invariant.so_far in
    byte_last more 262144 (length more) c.args.bytes.now _ c.in-Some.behind.now few (sym c.in-Some.ensures) so_far

pub returns-in_default-byte-clause-reads : goal.returns-in_default-byte-clause-reads
returns-in_default-byte-clause-reads c =
    let more = c.extend_from_slice.new.self.items in
    let few : length more < 262144 = omega (arith, c.if-len-plain-gt-MAX_ITEMS.false, c.len.ensures, c.in_ok-extend_from_slice.ensures.len) in
    let so_far = run_is_read c.loop.content.items more 262144 c.plain_len.result c.args.bytes.now c.loop.rest.now _ _ c.plain_len.ensures.within c.plain_len.ensures.plain c.split_at.ensures.front c.split_at.ensures.back c.in_ok-extend_from_slice.ensures.items (omega (arith, few)) c.loop.invariant.so_far in
    byte_stops more 262144 (length more) c.args.bytes.now _ few (sym c.in_default.ensures) (sym c.in_default-byte.ensures) so_far

pub loop-preserved : goal.loop-preserved
loop-preserved c =
    let more = c.extend_from_slice.new.self.items in
    let few : length more < 262144 = omega (arith, c.if-len-plain-gt-MAX_ITEMS.false, c.len.ensures, c.in_ok-extend_from_slice.ensures.len) in
    let so_far = run_is_read c.loop.content.items more 262144 c.plain_len.result c.args.bytes.now c.loop.rest.now _ _ c.plain_len.ensures.within c.plain_len.ensures.plain c.split_at.ensures.front c.split_at.ensures.back c.in_ok-extend_from_slice.ensures.items (omega (arith, few)) c.loop.invariant.so_far in
    let len : length c.push.new.self.items ≡ length more + 1 = rw c.in_ok-push.ensures.items (length_push more c.in-Some-byte.byte) in
    record {
      so_far = rw (len, c.in_ok-push.ensures.items) (byte_goes_on more 262144 (length more) c.args.bytes.now _ c.in-Some-byte.behind.now c.in-Some-byte.byte few (sym c.in_default.ensures) (sym c.in-Some-byte.ensures) so_far);
      turns = omega (arith, len, c.loop.invariant.turns, c.in_ok-extend_from_slice.ensures.len);
      few = omega (arith, len, few);
    }

pub returns-clause-reads : goal.returns-clause-reads
returns-clause-reads c =
    byte_past c.loop.content.items 262144 (length c.loop.content.items) c.args.bytes.now c.loop.rest.now (omega (arith, c.loop-test.false, c.loop.invariant.turns)) c.loop.invariant.so_far

use Rattle.std.proofs.Common.{◌+◌, ℕ, List, length, ap, ◌∙◌, arith, refl}
use Rattle.std.specs.Prelude.{option_map}
use Rattle.gateway_script.specs.Draft.{plan_of}
use Rattle.gateway_script.specs.Lines.{parts_left}
use Rattle.gateway_script.specs.Script.{script}
use Rattle.std.proofs.lemmas.Option.{IfSome_then}
use Rattle.gateway_script.proofs.Sources.{ends-whole, ends-line, ends-drop}
use Rattle.gateway_script.proofs.SoFar.{line_goes_on, line_at_fault, line_was_last}
use Rattle.gateway_script.proofs.reader.read_script.Goals as goal

pub loop-left-init : goal.loop-left-init
loop-left-init c = let own = c.in_ok-draft.ensures in record { read = rw (own.empty, c.as_slice.ensures) refl; draft = own.draft; ends = rw c.as_slice.ensures (ends-whole c.args.text.now) }

pub take_line-requires-clause-draft : goal.take_line-requires-clause-draft
take_line-requires-clause-draft c = c.loop-left.invariant.draft

pub take_line-requires-clause-ends : goal.take_line-requires-clause-ends
take_line-requires-clause-ends c = rw c.len.ensures.value (ends-line c.args.text.now c.in-Some.lines.now c.first_line.result.0.now (rw c.in-Some.is at c.loop-left.invariant.ends) c.first_line.ensures.front)

pub returns-in-Err-clause-fault : goal.returns-in-Err-clause-fault
returns-in-Err-clause-fault c =
    let parted = ap (λ left. parts_left (option_map (λ text. text.now) left)) c.in-Some.is ∙ c.first_line.ensures.lines in
    line_at_fault (script c.args.text.now) c.in_ok-number.number _ _ c.first_line.result.0.now (plan_of c.loop-left.draft) c.in-Err.fault c.at.result parted
    (rw c.in_ok-number.ensures c.loop-left.invariant.read) c.in-Err.ensures.fault c.at.ensures

pub loop-left-smaller : goal.loop-left-smaller
loop-left-smaller c =
    let parted = ap (λ left. parts_left (option_map (λ text. text.now) left)) c.in-Some.is ∙ c.first_line.ensures.lines in
    omega (arith, ap (λ (lines : List (List ℕ)). length lines) parted)

pub loop-left-preserved : goal.loop-left-preserved
loop-left-preserved c =
    let parted = ap (λ left. parts_left (option_map (λ text. text.now) left)) c.in-Some.is ∙ c.first_line.ensures.lines in
    record {
      read = line_goes_on (script c.args.text.now) c.in_ok-number.number _ _ c.first_line.result.0.now (plan_of c.loop-left.draft) _ parted (rw c.in_ok-number.ensures c.loop-left.invariant.read) c.in_default-take_line.ensures.ok;
      draft = c.in_default-take_line.ensures.draft;
      ends = IfSome_then c.first_line.result.1 c.first_line.ensures.rest (λ rest h. ends-drop c.args.text.now (length c.args.text.now) (length c.first_line.result.0.now + 1) c.in-Some.lines.now rest.now h (rw c.in-Some.is at c.loop-left.invariant.ends));
    }

pub into_script-requires : goal.into_script-requires
into_script-requires c = c.loop-left.invariant.draft

pub returns-clause-ok : goal.returns-clause-ok
returns-clause-ok c =
    rw c.into_script.ensures (line_was_last (script c.args.text.now) (c.loop-left.number + 1) _ (plan_of c.loop-left.draft) (ap (λ left. parts_left (option_map (λ text. text.now) left)) c.in_default.is) c.loop-left.invariant.read)

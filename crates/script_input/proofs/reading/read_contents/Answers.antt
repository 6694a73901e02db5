use Rattle.std.proofs.Common.{◌+◌, [], ◌∷◌, ◌++◌, Some, sym, ap, ◌∙◌, arith}
use Rattle.program_io.specs.declared.fault.InputFault.TheVariants.{NoMemory}
use Rattle.script_input.proofs.Contents.{read-past, read-more, file-ends, some-read, told-ends, still-unwritten, take-one-more, total-more}
use Rattle.script_input.proofs.reading.read_contents.Goals as goal

pub loop-step-preserved-in_default : goal.loop-step-preserved-in_default
loop-step-preserved-in_default g c =
    let steps = c.args.steps.now in
    let next = take-one-more steps c.loop-step.step-index c.step-item.result c.loop-step-test.true c.step-item.is in
    record {
      read = rw next (read-past _ _ _ _ _ c.loop-step.invariant.read (sym c.in_default.ensures));
      left = c.loop-step.invariant.left;
      written = c.loop-step.invariant.written;
    }

pub returns-in_err-bytes-clause-fault : goal.returns-in_err-bytes-clause-fault
returns-in_err-bytes-clause-fault g c =
    told-ends _ c.in_err-bytes.field-0.0 _ _ _ c.from_residual.ensures.1
    (file-ends c.args.steps.now c.loop-step.step-index _ _ _ c.step-item.result _ _ c.loop-step.left _ c.loop-step-test.true c.step-item.is c.loop-step.invariant.read
    c.loop-step.invariant.written.told c.loop-step.invariant.left (sym c.in-Some.ensures ∙ ap Some (sym c.as_str.ensures)) c.in_err-bytes.ensures.fault)

pub returns-in_err-keep-clause-fault : goal.returns-in_err-keep-clause-fault
returns-in_err-keep-clause-fault g c =
    let steps = c.args.steps.now in
    let next = take-one-more steps c.loop-step.step-index c.step-item.result c.loop-step-test.true c.step-item.is in
    told-ends _ NoMemory steps _ _ c.from_residual-in_err-keep.ensures.1
    (some-read steps (c.loop-step.step-index + 1) _ _ (c.loop-step.contents.items ++ c.in_ok-bytes.bytes.items ∷ [])
    (rw next (read-more _ _ _ _ c.step-item.result _ _ _ c.loop-step.left c.loop-step.invariant.read c.in_ok-bytes.ensures.read c.loop-step.invariant.written.told
    c.loop-step.invariant.left (sym c.in-Some.ensures ∙ ap Some (sym c.as_str.ensures)))))

pub loop-step-preserved : goal.loop-step-preserved
loop-step-preserved g c =
    let steps = c.args.steps.now in
    let next = take-one-more steps c.loop-step.step-index c.step-item.result c.loop-step-test.true c.step-item.is in
    let kept = c.in_ok-keep.ensures in
    record {
      read = rw next (rw kept (read-more _ _ _ _ c.step-item.result _ _ _ c.loop-step.left c.loop-step.invariant.read c.in_ok-bytes.ensures.read c.loop-step.invariant.written.told
          c.loop-step.invariant.left (sym c.in-Some.ensures ∙ ap Some (sym c.as_str.ensures))));
      left = rw kept (omega (arith, total-more c.loop-step.contents.items c.in_ok-bytes.bytes.items, c.in_ok-bytes.ensures.read.fits, c.len.ensures, c.loop-step.invariant.left));
      written = still-unwritten _ _ _ c.loop-step.invariant.written c.read_file.ensures.files;
    }

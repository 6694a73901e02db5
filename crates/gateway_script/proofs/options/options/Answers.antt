use Rattle.std.proofs.Common.{sym, ap, ◌∙◌}
use Rattle.std.proofs.lemmas.Result.{err_from_is_err_and}
use Rattle.script_text.proofs.Turns.{missed_stops}
use Rattle.gateway_script.specs.Forms.{options_at}
use Rattle.gateway_script.proofs.Turns.{with_front, option_shorter, option_goes_on, option_stops, options_end, something_left, nothing_left}
use Rattle.gateway_script.proofs.options.options.Goals as goal

pub returns-in_err-option : goal.returns-in_err-option
returns-in_err-option c =
    let more = something_left c.loop-rest.rest.now c.is_empty.result c.is_empty.ensures c.loop-rest-test.true in
    let p = err_from_is_err_and c.from_residual.result c.from_residual.ensures.1 in
    rw (p.1, p.2) (missed_stops c.in_err-option.field-0.0 _ _ c.in_err-option.ensures
    (λ none. option_stops c.loop-rest.options.items c.loop-rest.rest.now (options_at c.args.bytes.now) more none c.loop-rest.invariant))

pub loop-rest-smaller : goal.loop-rest-smaller
loop-rest-smaller c = option_shorter c.loop-rest.rest.now c.in_ok-option.option c.in_ok-option.behind.now c.in_ok-option.ensures

pub loop-rest-preserved : goal.loop-rest-preserved
loop-rest-preserved c =
    let more = something_left c.loop-rest.rest.now c.is_empty.result c.is_empty.ensures c.loop-rest-test.true in
    rw c.in_ok-push.ensures.items
    (option_goes_on c.loop-rest.options.items c.loop-rest.rest.now c.in_ok-option.behind.now c.in_ok-option.option (options_at c.args.bytes.now) more c.in_ok-option.ensures c.loop-rest.invariant)

pub returns : goal.returns
returns c =
    let none = nothing_left c.loop-rest.rest.now c.is_empty.result c.is_empty.ensures c.loop-rest-test.false in
    rw c.new.ensures (options_end c.loop-rest.options.items (options_at c.args.bytes.now) (ap (λ rest. with_front c.loop-rest.options.items (options_at rest)) (sym none) ∙ c.loop-rest.invariant))

use Rattle.std.proofs.Common.{◌≡◌, length, ◌∙◌}
use Rattle.std.proofs.lemmas.Iterator.{YieldsList-from_zip}
use Rattle.std.proofs.lemmas.Iterator.Adapters.{YieldsList-from_vec}
use Rattle.std.proofs.lemmas.Iterator.Consumers.{YieldsList-end}
use Rattle.run_output.specs.Reported.{port_report}
use Rattle.run_output.proofs.Paired.{paired-all}
use Rattle.run_output.proofs.reporting.report_ports.Goals as goal

pub returns : goal.returns
returns c =
    let gives = c.into_iter-name-iterator.ensures.into_iter_gives in
    let first = c.zip-name-items.ensures.first in
    let second = c.zip-name-items.ensures.second in
    let source = c.into_iter.ensures in
    let names : c.into_iter-name-iterator.result.a.rest.items ≡ c.args.names.items = rw (gives, first) source.rest in
    let names_len : c.into_iter-name-iterator.result.a.rest.len ≡ length c.args.names.items = rw (gives, first) (source.len ∙ c.args.names.ok.0) in
    let lefts : c.into_iter-name-iterator.result.b.rest.items ≡ c.args.lefts.items = rw gives second.0 in
    let lefts_len : c.into_iter-name-iterator.result.b.rest.len ≡ length c.args.lefts.items = rw gives (second.1 ∙ c.args.lefts.ok.0) in
    let road = YieldsList-from_zip {s = c.into_iter-name-iterator.result} (YieldsList-from_vec {s = c.into_iter-name-iterator.result.a} c.args.names.items names names_len)
    (YieldsList-from_vec {s = c.into_iter-name-iterator.result.b} c.args.lefts.items lefts lefts_len) in
    let last = YieldsList-end road c.loop-name.yielded _ c.loop-name.yielded_by _ c.next.new.self c.in-None.is c.next.ensures.steps in
    paired-all (λ p. port_report p.0 p.1) c.loop-name.told.items c.loop-name.yielded _ c.loop-name.invariant last.0

use Rattle.std.proofs.Common.{◌≡◌, Some, ap, ◌∙◌}
use Rattle.port_terms.specs.View.{tree}
use Rattle.port_terms.specs.declared.values.TheConstants.{MAX_DEPTH}
use Rattle.script_text.specs.Data.{term, SpellsTerm}
use Rattle.script_text.specs.Reading.{value_at}
use Rattle.script_text.proofs.FoundData.{term_found}
use Rattle.script_text.proofs.AgainData.{term_again}
use Rattle.script_text.proofs.Exact.{found_by, only_by}
use Rattle.script_text.proofs.terms.read_term.Goals as goal

pub returns-clause-found : goal.returns-clause-found
returns-clause-found c = found_by (λ x. tree x.0) (λ x. x.1.now) SpellsTerm (value_at term MAX_DEPTH) term_found c.args.bytes.now c.term.result c.term.ensures

pub returns-clause-only : goal.returns-clause-only
returns-clause-only c = λ t rest front end.
    let again : value_at term MAX_DEPTH c.args.bytes.now ≡ Some (t, rest) = ap (value_at term MAX_DEPTH) front.parts ∙ term_again t front.text front.spelled rest end in
    only_by (λ x. tree x.0) (λ x. x.1.now) (value_at term MAX_DEPTH c.args.bytes.now) t rest again c.term.result c.term.ensures

use Rattle.std.proofs.Common.{◌≡◌, Some, ap, ◌∙◌}
use Rattle.port_terms.specs.IoView.{io_tree}
use Rattle.script_text.specs.Data.{SpellsIoList}
use Rattle.script_text.specs.Reading.{io_list_at}
use Rattle.script_text.proofs.FoundData.{io_list_found}
use Rattle.script_text.proofs.AgainData.{io_list_again}
use Rattle.script_text.proofs.Exact.{found_by, only_by}
use Rattle.script_text.proofs.io_lists.read_io_list.Goals as goal

pub returns-clause-found : goal.returns-clause-found
returns-clause-found c = found_by (λ x. io_tree x.0) (λ x. x.1.now) SpellsIoList io_list_at io_list_found c.args.bytes.now c.io_list.result c.io_list.ensures

pub returns-clause-only : goal.returns-clause-only
returns-clause-only c = λ t rest front.
    let again : io_list_at c.args.bytes.now ≡ Some (t, rest) = ap io_list_at front.parts ∙ io_list_again t front.text front.spelled rest in
    only_by (λ x. io_tree x.0) (λ x. x.1.now) (io_list_at c.args.bytes.now) t rest again c.io_list.result c.io_list.ensures

use Rattle.gateway_script.proofs.Sources.{ends-word}
use Rattle.gateway_script.proofs.forms.statement_of.Goals as goal

pub form-requires : goal.form-requires
form-requires c = ends-word c.args.source.text.now c.args.source.end c.args.line.now c.word.result.1.now c.word.ensures.rest c.requires

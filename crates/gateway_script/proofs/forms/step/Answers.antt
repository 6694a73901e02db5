use Rattle.std.proofs.Common.{sym}
use Rattle.gateway_script.proofs.Sources.{ends-next_word}
use Rattle.gateway_script.proofs.forms.step.Goals as goal

pub step_behind-requires : goal.step_behind-requires
step_behind-requires c = ends-next_word c.args.source.text.now c.args.source.end c.args.bytes.now _ _ (sym (rw c.in_ok-kind.ensures.ok_part at c.next_word.ensures)) c.requires

use Rattle.std.proofs.Common.{sym}
use Rattle.gateway_script.proofs.Sources.{ends-next_name}
use Rattle.gateway_script.proofs.forms.step_behind.Goals as goal

pub action-requires : goal.action-requires
action-requires c = ends-next_name c.args.source.text.now c.args.source.end c.args.bytes.now _ _ (sym (rw c.in_ok-port.ensures.ok_part at c.next_name.ensures)) c.requires

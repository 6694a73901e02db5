use Rattle.std.proofs.Common.{◌≡◌, length}
use Rattle.gateway_script.specs.Forms.{options_at}
use Rattle.gateway_script.proofs.Turns.{with_front}
use Rattle.gateway_script.proofs.options.options.Given as goal

-- what is left has the other options
abbrev pub invariant-loop-rest : goal.invariant-loop-rest
invariant-loop-rest l = with_front l.options.items (options_at l.rest) ≡ options_at l.bytes

abbrev pub decreases-loop-rest : goal.decreases-loop-rest
decreases-loop-rest l = length l.rest

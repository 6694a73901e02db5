use Rattle.std.proofs.Common.{◌≡◌, ◌+◌, length}
use Rattle.std.specs.Prelude.{option_map, IfSome}
use Rattle.gateway_script.specs.Source.{EndsAt}
use Rattle.gateway_script.specs.Draft.{IsDraft, plan_of}
use Rattle.gateway_script.specs.Lines.{numbered_from, parts_left}
use Rattle.gateway_script.specs.Script.{script, with_lines}
use Rattle.gateway_script.proofs.reader.read_script.Given as goal

-- the lines so far are taken in: what the text says is what those that are left say behind them
abbrev pub invariant-loop-left : goal.invariant-loop-left
invariant-loop-left l = record { read : script l.text ≡ with_lines (numbered_from (l.number + 1) (parts_left (option_map (λ text. text.now) l.left))) (plan_of l.draft); draft : IsDraft l.draft; ends : IfSome l.left (λ lines. EndsAt l.text (length l.text) lines.now) }

abbrev pub decreases-loop-left : goal.decreases-loop-left
decreases-loop-left l = length (parts_left (option_map (λ text. text.now) l.left))

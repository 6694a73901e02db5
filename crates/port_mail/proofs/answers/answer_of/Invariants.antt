use Rattle.std.proofs.Common.{◌≡◌, drop}
use Rattle.port_links.specs.port_history.Mail.{answer_of}
use Rattle.port_mail.proofs.answers.answer_of.Given as goal

-- the effects so far hold no answer
abbrev pub invariant-loop-effect : goal.invariant-loop-effect
invariant-loop-effect l = answer_of (drop l.effect-index l.effects) ≡ answer_of l.effects

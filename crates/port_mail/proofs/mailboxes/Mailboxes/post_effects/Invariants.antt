use Rattle.std.proofs.Common.{drop}
use Rattle.std.specs.List.{flat_map}
use Rattle.port_links.specs.port_history.Mail.{effect_mail}
use Rattle.port_mail.proofs.Posting.{Midway}
use Rattle.port_mail.proofs.mailboxes.Mailboxes.post_effects.Given as goal

-- what the effects so far send was posted
abbrev pub invariant-loop-effect : goal.invariant-loop-effect
invariant-loop-effect g l =
    Midway l.links.ties.ended l.initial.self l.self (flat_map (effect_mail l.port l.owner) (drop l.effect-index l.effects))
    (flat_map (effect_mail l.port l.owner) l.effects)

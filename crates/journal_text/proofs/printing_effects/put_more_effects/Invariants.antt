use Rattle.std.proofs.Common.{◌≡◌, ◌++◌, ◌∷◌, take}
use Rattle.std.specs.List.{flat_map}
use Rattle.journal_text.specs.Effects.{effect_text}
use Rattle.journal_text.proofs.printing_effects.put_more_effects.Given as goal

abbrev pub invariant-loop-effect : goal.invariant-loop-effect
invariant-loop-effect l = l.out.items ≡ l.fn.out.items ++ flat_map (λ other. 44 ∷ 32 ∷ effect_text other) (take l.effect-index l.effects)

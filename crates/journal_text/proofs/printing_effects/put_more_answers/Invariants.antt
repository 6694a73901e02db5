use Rattle.std.proofs.Common.{◌≡◌, ◌++◌, ◌∷◌, take}
use Rattle.std.specs.List.{flat_map}
use Rattle.journal_text.specs.Effects.{answer_text}
use Rattle.journal_text.proofs.printing_effects.put_more_answers.Given as goal

abbrev pub invariant-loop-answer : goal.invariant-loop-answer
invariant-loop-answer l = l.out.items ≡ l.fn.out.items ++ flat_map (λ other. 44 ∷ 32 ∷ answer_text other) (take l.answer-index l.answers)

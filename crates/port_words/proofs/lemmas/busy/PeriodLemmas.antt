-- The periods rise along every list of words, and the adds bound them.
use Rattle.std.proofs.Common.{◌≡◌, ℕ, ◌+◌, ◌%◌, ◌≤◌, List, [], ◌∷◌, ◌++◌, ◌∙◌, arith}
use Rattle.std.specs.List.{All}
use Rattle.std.proofs.lemmas.List.Elements.{All-nil, All-cons, All-weaker}
use Rattle.port_words.proofs.lemmas.sums.Counting.{other_number}
use Rattle.port_words.specs.declared.busy.view.QueueAdd.{QueueAdd}
use Rattle.port_words.specs.declared.busy.view.BusyView.{BusyView}
use Rattle.port_words.specs.busy.Views.{WordsIn}
use Rattle.port_words.specs.busy.Queue.{period_of, Climbs, is_left_at}
use Rattle.port_words.specs.busy.Parts.{IsClimbing}
use Rattle.port_words.proofs.lemmas.busy.ViewLemmas.{SameAdds, MoreAdds, SameWords, MoreWords}

pub climbs_weaker : (from to to' : ℕ) (ws : List ℕ) → to ≤ to' → Climbs from ws to → Climbs from ws to'
climbs_weaker from to to' [] le c = omega arith
climbs_weaker from to to' (w ∷ ws) le c = (c.0, climbs_weaker (period_of w) to to' ws le c.1)

pub climbs_push : (from : ℕ) (ws : List ℕ) (w : ℕ) → Climbs from ws (period_of w) → Climbs from (ws ++ w ∷ []) (period_of w)
climbs_push from [] w c = (c, omega arith)
climbs_push from (u ∷ ws) w c = (c.0, climbs_push (period_of u) ws w c.1)

pub words_weaker : (P Q : List ℕ → Type 0) → ((ws : List ℕ) → P ws → Q ws) → (views : List BusyView) → All (WordsIn P) views → All (WordsIn Q) views
words_weaker P Q more views all = All-weaker (WordsIn P) (WordsIn Q) (λ v k. (more v.words k.0, All-weaker (λ s. P s.words) (λ s. Q s.words) (λ s p. more s.words p) v.senders k.1)) views all

pub climbing_same : (x : ℕ) (views after : List BusyView) → SameAdds views after → SameWords views after → IsClimbing x views → IsClimbing x after
climbing_same x views after adds words part = record {
  climbs = words.kept (λ ws. Climbs 0 ws (period_of x)) (omega arith) part.climbs;
  periods = (let count = adds.count in let before = part.periods in omega arith);
  later = (λ period h. adds.adds (is_left_at period) ∙ part.later period h);
}

climbs_move : (x x' : ℕ) (views after : List BusyView) → MoreWords x' views after → period_of x ≤ period_of x' → All (WordsIn (λ ws. Climbs 0 ws (period_of x))) views → All (WordsIn (λ ws. Climbs 0 ws (period_of x'))) after
climbs_move x x' views after words rises climbs =
    words.kept (λ ws. Climbs 0 ws (period_of x')) (λ ws c. climbs_push 0 ws x' c)
    (words_weaker (λ ws. Climbs 0 ws (period_of x)) (λ ws. Climbs 0 ws (period_of x')) (λ ws c. climbs_weaker 0 (period_of x) (period_of x') ws rises c) views climbs)

pub climbing_move : (x x' : ℕ) (views after : List BusyView) → SameAdds views after → MoreWords x' views after → period_of x ≤ period_of x' → period_of x' + period_of x' % 2 ≤ period_of x + period_of x % 2 → IsClimbing x views → IsClimbing x' after
climbing_move x x' views after adds words rises fits part = record {
  climbs = climbs_move x x' views after words rises part.climbs;
  periods = (let count = adds.count in let before = part.periods in omega arith);
  later = (λ period h. adds.adds (is_left_at period) ∙ part.later period (omega arith));
}

pub climbing_add : (x : ℕ) (a : QueueAdd) (views after : List BusyView) → MoreAdds a views after → MoreWords a.word views after → period_of x ≤ period_of a.word → period_of a.word + period_of a.word % 2 ≤ period_of x + period_of x % 2 + 2
    → IsClimbing x views → IsClimbing a.word after
climbing_add x a views after adds words rises fits part = record {
  climbs = climbs_move x a.word views after words rises part.climbs;
  periods = (let count = adds.count in let before = part.periods in omega arith);
  later = (λ period h. let sums = adds.adds (is_left_at period) in let before = part.later period (omega arith) in let none' = other_number (period_of a.word) period (λ e. absurd (omega arith)) in omega arith);
}

climbs_up : (from to : ℕ) (ws : List ℕ) → Climbs from ws to → from ≤ to
climbs_up from to [] c = c
climbs_up from to (w ∷ ws) c = let inner = climbs_up (period_of w) to ws c.1 in let first = c.0 in omega arith

-- words whose periods rise to 0 have period 0
pub climbs_none : (from to : ℕ) (ws : List ℕ) → to ≡ 0 → Climbs from ws to → All (λ w. period_of w ≡ 0) ws
climbs_none from to [] none c = All-nil (λ w. period_of w ≡ 0)
climbs_none from to (w ∷ ws) none c = All-cons (λ u. period_of u ≡ 0) w ws (let up = climbs_up (period_of w) to ws c.1 in omega arith) (climbs_none (period_of w) to ws none c.1)

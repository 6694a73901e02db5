-- A term as its tree, without where it lies in memory. An I/O list is the term that Erlang takes it for.
use Rattle.std.specs.Prelude.{◌≡◌, ℕ, ℤ, zero, suc, ◌+◌, max, List, [], ◌∷◌, refl, ◌⊎◌}
use Rattle.std.specs.Coded.{Coded, code_by, coded_ℕ, coded_ℤ, coded_list, coded⊎}
use Rattle.std.proofs.Common.{inl, inr, ap, ◌∙◌}

mutual
  pub data Tree : Type 0 where
    int : ℤ → Tree
    -- the characters of its name
    atom : List ℕ → Tree
    bin : List ℕ → Tree
    tuple : Forest → Tree
    list : Forest → Tree

  -- terms in their order
  pub data Forest : Type 0 where
    none : Forest
    more : Tree → Forest → Forest

abbrev pub forest : List Tree → Forest
forest [] = none
forest (t ∷ ts) = more t (forest ts)

-- how many terms there are
abbrev pub count : Forest → ℕ
count none = 0
count (more t ts) = suc (count ts)

-- A leaf has depth 1, a tuple or a list one more than its deepest item.
abbrev mutual
  pub depth : Tree → ℕ
  depth (int z) = 1
  depth (atom name) = 1
  depth (bin bytes) = 1
  depth (tuple ts) = suc (deepest ts)
  depth (list ts) = suc (deepest ts)

  pub deepest : Forest → ℕ
  deepest none = 0
  deepest (more t ts) = max (depth t) (deepest ts)

-- A number that is larger at a term than at its items: the measure of what goes down a term.
abbrev mutual
  pub weigh : Tree → ℕ
  weigh (int z) = 1
  weigh (atom name) = 1
  weigh (bin bytes) = 1
  weigh (tuple ts) = 2 + weight ts
  weigh (list ts) = 2 + weight ts

  pub weight : Forest → ℕ
  weight none = 0
  weight (more t ts) = weigh t + weight ts

-- The code of a forest: steps that build it on a stack of forests, whose top they change.
-- A leaf is put in front of the top; 0 puts an empty forest on the stack; 1 and 2 take the top as the
-- items of a tuple or a list, which goes in front of the next.
abbrev pub Step : Type 0
Step = ℤ ⊎ (List ℕ ⊎ (List ℕ ⊎ ℕ))

abbrev pub coded_step : Coded Step
coded_step = coded⊎ coded_ℤ (coded⊎ (coded_list coded_ℕ) (coded⊎ (coded_list coded_ℕ) coded_ℕ))

abbrev mutual
  pub steps : Forest → List Step → List Step
  steps none after = inr (inr (inr 0)) ∷ after
  steps (more t ts) after = steps ts (put_steps t after)

  pub put_steps : Tree → List Step → List Step
  put_steps (int z) after = inl z ∷ after
  put_steps (atom name) after = inr (inl name) ∷ after
  put_steps (bin bytes) after = inr (inr (inl bytes)) ∷ after
  put_steps (tuple ts) after = steps ts (inr (inr (inr 1)) ∷ after)
  put_steps (list ts) after = steps ts (inr (inr (inr 2)) ∷ after)

abbrev pub put_leaf : Tree → List Forest → List Forest
put_leaf t [] = []
put_leaf t (top ∷ stack) = more t top ∷ stack

abbrev pub wrap : (Forest → Tree) → List Forest → List Forest
wrap kind [] = []
wrap kind (ts ∷ []) = []
wrap kind (ts ∷ top ∷ stack) = more (kind ts) top ∷ stack

abbrev pub play_number : ℕ → List Forest → List Forest
play_number zero stack = none ∷ stack
play_number (suc zero) stack = wrap tuple stack
play_number (suc (suc n)) stack = wrap list stack

abbrev pub play : Step → List Forest → List Forest
play (inl z) stack = put_leaf (int z) stack
play (inr (inl name)) stack = put_leaf (atom name) stack
play (inr (inr (inl bytes))) stack = put_leaf (bin bytes) stack
play (inr (inr (inr n))) stack = play_number n stack

abbrev pub run : List Step → List Forest → List Forest
run [] stack = stack
run (s ∷ rest) stack = run rest (play s stack)

abbrev mutual
  pub run_steps : (ts : Forest) (after : List Step) (stack : List Forest) → run (steps ts after) stack ≡ run after (ts ∷ stack)
  run_steps none after stack = refl
  run_steps (more t ts) after stack = run_steps ts (put_steps t after) stack ∙ run_put_steps t after ts stack

  pub run_put_steps : (t : Tree) (after : List Step) (top : Forest) (stack : List Forest) → run (put_steps t after) (top ∷ stack) ≡ run after (more t top ∷ stack)
  run_put_steps (int z) after top stack = refl
  run_put_steps (atom name) after top stack = refl
  run_put_steps (bin bytes) after top stack = refl
  run_put_steps (tuple ts) after top stack = run_steps ts (inr (inr (inr 1)) ∷ after) (top ∷ stack)
  run_put_steps (list ts) after top stack = run_steps ts (inr (inr (inr 2)) ∷ after) (top ∷ stack)

abbrev pub top_of : List Forest → Forest
top_of [] = none
top_of (ts ∷ stack) = ts

abbrev pub coded_forest : Coded Forest
coded_forest = code_by (List Step) (coded_list coded_step) (λ ts. steps ts []) (λ s. top_of (run s [])) (λ ts. ap top_of (run_steps ts [] []))

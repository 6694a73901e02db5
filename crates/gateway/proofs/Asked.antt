-- What the words ask for is one thing.
use Rattle.std.proofs.Common.{◌≡◌, ℕ, Result, Ok, Err, ap, ◌∙◌}
use Rattle.script_input.specs.Words.{AskedRun, Source}
use Rattle.gateway.specs.Run.{AskFor}

pub ok≢err : {A B : Type 0} (r : Result A B) (a : A) (b : B) → r ≡ Ok a → r ≡ Err b → ⊥
ok≢err (Ok x) a b e f = absurd cc
ok≢err (Err y) a b e f = absurd cc

pub ok-same : {A B : Type 0} (r : Result A B) (a b : A) → r ≡ Ok a → r ≡ Ok b → a ≡ b
ok-same (Ok x) a b e f = cc
ok-same (Err y) a b e f = absurd cc

-- words that ask for one source don't ask for another
pub same-source : (words : Result AskedRun ℕ) (a : AskedRun) (source : Source) → words ≡ Ok a → AskFor words source → a.source ≡ source
same-source words a source e asks = ap (λ (x : AskedRun). x.source) (ok-same words a asks.asked e asks.named) ∙ asks.source_is

use Rattle.std.proofs.Common.{◌≡◌, ℕ, List, [], Option, Some, refl, sym, ap, ◌∙◌}
use Rattle.script_text.proofs.Again.{text_again}
use Rattle.script_text.proofs.AgainData.{io_list_again, term_again}
use Rattle.script_text.proofs.laws.each_text_has_one_value.Goals as goal

-- of two values that are read, with nothing behind them
same : {A : Type 0} (read : Option (A × List ℕ)) (v w : A) → read ≡ Some (v, []) → read ≡ Some (w, []) → v ≡ w
same read v w e f = let pairs : ◌≡◌ {A = _ × List ℕ} (v, []) (w, []) = cc in ap (λ (p : _ × List ℕ). p.0) pairs

pub returns-clause-number : goal.returns-clause-number
returns-clause-number c = λ text m n s t. s.value ∙ sym t.value

pub returns-clause-text : goal.returns-clause-text
returns-clause-text c = λ text v w s t. same _ v w (text_again v text s []) (text_again w text t [])

pub returns-clause-io_list : goal.returns-clause-io_list
returns-clause-io_list c = λ text v w s t. same _ v w (io_list_again v text s []) (io_list_again w text t [])

pub returns-clause-term : goal.returns-clause-term
returns-clause-term c = λ text v w s t. same _ v w (term_again v text s [] refl) (term_again w text t [] refl)

-- Two tables are seen alike where their parts are.
use Rattle.std.proofs.Common.{◌≡◌, ℕ, List, ap, ◌∙◌}
use Rattle.port_history.specs.port_model.port_signal.declared.monitor.Monitor.{Monitor}
use Rattle.port_links.specs.Table.{LinkTable}

abbrev pub table : ℕ → List ℕ → List Monitor → List ℕ → ℕ → LinkTable
table owner linked monitors ended n = record {
  ties = record { owner = owner; linked = linked; monitors = monitors; ended = ended };
  processes = n;
}

pub same-table : (o n n' : ℕ) (l l' e e' : List ℕ) (ms ms' : List Monitor) → l ≡ l' → ms ≡ ms' → e ≡ e' → n ≡ n' → table o l ms e n ≡ table o l' ms' e' n'
same-table o n n' l l' e e' ms ms' p q r s =
    ap (λ x. table o x ms e n) p ∙ (ap (λ x. table o l' x e n) q ∙ (ap (λ x. table o l' ms' x n) r ∙ ap (λ x. table o l' ms' e' x) s))

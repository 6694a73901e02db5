-- A process that didn't end is among the ends of a run.
use Rattle.std.proofs.Common.{◌≡◌, ◌<◌, ℕ, List, [], ◌∷◌, length, map, get_or, sym, ap, ◌∙◌, arith}
use Rattle.std.proofs.lemmas.List.{get_or-map, length-map}
use Rattle.process_job.specs.declared.job.EndedProcess.{EndedProcess}
use Rattle.process_job.specs.declared.job.ProcessEnd.{ProcessEnd}
use Rattle.process_job.specs.declared.job.ProcessEnd.TheVariants.{Ended}

at-place : (ends : List ProcessEnd) (n : ℕ) (end : ProcessEnd) (p : EndedProcess) (all : List EndedProcess) → n < length ends → end ≡ get_or ends n end → map Ended all ≡ ends
    → ((q : EndedProcess) → end ≡ Ended q → ⊥) → ⊥
at-place ends n end p all within is same not-ended =
    let many : length (map Ended all) ≡ length ends = ap length same in
    let long = length-map all Ended in
    not-ended (get_or all n p) (is ∙ ap (λ l. get_or l n end) (sym same) ∙ get_or-map Ended all n p end (omega (arith, many, long, within)))

pub not-all : (ends : List ProcessEnd) (n : ℕ) (end : ProcessEnd) (all : List EndedProcess) → n < length ends → end ≡ get_or ends n end → map Ended all ≡ ends
    → ((q : EndedProcess) → end ≡ Ended q → ⊥) → ⊥
not-all ends n end [] within is same not-ended = let none : length ends ≡ 0 = ap length (sym same) in absurd (omega (arith, none, within))
not-all ends n end (p ∷ all) within is same not-ended = at-place ends n end p (p ∷ all) within is same not-ended

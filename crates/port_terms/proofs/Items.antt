-- Reading items one after the other, as a loop does.
use Rattle.std.proofs.Common.{◌≡◌, ◌≢◌, ℕ, suc, ◌-◌, ◌+◌, ◌≤◌, ◌<◌, List, [], ◌∷◌, ◌++◌, Result, Ok, Err, refl, sym, ap, ◌∙◌, append_assoc, arith}
use Rattle.std.proofs.lemmas.List.{append-nil}
use Rattle.port_terms.specs.declared.faults.TermFault.{TermFault}
use Rattle.port_terms.specs.declared.faults.TermFault.TheVariants.{NoMemory}
use Rattle.port_terms.specs.Tree.{Tree}
use Rattle.port_terms.specs.Reading.{◌>>=◌, items_at}

-- what was read before, and what is still read
abbrev pub with_front : List Tree → Result (List Tree × List ℕ) TermFault → Result (List Tree × List ℕ) TermFault
with_front front read = read >>= λ x. Ok (front ++ x.0, x.1)

regroup : (front : List Tree) (t : Tree) (read : Result (List Tree × List ℕ) TermFault) → with_front front (read >>= λ x. Ok (t ∷ x.0, x.1)) ≡ with_front (front ++ t ∷ []) read
regroup front t (Ok x) = ap (λ (ts : List Tree). Ok (ts, x.1)) (simp append_assoc)
regroup front t (Err e) = refl

pub goes_on : (item : List ℕ → Result (Tree × List ℕ) TermFault) (front : List Tree) (n i : ℕ) (bytes : List ℕ) (t : Tree) (after : List ℕ) (total : Result (List Tree × List ℕ) TermFault) → i < n → item bytes ≡ Ok (t, after)
    → with_front front (items_at item (n - i) bytes) ≡ total → with_front (front ++ t ∷ []) (items_at item (n - (i + 1)) after) ≡ total
unfolding items_at
goes_on item front n i bytes t after total lt h so_far =
    let k : n - i ≡ suc (n - (i + 1)) = omega arith in
    let one : with_front front (items_at item (n - i) bytes) ≡ with_front (front ++ t ∷ []) (items_at item (n - (i + 1)) after) = rw (k, h) (regroup front t (items_at item (n - (i + 1)) after)) in
    sym one ∙ so_far

pub stops : (item : List ℕ → Result (Tree × List ℕ) TermFault) (e : TermFault) (front : List Tree) (n i : ℕ) (bytes : List ℕ) (total : Result (List Tree × List ℕ) TermFault) → i < n → (e ≢ NoMemory → item bytes ≡ Err e)
    → with_front front (items_at item (n - i) bytes) ≡ total → e ≢ NoMemory → total ≡ Err e
unfolding items_at
stops item e front n i bytes total lt h so_far some =
    let k : n - i ≡ suc (n - (i + 1)) = omega arith in
    let one : with_front front (items_at item (n - i) bytes) ≡ Err e = rw (k, h some) refl in
    sym so_far ∙ one

pub is_done : (item : List ℕ → Result (Tree × List ℕ) TermFault) (front : List Tree) (n i : ℕ) (bytes : List ℕ) (total : Result (List Tree × List ℕ) TermFault) → n ≤ i → with_front front (items_at item (n - i) bytes) ≡ total → total ≡ Ok (front, bytes)
unfolding items_at
is_done item front n i bytes total le so_far =
    let k : n - i ≡ 0 = omega arith in
    let one : with_front front (items_at item (n - i) bytes) ≡ Ok (front, bytes) = rw k (ap (λ (ts : List Tree). Ok (ts, bytes)) (append-nil front)) in
    sym so_far ∙ one

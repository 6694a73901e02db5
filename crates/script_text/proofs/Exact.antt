-- A reader that gives what reading on lists gives is exact: it gives what is spelled in front, and that alone.
use Rattle.std.proofs.Common.{◌≡◌, ℕ, List, Option, Some, Result, Ok, Err, ap}
use Rattle.std.specs.Prelude.{IfOk}
use Rattle.script_text.specs.declared.fault.PartFault.{PartFault}
use Rattle.script_text.specs.declared.fault.PartFault.TheVariants.{Bad, NoMemory}
use Rattle.script_text.specs.PartFault.{Reads, Gives}
use Rattle.script_text.specs.InFront.{InFront}

-- what reading gives stands in front
abbrev pub IsFound : {A : Type 0} → (A → List ℕ → Type 0) → (List ℕ → Option (A × List ℕ)) → Type 0
IsFound IsSpelling read = (bytes : List ℕ) (value : _) (rest : List ℕ) → read bytes ≡ Some (value, rest) → InFront IsSpelling value bytes rest

pub found_by : {X A : Type 0} (view : X → A) (behind : X → List ℕ) (IsSpelling : A → List ℕ → Type 0) (read : List ℕ → Option (A × List ℕ)) → IsFound IsSpelling read
    → (bytes : List ℕ) (result : Result X PartFault) → Reads (λ x. (view x, behind x)) result (read bytes) → IfOk result (λ x. InFront IsSpelling (view x) bytes (behind x))
found_by view behind IsSpelling read found bytes (Ok x) reads = found bytes (view x) (behind x) reads
found_by view behind IsSpelling read found bytes (Err fault) reads = tt

pub only_by : {X A : Type 0} (view : X → A) (behind : X → List ℕ) (read : Option (A × List ℕ)) (value : A) (rest : List ℕ) → read ≡ Some (value, rest)
    → (result : Result X PartFault) → Reads (λ x. (view x, behind x)) result read → Gives view behind result value rest
only_by view behind read value rest e (Ok x) reads = let same : (view x, behind x) ≡ (value, rest) = cc in (ap (λ (p : _ × List ℕ). p.0) same, ap (λ (p : _ × List ℕ). p.1) same)
only_by view behind read value rest e (Err Bad) reads = cc
only_by view behind read value rest e (Err NoMemory) reads = tt

-- What the work of a job is.
use Rattle.std.specs.Prelude.{ℕ, ◌≤◌, ◌%◌, ◌^◌, ◌==◌, if◌then◌else◌, List, [], reverse, sum}
use Rattle.std.specs.Int.{w64, to_be_bytes}
use Rattle.sha2.specs.Sha256.{sha256}

-- the codes of jobs are 1, 2 and 3
abbrev pub IsCode : ℕ → Type 0
IsCode code = (1 ≤ code) × (code ≤ 3)

-- code 1: the bytes reversed; code 2: their sum, modulo 2^64, as 8 bytes, the most significant first; code 3: their SHA-256
abbrev pub work_of : ℕ → List ℕ → List ℕ
work_of code input =
    if code == 1 then reverse input else
    if code == 2 then to_be_bytes w64 (sum input % 2 ^ 64) else
    if code == 3 then sha256 input else []

-- Files in memory.
use Rattle.std.specs.Prelude.{◌≡◌, ◌≢◌, ℕ, List, Option, Some, find}
use Rattle.std.specs.Option.{option_map}
use Rattle.std.specs.Str.{bytes_eq}
use Rattle.outside.specs.Log.{NamedBytes}
use Rattle.outside.specs.Plan.{CallPlanView}

-- a file: its name and its bytes
pub record File : Type 0 where
  pub name : List ℕ
  pub bytes : List ℕ

-- the files that are held, the calls that were made and are to fail, their faults, and what they answered
pub record Disk : Type 0 where
  pub files : List File
  pub reads : CallPlanView
  pub writes : CallPlanView
  pub read_faults : ℕ
  pub write_faults : ℕ
  pub answered : List NamedBytes
  pub wrote : List NamedBytes

-- the bytes held under a name
abbrev pub contents : List File → List ℕ → Option (List ℕ)
contents files name = option_map (λ file. file.bytes) (find (λ file. bytes_eq file.name name) files)

-- the named file is these bytes, and every other name holds what it held
pub record Rewrites (old new : List File) (name bytes : List ℕ) : Type 0 where
  pub named : contents new name ≡ Some bytes
  pub others : (other : List ℕ) → other ≢ name → contents new other ≡ contents old other

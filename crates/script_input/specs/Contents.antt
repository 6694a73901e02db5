-- The files that the steps of a script send.
use Rattle.std.specs.Prelude.{◌≡◌, ℕ, ◌<◌, ◌≤◌, ◌+◌, List, ◌∷◌, ◌++◌, length, map, Option, Some, None, IfSome, IsSomeAnd}
use Rattle.std.specs.List.{filter_map, sum_by, zip}
use Rattle.outside.specs.Log.{NamedBytes}
use Rattle.script_plan.specs.declared.step.Step.{Step}
use Rattle.script_plan.specs.declared.step.Act.{Act}
use Rattle.script_plan.specs.declared.step.Act.TheVariants.{File}
use Rattle.program_io.specs.declared.fault.InputFault.{InputFault}
use Rattle.program_io.specs.declared.fault.InputFault.TheVariants.{Script, ReadFault, Limit, NoMemory}
use Rattle.program_io.specs.Files.{FilesView, IsUnread}

-- the name of the file that an act sends
abbrev pub file_of : Act → Option (List ℕ)
file_of (File port size file force nosuspend) = Some file
file_of act = None

-- the names of the files that the steps send, one for each step that sends one
abbrev pub file_names : List Step → List (List ℕ)
file_names steps = filter_map (λ s. file_of s.act) steps

-- these names, each with its bytes
abbrev pub named : List (List ℕ) → List (List ℕ) → List NamedBytes
named names contents = map (λ p. record { name = p.0; bytes = p.1 }) (zip names contents)

-- how many bytes they have together
abbrev pub total : List (List ℕ) → ℕ
total contents = sum_by length contents

-- One read answered for each step that sends a file, in the order of the steps, with these contents: at most 33,554,432 bytes together. Where the files tell what they hold, they hold just these
pub record HaveAnswered (before after : FilesView) (steps : List Step) (contents : List (List ℕ)) : Type 0 where
  pub many : length contents ≡ length (file_names steps)
  pub answered : after.answered ≡ before.answered ++ named (file_names steps) contents
  pub held : IfSome before.told (λ files. map files (file_names steps) ≡ map Some contents)
  pub fits : total contents ≤ 33554432

-- so it was, and no read failed
pub record HaveRead (before after : FilesView) (steps : List Step) (contents : List (List ℕ)) : Type 0 where
  pub answer : HaveAnswered before after steps contents
  pub reads : after.reads ≡ before.reads

-- the step on this line sends the file of this name, and the files of the steps above it have these contents
pub record StopsAt (steps : List Step) (line : ℕ) (name : List ℕ) (contents : List (List ℕ)) (before after : FilesView) : Type 0 where
  pub done : List Step
  pub step : Step
  pub rest : List Step
  pub split : steps ≡ done ++ step ∷ rest
  pub line_is : line ≡ step.line
  pub names : file_of step.act ≡ Some name
  pub read : HaveAnswered before after done contents

-- the file of the step on this line wasn't read
pub record FileUnread (steps : List Step) (before after : FilesView) (line : ℕ) : Type 0 where
  pub name : List ℕ
  pub contents : List (List ℕ)
  pub stops : StopsAt steps line name contents before after
  pub unread : IsUnread before after name

-- with the file of the step on this line there are more bytes than are allowed
pub record FilesOver (steps : List Step) (before after : FilesView) (line : ℕ) : Type 0 where
  pub name : List ℕ
  pub contents : List (List ℕ)
  pub stops : StopsAt steps line name contents before after
  pub reads : after.reads ≡ before.reads
  pub over : IfSome before.told (λ told. IsSomeAnd (told name) (λ bytes. 33554432 < total contents + length bytes))

-- the files of some of the first steps were read, and no read failed
pub record SomeRead (steps : List Step) (before after : FilesView) : Type 0 where
  pub done : List Step
  pub rest : List Step
  pub contents : List (List ℕ)
  pub split : steps ≡ done ++ rest
  pub read : HaveRead before after done contents

-- why the files weren't read
abbrev pub FilesEnd : List Step → FilesView → FilesView → InputFault → Type 0
FilesEnd steps before after (Script fault) = ⊥
FilesEnd steps before after (ReadFault line) = FileUnread steps before after line
FilesEnd steps before after (Limit line) = FilesOver steps before after line
FilesEnd steps before after NoMemory = SomeRead steps before after

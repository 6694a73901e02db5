-- What files show, and what reads of them left.
use Rattle.std.specs.Prelude.{◌≡◌, ℕ, ◌<◌, ◌≤◌, ◌⊎◌, List, length, Some, None, IfSome, IsSomeAnd}
use Rattle.outside.specs.Causes.{Told, Rose}
use Rattle.outside.specs.Log.{NamedBytes, noted}
use Rattle.program_io.specs.declared.fault.InputFault.{InputFault}
use Rattle.program_io.specs.declared.fault.InputFault.TheVariants.{Script, ReadFault, Limit, NoMemory}

-- what files show: what they hold, where they tell it, the names and the bytes of the reads and of the writes that answered, and how many reads and how many writes failed
pub record FilesView : Type 0 where
  pub told : Told
  pub answered : List NamedBytes
  pub wrote : List NamedBytes
  pub reads : ℕ
  pub writes : ℕ

abbrev pub files_view : {F : Type 0} → (F → Told) → (F → List NamedBytes) → (F → List NamedBytes) → (F → ℕ) → (F → ℕ) → F → FilesView
files_view told answered wrote reads writes files =
    record { told = told files; answered = answered files; wrote = wrote files; reads = reads files; writes = writes files }

-- no write answered, none failed, and what the files tell that they hold is the same
pub record NothingWritten (before after : FilesView) : Type 0 where
  pub told : after.told ≡ before.told
  pub wrote : after.wrote ≡ before.wrote
  pub writes : after.writes ≡ before.writes

-- no read answered, and none failed
pub record NothingRead (before after : FilesView) : Type 0 where
  pub answered : after.answered ≡ before.answered
  pub reads : after.reads ≡ before.reads

-- one read answered, and none failed: it answered these bytes of the file of this name. They are at most so many, and where the files tell what they hold, they hold just these bytes under that name
pub record HasRead (max : ℕ) (before after : FilesView) (name bytes : List ℕ) : Type 0 where
  pub answered : after.answered ≡ noted before.answered name bytes
  pub reads : after.reads ≡ before.reads
  pub fits : length bytes ≤ max
  pub held : IfSome before.told (λ files. files name ≡ Some bytes)

-- a read failed, or else the files tell that they hold no file of this name
abbrev pub IsUnread : FilesView → FilesView → List ℕ → Type 0
IsUnread before after name = Rose before.reads after.reads ⊎ ((after.reads ≡ before.reads) × IsSomeAnd before.told (λ files. files name ≡ None))

-- where the files tell what they hold, the file of this name has more bytes than these
abbrev pub IsLonger : ℕ → FilesView → List ℕ → Type 0
IsLonger max files name = IfSome files.told (λ told. IsSomeAnd (told name) (λ bytes. max < length bytes))

-- why a file wasn't read that this line names: no read answered. Only where it isn't there, one may have failed
abbrev pub ReadEnds : ℕ → ℕ → FilesView → FilesView → List ℕ → InputFault → Type 0
ReadEnds line max before after name (Script fault) = ⊥
ReadEnds line max before after name (ReadFault at) = (at ≡ line) × (after.answered ≡ before.answered) × IsUnread before after name
ReadEnds line max before after name (Limit at) = (at ≡ line) × NothingRead before after × IsLonger max before name
ReadEnds line max before after name NoMemory = NothingRead before after

-- How what a run left is written, and why not.
use Rattle.std.specs.Prelude.{◌≡◌, ◌≢◌, ℕ, ◌⊎◌, List, [], ◌∷◌, ◌++◌, All, Option, Some, None, Result, Ok, Err, IsSomeAnd, if◌then◌else◌}
use Rattle.std.specs.Str.{bytes_eq}
use Rattle.outside.specs.Causes.{Told, Rose}
use Rattle.outside.specs.Causes.{OthersStay as OthersStayBut}
use Rattle.outside.specs.Log.{NamedBytes}
use Rattle.script_input.specs.Files.{FilesView}
pub use Rattle.script_input.specs.program_io.Sink.{SinkView, sink_view, TookText, PutFailed}
use Rattle.run_output.specs.declared.writing.OutputFault.{OutputFault}
use Rattle.run_output.specs.declared.writing.OutputFault.TheVariants.{WriteFault, NoMemory}

-- what is told of every name that none of these writes has stays, and whether the files tell stays too
abbrev pub OthersStay : Told → Told → List NamedBytes → Type 0
OthersStay None new all = new ≡ None
OthersStay (Some files) new all = IsSomeAnd new (λ files'. (other : List ℕ) → All (λ w. other ≢ w.name) all → files' other ≡ files other)

-- what each name holds after these writes
abbrev pub held_after : List NamedBytes → (List ℕ → Option (List ℕ)) → List ℕ → Option (List ℕ)
held_after [] files name = files name
held_after (write ∷ all) files name = held_after all (λ other. if bytes_eq write.name other then Some write.bytes else files other) name

-- the files tell that each name holds what it held before these writes, or what the last of them with that name gave it
abbrev pub HoldWritten : Told → Told → List NamedBytes → Type 0
HoldWritten (Some files) (Some files') all = (name : List ℕ) → files' name ≡ held_after all files name
HoldWritten old new all = Unit {0}

-- nothing was read, and what is told of a name that none of these writes has stays
pub record TouchesOnly (all : List NamedBytes) (old new : FilesView) : Type 0 where
  pub answered : new.answered ≡ old.answered
  pub reads : new.reads ≡ old.reads
  pub others : OthersStay old.told new.told all

-- these writes answered, in this order, and none failed; the files hold what they gave
pub record WroteAll (all : List NamedBytes) (old new : FilesView) : Type 0 where
  pub touches : TouchesOnly all old new
  pub held : HoldWritten old.told new.told all
  pub wrote : new.wrote ≡ old.wrote ++ all
  pub faults : new.writes ≡ old.writes

-- the write of this file failed; what is told of every other name stays, and the file itself is unknown
pub record WriteFailed (write : NamedBytes) (old new : FilesView) : Type 0 where
  pub answered : new.answered ≡ old.answered
  pub reads : new.reads ≡ old.reads
  pub others : OthersStayBut old.told new.told write.name
  pub wrote : new.wrote ≡ old.wrote
  pub rose : Rose old.writes new.writes

-- the first of these writes answered, the one behind them failed, and none of the later ones was tried
pub record FailedAt (all : List NamedBytes) (old new : FilesView) : Type 0 where
  pub front : List NamedBytes
  pub failed : NamedBytes
  pub later : List NamedBytes
  pub of_all : all ≡ front ++ failed ∷ later
  pub mid : FilesView
  pub wrote : WroteAll front old mid
  pub fails : WriteFailed failed mid new

-- the first of these writes answered, perhaps all, and no other did anything
pub record WroteFront (all : List NamedBytes) (old new : FilesView) : Type 0 where
  pub front : List NamedBytes
  pub rest : List NamedBytes
  pub of_all : all ≡ front ++ rest
  pub wrote : WroteAll front old new

-- how these writes end: all were made, one failed, or memory was wanting
abbrev pub FilesEnd : List NamedBytes → FilesView → FilesView → Result (Unit {0}) OutputFault → Type 0
FilesEnd all old new (Ok _) = WroteAll all old new
FilesEnd all old new (Err WriteFault) = FailedAt all old new
FilesEnd all old new (Err NoMemory) = WroteFront all old new

-- how the put of this text ends: the sink took it, failed, or memory was wanting before
abbrev pub TextEnds : List ℕ → SinkView → SinkView → Result (Unit {0}) OutputFault → Type 0
TextEnds text old new (Ok _) = TookText old new text
TextEnds text old new (Err WriteFault) = PutFailed old new text
TextEnds text old new (Err NoMemory) = new ≡ old

-- how these writes and the put of this text behind them end: all was written; a write failed, and then the sink is as it was, or the put did; or memory was wanting
abbrev pub OutputEnds : List NamedBytes → List ℕ → FilesView → FilesView → SinkView → SinkView → Result (Unit {0}) OutputFault → Type 0
OutputEnds all text files files' sink sink' (Ok _) = WroteAll all files files' × TookText sink sink' text
OutputEnds all text files files' sink sink' (Err WriteFault) = (FailedAt all files files' × (sink' ≡ sink)) ⊎ (WroteAll all files files' × PutFailed sink sink' text)
OutputEnds all text files files' sink sink' (Err NoMemory) = WroteFront all files files' × (sink' ≡ sink)

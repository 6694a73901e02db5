-- Why a call on files, a sink or a poll set answers as it does.
-- A count of faults is told before and after the call. What an object holds is `None` where it doesn't tell.
use Rattle.std.specs.Prelude.{◌≡◌, ◌≢◌, ◌==◌, ℕ, ◌+◌, ◌-◌, ◌^◌, ◌<◌, ◌≤◌, min, List, ◌++◌, length, Option, None, Some, IfSome, IsSome, IsSomeAnd}
use Rattle.std.specs.List.{IsDistinct}
use Rattle.std.specs.Option.{option_map}
use Rattle.outside.specs.declared.files.FileFault.{FileFault}
use Rattle.outside.specs.declared.files.FileFault.TheVariants.{Failed, Over, NoMemory, Missing}
use Rattle.outside.specs.declared.poll_set.PollFault.{PollFault}
use Rattle.outside.specs.declared.poll_set.PollFault.TheVariants as poll
use Rattle.outside.specs.Sublist.{IsSublist}

-- what an object tells that each name holds, or None where it doesn't tell
abbrev pub Told : Type 0
Told = Option (List ℕ → Option (List ℕ))

-- a count of faults rose, or stands at its end, the greatest `u64`
abbrev pub Rose : ℕ → ℕ → Type 0
Rose before after = min (before + 1) (2 ^ 64 - 1) ≤ after

-- `read` answered these bytes: the whole file, which has at most max of them
abbrev pub ReadOk : ℕ → ℕ → Told → List ℕ → ℕ → List ℕ → Type 0
ReadOk before after told name max bytes = (after ≡ before) × (length bytes ≤ max) × IfSome told (λ files. files name ≡ Some bytes)

-- `read` answered this fault
abbrev pub ReadErr : ℕ → ℕ → Told → List ℕ → ℕ → FileFault → Type 0
ReadErr before after told name max Failed = Rose before after
ReadErr before after told name max Over = (after ≡ before) × IfSome told (λ files. IfSome (files name) (λ bytes. max < length bytes)) × IfSome told (λ files. IsSome (files name))
ReadErr before after told name max NoMemory = after ≡ before
ReadErr before after told name max Missing = (after ≡ before) × IsSomeAnd told (λ files. files name ≡ None)

-- what is told of every other name stays, and whether the object tells stays too
abbrev pub OthersStay : Told → Told → List ℕ → Type 0
OthersStay None new name = new ≡ None
OthersStay (Some files) new name = IsSomeAnd new (λ files'. (other : List ℕ) → other ≢ name → files' other ≡ files other)

-- `write` answered `Ok`: the named file is these bytes
abbrev pub WriteOk : ℕ → ℕ → Told → Told → List ℕ → List ℕ → Type 0
WriteOk before after old new name bytes = (after ≡ before) × OthersStay old new name × IfSome new (λ files. files name ≡ Some bytes)

-- `write` answered this fault: after `Failed` the named file is unknown
abbrev pub WriteErr : ℕ → ℕ → Told → Told → List ℕ → FileFault → Type 0
WriteErr before after old new name Failed = Rose before after × OthersStay old new name
WriteErr before after old new name Over = ⊥
WriteErr before after old new name NoMemory = (after ≡ before) × (new ≡ old)
WriteErr before after old new name Missing = ⊥

-- `put` answered `Ok`: all bytes were taken
abbrev pub PutOk : ℕ → ℕ → Option (List ℕ) → Option (List ℕ) → List ℕ → Type 0
PutOk before after old new bytes = (after ≡ before) × (new ≡ option_map (λ written. written ++ bytes) old)

-- `put` answered a fault: a prefix of the bytes was taken
abbrev pub PutErr : ℕ → ℕ → Option (List ℕ) → Option (List ℕ) → List ℕ → Type 0
PutErr before after None new bytes = Rose before after × (new ≡ None)
PutErr before after (Some written) new bytes = Rose before after × ((part : List ℕ) × (rest : List ℕ) × (bytes ≡ part ++ rest) × (new ≡ Some (written ++ part)))

-- `wait` answered these events: some of the armed ones, in their order, each once
abbrev pub WaitOk : ℕ → ℕ → List ℕ → List ℕ → List ℕ → List ℕ → Type 0
WaitOk before after old new armed events = (after ≡ before) × IsSublist events armed × IsDistinct (λ a b. a == b) events × (new ≡ old ++ events)

-- `wait` answered this fault, and no event
abbrev pub WaitErr : ℕ → ℕ → List ℕ → List ℕ → PollFault → Type 0
WaitErr before after old new poll.Failed = Rose before after × (new ≡ old)
WaitErr before after old new poll.NoMemory = (after ≡ before) × (new ≡ old)

-- Programs in memory: what they give by what they were given.
use Rattle.std.specs.Prelude.{◌≡◌, ℕ, ℤ, Bool, ◌-◌, ◌^◌, min, nat_lt, cond, List, [], ◌∷◌, ◌++◌, length, take, Option, None, Some, IsSome}
use Rattle.outside.specs.declared.chunk.Chunk.{Chunk}
use Rattle.outside.specs.declared.chunk.Ending.{Ending}
use Rattle.outside.specs.declared.child.Fetched.{Fetched}
use Rattle.outside.specs.declared.child.Fetched.TheVariants.{Bytes, Again, End, Failed, NoMemory}
use Rattle.outside.specs.Children.{ChildView, Stand}
use Rattle.outside.specs.Plan.{CallPlanView}

-- a program: the most bytes that one offer takes, how many bytes what comes next waits for, what it gives, and how its output ends
pub record ProgramView : Type 0 where
  pub grain : ℕ
  pub need : ℕ
  pub chunks : List Chunk
  pub ending : Option Ending

-- a program got one more chunk
pub record Gives (old new : ProgramView) (more : List ℕ) : Type 0 where
  pub chunk : Chunk
  pub need : chunk.need ≡ old.need
  pub bytes : chunk.bytes.items ≡ more
  pub chunks : new ≡ record old { chunks = old.chunks ++ chunk ∷ [] }

-- how many bytes a program was given, up to the greatest `u64`
abbrev pub count_of : List ℕ → ℕ
count_of given = min (length given) (2 ^ 64 - 1)

-- the bytes that come once so many were given: those up to the first that wait for more
abbrev pub ready : ℕ → List Chunk → List ℕ
ready given [] = []
ready given (chunk ∷ chunks) = cond (nat_lt given chunk.need) [] (chunk.bytes.items ++ ready given chunks)

-- the status with which the output has ended once so many bytes were given
abbrev pub ended : ℕ → List Chunk → Option Ending → Option ℤ
ended given (chunk ∷ chunks) ending = cond (nat_lt given chunk.need) None (ended given chunks ending)
ended given [] None = None
ended given [] (Some ending) = cond (nat_lt given ending.need) None (Some ending.status)

-- the bytes of the next chunk, where it waits for no more
abbrev pub upcoming : ℕ → List Chunk → List ℕ
upcoming given [] = []
upcoming given (chunk ∷ chunks) = cond (nat_lt given chunk.need) [] chunk.bytes.items

-- a program that runs: what was begun of what it gives, the chunks behind that, and what every child shows
pub record Running : Type 0 where
  pub read_event : ℕ
  pub write_event : ℕ
  pub command : List ℕ
  pub given : List ℕ
  pub fetched : List ℕ
  pub stopped : Bool
  pub grain : ℕ
  pub current : List ℕ
  pub chunks : List Chunk
  pub ending : Option Ending
  pub at_end : Bool
  pub offers : CallPlanView
  pub fetches : CallPlanView
  pub statuses : CallPlanView
  pub faults : ℕ

-- how it stands
abbrev pub stands : Running → Stand
stands r = record {
  gives = r.current ++ ready (count_of r.given) r.chunks;
  takes = nat_lt 0 r.grain;
  ended = ended (count_of r.given) r.chunks r.ending;
}

-- what it shows
abbrev pub shown : Running → ChildView
shown r = record {
  read_event = r.read_event;
  write_event = r.write_event;
  command = r.command;
  given = r.given;
  fetched = r.fetched;
  at_end = r.at_end;
  stopped = r.stopped;
  stand = Some (stands r);
}

-- nothing is left to give, and the output has ended
pub record IsOver (begun : List ℕ) (count : ℕ) (chunks : List Chunk) (ending : Option Ending) : Type 0 where
  pub current : begun ≡ []
  pub nothing : ready count chunks ≡ []
  pub ends : IsSome (ended count chunks ending)

-- the bytes that the next fetch begins with: the rest of what was begun, or the next chunk
abbrev pub following : Running → List ℕ
following r = cond (nat_lt 0 (length r.current)) r.current (upcoming (count_of r.given) r.chunks)

-- what was fetched, if anything was, is as much of these bytes as was asked for
abbrev pub GivesUpTo : ℕ → List ℕ → Fetched → Type 0
GivesUpTo max all (Bytes bytes) = bytes.items ≡ take max all
GivesUpTo max all Again = Unit {0}
GivesUpTo max all End = Unit {0}
GivesUpTo max all Failed = Unit {0}
GivesUpTo max all NoMemory = Unit {0}

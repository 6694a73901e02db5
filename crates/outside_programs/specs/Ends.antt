-- What the ends of a real child answer, and that they pass on what they get: each byte once, and in order.
use Rattle.std.specs.Prelude.{◌≡◌, ℕ, ◌<◌, ◌≤◌, List, [], ◌++◌, length, take}
use Rattle.outside.specs.declared.child.Offered.{Offered}
use Rattle.outside.specs.declared.child.Offered.TheVariants as offered
use Rattle.outside.specs.declared.child.Fetched.{Fetched}
use Rattle.outside.specs.declared.child.Fetched.TheVariants as fetched

-- bytes that were fetched are some, and at most as many as were asked for
abbrev pub Gives : ℕ → Fetched → Type 0
Gives max (fetched.Bytes bytes) = (0 < length bytes.items) × (length bytes.items ≤ max)
Gives max fetched.Again = Unit {0}
Gives max fetched.End = Unit {0}
Gives max fetched.Failed = Unit {0}
Gives max fetched.NoMemory = Unit {0}

-- no more was taken than was offered
abbrev pub Takes : ℕ → Offered → Type 0
Takes count (offered.Took taken) = taken ≤ count
Takes count offered.Failed = Unit {0}

-- the bytes that an answer gives
abbrev pub given_by : Fetched → List ℕ
given_by (fetched.Bytes bytes) = bytes.items
given_by fetched.Again = []
given_by fetched.End = []
given_by fetched.Failed = []
given_by fetched.NoMemory = []

-- an answer gives the front of what was held, and all that is behind it is held afterwards
abbrev pub GivesFront : List ℕ → List ℕ → Fetched → Type 0
GivesFront before after answer = given_by answer ++ after ≡ before

-- nothing is repeated, skipped or changed: of a rest that is held, the front is given, and nothing is received; where no rest is held, what is
-- received is what is given, followed by the rest that is held afterwards
pub record InOrder (received_before received_after rest_before rest_after : List ℕ) (answer : Fetched) : Type 0 where
  pub held : 0 < length rest_before → (received_after ≡ received_before) × GivesFront rest_before rest_after answer
  pub empty : rest_before ≡ [] → received_after ≡ received_before ++ (given_by answer ++ rest_after)

-- what was given so far grows by the bytes of an answer, and by nothing else
abbrev pub Notes : List ℕ → List ℕ → Fetched → Type 0
Notes before after (fetched.Bytes bytes) = after ≡ before ++ bytes.items
Notes before after fetched.Again = after ≡ before
Notes before after fetched.End = after ≡ before
Notes before after fetched.Failed = after ≡ before
Notes before after fetched.NoMemory = after ≡ before

-- what was handed to the writing thread so far grows by the bytes that an offer took, which are the first of those that were offered
abbrev pub HandsFront : List ℕ → List ℕ → List ℕ → Offered → Type 0
HandsFront before after bytes (offered.Took taken) = after ≡ before ++ take taken bytes
HandsFront before after bytes offered.Failed = after ≡ before

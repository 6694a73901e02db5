-- Programs that were started: what a child shows, and why its calls answer as they do.
use Rattle.std.specs.Prelude.{◌≡◌, ℕ, ℤ, ◌<◌, ◌≤◌, Bool, true, false, List, [], ◌++◌, length, take, drop, Option, None, Some, IfSome, IsSome, IsSomeAnd}
use Rattle.std.specs.Option.{option_map}
use Rattle.outside.specs.Causes.{Rose}
use Rattle.outside.specs.declared.child.Offered.{Offered}
use Rattle.outside.specs.declared.child.Offered.TheVariants as offered
use Rattle.outside.specs.declared.child.Fetched.{Fetched}
use Rattle.outside.specs.declared.child.Fetched.TheVariants as fetched
use Rattle.outside.specs.declared.child.StatusGot.{StatusGot}
use Rattle.outside.specs.declared.child.StatusGot.TheVariants as got

-- how a program stands: what it has to give now, whether it takes anything now, and its status once its output has ended
pub record Stand : Type 0 where
  pub gives : List ℕ
  pub takes : Bool
  pub ended : Option ℤ

-- what every child shows: its events, the text of the command it was started with, the bytes that its offers took, the bytes that its fetches
-- gave, whether a fetch answered `End`, whether it was stopped; and how it stands, or None where it doesn't tell
pub record ChildView : Type 0 where
  pub read_event : ℕ
  pub write_event : ℕ
  pub command : List ℕ
  pub given : List ℕ
  pub fetched : List ℕ
  pub at_end : Bool
  pub stopped : Bool
  pub stand : Option Stand

-- a program went on: what it had to give comes first still, and nothing comes once its output has ended
pub record GoesOn (old new : Stand) : Type 0 where
  pub gives : (more : List ℕ) × (new.gives ≡ old.gives ++ more)
  pub ended : IfSome old.ended (λ status. (new.gives ≡ old.gives) × (new.ended ≡ Some status))

-- whether a child tells stays, and its program went on
abbrev pub StandGoesOn : Option Stand → Option Stand → Type 0
StandGoesOn None new = new ≡ None
StandGoesOn (Some old) new = IsSomeAnd new (GoesOn old)

-- a child shows this, and its program went on
pub record Shows (said new : ChildView) : Type 0 where
  pub shown : new ≡ record said { stand = new.stand }
  pub stand : StandGoesOn said.stand new.stand

-- a child that was just started with this command text
pub record Starts (text : List ℕ) (child : ChildView) : Type 0 where
  pub command : child.command ≡ text
  pub given : child.given ≡ []
  pub fetched : child.fetched ≡ []
  pub at_end : child.at_end ≡ false
  pub stopped : child.stopped ≡ false

-- `offer` took these first bytes, none of them only where there were none or the program takes nothing now
pub record Took (before after : ℕ) (old new : ChildView) (bytes : List ℕ) (count : ℕ) : Type 0 where
  pub faults : after ≡ before
  pub within : count ≤ length bytes
  pub shows : Shows (record old { given = old.given ++ take count bytes }) new
  pub nothing : count ≡ 0 → 0 < length bytes → IfSome old.stand (λ stand. stand.takes ≡ false)

-- a call failed, and took and gave nothing
pub record Fails (before after : ℕ) (old new : ChildView) : Type 0 where
  pub faults : Rose before after
  pub shows : Shows old new

abbrev pub Offers : ℕ → ℕ → ChildView → ChildView → List ℕ → Offered → Type 0
Offers before after old new bytes (offered.Took count) = Took before after old new bytes count
Offers before after old new bytes offered.Failed = Fails before after old new

-- what a child shows once these bytes were fetched from it
abbrev pub after_fetch : ChildView → List ℕ → ChildView
after_fetch old bytes = record old {
  fetched = old.fetched ++ bytes;
  stand = option_map {T = Stand} (λ stand. record stand { gives = drop (length bytes) stand.gives }) old.stand;
}

-- `fetch` gave these bytes, the next ones of what the program has to give
pub record Gave (before after : ℕ) (old new : ChildView) (max : ℕ) (bytes : List ℕ) : Type 0 where
  pub faults : after ≡ before
  pub some : 0 < length bytes
  pub within : length bytes ≤ max
  pub next : IfSome old.stand (λ stand. bytes ≡ take (length bytes) stand.gives)
  pub shows : Shows (after_fetch old bytes) new

-- `fetch` gave nothing: the program has nothing to give now, and its output hasn't ended
pub record Waits (before after : ℕ) (old new : ChildView) : Type 0 where
  pub faults : after ≡ before
  pub nothing : IfSome old.stand (λ stand. (stand.gives ≡ []) × (stand.ended ≡ None))
  pub shows : Shows old new

-- `fetch` told the end: the program's output has ended, and all of it was fetched
pub record Ends (before after : ℕ) (old new : ChildView) : Type 0 where
  pub faults : after ≡ before
  pub nothing : IfSome old.stand (λ stand. (stand.gives ≡ []) × IsSome stand.ended)
  pub shows : Shows (record old { at_end = true }) new

abbrev pub Fetches : ℕ → ℕ → ChildView → ChildView → ℕ → Fetched → Type 0
Fetches before after old new max (fetched.Bytes bytes) = (old.at_end ≡ false) × Gave before after old new max bytes.items
Fetches before after old new max fetched.Again = (old.at_end ≡ false) × Waits before after old new
Fetches before after old new max fetched.End = Ends before after old new
Fetches before after old new max fetched.Failed = (old.at_end ≡ false) × Fails before after old new
Fetches before after old new max fetched.NoMemory = (old.at_end ≡ false) × (after ≡ before) × Shows old new

-- `status` answered the program's own
pub record EndedSo (before after : ℕ) (old new : ChildView) (answer : ℤ) : Type 0 where
  pub faults : after ≡ before
  pub status : IfSome old.stand (λ stand. stand.ended ≡ Some answer)
  pub shows : Shows old new

abbrev pub HasStatus : ℕ → ℕ → ChildView → ChildView → StatusGot → Type 0
HasStatus before after old new (got.Ended status) = EndedSo before after old new status
HasStatus before after old new got.Failed = Fails before after old new

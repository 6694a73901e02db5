-- Bytes of a text that are borrowed from where they stand.
use Rattle.std.specs.Prelude.{◌≡◌, ◌≤◌, ◌+◌, ℕ, List, length, take, drop}
use Rattle.std.specs.declared.borrow.CowSlice.{CowSlice}
use Rattle.std.specs.declared.borrow.CowSlice.TheVariants.{Borrowed, Owned}

-- bytes that are borrowed stand in front of these
abbrev pub IsFrontOf : {Z : Type 0} → CowSlice ℕ Z → List ℕ → Type 0
IsFrontOf (Borrowed content) bytes = (length content.now ≤ length bytes) × (take (length content.now) bytes ≡ content.now)
IsFrontOf (Owned content) bytes = Unit {0}

-- bytes that are borrowed stand behind the first byte of these
abbrev pub Borrows : {Z : Type 0} → CowSlice ℕ Z → List ℕ → Type 0
Borrows (Borrowed content) bytes = (length content.now + 1 ≤ length bytes) × (take (length content.now) (drop 1 bytes) ≡ content.now)
Borrows (Owned content) bytes = Unit {0}

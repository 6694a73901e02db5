-- Reading byte by byte and item by item, as loops do.
use Rattle.std.proofs.Common.{◌≡◌, ℕ, suc, ◌-◌, ◌+◌, ◌≤◌, ◌<◌, List, [], ◌∷◌, ◌++◌, Option, Some, None, refl, sym, ap, ◌∙◌, append_assoc, arith}
use Rattle.std.proofs.lemmas.List.{append-nil}
use Rattle.port_terms.specs.Tree.{Tree}
use Rattle.script_text.specs.declared.fault.PartFault.{PartFault}
use Rattle.script_text.specs.declared.fault.PartFault.TheVariants.{Bad, NoMemory}
use Rattle.script_text.specs.PartFault.{Missed}
use Rattle.script_text.specs.Reading.{◌>>=◌, after, skip, byte_at, content_at, some_at}

-- what was read before, and what is still read
abbrev pub with_front : {A : Type 0} → List A → Option (List A × List ℕ) → Option (List A × List ℕ)
with_front front read = read >>= λ x. Some (front ++ x.0, x.1)

regroup : {A : Type 0} (front : List A) (x : A) (read : Option (List A × List ℕ)) → with_front front (read >>= λ y. Some (x ∷ y.0, y.1)) ≡ with_front (front ++ x ∷ []) read
regroup front x (Some y) = ap (λ (xs : List _). Some (xs, y.1)) (simp append_assoc)
regroup front x None = refl

with_front-last : {A : Type 0} (front : List A) (rest : List ℕ) → with_front front (Some ([], rest)) ≡ Some (front, rest)
with_front-last front rest = ap (λ (xs : List _). Some (xs, rest)) (append-nil front)

-- ---- the bytes of a text

-- a byte was read
pub byte_goes_on : (front : List ℕ) (n i : ℕ) (bytes rest behind : List ℕ) (byte : ℕ) → i < n → after 34 rest ≡ None → byte_at rest ≡ Some (byte, behind)
    → with_front front (content_at (n - i) rest) ≡ content_at n bytes → with_front (front ++ byte ∷ []) (content_at (n - (i + 1)) behind) ≡ content_at n bytes
unfolding content_at
byte_goes_on front n i bytes rest behind byte lt not_closed h so_far =
    let k : n - i ≡ suc (n - (i + 1)) = omega arith in
    let one : with_front front (content_at (n - i) rest) ≡ with_front (front ++ byte ∷ []) (content_at (n - (i + 1)) behind) = rw (k, not_closed, h) (regroup front byte (content_at (n - (i + 1)) behind)) in
    sym one ∙ so_far

-- there is no byte
pub byte_stops : (front : List ℕ) (n i : ℕ) (bytes rest : List ℕ) → i < n → after 34 rest ≡ None → byte_at rest ≡ None
    → with_front front (content_at (n - i) rest) ≡ content_at n bytes → content_at n bytes ≡ None
unfolding content_at
byte_stops front n i bytes rest lt not_closed h so_far =
    let k : n - i ≡ suc (n - (i + 1)) = omega arith in
    let one : with_front front (content_at (n - i) rest) ≡ None = rw (k, not_closed, h) refl in
    sym so_far ∙ one

-- the text is closed
pub byte_last : (front : List ℕ) (n i : ℕ) (bytes rest behind : List ℕ) → i < n → after 34 rest ≡ Some behind
    → with_front front (content_at (n - i) rest) ≡ content_at n bytes → content_at n bytes ≡ Some (front, behind)
unfolding content_at
byte_last front n i bytes rest behind lt closed so_far =
    let k : n - i ≡ suc (n - (i + 1)) = omega arith in
    let one : with_front front (content_at (n - i) rest) ≡ Some (front, behind) = rw (k, closed) (with_front-last front behind) in
    sym so_far ∙ one

-- there are too many bytes
pub byte_past : (front : List ℕ) (n i : ℕ) (bytes rest : List ℕ) → n ≤ i → with_front front (content_at (n - i) rest) ≡ content_at n bytes → content_at n bytes ≡ None
unfolding content_at
byte_past front n i bytes rest le so_far = let k : n - i ≡ 0 = omega arith in
    let one : with_front front (content_at (n - i) rest) ≡ None = rw k refl in
    sym so_far ∙ one

-- ---- the items of a list

abbrev Item : Type 0
Item = List ℕ → Option (Tree × List ℕ)

-- an item was read, and a comma
pub item_goes_on : (item : Item) (close : ℕ) (front : List Tree) (n i : ℕ) (bytes rest behind next : List ℕ) (t : Tree) → i < n → item (skip rest) ≡ Some (t, behind) → after close (skip behind) ≡ None → after 44 (skip behind) ≡ Some next
    → with_front front (some_at item close (n - i) rest) ≡ some_at item close n bytes → with_front (front ++ t ∷ []) (some_at item close (n - (i + 1)) next) ≡ some_at item close n bytes
unfolding some_at
item_goes_on item close front n i bytes rest behind next t lt h not_closed comma so_far =
    let k : n - i ≡ suc (n - (i + 1)) = omega arith in
    let one : with_front front (some_at item close (n - i) rest) ≡ with_front (front ++ t ∷ []) (some_at item close (n - (i + 1)) next) = rw (k, h, not_closed, comma) (regroup front t (some_at item close (n - (i + 1)) next)) in
    sym one ∙ so_far

-- there is no item
pub item_stops : (item : Item) (close : ℕ) (front : List Tree) (n i : ℕ) (bytes rest : List ℕ) → i < n → item (skip rest) ≡ None
    → with_front front (some_at item close (n - i) rest) ≡ some_at item close n bytes → some_at item close n bytes ≡ None
unfolding some_at
item_stops item close front n i bytes rest lt h so_far =
    let k : n - i ≡ suc (n - (i + 1)) = omega arith in
    let one : with_front front (some_at item close (n - i) rest) ≡ None = rw (k, h) refl in
    sym so_far ∙ one

-- an item was read, and neither a comma nor what closes the list
pub item_alone : (item : Item) (close : ℕ) (front : List Tree) (n i : ℕ) (bytes rest behind : List ℕ) (t : Tree) → i < n → item (skip rest) ≡ Some (t, behind) → after close (skip behind) ≡ None → after 44 (skip behind) ≡ None
    → with_front front (some_at item close (n - i) rest) ≡ some_at item close n bytes → some_at item close n bytes ≡ None
unfolding some_at
item_alone item close front n i bytes rest behind t lt h not_closed no_comma so_far =
    let k : n - i ≡ suc (n - (i + 1)) = omega arith in
    let one : with_front front (some_at item close (n - i) rest) ≡ None = rw (k, h, not_closed, no_comma) refl in
    sym so_far ∙ one

-- an item was read, and what closes the list
pub item_last : (item : Item) (close : ℕ) (front : List Tree) (n i : ℕ) (bytes rest behind next : List ℕ) (t : Tree) → i < n → item (skip rest) ≡ Some (t, behind) → after close (skip behind) ≡ Some next
    → with_front front (some_at item close (n - i) rest) ≡ some_at item close n bytes → some_at item close n bytes ≡ Some (front ++ t ∷ [], next)
unfolding some_at
item_last item close front n i bytes rest behind next t lt h closed so_far =
    let k : n - i ≡ suc (n - (i + 1)) = omega arith in
    let one : with_front front (some_at item close (n - i) rest) ≡ Some (front ++ t ∷ [], next) = rw (k, h, closed) refl in
    sym so_far ∙ one

-- there are too many items
pub item_past : (item : Item) (close : ℕ) (front : List Tree) (n i : ℕ) (bytes rest : List ℕ) → n ≤ i → with_front front (some_at item close (n - i) rest) ≡ some_at item close n bytes → some_at item close n bytes ≡ None
unfolding some_at
item_past item close front n i bytes rest le so_far =
    let k : n - i ≡ 0 = omega arith in
    let one : with_front front (some_at item close (n - i) rest) ≡ None = rw k refl in
    sym so_far ∙ one

-- what was not read stops the whole
pub missed_stops : {Y Y' : Type 0} (fault : PartFault) (read : Option Y) (whole : Option Y') → Missed fault read → (read ≡ None → whole ≡ None) → Missed fault whole
missed_stops Bad read whole missed stops = stops missed
missed_stops NoMemory read whole missed stops = tt

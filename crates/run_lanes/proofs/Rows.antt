-- Rows, of which the last places are taken off one after another.
use Rattle.std.proofs.Common.{◌≡◌, ◌≢◌, ◌<◌, ◌≤◌, ◌+◌, ◌-◌, ℕ, List, [], ◌∷◌, ◌++◌, length, map, take, set, get_or, reverse, sym, refl, ap, ◌∙◌, arith, length-set, get_or-set_same, get_or-set_other, ⊎_elim}
use Rattle.std.proofs.lemmas.Bool.{cases_lt}
use Rattle.std.proofs.lemmas.List.{map-set, get_or-map, get_or-take, get_or_default, get_or_push, get_or_append_left, get_or-reverse, length-take-le, length-reverse, take-take, length_push, take_all, map_push, reverse-append}
use Rattle.run_lanes.specs.Rows.{AreColumns, AreRows, TakesColumn}

-- the list with one row changed
pub set_row : {V X : Type 0} (items : V → List X) (xs : List V) (n : ℕ) (x y : V) → n < length xs → x ≡ get_or xs n x → items y ≡ take (length (items x) - 1) (items x)
    → map items (set xs n y) ≡ set (map items xs) n (take (length (get_or (map items xs) n []) - 1) (get_or (map items xs) n []))
set_row items xs n x y within is popped =
    let row : get_or (map items xs) n [] ≡ items x = get_or-map items xs n x [] within ∙ ap items (sym is) in
    map-set items xs n y ∙ ap (set (map items xs) n) (popped ∙ ap (λ r. take (length r - 1) r) (sym row))

pub map_reverse : {V W : Type 0} (f : V → W) (xs : List V) → map f (reverse xs) ≡ reverse (map f xs)
map_reverse f [] = refl
map_reverse f (x ∷ xs) =
    ap (map f) (reverse-append (x ∷ []) xs) ∙ map_push f (reverse xs) x ∙ ap (λ l. l ++ f x ∷ []) (map_reverse f xs) ∙ sym (reverse-append (f x ∷ []) (map f xs))

module _ {X : Type 0} where
  -- the last place was taken off each row below this one, and the others are as they were
  pub record TakesBelow (last at : ℕ) (old new : List (List X)) (column : List X) : Type 0 where
    pub many : length new ≡ length old
    pub long : length column ≡ at
    pub taken : (r : ℕ) (e : List X) (x y : X) → r < at → get_or column r x ≡ get_or (get_or old r e) last y
    pub rest : (r : ℕ) (d e : List X) → r < at → get_or new r d ≡ take last (get_or old r e)
    pub others : (r : ℕ) (d : List X) → at ≤ r → get_or new r d ≡ get_or old r d

  pub takes_none : (last : ℕ) (rows : List (List X)) → TakesBelow last 0 rows rows []
  takes_none last rows = record {
    many = refl;
    long = refl;
    taken = λ r e x y below. absurd (omega arith);
    rest = λ r d e below. absurd (omega arith);
    others = λ r d above. refl;
  }

  pub takes_more : (last at : ℕ) (old new new' : List (List X)) (column : List X) (x : X) → at < length old → AreRows (last + 1) old → TakesBelow last at old new column
      → new' ≡ set new at (take (length (get_or new at []) - 1) (get_or new at [])) → ((y : X) → x ≡ get_or (get_or new at []) (length (get_or new at []) - 1) y)
      → TakesBelow last (at + 1) old new' (column ++ x ∷ [])
  takes_more last at old new new' column x within rows before step popped =
      let row : (e : List X) → get_or new at [] ≡ get_or old at e = λ e. before.others at [] (omega arith) ∙ get_or_default old at [] e within in
      let many : (e : List X) → length (get_or new at []) - 1 ≡ last = λ e. (let l = ap length (row []) in let k = rows.long at [] within in omega arith) in
      let room : at < length new = (let m = before.many in omega arith) in
      record {
        many = ap length step ∙ length-set new at (take (length (get_or new at []) - 1) (get_or new at [])) ∙ before.many;
        long = length_push column x ∙ ap (λ n. n + 1) before.long;
        taken = λ r e d y below. ⊎_elim
            (λ (less : r < at). get_or_append_left column (x ∷ []) d r (let l = before.long in omega arith) ∙ before.taken r e d y less)
            (λ (more : at ≤ r).
            let same : r ≡ at = omega arith in
            get_or_push column x d r (before.long ∙ sym same) ∙ popped y ∙ (λ i. get_or (row e i) (many e i) y) ∙ ap (λ n. get_or (get_or old n e) last y) (sym same))
            (cases_lt r at);
        rest = λ r d e below. ⊎_elim
            (λ (less : r < at).
            let ne : r ≢ at = omega arith in
            ap (λ l. get_or l r d) step ∙ get_or-set_other new at r _ d ne ∙ before.rest r d e less)
            (λ (more : at ≤ r).
            let same : r ≡ at = omega arith in
            ap (λ l. get_or l r d) step ∙ ap (λ n. get_or (set new at (take (length (get_or new at []) - 1) (get_or new at []))) n d) same
            ∙ get_or-set_same new at (take (length (get_or new at []) - 1) (get_or new at [])) d room ∙ (λ i. take (many e i) (row e i)) ∙ ap (λ n. take last (get_or old n e)) (sym same))
            (cases_lt r at);
        others = λ r d above.
            let ne : r ≢ at = omega arith in
            ap (λ l. get_or l r d) step ∙ get_or-set_other new at r _ d ne ∙ before.others r d (omega arith);
      }

  pub takes_all : (last at : ℕ) (old new : List (List X)) (column : List X) → at ≡ length old → TakesBelow last at old new column → TakesColumn last old new column
  takes_all last at old new column all takes = record {
    many = takes.many;
    long = takes.long ∙ all;
    at = λ r e x y below. takes.taken r e x y (omega arith);
    rest = λ r d e below. takes.rest r d e (omega arith);
  }

  -- so many columns were taken off, the last one first
  pub record HasTaken (width done : ℕ) (old new columns : List (List X)) : Type 0 where
    pub many : length new ≡ length old
    pub columns_many : length columns ≡ done
    pub rest : (r : ℕ) (d e : List X) → r < length old → get_or new r d ≡ take (width - done) (get_or old r e)
    pub long : (c : ℕ) (d : List X) → c < done → length (get_or columns c d) ≡ length old
    pub at : (c r : ℕ) (d e : List X) (x y : X) → c < done → r < length old → get_or (get_or columns c d) r x ≡ get_or (get_or old r e) (width - 1 - c) y

  pub taken_none : (width : ℕ) (rows : List (List X)) → AreRows width rows → HasTaken width 0 rows rows []
  taken_none width rows are = record {
    many = refl;
    columns_many = refl;
    rest = λ r d e below. get_or_default rows r d e below ∙ sym (take_all (width - 0) (get_or rows r e) (let l = are.long r e below in omega arith));
    long = λ c d below. absurd (omega arith);
    at = λ c r d e x y below within. absurd (omega arith);
  }

  -- what is left are rows again
  pub left_rows : (width done : ℕ) (old new columns : List (List X)) → done < width → AreRows width old → HasTaken width done old new columns → AreRows ((width - 1 - done) + 1) new
  left_rows width done old new columns some are before = record {
    long = λ r d below.
        let within : r < length old = (let m = before.many in omega arith) in
        ap length (before.rest r d [] within) ∙ length-take-le (width - done) (get_or old r []) (let l = are.long r [] within in omega arith) ∙ omega arith;
  }

  pub taken_more : (width done : ℕ) (old new new' columns : List (List X)) (column : List X) → done < width → HasTaken width done old new columns → TakesColumn (width - 1 - done) new new' column
      → HasTaken width (done + 1) old new' (columns ++ column ∷ [])
  taken_more width done old new new' columns column some before takes = record {
    many = takes.many ∙ before.many;
    columns_many = length_push columns column ∙ ap (λ n. n + 1) before.columns_many;
    rest = λ r d e below.
        let within : r < length new = (let m = before.many in omega arith) in
        takes.rest r d [] within ∙ ap (take (width - 1 - done)) (before.rest r [] e below) ∙ take-take (width - 1 - done) (width - done) (get_or old r e) (omega arith)
        ∙ ap (λ n. take n (get_or old r e)) (let s : width - 1 - done ≡ width - (done + 1) = omega arith in s);
    long = λ c d below. ⊎_elim
        (λ (less : c < done). ap length (get_or_append_left columns (column ∷ []) d c (let l = before.columns_many in omega arith)) ∙ before.long c d less)
        (λ (more : done ≤ c). ap length (get_or_push columns column d c (before.columns_many ∙ (let s : done ≡ c = omega arith in s))) ∙ takes.long ∙ before.many)
        (cases_lt c done);
    at = λ c r d e x y below within. ⊎_elim
        (λ (less : c < done). ap (λ l. get_or l r x) (get_or_append_left columns (column ∷ []) d c (let l = before.columns_many in omega arith)) ∙ before.at c r d e x y less within)
        (λ (more : done ≤ c).
        let same : c ≡ done = omega arith in
        let inside : r < length new = (let m = before.many in omega arith) in
        ap (λ l. get_or l r x) (get_or_push columns column d c (before.columns_many ∙ sym same)) ∙ takes.at r [] x y inside ∙ ap (λ l. get_or l (width - 1 - done) y) (before.rest r [] e within)
        ∙ get_or-take (width - done) (get_or old r e) (width - 1 - done) y (omega arith) ∙ ap (λ n. get_or (get_or old r e) (width - 1 - n) y) (sym same))
        (cases_lt c done);
  }

  pub columns_of : (width done : ℕ) (old new columns columns' : List (List X)) → done ≡ width → HasTaken width done old new columns → columns' ≡ reverse columns → AreColumns width old columns'
  columns_of width done old new columns columns' all taken turned = record {
    many = ap length turned ∙ length-reverse columns ∙ taken.columns_many ∙ all;
    long = λ c d below.
        ap (λ l. length (get_or l c d)) turned ∙ ap length (get_or-reverse columns c d (let m = taken.columns_many in omega arith)) ∙ taken.long (length columns - 1 - c) d (let m = taken.columns_many in omega arith);
    at = λ c r d e x y below within.
        ap (λ l. get_or (get_or l c d) r x) turned ∙ ap (λ l. get_or l r x) (get_or-reverse columns c d (let m = taken.columns_many in omega arith))
        ∙ taken.at (length columns - 1 - c) r d e x y (let m = taken.columns_many in omega arith) within
        ∙ ap (λ n. get_or (get_or old r e) n y) (let m = taken.columns_many in let s : width - 1 - (length columns - 1 - c) ≡ c = omega arith in s);
  }

  -- each row that wasn't cut has a last place
  pub has_last : (last at : ℕ) (old new : List (List X)) (column : List X) → at < length old → AreRows (last + 1) old → TakesBelow last at old new column → 0 < length (get_or new at [])
  has_last last at old new column within rows before = let l = ap length (before.others at [] (omega arith)) in let k = rows.long at [] within in omega arith

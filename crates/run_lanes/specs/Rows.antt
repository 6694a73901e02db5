-- Rows and columns of the same things.
use Rattle.std.specs.Prelude.{◌≡◌, ◌<◌, ℕ, List, length, slice_index_or, take}

module _ {X : Type 0} where
  -- so many columns, each of which has what the rows have at its place, in the order of the rows
  pub record AreColumns (width : ℕ) (rows columns : List (List X)) : Type 0 where
    pub many : length columns ≡ width
    pub long : (c : ℕ) (d : List X) → c < width → length (slice_index_or columns c d) ≡ length rows
    pub at : (c r : ℕ) (d e : List X) (x y : X) → c < width → r < length rows
        → slice_index_or (slice_index_or columns c d) r x ≡ slice_index_or (slice_index_or rows r e) c y

  -- what the rows have at this place, in the order of the rows
  pub record IsColumn (place : ℕ) (rows : List (List X)) (column : List X) : Type 0 where
    pub many : length column ≡ length rows
    pub at : (r : ℕ) (row : List X) (x y : X) → r < length rows → slice_index_or column r x ≡ slice_index_or (slice_index_or rows r row) place y

  -- each row has so many
  pub record AreRows (width : ℕ) (rows : List (List X)) : Type 0 where
    pub long : (r : ℕ) (d : List X) → r < length rows → length (slice_index_or rows r d) ≡ width

  -- the last place of each row was taken off
  pub record TakesColumn (last : ℕ) (old new : List (List X)) (column : List X) : Type 0 where
    pub many : length new ≡ length old
    pub long : length column ≡ length old
    pub at : (r : ℕ) (e : List X) (x y : X) → r < length old → slice_index_or column r x ≡ slice_index_or (slice_index_or old r e) last y
    pub rest : (r : ℕ) (d e : List X) → r < length old → slice_index_or new r d ≡ take last (slice_index_or old r e)

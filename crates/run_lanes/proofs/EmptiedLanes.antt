-- Rows of ends that become columns, each of which is taken in.
use Rattle.std.proofs.Common.{◌≡◌, ◌<◌, ◌≤◌, ◌+◌, ℕ, List, [], ◌∷◌, ◌++◌, length, map, take, drop, get_or, sym, refl, ap, ◌∙◌, subst, arith, append_assoc, ⊎_elim}
use Rattle.std.proofs.lemmas.Bool.{cases_lt}
use Rattle.std.proofs.lemmas.List.{drop_all, drop_more, get_or-take, get_or_append_left, get_or_push, length-take-le, length_push, map-append, take-append-drop}
use Rattle.task_queue.specs.Ends.{Sending, Taking, LaneId, ended_of}
use Rattle.run_lanes.specs.Ends.{taken_in, AreLaneColumns, AreLaneRows, AreOfLanes, Emptied, HaveEmptied}
use Rattle.run_lanes.specs.Places.{ChangesEach}
use Rattle.run_lanes.specs.Rows.{AreColumns, AreRows, IsColumn}

module _ {X : Type 0} where
  pub column_of : (width : ℕ) (rows columns : List (List X)) → AreColumns width rows columns → (c : ℕ) (d : List X) → c < width → IsColumn c rows (get_or columns c d)
  column_of width rows columns turned c d below = record { many = turned.long c d below; at = λ r row x y within. turned.at c r d row x y below within }

  -- a column of rows with a last one behind is one of the rows, and what the last one has there
  pub column_front : (place : ℕ) (rows : List (List X)) (last column : List X) → IsColumn place (rows ++ last ∷ []) column → IsColumn place rows (take (length rows) column)
  column_front place rows last column is =
      let many = length_push rows last in
      let long = is.many in
      record {
        many = length-take-le (length rows) column (omega arith);
        at = λ r row x y below. get_or-take (length rows) column r x below ∙ is.at r row x y (omega arith) ∙ ap (λ l. get_or l place y) (get_or_append_left rows (last ∷ []) row r below);
      }

  pub column_last : (place : ℕ) (rows : List (List X)) (last column : List X) → IsColumn place (rows ++ last ∷ []) column → (d : X) → column ≡ take (length rows) column ++ get_or last place d ∷ []
  column_last place rows last column is d =
      let many = length_push rows last in
      let long = is.many in
      let at : get_or column (length rows) d ≡ get_or last place d =
      is.at (length rows) [] d d (omega arith) ∙ ap (λ l. get_or l place d) (get_or_push rows last [] (length rows) refl) in
      sym (take-append-drop (length rows) column)
      ∙ ap (λ l. take (length rows) column ++ l) (drop_more column (length rows) d (omega arith) ∙ ap (λ x. x ∷ drop (length rows + 1) column) at
      ∙ ap (λ l. get_or last place d ∷ l) (drop_all (length rows + 1) column (omega arith)))

-- where the rows have ends of these lanes, so have the columns
pub lanes_of_column : {T K X : Type 0} (lane_of : X → LaneId) (takers : List X) (rows columns : List (List (Sending T K)))
    → ((r lane : ℕ) (row : List (Sending T K)) (t : X) (d : Sending T K) → r < length rows → lane < length takers → (get_or (get_or rows r row) lane d).lane ≡ lane_of (get_or takers lane t))
    → AreColumns (length takers) rows columns → (lane : ℕ) (t : X) (column : List (Sending T K)) (q : ℕ) (d : Sending T K) → lane < length takers → q < length (get_or columns lane column)
    → (get_or (get_or columns lane column) q d).lane ≡ lane_of (get_or takers lane t)
lanes_of_column lane_of takers rows columns lanes turned lane t column q d below within =
    let inside : q < length rows = (let l = turned.long lane column below in omega arith) in
    ap (λ e. e.lane) (turned.at lane q column [] d d below inside) ∙ lanes q lane [] t d inside below

module _ {T K : Type 0} where
  pub lane_rows : (takers : List (Taking T K)) (rows : List (List (Sending T K))) → AreLaneRows takers rows → AreRows (length takers) rows
  lane_rows takers rows are = record { long = are.long }

  pub lane_columns : (takers : List (Taking T K)) (rows columns : List (List (Sending T K))) → AreLaneRows takers rows → AreColumns (length takers) rows columns → AreLaneColumns takers columns
  lane_columns takers rows columns are turned = record {
    many = turned.many;
    lanes = λ lane t column below q d within. lanes_of_column (λ u. u.lane) takers rows columns are.lanes turned lane t column q d below within;
  }

  -- one more row
  pub lane_rows_more : (takers : List (Taking T K)) (rows : List (List (Sending T K))) (last : List (Sending T K)) → AreLaneRows takers rows → AreOfLanes takers last → AreLaneRows takers (rows ++ last ∷ [])
  lane_rows_more takers rows last are more =
      let many = length_push rows last in
      record {
        long = λ r row below. ⊎_elim
            (λ (less : r < length rows). ap length (get_or_append_left rows (last ∷ []) row r less) ∙ are.long r row less)
            (λ (end : length rows ≤ r). ap length (get_or_push rows last row r (omega arith)) ∙ more.many)
            (cases_lt r (length rows));
        lanes = λ r lane row t d below within. ⊎_elim
            (λ (less : r < length rows). ap (λ l. (get_or l lane d).lane) (get_or_append_left rows (last ∷ []) row r less) ∙ are.lanes r lane row t d less within)
            (λ (end : length rows ≤ r). ap (λ l. (get_or l lane d).lane) (get_or_push rows last row r (omega arith)) ∙ more.each lane t d within)
            (cases_lt r (length rows));
      }

  pub emptied_all : (fits : K → ℕ → T → Type 0) (old new : List (Taking T K)) (rows columns : List (List (Sending T K))) (last : List (Sending T K)) → AreColumns (length old) (rows ++ last ∷ []) columns
      → ChangesEach (λ lane was now. Emptied fits (taken_in was (get_or columns lane [])) now) old new → HaveEmptied fits rows last old new
  emptied_all fits old new rows columns last turned changes = record {
    many = changes.many;
    each = λ lane t u d below.
        let was = get_or old lane t in
        let now = get_or new lane u in
        let column = get_or columns lane [] in
        let is = column_of (length old) (rows ++ last ∷ []) columns turned lane [] below in
        let ends = take (length rows) column in
        record {
          ends = ends;
          column = column_front lane rows last column is;
          emptied = subst (λ l. Emptied fits (record was { ended = l }) now)
              (ap (λ l. was.ended ++ map ended_of l) (column_last lane rows last column is d) ∙ ap (λ l. was.ended ++ l) (map-append ended_of ends (get_or last lane d ∷ []))
              ∙ sym (append_assoc was.ended (map ended_of ends) (ended_of (get_or last lane d) ∷ []))) (changes.each lane t u below);
        };
  }

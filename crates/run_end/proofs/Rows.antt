-- Ports that take in their seats, one after another.
use Rattle.std.proofs.Common.{◌≡◌, ◌≢◌, ◌<◌, ◌≤◌, ◌+◌, ℕ, List, [], length, get_or, set, sym, refl, ◌∙◌, subst, arith, length-set, get_or-set_same, get_or-set_other, ⊎_elim}
use Rattle.std.proofs.lemmas.Bool.{cases_lt}
use Rattle.port_words.specs.busy.Known.{PortKnown, SendKnown}
use Rattle.run_lanes.specs.Rows.{AreRows, AreColumns}
use Rattle.run_end.specs.Words.{HasJoined, IsOfTable}
use Rattle.run_end.specs.Rows.{AreSeatRows, AreSeatsOfPorts, JoinsAt, JoinsEach, HaveJoinedRows}

-- one port was set to what took in these
pub joins_at : (place : ℕ) (seats : List SendKnown) (old new : List PortKnown) (was now : PortKnown) → place < length old → ((d : PortKnown) → was ≡ get_or old place d) → new ≡ set old place now
    → HasJoined was seats now → JoinsAt place seats old new
joins_at place seats old new was now within is e joined = subst (JoinsAt place seats old) (sym e) (record {
  many = length-set old place now;
  here = λ d f. subst (HasJoined (get_or old place d) seats) (sym (get_or-set_same old place now f within)) (subst (λ p. HasJoined p seats now) (is d) joined);
  others = λ k d ne. get_or-set_other old place k now d ne;
})

-- the ports below this place took in their seats, and the others are as they were
pub record JoinsBelow (at : ℕ) (old : List PortKnown) (columns : List (List SendKnown)) (new : List PortKnown) : Type 0 where
  pub many : length new ≡ length old
  pub below : (k : ℕ) (d e : PortKnown) (column : List SendKnown) → k < at → HasJoined (get_or old k d) (get_or columns k column) (get_or new k e)
  pub above : (k : ℕ) (d : PortKnown) → at ≤ k → get_or new k d ≡ get_or old k d

pub joins_none : (ports : List PortKnown) (columns : List (List SendKnown)) → JoinsBelow 0 ports columns ports
joins_none ports columns = record { many = refl; below = λ k d e column under. absurd (omega arith); above = λ k d over. refl }

pub joins_more : (at : ℕ) (old new new' : List PortKnown) (columns : List (List SendKnown)) (seats : List SendKnown) → at < length old → ((column : List SendKnown) → seats ≡ get_or columns at column)
    → JoinsBelow at old columns new → JoinsAt at seats new new' → JoinsBelow (at + 1) old columns new'
joins_more at old new new' columns seats within is before step = record {
  many = step.many ∙ before.many;
  below = λ k d e column under. ⊎_elim
      (λ (less : k < at).
      let ne : k ≢ at = omega arith in
      subst (HasJoined (get_or old k d) (get_or columns k column)) (sym (step.others k e ne)) (before.below k d e column less))
      (λ (more : at ≤ k).
      let same : at ≡ k = omega arith in
      subst (λ n. HasJoined (get_or old n d) (get_or columns n column) (get_or new' n e)) same
      (subst (λ p. HasJoined p (get_or columns at column) (get_or new' at e)) (before.above at d (omega arith))
      (subst (λ l. HasJoined (get_or new at d) l (get_or new' at e)) (is column) (step.here d e))))
      (cases_lt k at);
  above = λ k d over.
      let ne : k ≢ at = omega arith in
      step.others k d ne ∙ before.above k d (omega arith);
}

pub joins_all : (at : ℕ) (old new : List PortKnown) (columns : List (List SendKnown)) → at ≡ length old → JoinsBelow at old columns new → JoinsEach old columns new
joins_all at old new columns all joins = record { many = joins.many; each = λ k d e column within. joins.below k d e column (omega arith) }

-- the rows have a place for each port
pub seat_rows : (ports : List PortKnown) (rows : List (List SendKnown)) → AreSeatRows ports rows → AreRows (length ports) rows
seat_rows ports rows are = record { long = are.long }

-- their columns are the seats of the ports
pub seat_columns : (ports : List PortKnown) (rows columns : List (List SendKnown)) → AreSeatRows ports rows → AreColumns (length ports) rows columns → AreSeatsOfPorts ports columns
seat_columns ports rows columns are turned = record {
  many = turned.many;
  tables = λ k d column below r x within.
      let inside : r < length rows = (let l = turned.long k column below in omega arith) in
      subst (IsOfTable (get_or ports k d)) (sym (turned.at k r column [] x x below inside)) (are.tables r k [] d x inside below);
}

pub joined_rows : (old new : List PortKnown) (rows columns : List (List SendKnown)) → AreColumns (length old) rows columns → JoinsEach old columns new → HaveJoinedRows old rows new
joined_rows old new rows columns turned joins = record {
  many = joins.many;
  each = λ k d e below. record {
    seats = get_or columns k [];
    column = record { many = turned.long k [] below; at = λ r row x y within. turned.at k r [] row x y below within };
    joined = joins.each k d e [] below;
  };
}

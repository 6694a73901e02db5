-- The ends of lanes, as they are made.
use Rattle.std.proofs.Common.{◌≡◌, ◌<◌, ◌≤◌, ◌+◌, ℕ, List, [], ◌∷◌, ◌++◌, length, map, get_or, sym, refl, ap, ◌∙◌, subst, arith, append_assoc, length-append, ⊎_elim}
use Rattle.std.proofs.lemmas.Bool.{cases_lt}
use Rattle.std.proofs.lemmas.List.{get_or_append_left, get_or_push, get_or-append-add, get_or-map, length-map, length_push}
use Rattle.task_queue.specs.Items.{of}
use Rattle.task_queue.specs.Ends.{Sending, Taking, ended_of}
use Rattle.run_lanes.specs.Rows.{AreRows, AreColumns}
use Rattle.run_lanes.specs.Ends.{AreAllEnds, AreAllRows, AreEndColumns, AllOfEachIsTaken}

module _ {T K : Type 0} where
  -- so many ends were split off the first, and stand by their numbers from 1
  pub record AreOthers (old : Sending T K) (made : ℕ) (others : List (Sending T K)) : Type 0 where
    pub many : length others + 1 ≡ made
    pub each : (k : ℕ) (d : Sending T K) → k < length others → get_or others k d ≡ record old { number = k + 1; made = 0; sent = [] }

  pub rows_none : (ends : ℕ) → AreAllRows {T = T} {K = K} [] ends []
  rows_none ends = record { many = refl; each = λ lane t d below. absurd (omega arith) }

  pub rows_more : (takers : List (Taking T K)) (t : Taking T K) (ends : ℕ) (rows : List (List (Sending T K))) (row : List (Sending T K))
      → AreAllRows takers ends rows → AreAllEnds t ends row → AreAllRows (takers ++ t ∷ []) ends (rows ++ row ∷ [])
  rows_more takers t ends rows row before more = record {
    many = length_push rows row ∙ ap (λ n. n + 1) before.many ∙ sym (length_push takers t);
    each = λ lane u d below. ⊎_elim
        (λ (less : lane < length takers).
        subst (λ w. AreAllEnds w ends (get_or (rows ++ row ∷ []) lane d)) (sym (get_or_append_left takers (t ∷ []) u lane less))
        (subst (AreAllEnds (get_or takers lane u) ends) (sym (get_or_append_left rows (row ∷ []) d lane (let m = before.many in omega arith))) (before.each lane u d less)))
        (λ (last : length takers ≤ lane).
        let at : length takers ≡ lane = (let m = length_push takers t in omega arith) in
        subst (λ w. AreAllEnds w ends (get_or (rows ++ row ∷ []) lane d)) (sym (get_or_push takers t u lane at))
        (subst (AreAllEnds t ends) (sym (get_or_push rows row d lane (before.many ∙ at))) more))
        (cases_lt lane (length takers));
  }

  pub rows_are : (takers : List (Taking T K)) (ends : ℕ) (rows : List (List (Sending T K))) → AreAllRows takers ends rows → AreRows ends rows
  rows_are [] ends rows all = record { long = λ r d below. absurd (let m = all.many in omega arith) }
  rows_are (t ∷ takers) ends rows all = record { long = λ r d below. (all.each r t d (let m = all.many in omega arith)).many }

  pub columns_are : (takers : List (Taking T K)) (ends : ℕ) (rows columns : List (List (Sending T K))) → AreAllRows takers ends rows → AreColumns ends rows columns → AreEndColumns takers ends columns
  columns_are takers ends rows columns all are = record {
    many = are.many;
    long = λ number d below. are.long number d below ∙ all.many;
    each = λ number t d below. record {
      many = are.long number d below ∙ all.many;
      each = λ lane e within. are.at number lane d [] e e below (let m = all.many in omega arith) ∙ (all.each lane t [] within).each number e below;
    };
  }

-- one list after another
pub ended_next : {T K : Type 0} (taker : Taking T K) (end : Sending T K) (rest ends : List (Sending T K)) → ends ≡ end ∷ rest
    → taker.ended ++ map ended_of ends ≡ (taker.ended ++ ended_of end ∷ []) ++ map ended_of rest
ended_next taker end rest ends is = ap (λ l. taker.ended ++ map ended_of l) is ∙ sym (append_assoc taker.ended (ended_of end ∷ []) (map ended_of rest))

pub each_is_taken : {T K : Type 0} → AllOfEachIsTaken T K
each_is_taken old new ends later is took = λ k d below.
    let at = length old.ended + k in
    let front = length-append old.ended (map ended_of ends) in
    let many = length-map ends ended_of in
    let all = ap length is in
    let rest = length-append (old.ended ++ map ended_of ends) later in
    let here : get_or new.ended at (ended_of d) ≡ ended_of (get_or ends k d) =
    ap (λ l. get_or l at (ended_of d)) is ∙ get_or_append_left (old.ended ++ map ended_of ends) later (ended_of d) at (omega arith)
    ∙ get_or-append-add old.ended (map ended_of ends) k (ended_of d) ∙ get_or-map ended_of ends k d (ended_of d) below in
    subst (λ e. of e.number new.taken ≡ e.sent) here (took at (ended_of d) (omega arith))

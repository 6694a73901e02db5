-- The words of ports, as they are made and dealt.
use Rattle.std.proofs.Common.{◌≡◌, ◌<◌, ◌≤◌, ◌+◌, ℕ, zero, suc, false, List, [], ◌∷◌, ◌++◌, length, get_or, sym, refl, ap, ◌∙◌, subst, arith, ⊎_elim}
use Rattle.std.proofs.lemmas.Bool.{cases_lt}
use Rattle.std.proofs.lemmas.List.{get_or_append_left, get_or_push, length_push}
use Rattle.atomic_table.specs.Seated.{TableId}
use Rattle.port_words.specs.declared.busy.view.QueueLimits.{QueueLimits}
use Rattle.port_words.specs.declared.busy.view.BusySetup.{BusySetup}
use Rattle.port_words.specs.busy.Views.{fresh_sender}
use Rattle.port_words.specs.busy.Known.{PortKnown, SendKnown, send_known, fresh_seats, setup_of, AreSeatsOf}
use Rattle.run_lanes.specs.Rows.{AreRows, AreColumns}
use Rattle.run_lanes.specs.Words.{AreTables, AreWords}

seats_many : (table : TableId) (setup : BusySetup) (n count : ℕ) → length (fresh_seats table setup n count) ≡ count
seats_many table setup n zero = refl
seats_many table setup n (suc count) = ap suc (seats_many table setup (n + 1) count)

seat_at : (table : TableId) (setup : BusySetup) (n count k : ℕ) (d : SendKnown) → k < count → get_or (fresh_seats table setup n count) k d ≡ send_known table setup (fresh_sender (n + k))
seat_at table setup n zero k d below = absurd (omega arith)
seat_at table setup n (suc count) zero d below = ap (λ m. send_known table setup (fresh_sender m)) (let e : n ≡ n + 0 = omega arith in e)
seat_at table setup n (suc count) (suc k) d below =
    seat_at table setup (n + 1) count k d (omega arith) ∙ ap (λ m. send_known table setup (fresh_sender m)) (let e : n + 1 + k ≡ n + suc k = omega arith in e)

pub tables_none : (senders : ℕ) → AreTables [] senders [] []
tables_none senders = record { many = refl; rows_many = refl; each = λ port l s r below. absurd (omega arith) }

pub tables_more : (limits : List QueueLimits) (limit : QueueLimits) (senders : ℕ) (seats : List PortKnown) (seat : PortKnown) (rows : List (List SendKnown)) (row : List SendKnown)
    → AreTables limits senders seats rows → AreSeatsOf (setup_of limit senders) seat row → AreTables (limits ++ limit ∷ []) senders (seats ++ seat ∷ []) (rows ++ row ∷ [])
tables_more limits limit senders seats seat rows row before more = record {
  many = length_push seats seat ∙ ap (λ n. n + 1) before.many ∙ sym (length_push limits limit);
  rows_many = length_push rows row ∙ ap (λ n. n + 1) before.rows_many ∙ sym (length_push limits limit);
  each = λ port l s r below. ⊎_elim
      (λ (less : port < length limits).
      subst (λ m. AreSeatsOf (setup_of m senders) (get_or (seats ++ seat ∷ []) port s) (get_or (rows ++ row ∷ []) port r)) (sym (get_or_append_left limits (limit ∷ []) l port less))
      (subst (λ m. AreSeatsOf (setup_of (get_or limits port l) senders) m (get_or (rows ++ row ∷ []) port r)) (sym (get_or_append_left seats (seat ∷ []) s port (let m = before.many in omega arith)))
      (subst (AreSeatsOf (setup_of (get_or limits port l) senders) (get_or seats port s)) (sym (get_or_append_left rows (row ∷ []) r port (let m = before.rows_many in omega arith)))
      (before.each port l s r less))))
      (λ (last : length limits ≤ port).
      let at : length limits ≡ port = (let m = length_push limits limit in omega arith) in
      subst (λ m. AreSeatsOf (setup_of m senders) (get_or (seats ++ seat ∷ []) port s) (get_or (rows ++ row ∷ []) port r)) (sym (get_or_push limits limit l port at))
      (subst (λ m. AreSeatsOf (setup_of limit senders) m (get_or (rows ++ row ∷ []) port r)) (sym (get_or_push seats seat s port (before.many ∙ at)))
      (subst (AreSeatsOf (setup_of limit senders) seat) (sym (get_or_push rows row r port (before.rows_many ∙ at))) more)))
      (cases_lt port (length limits));
}

pub tables_rows : (limits : List QueueLimits) (senders : ℕ) (seats : List PortKnown) (rows : List (List SendKnown)) → AreTables limits senders seats rows → AreRows senders rows
tables_rows [] senders seats rows are = record { long = λ r d below. absurd (let m = are.rows_many in omega arith) }
tables_rows (l ∷ limits) senders [] rows are = absurd (let m = are.many in omega arith)
tables_rows (l ∷ limits) senders (s ∷ seats) rows are = record {
  long = λ r d below.
      let of = are.each r l s d (let m = are.rows_many in omega arith) in
      ap length of.senders_are ∙ seats_many (get_or (s ∷ seats) r s).table (setup_of (get_or (l ∷ limits) r l) senders) 0 senders;
}

pub no_limits : QueueLimits
no_limits = record { on = false; low = 0; high = 0 }

pub words_are : (limits : List QueueLimits) (senders : ℕ) (seats : List PortKnown) (rows columns : List (List SendKnown)) → AreTables limits senders seats rows → AreColumns senders rows columns
    → AreWords limits senders seats columns
words_are limits senders seats rows columns are dealt = record {
  many = are.many;
  senders_many = dealt.many;
  long = λ sender d within. dealt.long sender d within ∙ are.rows_many;
  ports = λ port l s below. record { known = ap (λ k. k.known) (are.each port l s [] below).port_is };
  each = λ sender s d within. record {
    many = dealt.long sender d within ∙ are.rows_many;
    each = λ port e below.
        let of = are.each port no_limits s [] below in
        dealt.at sender port d [] e e within (let m = are.rows_many in omega arith) ∙ ap (λ r. get_or r sender e) of.senders_are
        ∙ seat_at (get_or seats port s).table (setup_of (get_or limits port no_limits) senders) 0 senders sender e within
        ∙ ap (λ t. send_known (get_or seats port s).table t (fresh_sender (0 + sender))) (sym (ap (λ k. k.known.setup) of.port_is))
        ∙ ap (λ n. send_known (get_or seats port s).table (get_or seats port s).known.setup (fresh_sender n)) (let z : 0 + sender ≡ sender = omega arith in z);
  };
}

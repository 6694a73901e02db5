-- The lanes of ports, as they are made.
use Rattle.std.proofs.Common.{◌≡◌, ◌<◌, ◌≤◌, ◌+◌, List, [], ◌∷◌, ◌++◌, length, get_or, sym, refl, ap, ◌∙◌, subst, arith, ⊎_elim}
use Rattle.std.proofs.lemmas.Bool.{cases_lt}
use Rattle.std.proofs.lemmas.List.{get_or_append_left, get_or_push, length_push}
use Rattle.task_queue.specs.Ends.{Taking}
use Rattle.port_words.specs.busy.Known.{PortKnown}
use Rattle.process_end.specs.port_lanes.Keys.{Key}
use Rattle.process_end.specs.port_lanes.Parcels.{ParcelView}
use Rattle.run_lanes.specs.declared.size.LaneSize.{LaneSize}
use Rattle.run_lanes.specs.Ends.{IsUntaken}
use Rattle.run_lanes.specs.Keyed.{key_of, ArePortLanes}

pub keyed_none : (size : LaneSize) → ArePortLanes size [] []
keyed_none size = record { many = refl; each = λ port s t below. absurd (omega arith) }

pub keyed_more : (size : LaneSize) (seats : List PortKnown) (seat : PortKnown) (takers : List (Taking ParcelView Key)) (taker : Taking ParcelView Key)
    → ArePortLanes size seats takers → IsUntaken (key_of size seat) taker → ArePortLanes size (seats ++ seat ∷ []) (takers ++ taker ∷ [])
keyed_more size seats seat takers taker before more = record {
  many = length_push takers taker ∙ ap (λ n. n + 1) before.many ∙ sym (length_push seats seat);
  each = λ port s t below. ⊎_elim
      (λ (less : port < length seats).
      subst (λ m. IsUntaken (key_of size m) (get_or (takers ++ taker ∷ []) port t)) (sym (get_or_append_left seats (seat ∷ []) s port less))
      (subst (IsUntaken (key_of size (get_or seats port s))) (sym (get_or_append_left takers (taker ∷ []) t port (let m = before.many in omega arith))) (before.each port s t less)))
      (λ (last : length seats ≤ port).
      let at : length seats ≡ port = (let m = length_push seats seat in omega arith) in
      subst (λ m. IsUntaken (key_of size m) (get_or (takers ++ taker ∷ []) port t)) (sym (get_or_push seats seat s port at))
      (subst (IsUntaken (key_of size seat)) (sym (get_or_push takers taker t port (before.many ∙ at))) more))
      (cases_lt port (length seats));
}

-- Columns of ends are taken in one after another.
use Rattle.std.proofs.Common.{◌≡◌, ◌<◌, List, [], ◌∷◌, ◌++◌, length, map, get_or, refl, sym, ap, ◌∙◌, arith}
use Rattle.std.proofs.lemmas.List.{append-nil, append_assoc, get_or_default, get_or-map, length-map, map_push}
use Rattle.task_queue.specs.declared.protocol.Ended.{Ended}
use Rattle.task_queue.specs.Ends.{Taking, ended_of}
use Rattle.port_lanes.specs.Keys.{Key, end_of}
use Rattle.port_lanes.specs.Parcels.{ParcelView}
use Rattle.port_model.specs.declared.signal.Sender.TheVariants.{Timer}
use Rattle.port_body.specs.Body.{BodyView}
use Rattle.closed_ports.specs.Ends.{LaneEnd, with_end, with_ends}
use Rattle.closed_ports.specs.Laws.{ColumnsAreAllEnds, ColumnsStayOfBodies, NoColumnYet, OneColumnMore, ends_at}

-- the body with its lane's ends in other words
with-ended : (v : BodyView) (one other : List (Ended ParcelView)) → one ≡ other
    → record v { lane_port = record v.lane_port { lane = record v.lane_port.lane { ended = one } } }
    ≡ record v { lane_port = record v.lane_port { lane = record v.lane_port.lane { ended = other } } }
with-ended v one other same = ap (λ ended. record v { lane_port = record v.lane_port { lane = record v.lane_port.lane { ended = ended } } }) same

no-end : (v : BodyView) → v ≡ with_ends v []
no-end v = with-ended v v.lane_port.lane.ended (v.lane_port.lane.ended ++ []) (sym (append-nil v.lane_port.lane.ended))

one-end-more : (v : BodyView) (ends : List LaneEnd) (end : LaneEnd) → with_end (with_ends v ends) end ≡ with_ends v (ends ++ end ∷ [])
one-end-more v ends end = with-ended v _ _ (append_assoc v.lane_port.lane.ended (map ended_of ends) (ended_of end ∷ []) ∙ ap (λ l. v.lane_port.lane.ended ++ l) (sym (map_push ended_of ends end)))

pub no-column-yet : NoColumnYet
no-column-yet bodies = record { many = refl; each = λ port v w d within. get_or_default bodies port v w within ∙ no-end (get_or bodies port w) }

pub one-column-more : OneColumnMore
one-column-more old mid new columns ends before takes = record {
  many = takes.many ∙ before.many;
  each = λ port v w d within.
      let inside : port < length mid = let m = before.many in omega (arith, m, within) in
      takes.each port v v d inside ∙ (ap (λ x. with_end x (get_or ends port d)) (before.each port v w d within)
      ∙ (one-end-more (get_or old port w) (ends_at port d columns) (get_or ends port d)
      ∙ ap (with_ends (get_or old port w)) (sym (map_push (λ (l : List LaneEnd). get_or l port d) columns ends))));
}

pub columns-stay-of-bodies : ColumnsStayOfBodies
columns-stay-of-bodies old mid columns ends before are = record {
  many = are.many ∙ sym before.many;
  each = λ port v d within.
      let inside : port < length old = let m = before.many in omega (arith, m, within) in
      are.each port v d inside ∙ sym (ap (λ (x : BodyView). x.lane_port.lane.lane) (before.each port v v d inside));
}

pub columns-are-all-ends : ColumnsAreAllEnds
columns-are-all-ends old mid new columns all before same settled port v d within =
    let o = get_or old port v in
    let m = get_or mid port v in
    let n = get_or new port v in
    let ends = ends_at port d columns in
    let many_mid = before.many in
    let many_new = same.many in
    let inside : port < length mid = omega (arith, many_mid, within) in
    let took : m ≡ with_ends o ends = before.each port v v d within in
    let kept = (same.each port v v inside).same.lane in
    let many : length ends ≡ length columns = length-map columns (λ (l : List LaneEnd). get_or l port d) in
    record {
      settled = settled port v (omega (arith, many_mid, many_new, within));
      many = many ∙ (all.many port v within ∙ (ap (λ (x : BodyView). end_of x.lane_port.lane.key Timer) (sym took) ∙ ap (λ (l : Taking ParcelView Key). end_of l.key Timer) (sym kept)));
      numbered = λ number e below.
          let low : number < length columns = omega (arith, many, below) in
          let stands : get_or ends number e ≡ get_or (get_or columns number []) port d = get_or-map (λ (l : List LaneEnd). get_or l port d) columns number [] e low in
          ap (λ (x : LaneEnd). x.number) stands ∙ all.numbered number port [] d low within;
      before = o.lane_port.lane.ended;
      ended = ap (λ (l : Taking ParcelView Key). l.ended) kept ∙ ap (λ (x : BodyView). x.lane_port.lane.ended) took;
    }

-- The tasks that a job puts into lanes, one call after another.
use Rattle.std.proofs.Common.{◌≡◌, ◌≢◌, ◌<◌, ◌≤◌, ℕ, Bool, true, false, cond, eqb, List, [], ◌∷◌, ◌++◌, length, get_or, set, Result, Ok, Err, true≢false, sym, refl, ap, ◌∙◌, subst, arith, append_assoc, length-set, get_or-set_same, get_or-set_other, ⊎_elim}
use Rattle.std.specs.Result.{IsErr}
use Rattle.std.proofs.lemmas.Bool.{cases_eq}
use Rattle.std.proofs.lemmas.Bool.Decides.{nat_tests}
use Rattle.std.proofs.lemmas.List.{append-nil, get_or_default}
use Rattle.port_model.specs.declared.signal.Sender.{Sender}
use Rattle.process_end.specs.port_lanes.Keys.{sender_at}
use Rattle.process_end.specs.port_lanes.Parcels.{ParcelView}
use Rattle.process_end.specs.Views.{LaneEnd}
use Rattle.run_jobs.specs.Telling.{PortTask, plain_parcel, parcels_for, Sends, AreEndsOf, LeftBy, TellsOf}

cond_then : (b : Bool) (x : ParcelView) (l m n : List ParcelView) → l ≡ m ++ n → cond b (x ∷ l) l ≡ cond b (x ∷ m) m ++ n
cond_then true x l m n e = ap (λ k. x ∷ k) e
cond_then false x l m n e = e

pub parcels_then : (port : ℕ) (first second : List PortTask) → parcels_for port (first ++ second) ≡ parcels_for port first ++ parcels_for port second
parcels_then port [] second = refl
parcels_then port (t ∷ first) second = cond_then (eqb t.port port) (plain_parcel t.task) (parcels_for port (first ++ second)) (parcels_for port first) (parcels_for port second) (parcels_then port first second)

same_port : (n : ℕ) → eqb n n ≡ true
same_port n = grind (arith, nat_tests)

other_port : (n m : ℕ) → n ≢ m → eqb n m ≡ false
other_port n m ne = grind (arith, nat_tests)

-- what a port gets of one task
pub parcels_own : (t : PortTask) → parcels_for t.port (t ∷ []) ≡ plain_parcel t.task ∷ []
parcels_own t = ap (λ b. cond b (plain_parcel t.task ∷ []) []) (same_port t.port)

pub parcels_other : (port : ℕ) (t : PortTask) → port ≢ t.port → parcels_for port (t ∷ []) ≡ []
parcels_other port t ne = ap (λ b. cond b (plain_parcel t.task ∷ []) []) (other_port t.port port (λ e. ne (sym e)))

sent_more : LaneEnd → List ParcelView → LaneEnd
sent_more end more = record end { sent = end.sent ++ more }

pub sends_none : (lanes : List LaneEnd) → Sends [] lanes lanes
sends_none lanes = record { many = refl; each = λ port d below. ap (λ l. record (get_or lanes port d) { sent = l }) (sym (append-nil (get_or lanes port d).sent)) }

pub sends_then : (first second : List PortTask) (lanes lanes' lanes'' : List LaneEnd) → Sends first lanes lanes' → Sends second lanes' lanes'' → Sends (first ++ second) lanes lanes''
sends_then first second lanes lanes' lanes'' one two = record {
  many = two.many ∙ one.many;
  each = λ port d below.
      two.each port d (let m = one.many in omega arith) ∙ ap (λ (e : LaneEnd). record e { sent = e.sent ++ parcels_for port second }) (one.each port d below)
      ∙ ap (λ l. record (get_or lanes port d) { sent = l }) (append_assoc (get_or lanes port d).sent (parcels_for port first) (parcels_for port second)
      ∙ ap (λ l. (get_or lanes port d).sent ++ l) (sym (parcels_then port first second)));
}

-- a task for a port that isn't there
pub sends_nowhere : (t : PortTask) (lanes : List LaneEnd) → length lanes ≤ t.port → Sends (t ∷ []) lanes lanes
sends_nowhere t lanes past = record {
  many = refl;
  each = λ port d below.
      ap (λ l. record (get_or lanes port d) { sent = l }) (sym (append-nil (get_or lanes port d).sent) ∙ ap (λ l. (get_or lanes port d).sent ++ l) (sym (parcels_other port t (λ e. omega arith))));
}

-- a task was put at its place
pub sends_at : (t : PortTask) (lanes lanes' : List LaneEnd) (end end' : LaneEnd) → t.port < length lanes → end ≡ get_or lanes t.port end → lanes' ≡ set lanes t.port end'
    → end' ≡ record end { sent = end.sent ++ plain_parcel t.task ∷ [] } → Sends (t ∷ []) lanes lanes'
sends_at t lanes lanes' end end' within is changed put = record {
  many = ap length changed ∙ length-set lanes t.port end';
  each = λ port d below. ⊎_elim
      (λ (same : port ≡ t.port).
      ap (λ l. get_or l port d) changed ∙ ap (λ n. get_or (set lanes t.port end') n d) same ∙ get_or-set_same lanes t.port end' d within ∙ put
      ∙ ap (λ (e : LaneEnd). record e { sent = e.sent ++ plain_parcel t.task ∷ [] }) (is ∙ get_or_default lanes t.port end d within)
      ∙ ap (λ l. record (get_or lanes t.port d) { sent = (get_or lanes t.port d).sent ++ l }) (sym (parcels_own t))
      ∙ ap (λ n. record (get_or lanes n d) { sent = (get_or lanes n d).sent ++ parcels_for n (t ∷ []) }) (sym same))
      (λ (ne : port ≢ t.port).
      ap (λ l. get_or l port d) changed ∙ get_or-set_other lanes t.port port end' d ne
      ∙ ap (λ l. record (get_or lanes port d) { sent = l }) (sym (append-nil (get_or lanes port d).sent) ∙ ap (λ l. (get_or lanes port d).sent ++ l) (sym (parcels_other port t ne))))
      (cases_eq port t.port);
}

-- the ends stay those of their sender
pub ends_keep : (sender : Sender) (told : List PortTask) (lanes lanes' : List LaneEnd) → Sends told lanes lanes' → AreEndsOf sender lanes → AreEndsOf sender lanes'
ends_keep sender told lanes lanes' sends are = λ port d below.
    let within : port < length lanes = (let m = sends.many in omega arith) in
    ap (λ (e : LaneEnd). sender_at e.key e.number) (sends.each port d within) ∙ are port d within

pub left_err : {A E : Type 0} (r : Result A E) → IsErr r → (all left : List PortTask) → 0 < length all → LeftBy r all left
left_err (Ok x) is all left some = absurd (true≢false (sym is))
left_err (Err e) is all left some = some

-- all were told where memory was found
pub tells_ok : {A E : Type 0} (r : Result A E) (x : A) (all : List PortTask) (lanes lanes' : List LaneEnd) → r ≡ Ok x → TellsOf r all lanes lanes' → Sends all lanes lanes'
tells_ok r x all lanes lanes' ok tells =
    let none : tells.left ≡ [] = subst (λ s. LeftBy s all tells.left) ok tells.left_by in
    subst (λ l. Sends l lanes lanes') (sym (tells.whole ∙ ap (λ l. tells.told ++ l) none ∙ append-nil tells.told)) tells.sends

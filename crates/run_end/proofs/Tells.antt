-- What the calls of a process tell.
use Rattle.std.proofs.Common.{◌≡◌, ℕ, ◌≤◌, ◌<◌, suc, List, [], ◌∷◌, length, refl, sym, ap, ◌∙◌, subst, arith}
use Rattle.std.specs.Prelude.{map, reverse, slice_index_or}
use Rattle.std.proofs.lemmas.List.{length-map, get_or-map, reverse-reverse}
use Rattle.std.proofs.lemmas.List.Elements.{All-head, All-tail}
use Rattle.port_words.specs.busy.Known.{PortKnown, SendKnown}
use Rattle.process_end.specs.process_receipts.declared.receipt.Receipt.{Receipt}
use Rattle.process_end.specs.process_receipts.Asks.{Asked}
use Rattle.process_end.specs.process_receipts.Receipts.{accepted, AreReceipts}
use Rattle.process_end.specs.Calls.{HasAsked}
use Rattle.process_end.specs.Mailbox.{Mailbox}
use Rattle.process_end.specs.Ports.{ArePorts}
use Rattle.process_end.specs.Steps.{tasks_of}
use Rattle.process_end.specs.Views.{ProcView}
use Rattle.process_job.specs.Going.{AreSamePorts}
use Rattle.run_end.specs.Ran.{RanProcess, HasRunWhole, calls_made}
use Rattle.run_end.specs.Rows.{AreSeatRows}
use Rattle.run_end.specs.Shown.{SeatShown}
use Rattle.run_end.specs.Tell.{AllCallsTell, HaveRunWhole, AllSeatsShow, AllRowsStay}
use Rattle.run_end.specs.Words.{IsOfTable}
use Rattle.run_end.specs.Whole.{RunPortsHold, RunWordsHold}
use Rattle.run_end.proofs.Merges.{first_of}
use Rattle.run_end.proofs.Shown.{own-hold, shown-hold}

nothing : {X : Type 0} (xs : List X) → length xs ≤ 0 → xs ≡ []
nothing [] few = refl
nothing (x ∷ xs) few = absurd (omega arith)

-- the seats of a process that took no add back
seat_shown : (asks : List Asked) (receipts : List Receipt) (v : ProcView) → HasAsked asks v → v.receipts ≡ receipts → v.undone ≡ 0 → ArePorts v → (k : ℕ) (d : SendKnown) → k < length v.lanes
    → SeatShown k (record { asks = asks; receipts = receipts }) (slice_index_or v.seats k d)
seat_shown asks receipts v asked are undone keeps k d below =
    subst (λ r. SeatShown k (record { asks = asks; receipts = r }) (slice_index_or v.seats k d)) are (record {
      stats = asked.stats k d below;
      words = asked.words k d below;
      adds = asked.adds k d below;
      undone = nothing _ (subst (λ n. length (slice_index_or v.seats k d).sender.ledger.undone ≤ n) undone (asked.undone k d below));
      once = (keeps.each k (first_of v.lanes k below) d below).once;
    })

pub tells : AllCallsTell
tells p whole =
    let ran = whole.ran in
    let asked : HasAsked (calls_made p).asks ran.last = subst (λ l. HasAsked l ran.last) (ap reverse ran.asks_are) ran.asked in
    let receipts : ran.last.receipts ≡ (calls_made p).receipts = sym (reverse-reverse ran.last.receipts) ∙ ap reverse (sym ran.receipts_are) in
    let undone : ran.last.undone ≡ 0 = ran.undone ∙ whole.fresh.undone in
    let many = ran.same.lanes_many in
    let within : (k : ℕ) → k < length p.old.lanes → k < length ran.last.lanes = λ k below. omega arith in
    record {
      receipts = subst (λ s. AreReceipts s (calls_made p).asks (calls_made p).receipts) ran.soft
          (subst (AreReceipts ran.last.soft (calls_made p).asks) receipts (asked.receipts undone));
      mailbox = ran.mailbox_is ∙ ran.heard.same ∙ ap (λ (m : Mailbox). record p.old.mailbox { taken = m.taken }) (sym ran.mailbox_is);
      ports = subst (λ l. AreSamePorts p.old.lanes l p.old.seats p.end.seats.items) (sym ran.lanes_are)
          (subst (λ s. AreSamePorts p.old.lanes ran.last.lanes p.old.seats s) (sym ran.seats_are) ran.same);
      seats_many = ap length ran.seats_are ∙ ran.keeps.seats ∙ many;
      tasks = λ k d below. ap (λ l. tasks_of (slice_index_or l k d)) ran.lanes_are ∙ asked.sent k d (within k below) ∙ ap (accepted k (calls_made p).asks) receipts;
      seats = λ k d below. subst (λ l. SeatShown k (calls_made p) (slice_index_or l k d)) (sym ran.seats_are)
          (seat_shown (calls_made p).asks (calls_made p).receipts ran.last asked receipts undone ran.keeps k d (within k below));
    }

abbrev seats_of : RanProcess → List SendKnown
seats_of p = p.end.seats.items

pub seats_show : AllSeatsShow
seats_show ports port [] [] ran below c = tt
seats_show ports port [] (seat ∷ seats) ran below c = absurd (let m = c.many in omega arith)
seats_show ports port (p ∷ ps) [] ran below c = absurd (let m = c.many in omega arith)
seats_show ports port (p ∷ ps) (seat ∷ seats) ran below c = (
  (let many : length p.old.lanes ≡ ports = All-head (λ (r : RanProcess). length r.old.lanes ≡ ports) p ps ran.many in
      subst (SeatShown port (calls_made p)) (sym (c.at 0 [] seat seat (omega arith)))
      ((tells p (All-head HasRunWhole p ps ran.ran)).seats port seat (omega arith))),
  seats_show ports port ps seats
      (record { ran = All-tail HasRunWhole p ps ran.ran; many = All-tail (λ (r : RanProcess). length r.old.lanes ≡ ports) p ps ran.many }) below
      (record { many = (let m = c.many in omega arith); at = λ r row x y within. c.at (suc r) row x y (omega arith) }),
)

-- what a process gives back of a row of seats
row_stays : (ports : List PortKnown) (ps : List RanProcess) → HaveRunWhole (length ports) ps → AreSeatRows ports (map (λ p. p.old.seats) ps) → (r : ℕ) (p : RanProcess) → r < length ps
    → (length (slice_index_or ps r p).end.seats.items ≡ length ports)
    × ((k : ℕ) (d : PortKnown) (x : SendKnown) → k < length ports → IsOfTable (slice_index_or ports k d) (slice_index_or (slice_index_or ps r p).end.seats.items k x))
row_stays ports ps ran are r p below =
    let q = slice_index_or ps r p in
    let told = tells q (ran.ran r p below) in
    let rows = length-map ps (λ (o : RanProcess). o.old.seats) in
    let was : slice_index_or (map (λ (o : RanProcess). o.old.seats) ps) r [] ≡ q.old.seats = get_or-map (λ (o : RanProcess). o.old.seats) ps r p [] below in (
      told.seats_many ∙ ran.many r p below,
      λ k d x inside. (told.ports.same_seats k x).table ∙ ap (λ (l : List SendKnown). (slice_index_or l k x).table) (sym was) ∙ are.tables r k [] d x (omega arith) inside,
    )

pub rows_stay : AllRowsStay
rows_stay ports ps ran are =
    let many = length-map ps seats_of in
    let within : (r : ℕ) → r < length (map seats_of ps) → r < length ps = λ r below. omega arith in
    let row : (r : ℕ) (l : List SendKnown) (below : r < length (map seats_of ps)) → slice_index_or (map seats_of ps) r l ≡ (slice_index_or ps r (first_of ps r (within r below))).end.seats.items =
    λ r l below. get_or-map seats_of ps r (first_of ps r (within r below)) l (within r below) in
    record {
      long = λ r l below. ap length (row r l below) ∙ (row_stays ports ps ran are r (first_of ps r (within r below)) (within r below)).0;
      tables = λ r k l d x below inside. subst (λ s. IsOfTable (slice_index_or ports k d) (slice_index_or s k x)) (sym (row r l below))
          ((row_stays ports ps ran are r (first_of ps r (within r below)) (within r below)).1 k d x inside);
    }

pub run_words : RunWordsHold
run_words old new ps ran none joined k d below =
    let j = joined.each k d d below in
    let fresh = none k d below in
    shown-hold k (slice_index_or old k d) (slice_index_or new k d) j.seats (map calls_made ps)
    (record { joined = j.joined; none_before = fresh.0; many = j.column.many ∙ length-map ps seats_of ∙ sym fresh.1 })
    (seats_show (length old) k ps j.seats ran below j.column)

pub run_ports : RunPortsHold
run_ports old new ps ran none joined k d below =
    let j = joined.each k d d below in
    let fresh = none k d below in
    own-hold k (slice_index_or old k d) (slice_index_or new k d) j.seats (map calls_made ps)
    (record { joined = j.joined; none_before = fresh.0; many = j.column.many ∙ length-map ps seats_of ∙ sym fresh.1 })
    (seats_show (length old) k ps j.seats ran below j.column)

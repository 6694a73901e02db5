-- What looks at the words of a port leave of a process.
use Rattle.std.proofs.Common.{◌≡◌, ◌≢◌, ℕ, ◌<◌, ◌≤◌, List, [], ◌∷◌, ◌++◌, length, refl, sym, ap, ◌∙◌, subst}
use Rattle.std.specs.Prelude.{map, slice_index_or}
use Rattle.std.proofs.lemmas.List.{append-nil}
use Rattle.port_words.specs.busy.Known.{SendKnown, send_known}
use Rattle.process_receipts.specs.Asks.{Asked}
use Rattle.process_receipts.specs.Receipts.{adds_shown, stats_shown, words_shown, IsSublist}
use Rattle.process_receipts.specs.Ledgers.{kept_adds, shown_add, IsFree}
use Rattle.process_end.specs.Views.{ProcView, calls_of}
use Rattle.process_end.specs.Steps.{looked, Looks}
use Rattle.process_end.specs.Calls.{HasAsked, TouchesPort}
use Rattle.process_end.specs.Looked.{FindsWords, HasFoundWords, HasLookedAt}
use Rattle.process_end.specs.Ports.{ArePorts, IsPort, AllFree}
use Rattle.process_end.proofs.Adds.{free-more}
use Rattle.process_end.proofs.Stats.{sublist-more}
use Rattle.process_end.proofs.Made.{each-place}

-- a seat that knows more words, and made no other step
abbrev pub heard_more : SendKnown → List ℕ → List ℕ → SendKnown
heard_more seat stats words = send_known seat.table seat.setup (record seat.sender { stats = seat.sender.stats ++ stats; words = seat.sender.words ++ words })

-- the seat of this port found more words
pub record PortHeard (old : ProcView) (seats : List SendKnown) (port : ℕ) (stats words : List ℕ) : Type 0 where
  pub within : port < length old.lanes
  pub touched : TouchesPort port old.lanes old.lanes old.seats seats
  pub seat : (d : SendKnown) → slice_index_or seats port d ≡ heard_more (slice_index_or old.seats port d) stats words

pub ports-heard : (old : ProcView) (seats : List SendKnown) (port : ℕ) (stats words : List ℕ) → PortHeard old seats port stats words → ArePorts old → ArePorts (record old { seats = seats })
ports-heard old seats port stats words h ports = record {
  seats = h.touched.many.1 ∙ ports.seats;
  soft = ports.soft;
  each = λ k d e within. each-place
      (λ j. j < length old.lanes → IsPort old.number (calls_of old) (slice_index_or old.lanes j d) (slice_index_or seats j e)) port
      (λ w. let is = ports.each port d e w in
      rw (h.seat e) (record { end = is.end; process = is.process; table = is.table; few = is.few; placed = is.placed; once = is.once }))
      (λ j apart w. rw (h.touched.seats_same j e apart) (ports.each j d e w))
      k within;
  undone = ports.undone;
  told = ports.told;
}

pub free-seat : (seat : SendKnown) (stats words : List ℕ) → IsFree seat.sender → IsFree (heard_more seat stats words).sender
free-seat seat stats words free = free-more seat.sender (heard_more seat stats words).sender stats words refl refl refl free

pub free-heard : (old : ProcView) (seats : List SendKnown) (port : ℕ) (stats words : List ℕ) → PortHeard old seats port stats words → AllFree old → AllFree (record old { seats = seats })
free-heard old seats port stats words h free = λ k e within. each-place (λ j. j < length old.lanes → IsFree (slice_index_or seats j e).sender) port
    (λ w. rw (h.seat e) (free-seat (slice_index_or old.seats port e) stats words (free port e w)))
    (λ j apart w. rw (h.touched.seats_same j e apart) (free j e w))
    k within

pub asked-heard : (old : ProcView) (seats : List SendKnown) (port : ℕ) (stats words : List ℕ) → PortHeard old seats port stats words
    → (asks : List Asked) → HasAsked asks old → HasAsked asks (record old { seats = seats })
asked-heard old seats port stats words h asks a = record {
  receipts = a.receipts;
  sent = a.sent;
  undone = λ k e within. each-place (λ j. j < length old.lanes → length (slice_index_or seats j e).sender.ledger.undone ≤ old.undone) port
      (λ w. rw (h.seat e) (a.undone port e w))
      (λ j apart w. rw (h.touched.seats_same j e apart) (a.undone j e w))
      k within;
  adds = λ k e within. each-place (λ j. j < length old.lanes → map shown_add (kept_adds (slice_index_or seats j e).sender.ledger) ≡ adds_shown j asks old.receipts) port
      (λ w. ap (λ v. map shown_add (kept_adds v.sender.ledger)) (h.seat e) ∙ a.adds port e w)
      (λ j apart w. ap (λ v. map shown_add (kept_adds v.sender.ledger)) (h.touched.seats_same j e apart) ∙ a.adds j e w)
      k within;
  stats = λ k e within. each-place (λ j. j < length old.lanes → IsSublist (stats_shown j old.receipts) (slice_index_or seats j e).sender.stats) port
      (λ w. rw (h.seat e) (sublist-more (stats_shown port old.receipts) (slice_index_or old.seats port e).sender.stats stats (a.stats port e w)))
      (λ j apart w. rw (h.touched.seats_same j e apart) (a.stats j e w))
      k within;
  words = λ k e within. each-place (λ j. j < length old.lanes → IsSublist (words_shown j old.receipts) (slice_index_or seats j e).sender.words) port
      (λ w. rw (h.seat e) (sublist-more (words_shown port old.receipts) (slice_index_or old.seats port e).sender.words words (a.words port e w)))
      (λ j apart w. rw (h.touched.seats_same j e apart) (a.words j e w))
      k within;
}

looked-more : (s : SendKnown) (stat : ℕ) → looked s stat ≡ heard_more s (stat ∷ []) []
looked-more s stat = ap (λ ws. send_known s.table s.setup (record s.sender { stats = s.sender.stats ++ stat ∷ []; words = ws })) (sym (append-nil s.sender.words))

-- a process after one look at a port
pub record LookMade (old new : ProcView) (port stat : ℕ) : Type 0 where
  pub ports : ArePorts new
  pub looked : HasLookedAt port old new stat

look-heard : (p : ProcView) (seats : List SendKnown) (port stat : ℕ) → ArePorts p → PortHeard p seats port (stat ∷ []) []
    → ((d : SendKnown) → slice_index_or seats port d ≡ looked (slice_index_or p.seats port d) stat) → ((d : SendKnown) → Looks (slice_index_or p.seats port d) stat)
    → LookMade p (record p { seats = seats }) port stat
look-heard p seats port stat ports h seat looks = record {
  ports = ports-heard p seats port (stat ∷ []) [] h ports;
  looked = record { rest = refl; touched = h.touched; seat = seat; looks = looks; asked = asked-heard p seats port (stat ∷ []) [] h };
}

touches : (p : ProcView) (seats : List SendKnown) (port : ℕ) → ((k : ℕ) (d : SendKnown) → k ≢ port → slice_index_or seats k d ≡ slice_index_or p.seats k d)
    → length seats ≡ length p.seats → TouchesPort port p.lanes p.lanes p.seats seats
touches p seats port same many = record { lanes_same = λ k d apart. refl; seats_same = same; many = (refl, many) }

pub look-made : (old p : ProcView) (seats : List SendKnown) (port stat : ℕ) → p ≡ old → ArePorts p → port < length old.lanes
    → ((k : ℕ) (d : SendKnown) → k ≢ port → slice_index_or seats k d ≡ slice_index_or p.seats k d) → length seats ≡ length p.seats
    → ((d : SendKnown) → slice_index_or seats port d ≡ looked (slice_index_or p.seats port d) stat) → ((d : SendKnown) → Looks (slice_index_or p.seats port d) stat)
    → LookMade old (record p { seats = seats }) port stat
look-made old p seats port stat is ports within same many seat looks =
    subst (λ o. LookMade o (record p { seats = seats }) port stat) is
    (look-heard p seats port stat ports (record {
      within = subst (λ o. port < length o.lanes) (sym is) within;
      touched = touches p seats port same many;
      seat = λ d. seat d ∙ looked-more (slice_index_or p.seats port d) stat;
    }) seat looks)

-- a process after it found both words of a port
pub record WordsFound (old new : ProcView) (port msgq stat : ℕ) : Type 0 where
  pub ports : ArePorts new
  pub found : HasFoundWords port old new msgq stat

words-heard : (p : ProcView) (seats : List SendKnown) (port msgq stat : ℕ) → ArePorts p → PortHeard p seats port (stat ∷ []) (msgq ∷ [])
    → ((d : SendKnown) → FindsWords (slice_index_or p.seats port d) (slice_index_or seats port d) msgq stat) → WordsFound p (record p { seats = seats }) port msgq stat
words-heard p seats port msgq stat ports h finds = record {
  ports = ports-heard p seats port (stat ∷ []) (msgq ∷ []) h ports;
  found = record { rest = refl; touched = h.touched; finds = finds; asked = asked-heard p seats port (stat ∷ []) (msgq ∷ []) h };
}

pub words-found : (old p : ProcView) (seats : List SendKnown) (port msgq stat : ℕ) → p ≡ old → ArePorts p → port < length old.lanes
    → ((k : ℕ) (d : SendKnown) → k ≢ port → slice_index_or seats k d ≡ slice_index_or p.seats k d) → length seats ≡ length p.seats
    → ((d : SendKnown) → FindsWords (slice_index_or p.seats port d) (slice_index_or seats port d) msgq stat) → WordsFound old (record p { seats = seats }) port msgq stat
words-found old p seats port msgq stat is ports within same many finds =
    subst (λ o. WordsFound o (record p { seats = seats }) port msgq stat) is
    (words-heard p seats port msgq stat ports (record {
      within = subst (λ o. port < length o.lanes) (sym is) within;
      touched = touches p seats port same many;
      seat = λ d. (finds d).step;
    }) finds)

-- a process stays free after a look
pub free-looked : (old new : ProcView) (port stat : ℕ) → HasLookedAt port old new stat → port < length old.lanes → AllFree old → AllFree new
free-looked old new port stat h within free = subst AllFree (sym h.rest)
    (free-heard old new.seats port (stat ∷ []) [] (record {
      within = within;
      touched = touches old new.seats port h.touched.seats_same h.touched.many.1;
      seat = λ d. h.seat d ∙ looked-more (slice_index_or old.seats port d) stat;
    }) free)

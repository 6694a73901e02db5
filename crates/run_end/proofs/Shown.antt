-- The words that receipts show, by those that the joined seats found or left.
use Rattle.std.proofs.Common.{◌≡◌, ℕ, zero, suc, ◌+◌, ◌%◌, ◌<◌, ◌≤◌, Bool, true, false, List, [], ◌∷◌, ◌++◌, map, length, refl, sym, ap, ◌∙◌, subst, arith}
use Rattle.std.specs.List.{All, sum_by}
use Rattle.std.proofs.lemmas.List.Elements.{All-nil, All-cons, All-head, All-tail}
use Rattle.std.proofs.lemmas.List.Sums.{sum_by-cons}
use Rattle.port_words.specs.declared.busy.view.QueueAdd.{QueueAdd}
use Rattle.port_words.specs.declared.busy.view.QueueLimits.{QueueLimits}
use Rattle.port_words.specs.declared.busy.view.SenderView.{SenderView}
use Rattle.port_words.specs.declared.busy.view.BusyView.{BusyView}
use Rattle.port_words.specs.busy.Known.{PortKnown, SendKnown}
use Rattle.port_words.specs.busy.Queue.{period_of, bytes_of, Climbs, filled_in, add_size}
use Rattle.port_words.specs.busy.Stat.{Rises, EachRises}
use Rattle.port_words.specs.busy.Steps.{TellsQueue}
use Rattle.port_words.specs.busy.Views.{adds_by}
use Rattle.process_end.specs.Bounds.{queue_bound, adds_joined}
use Rattle.process_end.proofs.Bounds.{kept-all, words-kept}
use Rattle.process_end.proofs.Stats.{shown-rise}
use Rattle.process_end.specs.process_receipts.Ledgers.{shown_add, OncePlain}
use Rattle.process_end.specs.process_receipts.Receipts.{ShownAdd, adds_shown, stats_shown, words_shown, picked, IsSublist}
use Rattle.run_end.specs.Shown.{Calls, SeatShown, AreShown, adds_of, filled_by, times_filled, bytes_added, HasCause, WordsHold, QueueWordsHold, AllSeatsJoined, ShownWordsHold, OwnWordsHold}

picked-all : (P : ℕ → Type 0) (picks : List Bool) (ws : List ℕ) → All P ws → All P (picked picks ws)
picked-all P [] ws all = All-nil P
picked-all P (true ∷ picks) [] all = All-nil P
picked-all P (false ∷ picks) [] all = All-nil P
picked-all P (true ∷ picks) (w ∷ ws) all = All-cons P w (picked picks ws) (All-head P w ws all) (picked-all P picks ws (All-tail P w ws all))
picked-all P (false ∷ picks) (w ∷ ws) all = picked-all P picks ws (All-tail P w ws all)

-- what holds of all words holds of those that are shown
shown-all : (P : ℕ → Type 0) (ws all : List ℕ) → IsSublist ws all → All P all → All P ws
shown-all P ws all s every = subst (All P) s.are (picked-all P s.picks all every)

climbs-up : (from : ℕ) (ws : List ℕ) (to : ℕ) → Climbs from ws to → from ≤ to
climbs-up from [] to c = c
climbs-up from (w ∷ ws) to c = let a = c.0 in let b = climbs-up (period_of w) ws to c.1 in omega (arith, a, b)

climbs-below : (from : ℕ) (ws : List ℕ) (to : ℕ) → Climbs from ws to → All (λ w. period_of w ≤ to) ws
climbs-below from [] to c = All-nil (λ w. period_of w ≤ to)
climbs-below from (w ∷ ws) to c = All-cons (λ x. period_of x ≤ to) w ws (climbs-up (period_of w) ws to c.1) (climbs-below (period_of w) ws to c.1)

all-of : (P Q : ℕ → Type 0) → ((w : ℕ) → P w → Q w) → (ws : List ℕ) → All P ws → All Q ws
all-of P Q f [] all = All-nil Q
all-of P Q f (w ∷ ws) all = All-cons Q w ws (f w (All-head P w ws all)) (all-of P Q f ws (All-tail P w ws all))

odd-some : (n : ℕ) → n % 2 ≡ 1 → 0 < n
odd-some zero e = absurd cc
odd-some (suc n) e = omega arith

-- sums over adds as seats keep them and as receipts show them
sum-shown : (F : QueueAdd → ℕ) (G : ShownAdd → ℕ) → ((a : QueueAdd) → F a ≡ G (shown_add a)) → (adds : List QueueAdd) → sum_by F adds ≡ sum_by G (map shown_add adds)
sum-shown F G same [] = refl
sum-shown F G same (a ∷ adds) =
    sum_by-cons F a adds ∙ (ap (λ n. n + sum_by F adds) (same a) ∙ (ap (λ n. G (shown_add a) + n) (sum-shown F G same adds) ∙ sym (sum_by-cons G (shown_add a) (map shown_add adds))))

abbrev adds_in : SenderView → List ShownAdd
adds_in s = map shown_add s.ledger.adds

sums-shown : (F : QueueAdd → ℕ) (G : ShownAdd → ℕ) → ((a : QueueAdd) → F a ≡ G (shown_add a)) → (senders : List SenderView)
    → sum_by (λ s. sum_by F s.ledger.adds) senders ≡ sum_by (sum_by G) (map adds_in senders)
sums-shown F G same [] = refl
sums-shown F G same (s ∷ senders) =
    sum_by-cons (λ x. sum_by F x.ledger.adds) s senders
    ∙ (ap (λ n. n + sum_by (λ x. sum_by F x.ledger.adds) senders) (sum-shown F G same s.ledger.adds)
    ∙ (ap (λ n. sum_by G (adds_in s) + n) (sums-shown F G same senders) ∙ sym (sum_by-cons (sum_by G) (adds_in s) (map adds_in senders))))

abbrev sender_of : SendKnown → SenderView
sender_of seat = seat.sender

-- the adds of the seats are those that the receipts show
joined-adds : (port : ℕ) (calls : List Calls) (seats : List SendKnown) → AreShown port calls seats → map adds_in (map sender_of seats) ≡ adds_of port calls
joined-adds port [] [] shown = refl
joined-adds port [] (seat ∷ seats) shown = absurd shown
joined-adds port (c ∷ calls) [] shown = absurd shown
joined-adds port (c ∷ calls) (seat ∷ seats) shown =
    let ledger = seat.sender.ledger in
    let here : adds_in seat.sender ≡ adds_shown port c.asks c.receipts = ap (map shown_add) (sym (kept-all ledger shown.0.undone)) ∙ shown.0.adds in
    ap (λ x. x ∷ map adds_in (map sender_of seats)) here ∙ ap (λ x. adds_shown port c.asks c.receipts ∷ x) (joined-adds port calls seats shown.1)

abbrev KeptOnce : SenderView → Type 0
KeptOnce s = OncePlain s.ledger × (s.ledger.undone ≡ [])

once-each : (port : ℕ) (calls : List Calls) (seats : List SendKnown) → AreShown port calls seats → All KeptOnce (map sender_of seats)
once-each port [] [] shown = All-nil KeptOnce
once-each port [] (seat ∷ seats) shown = absurd shown
once-each port (c ∷ calls) [] shown = absurd shown
once-each port (c ∷ calls) (seat ∷ seats) shown = All-cons KeptOnce seat.sender (map sender_of seats) (shown.0.once, shown.0.undone) (once-each port calls seats shown.1)

-- what is known of the words of a port, of which all seats were joined
record Joined (port : ℕ) (v : BusyView) (last : ℕ) (whole : List Calls) (seats : List SendKnown) : Type 0 where
  pub tells : TellsQueue v last
  pub senders_are : v.senders ≡ map sender_of seats
  pub all : length v.senders ≡ v.setup.senders
  pub shown : AreShown port whole seats

adds-are : (port : ℕ) (v : BusyView) (last : ℕ) (whole : List Calls) (seats : List SendKnown) → Joined port v last whole seats → adds_joined v ≡ adds_of port whole
adds-are port v last whole seats j = ap (map adds_in) j.senders_are ∙ joined-adds port whole seats j.shown

filled-are : (port : ℕ) (v : BusyView) (last high period : ℕ) (whole : List Calls) (seats : List SendKnown) → Joined port v last whole seats
    → adds_by (filled_in high period) v ≡ times_filled high period (adds_of port whole)
filled-are port v last high period whole seats j =
    sums-shown (filled_in high period) (filled_by high period) (λ a. refl) v.senders ∙ ap (sum_by (sum_by (filled_by high period))) (adds-are port v last whole seats j)

sizes-are : (port : ℕ) (v : BusyView) (last : ℕ) (whole : List Calls) (seats : List SendKnown) → Joined port v last whole seats → adds_by add_size v ≡ bytes_added (adds_of port whole)
sizes-are port v last whole seats j =
    sums-shown add_size (λ (a : ShownAdd). a.size) (λ a. refl) v.senders ∙ ap (sum_by (sum_by (λ (a : ShownAdd). a.size))) (adds-are port v last whole seats j)

has-cause : (port : ℕ) (v : BusyView) (last word : ℕ) (whole : List Calls) (seats : List SendKnown) → Joined port v last whole seats → v.setup.limits.on ≡ true
    → period_of word ≤ period_of last → HasCause v.setup.limits.high (adds_of port whole) word
has-cause port v last word whole seats j on le = record {
  filled = λ odd. subst (λ n. 1 ≤ n) (filled-are port v last v.setup.limits.high (period_of word) whole seats j) (j.tells.filled j.all on (period_of word) odd le);
  heavy = λ odd.
      let some = odd-some (period_of word) odd in
      subst (λ n. v.setup.limits.high ≤ n) (sizes-are port v last whole seats j) (j.tells.heavy j.all on (omega (arith, some, le)));
}

abbrev Bounded : ℕ → List (List ShownAdd) → ℕ → Type 0
Bounded high adds word = bytes_of word ≤ queue_bound high adds

abbrev Unused : ℕ → Type 0
Unused word = period_of word ≡ 0

-- what is known of one seat's words
record SeatWords (v : BusyView) (last : ℕ) (adds : List (List ShownAdd)) (s : SenderView) : Type 0 where
  pub rise : Rises v.marks 0 s.stats
  pub bounded : v.setup.limits.on ≡ true → All (Bounded v.setup.limits.high adds) s.words
  pub climbs : Climbs 0 s.words (period_of last)
  pub free : v.setup.limits.on ≡ false → All Unused s.words

one-holds : (port : ℕ) (v : BusyView) (last : ℕ) (whole : List Calls) (seats : List SendKnown) → Joined port v last whole seats → (c : Calls) (seat : SendKnown) → SeatShown port c seat
    → SeatWords v last (adds_of port whole) seat.sender → WordsHold port v.setup.limits v.marks whole c
one-holds port v last whole seats j c seat shown w =
    let shows = words_shown port c.receipts in
    record {
      rise = shown-rise v.marks (stats_shown port c.receipts) seat.sender.stats shown.stats w.rise;
      bounded = λ on. shown-all (Bounded v.setup.limits.high (adds_of port whole)) shows seat.sender.words shown.words (w.bounded on);
      caused = λ on. all-of (λ x. period_of x ≤ period_of last) (HasCause v.setup.limits.high (adds_of port whole)) (λ x le. has-cause port v last x whole seats j on le) shows
          (shown-all (λ x. period_of x ≤ period_of last) shows seat.sender.words shown.words (climbs-below 0 seat.sender.words (period_of last) w.climbs));
      free = λ off. shown-all Unused shows seat.sender.words shown.words (w.free off);
    }

each-holds : (port : ℕ) (v : BusyView) (last : ℕ) (whole : List Calls) (all : List SendKnown) → Joined port v last whole all → (calls : List Calls) (seats : List SendKnown) → AreShown port calls seats
    → All (SeatWords v last (adds_of port whole)) (map sender_of seats) → All (WordsHold port v.setup.limits v.marks whole) calls
each-holds port v last whole all j [] [] shown words = All-nil (WordsHold port v.setup.limits v.marks whole)
each-holds port v last whole all j [] (seat ∷ seats) shown words = absurd shown
each-holds port v last whole all j (c ∷ calls) [] shown words = absurd shown
each-holds port v last whole all j (c ∷ calls) (seat ∷ seats) shown words =
    All-cons (WordsHold port v.setup.limits v.marks whole) c calls
    (one-holds port v last whole all j c seat shown.0 (All-head (SeatWords v last (adds_of port whole)) seat.sender (map sender_of seats) words))
    (each-holds port v last whole all j calls seats shown.1 (All-tail (SeatWords v last (adds_of port whole)) seat.sender (map sender_of seats) words))

-- four facts of each seat are one
together : (v : BusyView) (last : ℕ) (adds : List (List ShownAdd)) (senders : List SenderView) → All (λ s. Rises v.marks 0 s.stats) senders
    → (v.setup.limits.on ≡ true → All (λ s. All (Bounded v.setup.limits.high adds) s.words) senders) → All (λ s. Climbs 0 s.words (period_of last)) senders
    → (v.setup.limits.on ≡ false → All (λ s. All Unused s.words) senders) → All (SeatWords v last adds) senders
together v last adds [] rise bounded climbs free = All-nil (SeatWords v last adds)
together v last adds (s ∷ senders) rise bounded climbs free =
    All-cons (SeatWords v last adds) s senders
    (record {
      rise = All-head (λ x. Rises v.marks 0 x.stats) s senders rise;
      bounded = λ on. All-head (λ x. All (Bounded v.setup.limits.high adds) x.words) s senders (bounded on);
      climbs = All-head (λ x. Climbs 0 x.words (period_of last)) s senders climbs;
      free = λ off. All-head (λ x. All Unused x.words) s senders (free off);
    })
    (together v last adds senders (All-tail (λ x. Rises v.marks 0 x.stats) s senders rise) (λ on. All-tail (λ x. All (Bounded v.setup.limits.high adds) x.words) s senders (bounded on))
    (All-tail (λ x. Climbs 0 x.words (period_of last)) s senders climbs) (λ off. All-tail (λ x. All Unused x.words) s senders (free off)))

holds-of : (port : ℕ) (v : BusyView) (last : ℕ) (calls : List Calls) (seats : List SendKnown) → Joined port v last calls seats → EachRises v.marks v.senders
    → All (WordsHold port v.setup.limits v.marks calls) calls
holds-of port v last calls seats j rises =
    let adds = adds-are port v last calls seats j in
    let once : All KeptOnce v.senders = subst (All KeptOnce) (sym j.senders_are) (once-each port calls seats j.shown) in
    let bound : v.setup.limits.on ≡ true → All (λ s. All (Bounded v.setup.limits.high (adds_of port calls)) s.words) v.senders
    = λ on. subst (λ x. All (λ s. All (Bounded v.setup.limits.high x) s.words) v.senders) adds (words-kept v last (record { limited = on; all = j.all; senders = once }) j.tells).1 in
    each-holds port v last calls seats j calls seats j.shown
    (subst (All (SeatWords v last (adds_of port calls))) j.senders_are (together v last (adds_of port calls) v.senders rises bound j.tells.climbs.1 (λ off. (j.tells.off off).1)))

length-senders : (seats : List SendKnown) → length (map sender_of seats) ≡ length seats
length-senders [] = refl
length-senders (seat ∷ seats) = ap suc (length-senders seats)

joined-all : (port : ℕ) (old new : PortKnown) (seats : List SendKnown) (calls : List Calls) (a : AllSeatsJoined old seats new) → AreShown port calls seats
    → Joined port new.known a.joined.last calls seats
joined-all port old new seats calls a shown =
    let v = new.known in
    let k = a.joined.known in
    let senders : v.senders ≡ map sender_of seats = ap (λ (x : BusyView). x.senders) k ∙ ap (λ l. l ++ map sender_of seats) a.none_before in
    let many : length v.senders ≡ v.setup.senders = ap length senders ∙ (length-senders seats ∙ (a.many ∙ ap (λ (x : BusyView). x.setup.senders) (sym k))) in
    record { tells = a.joined.queue; senders_are = senders; all = many; shown = shown }

pub shown-hold : ShownWordsHold
shown-hold port old new seats calls a shown =
    let v = new.known in
    let k = a.joined.known in
    let setup : v.setup ≡ old.known.setup = ap (λ (x : BusyView). x.setup) k in
    let marks : v.marks ≡ old.known.marks = ap (λ (x : BusyView). x.marks) k in
    let hold = holds-of port v a.joined.last calls seats (joined-all port old new seats calls a shown) a.joined.stats in
    subst (λ m. All (WordsHold port old.known.setup.limits m calls) calls) marks (subst (λ s. All (WordsHold port s.limits v.marks calls) calls) setup hold)

-- what holds of all words holds of the first ones
front-all : (P : ℕ → Type 0) (ws more : List ℕ) → All P (ws ++ more) → All P ws
front-all P [] more all = All-nil P
front-all P (w ∷ ws) more all = All-cons P w ws (All-head P w (ws ++ more) all) (front-all P ws more (All-tail P w (ws ++ more) all))

-- the port's own words hold
own-of : (port : ℕ) (v : BusyView) (last : ℕ) (calls : List Calls) (seats : List SendKnown) → Joined port v last calls seats → QueueWordsHold port v.setup.limits calls v.words
own-of port v last calls seats j =
    let adds = adds-are port v last calls seats j in
    let once : All KeptOnce v.senders = subst (All KeptOnce) (sym j.senders_are) (once-each port calls seats j.shown) in
    record {
      bounded = λ on. subst (λ x. All (Bounded v.setup.limits.high x) v.words) adds (words-kept v last (record { limited = on; all = j.all; senders = once }) j.tells).0;
      caused = λ on. all-of (λ x. period_of x ≤ period_of last) (HasCause v.setup.limits.high (adds_of port calls)) (λ x le. has-cause port v last x calls seats j on le) v.words
          (climbs-below 0 v.words (period_of last) j.tells.climbs.0);
      free = λ off. (j.tells.off off).0;
    }

front-holds : (port : ℕ) (limits : QueueLimits) (calls : List Calls) (ws more : List ℕ) → QueueWordsHold port limits calls (ws ++ more) → QueueWordsHold port limits calls ws
front-holds port limits calls ws more h = record {
  bounded = λ on. front-all (Bounded limits.high (adds_of port calls)) ws more (h.bounded on);
  caused = λ on. front-all (HasCause limits.high (adds_of port calls)) ws more (h.caused on);
  free = λ off. front-all Unused ws more (h.free off);
}

pub own-hold : OwnWordsHold
own-hold port old new seats calls a shown =
    let v = new.known in
    let k = a.joined.known in
    let setup : v.setup ≡ old.known.setup = ap (λ (x : BusyView). x.setup) k in
    let words : v.words ≡ old.known.words ++ a.joined.last ∷ [] = ap (λ (x : BusyView). x.words) k in
    let hold = own-of port v a.joined.last calls seats (joined-all port old new seats calls a shown) in
    front-holds port old.known.setup.limits calls old.known.words (a.joined.last ∷ [])
    (subst (QueueWordsHold port old.known.setup.limits calls) words (subst (λ s. QueueWordsHold port s.limits calls v.words) setup hold))

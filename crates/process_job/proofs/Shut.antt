-- A port that a process found closed is closed by all receipts that come later.
use Rattle.std.proofs.Common.{◌≡◌, ℕ, zero, suc, ◌≤◌, List, [], ◌∷◌, ◌++◌, length, Bool, true, false, cond, eqb, Option, Some, None, sym, ap, ◌∙◌, subst, arith}
use Rattle.std.specs.Prelude.{IfSome, reverse, slice_index_or}
use Rattle.std.specs.List.{AllByRecursion}
use Rattle.std.proofs.lemmas.Bool.{false≢true}
use Rattle.std.proofs.lemmas.List.{reverse-append, reverse-reverse}
use Rattle.port_words.specs.busy.Known.{SendKnown}
use Rattle.port_words.specs.busy.Stat.{tells_closed}
use Rattle.port_words.specs.busy.Views.{fresh_sender}
use Rattle.process_end.specs.process_receipts.declared.receipt.Outcome.{Outcome}
use Rattle.process_end.specs.process_receipts.declared.receipt.Outcome.TheVariants.{Accepted, Suspended, Dropped, Closed, NotSupported, TooLong, SentOut}
use Rattle.process_end.specs.process_receipts.declared.receipt.Receipt.{Receipt}
use Rattle.process_end.specs.process_receipts.Asks.{Asked}
use Rattle.process_end.specs.process_receipts.Ledgers.{saw_closed}
use Rattle.process_end.specs.Views.{ProcView}
use Rattle.process_end.specs.Steps.{HasStepped, Looks}
use Rattle.process_end.specs.Calls.{HasMade}
use Rattle.process_end.proofs.Adds.{contrary, split}
use Rattle.process_end.proofs.Stats.{never-closed}
use Rattle.process_job.specs.Waits.{AgreesClosed, FoundClosed, ShowsClosed, StaysClosed, last_receipt, stat_shown}
use Rattle.process_job.proofs.Ports.{closed_more}

pub all_append : {X : Type 0} (P : X → Type 0) (xs ys : List X) → AllByRecursion P xs → AllByRecursion P ys → AllByRecursion P (xs ++ ys)
all_append P [] ys all more = more
all_append P (x ∷ xs) ys all more = (all.0, all_append P xs ys all.1 more)

pub all_reverse : {X : Type 0} (P : X → Type 0) (xs : List X) → AllByRecursion P xs → AllByRecursion P (reverse xs)
all_reverse P [] all = tt
all_reverse P (x ∷ xs) all = subst (AllByRecursion P) (sym (reverse-append (x ∷ []) xs)) (all_append P (reverse xs) (x ∷ []) (all_reverse P xs all.1) (all.0, tt))

-- a seat that found nothing yet
abbrev pub no_seat : SendKnown
no_seat = record {
  table = record { words = 0; slots = 0; views_name = 0; atom = 0; block = 0; offset = 0; slot_names = [] };
  setup = record { limits = record { on = false; low = 0; high = 0 }; senders = 0 };
  sender = fresh_sender 0;
}

-- a port that was found closed has a seat
pub closed_beyond : (seats : List SendKnown) (port : ℕ) → length seats ≤ port → FoundClosed port seats → ⊥
closed_beyond [] port past found = false≢true (found no_seat)
closed_beyond (seat ∷ seats) zero past found = absurd (omega (arith, past))
closed_beyond (seat ∷ seats) (suc port) past found = closed_beyond seats port (omega (arith, past)) found

-- a look of a seat that found its port closed before finds it closed
look_agrees : (seat : SendKnown) (stat : ℕ) → Looks seat stat → saw_closed seat.sender.stats ≡ true → tells_closed stat ≡ true
look_agrees seat stat looks saw = split (tells_closed stat) (λ yes. yes) (λ no.
    contrary (saw_closed (seat.sender.stats ++ stat ∷ [])) (closed_more seat.sender.stats (stat ∷ []) saw)
    (never-closed looks.marks 0 seat.sender.stats stat looks.rises no))

-- and so does a call by such a seat, where it looks
call_agrees : (ask : Asked) (seat new : SendKnown) (outcome : Outcome) (stat msgq : Option ℕ) → HasStepped ask seat new outcome stat msgq → saw_closed seat.sender.stats ≡ true
    → IfSome stat (λ word. tells_closed word ≡ true)
call_agrees ask seat new outcome None msgq step saw = tt
call_agrees ask seat new outcome (Some stat) None step saw = look_agrees seat stat step.1 saw
call_agrees ask seat new Dropped (Some stat) (Some msgq) step saw = look_agrees seat stat step.1 saw
call_agrees ask seat new Accepted (Some stat) (Some msgq) step saw = look_agrees seat stat step.1 saw
call_agrees ask seat new Suspended (Some stat) (Some msgq) step saw = look_agrees seat stat step.1 saw
call_agrees ask seat new Closed (Some stat) (Some msgq) step saw = look_agrees seat stat step.1 saw
call_agrees ask seat new NotSupported (Some stat) (Some msgq) step saw = look_agrees seat stat step.1 saw
call_agrees ask seat new TooLong (Some stat) (Some msgq) step saw = look_agrees seat stat step.1 saw
call_agrees ask seat new SentOut (Some stat) (Some msgq) step saw = look_agrees seat stat step.1 saw

pub agrees_closed : (port : ℕ) (ask : Asked) (receipt : Receipt) (old new : ProcView) → HasMade old ask new receipt → FoundClosed port old.seats → AgreesClosed port receipt
agrees_closed port ask receipt old new made found = λ is.
    let at : port ≡ ask.port = sym is ∙ made.is_receipt.port in
    call_agrees ask (slice_index_or old.seats ask.port no_seat) (slice_index_or new.seats ask.port no_seat) receipt.outcome receipt.stat receipt.msgq (made.steps no_seat)
    (subst (λ k. saw_closed (slice_index_or old.seats k no_seat).sender.stats ≡ true) at (found no_seat))

-- the last receipt for a port is among those that came last
last_front : (port : ℕ) (receipts older : List Receipt) (stat : ℕ) → stat_shown (last_receipt port receipts) ≡ Some stat → stat_shown (last_receipt port (receipts ++ older)) ≡ Some stat
last_front port [] older stat shown = absurd cc
last_front port (receipt ∷ receipts) older stat shown = at (eqb receipt.port port) (last_front port receipts older stat) shown
  where
    at : (b : Bool) → (stat_shown (last_receipt port receipts) ≡ Some stat → stat_shown (last_receipt port (receipts ++ older)) ≡ Some stat)
        → stat_shown (cond b (Some receipt) (last_receipt port receipts)) ≡ Some stat → stat_shown (cond b (Some receipt) (last_receipt port (receipts ++ older))) ≡ Some stat
    at true later e = e
    at false later e = later e

pub shows_more : (port : ℕ) (receipts older : List Receipt) → ShowsClosed port receipts → ShowsClosed port (receipts ++ older)
shows_more port receipts older shows = record { stat = shows.stat; shown = last_front port receipts older shows.stat shows.shown; closed = shows.closed }

-- a port that is closed by later receipts, and by these that came before them
pub stays_closed : (port : ℕ) (receipts later : List Receipt) → AllByRecursion (AgreesClosed port) receipts → StaysClosed port later → StaysClosed port (reverse receipts ++ later)
stays_closed port receipts later all stays = record {
  each = all_append (AgreesClosed port) (reverse receipts) later (all_reverse (AgreesClosed port) receipts all) stays.each;
  last = subst (ShowsClosed port) (sym (reverse-append (reverse receipts) later ∙ ap (λ l. reverse later ++ l) (reverse-reverse receipts))) (shows_more port (reverse later) receipts stays.last);
}

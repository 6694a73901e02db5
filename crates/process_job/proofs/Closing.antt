-- The last receipt for a port is that of its end, and shows the port closed where any load of its STAT found it closed.
use Rattle.std.proofs.Common.{◌≡◌, ◌≢◌, ℕ, ◌<◌, ◌≤◌, List, [], ◌∷◌, ◌++◌, Bool, true, false, eqb, Option, Some, None, refl, sym, ap, ◌∙◌, subst, arith}
use Rattle.std.specs.Prelude.{slice_index_or}
use Rattle.std.proofs.lemmas.Bool.Decides.{nat_tests}
use Rattle.port_words.specs.busy.Known.{SendKnown}
use Rattle.port_words.specs.busy.Stat.{tells_closed}
use Rattle.process_end.specs.process_receipts.declared.receipt.Outcome.{Outcome}
use Rattle.process_end.specs.process_receipts.declared.receipt.Outcome.TheVariants.{Accepted, Suspended, Dropped, Closed, NotSupported, TooLong, SentOut}
use Rattle.process_end.specs.process_receipts.declared.receipt.Receipt.{Receipt}
use Rattle.process_end.specs.process_receipts.Ledgers.{saw_closed}
use Rattle.process_end.specs.process_receipts.Receipts.{HasCause, soft_at}
use Rattle.process_end.specs.Views.{ProcView, calls_of}
use Rattle.process_end.specs.Steps.{looked, HasStepped, Looks}
use Rattle.process_end.specs.Ended.{gone_ask, HasToldPort, HasToldPorts}
use Rattle.process_end.proofs.Adds.{above-apart, contrary, same-from, same-number, split}
use Rattle.process_end.proofs.Stats.{never-closed}
use Rattle.process_job.specs.Waits.{ShowsClosed, last_receipt, stat_shown}

closed-last : (seat new : SendKnown) (stat : ℕ) → (new ≡ looked seat stat) × Looks seat stat → saw_closed new.sender.stats ≡ true → tells_closed stat ≡ true
closed-last seat new stat step saw = split (tells_closed stat) (λ yes. yes) (λ no.
    contrary (saw_closed (seat.sender.stats ++ stat ∷ []))
    (sym (ap (λ (s : SendKnown). saw_closed s.sender.stats) step.0) ∙ saw)
    (never-closed step.1.marks 0 seat.sender.stats stat step.1.rises no))

-- the call that tells a port of the end found a STAT word, which is the last one of the seat
found : (calls : ℕ) (soft : Bool) (reason : List ℕ) (port : ℕ) (seat new : SendKnown) (outcome : Outcome) (stat msgq : Option ℕ) → HasCause calls soft (gone_ask reason port) outcome stat msgq
    → HasStepped (gone_ask reason port) seat new outcome stat msgq → (s : ℕ) × (stat ≡ Some s) × (saw_closed new.sender.stats ≡ true → tells_closed s ≡ true)
found calls soft reason port seat new Accepted (Some stat) None cause step = (stat, refl, closed-last seat new stat step)
found calls soft reason port seat new Closed (Some stat) None cause step = (stat, refl, closed-last seat new stat step)
found calls soft reason port seat new Accepted (Some stat) (Some msgq) cause step = absurd (let no = cause.1 in cc)
found calls soft reason port seat new Accepted None (Some msgq) cause step = absurd cause
found calls soft reason port seat new Accepted None None cause step = absurd cause
found calls soft reason port seat new Closed (Some stat) (Some msgq) cause step = absurd cause
found calls soft reason port seat new Closed None msgq cause step = absurd cause
found calls soft reason port seat new Suspended (Some stat) (Some msgq) cause step = absurd (let no = cause.1 in cc)
found calls soft reason port seat new Suspended (Some stat) None cause step = absurd cause
found calls soft reason port seat new Suspended None msgq cause step = absurd cause
found calls soft reason port seat new Dropped (Some stat) (Some msgq) cause step = absurd (let no = cause.1 in cc)
found calls soft reason port seat new Dropped (Some stat) None cause step = absurd (let no = cause.1 in cc)
found calls soft reason port seat new Dropped None msgq cause step = absurd cause
found calls soft reason port seat new SentOut None None cause step = absurd (let no = cause.0 in cc)
found calls soft reason port seat new SentOut (Some stat) msgq cause step = absurd cause
found calls soft reason port seat new SentOut None (Some msgq) cause step = absurd cause
found calls soft reason port seat new TooLong None None cause step = absurd (let no = cause.1 in cc)
found calls soft reason port seat new TooLong (Some stat) msgq cause step = absurd cause
found calls soft reason port seat new TooLong None (Some msgq) cause step = absurd cause
found calls soft reason port seat new NotSupported None None cause step = absurd (let no = cause.2 in cc)
found calls soft reason port seat new NotSupported (Some stat) msgq cause step = absurd cause
found calls soft reason port seat new NotSupported None (Some msgq) cause step = absurd cause

-- the newest receipt is for this port, or for another one
newest : (port : ℕ) (receipt : Receipt) (older : List Receipt) → receipt.port ≡ port → last_receipt port (receipt ∷ older) ≡ Some receipt
newest port receipt older same = rw (ap (λ n. eqb n port) same ∙ same-number port) refl

older-one : (port : ℕ) (receipt : Receipt) (older : List Receipt) → port < receipt.port → last_receipt port (receipt ∷ older) ≡ last_receipt port older
older-one port receipt older before = rw (above-apart port receipt.port before) refl

apart : (n m : ℕ) → eqb n m ≡ false → n ≢ m
apart n m e = grind (arith, nat_tests)

-- a port that was told last
told-here : (reason : List ℕ) (old new : ProcView) (receipt : Receipt) (older : List Receipt) (d : SendKnown) → HasToldPort reason old new receipt
    → saw_closed (slice_index_or new.seats old.told d).sender.stats ≡ true → ShowsClosed old.told (receipt ∷ older)
told-here reason old new receipt older d h saw =
    let is = h.made.is_receipt in
    let at = found (calls_of old) (soft_at old.told old.soft) reason old.told (slice_index_or old.seats old.told d) (slice_index_or new.seats old.told d) receipt.outcome receipt.stat receipt.msgq is.cause (h.made.steps d) in
    record {
      stat = at.0;
      shown = ap stat_shown (newest old.told receipt older is.port) ∙ at.1;
      closed = at.2 saw;
    }

-- each port that was told
pub told-shown : (reason : List ℕ) (old : ProcView) (receipts : List Receipt) (new : ProcView) → HasToldPorts reason old receipts new → (k : ℕ) (d : SendKnown) → old.told ≤ k → k < new.told
    → saw_closed (slice_index_or new.seats k d).sender.stats ≡ true → ShowsClosed k receipts
told-shown reason old [] new h k d from below saw = absurd (let same = ap (λ (p : ProcView). p.told) h in omega (arith, same, from, below))
told-shown reason old (receipt ∷ receipts) new h k d from below saw = split (eqb k h.0.told)
    (λ e. let at : k ≡ h.0.told = same-from k h.0.told e in
    subst (λ n. ShowsClosed n (receipt ∷ receipts)) (sym at) (told-here reason h.0 new receipt receipts d h.2 (subst (λ n. saw_closed (slice_index_or new.seats n d).sender.stats ≡ true) at saw)))
    (λ e. let counts = h.2.counts in
    let differs : k ≢ h.0.told = apart k h.0.told e in
    let less : k < h.0.told = omega (arith, counts, below, differs) in
    let is = h.2.made.is_receipt.port in
    let s = told-shown reason old receipts h.0 h.1 k d from less (sym (ap (λ (x : SendKnown). saw_closed x.sender.stats) (h.2.made.touched.seats_same k d differs)) ∙ saw) in
    record {
      stat = s.stat;
      shown = ap stat_shown (older-one k receipt receipts (omega (arith, less, is))) ∙ s.shown;
      closed = s.closed;
    })

-- When a suspended process is free again.
use Rattle.std.proofs.Common.{arith, zero, suc, ◌≡◌, ℕ, ◌%◌, ◌<◌, ◌≤◌, List, [], ◌∷◌, ◌++◌, length, Bool, true, false, eqb, ◌&&◌, ◌||◌, refl, sym, ap, ◌∙◌, subst}
use Rattle.std.specs.Prelude.{nat_lt, slice_index_or}
use Rattle.std.specs.List.{Contains, list_any}
use Rattle.std.proofs.lemmas.List.Elements.{All-head, All-weaker, Contains-append_left}
use Rattle.std.proofs.lemmas.List.Folds.{list_any-append}
use Rattle.std.proofs.lemmas.Bool.Decides.{nat_tests}
use Rattle.port_words.specs.declared.busy.view.QueueAdd.{QueueAdd}
use Rattle.port_words.specs.declared.busy.view.SenderView.{SenderView}
use Rattle.port_words.specs.busy.Known.{SendKnown}
use Rattle.port_words.specs.busy.Queue.{period_of, Climbs}
use Rattle.port_words.specs.busy.Stat.{tells_closed}
use Rattle.port_lanes.specs.port_history.Suspension.{is_queue_busy}
use Rattle.suspend_list.specs.declared.note.StopNote.{StopNote}
use Rattle.suspend_list.specs.Notes.{MustWait}
use Rattle.process_receipts.specs.Asks.{Asked}
use Rattle.process_receipts.specs.Ledgers.{kept_adds, is_plain, saw_closed, saw_later, is_stopping_add, IsFree, IsOver, IsWaiting}
use Rattle.process_end.specs.Views.{ProcView, StoppedView}
use Rattle.process_end.specs.Calls.{HasAsked}
use Rattle.process_end.specs.Looked.{FindsWords, HasFoundWords}
use Rattle.process_end.specs.Ports.{AllFree, HasStopped}
use Rattle.process_end.proofs.Adds.{split, climbs-from, or-one, same-from, over-more}
use Rattle.process_end.proofs.Heard.{heard_more}
use Rattle.process_end.proofs.Made.{each-place}

-- the period of a word that was heard is none later than the present one
period-below : (from to : ℕ) (ws : List ℕ) (w k : ℕ) → k < length ws → slice_index_or ws k w ≡ w → Climbs from ws to → period_of w ≤ to
period-below from to [] w k lt e c = absurd (omega arith)
period-below from to (v ∷ ws) w zero lt e c = subst (λ u. period_of u ≤ to) e (climbs-from (period_of v) to ws c.1)
period-below from to (v ∷ ws) w (suc k) lt e c = period-below (period_of v) to ws w k (omega arith) e c.1

and-right : (a b : Bool) → (a && b) ≡ true → b ≡ true
and-right true b e = e
and-right false b e = absurd cc

or-left : (a b : Bool) → a ≡ true → (a || b) ≡ true
or-left a b e = rw e refl

or-last : (a b : Bool) → b ≡ true → (a || b) ≡ true
or-last true b e = refl
or-last false b e = e

busy-odd : (w : ℕ) → is_queue_busy w ≡ true → period_of w % 2 ≡ 1
busy-odd w e = same-from (period_of w % 2) 1 e

not-later : (n m : ℕ) → nat_lt n m ≡ false → m ≤ n
not-later n m e = grind (arith, nat_tests)

-- an add of the note's period is over once the words say so
over-resumed : (s t : SenderView) (note : StopNote) (msgq stat : ℕ) (a : QueueAdd) → t.stats ≡ s.stats ++ stat ∷ [] → t.words ≡ s.words ++ msgq ∷ []
    → period_of note.msgq ≤ period_of msgq → (MustWait note msgq stat → ⊥) → period_of a.word ≡ period_of note.msgq → IsOver t a
over-resumed s t note msgq stat a e f up goes same stops =
    let later : ℕ → Bool = λ w. nat_lt (period_of a.word) (period_of w) in
    split (tells_closed stat)
    (λ closed. or-left (saw_closed t.stats) (saw_later (period_of a.word) t.words)
    (ap saw_closed e ∙ (list_any-append tells_closed s.stats (stat ∷ []) ∙ (ap (λ b. saw_closed s.stats || (b || false)) closed ∙ or-one (saw_closed s.stats) false))))
    (λ opened. split (nat_lt (period_of a.word) (period_of msgq))
    (λ above. or-last (saw_closed t.stats) (saw_later (period_of a.word) t.words)
    (ap (saw_later (period_of a.word)) f ∙ (list_any-append later s.words (msgq ∷ []) ∙ (ap (λ b. list_any later s.words || (b || false)) above ∙ or-one (list_any later s.words) false))))
    (λ below.
    let le : period_of msgq ≤ period_of a.word = not-later (period_of a.word) (period_of msgq) below in
    let is : period_of msgq ≡ period_of note.msgq = omega arith in
    let odd : period_of a.word % 2 ≡ 1 = busy-odd a.word (and-right (is_plain a.how) (is_queue_busy a.word) stops) in
    absurd (goes (record { same_period = is; busy = ap (λ n. n % 2) (is ∙ sym same) ∙ odd; opened = opened }))))

pub free-resumed : (s t : SenderView) (note : StopNote) (msgq stat : ℕ) → t.ledger ≡ s.ledger → t.stats ≡ s.stats ++ stat ∷ [] → t.words ≡ s.words ++ msgq ∷ []
    → Climbs 0 (s.words ++ msgq ∷ []) (period_of msgq) → IsWaiting note.msgq s → (MustWait note msgq stat → ⊥) → IsFree t
free-resumed s t note msgq stat g e f climbs waiting goes =
    let P : QueueAdd → Type 0 = λ a. is_stopping_add a ≡ true → eqb (period_of a.word) (period_of note.msgq) ≡ false → IsOver s a in
    let heard : Contains (s.words ++ msgq ∷ []) note.msgq = Contains-append_left s.words (msgq ∷ []) note.msgq waiting.heard in
    let up : period_of note.msgq ≤ period_of msgq = period-below 0 (period_of msgq) (s.words ++ msgq ∷ []) note.msgq heard.0 heard.1 heard.2 climbs in
    rw g (All-weaker P (IsOver t)
    (λ a p stops. split (eqb (period_of a.word) (period_of note.msgq))
    (λ same. over-resumed s t note msgq stat a e f up goes (same-from (period_of a.word) (period_of note.msgq) same) stops)
    (λ apart. over-more s t a (stat ∷ []) (msgq ∷ []) e f (p stops apart) stops))
    (kept_adds s.ledger) waiting.free)

-- it waits on with more words
pub waits-more : (seat : SendKnown) (word : ℕ) (stats words : List ℕ) → IsWaiting word seat.sender → IsWaiting word (heard_more seat stats words).sender
waits-more seat word stats words waiting = record {
  heard = Contains-append_left seat.sender.words words word waiting.heard;
  free = All-weaker (λ a. is_stopping_add a ≡ true → eqb (period_of a.word) (period_of word) ≡ false → IsOver seat.sender a)
      (λ a. is_stopping_add a ≡ true → eqb (period_of a.word) (period_of word) ≡ false → IsOver (heard_more seat stats words).sender a)
      (λ a p stops apart. over-more seat.sender (heard_more seat stats words).sender a stats words refl refl (p stops apart)) (kept_adds seat.sender.ledger) waiting.free;
}

climbs-found : (seat new : SendKnown) (msgq stat : ℕ) → FindsWords seat new msgq stat → Climbs 0 (seat.sender.words ++ msgq ∷ []) (period_of msgq)
climbs-found seat new msgq stat h = All-head (λ s. Climbs 0 s.words (period_of msgq)) _ [] h.queue.climbs.1

pub free-found : (s : StoppedView) (new : ProcView) (msgq stat : ℕ) → HasStopped s → HasFoundWords s.note.port s.proc new msgq stat → (MustWait s.note msgq stat → ⊥) → AllFree new
free-found s new msgq stat stopped h goes = subst AllFree (sym h.rest) (λ k e within.
    each-place (λ j. j < length s.proc.lanes → IsFree (slice_index_or new.seats j e).sender) s.note.port
    (λ w. let finds = h.finds e in
    let seat = slice_index_or s.proc.seats s.note.port e in
    subst (λ v. IsFree v.sender) (sym finds.step)
    (free-resumed seat.sender (heard_more seat (stat ∷ []) (msgq ∷ [])).sender s.note msgq stat refl refl refl
    (climbs-found seat (slice_index_or new.seats s.note.port e) msgq stat finds) (stopped.waiting e) goes))
    (λ j apart w. rw (h.touched.seats_same j e apart) (stopped.others j e w apart))
    k within)

pub stopped-found : (s : StoppedView) (new : ProcView) (msgq stat : ℕ) (resumed : Bool) → HasStopped s → HasFoundWords s.note.port s.proc new msgq stat
    → HasStopped (record { proc = new; note = s.note; resumed = resumed })
stopped-found s new msgq stat resumed stopped h = subst (λ p. HasStopped (record { proc = p; note = s.note; resumed = resumed })) (sym h.rest) (record {
  port = stopped.port;
  waiting = λ e. subst (λ v. IsWaiting s.note.msgq v.sender) (sym (h.finds e).step) (waits-more (slice_index_or s.proc.seats s.note.port e) s.note.msgq (stat ∷ []) (msgq ∷ []) (stopped.waiting e));
  others = λ k e within apart. rw (h.touched.seats_same k e apart) (stopped.others k e within apart);
})

-- a mail that was taken leaves the ports as they are
pub stopped-mailed : (s : StoppedView) (new : ProcView) (resumed : Bool) → HasStopped s → new ≡ record s.proc { mailbox = new.mailbox }
    → HasStopped (record { proc = new; note = s.note; resumed = resumed })
stopped-mailed s new resumed stopped e = subst (λ p. HasStopped (record { proc = p; note = s.note; resumed = resumed })) (sym e)
    (record { port = stopped.port; waiting = stopped.waiting; others = stopped.others })

pub asked-mailed : (old new : ProcView) (asks : List Asked) → new ≡ record old { mailbox = new.mailbox } → HasAsked asks old → HasAsked asks new
asked-mailed old new asks e h = subst (HasAsked asks) (sym e) (record { receipts = h.receipts; sent = h.sent; undone = h.undone; adds = h.adds; stats = h.stats; words = h.words })

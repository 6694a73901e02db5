-- What the steps of one call keep of its seat.
use Rattle.std.proofs.Common.{arith, ◌≡◌, ℕ, ◌+◌, ◌<◌, ◌≤◌, List, [], ◌∷◌, ◌++◌, length, Bool, true, false, cond, ◌&&◌, ◌||◌, Option, Some, None, refl, sym, ap, ◌∙◌, subst, append_assoc}
use Rattle.std.specs.Prelude.{map}
use Rattle.std.proofs.lemmas.List.{append-nil, map-append, length-append}
use Rattle.std.proofs.lemmas.List.Elements.{All-head, All-push}
use Rattle.port_words.specs.declared.busy.view.AddHow.{AddHow}
use Rattle.port_words.specs.declared.busy.view.AddName.{AddName}
use Rattle.port_words.specs.declared.busy.view.QueueAdd.{QueueAdd}
use Rattle.port_words.specs.declared.busy.view.SenderView.{SenderView}
use Rattle.port_words.specs.busy.Known.{SendKnown, send_known, FindsBusy}
use Rattle.port_words.specs.busy.Queue.{period_of, Climbs}
use Rattle.port_words.specs.busy.Stat.{tells_closed, tells_busy}
use Rattle.port_words.specs.busy.Steps.{saw, adding, heard, undoing, next_add, next_name}
use Rattle.port_model.specs.Signals.{data_size, is_command}
use Rattle.port_lanes.specs.port_history.Suspension.{is_queue_busy}
use Rattle.process_receipts.specs.declared.how.How.{How}
use Rattle.process_receipts.specs.declared.how.How.TheVariants.{Plain, Owner, NoSuspend, Force, ForceNoSuspend}
use Rattle.process_receipts.specs.declared.receipt.Outcome.{Outcome}
use Rattle.process_receipts.specs.declared.receipt.Outcome.TheVariants.{Accepted, Suspended, Dropped, Closed, NotSupported, TooLong, SentOut}
use Rattle.process_receipts.specs.Asks.{Asked, add_how, is_stopping, is_suspended}
use Rattle.process_receipts.specs.Receipts.{HasCause, ShownAdd, is_put, shown_by, word_list, IsSublist}
use Rattle.process_receipts.specs.Ledgers.{kept_adds, shown_add, is_plain, ArePlaced, OncePlain, IsFree, IsWaiting}
use Rattle.process_end.specs.Steps.{looked, Looks, HasAdded, HasStepped, HasUndone}
use Rattle.process_end.specs.Calls.{HasLooked}
use Rattle.process_end.proofs.Adds.{split, contrary, free-more, free-added, waiting-added, free-undone, once-added, kept-added, kept-undone, placed-added, wider}
use Rattle.process_end.proofs.Stats.{never-closed, sublist-more, sublist-push}

-- the add that a call with this outcome and this word shows
abbrev pub put_add : Asked → Outcome → Option ℕ → List ShownAdd
put_add ask outcome msgq = cond (is_put outcome) (shown_by ask msgq) []

pub record SeatKeeps (ask : Asked) (seat new : SendKnown) (outcome : Outcome) (stat msgq : Option ℕ) : Type 0 where
  pub table : new.table ≡ seat.table
  pub few : length new.sender.ledger.adds ≤ length seat.sender.ledger.adds + 1
  pub placed : ArePlaced new.sender.ledger
  pub once : OncePlain new.sender.ledger
  pub undone : length new.sender.ledger.undone ≡ length seat.sender.ledger.undone
  pub free : is_suspended outcome ≡ false → IsFree new.sender
  pub waiting : (word : ℕ) → msgq ≡ Some word → is_suspended outcome ≡ true → IsWaiting word new.sender
  pub adds : map shown_add (kept_adds new.sender.ledger) ≡ map shown_add (kept_adds seat.sender.ledger) ++ put_add ask outcome msgq
  pub stats : (ws : List ℕ) → IsSublist ws seat.sender.stats → IsSublist (ws ++ word_list stat) new.sender.stats
  pub words : (ws : List ℕ) → IsSublist ws seat.sender.words → IsSublist (ws ++ word_list msgq) new.sender.words

put-none : (ask : Asked) (outcome : Outcome) (xs : List ShownAdd) → xs ≡ xs ++ put_add ask outcome None
put-none ask outcome xs = split (is_put outcome) (λ t. rw t (sym (append-nil xs))) (λ f. rw f (sym (append-nil xs)))

no-word : (ws all : List ℕ) → IsSublist ws all → IsSublist (ws ++ []) all
no-word ws all s = subst (λ vs. IsSublist vs all) (sym (append-nil ws)) s

pub same-keeps : (ask : Asked) (seat new : SendKnown) (outcome : Outcome) → new ≡ seat → is_suspended outcome ≡ false
    → ArePlaced seat.sender.ledger → OncePlain seat.sender.ledger → IsFree seat.sender → SeatKeeps ask seat new outcome None None
same-keeps ask seat new outcome e calm placed once free = subst (λ v. SeatKeeps ask seat v outcome None None) (sym e) (record {
  table = refl;
  few = omega arith;
  placed = placed;
  once = once;
  undone = refl;
  free = λ _. free;
  waiting = λ word _ stops. contrary (is_suspended outcome) stops calm;
  adds = put-none ask outcome (map shown_add (kept_adds seat.sender.ledger));
  stats = λ ws s. no-word ws seat.sender.stats s;
  words = λ ws s. no-word ws seat.sender.words s;
})

saw-free : (s : SenderView) (stat : ℕ) → IsFree s → IsFree (saw s stat)
saw-free s stat free = free-more s (saw s stat) (stat ∷ []) [] refl refl (sym (append-nil s.words)) free

pub looked-keeps : (ask : Asked) (seat new : SendKnown) (outcome : Outcome) (stat : ℕ) → new ≡ looked seat stat → is_suspended outcome ≡ false
    → ArePlaced seat.sender.ledger → OncePlain seat.sender.ledger → IsFree seat.sender → SeatKeeps ask seat new outcome (Some stat) None
looked-keeps ask seat new outcome stat e calm placed once free = subst (λ v. SeatKeeps ask seat v outcome (Some stat) None) (sym e) (record {
  table = refl;
  few = omega arith;
  placed = placed;
  once = once;
  undone = refl;
  free = λ _. saw-free seat.sender stat free;
  waiting = λ word _ stops. contrary (is_suspended outcome) stops calm;
  adds = put-none ask outcome (map shown_add (kept_adds seat.sender.ledger));
  stats = λ ws s. sublist-push ws seat.sender.stats stat s;
  words = λ ws s. no-word ws seat.sender.words s;
})

dropped-keeps : (ask : Asked) (seat new : SendKnown) (stat word : ℕ) → FindsBusy (looked seat stat) new (add_how ask.how) word
    → ArePlaced seat.sender.ledger → OncePlain seat.sender.ledger → IsFree seat.sender → SeatKeeps ask seat new Dropped (Some stat) (Some word)
dropped-keeps ask seat new stat word finds placed once free =
    let s : SenderView = saw seat.sender stat in
    let words : List ℕ = finds.found ++ word ∷ [] in
    subst (λ v. SeatKeeps ask seat v Dropped (Some stat) (Some word)) (sym finds.seat) (record {
      table = refl;
      few = omega arith;
      placed = placed;
      once = once;
      undone = refl;
      free = λ _. free-more s (heard s words) [] words refl (sym (append-nil s.stats)) refl (saw-free seat.sender stat free);
      waiting = λ w _ stops. absurd cc;
      adds = sym (append-nil (map shown_add (kept_adds seat.sender.ledger)));
      stats = λ ws s. sublist-push ws seat.sender.stats stat s;
      words = λ ws p. subst (IsSublist (ws ++ word ∷ [])) (append_assoc seat.sender.words finds.found (word ∷ []))
          (sublist-push ws (seat.sender.words ++ finds.found) word (sublist-more ws seat.sender.words finds.found p));
    })

added-climbs : (ask : Asked) (seat new : SendKnown) (stat word : ℕ) (h : HasAdded ask.how (data_size ask.signal) (looked seat stat) new word)
    → Climbs 0 (adding (heard (saw seat.sender stat) (h.adds.found ++ h.adds.last ∷ [])) (add_how ask.how) (data_size ask.signal) word).words (period_of word)
added-climbs ask seat new stat word h =
    subst (λ v. Climbs 0 v.sender.words (period_of word)) h.adds.seat (All-head (λ s. Climbs 0 s.words (period_of word)) new.sender [] h.adds.tells.climbs.1)

added-keeps : (ask : Asked) (seat new : SendKnown) (outcome : Outcome) (stat word : ℕ) → HasAdded ask.how (data_size ask.signal) (looked seat stat) new word → Looks seat stat
    → tells_closed stat ≡ false → is_put outcome ≡ true → (is_suspended outcome ≡ false → (is_plain (add_how ask.how) && is_queue_busy word) ≡ false)
    → ArePlaced seat.sender.ledger → OncePlain seat.sender.ledger → IsFree seat.sender → SeatKeeps ask seat new outcome (Some stat) (Some word)
added-keeps ask seat new outcome stat word h looks open' put calm placed once free =
    let s : SenderView = saw seat.sender stat in
    let how : AddHow = add_how ask.how in
    let size : ℕ = data_size ask.signal in
    let found : List ℕ = h.adds.found ++ h.adds.last ∷ [] in
    let x : QueueAdd = next_add s.ledger how size word in
    let is-free : IsFree s = saw-free seat.sender stat free in
    subst (λ v. SeatKeeps ask seat v outcome (Some stat) (Some word)) (sym h.adds.seat) (record {
      table = refl;
      few = omega (arith, length-append seat.sender.ledger.adds (x ∷ []));
      placed = placed-added s.ledger how size word s.ledger.undone placed (wider s.ledger placed);
      once = once-added s found how size word placed is-free (never-closed looks.marks 0 seat.sender.stats stat looks.rises open') (added-climbs ask seat new stat word h) once;
      free = λ e. free-added s found how size word placed is-free (calm e);
      waiting = λ w e stops. let same : word ≡ w = cc in subst (λ u. IsWaiting u (adding (heard s found) how size word)) same (waiting-added s found how size word placed is-free);
      undone = refl;
      adds = ap (map shown_add) (kept-added s.ledger how size word placed)
          ∙ (map-append shown_add (kept_adds s.ledger) (x ∷ [])
          ∙ ap (λ b. map shown_add (kept_adds s.ledger) ++ cond b (shown_by ask (Some word)) []) (sym put));
      stats = λ ws p. sublist-push ws seat.sender.stats stat p;
      words = λ ws p. sublist-push ws (seat.sender.words ++ found) word (sublist-more ws seat.sender.words found p);
    })

or-free : (b q : Bool) → (b || q) ≡ false → q ≡ false
or-free true q e = absurd cc
or-free false q e = e

calm-add : (how : How) (c b q : Bool) → c ≡ true → ((c && is_stopping how) ≡ true → (b || q) ≡ false) → (is_plain (add_how how) && q) ≡ false
calm-add Plain true b q e f = or-free b q (f refl)
calm-add Owner true b q e f = or-free b q (f refl)
calm-add Plain false b q e f = absurd cc
calm-add Owner false b q e f = absurd cc
calm-add NoSuspend c b q e f = refl
calm-add Force c b q e f = refl
calm-add ForceNoSuspend c b q e f = refl

-- what a call with a receipt keeps of its seat
pub keeps : (calls : ℕ) (soft : Bool) (ask : Asked) (seat new : SendKnown) (outcome : Outcome) (stat msgq : Option ℕ) → HasStepped ask seat new outcome stat msgq
    → HasCause calls soft ask outcome stat msgq → ArePlaced seat.sender.ledger → OncePlain seat.sender.ledger → IsFree seat.sender → SeatKeeps ask seat new outcome stat msgq
keeps calls soft ask seat new SentOut None None step cause placed once free = same-keeps ask seat new SentOut step refl placed once free
keeps calls soft ask seat new TooLong None None step cause placed once free = same-keeps ask seat new TooLong step refl placed once free
keeps calls soft ask seat new NotSupported None None step cause placed once free = same-keeps ask seat new NotSupported step refl placed once free
keeps calls soft ask seat new Closed (Some stat) None step cause placed once free = looked-keeps ask seat new Closed stat step.0 refl placed once free
keeps calls soft ask seat new Dropped (Some stat) None step cause placed once free = looked-keeps ask seat new Dropped stat step.0 refl placed once free
keeps calls soft ask seat new Accepted (Some stat) None step cause placed once free = looked-keeps ask seat new Accepted stat step.0 refl placed once free
keeps calls soft ask seat new Dropped (Some stat) (Some word) step cause placed once free = dropped-keeps ask seat new stat word step.0 placed once free
keeps calls soft ask seat new Accepted (Some stat) (Some word) step cause placed once free =
    added-keeps ask seat new Accepted stat word step.0 step.1 cause.0.opened refl
    (λ _. calm-add ask.how (is_command ask.signal) (tells_busy stat) (is_queue_busy word) cause.1 cause.3) placed once free
keeps calls soft ask seat new Suspended (Some stat) (Some word) step cause placed once free =
    added-keeps ask seat new Suspended stat word step.0 step.1 cause.0.opened refl (λ e. absurd cc) placed once free
keeps calls soft ask seat new outcome stat msgq step cause placed once free = absurd cause

-- what a call without a receipt keeps of it
pub record SeatMisses (seat new : SendKnown) (more : ℕ) : Type 0 where
  pub table : new.table ≡ seat.table
  pub few : length new.sender.ledger.adds ≤ length seat.sender.ledger.adds + more
  pub placed : ArePlaced new.sender.ledger
  pub kept : kept_adds new.sender.ledger ≡ kept_adds seat.sender.ledger
  pub undone : length new.sender.ledger.undone ≤ length seat.sender.ledger.undone + more
  pub free : IsFree new.sender
  pub stats : (ws : List ℕ) → IsSublist ws seat.sender.stats → IsSublist ws new.sender.stats
  pub words : (ws : List ℕ) → IsSublist ws seat.sender.words → IsSublist ws new.sender.words

undone-misses : (ask : Asked) (seat new : SendKnown) (stat : ℕ) → HasUndone ask.how (data_size ask.signal) (looked seat stat) new
    → ArePlaced seat.sender.ledger → IsFree seat.sender → SeatMisses seat new 1
undone-misses ask seat new stat h placed free =
    let s : SenderView = saw seat.sender stat in
    let how : AddHow = add_how ask.how in
    let size : ℕ = data_size ask.signal in
    let found : List ℕ = h.adds.found ++ h.adds.last ∷ [] in
    let again : List ℕ = h.takes_back.found ++ h.takes_back.last ∷ [] in
    let name : AddName = next_name s.ledger size in
    let t : SenderView = undoing (heard (adding (heard s found) how size h.msgq) again) (name ∷ []) h.left in
    let is : new ≡ send_known seat.table seat.setup t =
    h.takes_back.seat ∙ (ap (λ n. send_known h.between.table h.between.setup (undoing (heard h.between.sender again) (n ∷ []) h.left)) (ap (λ w. w.name) h.adds.weight_is)
    ∙ ap (λ v. send_known v.table v.setup (undoing (heard v.sender again) (name ∷ []) h.left)) h.adds.seat) in
    let words-are : t.words ≡ seat.sender.words ++ (((found ++ h.msgq ∷ []) ++ again) ++ h.left ∷ []) = simp append_assoc in
    subst (λ v. SeatMisses seat v 1) (sym is) (record {
      table = refl;
      few = omega (arith, length-append seat.sender.ledger.adds (next_add s.ledger how size h.msgq ∷ []));
      placed = placed-added s.ledger how size h.msgq (s.ledger.undone ++ name ∷ []) placed
          (All-push (λ n. n.place < length s.ledger.adds + 1) s.ledger.undone name (wider s.ledger placed) (omega arith));
      kept = kept-undone s.ledger how size h.msgq placed;
      undone = omega (arith, length-append s.ledger.undone (name ∷ []));
      free = free-undone s t (((found ++ h.msgq ∷ []) ++ again) ++ h.left ∷ []) how size h.msgq placed (saw-free seat.sender stat free) refl words-are refl;
      stats = λ ws p. sublist-more ws seat.sender.stats (stat ∷ []) p;
      words = λ ws p. subst (IsSublist ws) (sym words-are) (sublist-more ws seat.sender.words (((found ++ h.msgq ∷ []) ++ again) ++ h.left ∷ []) p);
    })

looked-misses : (seat new : SendKnown) (stat : ℕ) → new ≡ looked seat stat → ArePlaced seat.sender.ledger → IsFree seat.sender → SeatMisses seat new 0
looked-misses seat new stat e placed free = subst (λ v. SeatMisses seat v 0) (sym e) (record {
  table = refl;
  few = omega arith;
  placed = placed;
  kept = refl;
  undone = omega arith;
  free = saw-free seat.sender stat free;
  stats = λ ws p. sublist-more ws seat.sender.stats (stat ∷ []) p;
  words = λ ws p. p;
})

pub misses : (ask : Asked) (seat new : SendKnown) (stat : ℕ) → HasLooked ask stat seat new → ArePlaced seat.sender.ledger → IsFree seat.sender → SeatMisses seat new (cond (is_command ask.signal) 1 0)
misses ask seat new stat h placed free = split (is_command ask.signal)
    (λ c. rw c (undone-misses ask seat new stat (h.command c) placed free))
    (λ c. rw c (looked-misses seat new stat (h.other c) placed free))

-- The end of a process that made its steps.
use Rattle.std.proofs.Common.{◌≡◌, ℕ, ◌+◌, ◌<◌, ◌≤◌, List, [], ◌∷◌, ◌++◌, length, Bool, true, false, cond, ◌&&◌, zero, suc, refl, sym, ap, ◌∙◌, subst, arith, zero-add, ⊎_elim}
use Rattle.std.specs.Prelude.{reverse}
use Rattle.std.specs.List.{AllByRecursion}
use Rattle.std.proofs.lemmas.Bool.{cases_lt}
use Rattle.std.proofs.lemmas.List.{append-nil, reverse-append, reverse-reverse}
use Rattle.port_model.specs.declared.mail.Mail.{Mail}
use Rattle.process_end.specs.process_receipts.declared.receipt.Receipt.{Receipt}
use Rattle.process_end.specs.process_receipts.Asks.{Asked}
use Rattle.process_end.specs.process_receipts.Receipts.{is_put}
use Rattle.process_end.specs.declared.answers.ProcEnd.{ProcEnd}
use Rattle.process_end.specs.Views.{ProcView}
use Rattle.process_end.specs.Calls.{HasAsked}
use Rattle.process_end.specs.Ended.{gone_ask, gone_asks, HasToldPorts, HasEnded}
use Rattle.process_end.proofs.Adds.{split}
use Rattle.script_plan.specs.declared.step.Step.{Step}
use Rattle.process_job.specs.Asks.{calls_of, end_reason, made_of}
use Rattle.process_job.specs.Mails.{own_mails, is_closed, AreReplied}
use Rattle.process_job.specs.Going.{state, AreSamePorts, HasHeard}
use Rattle.process_job.specs.Jobs.{IsFreshProcess}
use Rattle.process_job.specs.Steps.{HasMadeSteps, HasRunToEnd, HasTakenNone}
use Rattle.process_job.specs.Waits.{AgreesClosed, FoundClosed, ShowsClosed, WaitsAreShown}
use Rattle.process_job.proofs.Closing.{told-shown}
use Rattle.process_job.proofs.Mailing.{own_mails-append, replied_append}
use Rattle.process_job.proofs.Ports.{same_ports, ports_then, ports_made}
use Rattle.process_job.proofs.Shut.{agrees_closed, all_reverse, closed_beyond, no_seat}

-- what telling the ports leaves
pub record TellsPorts (receipts : List Receipt) (old new : ProcView) : Type 0 where
  pub number : new.number ≡ old.number
  pub soft : new.soft ≡ old.soft
  pub mailbox : new.mailbox ≡ old.mailbox
  pub receipts_are : new.receipts ≡ receipts ++ old.receipts
  pub ports : AreSamePorts old.lanes new.lanes old.seats new.seats

pub told_ports : (reason : List ℕ) (old : ProcView) (receipts : List Receipt) (new : ProcView) → HasToldPorts reason old receipts new → TellsPorts receipts old new
told_ports reason old [] new h = subst (TellsPorts [] old) (sym h) (record { number = refl; soft = refl; mailbox = refl; receipts_are = refl; ports = same_ports old.lanes old.seats })
told_ports reason old (receipt ∷ receipts) new h =
    let t = told_ports reason old receipts h.0 h.1 in
    let rest = h.2.made.rest in
    record {
      number = ap (λ (p : ProcView). p.number) rest ∙ t.number;
      soft = ap (λ (p : ProcView). p.soft) rest ∙ t.soft;
      mailbox = ap (λ (p : ProcView). p.mailbox) rest ∙ t.mailbox;
      receipts_are = ap (λ (p : ProcView). p.receipts) rest ∙ ap (λ l. receipt ∷ l) t.receipts_are;
      ports = ports_then old.lanes h.0.lanes new.lanes old.seats h.0.seats new.seats t.ports (ports_made (gone_ask reason h.0.told) receipt h.0 (record new { told = h.0.told }) h.2.made);
    }

-- no port that was found closed is told as an open one
told_closed : (reason : List ℕ) (old : ProcView) (receipts : List Receipt) (new : ProcView) → HasToldPorts reason old receipts new → (k : ℕ) → FoundClosed k old.seats
    → AllByRecursion (AgreesClosed k) receipts
told_closed reason old [] new h k found = tt
told_closed reason old (receipt ∷ receipts) new h k found =
    let t = told_ports reason old receipts h.0 h.1 in (
      agrees_closed k (gone_ask reason h.0.told) receipt h.0 (record new { told = h.0.told }) h.2.made (λ d. (t.ports.same_seats k d).closed (found d)),
      told_closed reason old receipts h.0 h.1 k found,
    )

-- who tells its end adds no mail, and waits for no answer
gone_mails : (reason : List ℕ) (from : ℕ) (receipts : List Receipt) (count : ℕ) → own_mails (gone_asks reason from count) receipts ≡ []
gone_mails reason from receipts zero = refl
gone_mails reason from [] (suc count) = refl
gone_mails reason from (receipt ∷ receipts) (suc count) =
    ap (λ l. l ++ cond (is_closed receipt.outcome) [] []) (gone_mails reason from receipts count) ∙ split (is_closed receipt.outcome) (λ e. rw e refl) (λ e. rw e refl)

gone_replied : (reason : List ℕ) (from : ℕ) (receipts : List Receipt) (mails : List Mail) (count : ℕ) → AreReplied (gone_asks reason from count) receipts mails
gone_replied reason from receipts mails zero = tt
gone_replied reason from [] mails (suc count) = tt
gone_replied reason from (receipt ∷ receipts) mails (suc count) = (λ e. absurd (never (is_put receipt.outcome) e), gone_replied reason from receipts mails count)
  where
    never : (b : Bool) → (false && b) ≡ true → ⊥
    never b e = cc

length-gone : (reason : List ℕ) (from count : ℕ) → length (gone_asks reason from count) ≡ count
length-gone reason from zero = refl
length-gone reason from (suc count) = ap suc (length-gone reason from count)

pub run_to_end : (steps : List Step) (files : List (List ℕ)) (old mid : ProcView) (reason : List ℕ) (end : ProcEnd) (mails : List Mail) → IsFreshProcess old
    → HasMadeSteps steps files (state old []) (state mid mails) reason
    → (length old.lanes ≡ 0 → HasTakenNone old.mailbox [] mid.mailbox mails) → HasEnded reason mid end.receipts end.mailbox end.lanes.items end.seats.items
    → HasRunToEnd steps files old end mails
run_to_end steps files old mid reason end mails fresh m silent e =
    let told : List Receipt = e.told.receipts in
    let count : ℕ = length told in
    let goes = m.makes.goes in
    let t = told_ports reason mid told e.new e.told.told in
    let gone : List Asked = gone_asks reason 0 count in
    let start : mid.told ≡ 0 = goes.told ∙ fresh.told in
    let all : count ≡ length old.lanes =
    (let a = e.told.counts in let b = e.all in let n : e.new.told ≡ count = a ∙ ap (λ k. k + count) start ∙ (zero-add count) in sym n ∙ b ∙ t.ports.lanes_many ∙ goes.ports.lanes_many) in
    let received : e.new.receipts ≡ told ++ m.receipts = t.receipts_are ∙ ap (λ l. told ++ l) (goes.receipts_are ∙ ap (λ l. m.receipts ++ l) fresh.receipts ∙ append-nil m.receipts) in
    let many : length gone ≡ length told = length-gone reason 0 count in
    let newest : reverse (reverse (gone ++ m.asks)) ≡ gone ++ m.asks = reverse-reverse (gone ++ m.asks) in
    let asked : HasAsked (gone ++ m.asks) e.new =
    subst (λ n. HasAsked (gone_asks reason n count ++ m.asks) e.new) start
    (e.told.asked m.asks (subst (λ l. HasAsked l mid) (append-nil m.asks) (goes.asked [] fresh.asked))) in
    let shown : (k : ℕ) → FoundClosed k mid.seats → ShowsClosed k told = λ k found.
    let lanes = t.ports.lanes_many in
    let seats = t.ports.seats_many in
    let both = e.keeps.seats in
    let all_told = e.all in
    ⊎_elim
    (λ (below : k < length mid.seats).
    told-shown reason mid told e.new e.told.told k no_seat (omega (arith, start)) (omega (arith, all_told, both, seats, below)) ((t.ports.same_seats k no_seat).closed (found no_seat)))
    (λ (past : length mid.seats ≤ k). absurd (closed_beyond mid.seats k past found))
    (cases_lt k (length mid.seats)) in
    record {
      asks = reverse (gone ++ m.asks);
      asks_are = reverse-append gone m.asks
          ∙ ap (λ l. l ++ reverse gone) (sym (m.made (reverse told)))
          ∙ ap (λ l. made_of (calls_of steps files) l ++ reverse gone) (sym (e.receipts_are ∙ ap reverse received ∙ reverse-append told m.receipts))
          ∙ ap (λ r. made_of (calls_of steps files) end.receipts ++ reverse (gone_asks r 0 count)) m.reason_is
          ∙ ap (λ n. made_of (calls_of steps files) end.receipts ++ reverse (gone_asks (end_reason steps) 0 n)) all;
      last = e.new;
      asked = subst (λ l. HasAsked l e.new) (sym newest) asked;
      undone = e.told.undone ∙ goes.undone;
      soft = t.soft ∙ goes.soft;
      number = t.number ∙ goes.number;
      keeps = e.keeps;
      same = ports_then old.lanes mid.lanes e.new.lanes old.seats mid.seats e.new.seats goes.ports t.ports;
      receipts_are = e.receipts_are;
      mailbox_is = e.mailbox_is;
      lanes_are = e.lanes_are;
      seats_are = e.seats_are;
      came = m.came;
      mails_are = goes.mails_are;
      silent = λ none. (t.mailbox ∙ (silent none).0, (silent none).1);
      heard = subst (HasHeard m.came old.mailbox) (sym t.mailbox) goes.heard;
      own = goes.own
          ∙ sym (append-nil (own_mails m.asks m.receipts))
          ∙ ap (λ l. own_mails m.asks m.receipts ++ l) (sym (gone_mails reason 0 told count))
          ∙ sym (own_mails-append gone m.asks told m.receipts many)
          ∙ ap (λ l. own_mails l (told ++ m.receipts)) (sym newest)
          ∙ ap (λ l. own_mails (reverse (reverse (gone ++ m.asks))) l) (sym received);
      waited = subst (λ l. WaitsAreShown mails l steps files) (sym (e.receipts_are ∙ ap reverse received ∙ reverse-append told m.receipts))
          (m.waited mails (reverse told) (record {
            more = [];
            mails_are = sym (append-nil mails);
            closed = λ k found. record {
              each = all_reverse (AgreesClosed k) told (told_closed reason mid told e.new e.told.told k found);
              last = subst (ShowsClosed k) (sym (reverse-reverse told)) (shown k found);
            };
          }));
      replied = subst (λ l. AreReplied l e.new.receipts mails) (sym newest) (subst (λ l. AreReplied (gone ++ m.asks) l mails) (sym received)
          (replied_append gone m.asks told m.receipts mails many (gone_replied reason 0 told mails count) m.makes.replied));
    }

-- A process that has made no call.
use Rattle.std.proofs.Common.{arith, ◌≡◌, ℕ, ◌<◌, ◌≤◌, List, [], length, Bool, refl, sym, ap, subst}
use Rattle.std.specs.Prelude.{map, slice_index_or}
use Rattle.std.proofs.lemmas.List.Elements.{All-nil}
use Rattle.task_queue.specs.Ends.{Taking}
use Rattle.port_words.specs.declared.busy.view.SenderView.{SenderView}
use Rattle.port_words.specs.busy.Known.{SendKnown}
use Rattle.port_model.specs.declared.mail.Mail.{Mail}
use Rattle.process_receipts.specs.declared.receipt.Receipt.{Receipt}
use Rattle.process_receipts.specs.Receipts.{IsSublist}
use Rattle.process_receipts.specs.Ledgers.{kept_adds, shown_add, ArePlaced, OncePlain, IsFree}
use Rattle.process_end.specs.Views.{LaneEnd, ProcView, proc_view}
use Rattle.process_end.specs.Ports.{AreParts, ArePorts, AllFree}
use Rattle.process_end.specs.Calls.{HasAsked}

pub ports-opened : (number : ℕ) (mailbox : Taking Mail (Unit {0})) (lanes : List LaneEnd) (seats : List SendKnown) (soft : List Bool) (receipts : List Receipt)
    → AreParts number mailbox lanes seats soft → receipts ≡ [] → ArePorts (proc_view number mailbox lanes seats soft receipts 0 0)
ports-opened number mailbox lanes seats soft receipts p none = subst (λ rs. ArePorts (proc_view number mailbox lanes seats soft rs 0 0)) (sym none) (record {
  seats = p.seats_many;
  soft = p.soft_many;
  each = λ k d e within. record {
    end = (p.ends k d within).0;
    process = (p.ends k d within).1;
    table = p.tables k d e within;
    few = subst (λ (s : SenderView). length s.ledger.adds ≤ 0) (sym (p.fresh k e within)) (omega arith);
    placed = subst (λ (s : SenderView). ArePlaced s.ledger) (sym (p.fresh k e within)) (All-nil _, All-nil _);
    once = subst (λ (s : SenderView). OncePlain s.ledger) (sym (p.fresh k e within)) (λ period odd. omega arith);
  };
  undone = omega arith;
  told = omega arith;
})

pub free-opened : (number : ℕ) (mailbox : Taking Mail (Unit {0})) (lanes : List LaneEnd) (seats : List SendKnown) (soft : List Bool) (p : ProcView)
    → AreParts number mailbox lanes seats soft → p.lanes ≡ lanes → p.seats ≡ seats → AllFree p
free-opened number mailbox lanes seats soft p parts l s = λ k e within.
    subst (λ vs. IsFree (slice_index_or vs k e).sender) (sym s)
    (subst IsFree (sym (parts.fresh k e (subst (λ ls. k < length ls) l within))) (All-nil _))

pub asked-opened : (number : ℕ) (mailbox : Taking Mail (Unit {0})) (lanes : List LaneEnd) (seats : List SendKnown) (soft : List Bool)
    → AreParts number mailbox lanes seats soft → HasAsked [] (proc_view number mailbox lanes seats soft [] 0 0)
asked-opened number mailbox lanes seats soft p = record {
  receipts = λ _. tt;
  sent = λ k d within. ap (map (λ x. x.task)) (p.ends k d within).2;
  undone = λ k e within. subst (λ (s : SenderView). length s.ledger.undone ≤ 0) (sym (p.fresh k e within)) (omega arith);
  adds = λ k e within. subst (λ (s : SenderView). map shown_add (kept_adds s.ledger) ≡ []) (sym (p.fresh k e within)) refl;
  stats = λ k e within. subst (λ (s : SenderView). IsSublist [] s.stats) (sym (p.fresh k e within)) (record { picks = []; as_many = refl; are = refl });
  words = λ k e within. subst (λ (s : SenderView). IsSublist [] s.words) (sym (p.fresh k e within)) (record { picks = []; as_many = refl; are = refl });
}

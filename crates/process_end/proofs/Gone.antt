-- What a process leaves that tells its ports of its end.
use Rattle.std.proofs.Common.{arith, ◌≡◌, ℕ, ◌+◌, ◌<◌, List, [], ◌∷◌, ◌++◌, length, refl, sym, ap, ◌∙◌, subst}
use Rattle.std.specs.Prelude.{slice_index_or}
use Rattle.port_words.specs.busy.Known.{SendKnown}
use Rattle.process_receipts.specs.declared.receipt.Receipt.{Receipt}
use Rattle.process_receipts.specs.Asks.{Asked}
use Rattle.process_receipts.specs.Ledgers.{OncePlain}
use Rattle.process_end.specs.Views.{LaneEnd, ProcView}
use Rattle.process_end.specs.Ports.{ArePorts}
use Rattle.process_end.specs.Calls.{HasAsked}
use Rattle.process_end.specs.Ended.{gone_ask, gone_asks, HasTold, HasToldPort}
use Rattle.process_end.proofs.Lanes.{with-lane}

pub told-none : (reason : List ℕ) (p : ProcView) → HasTold reason p p
told-none reason p = record { receipts = []; told = refl; counts = omega arith; undone = refl; ports = refl; asked = λ asks h. h }

untold : (p : ProcView) (told : ℕ) (asks : List Asked) → HasAsked asks (record p { told = told }) → HasAsked asks p
untold p told asks h = record { receipts = h.receipts; sent = h.sent; undone = h.undone; adds = h.adds; stats = h.stats; words = h.words }

pub told-one : (reason : List ℕ) (old p new : ProcView) → HasTold reason old p → (receipt : Receipt) × HasToldPort reason p new receipt → HasTold reason old new
told-one reason old p new t one =
    let many : length new.lanes ≡ length p.lanes = one.1.made.touched.many.0 in
    let before : p.told ≡ old.told + length t.receipts = t.counts in
    let counts : new.told ≡ p.told + 1 = one.1.counts in
    record {
      receipts = one.0 ∷ t.receipts;
      told = (p, t.told, one.1);
      counts = omega arith;
      undone = ap (λ p. p.undone) one.1.made.rest ∙ t.undone;
      ports = many ∙ t.ports;
      asked = λ asks h. untold new p.told (gone_ask reason (old.told + length t.receipts) ∷ (gone_asks reason old.told (length t.receipts) ++ asks))
          (subst (λ n. HasAsked (gone_ask reason n ∷ (gone_asks reason old.told (length t.receipts) ++ asks)) (record new { told = p.told })) before
          (one.1.made.asked (gone_asks reason old.told (length t.receipts) ++ asks) (t.asked asks h)));
    }

-- the law on plain adds of a process whose parts are these
pub once-kept : (p : ProcView) (lanes : List LaneEnd) (seats : List SendKnown) → ArePorts p → lanes ≡ p.lanes → seats ≡ p.seats
    → (k : ℕ) (d : SendKnown) → k < length lanes → OncePlain (slice_index_or seats k d).sender.ledger
once-kept p lanes seats ports l s k e within =
    let inside : k < length p.lanes = subst (λ ls. k < length ls) l within in
    with-lane p.lanes k inside (λ d. subst (λ vs. OncePlain (slice_index_or vs k e).sender.ledger) (sym s) (ports.each k d e inside).once)

-- The bytes are the weights that are out, and each add is named once.
use Rattle.std.proofs.Common.{◌≡◌, ℕ, ◌+◌, ◌-◌, ◌*◌, ◌^◌, ◌<◌, ◌≤◌, ◌&&◌, eqb, List, [], ◌∷◌, ◌++◌, length, set, sym, refl, ap, ◌∙◌, subst, arith, eq-eqb, ne_eqb, length-append}
use Rattle.std.proofs.Math.Nat.{mul-le-mul_right}
use Rattle.std.specs.List.{All, sum_by}
use Rattle.std.proofs.lemmas.List.Sums.{sum_by-cons, sum_by-append, sum_by_push, sum_by-le}
use Rattle.std.proofs.lemmas.List.Elements.{All-head, All-tail, All-set, All-push, All-append, All-weaker}
use mathlib.Core.Option.{some}
use mathlib.Core.Logic.{dite}
use native.Mathlib.Decide.{ℕ_discrete}
use lib.ListN.{get_elem?}
use Rattle.port_words.specs.sums.Counts.{once_below, one_if}
use Rattle.port_words.proofs.lemmas.sums.Counting.{same_number, other_number, once_below-step, once_below-le}
use Rattle.port_words.proofs.lemmas.sums.Totals.{sum_set, sum_at, sum_alone, sum_by-nothing, all_at}
use Rattle.port_words.specs.declared.busy.view.AddHow.{AddHow}
use Rattle.port_words.specs.declared.busy.view.BusySetup.{BusySetup}
use Rattle.port_words.specs.declared.busy.view.AddName.{AddName}
use Rattle.port_words.specs.declared.busy.view.SenderLedger.{SenderLedger}
use Rattle.port_words.specs.declared.busy.view.SenderView.{SenderView}
use Rattle.port_words.specs.declared.busy.view.BusyView.{BusyView}
use Rattle.port_words.specs.busy.Views.{of_senders, over_senders, adds_of, over_adds, adds_weigh, undone_weigh, weights_weigh, removed_weigh, size_of, is_add, senders_in, is_numbered, adds_made_by, seat_view}
use Rattle.port_words.specs.busy.Queue.{bytes_of, add_size}
use Rattle.port_words.specs.busy.Parts.{IsLedger, IsLedgered}
use Rattle.port_words.specs.busy.Steps.{adding, undoing, next_name, next_add, removing}
use Rattle.port_words.proofs.lemmas.busy.ViewLemmas.{SameSums, all_one}

pub ledgered_same : (setup : BusySetup) (x : ℕ) (views after : List BusyView) → SameSums views after → IsLedgered setup x views → IsLedgered setup x after
ledgered_same setup x views after same part = record {
  bytes = part.bytes ∙ sym (same.weights size_of);
  account = (λ h.
      let adds = same.over (adds_of (λ a. h a.name)) in
      let undone = same.over (λ l. sum_by h l.undone) in
      let weights = same.weights h in
      let removed = same.removed h in
      let before = part.account h in
      omega arith);
  numbers = (λ n. same.over (is_numbered n) ∙ part.numbers n);
  senders = same.senders ∙ part.senders;
  places = (λ n place. same.over (adds_of (λ a. is_add n place a.name)) ∙ part.places n place ∙ ap (λ m. once_below m place) (sym (same.over (adds_made_by n))));
  each = same.each IsLedger part.each;
}

-- what each sender has at most, all have at most together
over_at_most : (g : SenderLedger → ℕ) (m : ℕ) (views : List BusyView) → All (λ v. All (λ s. g s.ledger ≤ m) v.senders) views → over_senders g views ≤ sum_by senders_in views * m
over_at_most g m [] all = omega arith
over_at_most g m (x ∷ xs) all =
    let here = sum_by-le (λ s. g s.ledger) m x.senders (All-head (λ v. All (λ s. g s.ledger ≤ m) v.senders) x xs all) in
    let inner = over_at_most g m xs (All-tail (λ v. All (λ s. g s.ledger ≤ m) v.senders) x xs all) in
    let one = sum_by-cons (of_senders g) x xs in
    let two = ap (λ (k : ℕ). k * m) (sum_by-cons senders_in x xs) in
    omega arith

pub few_adds : (setup : BusySetup) (x : ℕ) (views : List BusyView) → setup.senders ≤ 32 → IsLedgered setup x views → over_senders (λ l. length l.adds) views ≤ 4194304
few_adds setup x views few part =
    let most = over_at_most (λ l. length l.adds) 131072 views (All-weaker (λ v. All (λ s. IsLedger s.ledger) v.senders) (λ v. All (λ s. length s.ledger.adds ≤ 131072) v.senders) (λ v all. All-weaker (λ s. IsLedger s.ledger) (λ s. length s.ledger.adds ≤ 131072) (λ s l. l.few) v.senders all) views part.each) in
    let senders = ap (λ (k : ℕ). k * 131072) part.senders in
    omega arith

small_ledger : (l : SenderLedger) → IsLedger l → adds_of add_size l ≤ 34359607296
small_ledger l is =
    let most = sum_by-le add_size 262143 l.adds is.small in
    let few = mul-le-mul_right 262143 is.few in
    omega arith

pub few_bytes : (setup : BusySetup) (x : ℕ) (views : List BusyView) → setup.senders ≤ 32 → IsLedgered setup x views → over_adds add_size views ≤ 2 ^ 40 - 2 ^ 22
few_bytes setup x views few part =
    let most = over_at_most (adds_of add_size) 34359607296 views (All-weaker (λ v. All (λ s. IsLedger s.ledger) v.senders) (λ v. All (λ s. adds_of add_size s.ledger ≤ 34359607296) v.senders) (λ v all. All-weaker (λ s. IsLedger s.ledger) (λ s. adds_of add_size s.ledger ≤ 34359607296) (λ s l. small_ledger s.ledger l) v.senders all) views part.each) in
    let senders = ap (λ (k : ℕ). k * 34359607296) part.senders in
    omega arith

-- the bytes are at most those of all adds
pub bytes_of_adds : (setup : BusySetup) (x : ℕ) (views : List BusyView) → IsLedgered setup x views → bytes_of x ≤ over_adds add_size views
bytes_of_adds setup x views part = let account = part.account size_of in let bytes = part.bytes in omega arith

-- a sender has its number alone
alone : (setup : BusySetup) (x : ℕ) (views : List BusyView) (id : ℕ) (s : SenderView) (ws : List AddName) → IsLedgered setup x views → get_elem? views id ≡ some (seat_view setup s ws)
    → over_senders (adds_made_by s.ledger.number) views ≡ length s.ledger.adds
alone setup x views id s ws part at =
    let n = s.ledger.number in
    let v = seat_view setup s ws in
    let mine = same_number n n refl in
    let numbers = part.numbers n in
    let most = once_below-le setup.senders n in
    let least = sum_at (of_senders (is_numbered n)) views id v at in
    let all = sum_alone (of_senders (adds_made_by n)) (of_senders (is_numbered n))
    (λ u none'. sum_by-nothing (λ t. adds_made_by n t.ledger) (λ t. is_numbered n t.ledger) (λ t e. let zero' : 0 * length t.ledger.adds ≡ 0 = omega arith in ap (λ (k : ℕ). k * length t.ledger.adds) e ∙ zero') u.senders none') views id v at (omega arith) in
    let one : one_if (eqb n n) * length s.ledger.adds ≡ 1 * length s.ledger.adds = ap (λ (k : ℕ). k * length s.ledger.adds) mine in
    omega arith

pub ledgered_add : (setup : BusySetup) (x x' : ℕ) (views : List BusyView) (id : ℕ) (s : SenderView) (how : AddHow) (size : ℕ) → get_elem? views id ≡ some (seat_view setup s []) → IsLedgered setup x views
    → bytes_of x' ≡ bytes_of x + size → length s.ledger.adds < 131072 → size ≤ 262143
    → IsLedgered setup x' (set views id (seat_view setup (adding s how size x') (next_name s.ledger size ∷ [])))
ledgered_add setup x x' views id s how size at part more few small =
    let name = next_name s.ledger size in
    let v = seat_view setup s [] in
    let w = seat_view setup (adding s how size x') (name ∷ []) in
    let number = s.ledger.number in
    let count = length s.ledger.adds in
    record {
      bytes = (let sums = sum_set (weights_weigh size_of) views id v w at in let before = part.bytes in omega arith);
      account = (λ h.
          let adds = sum_set (adds_weigh h) views id v w at in
          let push = sum_by_push (λ a. h a.name) s.ledger.adds (next_add s.ledger how size x') in
          let undone = sum_set (undone_weigh h) views id v w at in
          let weights = sum_set (weights_weigh h) views id v w at in
          let removed = sum_set (removed_weigh h) views id v w at in
          let before = part.account h in
          omega arith);
      numbers = (λ n. let sums = sum_set (of_senders (is_numbered n)) views id v w at in let before = part.numbers n in omega arith);
      senders = (let sums = sum_set senders_in views id v w at in let before = part.senders in omega arith);
      places = (λ n place.
          let adds = sum_set (adds_weigh (is_add n place)) views id v w at in
          let push = sum_by_push (λ a. is_add n place a.name) s.ledger.adds (next_add s.ledger how size x') in
          let made = sum_set (of_senders (adds_made_by n)) views id v w at in
          let longer = length-append s.ledger.adds (next_add s.ledger how size x' ∷ []) in
          let before = part.places n place in
          dite (ℕ_discrete number n)
          (λ same.
          let own = subst (λ m. over_senders (adds_made_by m) views ≡ count) same (alone setup x views id s [] part at) in
          let here : is_add n place name ≡ one_if (eqb count place) = ap (λ b. one_if (b && eqb count place)) (eq-eqb number n same) in
          let made_before : one_if (eqb number n) * count ≡ 1 * count = ap (λ (k : ℕ). k * count) (same_number number n same) in
          let made_after : one_if (eqb number n) * length (s.ledger.adds ++ next_add s.ledger how size x' ∷ []) ≡ 1 * length (s.ledger.adds ++ next_add s.ledger how size x' ∷ []) = ap (λ (k : ℕ). k * length (s.ledger.adds ++ next_add s.ledger how size x' ∷ [])) (same_number number n same) in
          let step = once_below-step count place in
          let bound_before : once_below (over_senders (adds_made_by n) views) place ≡ once_below count place = ap (λ m. once_below m place) own in
          let bound_after : once_below (over_senders (adds_made_by n) (set views id w)) place ≡ once_below (count + 1) place = ap (λ m. once_below m place) (omega arith) in
          omega arith)
          (λ differ.
          let here : is_add n place name ≡ 0 = ap (λ b. one_if (b && eqb count place)) (ne_eqb number n differ) in
          let made_before : one_if (eqb number n) * count ≡ 0 * count = ap (λ (k : ℕ). k * count) (other_number number n differ) in
          let made_after : one_if (eqb number n) * length (s.ledger.adds ++ next_add s.ledger how size x' ∷ []) ≡ 0 * length (s.ledger.adds ++ next_add s.ledger how size x' ∷ []) = ap (λ (k : ℕ). k * length (s.ledger.adds ++ next_add s.ledger how size x' ∷ [])) (other_number number n differ) in
          let bound : once_below (over_senders (adds_made_by n) (set views id w)) place ≡ once_below (over_senders (adds_made_by n) views) place = ap (λ m. once_below m place) (omega arith) in
          omega arith));
      each = All-set (λ u. All (λ t. IsLedger t.ledger) u.senders) views id w
          (let mine = All-head (λ t. IsLedger t.ledger) s [] (all_at (λ u. All (λ t. IsLedger t.ledger) u.senders) views id v part.each at) in
          all_one (λ t. IsLedger t.ledger) (adding s how size x')
          (record {
            few = (let longer = length-append s.ledger.adds (next_add s.ledger how size x' ∷ []) in omega arith);
            small = All-push (λ a. a.name.size ≤ 262143) s.ledger.adds (next_add s.ledger how size x') mine.small small;
            own = mine.own;
          }))
          part.each;
    }

pub ledgered_undo : (setup : BusySetup) (x x' : ℕ) (views : List BusyView) (id : ℕ) (s : SenderView) (ws : List AddName) → get_elem? views id ≡ some (seat_view setup s ws) → IsLedgered setup x views
    → bytes_of x' + sum_by size_of ws ≡ bytes_of x → All (λ n. n.sender ≡ s.ledger.number) ws
    → IsLedgered setup x' (set views id (seat_view setup (undoing s ws x') []))
ledgered_undo setup x x' views id s ws at part less own =
    let v = seat_view setup s ws in
    let w = seat_view setup (undoing s ws x') [] in
    record {
      bytes = (let sums = sum_set (weights_weigh size_of) views id v w at in let before = part.bytes in omega arith);
      account = (λ h.
          let adds = sum_set (adds_weigh h) views id v w at in
          let undone = sum_set (undone_weigh h) views id v w at in
          let longer = sum_by-append h s.ledger.undone ws in
          let weights = sum_set (weights_weigh h) views id v w at in
          let removed = sum_set (removed_weigh h) views id v w at in
          let before = part.account h in
          omega arith);
      numbers = (λ n. let sums = sum_set (of_senders (is_numbered n)) views id v w at in let before = part.numbers n in omega arith);
      senders = (let sums = sum_set senders_in views id v w at in let before = part.senders in omega arith);
      places = (λ n place.
          let adds = sum_set (adds_weigh (is_add n place)) views id v w at in
          let made = sum_set (of_senders (adds_made_by n)) views id v w at in
          let before = part.places n place in
          let bound : once_below (over_senders (adds_made_by n) (set views id w)) place ≡ once_below (over_senders (adds_made_by n) views) place = ap (λ m. once_below m place) (omega arith) in
          omega arith);
      each = All-set (λ u. All (λ t. IsLedger t.ledger) u.senders) views id w
          (let mine = All-head (λ t. IsLedger t.ledger) s [] (all_at (λ u. All (λ t. IsLedger t.ledger) u.senders) views id v part.each at) in
          all_one (λ t. IsLedger t.ledger) (undoing s ws x') (record { few = mine.few; small = mine.small; own = All-append (λ n. n.sender ≡ s.ledger.number) s.ledger.undone ws mine.own own }))
          part.each;
    }

pub ledgered_remove : (setup : BusySetup) (x x' : ℕ) (views : List BusyView) (id : ℕ) (v : BusyView) → get_elem? views id ≡ some v → IsLedgered setup x views → bytes_of x' + weights_weigh size_of v ≡ bytes_of x
    → IsLedgered setup x' (set views id (removing v x'))
ledgered_remove setup x x' views id v at part less =
    let w = removing v x' in
    record {
      bytes = (let sums = sum_set (weights_weigh size_of) views id v w at in let before = part.bytes in omega arith);
      account = (λ h.
          let adds = sum_set (adds_weigh h) views id v w at in
          let undone = sum_set (undone_weigh h) views id v w at in
          let weights = sum_set (weights_weigh h) views id v w at in
          let removed = sum_set (removed_weigh h) views id v w at in
          let longer = sum_by-append h v.removed v.weights in
          let before = part.account h in
          omega arith);
      numbers = (λ n. let sums = sum_set (of_senders (is_numbered n)) views id v w at in let before = part.numbers n in omega arith);
      senders = (let sums = sum_set senders_in views id v w at in let before = part.senders in omega arith);
      places = (λ n place.
          let adds = sum_set (adds_weigh (is_add n place)) views id v w at in
          let made = sum_set (of_senders (adds_made_by n)) views id v w at in
          let before = part.places n place in
          let bound : once_below (over_senders (adds_made_by n) (set views id w)) place ≡ once_below (over_senders (adds_made_by n) views) place = ap (λ m. once_below m place) (omega arith) in
          omega arith);
      each = All-set (λ u. All (λ t. IsLedger t.ledger) u.senders) views id w (all_at (λ u. All (λ t. IsLedger t.ledger) u.senders) views id v part.each at) part.each;
    }

-- no two weights name one add, and none names an add that was taken back or removed
pub named_once : (setup : BusySetup) (x : ℕ) (views : List BusyView) (id : ℕ) (v : BusyView) (n place : ℕ) → IsLedgered setup x views → get_elem? views id ≡ some v
    → weights_weigh (is_add n place) v + undone_weigh (is_add n place) v + removed_weigh (is_add n place) v ≤ 1
named_once setup x views id v n place part at =
    let a = sum_at (weights_weigh (is_add n place)) views id v at in
    let b = sum_at (undone_weigh (is_add n place)) views id v at in
    let c = sum_at (removed_weigh (is_add n place)) views id v at in
    let account = part.account (is_add n place) in
    let places = part.places n place in
    let most = once_below-le (over_senders (adds_made_by n) views) place in
    omega arith

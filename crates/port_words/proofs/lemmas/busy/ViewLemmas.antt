-- What the kinds of step, split and join leave as it was in the views, and what an add adds to them.
use Rattle.std.proofs.Common.{◌≡◌, ℕ, ◌+◌, List, [], ◌∷◌, ◌++◌, length, set, take, drop, sym, refl, ap, ◌∙◌, arith, length-append}
use Rattle.std.specs.List.{All, sum_by}
use Rattle.std.proofs.lemmas.List.Sums.{sum_by-cons, sum_by-append, sum_by_push}
use Rattle.std.proofs.lemmas.List.Elements.{All-head, All-nil, All-cons, All-set, All-push, All-append, All-take, All-drop}
use mathlib.Core.Option.{some}
use lib.ListN.{get_elem?}
use Rattle.atomic_table.proofs.Lists.{set_else}
use Rattle.port_words.proofs.lemmas.sums.Totals.{sum_set, sum_split, sum_join, all_at}
use Rattle.port_words.specs.declared.busy.view.BusySetup.{BusySetup}
use Rattle.port_words.specs.declared.busy.view.AddName.{AddName}
use Rattle.port_words.specs.declared.busy.view.QueueAdd.{QueueAdd}
use Rattle.port_words.specs.declared.busy.view.SenderLedger.{SenderLedger}
use Rattle.port_words.specs.declared.busy.view.SenderView.{SenderView}
use Rattle.port_words.specs.declared.busy.view.BusyView.{BusyView}
use Rattle.port_words.specs.declared.busy.view.AddHow.{AddHow}
use Rattle.port_words.specs.declared.busy.view.StatMark.{StatMark}
use Rattle.port_words.specs.busy.Views.{of_senders, over_senders, adds_of, over_adds, weights_weigh, removed_weigh, senders_in, WordsIn, seat_view}
use Rattle.port_words.specs.busy.Steps.{saw, heard, adding, undoing, next_add, port_heard, marked, removing, first_sender, other_senders, its_weights, no_weights, joined, spent}

-- the adds are the same
pub record SameAdds (views after : List BusyView) : Type 0 where
  pub adds : (f : QueueAdd → ℕ) → over_adds f after ≡ over_adds f views
  pub count : over_senders (λ l. length l.adds) after ≡ over_senders (λ l. length l.adds) views

-- there is one add more
pub record MoreAdds (a : QueueAdd) (views after : List BusyView) : Type 0 where
  pub adds : (f : QueueAdd → ℕ) → over_adds f after ≡ over_adds f views + f a
  pub count : over_senders (λ l. length l.adds) after ≡ over_senders (λ l. length l.adds) views + 1

-- the ledgers, the weights and the removed weights are the same
pub record SameSums (views after : List BusyView) : Type 1 where
  pub over : (g : SenderLedger → ℕ) → over_senders g after ≡ over_senders g views
  pub weights : (h : AddName → ℕ) → sum_by (weights_weigh h) after ≡ sum_by (weights_weigh h) views
  pub removed : (h : AddName → ℕ) → sum_by (removed_weigh h) after ≡ sum_by (removed_weigh h) views
  pub senders : sum_by senders_in after ≡ sum_by senders_in views
  pub each : (P : SenderLedger → Type 0) → All (λ v. All (λ s. P s.ledger) v.senders) views → All (λ v. All (λ s. P s.ledger) v.senders) after

-- the lists of words are the same, or new and empty
pub record SameWords (views after : List BusyView) : Type 1 where
  pub kept : (P : List ℕ → Type 0) → P [] → All (WordsIn P) views → All (WordsIn P) after

-- one list of words is longer by this word
pub record MoreWords (word : ℕ) (views after : List BusyView) : Type 1 where
  pub kept : (P : List ℕ → Type 0) → ((ws : List ℕ) → P ws → P (ws ++ word ∷ [])) → All (WordsIn P) views → All (WordsIn P) after

pub same_adds : (views after : List BusyView) → SameSums views after → SameAdds views after
same_adds views after same = record { adds = (λ f. same.over (adds_of f)); count = same.over (λ l. length l.adds) }

pub all_one : {X : Type 0} (P : X → Type 0) (x : X) → P x → All P (x ∷ [])
all_one P x p = All-cons P x [] p (All-nil P)

-- one view becomes another with the same in it
pub same_set : (views : List BusyView) (id : ℕ) (v w : BusyView) → get_elem? views id ≡ some v
    → ((g : SenderLedger → ℕ) → of_senders g w ≡ of_senders g v) → ((h : AddName → ℕ) → weights_weigh h w ≡ weights_weigh h v) → ((h : AddName → ℕ) → removed_weigh h w ≡ removed_weigh h v)
    → senders_in w ≡ senders_in v → ((P : SenderLedger → Type 0) → All (λ s. P s.ledger) v.senders → All (λ s. P s.ledger) w.senders)
    → SameSums views (set views id w)
same_set views id v w at over weights removed senders each = record {
  over = (λ g. let sums = sum_set (of_senders g) views id v w at in let same = over g in omega arith);
  weights = (λ h. let sums = sum_set (weights_weigh h) views id v w at in let same = weights h in omega arith);
  removed = (λ h. let sums = sum_set (removed_weigh h) views id v w at in let same = removed h in omega arith);
  senders = (let sums = sum_set senders_in views id v w at in omega arith);
  each = (λ P all. All-set (λ u. All (λ s. P s.ledger) u.senders) views id w (each P (all_at (λ u. All (λ s. P s.ledger) u.senders) views id v all at)) all);
}

pub words_set : (views : List BusyView) (id : ℕ) (v w : BusyView) → get_elem? views id ≡ some v → ((P : List ℕ → Type 0) → WordsIn P v → WordsIn P w) → SameWords views (set views id w)
words_set views id v w at kept = record { kept = (λ P none' all. All-set (WordsIn P) views id w (kept P (all_at (WordsIn P) views id v all at)) all) }

pub more_words_set : (views : List BusyView) (id : ℕ) (v w : BusyView) (word : ℕ) → get_elem? views id ≡ some v
    → ((P : List ℕ → Type 0) → ((ws : List ℕ) → P ws → P (ws ++ word ∷ [])) → WordsIn P v → WordsIn P w) → MoreWords word views (set views id w)
more_words_set views id v w word at kept = record { kept = (λ P more all. All-set (WordsIn P) views id w (kept P more (all_at (WordsIn P) views id v all at)) all) }

-- a sender found a STAT word
pub saw_same : (views : List BusyView) (id : ℕ) (setup : BusySetup) (s : SenderView) (ws : List AddName) (word : ℕ) → get_elem? views id ≡ some (seat_view setup s ws) → SameSums views (set views id (seat_view setup (saw s word) ws))
saw_same views id setup s ws word at = same_set views id (seat_view setup s ws) (seat_view setup (saw s word) ws) at (λ g. refl) (λ h. refl) (λ h. refl) refl (λ P all. all_one (λ u. P u.ledger) (saw s word) (All-head (λ u. P u.ledger) s [] all))

pub saw_words : (views : List BusyView) (id : ℕ) (setup : BusySetup) (s : SenderView) (ws : List AddName) (word : ℕ) → get_elem? views id ≡ some (seat_view setup s ws) → SameWords views (set views id (seat_view setup (saw s word) ws))
saw_words views id setup s ws word at = words_set views id (seat_view setup s ws) (seat_view setup (saw s word) ws) at (λ P all. (all.0, all_one (λ u. P u.words) (saw s word) (All-head (λ u. P u.words) s [] all.1)))

-- a sender found an MSGQ word
pub heard_same : (views : List BusyView) (id : ℕ) (setup : BusySetup) (s : SenderView) (ws : List AddName) (word : ℕ) → get_elem? views id ≡ some (seat_view setup s ws) → SameSums views (set views id (seat_view setup (heard s (word ∷ [])) ws))
heard_same views id setup s ws word at = same_set views id (seat_view setup s ws) (seat_view setup (heard s (word ∷ [])) ws) at (λ g. refl) (λ h. refl) (λ h. refl) refl (λ P all. all_one (λ u. P u.ledger) (heard s (word ∷ [])) (All-head (λ u. P u.ledger) s [] all))

pub heard_words : (views : List BusyView) (id : ℕ) (setup : BusySetup) (s : SenderView) (ws : List AddName) (word : ℕ) → get_elem? views id ≡ some (seat_view setup s ws) → MoreWords word views (set views id (seat_view setup (heard s (word ∷ [])) ws))
heard_words views id setup s ws word at = more_words_set views id (seat_view setup s ws) (seat_view setup (heard s (word ∷ [])) ws) word at (λ P more all. (all.0, all_one (λ u. P u.words) (heard s (word ∷ [])) (more s.words (All-head (λ u. P u.words) s [] all.1))))

-- the port found an MSGQ word, made a mark, or only looked
pub port_heard_same : (views : List BusyView) (id : ℕ) (v : BusyView) (word : ℕ) → get_elem? views id ≡ some v → SameSums views (set views id (port_heard v (word ∷ [])))
port_heard_same views id v word at = same_set views id v (port_heard v (word ∷ [])) at (λ g. refl) (λ h. refl) (λ h. refl) refl (λ P all. all)

pub port_heard_words : (views : List BusyView) (id : ℕ) (v : BusyView) (word : ℕ) → get_elem? views id ≡ some v → MoreWords word views (set views id (port_heard v (word ∷ [])))
port_heard_words views id v word at = more_words_set views id v (port_heard v (word ∷ [])) word at (λ P more all. (more v.words all.0, all.1))

pub marked_same : (views : List BusyView) (id : ℕ) (v : BusyView) (m : StatMark) → get_elem? views id ≡ some v → SameSums views (set views id (marked v m))
marked_same views id v m at = same_set views id v (marked v m) at (λ g. refl) (λ h. refl) (λ h. refl) refl (λ P all. all)

pub marked_words : (views : List BusyView) (id : ℕ) (v : BusyView) (m : StatMark) → get_elem? views id ≡ some v → SameWords views (set views id (marked v m))
marked_words views id v m at = words_set views id v (marked v m) at (λ P all. all)

pub learned_same : (views : List BusyView) (id : ℕ) (v : BusyView) → get_elem? views id ≡ some v → SameSums views (set views id v)
learned_same views id v at = same_set views id v v at (λ g. refl) (λ h. refl) (λ h. refl) refl (λ P all. all)

pub learned_words : (views : List BusyView) (id : ℕ) (v : BusyView) → get_elem? views id ≡ some v → SameWords views (set views id v)
learned_words views id v at = words_set views id v v at (λ P all. all)

-- an add, an add taken back and a weight removed
pub adding_more : (views : List BusyView) (id : ℕ) (setup : BusySetup) (s : SenderView) (ws ws' : List AddName) (how : AddHow) (size word : ℕ) → get_elem? views id ≡ some (seat_view setup s ws)
    → MoreAdds (next_add s.ledger how size word) views (set views id (seat_view setup (adding s how size word) ws'))
adding_more views id setup s ws ws' how size word at =
    let v = seat_view setup s ws in
    let w = seat_view setup (adding s how size word) ws' in
    let a = next_add s.ledger how size word in
    record {
      adds = (λ f. let sums = sum_set (of_senders (adds_of f)) views id v w at in let push = sum_by_push f s.ledger.adds a in omega arith);
      count = (let sums = sum_set (of_senders (λ l. length l.adds)) views id v w at in let push = length-append s.ledger.adds (a ∷ []) in omega arith);
    }

pub adding_words : (views : List BusyView) (id : ℕ) (setup : BusySetup) (s : SenderView) (ws ws' : List AddName) (how : AddHow) (size word : ℕ) → get_elem? views id ≡ some (seat_view setup s ws)
    → MoreWords word views (set views id (seat_view setup (adding s how size word) ws'))
adding_words views id setup s ws ws' how size word at = more_words_set views id (seat_view setup s ws) (seat_view setup (adding s how size word) ws') word at
    (λ P more all. (all.0, all_one (λ u. P u.words) (adding s how size word) (more s.words (All-head (λ u. P u.words) s [] all.1))))

pub undoing_adds : (views : List BusyView) (id : ℕ) (setup : BusySetup) (s : SenderView) (ws ws' : List AddName) (word : ℕ) → get_elem? views id ≡ some (seat_view setup s ws)
    → SameAdds views (set views id (seat_view setup (undoing s ws word) ws'))
undoing_adds views id setup s ws ws' word at =
    let v = seat_view setup s ws in
    let w = seat_view setup (undoing s ws word) ws' in
    record {
      adds = (λ f. let sums = sum_set (of_senders (adds_of f)) views id v w at in omega arith);
      count = (let sums = sum_set (of_senders (λ l. length l.adds)) views id v w at in omega arith);
    }

pub undoing_words : (views : List BusyView) (id : ℕ) (setup : BusySetup) (s : SenderView) (ws ws' : List AddName) (word : ℕ) → get_elem? views id ≡ some (seat_view setup s ws)
    → MoreWords word views (set views id (seat_view setup (undoing s ws word) ws'))
undoing_words views id setup s ws ws' word at = more_words_set views id (seat_view setup s ws) (seat_view setup (undoing s ws word) ws') word at
    (λ P more all. (all.0, all_one (λ u. P u.words) (undoing s ws word) (more s.words (All-head (λ u. P u.words) s [] all.1))))

pub removing_adds : (views : List BusyView) (id : ℕ) (v : BusyView) (word : ℕ) → get_elem? views id ≡ some v → SameAdds views (set views id (removing v word))
removing_adds views id v word at = record {
  adds = (λ f. let sums = sum_set (of_senders (adds_of f)) views id v (removing v word) at in omega arith);
  count = (let sums = sum_set (of_senders (λ l. length l.adds)) views id v (removing v word) at in omega arith);
}

pub removing_words : (views : List BusyView) (id : ℕ) (v : BusyView) (word : ℕ) → get_elem? views id ≡ some v → MoreWords word views (set views id (removing v word))
removing_words views id v word at = more_words_set views id v (removing v word) word at (λ P more all. (more v.words all.0, all.1))

cut_sum : (g : SenderLedger → ℕ) (ss : List SenderView) → sum_by (λ s. g s.ledger) (drop 1 ss) + sum_by (λ s. g s.ledger) (take 1 ss) ≡ sum_by (λ s. g s.ledger) ss
cut_sum g [] = refl
cut_sum g (s ∷ ss) = let parts = sum_by-cons (λ u. g u.ledger) s ss in omega arith

cut_length : (ss : List SenderView) → length (drop 1 ss) + length (take 1 ss) ≡ length ss
cut_length [] = refl
cut_length (s ∷ ss) = omega arith

-- a sender's seat is cut off
pub sender_cut_same : (views : List BusyView) (id : ℕ) (v : BusyView) → get_elem? views id ≡ some v → SameSums views (set views id (other_senders v) ++ first_sender v ∷ [])
sender_cut_same views id v at = record {
  over = (λ g. let sums = sum_split (of_senders g) views id v (other_senders v) (first_sender v) at in let parts = cut_sum g v.senders in omega arith);
  weights = (λ h. let sums = sum_split (weights_weigh h) views id v (other_senders v) (first_sender v) at in omega arith);
  removed = (λ h. let sums = sum_split (removed_weigh h) views id v (other_senders v) (first_sender v) at in omega arith);
  senders = (let sums = sum_split senders_in views id v (other_senders v) (first_sender v) at in let parts = cut_length v.senders in omega arith);
  each = (λ P all.
      let mine = all_at (λ u. All (λ s. P s.ledger) u.senders) views id v all at in
      All-push (λ u. All (λ s. P s.ledger) u.senders) (set views id (other_senders v)) (first_sender v)
      (All-set (λ u. All (λ s. P s.ledger) u.senders) views id (other_senders v) (All-drop (λ s. P s.ledger) 1 v.senders mine) all)
      (All-take (λ s. P s.ledger) 1 v.senders mine));
}

pub sender_cut_words : (views : List BusyView) (id : ℕ) (v : BusyView) → get_elem? views id ≡ some v → SameWords views (set views id (other_senders v) ++ first_sender v ∷ [])
sender_cut_words views id v at = record {
  kept = (λ P none' all.
      let mine = all_at (WordsIn P) views id v all at in
      All-push (WordsIn P) (set views id (other_senders v)) (first_sender v)
      (All-set (WordsIn P) views id (other_senders v) (mine.0, All-drop (λ s. P s.words) 1 v.senders mine.1) all)
      (none', All-take (λ s. P s.words) 1 v.senders mine.1));
}

-- the weights are cut off
pub weights_cut_same : (views : List BusyView) (id : ℕ) (v : BusyView) → get_elem? views id ≡ some v → SameSums views (set views id (no_weights v) ++ its_weights v ∷ [])
weights_cut_same views id v at = record {
  over = (λ g. let sums = sum_split (of_senders g) views id v (no_weights v) (its_weights v) at in omega arith);
  weights = (λ h. let sums = sum_split (weights_weigh h) views id v (no_weights v) (its_weights v) at in omega arith);
  removed = (λ h. let sums = sum_split (removed_weigh h) views id v (no_weights v) (its_weights v) at in omega arith);
  senders = (let sums = sum_split senders_in views id v (no_weights v) (its_weights v) at in omega arith);
  each = (λ P all.
      let mine = all_at (λ u. All (λ s. P s.ledger) u.senders) views id v all at in
      All-push (λ u. All (λ s. P s.ledger) u.senders) (set views id (no_weights v)) (its_weights v) (All-set (λ u. All (λ s. P s.ledger) u.senders) views id (no_weights v) mine all) (All-nil (λ s. P s.ledger)));
}

pub weights_cut_words : (views : List BusyView) (id : ℕ) (v : BusyView) → get_elem? views id ≡ some v → SameWords views (set views id (no_weights v) ++ its_weights v ∷ [])
weights_cut_words views id v at = record {
  kept = (λ P none' all.
      let mine = all_at (WordsIn P) views id v all at in
      All-push (WordsIn P) (set views id (no_weights v)) (its_weights v) (All-set (WordsIn P) views id (no_weights v) mine all) (none', All-nil (λ s. P s.words)));
}

-- a seat that has removed nothing and found no word of its own is taken in
pub joined_same : (views : List BusyView) (id : ℕ) (v : BusyView) (other : ℕ) (w : BusyView) → get_elem? views id ≡ some v → ¬ (other ≡ id) → get_elem? (set views id (joined v w)) other ≡ some w → w.removed ≡ []
    → SameSums views (set (set views id (joined v w)) other spent)
joined_same views id v other w at apart there nothing =
    let theirs_at = sym (set_else views id other (joined v w) apart) ∙ there in
    record {
      over = (λ g. let sums = sum_join (of_senders g) views id v (joined v w) other w spent at there in let parts = sum_by-append (λ s. g s.ledger) v.senders w.senders in omega arith);
      weights = (λ h. let sums = sum_join (weights_weigh h) views id v (joined v w) other w spent at there in let parts = sum_by-append h v.weights w.weights in omega arith);
      removed = (λ h. let sums = sum_join (removed_weigh h) views id v (joined v w) other w spent at there in let none' : sum_by h w.removed ≡ 0 = ap (sum_by h) nothing in omega arith);
      senders = (let sums = sum_join senders_in views id v (joined v w) other w spent at there in let parts = length-append v.senders w.senders in omega arith);
      each = (λ P all.
          let mine = all_at (λ u. All (λ s. P s.ledger) u.senders) views id v all at in
          let theirs = all_at (λ u. All (λ s. P s.ledger) u.senders) views other w all theirs_at in
          All-set (λ u. All (λ s. P s.ledger) u.senders) (set views id (joined v w)) other spent (All-nil (λ s. P s.ledger))
          (All-set (λ u. All (λ s. P s.ledger) u.senders) views id (joined v w) (All-append (λ s. P s.ledger) v.senders w.senders mine theirs) all));
    }

pub joined_words : (views : List BusyView) (id : ℕ) (v : BusyView) (other : ℕ) (w : BusyView) → get_elem? views id ≡ some v → ¬ (other ≡ id) → get_elem? (set views id (joined v w)) other ≡ some w
    → SameWords views (set (set views id (joined v w)) other spent)
joined_words views id v other w at apart there = record {
  kept = (λ P none' all.
      let theirs_at = sym (set_else views id other (joined v w) apart) ∙ there in
      let mine = all_at (WordsIn P) views id v all at in
      let theirs = all_at (WordsIn P) views other w all theirs_at in
      All-set (WordsIn P) (set views id (joined v w)) other spent (none', All-nil (λ s. P s.words))
      (All-set (WordsIn P) views id (joined v w) (mine.0, All-append (λ s. P s.words) v.senders w.senders mine.1 theirs.1) all));
}

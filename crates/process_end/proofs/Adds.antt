-- What an add, and an add taken back, leave of a sender that was free.
use Rattle.std.proofs.Common.{arith, ◌≡◌, ℕ, ◌+◌, ◌*◌, ◌%◌, ◌<◌, ◌≤◌, List, [], ◌∷◌, ◌++◌, length, Bool, true, false, eqb, ◌&&◌, ◌||◌, not, refl, sym, ap, ◌∙◌, subst, append_assoc}
use Rattle.std.specs.Prelude.{filter, sum_by, nat_lt}
use Rattle.std.specs.List.{All, list_any}
use Rattle.std.proofs.lemmas.List.{append-nil, length-append}
use Rattle.std.proofs.lemmas.List.Elements.{filter-append, All-push, All-weaker, All-head, All-tail, Contains-push}
use Rattle.std.proofs.lemmas.List.Folds.{list_any-append, list_any_none}
use Rattle.std.proofs.lemmas.List.Sums.{sum_by-append, sum_by_push}
use Rattle.std.proofs.lemmas.Bool.Decides.{nat_tests}
use Rattle.port_words.specs.sums.Counts.{one_if}
use Rattle.port_words.specs.declared.busy.view.AddHow.{AddHow}
use Rattle.port_words.specs.declared.busy.view.AddName.{AddName}
use Rattle.port_words.specs.declared.busy.view.QueueAdd.{QueueAdd}
use Rattle.port_words.specs.declared.busy.view.SenderLedger.{SenderLedger}
use Rattle.port_words.specs.declared.busy.view.SenderView.{SenderView}
use Rattle.port_words.specs.busy.Queue.{period_of, Climbs, is_left_at}
use Rattle.port_words.specs.busy.Stat.{tells_closed}
use Rattle.port_words.specs.busy.Steps.{adding, heard, next_add, next_name}
use Rattle.port_lanes.specs.port_history.Suspension.{is_queue_busy}
use Rattle.process_receipts.specs.Ledgers.{is_undone, kept_adds, is_plain, plain_in, OncePlain, ArePlaced, saw_closed, saw_later, is_stopping_add, IsOver, IsFree, IsWaiting}

pub split : {X : Type 0} (b : Bool) → (b ≡ true → X) → (b ≡ false → X) → X
split true t f = t refl
split false t f = f refl

pub contrary : {X : Type 0} (b : Bool) → b ≡ true → b ≡ false → X
contrary true t f = absurd cc
contrary false t f = absurd cc

pub same-number : (n : ℕ) → eqb n n ≡ true
same-number n = grind (arith, nat_tests)

pub below-apart : (n m : ℕ) → n < m → eqb n m ≡ false
below-apart n m e = grind (arith, nat_tests)

pub above-apart : (n m : ℕ) → n < m → eqb m n ≡ false
above-apart n m e = grind (arith, nat_tests)

pub lt-from : (n m : ℕ) → nat_lt n m ≡ true → n < m
lt-from n m e = grind (arith, nat_tests)

pub or-more : (a b c d : Bool) → (a || b) ≡ true → ((a || c) || (b || d)) ≡ true
or-more true b c d h = refl
or-more false true true d h = refl
or-more false true false d h = refl
or-more false false c d h = absurd cc

or-right : (a b : Bool) → (a || b) ≡ true → a ≡ false → b ≡ true
or-right true b h f = absurd cc
or-right false b h f = h

-- an add that is over stays so, with more words
pub over-more : (s t : SenderView) (a : QueueAdd) (stats words : List ℕ) → t.stats ≡ s.stats ++ stats → t.words ≡ s.words ++ words → IsOver s a → IsOver t a
over-more s t a stats words e f over stops =
    let later : ℕ → Bool = λ w. nat_lt (period_of a.word) (period_of w) in
    rw (e, f, list_any-append tells_closed s.stats stats, list_any-append later s.words words)
    (or-more (list_any tells_closed s.stats) (list_any later s.words) (list_any tells_closed stats) (list_any later words) (over stops))

pub free-more : (s t : SenderView) (stats words : List ℕ) → t.ledger ≡ s.ledger → t.stats ≡ s.stats ++ stats → t.words ≡ s.words ++ words → IsFree s → IsFree t
free-more s t stats words g e f free = rw g (All-weaker (IsOver s) (IsOver t) (λ a over. over-more s t a stats words e f over) (kept_adds s.ledger) free)

-- the adds that are kept after one more
not-undone : (l : SenderLedger) (how : AddHow) (size word : ℕ) → ArePlaced l → is_undone l.undone (next_add l how size word) ≡ false
not-undone l how size word placed = list_any_none (λ n. eqb n.place (length l.adds)) l.undone
    (All-weaker (λ n. n.place < length l.adds) (λ n. eqb n.place (length l.adds) ≡ false) (λ n h. below-apart n.place (length l.adds) h) l.undone placed.1)

filtered-one : (p : QueueAdd → Bool) (x : QueueAdd) → p x ≡ true → filter p (x ∷ []) ≡ x ∷ []
filtered-one p x e = rw e refl

filtered-none : (p : QueueAdd → Bool) (x : QueueAdd) → p x ≡ false → filter p (x ∷ []) ≡ []
filtered-none p x e = rw e refl

pub kept-added : (l : SenderLedger) (how : AddHow) (size word : ℕ) → ArePlaced l
    → kept_adds (record { number = l.number; adds = l.adds ++ next_add l how size word ∷ []; undone = l.undone }) ≡ kept_adds l ++ next_add l how size word ∷ []
kept-added l how size word placed =
    let x : QueueAdd = next_add l how size word in
    filter-append (λ a. not (is_undone l.undone a)) l.adds (x ∷ [])
    ∙ ap (λ t. kept_adds l ++ t) (filtered-one (λ a. not (is_undone l.undone a)) x (ap not (not-undone l how size word placed)))

filter-same : (p q : QueueAdd → Bool) (xs : List QueueAdd) → All (λ a. p a ≡ q a) xs → filter p xs ≡ filter q xs
filter-same p q [] all = refl
filter-same p q (x ∷ xs) all =
    rw (All-head (λ a. p a ≡ q a) x xs all, filter-same p q xs (All-tail (λ a. p a ≡ q a) x xs all)) refl

or-none : (a : Bool) → (a || (false || false)) ≡ a
or-none true = refl
or-none false = refl

pub or-one : (a b : Bool) → (a || (true || b)) ≡ true
or-one true b = refl
or-one false b = refl

pub kept-undone : (l : SenderLedger) (how : AddHow) (size word : ℕ) → ArePlaced l
    → kept_adds (record { number = l.number; adds = l.adds ++ next_add l how size word ∷ []; undone = l.undone ++ next_name l size ∷ [] }) ≡ kept_adds l
kept-undone l how size word placed =
    let x : QueueAdd = next_add l how size word in
    let name : AddName = next_name l size in
    let q : QueueAdd → Bool = λ a. not (is_undone (l.undone ++ name ∷ []) a) in
    filter-append q l.adds (x ∷ [])
    ∙ (ap (λ t. filter q l.adds ++ t) (filtered-none q x
    (ap not (list_any-append (λ n. eqb n.place x.name.place) l.undone (name ∷ [])
    ∙ (ap (λ b. list_any (λ n. eqb n.place x.name.place) l.undone || (b || false)) (same-number (length l.adds)) ∙ or-one (list_any (λ n. eqb n.place x.name.place) l.undone) false))))
    ∙ (append-nil (filter q l.adds)
    ∙ filter-same q (λ a. not (is_undone l.undone a)) l.adds
    (All-weaker (λ a. a.name.place < length l.adds) (λ a. q a ≡ not (is_undone l.undone a))
    (λ a h. ap not (list_any-append (λ n. eqb n.place a.name.place) l.undone (name ∷ [])
    ∙ (ap (λ b. list_any (λ n. eqb n.place a.name.place) l.undone || (b || false)) (above-apart a.name.place (length l.adds) h)
    ∙ or-none (list_any (λ n. eqb n.place a.name.place) l.undone)))) l.adds placed.0)))

-- places after one more add
pub placed-added : (l : SenderLedger) (how : AddHow) (size word : ℕ) (undone : List AddName) → ArePlaced l → All (λ n. n.place < length l.adds + 1) undone
    → ArePlaced (record { number = l.number; adds = l.adds ++ next_add l how size word ∷ []; undone = undone })
placed-added l how size word undone placed more =
    let x : QueueAdd = next_add l how size word in
    let long : length (l.adds ++ x ∷ []) ≡ length l.adds + 1 = length-append l.adds (x ∷ []) in (
      subst (λ n. All (λ a. a.name.place < n) (l.adds ++ x ∷ [])) (sym long) (All-push (λ a. a.name.place < length l.adds + 1) l.adds x
          (All-weaker (λ a. a.name.place < length l.adds) (λ a. a.name.place < length l.adds + 1) (λ a h. omega arith) l.adds placed.0) (omega arith)),
      subst (λ n. All (λ m. m.place < n) undone) (sym long) more,
    )

pub wider : (l : SenderLedger) → ArePlaced l → All (λ n. n.place < length l.adds + 1) l.undone
wider l placed = All-weaker (λ n. n.place < length l.adds) (λ n. n.place < length l.adds + 1) (λ n h. omega arith) l.undone placed.1

-- the words before are of no later period
pub climbs-from : (from to : ℕ) (ws : List ℕ) → Climbs from ws to → from ≤ to
climbs-from from to [] c = c
climbs-from from to (w ∷ ws) c = let inner = climbs-from (period_of w) to ws c.1 in let first = c.0 in omega arith

pub later-below : (period from to : ℕ) (ws more : List ℕ) → Climbs from (ws ++ more) to → saw_later period ws ≡ true → period < to
later-below period from to [] more c e = absurd cc
later-below period from to (w ∷ ws) more c e = split (nat_lt period (period_of w))
    (λ t. let below = lt-from period (period_of w) t in let up = climbs-from (period_of w) to (ws ++ more) c.1 in omega arith)
    (λ f. later-below period (period_of w) to ws more c.1 (or-right (nat_lt period (period_of w)) (saw_later period ws) e f))

zero-times : (n : ℕ) → n * 0 ≡ 0
zero-times n = omega arith

zero-left : (n : ℕ) → 0 * n ≡ 0
zero-left n = omega arith

left-none : (period : ℕ) (a : QueueAdd) → eqb (period_of a.word) period ≡ false → plain_in period a ≡ 0
left-none period a e = rw e (zero-left (one_if (is_plain a.how)))

-- a plain add of a free sender left no period as late as that of the word that the sender leaves now
none-in : (s : SenderView) (more : List ℕ) (word period : ℕ) (a : QueueAdd) → saw_closed s.stats ≡ false → Climbs 0 (s.words ++ more) (period_of word)
    → period ≡ period_of word → period % 2 ≡ 1 → IsOver s a → plain_in period a ≡ 0
none-in s more word period a open' climbs is odd over = split (is_plain a.how)
    (λ plain. split (is_queue_busy a.word)
    (λ busy. left-none period a (let below = later-below (period_of a.word) 0 (period_of word) s.words more climbs
    (or-right (saw_closed s.stats) (saw_later (period_of a.word) s.words) (over (rw (plain, busy) refl)) open') in
    below-apart (period_of a.word) period (omega arith)))
    (λ free. left-none period a (split (eqb (period_of a.word) period) (λ same. absurd (grind (arith, nat_tests))) (λ f. f))))
    (λ other. rw other (zero-times (is_left_at period a)))

sum-none : (f : QueueAdd → ℕ) (xs : List QueueAdd) → All (λ a. f a ≡ 0) xs → sum_by f xs ≡ 0
sum-none f [] all = refl
sum-none f (x ∷ xs) all =
    let whole : sum_by f (x ∷ xs) ≡ (0 + f x) + sum_by f xs = sum_by-append f (x ∷ []) xs in
    let head : f x ≡ 0 = All-head (λ a. f a ≡ 0) x xs all in
    let rest : sum_by f xs ≡ 0 = sum-none f xs (All-tail (λ a. f a ≡ 0) x xs all) in
    omega arith

at-most : (period : ℕ) (a : QueueAdd) → plain_in period a ≤ 1
at-most period a = split (eqb (period_of a.word) period)
    (λ t. split (is_plain a.how) (λ p. rw (t, p) (omega arith)) (λ p. rw (t, p) (omega arith)))
    (λ f. rw f (omega arith))

pub same-from : (n m : ℕ) → eqb n m ≡ true → n ≡ m
same-from n m e = grind (arith, nat_tests)

climbs-on : (ws found : List ℕ) (word : ℕ) → Climbs 0 ((ws ++ found) ++ word ∷ []) (period_of word) → Climbs 0 (ws ++ (found ++ word ∷ [])) (period_of word)
climbs-on ws found word c = subst (λ vs. Climbs 0 vs (period_of word)) (append_assoc ws found (word ∷ [])) c

pub once-added : (s : SenderView) (found : List ℕ) (how : AddHow) (size word : ℕ) → ArePlaced s.ledger → IsFree s → saw_closed s.stats ≡ false
    → Climbs 0 (adding (heard s found) how size word).words (period_of word) → OncePlain s.ledger → OncePlain (adding (heard s found) how size word).ledger
once-added s found how size word placed free open' climbs once period odd =
    let x : QueueAdd = next_add s.ledger how size word in
    let whole : sum_by (plain_in period) (kept_adds (adding (heard s found) how size word).ledger) ≡ sum_by (plain_in period) (kept_adds s.ledger) + plain_in period x =
    ap (sum_by (plain_in period)) (kept-added s.ledger how size word placed) ∙ sum_by_push (plain_in period) (kept_adds s.ledger) x in
    split (eqb (period_of word) period)
    (λ same.
    let none : sum_by (plain_in period) (kept_adds s.ledger) ≡ 0 = sum-none (plain_in period) (kept_adds s.ledger) (All-weaker (IsOver s) (λ a. plain_in period a ≡ 0)
    (λ a over. none-in s (found ++ word ∷ []) word period a open' (climbs-on s.words found word climbs) (sym (same-from (period_of word) period same)) odd over)
    (kept_adds s.ledger) free) in
    let one : plain_in period x ≤ 1 = at-most period x in omega arith)
    (λ apart. let none : plain_in period x ≡ 0 = left-none period x apart in let before = once period odd in omega arith)

-- a free sender is free after an add that left the queue free or isn't plain
pub free-added : (s : SenderView) (found : List ℕ) (how : AddHow) (size word : ℕ) → ArePlaced s.ledger → IsFree s → (is_plain how && is_queue_busy word) ≡ false
    → IsFree (adding (heard s found) how size word)
free-added s found how size word placed free calm =
    let t : SenderView = adding (heard s found) how size word in
    let x : QueueAdd = next_add s.ledger how size word in
    subst (All (IsOver t)) (sym (kept-added s.ledger how size word placed))
    (All-push (IsOver t) (kept_adds s.ledger) x
    (All-weaker (IsOver s) (IsOver t) (λ a over. over-more s t a [] (found ++ word ∷ []) (sym (append-nil s.stats)) (append_assoc s.words found (word ∷ [])) over) (kept_adds s.ledger) free)
    (λ stops. contrary (is_stopping_add x) stops calm))

-- and else it waits for the end of the period that its add left
pub waiting-added : (s : SenderView) (found : List ℕ) (how : AddHow) (size word : ℕ) → ArePlaced s.ledger → IsFree s → IsWaiting word (adding (heard s found) how size word)
waiting-added s found how size word placed free =
    let t : SenderView = adding (heard s found) how size word in
    let x : QueueAdd = next_add s.ledger how size word in
    let P : QueueAdd → Type 0 = λ a. is_stopping_add a ≡ true → eqb (period_of a.word) (period_of word) ≡ false → IsOver t a in
    record {
      heard = Contains-push (s.words ++ found) word;
      free = subst (All P) (sym (kept-added s.ledger how size word placed))
          (All-push P (kept_adds s.ledger) x
          (All-weaker (IsOver s) P (λ a over _ _. over-more s t a [] (found ++ word ∷ []) (sym (append-nil s.stats)) (append_assoc s.words found (word ∷ [])) over) (kept_adds s.ledger) free)
          (λ _ apart. contrary (eqb (period_of word) (period_of word)) (same-number (period_of word)) apart));
    }

-- it stays free after an add that was taken back
pub free-undone : (s t : SenderView) (more : List ℕ) (how : AddHow) (size word : ℕ) → ArePlaced s.ledger → IsFree s → t.stats ≡ s.stats → t.words ≡ s.words ++ more
    → t.ledger ≡ record { number = s.ledger.number; adds = s.ledger.adds ++ next_add s.ledger how size word ∷ []; undone = s.ledger.undone ++ next_name s.ledger size ∷ [] } → IsFree t
free-undone s t more how size word placed free e f g =
    subst (All (IsOver t)) (sym (ap kept_adds g ∙ kept-undone s.ledger how size word placed))
    (All-weaker (IsOver s) (IsOver t) (λ a over. over-more s t a [] more (e ∙ sym (append-nil s.stats)) f over) (kept_adds s.ledger) free)

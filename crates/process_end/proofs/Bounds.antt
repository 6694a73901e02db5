-- The words of a port's message queue keep the bound.
use Rattle.std.proofs.Common.{arith, zero, suc, ◌≡◌, ℕ, ◌+◌, ◌*◌, ◌%◌, ◌≤◌, List, [], ◌∷◌, Bool, true, false, cond, eqb, not, refl, sym, ap, ◌∙◌, subst}
use Rattle.std.specs.Prelude.{map, filter, sum_by, nat_lt}
use Rattle.std.specs.List.{All}
use Rattle.std.proofs.lemmas.List.Elements.{All-nil, All-cons, All-head, All-tail, All-weaker}
use Rattle.std.proofs.lemmas.List.Sums.{sum_by-cons}
use Rattle.std.proofs.lemmas.Bool.Decides.{nat_tests}
use Rattle.port_words.specs.sums.Counts.{one_if}
use Rattle.port_words.specs.declared.busy.view.AddHow.{AddHow}
use Rattle.port_words.specs.declared.busy.view.AddHow.TheVariants.{Plain, NoSuspend, Forced}
use Rattle.port_words.specs.declared.busy.view.BusyView.{BusyView}
use Rattle.port_words.specs.declared.busy.view.QueueAdd.{QueueAdd}
use Rattle.port_words.specs.declared.busy.view.SenderLedger.{SenderLedger}
use Rattle.port_words.specs.declared.busy.view.SenderView.{SenderView}
use Rattle.port_words.specs.busy.Queue.{period_of, bytes_of, is_nosuspend, left_in, unsuspended_in, IsWithin}
use Rattle.port_words.specs.busy.Steps.{TellsQueue}
use Rattle.port_words.specs.busy.Views.{adds_by, WordsIn}
use Rattle.process_receipts.specs.Receipts.{ShownAdd}
use Rattle.process_receipts.specs.Ledgers.{is_plain, is_undone, kept_adds, plain_in, shown_add, OncePlain}
use Rattle.process_end.specs.Bounds.{is_forced, larger, greatest, unforced_size, unsuspended_size, forced_size, queue_bound, adds_joined, AllJoined}
use Rattle.process_end.proofs.Adds.{split}

larger-left : (n m : ℕ) → n ≤ larger n m
larger-left n m = split (nat_lt n m) (λ t. grind (arith, nat_tests)) (λ f. rw f (omega arith))

larger-right : (n m : ℕ) → m ≤ larger n m
larger-right n m = split (nat_lt n m) (λ t. rw t (omega arith)) (λ f. grind (arith, nat_tests))

at-most-trans : (a b c : ℕ) → a ≤ b → b ≤ c → a ≤ c
at-most-trans a b c p q = omega arith

by-zero : {Y : Type 0} (n : ℕ) → (n ≡ 0 → Y) → (1 ≤ n → Y) → Y
by-zero zero none some = none refl
by-zero (suc n) none some = some (omega arith)

module _ {X : Type 0} where
  greatest-all : {W : Type 0} (size : W → ℕ) (f : X → W) (xs : List X) → All (λ x. size (f x) ≤ greatest size (map f xs)) xs
  greatest-all size f [] = All-nil _
  greatest-all size f (x ∷ xs) =
      let top : ℕ = larger (size (f x)) (greatest size (map f xs)) in
      All-cons (λ y. size (f y) ≤ top) x xs (larger-left (size (f x)) (greatest size (map f xs)))
      (All-weaker (λ y. size (f y) ≤ greatest size (map f xs)) (λ y. size (f y) ≤ top)
      (λ y h. at-most-trans (size (f y)) (greatest size (map f xs)) top h (larger-right (size (f x)) (greatest size (map f xs)))) xs (greatest-all size f xs))

  sum-map : {W : Type 0} (size : W → ℕ) (f : X → W) (xs : List X) → sum_by (λ x. size (f x)) xs ≡ sum_by size (map f xs)
  sum-map size f [] = refl
  sum-map size f (x ∷ xs) = sum_by-cons (λ y. size (f y)) x xs ∙ (ap (λ n. size (f x) + n) (sum-map size f xs) ∙ sym (sum_by-cons size (f x) (map f xs)))

  sum-three : (f a b c : X → ℕ) (xs : List X) → All (λ x. f x ≤ a x + b x + c x) xs → sum_by f xs ≤ sum_by a xs + sum_by b xs + sum_by c xs
  sum-three f a b c [] all = omega arith
  sum-three f a b c (x ∷ xs) all =
      let head : f x ≤ a x + b x + c x = All-head (λ y. f y ≤ a y + b y + c y) x xs all in
      let rest = sum-three f a b c xs (All-tail (λ y. f y ≤ a y + b y + c y) x xs all) in
      let ef = sum_by-cons f x xs in
      let ea = sum_by-cons a x xs in
      let eb = sum_by-cons b x xs in
      let ec = sum_by-cons c x xs in omega arith

  sum-none : (count size : X → ℕ) (xs : List X) → ((x : X) → count x ≡ 0 → size x ≡ 0) → sum_by count xs ≡ 0 → sum_by size xs ≡ 0
  sum-none count size [] none e = refl
  sum-none count size (x ∷ xs) none e =
      let ec = sum_by-cons count x xs in
      let es = sum_by-cons size x xs in
      let here : size x ≡ 0 = none x (omega arith) in
      let there : sum_by size xs ≡ 0 = sum-none count size xs none (omega arith) in omega arith

  -- where at most one element counts, the sum is no more than the most that one has
  one-at-most : (count size : X → ℕ) (most : ℕ) (xs : List X) → ((x : X) → count x ≡ 0 → size x ≡ 0) → All (λ x. count x ≤ 1 → size x ≤ most) xs → sum_by count xs ≤ 1
      → sum_by size xs ≤ most
  one-at-most count size most [] none all e = omega arith
  one-at-most count size most (x ∷ xs) none all e =
      let ec : sum_by count (x ∷ xs) ≡ count x + sum_by count xs = sum_by-cons count x xs in
      let es : sum_by size (x ∷ xs) ≡ size x + sum_by size xs = sum_by-cons size x xs in
      by-zero (count x)
      (λ z. let here : size x ≡ 0 = none x z in
      let there : sum_by size xs ≤ most = one-at-most count size most xs none (All-tail (λ y. count y ≤ 1 → size y ≤ most) x xs all) (omega arith) in omega arith)
      (λ s. let here : size x ≤ most = All-head (λ y. count y ≤ 1 → size y ≤ most) x xs all (omega arith) in
      let there : sum_by size xs ≡ 0 = sum-none count size xs none (omega arith) in omega arith)

zero-left : (n : ℕ) → 0 * n ≡ 0
zero-left n = omega arith

one-left : (n : ℕ) → 1 * n ≡ n
one-left n = omega arith

left-small : (period : ℕ) (a : QueueAdd) → left_in period a ≤ a.name.size
left-small period a = split (eqb (period_of a.word) period) (λ t. rw (t, one-left a.name.size) (omega arith)) (λ f. rw (f, zero-left a.name.size) (omega arith))

-- what an add that is refused in place of suspending, and a plain one, left in a period
abbrev unsuspended_left : ℕ → QueueAdd → ℕ
unsuspended_left period a = cond (is_nosuspend a.how) (left_in period a) 0

abbrev plain_left : ℕ → QueueAdd → ℕ
plain_left period a = cond (is_plain a.how) (left_in period a) 0

parts : (how : AddHow) (left size : ℕ) → left ≤ size → left ≤ cond (is_nosuspend how) left 0 + cond (is_plain how) left 0 + cond (is_forced how) size 0
parts Plain left size h = omega arith
parts NoSuspend left size h = omega arith
parts Forced left size h = omega arith

none-counts : (b : Bool) (left : Bool) (size : ℕ) → one_if left * one_if b ≡ 0 → cond b (one_if left * size) 0 ≡ 0
none-counts true true size e = absurd (omega arith)
none-counts true false size e = zero-left size
none-counts false left size e = refl

unsuspended-most : (how : AddHow) (left size : ℕ) → left ≤ size → cond (is_nosuspend how) left 0 ≤ cond (is_nosuspend how) size 0
unsuspended-most Plain left size h = omega arith
unsuspended-most NoSuspend left size h = h
unsuspended-most Forced left size h = omega arith

plain-most : (how : AddHow) (left size : ℕ) → left ≤ size → cond (is_plain how) left 0 ≤ cond (is_forced how) 0 size
plain-most Plain left size h = h
plain-most NoSuspend left size h = omega arith
plain-most Forced left size h = omega arith

filter-all : (xs : List QueueAdd) → filter (λ a. true) xs ≡ xs
filter-all [] = refl
filter-all (x ∷ xs) = ap (λ t. x ∷ t) (filter-all xs)

pub kept-all : (l : SenderLedger) → l.undone ≡ [] → kept_adds l ≡ l.adds
kept-all l e = subst (λ u. filter (λ a. not (is_undone u a)) l.adds ≡ l.adds) (sym e) (filter-all l.adds)

abbrev shown_of : SenderView → List ShownAdd
shown_of s = map shown_add s.ledger.adds

-- the plain adds of one sender that left an odd period
plain-sum : (s : SenderView) (period : ℕ) → OncePlain s.ledger × (s.ledger.undone ≡ []) → period % 2 ≡ 1 → sum_by (plain_left period) s.ledger.adds ≤ greatest unforced_size (shown_of s)
plain-sum s period h odd =
    one-at-most (plain_in period) (plain_left period) (greatest unforced_size (shown_of s)) s.ledger.adds
    (λ a e. none-counts (is_plain a.how) (eqb (period_of a.word) period) a.name.size e)
    (All-weaker (λ a. unforced_size (shown_add a) ≤ greatest unforced_size (shown_of s)) (λ a. plain_in period a ≤ 1 → plain_left period a ≤ greatest unforced_size (shown_of s))
    (λ a top _. at-most-trans (plain_left period a) (unforced_size (shown_add a)) (greatest unforced_size (shown_of s)) (plain-most a.how (left_in period a) a.name.size (left-small period a)) top)
    s.ledger.adds (greatest-all unforced_size shown_add s.ledger.adds))
    (subst (λ adds. sum_by (plain_in period) adds ≤ 1) (kept-all s.ledger h.1) (h.0 period odd))

all-of : {X : Type 0} (P : X → Type 0) → ((x : X) → P x) → (xs : List X) → All P xs
all-of P h [] = All-nil _
all-of P h (x ∷ xs) = All-cons P x xs (h x) (all-of P h xs)

-- all adds of one sender that left an odd period
sender-sum : (s : SenderView) (period : ℕ) → OncePlain s.ledger × (s.ledger.undone ≡ []) → period % 2 ≡ 1
    → sum_by (left_in period) s.ledger.adds ≤ sum_by (unsuspended_left period) s.ledger.adds + greatest unforced_size (shown_of s) + sum_by forced_size (shown_of s)
sender-sum s period h odd =
    let three : sum_by (left_in period) s.ledger.adds ≤ sum_by (unsuspended_left period) s.ledger.adds + sum_by (plain_left period) s.ledger.adds + sum_by (λ a. forced_size (shown_add a)) s.ledger.adds =
    sum-three (left_in period) (unsuspended_left period) (plain_left period) (λ a. forced_size (shown_add a)) s.ledger.adds
    (all-of (λ a. left_in period a ≤ unsuspended_left period a + plain_left period a + forced_size (shown_add a)) (λ a. parts a.how (left_in period a) a.name.size (left-small period a)) s.ledger.adds) in
    let plain : sum_by (plain_left period) s.ledger.adds ≤ greatest unforced_size (shown_of s) = plain-sum s period h odd in
    let forced : sum_by (λ a. forced_size (shown_add a)) s.ledger.adds ≡ sum_by forced_size (shown_of s) = sum-map forced_size shown_add s.ledger.adds in omega arith

-- the adds of all senders that are refused in place of suspending and left an odd period
unsuspended-sum : (period : ℕ) (ss : List SenderView) → sum_by (λ s. sum_by (unsuspended_in period) s.ledger.adds) ss ≤ 1
    → sum_by (λ s. sum_by (unsuspended_left period) s.ledger.adds) ss ≤ greatest (greatest unsuspended_size) (map shown_of ss)
unsuspended-sum period ss few =
    let top : ℕ = greatest (greatest unsuspended_size) (map shown_of ss) in
    let none : (a : QueueAdd) → unsuspended_in period a ≡ 0 → unsuspended_left period a ≡ 0 =
    λ a e. none-counts (is_nosuspend a.how) (eqb (period_of a.word) period) a.name.size e in
    one-at-most (λ s. sum_by (unsuspended_in period) s.ledger.adds) (λ s. sum_by (unsuspended_left period) s.ledger.adds) top ss
    (λ s e. sum-none (unsuspended_in period) (unsuspended_left period) s.ledger.adds none e)
    (All-weaker (λ s. greatest unsuspended_size (shown_of s) ≤ top)
    (λ s. sum_by (unsuspended_in period) s.ledger.adds ≤ 1 → sum_by (unsuspended_left period) s.ledger.adds ≤ top)
    (λ s h one. one-at-most (unsuspended_in period) (unsuspended_left period) top s.ledger.adds none
    (All-weaker (λ a. unsuspended_size (shown_add a) ≤ greatest unsuspended_size (shown_of s)) (λ a. unsuspended_in period a ≤ 1 → unsuspended_left period a ≤ top)
    (λ a g _. at-most-trans (unsuspended_left period a) (greatest unsuspended_size (shown_of s)) top
    (at-most-trans (unsuspended_left period a) (unsuspended_size (shown_add a)) (greatest unsuspended_size (shown_of s))
    (unsuspended-most a.how (left_in period a) a.name.size (left-small period a)) g) h)
    s.ledger.adds (greatest-all unsuspended_size shown_add s.ledger.adds)) one)
    ss (greatest-all (greatest unsuspended_size) shown_of ss))
    few

-- all adds that left an odd period
all-sum : (v : BusyView) (word period : ℕ) → AllJoined v → TellsQueue v word → period % 2 ≡ 1
    → adds_by (left_in period) v ≤ greatest (greatest unsuspended_size) (adds_joined v) + sum_by (greatest unforced_size) (adds_joined v) + sum_by (sum_by forced_size) (adds_joined v)
all-sum v word period joined tells odd =
    let three : sum_by (λ s. sum_by (left_in period) s.ledger.adds) v.senders
    ≤ sum_by (λ s. sum_by (unsuspended_left period) s.ledger.adds) v.senders + sum_by (λ s. greatest unforced_size (shown_of s)) v.senders + sum_by (λ s. sum_by forced_size (shown_of s)) v.senders =
    sum-three (λ s. sum_by (left_in period) s.ledger.adds) (λ s. sum_by (unsuspended_left period) s.ledger.adds) (λ s. greatest unforced_size (shown_of s)) (λ s. sum_by forced_size (shown_of s)) v.senders
    (All-weaker (λ s. OncePlain s.ledger × (s.ledger.undone ≡ []))
    (λ s. sum_by (left_in period) s.ledger.adds ≤ sum_by (unsuspended_left period) s.ledger.adds + greatest unforced_size (shown_of s) + sum_by forced_size (shown_of s))
    (λ s h. sender-sum s period h odd) v.senders joined.senders) in
    let one : sum_by (λ s. sum_by (unsuspended_left period) s.ledger.adds) v.senders ≤ greatest (greatest unsuspended_size) (adds_joined v) =
    unsuspended-sum period v.senders (tells.unsuspended period odd) in
    let two : sum_by (λ s. greatest unforced_size (shown_of s)) v.senders ≡ sum_by (greatest unforced_size) (adds_joined v) = sum-map (greatest unforced_size) shown_of v.senders in
    let forced : sum_by (λ s. sum_by forced_size (shown_of s)) v.senders ≡ sum_by (sum_by forced_size) (adds_joined v) = sum-map (sum_by forced_size) shown_of v.senders in omega arith

parity : {Y : Type 0} (n : ℕ) → (n % 2 ≡ 0 → Y) → (n % 2 ≡ 1 → Y) → Y
parity n even odd = split (eqb (n % 2) 1) (λ t. odd (grind (arith, nat_tests))) (λ f. even (grind (arith, nat_tests)))

word-kept : (v : BusyView) (word : ℕ) → AllJoined v → TellsQueue v word → (w : ℕ) → IsWithin v.setup.limits (λ period. adds_by (left_in period) v) w
    → bytes_of w ≤ queue_bound v.setup.limits.high (adds_joined v)
word-kept v word joined tells w within = parity (period_of w)
    (λ even. let small = within.even even in omega arith)
    (λ odd. let small = within.odd odd in let most = all-sum v word (period_of w) joined tells odd in omega arith)

pub words-kept : (v : BusyView) (word : ℕ) → AllJoined v → TellsQueue v word → WordsIn (All (λ w. bytes_of w ≤ queue_bound v.setup.limits.high (adds_joined v))) v
words-kept v word joined tells =
    let P : ℕ → Type 0 = IsWithin v.setup.limits (λ period. adds_by (left_in period) v) in
    let Q : ℕ → Type 0 = λ w. bytes_of w ≤ queue_bound v.setup.limits.high (adds_joined v) in
    let each = (tells.bounded joined.all joined.limited).1 in (
      All-weaker P Q (word-kept v word joined tells) v.words each.0,
      All-weaker (λ s. All P s.words) (λ s. All Q s.words) (λ s h. All-weaker P Q (word-kept v word joined tells) s.words h) v.senders each.1,
    )

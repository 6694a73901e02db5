-- The part of the rule on STAT.
use Rattle.std.proofs.Common.{◌≡◌, ℕ, ◌+◌, ◌-◌, ◌*◌, ◌/◌, ◌%◌, ◌≤◌, Bool, true, false, List, [], ◌∷◌, ◌++◌, length, set, take, sym, refl, ap, ◌∙◌, subst, arith, true≢false, ⊎_elim, length-append}
use Rattle.std.proofs.lemmas.List.{take-append-le}
use Rattle.std.proofs.lemmas.List.Elements.{All-head, All-nil, All-set, All-push, All-append, All-weaker, All-take, All-drop}
use mathlib.Core.Option.{some}
use lib.ListN.{get_elem?}
use Rattle.atomic_table.proofs.Lists.{at_set, at_snoc, set_else}
use Rattle.port_words.specs.sums.Counts.{one_if}
use Rattle.port_words.proofs.lemmas.sums.Totals.{all_at}
use Rattle.port_words.specs.declared.busy.view.StatMark.{StatMark}
use Rattle.port_words.specs.declared.busy.view.StatMark.TheVariants.{Busy, Free, Closed}
use Rattle.port_words.specs.declared.busy.view.SenderView.{SenderView}
use Rattle.port_words.specs.declared.busy.view.BusyView.{BusyView}
use Rattle.port_words.specs.busy.Stat.{busy_after, marked_busy, marked_closed, stat_of, Rises, EachRises, IsStat}
use Rattle.port_words.specs.busy.Steps.{saw, marked, first_sender, other_senders, its_weights, no_weights, joined, spent}
use Rattle.port_words.proofs.lemmas.busy.ViewLemmas.{all_one}

whole : {A : Type 0} (xs : List A) → take (length xs) xs ≡ xs
whole [] = refl
whole (x ∷ xs) = ap (λ l. x ∷ l) (whole xs)

-- the last STAT is that of all marks
pub rises_push : (marks : List StatMark) (from : ℕ) (ts : List ℕ) → from ≤ length marks → Rises marks from ts → Rises marks from (ts ++ stat_of marks ∷ [])
rises_push marks from [] le r = (length marks, le, omega arith, ap stat_of (sym (whole marks)), tt)
rises_push marks from (t ∷ ts) le r = (r.0, r.1, r.2, r.3, rises_push marks r.0 ts r.2 r.4)

-- and what rose along the marks rises along more of them
pub rises_more : (marks more : List StatMark) (from : ℕ) (ts : List ℕ) → Rises marks from ts → Rises (marks ++ more) from ts
rises_more marks more from [] r = tt
rises_more marks more from (t ∷ ts) r =
    let longer = length-append marks more in
    let below = r.2 in
    (r.0, r.1, omega arith, r.3 ∙ ap stat_of (sym (take-append-le r.0 marks more r.2)), rises_more marks more r.0 ts r.4)

-- a step of another word or of no word, by a seat that keeps its marks and its STAT words
pub stat_set : (x : ℕ) (views : List BusyView) (id : ℕ) (v w : BusyView) → get_elem? views id ≡ some v → w.port ≡ v.port → w.marks ≡ v.marks
    → ((marks : List StatMark) → EachRises marks v.senders → EachRises marks w.senders) → IsStat x views → IsStat x (set views id w)
stat_set x views id v w at port marks rises part = record {
  port = part.port;
  marks = part.marks;
  stat = part.stat;
  one_port = (λ i u here is_port.
      ⊎_elim
      (λ t. let mine = part.one_port id v at (sym port ∙ ap (λ (k : BusyView). k.port) t.1 ∙ is_port) in (t.0 ∙ mine.0, ap (λ (k : BusyView). k.marks) (sym t.1) ∙ marks ∙ mine.1))
      (λ t. part.one_port i u t.1 is_port)
      (at_set views id i w u here));
  found = All-set (λ u. EachRises part.marks u.senders) views id w (rises part.marks (all_at (λ u. EachRises part.marks u.senders) views id v part.found at)) part.found;
}

-- a sender finds STAT, and learns that it is the STAT of a beginning of the marks
pub stat_saw : (x : ℕ) (views : List BusyView) (id : ℕ) (v w : BusyView) (s : SenderView) → get_elem? views id ≡ some v → v.senders ≡ s ∷ [] → w.senders ≡ saw s x ∷ [] → w.port ≡ v.port → w.marks ≡ v.marks → IsStat x views → IsStat x (set views id w)
stat_saw x views id v w s at had has port marks part =
    let r : Rises part.marks 0 s.stats = All-head (λ u. Rises part.marks 0 u.stats) s [] (subst (EachRises part.marks) had (all_at (λ u. EachRises part.marks u.senders) views id v part.found at)) in
    let more : Rises part.marks 0 (s.stats ++ x ∷ []) = subst (λ (k : ℕ). Rises part.marks 0 (s.stats ++ k ∷ [])) (sym part.stat) (rises_push part.marks 0 s.stats (omega arith) r) in
    record {
      port = part.port;
      marks = part.marks;
      stat = part.stat;
      one_port = (λ i u here is_port.
          ⊎_elim
          (λ t. let mine = part.one_port id v at (sym port ∙ ap (λ (k : BusyView). k.port) t.1 ∙ is_port) in (t.0 ∙ mine.0, ap (λ (k : BusyView). k.marks) (sym t.1) ∙ marks ∙ mine.1))
          (λ t. part.one_port i u t.1 is_port)
          (at_set views id i w u here));
      found = All-set (λ u. EachRises part.marks u.senders) views id w (subst (EachRises part.marks) (sym has) (all_one (λ u. Rises part.marks 0 u.stats) (saw s x) more)) part.found;
    }

pub told_stat : (x : ℕ) (views : List BusyView) (id : ℕ) (v : BusyView) (s : SenderView) → get_elem? views id ≡ some v → v.senders ≡ s ∷ [] → IsStat x views → (marks : List StatMark) × (x ≡ stat_of marks) × Rises marks 0 (s.stats ++ x ∷ [])
told_stat x views id v s at had part =
    let r : Rises part.marks 0 s.stats = All-head (λ u. Rises part.marks 0 u.stats) s [] (subst (EachRises part.marks) had (all_at (λ u. EachRises part.marks u.senders) views id v part.found at)) in
    (part.marks, part.stat, subst (λ (k : ℕ). Rises part.marks 0 (s.stats ++ k ∷ [])) (sym part.stat) (rises_push part.marks 0 s.stats (omega arith) r))

-- the port makes a mark
pub stat_marked : (x : ℕ) (views : List BusyView) (id : ℕ) (v : BusyView) (m : StatMark) → get_elem? views id ≡ some v → v.port ≡ true → IsStat x views → IsStat (stat_of (v.marks ++ m ∷ [])) (set views id (marked v m))
stat_marked x views id v m at is_port part =
    let mine = part.one_port id v at is_port in
    let w = marked v m in
    record {
      port = part.port;
      marks = v.marks ++ m ∷ [];
      stat = refl;
      one_port = (λ i u here is_port'.
          ⊎_elim
          (λ t. (t.0 ∙ mine.0, ap (λ (k : BusyView). k.marks) (sym t.1)))
          (λ t. absurd (t.0 ((part.one_port i u t.1 is_port').0 ∙ sym mine.0)))
          (at_set views id i w u here));
      found =
          let grown : (u : BusyView) → EachRises part.marks u.senders → EachRises (v.marks ++ m ∷ []) u.senders =
          λ u all. All-weaker (λ s. Rises part.marks 0 s.stats) (λ s. Rises (v.marks ++ m ∷ []) 0 s.stats) (λ s r. rises_more v.marks (m ∷ []) 0 s.stats (subst (λ ms. Rises ms 0 s.stats) (sym mine.1) r)) u.senders all in
          let all = All-weaker (λ u. EachRises part.marks u.senders) (λ u. EachRises (v.marks ++ m ∷ []) u.senders) grown views part.found in
          All-set (λ u. EachRises (v.marks ++ m ∷ []) u.senders) views id w (all_at (λ u. EachRises (v.marks ++ m ∷ []) u.senders) views id v all at) all;
    }

-- the port's marks are those of STAT
pub port_stat : (x : ℕ) (views : List BusyView) (id : ℕ) (v : BusyView) → get_elem? views id ≡ some v → v.port ≡ true → IsStat x views → (x ≡ stat_of v.marks) × EachRises v.marks v.senders
port_stat x views id v at is_port part =
    let mine = part.one_port id v at is_port in
    (part.stat ∙ ap stat_of (sym mine.1), subst (λ ms. EachRises ms v.senders) (sym mine.1) (all_at (λ u. EachRises part.marks u.senders) views id v part.found at))

stat_push : (x : ℕ) (views : List BusyView) (right : BusyView) → right.port ≡ false → ((marks : List StatMark) → EachRises marks right.senders) → IsStat x views → IsStat x (views ++ right ∷ [])
stat_push x views right not_port rises part = record {
  port = part.port;
  marks = part.marks;
  stat = part.stat;
  one_port = (λ i u here is_port.
      ⊎_elim
      (λ there. part.one_port i u there is_port)
      (λ same. absurd (true≢false (sym is_port ∙ ap (λ (k : BusyView). k.port) (sym same) ∙ not_port)))
      (at_snoc views right u i here));
  found = All-push (λ u. EachRises part.marks u.senders) views right part.found (rises part.marks);
}

pub stat_sender_cut : (x : ℕ) (views : List BusyView) (id : ℕ) (v : BusyView) → get_elem? views id ≡ some v → IsStat x views → IsStat x (set views id (other_senders v) ++ first_sender v ∷ [])
stat_sender_cut x views id v at part =
    let mine = all_at (λ u. EachRises part.marks u.senders) views id v part.found at in
    record {
      port = part.port;
      marks = part.marks;
      stat = part.stat;
      one_port = (λ i u here is_port.
          ⊎_elim
          (λ there. ⊎_elim
          (λ t. let own = part.one_port id v at (ap (λ (k : BusyView). k.port) t.1 ∙ is_port) in (t.0 ∙ own.0, ap (λ (k : BusyView). k.marks) (sym t.1) ∙ own.1))
          (λ t. part.one_port i u t.1 is_port)
          (at_set views id i (other_senders v) u there))
          (λ same. absurd (true≢false (sym is_port ∙ ap (λ (k : BusyView). k.port) (sym same))))
          (at_snoc (set views id (other_senders v)) (first_sender v) u i here));
      found = All-push (λ u. EachRises part.marks u.senders) (set views id (other_senders v)) (first_sender v)
          (All-set (λ u. EachRises part.marks u.senders) views id (other_senders v) (All-drop (λ s. Rises part.marks 0 s.stats) 1 v.senders mine) part.found)
          (All-take (λ s. Rises part.marks 0 s.stats) 1 v.senders mine);
    }

pub stat_weights_cut : (x : ℕ) (views : List BusyView) (id : ℕ) (v : BusyView) → get_elem? views id ≡ some v → IsStat x views → IsStat x (set views id (no_weights v) ++ its_weights v ∷ [])
stat_weights_cut x views id v at part = stat_push x (set views id (no_weights v)) (its_weights v) refl (λ marks. All-nil (λ s. Rises marks 0 s.stats)) (stat_set x views id v (no_weights v) at refl refl (λ marks all. all) part)

pub stat_joined : (x : ℕ) (views : List BusyView) (id : ℕ) (v : BusyView) (other : ℕ) (w : BusyView) → get_elem? views id ≡ some v → ¬ (other ≡ id) → get_elem? (set views id (joined v w)) other ≡ some w → IsStat x views
    → IsStat x (set (set views id (joined v w)) other spent)
stat_joined x views id v other w at apart there part =
    let theirs_at = sym (set_else views id other (joined v w) apart) ∙ there in
    let mine = all_at (λ u. EachRises part.marks u.senders) views id v part.found at in
    let theirs = all_at (λ u. EachRises part.marks u.senders) views other w part.found theirs_at in
    record {
      port = part.port;
      marks = part.marks;
      stat = part.stat;
      one_port = (λ i u here is_port.
          ⊎_elim
          (λ t. absurd (true≢false (sym is_port ∙ ap (λ (k : BusyView). k.port) (sym t.1))))
          (λ t. ⊎_elim
          (λ r. let own = part.one_port id v at (ap (λ (k : BusyView). k.port) r.1 ∙ is_port) in (r.0 ∙ own.0, ap (λ (k : BusyView). k.marks) (sym r.1) ∙ own.1))
          (λ r. part.one_port i u r.1 is_port)
          (at_set views id i (joined v w) u t.1))
          (at_set (set views id (joined v w)) other i spent u here));
      found = All-set (λ u. EachRises part.marks u.senders) (set views id (joined v w)) other spent (All-nil (λ s. Rises part.marks 0 s.stats))
          (All-set (λ u. EachRises part.marks u.senders) views id (joined v w) (All-append (λ s. Rises part.marks 0 s.stats) v.senders w.senders mine theirs) part.found);
    }

busy_push : (b : Bool) (ms : List StatMark) → busy_after b (ms ++ Busy ∷ []) ≡ true
busy_push b [] = refl
busy_push b (Busy ∷ ms) = busy_push true ms
busy_push b (Free ∷ ms) = busy_push false ms
busy_push b (Closed ∷ ms) = busy_push b ms

free_push : (b : Bool) (ms : List StatMark) → busy_after b (ms ++ Free ∷ []) ≡ false
free_push b [] = refl
free_push b (Busy ∷ ms) = free_push true ms
free_push b (Free ∷ ms) = free_push false ms
free_push b (Closed ∷ ms) = free_push b ms

closed_push : (b : Bool) (ms : List StatMark) → busy_after b (ms ++ Closed ∷ []) ≡ busy_after b ms
closed_push b [] = refl
closed_push b (Busy ∷ ms) = closed_push true ms
closed_push b (Free ∷ ms) = closed_push false ms
closed_push b (Closed ∷ ms) = closed_push b ms

busy_keeps : (ms : List StatMark) → marked_closed (ms ++ Busy ∷ []) ≡ marked_closed ms
busy_keeps [] = refl
busy_keeps (Busy ∷ ms) = busy_keeps ms
busy_keeps (Free ∷ ms) = busy_keeps ms
busy_keeps (Closed ∷ ms) = refl

free_keeps : (ms : List StatMark) → marked_closed (ms ++ Free ∷ []) ≡ marked_closed ms
free_keeps [] = refl
free_keeps (Busy ∷ ms) = free_keeps ms
free_keeps (Free ∷ ms) = free_keeps ms
free_keeps (Closed ∷ ms) = refl

closes : (ms : List StatMark) → marked_closed (ms ++ Closed ∷ []) ≡ true
closes [] = refl
closes (Busy ∷ ms) = closes ms
closes (Free ∷ ms) = closes ms
closes (Closed ∷ ms) = refl

one_at_most : (b : Bool) → one_if b ≤ 1
one_at_most true = omega arith
one_at_most false = omega arith

pub stat_bound : (ms : List StatMark) → stat_of ms ≤ 4 * length ms + 3
stat_bound ms = omega (arith, one_at_most (marked_closed ms), one_at_most (marked_busy ms))

pub stat_busy : (ms : List StatMark) → marked_busy ms ≡ false → stat_of ms + 5 ≡ stat_of (ms ++ Busy ∷ [])
stat_busy ms free = omega (arith, length-append ms (Busy ∷ []), ap one_if (busy_push false ms), ap one_if free, ap one_if (busy_keeps ms))

pub stat_free : (ms : List StatMark) → marked_busy ms ≡ true → stat_of ms + 3 ≡ stat_of (ms ++ Free ∷ [])
stat_free ms busy = omega (arith, length-append ms (Free ∷ []), ap one_if (free_push false ms), ap one_if busy, ap one_if (free_keeps ms))

pub stat_closed : (ms : List StatMark) → stat_of ms + 6 - (stat_of ms / 2 % 2) * 2 ≡ stat_of (ms ++ Closed ∷ [])
stat_closed ms = omega (arith, length-append ms (Closed ∷ []), ap one_if (closed_push false ms), ap one_if (closes ms), one_at_most (marked_closed ms), one_at_most (marked_busy ms))

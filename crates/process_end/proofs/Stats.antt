-- Words that a seat finds: a closed port stays closed, and what receipts show are some of them, in order.
use Rattle.std.proofs.Common.{arith, zero, suc, ◌≡◌, ℕ, ◌+◌, ◌*◌, ◌/◌, ◌%◌, ◌≤◌, List, [], ◌∷◌, ◌++◌, length, take, Bool, true, false, eqb, refl, sym, ap, ◌∙◌, subst}
use Rattle.std.proofs.lemmas.List.{append-nil, length-append}
use Rattle.std.proofs.lemmas.Bool.Decides.{nat_tests}
use Rattle.port_words.specs.sums.Counts.{one_if}
use Rattle.port_words.specs.declared.busy.view.StatMark.{StatMark}
use Rattle.port_words.specs.declared.busy.view.StatMark.TheVariants.{Busy, Free, Closed}
use Rattle.port_words.specs.busy.Stat.{tells_closed, marked_closed, marked_busy, stat_of, Rises}
use Rattle.process_receipts.specs.Receipts.{picked, IsSublist}
use Rattle.process_receipts.specs.Ledgers.{saw_closed}
use Rattle.process_end.proofs.Adds.{split, contrary}

tells : (n : ℕ) (c b : Bool) → eqb ((4 * n + 2 * one_if c + one_if b) / 2 % 2) 1 ≡ c
tells n true true = grind (arith, nat_tests)
tells n true false = grind (arith, nat_tests)
tells n false true = grind (arith, nat_tests)
tells n false false = grind (arith, nat_tests)

closed-told : (ms : List StatMark) → tells_closed (stat_of ms) ≡ marked_closed ms
closed-told ms = tells (length ms) (marked_closed ms) (marked_busy ms)

closed-take : (marks : List StatMark) (k l : ℕ) → k ≤ l → marked_closed (take k marks) ≡ true → marked_closed (take l marks) ≡ true
closed-take marks zero l le e = absurd cc
closed-take [] (suc k) l le e = absurd cc
closed-take (m ∷ ms) (suc k) zero le e = absurd (omega arith)
closed-take (Busy ∷ ms) (suc k) (suc l) le e = closed-take ms k l (omega arith) e
closed-take (Free ∷ ms) (suc k) (suc l) le e = closed-take ms k l (omega arith) e
closed-take (Closed ∷ ms) (suc k) (suc l) le e = refl

rises-last : (marks : List StatMark) (from : ℕ) (ts : List ℕ) (t : ℕ) → Rises marks from (ts ++ t ∷ []) → (k : ℕ) × (from ≤ k) × (t ≡ stat_of (take k marks))
rises-last marks from [] t r = (r.0, r.1, r.3)
rises-last marks from (u ∷ ts) t r = let rest = rises-last marks r.0 ts t r.4 in let first = r.1 in let later = rest.1 in (rest.0, omega arith, rest.2)

-- where the last word that was found doesn't tell that the port is closed, none does
pub never-closed : (marks : List StatMark) (from : ℕ) (ts : List ℕ) (t : ℕ) → Rises marks from (ts ++ t ∷ []) → tells_closed t ≡ false → saw_closed (ts ++ t ∷ []) ≡ false
never-closed marks from [] t r e = rw e refl
never-closed marks from (u ∷ ts) t r e = split (tells_closed u)
    (λ closed. let last = rises-last marks r.0 ts t r.4 in
    contrary (tells_closed t)
    (ap tells_closed last.2 ∙ (closed-told (take last.0 marks) ∙ closed-take marks r.0 last.0 last.1 (sym (closed-told (take r.0 marks)) ∙ (sym (ap tells_closed r.3) ∙ closed))))
    e)
    (λ open'. rw open' (never-closed marks r.0 ts t r.4 e))

rises-lower : (marks : List StatMark) (from to : ℕ) (ts : List ℕ) → from ≤ to → Rises marks to ts → Rises marks from ts
rises-lower marks from to [] le r = tt
rises-lower marks from to (t ∷ ts) le r = let first = r.1 in (r.0, omega arith, r.2, r.3, r.4)

picked-rises : (marks : List StatMark) (from : ℕ) (picks : List Bool) (ts : List ℕ) → Rises marks from ts → Rises marks from (picked picks ts)
picked-rises marks from [] ts r = tt
picked-rises marks from (true ∷ picks) [] r = tt
picked-rises marks from (false ∷ picks) [] r = tt
picked-rises marks from (true ∷ picks) (t ∷ ts) r = (r.0, r.1, r.2, r.3, picked-rises marks r.0 picks ts r.4)
picked-rises marks from (false ∷ picks) (t ∷ ts) r = rises-lower marks from r.0 (picked picks ts) r.1 (picked-rises marks r.0 picks ts r.4)

pub shown-rise : (marks : List StatMark) (shown stats : List ℕ) → IsSublist shown stats → Rises marks 0 stats → Rises marks 0 shown
shown-rise marks shown stats s r = subst (Rises marks 0) s.are (picked-rises marks 0 s.picks stats r)

abbrev nones : List ℕ → List Bool
nones [] = []
nones (w ∷ ws) = false ∷ nones ws

nones-picked : (ws : List ℕ) → picked (nones ws) ws ≡ []
nones-picked [] = refl
nones-picked (w ∷ ws) = nones-picked ws

nones-length : (ws : List ℕ) → length (nones ws) ≡ length ws
nones-length [] = refl
nones-length (w ∷ ws) = ap suc (nones-length ws)

picked-append : (ps qs : List Bool) (xs ys : List ℕ) → length ps ≡ length xs → picked (ps ++ qs) (xs ++ ys) ≡ picked ps xs ++ picked qs ys
picked-append [] qs [] ys e = refl
picked-append [] qs (x ∷ xs) ys e = absurd (omega arith)
picked-append (p ∷ ps) qs [] ys e = absurd (omega arith)
picked-append (true ∷ ps) qs (x ∷ xs) ys e = ap (λ t. x ∷ t) (picked-append ps qs xs ys (omega arith))
picked-append (false ∷ ps) qs (x ∷ xs) ys e = picked-append ps qs xs ys (omega arith)

pub sublist-more : (ws all more : List ℕ) → IsSublist ws all → IsSublist ws (all ++ more)
sublist-more ws all more s = record {
  picks = s.picks ++ nones more;
  as_many = length-append s.picks (nones more) ∙ (ap (λ n. n + length (nones more)) s.as_many ∙ (ap (λ n. length all + n) (nones-length more) ∙ sym (length-append all more)));
  are = picked-append s.picks (nones more) all more s.as_many ∙ (ap (λ t. picked s.picks all ++ t) (nones-picked more) ∙ (append-nil (picked s.picks all) ∙ s.are));
}

pub sublist-push : (ws all : List ℕ) (w : ℕ) → IsSublist ws all → IsSublist (ws ++ w ∷ []) (all ++ w ∷ [])
sublist-push ws all w s = record {
  picks = s.picks ++ true ∷ [];
  as_many = length-append s.picks (true ∷ []) ∙ (ap (λ n. n + 1) s.as_many ∙ sym (length-append all (w ∷ [])));
  are = picked-append s.picks (true ∷ []) all (w ∷ []) s.as_many ∙ ap (λ t. t ++ w ∷ []) s.are;
}

-- Each kind of step keeps the account of a queue.
use Rattle.std.proofs.Common.{◌≡◌, ◌<◌, ℕ, List, [], ◌∷◌, ◌++◌, sym, refl, ap, arith, lit<, set, zero, suc}
use Rattle.std.specs.List.{All, sum_by}
use Rattle.std.proofs.lemmas.List.Sums.{sum_by-append}
use Rattle.std.proofs.lemmas.List.Elements.{All-nil, All-cons, All-tail, All-set, All-push, All-weaker}
use mathlib.Core.Option.{some, some-ne-none}
use lib.ListN.{get_elem?}
use Rattle.crossbeam_deque.specs.Tasks.{Pushes, Takes, Forks, Merges, Learns, Finds, FindsFew}
use Rattle.port_words.proofs.lemmas.sums.Totals.{sum_set, sum_split, sum_join, sum_alone_where, all_at}
use Rattle.port_words.specs.declared.home.homes.Ticket.{Ticket}
use Rattle.run_queue.specs.declared.account.QueueHand.{QueueHand}
use Rattle.run_queue.specs.Account.{all_parts, first_hand, spent_hand, other_parts, one_part, after_put, after_take, together, put_weight, taken_weight, parts_of, IsHand, IsQueue, WasEmpty, IsLeft}

-- a hand with a part is one of the rule's
some_part : (v : QueueHand) → 0 < v.parts → IsHand v
some_part v has = record { blank_put = λ none. absurd (omega arith); blank_taken = λ none. absurd (omega arith) }

pub begins : IsQueue [] (first_hand ∷ [])
begins = record { parts = refl; each_once = λ weight. refl; hands = All-cons IsHand first_hand [] (some_part first_hand (lit< tt)) (All-nil IsHand) }

pub puts : (port : ℕ) (v : QueueHand) (tickets : List Ticket) → 0 < v.parts → Pushes IsQueue port v tickets (λ w. w ≡ after_put tickets v)
puts port v tickets has items views rule at =
    let w = after_put tickets v in (
      w,
      record {
        parts = let s = sum_set parts_of views port v w at in let p = rule.parts in omega arith;
        each_once = λ weight.
            let s = sum_set (put_weight weight) views port v w at in
            let t = sum_set (taken_weight weight) views port v w at in
            let r = rule.each_once weight in
            omega (arith, sum_by-append weight v.put tickets, sum_by-append weight items tickets);
        hands = All-set IsHand views port w (some_part w has) rule.hands;
      },
      refl,
    )

pub takes : (port : ℕ) (v : QueueHand) → 0 < v.parts → Takes IsQueue port v 1 (λ tickets w. w ≡ after_take tickets v)
takes port v has tickets items views _ _ rule at =
    let w = after_take tickets v in (
      w,
      record {
        parts = let s = sum_set parts_of views port v w at in let p = rule.parts in omega arith;
        each_once = λ weight.
            let s = sum_set (put_weight weight) views port v w at in
            let t = sum_set (taken_weight weight) views port v w at in
            let r = rule.each_once weight in
            omega (arith, sum_by-append weight v.taken tickets, sum_by-append weight tickets items);
        hands = All-set IsHand views port w (some_part w has) rule.hands;
      },
      refl,
    )

pub finds : (port : ℕ) (v : QueueHand) → Finds IsQueue port v (WasEmpty v)
finds port v views rule at = (views, port, rule, at)

pub finds_none : (port : ℕ) (v : QueueHand) → FindsFew IsQueue 0 port v (WasEmpty v)
finds_none port v [] views few rule at = (views, port, rule, at)
finds_none port v (x ∷ xs) views few rule at = absurd (omega arith)

pub splits : (port : ℕ) (v : QueueHand) → 1 < v.parts → Forks IsQueue port v (other_parts v) (one_part v)
splits port v more items views rule at =
    let left = other_parts v in
    let right = one_part v in
    record {
      parts = let s = sum_split parts_of views port v left right at in let p = rule.parts in omega arith;
      each_once = λ weight.
          let s = sum_split (put_weight weight) views port v left right at in
          let t = sum_split (taken_weight weight) views port v left right at in
          let r = rule.each_once weight in
          omega arith;
      hands = All-push IsHand (set views port left) right (All-set IsHand views port left (some_part left (omega arith)) rule.hands) (some_part right (lit< tt));
    }

-- the hand of two is one of the rule's
both_hands : (v w : QueueHand) → IsHand v → IsHand w → IsHand (together v w)
both_hands v w p q = record {
  blank_put = λ none. (λ i. (p.blank_put (omega arith)) i ++ (q.blank_put (omega arith)) i);
  blank_taken = λ none. (λ i. (p.blank_taken (omega arith)) i ++ (q.blank_taken (omega arith)) i);
}

pub joins : (port : ℕ) (v : QueueHand) (other : ℕ) (w : QueueHand) → Merges IsQueue port v other w (together v w) spent_hand
joins port v other w items views rule at differ at' =
    let both = together v w in
    let here : IsHand v = all_at IsHand views port v rule.hands at in
    let there : IsHand w = was_hand views port v other w both rule.hands differ at' in
    let one = All-set IsHand views port both (both_hands v w here there) rule.hands in
    record {
      parts = let s = sum_join parts_of views port v both other w spent_hand at at' in let p = rule.parts in omega arith;
      each_once = λ weight.
          let s = sum_join (put_weight weight) views port v both other w spent_hand at at' in
          let t = sum_join (taken_weight weight) views port v both other w spent_hand at at' in
          let r = rule.each_once weight in
          omega (arith, sum_by-append weight v.put w.put, sum_by-append weight v.taken w.taken);
      hands = All-set IsHand (set views port both) other spent_hand (record { blank_put = λ _. refl; blank_taken = λ _. refl }) one;
    }
  where
    was_hand : (views : List QueueHand) (port : ℕ) (v : QueueHand) (other : ℕ) (w both : QueueHand) → All IsHand views → ¬ (other ≡ port) → get_elem? (set views port both) other ≡ some w → IsHand w
    was_hand [] port v other w both all differ e = absurd (some-ne-none w (sym e))
    was_hand (x ∷ xs) zero v zero w both all differ e = absurd (differ refl)
    was_hand (x ∷ xs) zero v (suc j) w both all differ e = all_at IsHand xs j w (All-tail IsHand x xs all) e
    was_hand (x ∷ xs) (suc i) v zero w both all differ e = all_at IsHand (x ∷ xs) 0 w all e
    was_hand (x ∷ xs) (suc i) v (suc j) w both all differ e = was_hand xs i v j w both (All-tail IsHand x xs all) (λ same. differ (ap suc same)) e

-- a hand without a part weighs nothing
no_put : (weight : Ticket → ℕ) (views : List QueueHand) → All IsHand views → All (λ u. parts_of u ≡ 0 → put_weight weight u ≡ 0) views
no_put weight views all = All-weaker IsHand (λ u. parts_of u ≡ 0 → put_weight weight u ≡ 0) (λ u is none. ap (sum_by weight) (is.blank_put none)) views all

no_taken : (weight : Ticket → ℕ) (views : List QueueHand) → All IsHand views → All (λ u. parts_of u ≡ 0 → taken_weight weight u ≡ 0) views
no_taken weight views all = All-weaker IsHand (λ u. parts_of u ≡ 0 → taken_weight weight u ≡ 0) (λ u is none. ap (sum_by weight) (is.blank_taken none)) views all

pub learns : (port : ℕ) (v : QueueHand) → v.parts ≡ all_parts → Learns IsQueue port v (IsLeft v)
learns port v whole items views rule at weight =
    let p = rule.parts in
    let alone : sum_by parts_of views ≡ parts_of v = omega arith in
    let s = sum_alone_where (put_weight weight) parts_of views port v (no_put weight views rule.hands) at alone in
    let t = sum_alone_where (taken_weight weight) parts_of views port v (no_taken weight views rule.hands) at alone in
    let r = rule.each_once weight in
    omega arith

-- a queue that was found empty by who has all parts holds nothing of what was put
pub was_empty_left : (v : QueueHand) → v.parts ≡ all_parts → WasEmpty v → IsLeft v []
was_empty_left v whole was = learns was.1 v whole [] was.0 was.2 was.3

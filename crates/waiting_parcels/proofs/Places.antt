-- A queue in its place among the queues. Each lemma reads the queue at any default.
use Rattle.std.proofs.Common.{◌≡◌, ℕ, ◌<◌, List, [], ◌∷◌, ◌++◌, length, get_or, set, All, eqb, cond, sym, ap, ◌∙◌, subst}
use Rattle.std.specs.Prelude.{slice_index, swap_remove}
use Rattle.std.specs.declared.collections.VecDeque.{VecDeque}
use Rattle.std.proofs.lemmas.List.{get_or-map, map-set, map-append, length-map}
use Rattle.std.proofs.lemmas.List.Elements.{All-push}
use Rattle.std.proofs.Math.Seq.{map-set_same}
use Rattle.waiting_parcels.specs.declared.arrival.Arrival.{Arrival}
use Rattle.waiting_parcels.specs.Queues.{lists, queue_of, IsTaken, IsQueued}

module _ {Z : Type 0} (queues : List (VecDeque Arrival Z)) where
  pub queue_of-lists : (n : ℕ) (d : VecDeque Arrival Z) → n < length queues → queue_of n (lists queues) ≡ (get_or queues n d).items
  queue_of-lists n d within = get_or-map (λ (q : VecDeque Arrival Z). q.items) queues n d [] within

  pub length-lists : length (lists queues) ≡ length queues
  length-lists = length-map queues (λ (q : VecDeque Arrival Z). q.items)

  -- a queue of the same tasks
  pub lists-same : (n : ℕ) (d new_queue : VecDeque Arrival Z) → new_queue.items ≡ (get_or queues n d).items → lists (set queues n new_queue) ≡ lists queues
  lists-same n d new_queue same = map-set_same (λ (q : VecDeque Arrival Z). q.items) queues n new_queue d same

  pub is-taken : (waiting new_waiting : List ℕ) (place n : ℕ) (d new_queue : VecDeque Arrival Z) (a : Arrival)
      → n ≡ slice_index waiting place → n < length queues → (get_or queues n d).items ≡ a ∷ new_queue.items
      → new_waiting ≡ cond (eqb (length new_queue.items) 0) (swap_remove waiting place n) waiting
      → IsTaken (lists queues) (lists (set queues n new_queue)) waiting new_waiting place a
  is-taken waiting new_waiting place n d new_queue a at within popped waits = record {
    later = new_queue.items;
    was = ap (λ k. queue_of k (lists queues)) (sym at) ∙ (queue_of-lists n d within ∙ popped);
    now = map-set (λ (q : VecDeque Arrival Z). q.items) queues n new_queue ∙ ap (λ k. set (lists queues) k new_queue.items) at;
    waits = waits ∙ ap (λ k. cond (eqb (length new_queue.items) 0) (swap_remove waiting place k) waiting) at;
  }

  pub is-queued : (waiting new_waiting : List ℕ) (d new_queue : VecDeque Arrival Z) (a : Arrival)
      → a.item.sender < length queues → new_queue.items ≡ (get_or queues a.item.sender d).items ++ a ∷ []
      → new_waiting ≡ cond (eqb (length (get_or queues a.item.sender d).items) 0) (waiting ++ a.item.sender ∷ []) waiting
      → IsQueued (lists queues) (lists (set queues a.item.sender new_queue)) waiting new_waiting a
  is-queued waiting new_waiting d new_queue a within pushed waits =
      let queue_is : queue_of a.item.sender (lists queues) ≡ (get_or queues a.item.sender d).items = queue_of-lists a.item.sender d within in
      record {
        now = map-set (λ (q : VecDeque Arrival Z). q.items) queues a.item.sender new_queue
            ∙ ap (set (lists queues) a.item.sender) (pushed ∙ ap (λ q. q ++ a ∷ []) (sym queue_is));
        waits = waits ∙ ap (λ (q : List Arrival). cond (eqb (length q) 0) (waiting ++ a.item.sender ∷ []) waiting) (sym queue_is);
      }

  -- one empty queue more
  pub all-empty-push : (queue : VecDeque Arrival Z) → All (λ q. q ≡ []) (lists queues) → queue.items ≡ [] → All (λ q. q ≡ []) (lists (queues ++ queue ∷ []))
  all-empty-push queue all empty =
      subst (All (λ (q : List Arrival). q ≡ [])) (sym (map-append (λ (q : VecDeque Arrival Z). q.items) queues (queue ∷ []))) (All-push (λ (q : List Arrival). q ≡ []) (lists queues) queue.items all empty)

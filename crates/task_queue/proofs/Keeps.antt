-- Each step of a lane keeps its rule.
use Rattle.std.proofs.Common.{◌≡◌, ◌≢◌, ℕ, ◌+◌, ◌<◌, true, false, true≢false, Some, None, Option, List, [], ◌∷◌, ◌++◌, length, set, get_or, AllPairs, refl, sym, ap, ◌∙◌, subst, ⊎_elim, append_assoc, arith}
use mathlib.Core.Option as seat
use lib.ListN.{get_elem?}
use Rattle.std.proofs.lemmas.List.Elements.{All-nil, All-push, All-weaker}
use Rattle.std.proofs.lemmas.List.Quantifiers.{all_pairs_push}
use Rattle.crossbeam_queue.specs.Fifo.{Pushes, Pops, Forks, Merges, Learns}
use Rattle.crossbeam_queue.proofs.Lists.{at_set}
use Rattle.task_queue.specs.declared.item.Item.{Item}
use Rattle.task_queue.specs.declared.protocol.Ended.{Ended}
use Rattle.task_queue.specs.declared.protocol.Hand.{Hand}
use Rattle.task_queue.specs.Items.{of}
use Rattle.task_queue.specs.Lane.{Lane, IsState, IsHand, IsSender, IsTaker, IsEnded, FitsKey, Stood, WasFront, taker_hand, sender_hand, spent_hand, after_split, split_off, after_put, after_take, after_take_in}
use Rattle.task_queue.proofs.Items.{of-push, of-push_other, of-unknown, IsNumbered-nil, IsNumbered-push}
use Rattle.task_queue.proofs.Hands.{all_set, all_push, seat_at, seat_at-same, seat_at-else, apart_by_none, apart_by_pass}

not_true : false ≡ true → ⊥
not_true e = true≢false (sym e)

module _ {T K : Type 0} (fits : K → ℕ → T → Type 0) where
  no_pairs : AllPairs (λ (d e : Ended T). d.number ≢ e.number) []
  no_pairs i j d before below = absurd (omega arith)

  -- a taker that has taken nothing
  fresh_taker : (key : Option K) (reader : ℕ) (seats : ℕ → seat.Option ℕ) (made : ℕ) (log taken : List (Item T)) (pass : ℕ)
      → pass ≡ reader → [] ≡ taken → IsHand key reader seats made log taken pass (taker_hand key [] [])
  fresh_taker key reader seats made log taken pass alone nothing = record {
    sender = λ sends. absurd (not_true sends);
    taker = λ _. record { has_key = refl; alone = alone; took = nothing; ended = All-nil (IsEnded seats made log); differ = no_pairs };
  }

  pub begins : Lane fits [] (taker_hand None [] [] ∷ [])
  begins =
      let seats : ℕ → seat.Option ℕ = λ _. seat.none in (
        None,
        0,
        seats,
        0,
        [],
        record {
          opened = λ _. refl;
          numbered = IsNumbered-nil T;
          fit = All-nil (FitsKey fits None);
          known = All-nil (λ (x : Item T). x.sender < 0);
          unmade = λ _ _. refl;
          hands = all_push (IsHand None 0 seats 0 [] []) [] (taker_hand None [] []) (fresh_taker None 0 seats 0 [] [] 0 refl refl)
              (λ j u e. absurd (seat.some-ne-none u (sym e)));
        },
      )

  -- the taker splits off end 0, and both get the key
  pub opens : (pass : ℕ) (k : K) → Forks (Lane fits) pass (taker_hand None [] []) (taker_hand (Some k) [] []) (sender_hand (Some k) 0 1 [])
  opens pass k items views (key, reader, seats, made, taken, laid) at =
      let me = (laid.hands pass (taker_hand None [] []) at).taker refl in
      let nobody : made ≡ 0 = laid.opened (sym me.has_key) in
      let log : List (Item T) = taken ++ items in
      let left : Hand T K = taker_hand (Some k) [] [] in
      let right : Hand T K = sender_hand (Some k) 0 1 [] in
      let vs : List (Hand T K) = set views pass left in
      let seats' : ℕ → seat.Option ℕ = seat_at seats 0 (seat.some (length vs)) in
      let F : ℕ → Hand T K → Type 0 = IsHand (Some k) reader seats' 1 log taken in (
        Some k,
        reader,
        seats',
        1,
        taken,
        record {
          opened = λ e. cc;
          numbered = laid.numbered;
          fit = λ i d below. let none = laid.known i d below in absurd (omega arith);
          known = λ i d below. let none = laid.known i d below in omega arith;
          unmade = λ n above. seat_at-else seats 0 (seat.some (length vs)) n (λ e. absurd (omega arith)) ∙ laid.unmade n (omega arith);
          hands = all_push F vs right
              record {
                sender = λ _. record {
                  has_key = refl;
                  seated = seat_at-same seats 0 (seat.some (length vs));
                  below = omega arith;
                  sent = of-unknown 0 made log laid.known (omega arith);
                  counts = λ _. refl;
                };
                taker = λ takes. absurd (not_true takes);
              }
              (all_set F views pass left (fresh_taker (Some k) reader seats' 1 log taken pass me.alone me.took)
              (λ j u other e. let old = laid.hands j u e in record {
                sender = λ sends. let none = (old.sender sends).below in absurd (omega arith);
                taker = λ takes. absurd (other ((old.taker takes).alone ∙ sym me.alone));
              }));
        },
      )

  -- the taker among seats that differ only in numbers that no ended sender has
  reseated : (key : Option K) (reader : ℕ) (seats seats' : ℕ → seat.Option ℕ) (made made' : ℕ) (log log' taken : List (Item T)) (pass : ℕ) (v : Hand T K)
      → ((e : Ended T) → IsEnded seats made log e → IsEnded seats' made' log' e)
      → IsTaker key reader seats made log taken pass v → IsTaker key reader seats' made' log' taken pass v
  reseated key reader seats seats' made made' log log' taken pass v ended t = record {
    has_key = t.has_key;
    alone = t.alone;
    took = t.took;
    ended = All-weaker (IsEnded seats made log) (IsEnded seats' made' log') ended v.ended t.ended;
    differ = t.differ;
  }

  pub splits : (pass : ℕ) (v : Hand T K) → v.sends ≡ true → v.number ≡ 0 → Forks (Lane fits) pass v (after_split v) (split_off v)
  splits pass v sends first items views (key, reader, seats, made, taken, laid) at =
      let mine = laid.hands pass v at in
      let me = mine.sender sends in
      let below : v.number < made = me.below in
      let count : v.made ≡ made = me.counts first in
      let log : List (Item T) = taken ++ items in
      let left : Hand T K = after_split v in
      let right : Hand T K = split_off v in
      let vs : List (Hand T K) = set views pass left in
      let new : seat.Option ℕ = seat.some (length vs) in
      let seats' : ℕ → seat.Option ℕ = seat_at seats v.made new in
      let F : ℕ → Hand T K → Type 0 = IsHand key reader seats' (made + 1) log taken in
      let same : (n : ℕ) → n < made → seats' n ≡ seats n = λ n low. seat_at-else seats v.made new n (λ e. absurd (omega arith)) in
      let ended : (e : Ended T) → IsEnded seats made log e → IsEnded seats' (made + 1) log e = λ e old. record {
        unseated = same e.number old.below ∙ old.unseated;
        below = let low = old.below in omega arith;
        sent = old.sent;
        counts = λ zero. absurd (apart_by_none seats e.number v.number pass old.unseated me.seated (zero ∙ sym first));
      } in (
        key,
        reader,
        seats',
        made + 1,
        taken,
        record {
          opened = λ none. let nobody = laid.opened none in absurd (omega arith);
          numbered = laid.numbered;
          fit = laid.fit;
          known = All-weaker (λ (x : Item T). x.sender < made) (λ (x : Item T). x.sender < made + 1) (λ x low. omega arith) log laid.known;
          unmade = λ n above. seat_at-else seats v.made new n (λ e. absurd (omega arith)) ∙ laid.unmade n (omega arith);
          hands = all_push F vs right
              record {
                sender = λ _. record {
                  has_key = me.has_key;
                  seated = seat_at-same seats v.made new;
                  below = omega arith;
                  sent = of-unknown v.made made log laid.known (omega arith);
                  counts = λ zero. absurd (omega arith);
                };
                taker = λ takes. absurd (not_true takes);
              }
              (all_set F views pass left
              record {
                sender = λ _. record {
                  has_key = me.has_key;
                  seated = same v.number below ∙ me.seated;
                  below = omega arith;
                  sent = me.sent;
                  counts = λ _. ap (λ n. n + 1) count;
                };
                taker = λ takes. let t = mine.taker takes in record {
                  has_key = t.has_key;
                  alone = t.alone;
                  took = t.took;
                  ended = All-weaker (IsEnded seats made log) (IsEnded seats' (made + 1) log) ended v.ended t.ended;
                  differ = t.differ;
                };
              }
              (λ j u other e. let old = laid.hands j u e in record {
                sender = λ its. let s = old.sender its in record {
                  has_key = s.has_key;
                  seated = same u.number s.below ∙ s.seated;
                  below = let low = s.below in omega arith;
                  sent = s.sent;
                  counts = λ zero. absurd (apart_by_pass seats u.number v.number j pass s.seated me.seated other (zero ∙ sym first));
                };
                taker = λ takes. reseated key reader seats seats' made (made + 1) log log taken j u ended (old.taker takes);
              }));
        },
      )

  pub puts : (n pass : ℕ) (v : Hand T K) (x : Item T) → v.sends ≡ true → FitsKey fits v.key x → x.sender ≡ v.number → x.seq ≡ length v.sent
      → Pushes (Lane fits) n pass v x (λ w. w ≡ after_put v x)
  puts n pass v x sends fit own place items views room (key, reader, seats, made, taken, laid) at =
      let mine = laid.hands pass v at in
      let me = mine.sender sends in
      let below : v.number < made = me.below in
      let log : List (Item T) = taken ++ items in
      let log' : List (Item T) = log ++ x ∷ [] in
      let w : Hand T K = after_put v x in
      let views' : List (Hand T K) = set views pass w in
      let F : ℕ → Hand T K → Type 0 = IsHand key reader seats made log' taken in
      let ended : (e : Ended T) → IsEnded seats made log e → IsEnded seats made log' e = λ e old. record {
        unseated = old.unseated;
        below = old.below;
        sent = of-push_other e.number log x (λ its. apart_by_none seats e.number v.number pass old.unseated me.seated (sym its ∙ own)) ∙ old.sent;
        counts = old.counts;
      } in
      let laid' : IsState fits key reader seats made log' taken views' = record {
        opened = laid.opened;
        numbered = IsNumbered-push log x laid.numbered (place ∙ ap length (sym me.sent) ∙ ap (λ m. length (of m log)) (sym own));
        fit = All-push (FitsKey fits key) log x laid.fit (subst (λ k. FitsKey fits k x) me.has_key fit);
        known = All-push (λ (y : Item T). y.sender < made) log x laid.known (omega arith);
        unmade = laid.unmade;
        hands = all_set F views pass w
            record {
              sender = λ _. record {
                has_key = me.has_key;
                seated = me.seated;
                below = below;
                sent = of-push v.number log x own ∙ ap (λ l. l ++ x.value ∷ []) me.sent;
                counts = me.counts;
              };
              taker = λ takes. let t = mine.taker takes in record {
                has_key = t.has_key;
                alone = t.alone;
                took = t.took;
                ended = All-weaker (IsEnded seats made log) (IsEnded seats made log') ended v.ended t.ended;
                differ = t.differ;
              };
            }
            (λ j u other e. let old = laid.hands j u e in record {
              sender = λ its. let s = old.sender its in record {
                has_key = s.has_key;
                seated = s.seated;
                below = s.below;
                sent = of-push_other u.number log x (λ same. apart_by_pass seats u.number v.number j pass s.seated me.seated other (sym same ∙ own)) ∙ s.sent;
                counts = s.counts;
              };
              taker = λ takes. reseated key reader seats seats made made log log' taken j u ended (old.taker takes);
            });
      } in (
        w,
        (key, reader, seats, made, taken, subst (λ l. IsState fits key reader seats made l taken views') (append_assoc taken items (x ∷ [])) laid'),
        refl,
      )

  pub takes : (pass : ℕ) (v : Hand T K) → v.takes ≡ true → Pops (Lane fits) pass v (λ x w. (w ≡ after_take v x) × WasFront fits v x)
  takes pass v may x items views (key, reader, seats, made, taken, laid) at =
      let mine = laid.hands pass v at in
      let me = mine.taker may in
      let log : List (Item T) = taken ++ x ∷ items in
      let taken' : List (Item T) = taken ++ x ∷ [] in
      let w : Hand T K = after_take v x in
      let views' : List (Hand T K) = set views pass w in
      let laid' : IsState fits key reader seats made log taken' views' = record {
        opened = laid.opened;
        numbered = laid.numbered;
        fit = laid.fit;
        known = laid.known;
        unmade = laid.unmade;
        hands = all_set (IsHand key reader seats made log taken') views pass w
            record {
              sender = λ sends. let s = mine.sender sends in record { has_key = s.has_key; seated = s.seated; below = s.below; sent = s.sent; counts = s.counts };
              taker = λ _. record { has_key = me.has_key; alone = me.alone; took = ap (λ l. l ++ x ∷ []) me.took; ended = me.ended; differ = me.differ };
            }
            (λ j u other e. let old = laid.hands j u e in record {
              sender = old.sender;
              taker = λ its. absurd (other ((old.taker its).alone ∙ sym me.alone));
            });
      } in (
        w,
        (key, reader, seats, made, taken', subst (λ l. IsState fits key reader seats made l taken' views') (sym (append_assoc taken (x ∷ []) items)) laid'),
        (refl, (items, (pass, views, (key, reader, seats, made, taken, laid), at))),
      )

  pub looks : (pass : ℕ) (v : Hand T K) → Learns (Lane fits) pass v (λ items. Stood fits items v)
  looks pass v items views rule at = (pass, views, rule, at)

  pub takes_in : (pass : ℕ) (v : Hand T K) (other : ℕ) (w : Hand T K) → v.takes ≡ true → w.sends ≡ true
      → Merges (Lane fits) pass v other w (after_take_in v w) spent_hand
  takes_in pass v other w may sends items views (key, reader, seats, made, taken, laid) at two at' =
      let both : Hand T K = after_take_in v w in
      let was : get_elem? views other ≡ seat.some w = ⊎_elim (λ x. absurd (two x.0)) (λ x. x.1) (at_set views pass other both w at') in
      let mine = laid.hands pass v at in
      let me = mine.taker may in
      let it = (laid.hands other w was).sender sends in
      let log : List (Item T) = taken ++ items in
      let vs : List (Hand T K) = set views pass both in
      let seats' : ℕ → seat.Option ℕ = seat_at seats w.number seat.none in
      let F : ℕ → Hand T K → Type 0 = IsHand key reader seats' made log taken in
      let stays : (j : ℕ) (u : Hand T K) → j ≢ other → IsSender key seats made log j u → IsSender key seats' made log j u = λ j u apart s. record {
        has_key = s.has_key;
        seated = seat_at-else seats w.number seat.none u.number (apart_by_pass seats u.number w.number j other s.seated it.seated apart) ∙ s.seated;
        below = s.below;
        sent = s.sent;
        counts = s.counts;
      } in
      let apart : (e : Ended T) → IsEnded seats made log e → e.number ≢ w.number = λ e old. apart_by_none seats e.number w.number other old.unseated it.seated in
      let ended : (e : Ended T) → IsEnded seats made log e → IsEnded seats' made log e = λ e old. record {
        unseated = seat_at-else seats w.number seat.none e.number (apart e old) ∙ old.unseated;
        below = old.below;
        sent = old.sent;
        counts = old.counts;
      } in
      let now : (j : ℕ) (u : Hand T K) → get_elem? vs j ≡ seat.some u → j ≢ other → F j u = all_set (λ j u. j ≢ other → F j u) views pass both
      (λ _. record {
        sender = λ its. let s = stays pass v (λ e. two (sym e)) (mine.sender its) in record { has_key = s.has_key; seated = s.seated; below = s.below; sent = s.sent; counts = s.counts };
        taker = λ _. record {
          has_key = me.has_key;
          alone = me.alone;
          took = me.took;
          ended = All-push (IsEnded seats' made log) v.ended (record { number = w.number; made = w.made; sent = w.sent })
              (All-weaker (IsEnded seats made log) (IsEnded seats' made log) ended v.ended me.ended)
              record { unseated = seat_at-same seats w.number seat.none; below = it.below; sent = it.sent; counts = it.counts };
          differ = all_pairs_push (λ (d e : Ended T). d.number ≢ e.number) v.ended (record { number = w.number; made = w.made; sent = w.sent }) me.differ
              (λ k d below. apart (get_or v.ended k d) (me.ended k d below));
        };
      })
      (λ j u else e apart. let old = laid.hands j u e in record {
        sender = λ its. stays j u apart (old.sender its);
        taker = λ its. absurd (else ((old.taker its).alone ∙ sym me.alone));
      }) in (
        key,
        reader,
        seats',
        made,
        taken,
        record {
          opened = laid.opened;
          numbered = laid.numbered;
          fit = laid.fit;
          known = laid.known;
          unmade = λ n above. seat_at-else seats w.number seat.none n (λ e. let low = it.below in absurd (omega arith)) ∙ laid.unmade n above;
          hands = all_set F vs other spent_hand
              record { sender = λ its. absurd (not_true its); taker = λ its. absurd (not_true its) }
              (λ j u apart e. now j u e apart);
        },
      )

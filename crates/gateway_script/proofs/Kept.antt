-- What is kept beside the steps, behind one more step.
use Rattle.std.proofs.Common.{◌≡◌, ℕ, ◌+◌, ◌*◌, ◌<◌, List, [], ◌∷◌, ◌++◌, length, get_or, Bool, true, false, not, zero, suc, ◌&&◌, ◌||◌, eqb, cond, Option, Some, None, refl, sym, ap, ◌∙◌, arith, length-set, get_or-set_other, inl, inr}
use Rattle.std.proofs.Math.ListN.{set}
use Rattle.std.proofs.lemmas.Bool.Decides.{nat_tests, eqb_tells}
use Rattle.std.proofs.lemmas.Grind.{get_or-set_at}
use Rattle.std.proofs.lemmas.List.{append-nil, get_or_default}
use Rattle.std.proofs.lemmas.List.Elements.{All-get_or}
use Rattle.std.specs.List.{list_all, All, filter_map}
use Rattle.std.proofs.lemmas.List.Elements.{filter_map-append}
use Rattle.std.proofs.lemmas.List.Sums.{sum_by-append}
use Rattle.std.proofs.lemmas.List.Folds.{list_any-append}
use Rattle.script_plan.specs.declared.step.Step.{Step}
use Rattle.script_plan.specs.declared.step.Act.{Act}
use Rattle.script_plan.specs.declared.step.Act.TheVariants.{Monitor, Demonitor, Die}
use Rattle.gateway_script.specs.declared.steps.Pair.{Pair}
use Rattle.script_plan.specs.Monitors.{has_died, monitor_count, monitors_of, ended, is_die, is_monitor, ends_monitor, begun_monitor}
use Rattle.gateway_script.specs.Steps.{IsKept, IsNone}

or_false : (b : Bool) → (b || false) ≡ b
or_false true = refl
or_false false = refl

pub has_died-push : (p : ℕ) (steps : List Step) (s : Step) → has_died p (steps ++ s ∷ []) ≡ (has_died p steps || (eqb s.process p && is_die s.act))
has_died-push p steps s = list_any-append (λ s. eqb s.process p && is_die s.act) steps (s ∷ []) ∙ ap (λ b. has_died p steps || b) (or_false (eqb s.process p && is_die s.act))

pub monitor_count-push : (p : ℕ) (steps : List Step) (s : Step) → monitor_count p (steps ++ s ∷ []) ≡ monitor_count p steps + cond (eqb s.process p && is_monitor s.act) 1 0
monitor_count-push p steps s = let e = sum_by-append (λ s. cond (eqb s.process p && is_monitor s.act) 1 0) steps (s ∷ []) in e ∙ omega arith

pub ended-push : (p q : ℕ) (steps : List Step) (s : Step) → ended p q (steps ++ s ∷ []) ≡ ended p q steps + cond (eqb s.process p && ends_monitor q s.act) 1 0
ended-push p q steps s = let e = sum_by-append (λ s. cond (eqb s.process p && ends_monitor q s.act) 1 0) steps (s ∷ []) in e ∙ omega arith

-- the number as a list
abbrev pub listed : Option ℕ → List ℕ
listed (Some n) = n ∷ []
listed None = []

listed_by : {A : Type 0} (h : A → Option ℕ) (x : A) (o : Option ℕ) → h x ≡ o → filter_map h (x ∷ []) ≡ listed o
listed_by h x (Some n) e = rw e refl
listed_by h x None e = rw e refl

pub filter_map-one : {A : Type 0} (h : A → Option ℕ) (x : A) → filter_map h (x ∷ []) ≡ listed (h x)
filter_map-one h x = listed_by h x (h x) refl

pub monitors_of-push : (p q : ℕ) (steps : List Step) (s : Step) → monitors_of p q (steps ++ s ∷ []) ≡ monitors_of p q steps ++ listed (cond (eqb s.process p) (begun_monitor q s.act) None)
monitors_of-push p q steps s =
    filter_map-append (λ s. cond (eqb s.process p) (begun_monitor q s.act) None) steps (s ∷ [])
    ∙ ap (λ ns. monitors_of p q steps ++ ns) (filter_map-one (λ s. cond (eqb s.process p) (begun_monitor q s.act) None) s)

-- what is kept agrees with one more step, where each part is changed as the step changes it
pub IsKept-push : (died new_died : List Bool) (monitors new_monitors : List ℕ) (pairs new_pairs : List Pair) (steps : List Step) (s : Step)
    → IsKept died monitors pairs steps
    → ((p : ℕ) → p < 32 → get_or new_died p false ≡ (get_or died p false || (eqb s.process p && is_die s.act)))
    → ((p : ℕ) → p < 32 → get_or new_monitors p 0 ≡ get_or monitors p 0 + cond (eqb s.process p && is_monitor s.act) 1 0)
    → ((p q : ℕ) (d : Pair) → p < 32 → q < 32 → (get_or new_pairs (32 * p + q) d).begun.items ≡ (get_or pairs (32 * p + q) d).begun.items ++ listed (cond (eqb s.process p) (begun_monitor q s.act) None))
    → ((p q : ℕ) (d : Pair) → p < 32 → q < 32 → (get_or new_pairs (32 * p + q) d).ended ≡ (get_or pairs (32 * p + q) d).ended + cond (eqb s.process p && ends_monitor q s.act) 1 0)
    → length new_died ≡ 32 → length new_monitors ≡ 32 → length new_pairs ≡ 1024
    → IsKept new_died new_monitors new_pairs (steps ++ s ∷ [])
IsKept-push died new_died monitors new_monitors pairs new_pairs steps s kept dies counts begins ends len_died len_monitors len_pairs = record {
  died_is = λ p within. dies p within ∙ ap (λ b. b || (eqb s.process p && is_die s.act)) (kept.died_is p within) ∙ sym (has_died-push p steps s);
  count_is = λ p within. counts p within ∙ ap (λ n. n + cond (eqb s.process p && is_monitor s.act) 1 0) (kept.count_is p within) ∙ sym (monitor_count-push p steps s);
  pair_is = λ p q d within_p within_q. record {
    begun_are = begins p q d within_p within_q ∙ ap (λ ns. ns ++ listed (cond (eqb s.process p) (begun_monitor q s.act) None)) (kept.pair_is p q d within_p within_q).begun_are ∙ sym (monitors_of-push p q steps s);
    ended_is = ends p q d within_p within_q ∙ ap (λ n. n + cond (eqb s.process p && ends_monitor q s.act) 1 0) (kept.pair_is p q d within_p within_q).ended_is ∙ sym (ended-push p q steps s);
  };
  died_len = len_died;
  count_len = len_monitors;
  pair_len = len_pairs;
}

-- ---- what one step changes

and_false : (b : Bool) → (b && false) ≡ false
and_false true = refl
and_false false = refl

died_kept : (b a : Bool) → b ≡ (b || (a && false))
died_kept true a = refl
died_kept false a = sym (and_false a)

count_kept : (n : ℕ) (a : Bool) → n ≡ n + cond (a && false) 1 0
count_kept n true = omega arith
count_kept n false = omega arith

begun_kept : (ns : List ℕ) (a : Bool) → ns ≡ ns ++ listed (cond a None None)
begun_kept ns true = sym (append-nil ns)
begun_kept ns false = sym (append-nil ns)

died_set : (died : List Bool) (p q : ℕ) → p < length died → get_or (set died p true) q false ≡ (get_or died q false || (eqb p q && true))
died_set died p q within = grind (arith, nat_tests, get_or-set_at, get_or-set_other)

count_set : (counts : List ℕ) (p q : ℕ) → p < length counts → get_or (set counts p (get_or counts p 0 + 1)) q 0 ≡ get_or counts q 0 + cond (eqb p q && true) 1 0
count_set counts p q within = grind (arith, nat_tests, get_or-set_at, get_or-set_other)

-- the pair of a process and a port is the one that is set, or another
pair_set : (pairs : List Pair) (new d : Pair) (a b p q : ℕ) → length pairs ≡ 1024 → a < 32 → b < 32 → p < 32 → q < 32
    → get_or (set pairs (32 * a + b) new) (32 * p + q) d ≡ cond (eqb a p && eqb b q) new (get_or pairs (32 * p + q) d)
pair_set pairs new d a b p q len a_in b_in p_in q_in = elim (eqb_tells a p) [
  | inl (t, e) ↦ elim (eqb_tells b q) [
    | inl (u, f) ↦ rw (t, u) (get_or-set_at pairs (32 * a + b) (32 * p + q) new d (omega arith) (omega arith))
    | inr (u, f) ↦ rw (t, u) (get_or-set_other pairs (32 * a + b) (32 * p + q) new d (λ same. f (omega arith)))
  ]
  | inr (t, e) ↦ rw t (get_or-set_other pairs (32 * a + b) (32 * p + q) new d (λ same. e (omega arith)))
]

-- the pair that is set has these more numbers
begun_set : (pairs : List Pair) (new old d : Pair) (a b p q : ℕ) (more : List ℕ) → length pairs ≡ 1024 → a < 32 → b < 32 → p < 32 → q < 32
    → old ≡ get_or pairs (32 * a + b) old → new.begun.items ≡ old.begun.items ++ more
    → (get_or (set pairs (32 * a + b) new) (32 * p + q) d).begun.items ≡ (get_or pairs (32 * p + q) d).begun.items ++ cond (eqb a p && eqb b q) more []
begun_set pairs new old d a b p q more len a_in b_in p_in q_in here e =
    let within : 32 * a + b < length pairs = omega arith in
    let before : old ≡ get_or pairs (32 * a + b) d = here ∙ get_or_default pairs (32 * a + b) old d within in
    ap (λ x. x.begun.items) (pair_set pairs new d a b p q len a_in b_in p_in q_in) ∙ elim (eqb_tells a p) [
      | inl (t, f) ↦ elim (eqb_tells b q) [
        | inl (u, g) ↦
            let same : 32 * a + b ≡ 32 * p + q = omega arith in
            rw (t, u) (e ∙ ap (λ x. x.begun.items ++ more) (before ∙ ap (λ k. get_or pairs k d) same))
        | inr (u, g) ↦ rw (t, u) (sym (append-nil _))
      ]
      | inr (t, f) ↦ rw t (sym (append-nil _))
    ]

-- of the pair that is set, so many more have ended
ended_set : (pairs : List Pair) (new old d : Pair) (a b p q n : ℕ) → length pairs ≡ 1024 → a < 32 → b < 32 → p < 32 → q < 32
    → old ≡ get_or pairs (32 * a + b) old → new.ended ≡ old.ended + n
    → (get_or (set pairs (32 * a + b) new) (32 * p + q) d).ended ≡ (get_or pairs (32 * p + q) d).ended + cond (eqb a p && eqb b q) n 0
ended_set pairs new old d a b p q n len a_in b_in p_in q_in here e =
    let within : 32 * a + b < length pairs = omega arith in
    let before : old ≡ get_or pairs (32 * a + b) d = here ∙ get_or_default pairs (32 * a + b) old d within in
    ap (λ x. x.ended) (pair_set pairs new d a b p q len a_in b_in p_in q_in) ∙ elim (eqb_tells a p) [
      | inl (t, f) ↦ elim (eqb_tells b q) [
        | inl (u, g) ↦
            let same : 32 * a + b ≡ 32 * p + q = omega arith in
            rw (t, u) (e ∙ ap (λ x. x.ended + n) (before ∙ ap (λ k. get_or pairs k d) same))
        | inr (u, g) ↦ rw (t, u) (omega arith)
      ]
      | inr (t, f) ↦ rw t (omega arith)
    ]

listed_if : (x y : Bool) (n : ℕ) → cond (x && y) (n ∷ []) [] ≡ listed (cond x (cond y (Some n) None) None)
listed_if true true n = refl
listed_if true false n = refl
listed_if false y n = refl

listed_never : (x y : Bool) → cond (x && y) [] [] ≡ listed (cond x None None)
listed_never true true = refl
listed_never true false = refl
listed_never false y = refl

counted_never : (x y : Bool) → ◌≡◌ {A = ℕ} (cond (x && y) 0 0) (cond (x && false) 1 0)
counted_never true true = refl
counted_never true false = refl
counted_never false y = refl

-- ---- what is kept, behind one more step of each kind

pub IsKept-die : (died : List Bool) (monitors : List ℕ) (pairs : List Pair) (steps : List Step) (line process : ℕ) (reason : List ℕ) → IsKept died monitors pairs steps → process < 32
    → IsKept (set died process true) monitors pairs (steps ++ record { line = line; process = process; act = Die reason } ∷ [])
IsKept-die died monitors pairs steps line process reason kept within =
    let s : Step = record { line = line; process = process; act = Die reason } in
    IsKept-push died (set died process true) monitors monitors pairs pairs steps s kept
    (λ q lt. died_set died process q (omega (arith, kept.died_len)))
    (λ q lt. count_kept (get_or monitors q 0) (eqb process q))
    (λ p q d p_in q_in. begun_kept (get_or pairs (32 * p + q) d).begun.items (eqb process p))
    (λ p q d p_in q_in. count_kept (get_or pairs (32 * p + q) d).ended (eqb process p))
    (length-set died process true ∙ kept.died_len) kept.count_len kept.pair_len

pub IsKept-monitor : (died : List Bool) (monitors : List ℕ) (pairs : List Pair) (steps : List Step) (line process port number : ℕ) (new old : Pair) → IsKept died monitors pairs steps → process < 32 → port < 32
    → old ≡ get_or pairs (32 * process + port) old → new.begun.items ≡ old.begun.items ++ number ∷ [] → new.ended ≡ old.ended
    → IsKept died (set monitors process (get_or monitors process 0 + 1)) (set pairs (32 * process + port) new) (steps ++ record { line = line; process = process; act = Monitor port number } ∷ [])
IsKept-monitor died monitors pairs steps line process port number new old kept process_in port_in here begun_is ended_is =
    let s : Step = record { line = line; process = process; act = Monitor port number } in
    let none_more : new.ended ≡ old.ended + 0 = omega arith in
    IsKept-push died died monitors (set monitors process (get_or monitors process 0 + 1)) pairs (set pairs (32 * process + port) new) steps s kept
    (λ q lt. died_kept (get_or died q false) (eqb process q))
    (λ q lt. count_set monitors process q (omega (arith, kept.count_len)))
    (λ p q d p_in q_in. begun_set pairs new old d process port p q (number ∷ []) kept.pair_len process_in port_in p_in q_in here begun_is
    ∙ ap (λ ns. (get_or pairs (32 * p + q) d).begun.items ++ ns) (listed_if (eqb process p) (eqb port q) number))
    (λ p q d p_in q_in. ended_set pairs new old d process port p q 0 kept.pair_len process_in port_in p_in q_in here none_more
    ∙ ap (λ n. (get_or pairs (32 * p + q) d).ended + n) (counted_never (eqb process p) (eqb port q)))
    kept.died_len (length-set monitors process (get_or monitors process 0 + 1) ∙ kept.count_len) (length-set pairs (32 * process + port) new ∙ kept.pair_len)

pub IsKept-demonitor : (died : List Bool) (monitors : List ℕ) (pairs : List Pair) (steps : List Step) (line process port number : ℕ) (new old : Pair) → IsKept died monitors pairs steps → process < 32 → port < 32
    → old ≡ get_or pairs (32 * process + port) old → new.begun.items ≡ old.begun.items → new.ended ≡ old.ended + 1
    → IsKept died monitors (set pairs (32 * process + port) new) (steps ++ record { line = line; process = process; act = Demonitor port number } ∷ [])
IsKept-demonitor died monitors pairs steps line process port number new old kept process_in port_in here begun_is ended_is =
    let s : Step = record { line = line; process = process; act = Demonitor port number } in
    IsKept-push died died monitors monitors pairs (set pairs (32 * process + port) new) steps s kept
    (λ q lt. died_kept (get_or died q false) (eqb process q))
    (λ q lt. count_kept (get_or monitors q 0) (eqb process q))
    (λ p q d p_in q_in. begun_set pairs new old d process port p q [] kept.pair_len process_in port_in p_in q_in here (begun_is ∙ sym (append-nil old.begun.items))
    ∙ ap (λ ns. (get_or pairs (32 * p + q) d).begun.items ++ ns) (listed_never (eqb process p) (eqb port q)))
    (λ p q d p_in q_in. ended_set pairs new old d process port p q 1 kept.pair_len process_in port_in p_in q_in here ended_is)
    kept.died_len kept.count_len (length-set pairs (32 * process + port) new ∙ kept.pair_len)

-- a step that is none of those
pub IsKept-other : (died : List Bool) (monitors : List ℕ) (pairs : List Pair) (steps : List Step) (s : Step) → IsKept died monitors pairs steps
    → is_die s.act ≡ false → is_monitor s.act ≡ false → ((q : ℕ) → begun_monitor q s.act ≡ None) → ((q : ℕ) → ends_monitor q s.act ≡ false)
    → IsKept died monitors pairs (steps ++ s ∷ [])
IsKept-other died monitors pairs steps s kept die monitor begun end =
    IsKept-push died died monitors monitors pairs pairs steps s kept
    (λ q lt. rw die (died_kept (get_or died q false) (eqb s.process q)))
    (λ q lt. rw monitor (count_kept (get_or monitors q 0) (eqb s.process q)))
    (λ p q d p_in q_in. rw (begun q) (begun_kept (get_or pairs (32 * p + q) d).begun.items (eqb s.process p)))
    (λ p q d p_in q_in. rw (end q) (count_kept (get_or pairs (32 * p + q) d).ended (eqb s.process p)))
    kept.died_len kept.count_len kept.pair_len

pub no_die : (a : Act) → ((reason : List ℕ) → a ≡ Die reason → ⊥) → is_die a ≡ false
no_die (Die reason) never = absurd (never reason refl)
no_die _ never = refl

pub no_monitor : (a : Act) → ((port number : ℕ) → a ≡ Monitor port number → ⊥) → is_monitor a ≡ false
no_monitor (Monitor port number) never = absurd (never port number refl)
no_monitor _ never = refl

pub no_begun : (a : Act) → ((port number : ℕ) → a ≡ Monitor port number → ⊥) → (q : ℕ) → begun_monitor q a ≡ None
no_begun (Monitor port number) never q = absurd (never port number refl)
no_begun _ never q = refl

pub no_end : (a : Act) → ((port number : ℕ) → a ≡ Demonitor port number → ⊥) → (q : ℕ) → ends_monitor q a ≡ false
no_end (Demonitor port number) never q = absurd (never port number refl)
no_end _ never q = refl

-- ---- what is kept of no steps

none_died : (xs : List Bool) (p : ℕ) → list_all not xs ≡ true → get_or xs p false ≡ false
none_died [] p e = refl
none_died (true ∷ xs) p e = absurd cc
none_died (false ∷ xs) zero e = refl
none_died (false ∷ xs) (suc p) e = none_died xs p e

abbrev pub is_zero : ℕ → Bool
is_zero zero = true
is_zero (suc n) = false

none_counted : (xs : List ℕ) (p : ℕ) → list_all is_zero xs ≡ true → get_or xs p 0 ≡ 0
none_counted [] p e = refl
none_counted (suc x ∷ xs) p e = absurd cc
none_counted (zero ∷ xs) zero e = refl
none_counted (zero ∷ xs) (suc p) e = none_counted xs p e

pub IsKept-none : (died : List Bool) (monitors : List ℕ) (pairs : List Pair) → list_all not died ≡ true → list_all is_zero monitors ≡ true → All IsNone pairs
    → length died ≡ 32 → length monitors ≡ 32 → length pairs ≡ 1024 → IsKept died monitors pairs []
IsKept-none died monitors pairs no_died no_count no_pairs len_died len_monitors len_pairs = record {
  died_is = λ p within. none_died died p no_died;
  count_is = λ p within. none_counted monitors p no_count;
  pair_is = λ p q d p_in q_in.
      let none = All-get_or IsNone pairs (32 * p + q) d (omega arith) no_pairs in
      record { begun_are = none.0; ended_is = none.1 };
  died_len = len_died;
  count_len = len_monitors;
  pair_len = len_pairs;
}

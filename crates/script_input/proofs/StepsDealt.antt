-- The steps of each process, as far as they were dealt.
use Rattle.std.proofs.Common.{inl, inr, ◌≡◌, ◌≢◌, ℕ, suc, ◌+◌, ◌<◌, Bool, true, false, List, [], ◌∷◌, ◌++◌, length, map, filter, get_or, set, cond, eqb, Option, Some, None, is_some, refl, sym, ap, subst, ◌∙◌, append-nil, append_assoc, length-append, arith}
use Rattle.std.specs.Prelude.{All}
use Rattle.std.specs.List.{zip, cons_option}
use Rattle.std.specs.Option.{option_to_list}
use Rattle.std.proofs.Math.Seq.{get_or-append_seam}
use Rattle.std.proofs.Math.Nat.{eq-or-lt_of_le}
use Rattle.std.proofs.lemmas.Bool.{eq-eqb, ne_eqb}
use Rattle.std.proofs.lemmas.Bool.Decides.{eqb_tells}
use Rattle.std.proofs.lemmas.List.{get_or_append_left, get_or_push, get_or-set_same, get_or-set_other, length-set, length_push, map-append}
use Rattle.std.proofs.lemmas.List.Elements.{filter-append}
use Rattle.script_plan.specs.declared.step.Step.{Step}
use Rattle.run_opening.specs.run_seats.declared.plans.ProcessSteps.{ProcessSteps}
use Rattle.script_input.specs.Contents.{file_of, file_names}
use Rattle.script_input.specs.StepsDealt.{steps_of, sending, files_of, AreStepsOf, AreStepsOfAll}

-- ---- processes without a step

IsIdle : ProcessSteps → Type 0
IsIdle p = (p.steps.items ≡ []) × (p.files.items ≡ [])

-- one more of them
pub idle-more : (n : ℕ) (process_steps : List ProcessSteps) (own_steps : ProcessSteps) → AreStepsOfAll n [] [] process_steps → own_steps.steps.items ≡ [] → own_steps.files.items ≡ []
    → AreStepsOfAll (n + 1) [] [] (process_steps ++ own_steps ∷ [])
idle-more n process_steps own_steps h s f = record {
  many = length_push process_steps own_steps ∙ ap (λ n. n + 1) h.many;
  each = λ q d lt. elim (eq-or-lt_of_le {n = q} {m = n} (omega arith)) [
    | inl here ↦ rw here (rw (get_or_push process_steps own_steps d n h.many) (record { steps_are = s; files_are = f }))
    | inr below ↦ rw (get_or_append_left process_steps (own_steps ∷ []) d q (omega (arith, h.many))) (h.each q d below)
  ];
}

pub none-idle : AreStepsOfAll 0 [] [] []
none-idle = record { many = refl; each = λ q d lt. absurd (omega arith) }

-- ---- lists

steps-more : (q : ℕ) (done : List Step) (step : Step) → steps_of q (done ++ step ∷ []) ≡ steps_of q done ++ cond (eqb step.process q) (step ∷ []) []
steps-more q done step = filter-append (λ (s : Step). eqb s.process q) done (step ∷ [])

sending-more : (done : List Step) (step : Step) → sending (done ++ step ∷ []) ≡ sending done ++ cond (is_some (file_of step.act)) (step ∷ []) []
sending-more done step = filter-append (λ (s : Step). is_some (file_of s.act)) done (step ∷ [])

zip-more : (xs : List Step) (ys : List (List ℕ)) (x : Step) (y : List ℕ) → length ys ≡ length xs → zip (xs ++ x ∷ []) (ys ++ y ∷ []) ≡ zip xs ys ++ (x, y) ∷ []
zip-more [] [] x y e = refl
zip-more [] (b ∷ ys) x y e = absurd (omega arith)
zip-more (a ∷ xs) [] x y e = absurd (omega arith)
zip-more (a ∷ xs) (b ∷ ys) x y e = ap (λ rest. (a, b) ∷ rest) (zip-more xs ys x y (omega arith))

abbrev second : Step × List ℕ → List ℕ
second p = p.1

abbrev is-of : ℕ → Step × List ℕ → Bool
is-of q p = eqb p.0.process q

mine : (q : ℕ) (pairs : List (Step × List ℕ)) (step : Step) (bytes : List ℕ)
    → map second (filter (is-of q) (pairs ++ (step, bytes) ∷ [])) ≡ map second (filter (is-of q) pairs) ++ cond (eqb step.process q) (bytes ∷ []) []
mine q pairs step bytes =
    ap (map second) (filter-append (is-of q) pairs ((step, bytes) ∷ []))
    ∙ map-append second (filter (is-of q) pairs) (filter (is-of q) ((step, bytes) ∷ []))
    ∙ ap (λ more. map second (filter (is-of q) pairs) ++ more) (last (eqb step.process q))
  where
    last : (b : Bool) → map second (cond b ((step, bytes) ∷ []) []) ≡ cond b (bytes ∷ []) []
    last true = refl
    last false = refl

files-with : (q : ℕ) (done : List Step) (step : Step) (used : List (List ℕ)) (bytes : List ℕ) → length used ≡ length (sending done) → is_some (file_of step.act) ≡ true
    → files_of q (done ++ step ∷ []) (used ++ bytes ∷ []) ≡ files_of q done used ++ cond (eqb step.process q) (bytes ∷ []) []
files-with q done step used bytes e sends =
    let more : sending (done ++ step ∷ []) ≡ sending done ++ step ∷ [] = sending-more done step ∙ ap (λ b. sending done ++ cond b (step ∷ []) []) sends in
    ap (λ s. map second (filter (is-of q) (zip s (used ++ bytes ∷ [])))) more
    ∙ ap (λ pairs. map second (filter (is-of q) pairs)) (zip-more (sending done) used step bytes e)
    ∙ mine q (zip (sending done) used) step bytes

sending-same : (done : List Step) (step : Step) → is_some (file_of step.act) ≡ false → sending (done ++ step ∷ []) ≡ sending done
sending-same done step e = sending-more done step ∙ ap (λ b. sending done ++ cond b (step ∷ []) []) e ∙ append-nil (sending done)

-- ---- the steps so far

-- the steps so far were dealt, with the first of the contents, and the others are left
pub record Dealt (processes : ℕ) (done : List Step) (contents rest : List (List ℕ)) (process_steps : List ProcessSteps) : Type 0 where
  pub used : List (List ℕ)
  pub split : contents ≡ used ++ rest
  pub many_used : length used ≡ length (sending done)
  pub process_steps_are : AreStepsOfAll processes done used process_steps

pub none-dealt : (processes : ℕ) (contents : List (List ℕ)) (process_steps : List ProcessSteps) → AreStepsOfAll processes [] [] process_steps → Dealt processes [] contents contents process_steps
none-dealt processes contents process_steps h = record { used = []; split = refl; many_used = refl; process_steps_are = h }

-- a process with one more step
own-steps-more : (done : List Step) (used : List (List ℕ)) (step : Step) (content : Option (List ℕ)) (old new : ProcessSteps) → AreStepsOf done used step.process old
    → length used ≡ length (sending done) → is_some content ≡ is_some (file_of step.act)
    → new.steps.items ≡ old.steps.items ++ step ∷ [] → new.files.items ≡ old.files.items ++ option_to_list content
    → AreStepsOf (done ++ step ∷ []) (used ++ option_to_list content) step.process new
own-steps-more done used step None old new h e sends s f = record {
  steps_are = s ∙ ap (λ steps. steps ++ step ∷ []) h.steps_are ∙ sym (steps-more step.process done step ∙ ap (λ b. steps_of step.process done ++ cond b (step ∷ []) []) (eq-eqb step.process step.process refl));
  files_are = f ∙ append-nil old.files.items ∙ h.files_are
      ∙ sym (ap (λ u. files_of step.process (done ++ step ∷ []) u) (append-nil used) ∙ ap (λ s. map second (filter (is-of step.process) (zip s used))) (sending-same done step (sym sends)));
}
own-steps-more done used step (Some bytes) old new h e sends s f = record {
  steps_are = s ∙ ap (λ steps. steps ++ step ∷ []) h.steps_are ∙ sym (steps-more step.process done step ∙ ap (λ b. steps_of step.process done ++ cond b (step ∷ []) []) (eq-eqb step.process step.process refl));
  files_are = f ∙ ap (λ files. files ++ bytes ∷ []) h.files_are
      ∙ sym (files-with step.process done step used bytes e (sym sends) ∙ ap (λ b. files_of step.process done used ++ cond b (bytes ∷ []) []) (eq-eqb step.process step.process refl));
}

-- that of another process stays
own-steps-same : (done : List Step) (used : List (List ℕ)) (step : Step) (content : Option (List ℕ)) (q : ℕ) (own_steps : ProcessSteps) → AreStepsOf done used q own_steps → step.process ≢ q
    → length used ≡ length (sending done) → is_some content ≡ is_some (file_of step.act) → AreStepsOf (done ++ step ∷ []) (used ++ option_to_list content) q own_steps
own-steps-same done used step None q own_steps h apart e sends = record {
  steps_are = h.steps_are ∙ sym (steps-more q done step ∙ ap (λ b. steps_of q done ++ cond b (step ∷ []) []) (ne_eqb step.process q apart) ∙ append-nil (steps_of q done));
  files_are = h.files_are
      ∙ sym (ap (λ u. files_of q (done ++ step ∷ []) u) (append-nil used) ∙ ap (λ s. map second (filter (is-of q) (zip s used))) (sending-same done step (sym sends)));
}
own-steps-same done used step (Some bytes) q own_steps h apart e sends = record {
  steps_are = h.steps_are ∙ sym (steps-more q done step ∙ ap (λ b. steps_of q done ++ cond b (step ∷ []) []) (ne_eqb step.process q apart) ∙ append-nil (steps_of q done));
  files_are = h.files_are
      ∙ sym (files-with q done step used bytes e (sym sends) ∙ ap (λ b. files_of q done used ++ cond b (bytes ∷ []) []) (ne_eqb step.process q apart) ∙ append-nil (files_of q done used));
}

many-more : (done : List Step) (used : List (List ℕ)) (step : Step) (content : Option (List ℕ)) → length used ≡ length (sending done) → is_some content ≡ is_some (file_of step.act)
    → length (used ++ option_to_list content) ≡ length (sending (done ++ step ∷ []))
many-more done used step None e sends = ap (λ (u : List (List ℕ)). length u) (append-nil used) ∙ e ∙ sym (ap (λ (s : List Step). length s) (sending-same done step (sym sends)))
many-more done used step (Some bytes) e sends =
    length_push used bytes ∙ ap (λ n. n + 1) e
    ∙ sym (ap (λ (s : List Step). length s) (sending-more done step ∙ ap (λ b. sending done ++ cond b (step ∷ []) []) (sym sends)) ∙ length_push (sending done) step)

-- one more step was dealt
pub dealt-more : (processes : ℕ) (done : List Step) (contents rest rest' : List (List ℕ)) (process_steps : List ProcessSteps) (step : Step) (content : Option (List ℕ)) (old new : ProcessSteps)
    → Dealt processes done contents rest process_steps → step.process < processes → old ≡ get_or process_steps step.process old → rest ≡ option_to_list content ++ rest'
    → is_some content ≡ is_some (file_of step.act) → new.steps.items ≡ old.steps.items ++ step ∷ [] → new.files.items ≡ old.files.items ++ option_to_list content
    → Dealt processes (done ++ step ∷ []) contents rest' (set process_steps step.process new)
dealt-more processes done contents rest rest' process_steps step content old new h lt at next sends s f = record {
  used = h.used ++ option_to_list content;
  split = h.split ∙ ap (λ r. h.used ++ r) next ∙ sym (append_assoc h.used (option_to_list content) rest');
  many_used = many-more done h.used step content h.many_used sends;
  process_steps_are = record {
    many = length-set process_steps step.process new ∙ h.process_steps_are.many;
    each = λ q d below. elim (eqb_tells step.process q) [
      | inl here ↦ rw (sym here.1) (rw (get_or-set_same process_steps step.process new d (omega (arith, h.process_steps_are.many)))
          (own-steps-more done h.used step content old new (rw at (h.process_steps_are.each step.process old lt)) h.many_used sends s f))
      | inr apart ↦ rw (get_or-set_other process_steps step.process q new d (λ e. apart.1 (sym e))) (own-steps-same done h.used step content q _ (h.process_steps_are.each q d below) apart.1 h.many_used sends)
    ];
  };
}

-- all contents are used once all steps were dealt
pub all-dealt : (processes : ℕ) (steps : List Step) (contents rest : List (List ℕ)) (process_steps : List ProcessSteps) → Dealt processes steps contents rest process_steps
    → length contents ≡ length (sending steps) → AreStepsOfAll processes steps contents process_steps
all-dealt processes steps contents rest process_steps h many = rw (h.split ∙ ap (λ r. h.used ++ r) (none rest (omega (arith, h.many_used, many, ap (λ (c : List (List ℕ)). length c) h.split, length-append h.used rest))) ∙ append-nil h.used) h.process_steps_are
  where
    none : (xs : List (List ℕ)) → length xs ≡ 0 → xs ≡ []
    none [] e = refl
    none (x ∷ xs) e = absurd (omega arith)

-- something is left where the next step sends a file
pub some-left : (processes : ℕ) (steps done more : List Step) (step : Step) (contents rest : List (List ℕ)) (process_steps : List ProcessSteps) → Dealt processes done contents rest process_steps
    → length contents ≡ length (sending steps) → steps ≡ done ++ step ∷ more → is_some (file_of step.act) ≡ true → 0 < length rest
some-left processes steps done more step contents rest process_steps h many split sends =
    let parts : sending steps ≡ sending done ++ step ∷ sending more =
    ap sending split ∙ filter-append (λ (s : Step). is_some (file_of s.act)) done (step ∷ more) ∙ ap (λ b. sending done ++ cond b (step ∷ sending more) (sending more)) sends in
    omega (arith, h.many_used, many, ap (λ (c : List (List ℕ)). length c) h.split, length-append h.used rest, ap (λ (s : List Step). length s) parts, length-append (sending done) (step ∷ sending more))

-- the next step is of one of the processes
pub sender-below : (processes : ℕ) (steps done more : List Step) (step : Step) → All (λ (s : Step). s.process < processes) steps → done ++ step ∷ more ≡ steps → step.process < processes
sender-below processes steps done more step all e =
    let all' : All (λ (s : Step). s.process < processes) (done ++ step ∷ more) = rw e all in
    subst (λ (s : Step). s.process < processes) (get_or-append_seam done step more step) (all' (length done) step (omega (arith, length-append done (step ∷ more))))

-- there is one name for each step that sends a file
pub sending-many : (steps : List Step) → length (file_names steps) ≡ length (sending steps)
sending-many [] = refl
sending-many (s ∷ steps) = one s (file_names steps) (sending steps) (file_of s.act) (sending-many steps)
  where
    one : (s : Step) (names : List (List ℕ)) (rest : List Step) (f : Option (List ℕ)) → length names ≡ length rest → length (cons_option f names) ≡ length (cond (is_some f) (s ∷ rest) rest)
    one s names rest None e = e
    one s names rest (Some name) e = ap suc e

use Rattle.std.proofs.Common.{◌≡◌, ◌<◌, Option, Some, None, IsSomeAnd, Contains, [], ◌∷◌, ◌++◌, length, get_or, ap, ◌∙◌, sym, subst, ⊎_elim, arith, length-append}
use Rattle.std.proofs.lemmas.Bool.{cases_eq}
use Rattle.std.proofs.Math.ListN.{get_or-append}
use Rattle.std.proofs.Math.Seq.{get_or-append_seam}
use Rattle.task_queue.specs.Ends.{Sending, Taking, ended_of}
use Rattle.task_queue.proofs.Told.{among_last, among_still}
use Rattle.lane_tests.specs.declared.lanes.LaneNumber.{LaneNumber}
use Rattle.lane_tests.proofs.lanes.take_in_all.Goals as goal

weaker : {X : Type 0} (P Q : X → Type 0) → ((x : X) → P x → Q x) → (o : Option X) → IsSomeAnd o P → IsSomeAnd o Q
weaker P Q more (Some x) it = more x it
weaker P Q more None it = absurd it

-- nothing but the ended senders changes
same_still : {T K : Type 0} (first t u : Taking T K) (end : Sending T K) → t ≡ record first { ended = t.ended }
    → u ≡ record t { ended = t.ended ++ ended_of end ∷ [] } → u ≡ record first { ended = u.ended }
same_still {T = T} {K = K} first t u end same step =
    step
    ∙ ap (λ (v : Taking T K). record v { ended = t.ended ++ ended_of end ∷ [] }) same
    ∙ ap (λ (v : Taking T K). record first { ended = v.ended }) (sym step)

pub loop-sender-preserved : goal.loop-sender-preserved
loop-sender-preserved c =
    let xs = c.loop-sender.yielded in
    let x = c.in-Some.sender in
    let P : Sending LaneNumber (Unit {0}) → Type 0 = λ s. Contains c.take_in.new.self.ended (ended_of s) in
    record {
      same = same_still c.args.end.now c.loop-sender.end c.take_in.new.self c.in-Some-sender.sender c.loop-sender.invariant.same c.take_in.ensures;
      ended = λ n e below. ⊎_elim
          (λ (last : n ≡ length xs).
          let here : get_or (xs ++ x ∷ []) n e ≡ Some c.in-Some-sender.sender =
          ap (λ m. get_or (xs ++ x ∷ []) m e) last ∙ get_or-append_seam xs x [] e ∙ c.in-Some-sender.is in
          subst (λ o. IsSomeAnd o P) (sym here) (among_last _ _ c.in-Some-sender.sender c.take_in.ensures))
          (λ (earlier : n ≡ length xs → ⊥).
          let lower : n < length xs = omega (arith, length-append xs (x ∷ [])) in
          subst (λ o. IsSomeAnd o P) (sym (get_or-append xs (x ∷ []) e n lower))
          (weaker (λ s. Contains c.loop-sender.end.ended (ended_of s)) P
          (λ s among. among_still _ _ c.in-Some-sender.sender (ended_of s) c.take_in.ensures among) (get_or xs n e) (c.loop-sender.invariant.ended n e lower)))
          (cases_eq n (length xs));
    }

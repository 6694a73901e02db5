-- The one seat of a run comes back.
use Rattle.std.proofs.Common.{◌≡◌, ℕ, List, [], ◌∷◌, ◌++◌, Some, length, slice_get, refl, sym, ap, ◌∙◌, subst, arith, length-append}
use Rattle.std.proofs.lemmas.Option.{same_Some}
use Rattle.port_words.specs.home.Home.{fresh_view}
use Rattle.port_words.specs.home.Seats.{HomeKnown, home_known, AreSeatsOf}
use Rattle.port_sched.specs.Homes.{AreHomes, HomesStep}
use Rattle.sched_tests.specs.Seats.{IsSeatOfTwo, IsSeatBack}

pub back : {B : Type 0} (home last : HomeKnown B) (rest old new : List (HomeKnown B)) → old ≡ home ∷ [] → new ≡ rest ++ last ∷ [] → HomesStep old new → AreHomes new → IsSeatBack home last
back home last [] old new before after steps are =
    let here : slice_get old 0 ≡ Some home = ap (λ l. slice_get l 0) before in
    let there : slice_get new 0 ≡ Some last = ap (λ l. slice_get l 0) after in
    let same = steps.same 0 home last here there in
    record { home = same.home; rests = (are 0 last there).1; share = same.shares; seats = same.seats }
back home last (x ∷ xs) old new before after steps are =
    absurd (let a = ap length before in let b = ap length after in let c = steps.count in let d = length-append xs (last ∷ []) in omega arith)

-- the two seats of a new home
pub two : {B : Type 0} (port : ℕ) (body : B) (all between rest : List (HomeKnown B)) (first second : HomeKnown B) → AreSeatsOf port body 2 all
    → all ≡ between ++ second ∷ [] → between ≡ rest ++ first ∷ [] → IsSeatOfTwo port first × IsSeatOfTwo port second × (second.home ≡ first.home)
two port body all between [] first second are one other =
    let seat = home_known are.home port (fresh_view (Some are.first) 2 1) in
    let whole : first ∷ second ∷ [] ≡ seat ∷ seat ∷ [] = ap (λ l. l ++ second ∷ []) (sym other) ∙ sym one ∙ are.dealt in
    let a : first ≡ seat = same_Some first seat (ap (λ l. slice_get l 0) whole) in
    let b : second ≡ seat = same_Some second seat (ap (λ l. slice_get l 1) whole) in
    let is : IsSeatOfTwo port seat = record { port_is = refl; rests = refl; share = refl; seats = refl } in
    (subst (IsSeatOfTwo port) (sym a) is, subst (IsSeatOfTwo port) (sym b) is, ap (λ s. s.home) b ∙ sym (ap (λ s. s.home) a))
two port body all between (x ∷ xs) first second are one other =
    absurd (let a = ap length one in let b = ap length other in let c = ap length are.dealt in let d = length-append between (second ∷ []) in let e = length-append xs (first ∷ []) in omega arith)

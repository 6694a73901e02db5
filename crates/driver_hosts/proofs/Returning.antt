-- One more port has ended, and its driver is back.
use Rattle.std.proofs.Common.{inl, inr, arith, ◌≡◌, ◌≢◌, ℕ, ◌+◌, ◌<◌, ◌≤◌, List, [], ◌∷◌, ◌++◌, length, Option, Result, Ok, Err, Vec, get_or, refl, sym, ap, ◌∙◌}
use Rattle.std.specs.List.{zip}
use Rattle.std.specs.Prelude.{map, IfOk, IsOkAnd, slice_index, slice_index_or, slice_set}
use Rattle.std.proofs.lemmas.Bool.{cases_lt}
use Rattle.std.proofs.lemmas.List.{get_or_append_left, get_or_push, get_or_default, get_or-set_same, get_or-set_other, length-set, length_push}
use Rattle.std.proofs.lemmas.Slice.Zip.{length-zip, get_or-zip, seconds-zip}
use denote.Ref.{Bor}
use Rattle.port_driver.specs.driver_model.Calls.{Kind, Own}
use Rattle.port_driver.specs.driver_model.Programs.{ToldProgram}
use Rattle.port_driver.specs.declared.life.Life.{Life}
use Rattle.port_body.specs.Body.{BodyView}
use Rattle.driver_hosts.specs.declared.ending.EndedPort.{EndedPort}
use Rattle.driver_hosts.specs.declared.hosted.Hosted.{Hosted}
use Rattle.driver_hosts.specs.Returning.{AreReturned, HasLeft, HasReturned, LeaveAll}

-- what two lists side by side yield next
pub side-by-side : {X Y : Type 0} (xs : List X) (ys : List Y) (n : ℕ) (x : X) (y : Y) → length ys ≡ length xs → n < length (zip xs ys) → (x, y) ≡ get_or (zip xs ys) n (x, y)
    → (n < length xs) × (n < length ys) × (x ≡ get_or xs n x) × (y ≡ get_or ys n y)
side-by-side xs ys n x y same less is =
    let shorter = rw (length-zip xs ys) at less in
    let first : n < length xs = omega (arith, same, shorter) in
    let second : n < length ys = rw same first in
    let both : (x, y) ≡ (get_or xs n x, get_or ys n y) = is ∙ get_or-zip xs ys n (x, y) first second in
    (first, second, ap (λ p. p.0) both, ap (λ p. p.1) both)

pub length-side-by-side : {X Y : Type 0} (xs : List X) (ys : List Y) → length ys ≡ length xs → length (zip xs ys) ≡ length xs
length-side-by-side xs ys same = let shorter = length-zip xs ys in omega (arith, same, shorter)

-- the second ones of pairs are those of their list
pub bodies-of : {X Y : Type 0} (xs : List X) (ys : List Y) (pairs : List (Bor X × Y)) → length ys ≡ length xs → map (λ (p : Bor X × Y). (p.0.now, p.1)) pairs ≡ zip xs ys
    → map (λ (p : Bor X × Y). p.1) pairs ≡ ys
bodies-of {X = X} {Y = Y} xs ys pairs same all = firsts pairs ∙ ap (map (λ p. p.1)) all ∙ seconds-zip xs ys same
  where
    firsts : (pairs : List (Bor X × Y)) → map (λ (p : Bor X × Y). p.1) pairs ≡ map (λ (p : X × Y). p.1) (map (λ (p : Bor X × Y). (p.0.now, p.1)) pairs)
    firsts [] = refl
    firsts (p ∷ pairs) = ap (λ ys. p.1 ∷ ys) (firsts pairs)

pub leave-none : LeaveAll [] []
leave-none = record { count = refl; each = λ port v p l. absurd (omega arith) }

-- one more port has left its things
leave-push : (bodies : List BodyView) (ports : List EndedPort) (body : BodyView) (port : EndedPort) → LeaveAll bodies ports → HasLeft body port → LeaveAll (bodies ++ body ∷ []) (ports ++ port ∷ [])
leave-push bodies ports body port all left = record {
  count = length_push ports port ∙ ap (λ n. n + 1) all.count ∙ sym (length_push bodies body);
  each = λ k v p l. elim (cases_lt k (length bodies)) [
    | inl h ↦
        let within : k < length ports = rw all.count h in
        rw (get_or_append_left bodies (body ∷ []) v k h, get_or_append_left ports (port ∷ []) p k within) (all.each k v p h)
    | inr h ↦
        let last : length bodies ≡ k = (let e = length_push bodies body in omega (arith, e, l)) in
        rw (get_or_push bodies body v k last, get_or_push ports port p k (all.count ∙ last)) left
  ];
}

pub leave-more : {Z E : Type 0} (new old : Result (Vec EndedPort Z) E) (port : EndedPort) (bodies : List BodyView) (body : BodyView) → HasLeft body port → IfOk old (λ ports. LeaveAll bodies ports.items)
    → IfOk new (λ more. IsOkAnd old (λ ended. more.items ≡ ended.items ++ port ∷ [])) → IfOk new (λ ports. LeaveAll (bodies ++ body ∷ []) ports.items)
leave-more (Err e) old port bodies body left all more = tt
leave-more (Ok new) (Err e) port bodies body left all more = absurd more
leave-more (Ok new) (Ok old) port bodies body left all more = rw more (leave-push bodies old.items body port all left)

module _ {D : Type 0} (kind : D → Kind) (stage : D → Life) (faults : D → ℕ) (own : D → Own) (program : D → Option ToldProgram) where
  pub returned-none : (places : List ℕ) (hosts : List (Hosted D)) → AreReturned kind stage faults own program [] places hosts hosts
  returned-none places hosts = record {
    len = refl;
    returned = λ port body d l. absurd (omega arith);
    others = λ at d apart. refl;
  }

  pub returned-more : (bodies : List BodyView) (places : List ℕ) (old new : List (Hosted D)) (port at : ℕ) (body : BodyView) (before after : Hosted D)
      → AreReturned kind stage faults own program bodies places old new → port ≡ length bodies → slice_index places port ≡ at → at < length old
      → ((earlier : ℕ) → earlier < port → slice_index places earlier ≢ at) → before ≡ slice_index_or new at before
      → HasReturned kind stage faults own program body before after → AreReturned kind stage faults own program (bodies ++ body ∷ []) places old (slice_set new at after)
  returned-more bodies places old new port at body before after r counts stands within apart was back = record {
    len = length-set new at after ∙ r.len;
    returned = λ k b d l. elim (cases_lt k (length bodies)) [
      | inl h ↦ rw (get_or_append_left bodies (body ∷ []) b k h, get_or-set_other new at (slice_index places k) after d (apart k (omega arith))) (r.returned k b d h)
      | inr h ↦ rw (
        get_or_push bodies body b k (last k l h),
        ap (slice_index places) (sym (last k l h) ∙ sym counts) ∙ stands,
        get_or-set_same new at after d inside,
        sym (r.others at d (λ p q. apart p (omega arith))),
        get_or_default new at d before inside,
        sym was,
      ) back
    ];
    others = λ k d not. get_or-set_other new at k after d (λ e. not port (rw length_push (omega arith)) (stands ∙ sym e))
        ∙ r.others k d (λ p q. not p (rw length_push (omega arith)));
  }
    where
      inside : at < length new
      inside = rw r.len within

      last : (k : ℕ) → k < length (bodies ++ body ∷ []) → length bodies ≤ k → length bodies ≡ k
      last k l h = let e = length_push bodies body in omega (arith, e, l)

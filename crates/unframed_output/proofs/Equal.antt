-- Effects that are the same are equal.
use Rattle.std.proofs.Common.{◌≡◌, ℕ, List, [], ◌∷◌, length, Bool, true, false, ◌&&◌, refl, ap, ◌∙◌, arith}
use Rattle.std.specs.Prelude.{◌==◌}
use Rattle.std.proofs.lemmas.Bool.{eqb-true}
use Rattle.std.proofs.lemmas.Bool.Decides.{Decides-eqb, Decides-int_eq}
use Rattle.std.proofs.lemmas.Slice.Eq.{slice_eq-Decides}
use Rattle.driver_model.specs.port_model.io_vector.declared.flag.Flag.{Flag}
use Rattle.driver_model.specs.port_model.io_vector.declared.flag.Flag.TheVariants.{Plain, Eol, Noeol}
use Rattle.driver_model.specs.port_model.declared.event.Dir.{Dir}
use Rattle.driver_model.specs.port_model.declared.event.Dir.TheVariants.{Read, Write}
use Rattle.driver_model.specs.port_model.declared.effect.Effect.{Effect}
use Rattle.driver_model.specs.port_model.declared.effect.Effect.TheVariants.{Message, Eof, Status, Busy, Select, Unuse, Async, Watch, Reply, ReplyBadarg, Fail}
use Rattle.driver_model.specs.Same.{same_bytes, same_bool, same_flag, same_dir, same_effect, same_effects}

parts : (a b : Bool) → (a && b) ≡ true → (a ≡ true) × (b ≡ true)
parts true b e = (refl, e)
parts false b e = absurd (cc)

bytes : (bs cs : List ℕ) → same_bytes bs cs ≡ true → bs ≡ cs
bytes bs cs e = (slice_eq-Decides Decides-eqb bs cs (same_bytes bs cs) refl).0 e

bools : (a b : Bool) → same_bool a b ≡ true → a ≡ b
bools true true e = refl
bools false false e = refl
bools true false e = absurd (cc)
bools false true e = absurd (cc)

flags : (f g : Flag) → same_flag f g ≡ true → f ≡ g
flags Plain Plain e = refl
flags Eol Eol e = refl
flags Noeol Noeol e = refl
flags f g e = absurd (cc)

dirs : (d e : Dir) → same_dir d e ≡ true → d ≡ e
dirs Read Read e = refl
dirs Write Write e = refl
dirs d d' e = absurd (cc)

effect : (x y : Effect) → same_effect x y ≡ true → x ≡ y
effect (Message f bs) (Message g cs) e =
    let p = parts (same_flag f g) (same_bytes bs cs) e in
    ap (λ h. Message h bs) (flags f g p.0) ∙ ap (λ ds. Message g ds) (bytes bs cs p.1)
effect Eof Eof e = refl
effect (Status s) (Status t) e = ap Status ((Decides-int_eq s t).0 e)
effect (Busy a) (Busy b) e = ap Busy (bools a b e)
effect (Select n d a) (Select m d' b) e =
    let p = parts (n == m && same_dir d d') (same_bool a b) e in
    let q = parts (n == m) (same_dir d d') p.0 in
    ap (λ x. Select x d a) (eqb-true n m q.0) ∙ (ap (λ x. Select m x a) (dirs d d' q.1) ∙ ap (λ x. Select m d' x) (bools a b p.1))
effect (Unuse n) (Unuse m) e = ap Unuse (eqb-true n m e)
effect (Async n k c i) (Async m l d j) e =
    let p = parts (n == m && k == l && c == d) (same_bytes i j) e in
    let q = parts (n == m && k == l) (c == d) p.0 in
    let r = parts (n == m) (k == l) q.0 in
    ap (λ x. Async x k c i) (eqb-true n m r.0) ∙ (ap (λ x. Async m x c i) (eqb-true k l r.1)
    ∙ (ap (λ x. Async m l x i) (eqb-true c d q.1) ∙ ap (λ x. Async m l d x) (bytes i j p.1)))
effect (Watch n) (Watch m) e = ap Watch (eqb-true n m e)
effect (Reply bs) (Reply cs) e = ap Reply (bytes bs cs e)
effect ReplyBadarg ReplyBadarg e = refl
effect (Fail bs) (Fail cs) e = ap Fail (bytes bs cs e)
effect x y e = absurd (cc)

pub equal : (xs ys : List Effect) → same_effects xs ys ≡ true → xs ≡ ys
equal [] [] e = refl
equal [] (y ∷ ys) e = absurd (cc)
equal (x ∷ xs) [] e = absurd (cc)
equal (x ∷ xs) (y ∷ ys) e =
    let p = parts (same_effect x y) (same_effects xs ys) e in
    ap (λ z. z ∷ xs) (effect x y p.0) ∙ ap (λ zs. y ∷ zs) (equal xs ys p.1)

-- lists of other lengths aren't the same
pub other-length : (xs ys : List Effect) → (length xs ≡ length ys → ⊥) → false ≡ same_effects xs ys
other-length [] [] n = absurd (n refl)
other-length [] (y ∷ ys) n = refl
other-length (x ∷ xs) [] n = refl
other-length (x ∷ xs) (y ∷ ys) n = at (same_effect x y) (other-length xs ys (λ e. n (omega (arith, e)))) where
  at : (b : Bool) → false ≡ same_effects xs ys → false ≡ (b && same_effects xs ys)
  at true e = e
  at false e = refl

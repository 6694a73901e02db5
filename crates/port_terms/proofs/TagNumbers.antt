-- Which tag a number is.
use Rattle.std.proofs.Common.{◌≡◌, ℕ, Bool, true, false, cond, refl, sym, ap, ◌∙◌}
use Rattle.std.specs.Prelude.{◌==◌}
use Rattle.std.proofs.lemmas.Bool.{cond_both, eqb-true, or_from, or_parts, false≢true}
use Rattle.port_terms.specs.declared.tags.Tag.{Tag}
use Rattle.port_terms.specs.declared.tags.Tag.TheVariants as tags
use Rattle.port_terms.specs.Faults.{is_among, served, unserved}
use Rattle.port_terms.specs.Reading.{tag_of}

-- what is known of the number of a tag
abbrev pub IsTag : Tag → ℕ → Type 0
IsTag tags.SmallInteger n = n ≡ 97
IsTag tags.Integer n = n ≡ 98
IsTag tags.SmallBig n = n ≡ 110
IsTag tags.SmallAtomUtf8 n = n ≡ 119
IsTag tags.AtomUtf8 n = n ≡ 118
IsTag tags.SmallAtom n = n ≡ 115
IsTag tags.Atom n = n ≡ 100
IsTag tags.SmallTuple n = n ≡ 104
IsTag tags.LargeTuple n = n ≡ 105
IsTag tags.Nil n = n ≡ 106
IsTag tags.String n = n ≡ 107
IsTag tags.List n = n ≡ 108
IsTag tags.Binary n = n ≡ 109
IsTag tags.Unserved n = is_among unserved n ≡ true
IsTag tags.Unknown n = (is_among served n ≡ false) × (is_among unserved n ≡ false)

either : (n k : ℕ) (x y : Tag) → (n ≡ k → IsTag x n) → ((n == k) ≡ false → IsTag y n) → IsTag (cond (n == k) x y) n
either n k x y yes_is no_is = cond_both (n == k) x y (λ t. IsTag t n) (λ e. yes_is (eqb-true n k e)) no_is

pub tag_is : (n : ℕ) → IsTag (tag_of n) n
tag_is n =
    either n 97 _ _ (λ e. e) (λ a. either n 98 _ _ (λ e. e) (λ b. either n 100 _ _ (λ e. e) (λ c. either n 104 _ _ (λ e. e) (λ d. either n 105 _ _ (λ e. e) (λ f.
    either n 106 _ _ (λ e. e) (λ g. either n 107 _ _ (λ e. e) (λ h. either n 108 _ _ (λ e. e) (λ i. either n 109 _ _ (λ e. e) (λ j. either n 110 _ _ (λ e. e) (λ k.
    either n 115 _ _ (λ e. e) (λ l. either n 118 _ _ (λ e. e) (λ m. either n 119 _ _ (λ e. e) (λ o.
    cond_both (is_among unserved n) tags.Unserved tags.Unknown (λ t. IsTag t n) (λ e. e) (λ e.
    (or_from _ _ a (or_from _ _ b (or_from _ _ c (or_from _ _ d (or_from _ _ f (or_from _ _ g (or_from _ _ h (or_from _ _ i (or_from _ _ j (or_from _ _ k (or_from _ _ l (or_from _ _ m (or_from _ _ o refl)))))))))))), e))
    )))))))))))))

-- a number that is none of the grammar's
pub none_served : (n : ℕ) → is_among served n ≡ false → tag_of n ≡ cond (is_among unserved n) tags.Unserved tags.Unknown
none_served n e =
    let a = or_parts (n == 97) _ e in
    let b = or_parts (n == 98) _ a.1 in
    let c = or_parts (n == 100) _ b.1 in
    let d = or_parts (n == 104) _ c.1 in
    let f = or_parts (n == 105) _ d.1 in
    let g = or_parts (n == 106) _ f.1 in
    let h = or_parts (n == 107) _ g.1 in
    let i = or_parts (n == 108) _ h.1 in
    let j = or_parts (n == 109) _ i.1 in
    let k = or_parts (n == 110) _ j.1 in
    let l = or_parts (n == 115) _ k.1 in
    let m = or_parts (n == 118) _ l.1 in
    let o = or_parts (n == 119) _ m.1 in
    rw (a.0, b.0, c.0, d.0, f.0, g.0, h.0, i.0, j.0, k.0, l.0, m.0, o.0) refl

pub tag_unknown : (n : ℕ) → is_among served n ≡ false → is_among unserved n ≡ false → tag_of n ≡ tags.Unknown
tag_unknown n e none = none_served n e ∙ rw none refl

apart_by : (n k : ℕ) (b : Bool) → (n == k) ≡ b → is_among unserved k ≡ false → is_among unserved n ≡ true → (n == k) ≡ false
apart_by n k false e out within = e
apart_by n k true e out within = absurd (false≢true (sym out ∙ ap (is_among unserved) (sym (eqb-true n k e)) ∙ within))

apart : (n k : ℕ) → is_among unserved k ≡ false → is_among unserved n ≡ true → (n == k) ≡ false
apart n k out within = apart_by n k (n == k) refl out within

pub tag_unserved : (n : ℕ) → is_among unserved n ≡ true → tag_of n ≡ tags.Unserved
tag_unserved n within =
    none_served n
    (or_from _ _ (apart n 97 refl within) (or_from _ _ (apart n 98 refl within) (or_from _ _ (apart n 100 refl within) (or_from _ _ (apart n 104 refl within) (or_from _ _ (apart n 105 refl within)
    (or_from _ _ (apart n 106 refl within) (or_from _ _ (apart n 107 refl within) (or_from _ _ (apart n 108 refl within) (or_from _ _ (apart n 109 refl within) (or_from _ _ (apart n 110 refl within)
    (or_from _ _ (apart n 115 refl within) (or_from _ _ (apart n 118 refl within) (or_from _ _ (apart n 119 refl within) refl)))))))))))))
    ∙ rw within refl

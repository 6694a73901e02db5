-- What is read is an external form of the term, and a fault that is met is the first one.
use Rattle.std.proofs.Common.{◌≡◌, ◌≢◌, ℕ, zero, suc, ◌+◌, ◌-◌, cond, List, [], ◌∷◌, ◌++◌, length, Result, Ok, Err, refl, sym, ap, subst, ◌∙◌, arith, inl, inr}
use Rattle.std.specs.Prelude.{◌==◌}
use Rattle.std.proofs.lemmas.Bool.{cases_Bool, eqb-true, eqb-false}
use Rattle.std.proofs.lemmas.List.{length-append, append-nil, nil_from_length}
use Rattle.port_terms.specs.declared.values.TheConstants.{MAX_DEPTH}
use Rattle.port_terms.specs.declared.faults.TermFault.{TermFault}
use Rattle.port_terms.specs.declared.faults.TermFault.TheVariants.{Cut, BadTag, Trailing, TooDeep}
use Rattle.port_terms.specs.declared.tags.Tag.{Tag}
use Rattle.port_terms.specs.declared.tags.Tag.TheVariants as tags
use Rattle.port_terms.specs.Tree.{Tree}
use Rattle.port_terms.specs.Spelling.{IsExternal}
use Rattle.port_terms.specs.Spelling as S
use Rattle.port_terms.specs.Faults.{FaultOf, IsFirstFault}
use Rattle.port_terms.specs.Faults as F
use Rattle.port_terms.specs.Reading.{◌>>=◌, tag_of, body_at, term_at, whole_at, reading}
use Rattle.port_terms.proofs.Names.{IsBytes, IsBytes-rest}
use Rattle.port_terms.proofs.TagNumbers.{IsTag, tag_is}
use Rattle.port_terms.proofs.Says.{Says, IsReader, says_small_integer, says_integer, says_small_big, says_small_atom_utf8, says_atom_utf8, says_small_atom, says_atom, says_string, says_binary, says_small_tuple, says_large_tuple, says_list}

says_body : (k : Tag) (levels at number size : ℕ) (bytes : List ℕ) (item : List ℕ → Result (Tree × List ℕ) TermFault) → IsReader size levels item → IsTag k number → at + 1 + length bytes ≡ size → IsBytes bytes
    → Says (suc levels) at (number ∷ bytes) (body_at k levels item at number size bytes)
unfolding body_at
says_body tags.SmallInteger levels at number size bytes item reads e len h = rw e (says_small_integer levels at size bytes len h)
says_body tags.Integer levels at number size bytes item reads e len h = rw e (says_integer levels at size bytes len h)
says_body tags.SmallBig levels at number size bytes item reads e len h = rw e (says_small_big levels at size bytes len h)
says_body tags.SmallAtomUtf8 levels at number size bytes item reads e len h = rw e (says_small_atom_utf8 levels at size bytes len h)
says_body tags.AtomUtf8 levels at number size bytes item reads e len h = rw e (says_atom_utf8 levels at size bytes len h)
says_body tags.SmallAtom levels at number size bytes item reads e len h = rw e (says_small_atom levels at size bytes len h)
says_body tags.Atom levels at number size bytes item reads e len h = rw e (says_atom levels at size bytes len h)
says_body tags.SmallTuple levels at number size bytes item reads e len h = rw e (says_small_tuple levels at size bytes item reads len h)
says_body tags.LargeTuple levels at number size bytes item reads e len h = rw e (says_large_tuple levels at size bytes item reads len h)
says_body tags.Nil levels at number size bytes item reads e len h = rw e (record { text = 106 ∷ []; parts = refl; spelled = S.nil; shallow = omega arith; rest_bytes = h })
says_body tags.String levels at number size bytes item reads e len h = rw e (says_string levels at size bytes len h)
says_body tags.List levels at number size bytes item reads e len h = rw e (says_list levels at size bytes item reads len h)
says_body tags.Binary levels at number size bytes item reads e len h = rw e (says_binary levels at size bytes len h)
says_body tags.Unserved levels at number size bytes item reads e len h = F.not_served levels at number bytes e
says_body tags.Unknown levels at number size bytes item reads e len h = F.bad_tag levels at number bytes e.0 e.1

pub says_term : (size levels at : ℕ) (bytes : List ℕ) → at + length bytes ≡ size → IsBytes bytes → Says levels at bytes (term_at size levels bytes)
unfolding term_at
says_term size zero at bytes len h = subst (λ (k : ℕ). FaultOf 0 at bytes (TooDeep k)) (omega arith) (F.too_deep at bytes)
says_term size (suc levels) at [] len h = subst (λ (k : ℕ). FaultOf (suc levels) at [] (Cut k)) (omega arith) (F.no_tag levels at)
says_term size (suc levels) at (number ∷ rest) len h =
    let place : size - length (number ∷ rest) ≡ at = omega arith in
    rw place (says_body (tag_of number) levels at number size rest (term_at size levels) (λ at' bytes'. says_term size levels at' bytes') (tag_is number) (omega arith) (IsBytes-rest number rest h))

-- what reading all of an input says
abbrev pub SaysWhole : List ℕ → Result Tree TermFault → Type 0
SaysWhole bytes (Ok t) = IsExternal t bytes
SaysWhole bytes (Err fault) = IsFirstFault bytes fault

whole_made : (size : ℕ) (rest : List ℕ) (read : Result (Tree × List ℕ) TermFault) → 1 + length rest ≡ size → Says MAX_DEPTH 1 rest read
    → SaysWhole (131 ∷ rest) (read >>= λ term. cond (length term.1 == 0) (Ok term.0) (Err (Trailing (size - length term.1))))
whole_made size rest (Ok x) len took =
    elim (cases_Bool (length x.1 == 0)) [
      | inl e ↦
          let nothing : x.1 ≡ [] = nil_from_length x.1 (eqb-true (length x.1) 0 e) in
          let parts : rest ≡ took.text = took.parts ∙ ap (λ (r : List ℕ). took.text ++ r) nothing ∙ append-nil took.text in
          rw e (record { text = took.text; begins = ap (λ (r : List ℕ). 131 ∷ r) parts; spelled = took.spelled; levels = took.shallow })
      | inr e ↦
          let some : length x.1 ≢ 0 = eqb-false (length x.1) 0 e in
          let place : 1 + length took.text ≡ size - length x.1 = omega (arith, ap length took.parts, length-append took.text x.1) in
          let one : IsFirstFault (131 ∷ took.text ++ x.1) (Trailing (size - length x.1)) = subst (λ (k : ℕ). IsFirstFault (131 ∷ took.text ++ x.1) (Trailing k)) place (F.trailing x.0 took.text x.1 took.spelled took.shallow (omega arith)) in
          rw e (subst (λ (bs : List ℕ). IsFirstFault (131 ∷ bs) (Trailing (size - length x.1))) (sym took.parts) one)
    ]
whole_made size rest (Err fault) len faulty = F.in_term rest fault faulty

says_whole : (size : ℕ) (rest : List ℕ) → 1 + length rest ≡ size → IsBytes rest → SaysWhole (131 ∷ rest) (whole_at size rest)
unfolding whole_at
says_whole size rest len h = whole_made size rest (term_at size MAX_DEPTH rest) len (says_term size MAX_DEPTH 1 rest len h)

says_versioned : (version : ℕ) (rest : List ℕ) → IsBytes (version ∷ rest) → SaysWhole (version ∷ rest) (cond (version == 131) (whole_at (length (version ∷ rest)) rest) (Err (BadTag 0 version)))
says_versioned version rest h =
    elim (cases_Bool (version == 131)) [
      | inl e ↦
          let is_version : version ≡ 131 = eqb-true version 131 e in
          rw e (subst (λ (v : ℕ). SaysWhole (v ∷ rest) (whole_at (length (version ∷ rest)) rest)) (sym is_version) (says_whole (length (version ∷ rest)) rest (omega arith) (IsBytes-rest version rest h)))
      | inr e ↦ rw e (F.other_version version rest (eqb-false version 131 e))
    ]

pub says_reading : (bytes : List ℕ) → IsBytes bytes → SaysWhole bytes (reading bytes)
unfolding reading
says_reading [] h = F.no_version
says_reading (version ∷ rest) h = says_versioned version rest h

-- The laws of reading, of what a function returned.
use Rattle.std.proofs.Common.{◌≡◌, ◌≢◌, ℕ, ◌<◌, ◌^◌, List, get_or, Result, Ok, Err, subst, sym, ◌∙◌, inl, inr, ◌⊎◌}
use Rattle.std.specs.Prelude.{IfOk, IfErr}
use Rattle.port_terms.specs.declared.faults.TermFault.{TermFault}
use Rattle.port_terms.specs.declared.faults.TermFault.TheVariants.{NoMemory}
use Rattle.port_terms.specs.declared.values.Term.{Term}
use Rattle.port_terms.specs.Tree.{Tree}
use Rattle.port_terms.specs.View.{tree}
use Rattle.port_terms.specs.Spelling.{IsExternal}
use Rattle.port_terms.specs.Faults.{IsFirstFault}
use Rattle.port_terms.specs.Reading.{Gives, reading}
use Rattle.port_terms.proofs.Names.{IsBytes}
use Rattle.port_terms.proofs.Found.{SaysWhole, says_reading}
use Rattle.port_terms.proofs.Again.{reading_again}
use Rattle.port_terms.proofs.Told.{fault_is_told}

pub found : (bytes : List ℕ) (r : Result Term TermFault) → IsBytes bytes → Gives tree r (reading bytes) → IfOk r (λ t. IsExternal (tree t) bytes)
found bytes (Ok t) h given = subst (SaysWhole bytes) given (says_reading bytes h)
found bytes (Err e) h given = tt

pub first : (bytes : List ℕ) (r : Result Term TermFault) → IsBytes bytes → Gives tree r (reading bytes) → IfErr r (λ e. e ≢ NoMemory → IsFirstFault bytes e)
first bytes (Ok t) h given = tt
first bytes (Err e) h given = λ some. subst (SaysWhole bytes) (given some) (says_reading bytes h)

pub only : (bytes : List ℕ) (r : Result Term TermFault) (t : Tree) → Gives tree r (reading bytes) → IsExternal t bytes → Gives tree r (Ok t)
only bytes r t given ext = subst (Gives tree r) (reading_again t bytes ext) given

pub told : (bytes : List ℕ) (r : Result Term TermFault) (e : TermFault) → Gives tree r (reading bytes) → IsFirstFault bytes e → Gives tree r (Err e)
told bytes r e given faulty = subst (Gives tree r) (fault_is_told bytes e faulty) given

-- ---- without a function

abbrev term_read : Tree → Result Tree TermFault
term_read t = Ok t

abbrev fault_met : TermFault → Result Tree TermFault
fault_met e = Err e

same_term : (t u : Tree) → term_read t ≡ term_read u → t ≡ u
same_term t u e = cc

same_fault : (e f : TermFault) → fault_met e ≡ fault_met f → e ≡ f
same_fault e f same = cc

term_or_fault : (t : Tree) (e : TermFault) → term_read t ≡ fault_met e → ⊥
term_or_fault t e same = cc

pub one_term : (bytes : List ℕ) (t u : Tree) → IsExternal t bytes → IsExternal u bytes → t ≡ u
one_term bytes t u p q = same_term t u (sym (reading_again t bytes p) ∙ reading_again u bytes q)

pub one_fault : (bytes : List ℕ) (e f : TermFault) → IsFirstFault bytes e → IsFirstFault bytes f → e ≡ f
one_fault bytes e f p q = same_fault e f (sym (fault_is_told bytes e p) ∙ fault_is_told bytes f q)

pub not_both : (bytes : List ℕ) (t : Tree) (e : TermFault) → IsExternal t bytes → IsFirstFault bytes e → ⊥
not_both bytes t e p q = term_or_fault t e (sym (reading_again t bytes p) ∙ fault_is_told bytes e q)

either : (bytes : List ℕ) (r : Result Tree TermFault) → SaysWhole bytes r → ((t : Tree) × IsExternal t bytes) ⊎ ((e : TermFault) × IsFirstFault bytes e)
either bytes (Ok t) says = inl (t, says)
either bytes (Err e) says = inr (e, says)

pub one_of_both : (bytes : List ℕ) → ((i : ℕ) → get_or bytes i 0 < 2 ^ 8) → ((t : Tree) × IsExternal t bytes) ⊎ ((e : TermFault) × IsFirstFault bytes e)
one_of_both bytes h = either bytes (reading bytes) (says_reading bytes (λ i. record { fits = h i }))

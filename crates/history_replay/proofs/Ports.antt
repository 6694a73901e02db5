-- The ports of a book.
use Rattle.std.proofs.Common.{◌≡◌, ℕ, ◌<◌, List, length, get_or, Bool, true, sym, ap, ◌∙◌, subst, inl, inr}
use Rattle.std.specs.Prelude.{nat_le}
use Rattle.std.specs.List.{list_all}
use Rattle.std.proofs.lemmas.Bool.{and_parts, cases_Bool, false≢true}
use Rattle.std.proofs.lemmas.List.Folds.{list_all_at}
use Rattle.journal_text.specs.declared.book.PortReport.{PortReport}
use Rattle.journal_text.specs.Books.{BookView, is_book}
use Rattle.journal_text.specs.Ports.{is_report}
use Rattle.journal_text.specs.Words.{is_name}

all-at : (test : PortReport → Bool) (ports : List PortReport) (i : ℕ) (report : PortReport) → i < length ports → report ≡ get_or ports i report → list_all test ports ≡ true → test report ≡ true
all-at test ports i report below is all = elim (cases_Bool (test report)) [
  | inl passes ↦ passes
  | inr fails ↦ absurd (false≢true (sym (list_all_at test ports i report below (ap test (sym is) ∙ fails)) ∙ all))
]

-- a port of a book is in the ranges of the grammar
pub report-at : (book : BookView) (names : List (List ℕ)) (ports : List PortReport) (i : ℕ) (report : PortReport) → names ≡ book.names → ports ≡ book.ports → is_book book ≡ true
    → i < length ports → report ≡ get_or ports i report → is_report (length names) report ≡ true
report-at book names ports i report names_are ports_are e below is =
    let named = (and_parts (nat_le (length book.names) 32) _ e).1 in
    let few = (and_parts (list_all is_name book.names) _ named).1 in
    let all = (and_parts (nat_le (length book.ports) 32) (list_all (is_report (length book.names)) book.ports) few).1 in
    let here : list_all (is_report (length names)) ports ≡ true =
    subst (λ ps. list_all (is_report (length names)) ps ≡ true) (sym ports_are) (subst (λ ns. list_all (is_report (length ns)) book.ports ≡ true) (sym names_are) all) in
    all-at (is_report (length names)) ports i report below is here

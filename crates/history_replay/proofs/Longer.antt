-- Where the rows of a history that goes on break a law.
use Rattle.std.proofs.Common.{◌≡◌, ℕ, ◌+◌, ◌<◌, List, [], ◌∷◌, ◌++◌, length, reverse, take, drop, get_or, Option, Some, None, sym, ap, ◌∙◌, arith}
use Rattle.std.proofs.lemmas.List.{take_more, reverse-append, take-append-drop, length-reverse, length-take-le}
use Rattle.port_model.specs.declared.row.Row.{Row}
use Rattle.port_history.specs.Lawful.{Broken, first_broken, broken_at, broken, law_broken, verdict, end_broken}
use Rattle.port_history.specs.Opening.{Opening}
use Rattle.port_history.specs.State.{state}

-- rows behind one that breaks a law change nothing of it
pub broken-more : (port : Opening) (more older : List Row) (b : Broken) → broken port older ≡ Some b → broken port (more ++ older) ≡ Some b
broken-more port [] older b e = e
broken-more port (row ∷ more) older b e =
    ap (λ o. first_broken o (broken_at (length (more ++ older)) (law_broken port (state port (more ++ older)) row))) (broken-more port more older b e)

-- one more row after rows that break none
pub broken-next : (port : Opening) (older : List Row) (row : Row) (law : Option ℕ) → broken port older ≡ None → law_broken port (state port older) row ≡ law
    → broken port (row ∷ older) ≡ broken_at (length older) law
broken-next port older row law e f =
    ap (λ o. first_broken o (broken_at (length older) (law_broken port (state port older) row))) e ∙ ap (broken_at (length older)) f

-- the rows up to one of them, newest first
pub reverse-next : (rows : List Row) (i : ℕ) (row : Row) → i < length rows → row ≡ get_or rows i row → reverse (take (i + 1) rows) ≡ row ∷ reverse (take i rows)
reverse-next rows i row below is =
    ap reverse (take_more rows i row below) ∙ (reverse-append (take i rows) (get_or rows i row ∷ []) ∙ ap (λ r. r ∷ reverse (take i rows)) (sym is))

pub reverse-rest : (rows : List Row) (i : ℕ) → reverse rows ≡ reverse (drop i rows) ++ reverse (take i rows)
reverse-rest rows i = ap reverse (sym (take-append-drop i rows)) ∙ reverse-append (take i rows) (drop i rows)

pub length-before : (rows : List Row) (i : ℕ) → i < length rows → length (reverse (take i rows)) ≡ i
length-before rows i below = length-reverse (take i rows) ∙ length-take-le i rows (omega arith)

-- the first row that breaks a law, found on the way
pub broken-here : (port : Opening) (rows : List Row) (i law : ℕ) (row : Row) → i < length rows → row ≡ get_or rows i row → broken port (reverse (take i rows)) ≡ None
    → law_broken port (state port (reverse (take i rows))) row ≡ Some law → broken port (reverse rows) ≡ Some (record { row = i; law = law })
broken-here port rows i law row below is before breaks =
    let older = reverse (take i rows) in
    let at : broken port (row ∷ older) ≡ Some (record { row = i; law = law }) =
    broken-next port older row (Some law) before breaks ∙ ap (λ n. broken_at n (Some law)) (length-before rows i below) in
    let next : broken port (reverse (take (i + 1) rows)) ≡ Some (record { row = i; law = law }) = ap (broken port) (reverse-next rows i row below is) ∙ at in
    ap (broken port) (reverse-rest rows (i + 1)) ∙ broken-more port (reverse (drop (i + 1) rows)) (reverse (take (i + 1) rows)) (record { row = i; law = law }) next

-- the verdict where a row breaks a law, and where only the end may
pub verdict-of-row : (port : Opening) (history : List Row) (b : Broken) → broken port history ≡ Some b → verdict port history ≡ Some b
verdict-of-row port history b e = ap (λ o. first_broken o (broken_at (length history) (end_broken (state port history)))) e

pub verdict-of-end : (port : Opening) (rows : List Row) (law : Option ℕ) → broken port (reverse rows) ≡ None → end_broken (state port (reverse rows)) ≡ law
    → verdict port (reverse rows) ≡ broken_at (length rows) law
verdict-of-end port rows law e f =
    ap (λ o. first_broken o (broken_at (length (reverse rows)) (end_broken (state port (reverse rows))))) e
    ∙ (ap (broken_at (length (reverse rows))) f ∙ ap (λ n. broken_at n law) (length-reverse rows))

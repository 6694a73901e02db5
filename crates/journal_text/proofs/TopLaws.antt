-- What reading a text answers.
use Rattle.std.proofs.Common.{◌≡◌, ℕ, ◌-◌, ◌≤◌, true, List, length, Result, Ok, Err, refl, sym, ap, subst, ◌∙◌}
use Rattle.journal_text.specs.declared.fault.TextFault.TheVariants.{Bad}
use Rattle.journal_text.specs.Books.{BookView, is_book, journal_text, IsFirstBadLine}
use Rattle.journal_text.specs.ReadingBooks.{Lines, lines_of, book_at}
use Rattle.journal_text.specs.TextFault.{MissedText}
use Rattle.journal_text.proofs.BookLaws.{text_again, ok_is}
use Rattle.journal_text.proofs.PlaceLaws.{left_within, fault_place}

within_by : (bytes : List ℕ) (left : ℕ) (r : Result BookView Lines) → book_at (lines_of bytes) ≡ r → MissedText (Bad left) r → left ≤ length bytes
within_by bytes left (Ok book) e missed = absurd missed
within_by bytes left (Err bad) e missed = rw missed (left_within bytes bad e)

-- no more bytes are left than there are
pub bad_within : (bytes : List ℕ) (left : ℕ) → MissedText (Bad left) (book_at (lines_of bytes)) → left ≤ length bytes
bad_within bytes left missed = within_by bytes left (book_at (lines_of bytes)) refl missed

place_by : (bytes : List ℕ) (left : ℕ) (r : Result BookView Lines) → book_at (lines_of bytes) ≡ r → MissedText (Bad left) r → IsFirstBadLine 1 bytes (length bytes - left)
place_by bytes left (Ok book) e missed = absurd missed
place_by bytes left (Err bad) e missed = subst (λ (n : ℕ). IsFirstBadLine 1 bytes (length bytes - n)) (sym missed) (fault_place bytes bad e)

-- the bytes before those that are left end before the first bad line
pub bad_place : (bytes : List ℕ) (left : ℕ) → MissedText (Bad left) (book_at (lines_of bytes)) → IsFirstBadLine 1 bytes (length bytes - left)
bad_place bytes left missed = place_by bytes left (book_at (lines_of bytes)) refl missed

-- the text of a book has no bad line
pub bad_never : (bytes : List ℕ) (left : ℕ) (book : BookView) → MissedText (Bad left) (book_at (lines_of bytes)) → is_book book ≡ true → bytes ≡ journal_text 1 book → ⊥
bad_never bytes left book missed within e =
    subst (λ (r : Result BookView Lines). MissedText (Bad left) r) (ap (λ (text : List ℕ). book_at (lines_of text)) e ∙ text_again book within) missed

-- the text of a book is read as it
pub book_only : (bytes : List ℕ) (view book : BookView) → book_at (lines_of bytes) ≡ Ok view → is_book book ≡ true → bytes ≡ journal_text 1 book → view ≡ book
book_only bytes view book read within e = ok_is view book (sym read ∙ ap (λ (text : List ℕ). book_at (lines_of text)) e ∙ text_again book within)

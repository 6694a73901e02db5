-- Where a text stops being a journal: the lines before the first bad one begin a journal, and with one line more they don't.
use Rattle.std.proofs.Common.{◌≡◌, ℕ, zero, suc, ◌+◌, ◌^◌, ◌-◌, ◌≤◌, Bool, true, false, List, [], ◌∷◌, ◌++◌, length, map, Option, Some, None, Result, Ok, Err, refl, sym, ap, ◌∙◌, append_assoc, arith, inl, inr, ◌⊎◌}
use Rattle.std.specs.Prelude.{nat_le, codes, option_and_then}
use Rattle.std.specs.List.{list_all, flat_map}
use Rattle.std.specs.Str.{bytes_eq}
use Rattle.std.proofs.lemmas.Bool.{cases_Bool, le-leb}
use Rattle.std.proofs.lemmas.List.{append-nil}
use Rattle.port_model.specs.declared.row.Row.{Row}
use Rattle.journal_text.specs.declared.book.PortReport.{PortReport}
use Rattle.journal_text.specs.declared.port_line.PortLine.{PortLine}
use Rattle.journal_text.specs.Words.{is_name}
use Rattle.journal_text.specs.Rows.{row_text, is_row}
use Rattle.journal_text.specs.Ports.{port_line, port_lines, with_rows, is_port, is_report}
use Rattle.journal_text.specs.Books.{BookView, is_book, head_line, names_line, journal_lines}
use Rattle.journal_text.specs.ReadingRows.{row_of}
use Rattle.journal_text.specs.ReadingPorts.{port_line_of}
use Rattle.journal_text.specs.ReadingBooks.{Lines, ◌>>=◌, or_fault, line_at, row_then, rows_at, port_at, is_over, ports_at, names_of, head_of, book_at}
use Rattle.journal_text.proofs.ReadingLaws.{both}
use Rattle.journal_text.proofs.RowLaws.{row_found, row_again}
use Rattle.journal_text.proofs.PortLaws.{port_found, port_again}
use Rattle.journal_text.proofs.BookLaws.{is_some, line_found, line_again, FirstLine, rows_step, not_end, PortLines, port_at_found, port_at_again, names_line_found, names_line_again, head_found, head_again, few_64, bind_ok, ok_is}

-- the reader doesn't read what has these lines in front, the first bad line, and then others
pub record Rejects {A : Type 0} (read : Lines → Result A Lines) (done bad : Lines) : Type 0 where
  pub none : (line : List ℕ) (others more : Lines) (x : A) → bad ≡ line ∷ others → is_some others ≡ true → is_some more ≡ true → read (done ++ line ∷ more) ≡ Ok x → ⊥

err_is : {A : Type 0} (a b : Lines) → ◌≡◌ {A = Result A Lines} (Err a) (Err b) → a ≡ b
err_is a b e = cc

bind_err : {A B : Type 0} (r : Result A Lines) (f : A → Result B Lines) (lines : Lines) → (r >>= f) ≡ Err lines → ((x : A) × (r ≡ Ok x) × (f x ≡ Err lines)) ⊎ (r ≡ Err lines)
bind_err (Ok x) f lines h = inl (x, refl, h)
bind_err (Err e) f lines h = let same : e ≡ lines = err_is e lines h in inr (ap (λ (ls : Lines). Err ls) same)

-- ---- the first line

-- a line that isn't read
no_line : {A : Type 0} (of : List ℕ → Option A) (line : List ℕ) (more : Lines) (x : A × Lines) → of line ≡ None → line_at of (line ∷ more) ≡ Ok x → ⊥
unfolding line_at
no_line of line [] x none h = absurd cc
no_line of line (next ∷ lines) x none h = absurd (let h1 = rw none at h in cc)

-- what a reader of one line refuses
record LineStop {A : Type 0} (of : List ℕ → Option A) (lines bad : Lines) : Type 0 where
  same : lines ≡ bad
  none : (line : List ℕ) (others : Lines) → bad ≡ line ∷ others → is_some others ≡ true → of line ≡ None

no_others : (first line : List ℕ) (bad others : Lines) → first ∷ [] ≡ bad → bad ≡ line ∷ others → is_some others ≡ true → ⊥
no_others first line bad others is e some = let same : first ∷ [] ≡ line ∷ others = is ∙ e in let none : [] ≡ others = cc in absurd (let s = rw (← none) at some in cc)

line_step : {A : Type 0} (of : List ℕ → Option A) (first : List ℕ) (rest bad : Lines) (o : Option A) → of first ≡ o → or_fault {A = A × Lines} (first ∷ rest) (option_and_then (λ y. Some (y, rest)) o) ≡ Err bad → LineStop of (first ∷ rest) bad
line_step of first rest bad (Some x) is h = absurd cc
line_step of first rest bad None is h =
    let same : first ∷ rest ≡ bad = err_is (first ∷ rest) bad h in
    record { same = same; none = λ line others e some. let eq : first ∷ rest ≡ line ∷ others = same ∙ e in let l : first ≡ line = cc in ap of (sym l) ∙ is }

line_stop : {A : Type 0} (of : List ℕ → Option A) (lines bad : Lines) → line_at of lines ≡ Err bad → LineStop of lines bad
unfolding line_at
line_stop of [] bad h = let is : [] ≡ bad = err_is [] bad h in record { same = is; none = λ line others e some. absurd (let eq : [] ≡ line ∷ others = is ∙ e in cc) }
line_stop of (first ∷ []) bad h = let is : first ∷ [] ≡ bad = err_is (first ∷ []) bad h in record { same = is; none = λ line others e some. absurd (no_others first line bad others is e some) }
line_stop of (first ∷ next ∷ lines) bad h = line_step of first (next ∷ lines) bad (of first) refl h

line_rejects : {A : Type 0} (of : List ℕ → Option A) (lines bad : Lines) → LineStop of lines bad → Rejects (line_at of) [] bad
line_rejects of lines bad stop = record { none = λ line others more x e some rest r. no_line of line more x (stop.none line others e some) r }

-- ---- rows

record RowsStop (names : ℕ) (lines bad : Lines) : Type 0 where
  rows : List Row
  parts : lines ≡ map row_text rows ++ bad
  within : list_all (is_row names) rows ≡ true
  some : is_some bad ≡ true
  rejects : Rejects (rows_at names) (map row_text rows) bad

rows_bad : (names : ℕ) (line : List ℕ) (more : Lines) (x : List Row × Lines) → bytes_eq line (codes "end") ≡ false → row_of names line ≡ None → rows_at names (line ∷ more) ≡ Ok x → ⊥
unfolding rows_at
rows_bad names line [] x e none h = absurd cc
rows_bad names line (next ∷ lines) x e none h = absurd (let h1 = rw (e, none) at h in cc)

here_stop : (names : ℕ) (line : List ℕ) (rest bad : Lines) → line ∷ rest ≡ bad → (is_some rest ≡ true → (x : List Row × Lines) (more : Lines) → rows_at names (line ∷ more) ≡ Ok x → ⊥) → RowsStop names (line ∷ rest) bad
here_stop names line rest bad is none = record {
  rows = [];
  parts = is;
  within = refl;
  some = ap is_some (sym is);
  rejects = record {
    none = λ l others more x e some rest_some r.
        let eq : line ∷ rest ≡ l ∷ others = is ∙ e in
        let first : line ≡ l = cc in
        let behind : rest ≡ others = cc in
        none (ap is_some behind ∙ some) x more (ap (λ (first : List ℕ). rows_at names (first ∷ more)) first ∙ r);
  };
}

front_some : (front : Lines) (line : List ℕ) (more : Lines) → is_some (front ++ line ∷ more) ≡ true
front_some [] line more = refl
front_some (first ∷ front) line more = refl

next_stop : (names : ℕ) → names ≤ 2 ^ 64 → (line : List ℕ) (rest bad : Lines) (row : Row) → row_of names line ≡ Some row → RowsStop names rest bad → RowsStop names (line ∷ rest) bad
next_stop names le line rest bad row read m =
    let one = row_found names le line row read in
    let again = row_again names le row one.within in
    record {
      rows = row ∷ m.rows;
      parts = ap (λ (l : List ℕ). l ∷ rest) one.parts ∙ ap (λ (ls : Lines). row_text row ∷ ls) m.parts;
      within = both (is_row names row) _ one.within m.within;
      some = m.some;
      rejects = record {
        none = λ l others more x e some rest_some r.
            let step = rows_step names (row_text row) (map row_text m.rows ++ l ∷ more) row (front_some (map row_text m.rows) l more) (not_end names (row_text row) row again) again in
            let b = bind_ok (rows_at names (map row_text m.rows ++ l ∷ more)) (λ y. Ok (row ∷ y.0, y.1)) x (sym step ∙ r) in
            m.rejects.none l others more b.0 e some rest_some b.1;
      };
    }

rows_stop_step : (names : ℕ) → names ≤ 2 ^ 64 → (line : List ℕ) (rest bad : Lines) (o : Option Row) → row_of names line ≡ o → bytes_eq line (codes "end") ≡ false → row_then (line ∷ rest) o (rows_at names rest) ≡ Err bad
    → (rows_at names rest ≡ Err bad → RowsStop names rest bad) → RowsStop names (line ∷ rest) bad
rows_stop_step names le line rest bad None is e h others = here_stop names line rest bad (err_is (line ∷ rest) bad h) (λ some x more r. rows_bad names line more x e is r)
rows_stop_step names le line rest bad (Some row) is e h others =
    elim (bind_err (rows_at names rest) (λ x. Ok (row ∷ x.0, x.1)) bad h) [
      | inl ok ↦ absurd (let no = ok.2 in cc)
      | inr err ↦ next_stop names le line rest bad row is (others err)
    ]

rows_stop : (names : ℕ) → names ≤ 2 ^ 64 → (lines bad : Lines) → is_some lines ≡ true → rows_at names lines ≡ Err bad → RowsStop names lines bad
unfolding rows_at
rows_stop names le [] bad some h = absurd cc
rows_stop names le (line ∷ []) bad some h = here_stop names line [] bad (err_is (line ∷ []) bad h) (λ some x more r. absurd cc)
rows_stop names le (line ∷ next ∷ lines) bad some h =
    elim (cases_Bool (bytes_eq line (codes "end"))) [
      | inl e ↦ absurd (let h1 = rw e at h in cc)
      | inr e ↦ rows_stop_step names le line (next ∷ lines) bad (row_of names line) refl e (rw e at h) (λ err. rows_stop names le (next ∷ lines) bad refl err)
    ]

-- ---- ports

record PortStop (names : ℕ) (lines bad : Lines) : Type 0 where
  done : Lines
  more : Lines
  ports : List PortReport
  parts : lines ≡ done ++ bad
  whole : flat_map port_lines ports ≡ done ++ more
  within : list_all (is_report names) ports ≡ true
  few : length ports ≤ 1
  some : is_some bad ≡ true
  rejects : Rejects (port_at names) done bad

port_line_stop : (names : ℕ) (lines bad : Lines) → is_some lines ≡ true → LineStop (port_line_of names) lines bad → PortStop names lines bad
unfolding port_at
port_line_stop names lines bad some stop = record {
  done = [];
  more = [];
  ports = [];
  parts = stop.same;
  whole = refl;
  within = refl;
  few = omega arith;
  some = ap is_some (sym stop.same) ∙ some;
  rejects = record {
    none = λ line others more x e some rest r.
        let a = bind_ok (line_at (port_line_of names) (line ∷ more)) (λ line. rows_at names line.1 >>= λ rows. Ok (with_rows line.0 rows.0, rows.1)) x r in
        (line_rejects (port_line_of names) lines bad stop).none line others more a.0 e some rest a.1;
  };
}

port_rows_stop : (names : ℕ) → names ≤ 2 ^ 64 → (lines rest bad : Lines) (port : PortLine) → FirstLine (port_line_of names) port lines rest → RowsStop names rest bad → PortStop names lines bad
unfolding port_at
port_rows_stop names le lines rest bad port first m =
    let one = port_found names le first.line port first.read in
    record {
      done = port_line port ∷ map row_text m.rows;
      more = codes "end" ∷ [];
      ports = with_rows port m.rows ∷ [];
      parts = first.parts ∙ ap (λ (l : List ℕ). l ∷ rest) one.parts ∙ ap (λ (ls : Lines). port_line port ∷ ls) m.parts;
      whole = append-nil (port_lines (with_rows port m.rows));
      within = both (is_report names (with_rows port m.rows)) true (both (is_port names port) _ one.within m.within) refl;
      few = omega arith;
      some = m.some;
      rejects = record {
        none = λ line others more x e some rest_some r.
            let tail : Lines = map row_text m.rows ++ line ∷ more in
            let a = bind_ok (line_at (port_line_of names) (port_line port ∷ tail)) (λ line. rows_at names line.1 >>= λ rows. Ok (with_rows line.0 rows.0, rows.1)) x r in
            let again = line_again (port_line_of names) (port_line port) port tail (front_some (map row_text m.rows) line more) (port_again names le port one.within) in
            let same : a.0 ≡ (port, tail) = ok_is a.0 (port, tail) (sym a.1 ∙ again) in
            let b = bind_ok (rows_at names a.0.1) (λ rows. Ok (with_rows a.0.0 rows.0, rows.1)) x a.2 in
            m.rejects.none line others more b.0 e some rest_some (ap (λ (p : PortLine × Lines). rows_at names p.1) (sym same) ∙ b.1);
      };
    }

port_stop : (names : ℕ) → names ≤ 2 ^ 64 → (lines bad : Lines) → is_some lines ≡ true → port_at names lines ≡ Err bad → PortStop names lines bad
unfolding port_at
port_stop names le lines bad some h =
    elim (bind_err (line_at (port_line_of names) lines) (λ line. rows_at names line.1 >>= λ rows. Ok (with_rows line.0 rows.0, rows.1)) bad h) [
      | inl ok ↦
          let first = line_found (port_line_of names) lines ok.0.0 ok.0.1 ok.1 in
          elim (bind_err (rows_at names ok.0.1) (λ rows. Ok (with_rows ok.0.0 rows.0, rows.1)) bad ok.2) [
            | inl both_ok ↦ absurd (let no = both_ok.2 in cc)
            | inr err ↦ port_rows_stop names le lines ok.0.1 bad ok.0.0 first (rows_stop names le ok.0.1 bad first.some err)
          ]
      | inr err ↦ port_line_stop names lines bad some (line_stop (port_line_of names) lines bad err)
    ]

record PortsStop (n names : ℕ) (lines bad : Lines) : Type 0 where
  done : Lines
  more : Lines
  ports : List PortReport
  parts : lines ≡ done ++ bad
  whole : flat_map port_lines ports ≡ done ++ more
  within : list_all (is_report names) ports ≡ true
  few : length ports ≤ n
  some : is_some bad ≡ true
  rejects : Rejects (ports_at n names) done bad

-- where a line stands before others, the text isn't over
not_over : (front : Lines) (line : List ℕ) (more : Lines) → is_some more ≡ true → is_over (front ++ line ∷ more) ≡ false
not_over [] [] [] some = absurd cc
not_over [] [] (next ∷ lines) some = refl
not_over [] (byte ∷ bytes) more some = refl
not_over ([] ∷ []) line more some = refl
not_over ([] ∷ next ∷ front) line more some = refl
not_over ((byte ∷ bytes) ∷ front) line more some = refl

ports_stop_next : (n names : ℕ) → names ≤ 2 ^ 64 → (lines rest bad : Lines) (port : PortReport) → PortLines names port lines rest → PortsStop n names rest bad → PortsStop (suc n) names lines bad
unfolding ports_at
ports_stop_next n names le lines rest bad port one m =
    record {
      done = port_lines port ++ m.done;
      more = m.more;
      ports = port ∷ m.ports;
      parts = one.parts ∙ ap (λ (ls : Lines). port_lines port ++ ls) m.parts ∙ sym (append_assoc (port_lines port) m.done bad);
      whole = ap (λ (ls : Lines). port_lines port ++ ls) m.whole ∙ sym (append_assoc (port_lines port) m.done m.more);
      within = both (is_report names port) _ one.within m.within;
      few = omega (arith, m.few);
      some = m.some;
      rejects = record {
        none = λ line others more x e some rest_some r.
            let tail : Lines = m.done ++ line ∷ more in
            let is : (port_lines port ++ m.done) ++ line ∷ more ≡ port_lines port ++ tail = append_assoc (port_lines port) m.done (line ∷ more) in
            let no = not_over (port_lines port ++ m.done) line more rest_some in
            let a = bind_ok (port_at names ((port_lines port ++ m.done) ++ line ∷ more)) (λ first. ports_at n names first.1 >>= λ others. Ok (first.0 ∷ others)) x (rw no at r) in
            let again = port_at_again names le port tail one.within (front_some m.done line more) in
            let same : a.0 ≡ (port, tail) = ok_is a.0 (port, tail) (sym a.1 ∙ ap (port_at names) is ∙ again) in
            let b = bind_ok (ports_at n names a.0.1) (λ others. Ok (a.0.0 ∷ others)) x a.2 in
            m.rejects.none line others more b.0 e some rest_some (ap (λ (p : PortReport × Lines). ports_at n names p.1) (sym same) ∙ b.1);
      };
    }

ports_stop : (n names : ℕ) → names ≤ 2 ^ 64 → (lines bad : Lines) → is_some lines ≡ true → ports_at n names lines ≡ Err bad → PortsStop n names lines bad
unfolding ports_at
ports_stop zero names le lines bad some h =
    elim (cases_Bool (is_over lines)) [
      | inl over ↦ absurd (let h1 = rw over at h in cc)
      | inr over ↦
          let is : lines ≡ bad = err_is lines bad (rw over at h) in
          record {
            done = [];
            more = [];
            ports = [];
            parts = is;
            whole = refl;
            within = refl;
            few = omega arith;
            some = ap is_some (sym is) ∙ some;
            rejects = record { none = λ line others more x e some rest r. absurd (let no = not_over [] line more rest in let r1 = rw no at r in cc) };
          }
    ]
ports_stop (suc n) names le lines bad some h =
    elim (cases_Bool (is_over lines)) [
      | inl over ↦ absurd (let h1 = rw over at h in cc)
      | inr over ↦
          elim (bind_err (port_at names lines) (λ first. ports_at n names first.1 >>= λ others. Ok (first.0 ∷ others)) bad (rw over at h)) [
            | inr err ↦
                let m = port_stop names le lines bad some err in
                record {
                  done = m.done;
                  more = m.more;
                  ports = m.ports;
                  parts = m.parts;
                  whole = m.whole;
                  within = m.within;
                  few = omega (arith, m.few);
                  some = m.some;
                  rejects = record {
                    none = λ line others more x e some rest r.
                        let no = not_over m.done line more rest in
                        let a = bind_ok (port_at names (m.done ++ line ∷ more)) (λ first. ports_at n names first.1 >>= λ others. Ok (first.0 ∷ others)) x (rw no at r) in
                        m.rejects.none line others more a.0 e some rest a.1;
                  };
                }
            | inl ok ↦
                let one = port_at_found names le lines ok.0.0 ok.0.1 ok.1 in
                elim (bind_err (ports_at n names ok.0.1) (λ others. Ok (ok.0.0 ∷ others)) bad ok.2) [
                  | inl both_ok ↦ absurd (let no = both_ok.2 in cc)
                  | inr err ↦ ports_stop_next n names le lines ok.0.1 bad ok.0.0 one (ports_stop n names le ok.0.1 bad one.some err)
                ]
          ]
    ]

-- ---- books

pub record BookStop (lines bad : Lines) : Type 0 where
  pub done : Lines
  pub more : Lines
  pub book : BookView
  pub parts : lines ≡ done ++ bad
  pub whole : journal_lines 1 book ≡ done ++ more
  pub within : is_book book ≡ true
  pub some : is_some bad ≡ true
  pub rejects : Rejects book_at done bad

abbrev no_book : BookView
no_book = record { names = []; ports = [] }

abbrev after_head : Bool × Lines → Result BookView Lines
after_head head = line_at names_of head.1 >>= λ names. (ports_at 32 (length names.0) names.1 >>= λ ports. Ok (record { names = names.0; ports = ports }))

abbrev after_names : Lines × Lines → Result BookView Lines
after_names names = ports_at 32 (length names.0) names.1 >>= λ ports. Ok (record { names = names.0; ports = ports })

head_stop : (lines bad : Lines) → is_some lines ≡ true → LineStop head_of lines bad → BookStop lines bad
unfolding book_at
head_stop lines bad some stop = record {
  done = [];
  more = journal_lines 1 no_book;
  book = no_book;
  parts = stop.same;
  whole = refl;
  within = refl;
  some = ap is_some (sym stop.same) ∙ some;
  rejects = record {
    none = λ line others more x e some rest r.
        let a = bind_ok (line_at head_of (line ∷ more)) after_head x r in
        (line_rejects head_of lines bad stop).none line others more a.0 e some rest a.1;
  };
}

names_stop : (lines rest bad : Lines) (head : Bool) → FirstLine head_of head lines rest → LineStop names_of rest bad → BookStop lines bad
unfolding book_at
names_stop lines rest bad head first stop = record {
  done = head_line 1 ∷ [];
  more = names_line [] ∷ [];
  book = no_book;
  parts = first.parts ∙ ap (λ (l : List ℕ). l ∷ rest) (head_found first.line head first.read) ∙ ap (λ (ls : Lines). head_line 1 ∷ ls) stop.same;
  whole = refl;
  within = refl;
  some = ap is_some (sym stop.same) ∙ first.some;
  rejects = record {
    none = λ line others more x e some rest_some r.
        let a = bind_ok (line_at head_of (head_line 1 ∷ line ∷ more)) after_head x r in
        let again = line_again head_of (head_line 1) true (line ∷ more) refl head_again in
        let same : a.0 ≡ (true, line ∷ more) = ok_is a.0 (true, line ∷ more) (sym a.1 ∙ again) in
        let b = bind_ok (line_at names_of a.0.1) after_names x a.2 in
        (line_rejects names_of rest bad stop).none line others more b.0 e some rest_some (ap (λ (p : Bool × Lines). line_at names_of p.1) (sym same) ∙ b.1);
  };
}

book_ports_stop : (lines behind rest bad : Lines) (head : Bool) (names : Lines) → FirstLine head_of head lines behind → FirstLine names_of names behind rest → PortsStop 32 (length names) rest bad → BookStop lines bad
unfolding book_at
book_ports_stop lines behind rest bad head names first second m =
    let n = names_line_found second.line names second.read in
    record {
      done = head_line 1 ∷ names_line names ∷ m.done;
      more = m.more;
      book = record { names = names; ports = m.ports };
      parts = first.parts ∙ ap (λ (l : List ℕ). l ∷ behind) (head_found first.line head first.read)
          ∙ ap (λ (ls : Lines). head_line 1 ∷ ls) (second.parts ∙ ap (λ (l : List ℕ). l ∷ rest) n.parts ∙ ap (λ (ls : Lines). names_line names ∷ ls) m.parts);
      whole = ap (λ (ls : Lines). head_line 1 ∷ names_line names ∷ ls) m.whole;
      within = both (nat_le (length names) 32) _ (le-leb (length names) 32 n.few) (both (list_all is_name names) _ n.within (both (nat_le (length m.ports) 32) _ (le-leb (length m.ports) 32 m.few) m.within));
      some = m.some;
      rejects = record {
        none = λ line others more x e some rest_some r.
            let tail : Lines = m.done ++ line ∷ more in
            let a = bind_ok (line_at head_of (head_line 1 ∷ names_line names ∷ tail)) after_head x r in
            let again = line_again head_of (head_line 1) true (names_line names ∷ tail) refl head_again in
            let same : a.0 ≡ (true, names_line names ∷ tail) = ok_is a.0 (true, names_line names ∷ tail) (sym a.1 ∙ again) in
            let b = bind_ok (line_at names_of a.0.1) after_names x a.2 in
            let again_names = line_again names_of (names_line names) names tail (front_some m.done line more) (names_line_again names n.within n.few) in
            let same_names : b.0 ≡ (names, tail) = ok_is b.0 (names, tail) (sym b.1 ∙ ap (λ (p : Bool × Lines). line_at names_of p.1) same ∙ again_names) in
            let c = bind_ok (ports_at 32 (length b.0.0) b.0.1) (λ ports. Ok (record { names = b.0.0; ports = ports })) x b.2 in
            m.rejects.none line others more c.0 e some rest_some (ap (λ (p : Lines × Lines). ports_at 32 (length p.0) p.1) (sym same_names) ∙ c.1);
      };
    }

pub book_stop : (lines bad : Lines) → is_some lines ≡ true → book_at lines ≡ Err bad → BookStop lines bad
unfolding book_at
book_stop lines bad some h =
    elim (bind_err (line_at head_of lines) after_head bad h) [
      | inr err ↦ head_stop lines bad some (line_stop head_of lines bad err)
      | inl ok ↦
          let first = line_found head_of lines ok.0.0 ok.0.1 ok.1 in
          elim (bind_err (line_at names_of ok.0.1) after_names bad ok.2) [
            | inr err ↦ names_stop lines ok.0.1 bad ok.0.0 first (line_stop names_of ok.0.1 bad err)
            | inl both_ok ↦
                let second = line_found names_of ok.0.1 both_ok.0.0 both_ok.0.1 both_ok.1 in
                let n = names_line_found second.line both_ok.0.0 second.read in
                elim (bind_err (ports_at 32 (length both_ok.0.0) both_ok.0.1) (λ ports. Ok (record { names = both_ok.0.0; ports = ports })) bad both_ok.2) [
                  | inl all_ok ↦ absurd (let no = all_ok.2 in cc)
                  | inr err ↦ book_ports_stop lines ok.0.1 both_ok.0.1 bad ok.0.0 both_ok.0.0 first second (ports_stop 32 (length both_ok.0.0) (few_64 (length both_ok.0.0) n.few) both_ok.0.1 bad second.some err)
                ]
          ]
    ]

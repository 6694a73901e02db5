-- The text of a journal, piece by piece as it is printed.
use Rattle.std.proofs.Common.{◌≡◌, ℕ, true, false, List, [], ◌∷◌, ◌++◌, map, refl, sym, ap, ◌∙◌, append_assoc, arith}
use Rattle.std.specs.Prelude.{codes}
use Rattle.std.specs.List.{flat_map}
use Rattle.std.specs.Fmt.{decimal}
use Rattle.std.proofs.lemmas.Fmt.{decimal_digit}
use Rattle.std.proofs.lemmas.Grind.{flat_map-append}
use Rattle.std.proofs.lemmas.List.{append-nil}
use Rattle.port_model.specs.declared.row.Row.{Row}
use Rattle.journal_text.specs.declared.book.PortReport.{PortReport}
use Rattle.journal_text.specs.Words.{spaced, bytes_text}
use Rattle.port_config.specs.declared.config.Config.{Config}
use Rattle.journal_text.specs.Rows.{row_text}
use Rattle.journal_text.specs.Ports.{is_spawn, msgq_text, mode_text, eof_text, status_text, program_text, port_line, port_lines, line_of}
use Rattle.journal_text.specs.Books.{BookView, ended, head_line, names_line, journal_text}

-- the words of a port's line before what is said of a program
abbrev pub head_words : PortReport → List ℕ
head_words port = spaced (codes "port" ∷ port.name ∷ decimal port.owner ∷ port.driver ∷ msgq_text port.config.msgq_on port.config.msgq_low port.config.msgq_high ∷ [])

pub without_program : (port : PortReport) → is_spawn port.driver ≡ false → port_line (line_of port) ≡ head_words port
without_program port e = rw e refl

five_words : (a b c d e : List ℕ) → a ++ 32 ∷ (b ++ 32 ∷ (c ++ 32 ∷ (d ++ 32 ∷ e))) ≡ (a ++ 32 ∷ (b ++ 32 ∷ (c ++ 32 ∷ d))) ++ 32 ∷ e
five_words a b c d e = simp append_assoc

pub with_program : (port : PortReport) → is_spawn port.driver ≡ true → port_line (line_of port) ≡ head_words port ++ 32 ∷ program_text port.config port.events
with_program port e = rw e (ap (λ (xs : List ℕ). codes "port" ++ 32 ∷ xs) (five_words port.name (decimal port.owner) port.driver (msgq_text port.config.msgq_on port.config.msgq_low port.config.msgq_high) (program_text port.config port.events)))

-- the options of a program, and then its limits and events
pub program_is : (config : Config) (events : ℕ × ℕ) → program_text config events
    ≡ spaced (codes "run" ∷ bytes_text config.run ∷ mode_text config.mode ∷ eof_text config.eof ∷ status_text config.exit_status ∷ [])
    ++ 32 ∷ spaced (codes "busy" ∷ decimal config.busy_low ∷ decimal config.busy_high ∷ codes "events" ∷ decimal events.0 ∷ decimal events.1 ∷ [])
program_is config events =
    let tail : List ℕ = spaced (codes "busy" ∷ decimal config.busy_low ∷ decimal config.busy_high ∷ codes "events" ∷ decimal events.0 ∷ decimal events.1 ∷ []) in
    ap (λ (xs : List ℕ). codes "run" ++ 32 ∷ xs) (five_words (bytes_text config.run) (mode_text config.mode) (eof_text config.eof) (status_text config.exit_status) tail)

rows_are : (rows : List Row) → flat_map ended (map row_text rows) ≡ flat_map (λ row. ended (row_text row)) rows
rows_are [] = refl
rows_are (row ∷ rows) = ap (λ (xs : List ℕ). ended (row_text row) ++ xs) (rows_are rows)

pub port_lines_are : (port : PortReport) → flat_map ended (port_lines port) ≡ port_line (line_of port) ++ 10 ∷ (flat_map (λ row. ended (row_text row)) port.journal.rows ++ codes "end\n")
port_lines_are port =
    let rows = port.journal.rows in
    let parts : flat_map ended (map row_text port.journal.rows ++ codes "end" ∷ []) ≡ flat_map (λ row. ended (row_text row)) port.journal.rows ++ codes "end\n" =
    flat_map-append ended (map row_text port.journal.rows) (codes "end" ∷ []) ∙ ap (λ (xs : List ℕ). xs ++ codes "end\n") (rows_are port.journal.rows) in
    append_assoc (port_line (line_of port)) (10 ∷ []) _ ∙ ap (λ (xs : List ℕ). port_line (line_of port) ++ 10 ∷ xs) parts

ports_are : (ports : List PortReport) → flat_map ended (flat_map port_lines ports) ≡ flat_map (λ port. flat_map ended (port_lines port)) ports
ports_are [] = refl
ports_are (port ∷ ports) = flat_map-append ended (port_lines port) (flat_map port_lines ports) ∙ ap (λ (xs : List ℕ). flat_map ended (port_lines port) ++ xs) (ports_are ports)

names_are : (word : List ℕ) (names : List (List ℕ)) → spaced (word ∷ names) ≡ word ++ flat_map (λ name. 32 ∷ name) names
names_are word [] = sym (append-nil word)
names_are word (name ∷ names) = ap (λ (xs : List ℕ). word ++ 32 ∷ xs) (names_are name names)

pub text_is : (book : BookView) → journal_text 1 book ≡ codes "journal 1\nprocesses" ++ (flat_map (λ name. 32 ∷ name) book.names ++ 10 ∷ flat_map (λ port. flat_map ended (port_lines port)) book.ports)
unfolding journal_text
text_is book =
    let head : head_line 1 ≡ codes "journal 1" = rw (decimal_digit 1 (omega arith)) refl in
    let names : List ℕ = flat_map (λ name. 32 ∷ name) book.names in
    let ports : List ℕ = flat_map (λ port. flat_map ended (port_lines port)) book.ports in
    ap (λ (h : List ℕ). ended h ++ (ended (names_line book.names) ++ flat_map ended (flat_map port_lines book.ports))) head
    ∙ ap (λ (n : List ℕ). ended (codes "journal 1") ++ (ended n ++ flat_map ended (flat_map port_lines book.ports))) (names_are (codes "processes") book.names)
    ∙ ap (λ (p : List ℕ). ended (codes "journal 1") ++ (ended (codes "processes" ++ names) ++ p)) (ports_are book.ports)
    ∙ ap (λ (xs : List ℕ). codes "journal 1\nprocesses" ++ xs) (append_assoc names (10 ∷ []) ports)

-- the lines of a port, as they are put one after the other
pub port_from : (port : PortReport) (old line ended_line new : List ℕ) → line ≡ old ++ port_line (line_of port) → ended_line ≡ line ++ 10 ∷ [] → new ≡ ended_line ++ (flat_map (λ row. ended (row_text row)) port.journal.rows ++ codes "end\n")
    → new ≡ old ++ flat_map ended (port_lines port)
port_from port old line ended_line new first second third =
    let l : List ℕ = port_line (line_of port) in
    let rest : List ℕ = flat_map (λ row. ended (row_text row)) port.journal.rows ++ codes "end\n" in
    third ∙ ap (λ (xs : List ℕ). xs ++ rest) (second ∙ ap (λ (xs : List ℕ). xs ++ 10 ∷ []) first)
    ∙ append_assoc (old ++ l) (10 ∷ []) rest ∙ append_assoc old l (10 ∷ rest) ∙ ap (λ (xs : List ℕ). old ++ xs) (sym (port_lines_are port))

-- the text of a book, put into an empty one
pub text_from : (book : BookView) (old new : List ℕ) (names : List (List ℕ)) (ports : List PortReport) → old ≡ [] → names ≡ book.names → ports ≡ book.ports
    → new ≡ old ++ (codes "journal 1\nprocesses" ++ (flat_map (λ name. 32 ∷ name) names ++ 10 ∷ flat_map (λ port. flat_map ended (port_lines port)) ports)) → new ≡ journal_text 1 book
text_from book old new names ports empty n p e =
    e ∙ ap (λ (xs : List ℕ). xs ++ (codes "journal 1\nprocesses" ++ (flat_map (λ name. 32 ∷ name) names ++ 10 ∷ flat_map (λ port. flat_map ended (port_lines port)) ports))) empty
    ∙ ap (λ (ns : List (List ℕ)). codes "journal 1\nprocesses" ++ (flat_map (λ name. 32 ∷ name) ns ++ 10 ∷ flat_map (λ port. flat_map ended (port_lines port)) ports)) n
    ∙ ap (λ (ps : List PortReport). codes "journal 1\nprocesses" ++ (flat_map (λ name. 32 ∷ name) book.names ++ 10 ∷ flat_map (λ port. flat_map ended (port_lines port)) ps)) p
    ∙ sym (text_is book)

-- names and ports, as they are put one after the other
pub book_from : (names : List (List ℕ)) (ports : List PortReport) (old head named ended_names new : List ℕ) → head ≡ old ++ codes "journal 1\nprocesses" → named ≡ head ++ flat_map (λ name. 32 ∷ name) names → ended_names ≡ named ++ 10 ∷ []
    → new ≡ ended_names ++ flat_map (λ port. flat_map ended (port_lines port)) ports → new ≡ old ++ (codes "journal 1\nprocesses" ++ (flat_map (λ name. 32 ∷ name) names ++ 10 ∷ flat_map (λ port. flat_map ended (port_lines port)) ports))
book_from names ports old head named ended_names new first second third fourth =
    let h : List ℕ = codes "journal 1\nprocesses" in
    let n : List ℕ = flat_map (λ name. 32 ∷ name) names in
    let p : List ℕ = flat_map (λ port. flat_map ended (port_lines port)) ports in
    fourth ∙ ap (λ (xs : List ℕ). xs ++ p) (third ∙ ap (λ (xs : List ℕ). xs ++ 10 ∷ []) (second ∙ ap (λ (xs : List ℕ). xs ++ n) first))
    ∙ append_assoc ((old ++ h) ++ n) (10 ∷ []) p ∙ append_assoc (old ++ h) n (10 ∷ p) ∙ append_assoc old h (n ++ 10 ∷ p)

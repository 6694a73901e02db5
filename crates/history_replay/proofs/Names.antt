-- The kinds of driver by their names.
use Rattle.std.proofs.Common.{◌≡◌, ℕ, List, [], ◌∷◌, Bool, true, false, ◌||◌, Option, Some, None, refl, sym, ap, ◌∙◌}
use Rattle.std.specs.Prelude.{if◌then◌else◌}
use Rattle.std.specs.Str.{bytes_eq}
use Rattle.std.specs.List.{list_all}
use Rattle.std.proofs.lemmas.Bool.{and_parts}
use Rattle.std.proofs.lemmas.Slice.Eq.{bytes_eq-Decides}
use Rattle.driver_model.specs.Calls.{Kind, Echo, Tally, Valve, Store, Digest, Spawn, Refuse1, Refuse2, Refuse3}
use Rattle.driver_model.specs.Drivers.{kind_name}
use Rattle.history_driver.specs.declared.kind.DriverKind.TheVariants as named
use Rattle.history_driver.specs.Kinds.{IsNoName}
use Rattle.journal_text.specs.Ports.{is_driver, is_port, is_report, line_of}
use Rattle.journal_text.specs.Rows.{is_row}
use Rattle.journal_text.specs.declared.book.PortReport.{PortReport}

-- the first of these kinds that has the name
abbrev first_named : List ℕ → List Kind → Option Kind
first_named name [] = None
first_named name (kind ∷ kinds) = if bytes_eq (kind_name kind) name then Some kind else first_named name kinds

abbrev kinds : List Kind
kinds = Echo ∷ Tally ∷ Valve false ∷ Valve true ∷ Store ∷ Digest ∷ Spawn ∷ Refuse1 ∷ Refuse2 ∷ Refuse3 ∷ []

kind-named : (kind : Kind) → first_named (kind_name kind) kinds ≡ Some kind
kind-named Echo = refl
kind-named Tally = refl
kind-named (Valve false) = refl
kind-named (Valve true) = refl
kind-named Store = refl
kind-named Digest = refl
kind-named Spawn = refl
kind-named Refuse1 = refl
kind-named Refuse2 = refl
kind-named Refuse3 = refl

-- no two kinds have one name
pub one-kind : (kind other : Kind) → kind_name kind ≡ kind_name other → kind ≡ other
one-kind kind other e =
    let same : Some kind ≡ Some other = sym (kind-named kind) ∙ (ap (λ name. first_named name kinds) e ∙ kind-named other) in cc

not-this : (b rest : Bool) → (b ≡ true → ⊥) → (b || rest) ≡ true → rest ≡ true
not-this true rest never e = absurd (never refl)
not-this false rest never e = e

not-named : (name word : List ℕ) (rest : Bool) → (word ≡ name → ⊥) → (bytes_eq name word || rest) ≡ true → rest ≡ true
not-named name word rest never e = not-this (bytes_eq name word) rest (λ is. never (sym ((bytes_eq-Decides name word).0 is))) e

-- a driver that may have a history has a name
pub no-driver : (name : List ℕ) → IsNoName name → is_driver name ≡ true → ⊥
no-driver name never e =
    let echo = not-named name _ _ (never named.Echo) e in
    let tally = not-named name _ _ (never named.Tally) echo in
    let valve = not-named name _ _ (never named.Valve) tally in
    let soft = not-named name _ _ (never named.SoftValve) valve in
    let store = not-named name _ _ (never named.Store) soft in
    let digest = not-named name _ _ (never named.Digest) store in
    let spawn = not-named name _ _ (never named.Spawn) digest in cc

-- a report names a driver that may have a history
pub driver-of : (names : ℕ) (report : PortReport) → is_report names report ≡ true → is_driver report.driver ≡ true
driver-of names report e =
    let line = (and_parts (is_port names (line_of report)) (list_all (is_row names) report.journal.rows) e).0 in
    let owned = and_parts _ _ line in
    let driven = and_parts _ _ owned.1 in (and_parts (is_driver report.driver) _ driven.1).0

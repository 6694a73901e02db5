-- That a journal is told to be legal just where its histories keep the laws and are finished.
use Rattle.std.proofs.Common.{◌≡◌, ℕ, ◌+◌, List, [], ◌∷◌, Option, None, Some, sym, ap, ◌∙◌}
use Rattle.port_history.specs.Lawful.{verdict, VerdictIsWhole, VerdictIsRight}
use Rattle.journal_text.specs.declared.book.PortReport.{PortReport}
use Rattle.history_replay.specs.declared.port.BrokenLaw.{BrokenLaw}
use Rattle.history_replay.specs.declared.replaying.Verdict.{Verdict}
use Rattle.history_replay.specs.declared.replaying.Verdict.TheVariants.{Legal}
use Rattle.history_replay.specs.Laws.{IsLegal, AreLegal, LegalIsWhole, LegalIsRight}
use Rattle.history_replay.specs.Verdicts.{opening_of, history_of, broken_of, IsVerdict, Replays, TellsOf}
use Rattle.history_replay.proofs.Names.{one-kind}

whole-first : VerdictIsWhole → (number processes : ℕ) (report : PortReport) (rest : List PortReport) (broken : Option BrokenLaw)
    → (Replays (number + 1) processes rest Legal → AreLegal (number + 1) processes rest)
    → IsVerdict number processes report broken → TellsOf number broken (Replays (number + 1) processes rest Legal) Legal → AreLegal number processes (report ∷ rest)
whole-first whole number processes report rest None further is more =
    let keeps = whole (opening_of number processes is.0 report) (history_of report) (sym is.2) in
    (record { kind = is.0; is_named = is.1; keeps = keeps.0; ends = keeps.1 }, further more)
whole-first whole number processes report rest (Some broken) further is more = absurd cc

pub legal-whole : VerdictIsWhole → LegalIsWhole
legal-whole whole number processes [] told = tt
legal-whole whole number processes (report ∷ rest) told =
    whole-first whole number processes report rest told.0 (legal-whole whole (number + 1) processes rest) told.1 told.2

right-first : VerdictIsRight → (number processes : ℕ) (report : PortReport) (rest : List PortReport) (told : Verdict) (broken : Option BrokenLaw)
    → (Replays (number + 1) processes rest told → told ≡ Legal) → IsLegal number processes report
    → IsVerdict number processes report broken → TellsOf number broken (Replays (number + 1) processes rest told) told → told ≡ Legal
right-first right number processes report rest told None further legal is more = further more
right-first right number processes report rest told (Some broken) further legal is more =
    let same = one-kind is.0 legal.kind (is.1 ∙ sym legal.is_named) in
    let none : verdict (opening_of number processes is.0 report) (history_of report) ≡ None =
    ap (λ kind. verdict (opening_of number processes kind report) (history_of report)) same
    ∙ right (opening_of number processes legal.kind report) (history_of report) legal.keeps legal.ends in
    let never : broken_of (Some broken) ≡ None = is.2 ∙ none in absurd cc

pub legal-right : VerdictIsRight → LegalIsRight
legal-right right number processes [] told legal e = e
legal-right right number processes (report ∷ rest) told legal e =
    right-first right number processes report rest told e.0 (legal-right right (number + 1) processes rest told legal.1) legal.0 e.1 e.2

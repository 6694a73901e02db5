-- The mail of a process: what is saved of a port's data is what came from that port.
use Rattle.std.proofs.Common.{◌≡◌, ℕ, not, Bool, true, false, cond, List, [], ◌∷◌, ◌++◌, Option, Some, None, refl, sym, ap, ◌∙◌, subst}
use Rattle.std.specs.Prelude.{map, filter}
use Rattle.std.specs.List.{AllByRecursion}
use Rattle.std.proofs.lemmas.Bool.{eq-eqb}
use Rattle.run_output.specs.script_run.run_opening.driver_model.port_signal.Links.{has}
use Rattle.echoed_history.specs.port_history.port_model.declared.mail.Mail.{Mail}
use Rattle.echoed_history.specs.port_history.port_model.declared.mail.Mail.TheVariants as mail
use Rattle.echoed_history.specs.port_history.port_model.declared.row.Row.{Row}
use Rattle.echoed_history.specs.port_history.port_model.declared.row.Row.TheVariants.{Handled, Late, Resumed}
use Rattle.echoed_history.specs.port_history.port_model.declared.signal.Sender.TheVariants.{Process}
use Rattle.echoed_history.specs.port_history.port_model.declared.signal.Signal.{Signal}
use Rattle.echoed_history.specs.port_history.port_model.declared.signal.Signal.TheVariants.{Link, Monitor}
use Rattle.echoed_history.specs.port_history.Counts.{saved_mail, saved_of}
use Rattle.echoed_history.specs.port_history.Mail.{row_mail, mail_for, mails}
use Rattle.echoed_history.specs.port_history.Opening.{Opening, taken_of}
use Rattle.echoed_history.specs.port_history.State.{State, state}
use Rattle.process_end.specs.process_receipts.Asks.{Asked}
use Rattle.process_end.specs.process_receipts.declared.receipt.Receipt.{Receipt}
use Rattle.run_output.specs.script_run.run_opening.run_end.process_job.Mails.{Came, mail_from, is_source, resumes, readable, is_closed, noproc_mail, own_mails}
use Rattle.run_output.specs.script_run.run_opening.run_end.Merge.{IsFromPort}
use Rattle.echoed_history.proofs.Lists.{both}
use Rattle.echoed_history.proofs.Unsaved.{AreNotFor, SendNothing, effects-other, handled-other, late-other, mail-for-other}

row-other : (number : ℕ) (port : Opening) (s : State) (row : Row) → (port.number ≡ number → ⊥) → SendNothing number (row_mail port s row)
row-other number port s (Handled from seq task outside effects) apart = handled-other number port s (taken_of from seq task outside effects) (effects-other number port.number s.ties.owner effects apart)
row-other number port s (Late (Process process) seq task) apart = late-other number port.number process seq task.signal
row-other number port s (Resumed (Process process) seq word) apart = (refl, tt)
row-other number port s row apart = tt

-- what a port sends is no data of another port
pub mails-other : (number : ℕ) (port : Opening) (process : ℕ) (history : List Row) → (port.number ≡ number → ⊥) → AreNotFor number (mails port process history)
mails-other number port process [] apart = tt
mails-other number port process (row ∷ older) apart = more (has process (state port (row ∷ older)).ties.ended) (mails-other number port process older apart)
  where
    more : (b : Bool) → AreNotFor number (mails port process older)
        → AreNotFor number (cond b (mails port process older) (mails port process older ++ mail_for process (row_mail port (state port older) row)))
    more true before = before
    more false before =
        both _ (mails port process older) (mail_for process (row_mail port (state port older) row)) before (mail-for-other number process (row_mail port (state port older) row) (row-other number port (state port older) row apart))

pub readable-other : (number : ℕ) (mails : List Mail) → AreNotFor number mails → AreNotFor number (readable mails)
readable-other number [] none = tt
readable-other number (m ∷ mails) none = take (not (resumes m)) (readable-other number mails none.1)
  where
    take : (b : Bool) → AreNotFor number (readable mails) → AreNotFor number (cond b (m ∷ readable mails) (readable mails))
    take true rest = (none.0, rest)
    take false rest = rest

-- mail that resumes is no data
resume-unsaved : (number : ℕ) (m : Mail) → resumes m ≡ true → saved_mail number m ≡ []
resume-unsaved number (mail.Resume port seq word closed) is = refl
resume-unsaved number m is = absurd cc

pub readable-saved : (number : ℕ) (mails : List Mail) → saved_of number (readable mails) ≡ saved_of number mails
readable-saved number [] = refl
readable-saved number (m ∷ mails) = take (resumes m) refl (readable-saved number mails)
  where
    take : (b : Bool) → resumes m ≡ b → saved_of number (readable mails) ≡ saved_of number mails → saved_of number (cond (not b) (m ∷ readable mails) (readable mails)) ≡ saved_mail number m ++ saved_of number mails
    take true is rest = rest ∙ ap (λ bytes. bytes ++ saved_of number mails) (sym (resume-unsaved number m is))
    take false is rest = ap (λ bytes. saved_mail number m ++ bytes) rest

-- what a process adds itself is no data
noproc-other : (number port : ℕ) (signal : Signal) → AreNotFor number (noproc_mail port signal)
noproc-other number port Link = (refl, tt)
noproc-other number port (Monitor name) = (refl, tt)
noproc-other number port signal = tt

pub own-other : (number : ℕ) (asks : List Asked) (receipts : List Receipt) → AreNotFor number (own_mails asks receipts)
own-other number [] receipts = tt
own-other number (ask ∷ asks) [] = tt
own-other number (ask ∷ asks) (receipt ∷ receipts) =
    both _ (own_mails asks receipts) (cond (is_closed receipt.outcome) (noproc_mail ask.port ask.signal) []) (own-other number asks receipts) (added (is_closed receipt.outcome))
  where
    added : (b : Bool) → AreNotFor number (cond b (noproc_mail ask.port ask.signal) [])
    added true = noproc-other number ask.port ask.signal
    added false = tt

own-source : (source : Option ℕ) → is_source source source ≡ true
own-source (Some port) = eq-eqb port port refl
own-source None = refl

-- the mail of other sources is no data of the port
abbrev pub OthersSendNone : ℕ → ℕ → List Came → Type 0
OthersSendNone ports number came = (source : Option ℕ) → is_source (Some number) source ≡ false → IsFromPort ports source → AreNotFor number (mail_from source came)

first-not-for : (number : ℕ) (source : Option ℕ) (c : Came) (came : List Came) → is_source source c.from ≡ true → AreNotFor number (mail_from source (c ∷ came)) → saved_mail number c.mail ≡ []
first-not-for number source c came same none =
    (subst (λ b. AreNotFor number (map (λ x. x.mail) (cond b (c ∷ filter (λ x. is_source source x.from) came) (filter (λ x. is_source source x.from) came)))) same none).0

rest-not-for : (number : ℕ) (source : Option ℕ) (c : Came) (came : List Came) → AreNotFor number (mail_from source (c ∷ came)) → AreNotFor number (mail_from source came)
rest-not-for number source c came none = rest (is_source source c.from) none
  where
    rest : (b : Bool) → AreNotFor number (map (λ x. x.mail) (cond b (c ∷ filter (λ x. is_source source x.from) came) (filter (λ x. is_source source x.from) came))) → AreNotFor number (mail_from source came)
    rest true all = all.1
    rest false all = all

-- so what is saved of all mail is what is saved of that of the port
pub came-saved : (ports number : ℕ) (came : List Came) → OthersSendNone ports number came → AllByRecursion (λ (c : Came). IsFromPort ports c.from) came
    → saved_of number (map (λ c. c.mail) came) ≡ saved_of number (mail_from (Some number) came)
came-saved ports number [] others among = refl
came-saved ports number (c ∷ came) others among =
    take (is_source (Some number) c.from) refl (came-saved ports number came (λ source other from. rest-not-for number source c came (others source other from)) among.1)
  where
    take : (b : Bool) → is_source (Some number) c.from ≡ b → saved_of number (map (λ x. x.mail) came) ≡ saved_of number (mail_from (Some number) came)
        → saved_mail number c.mail ++ saved_of number (map (λ x. x.mail) came)
        ≡ saved_of number (map (λ x. x.mail) (cond b (c ∷ filter (λ x. is_source (Some number) x.from) came) (filter (λ x. is_source (Some number) x.from) came)))
    take true is rest = ap (λ bytes. saved_mail number c.mail ++ bytes) rest
    take false is rest = ap (λ bytes. bytes ++ saved_of number (map (λ x. x.mail) came)) (first-not-for number c.from c came (own-source c.from) (others c.from is among.0)) ∙ rest

-- The mail of a process from one port, among all its mail.
use Rattle.std.proofs.Common.{◌≡◌, ℕ, List, [], ◌∷◌, ◌++◌, map, Bool, true, false, not, cond, Option, Some, None, refl, ◌∙◌, ap}
use Rattle.std.specs.Prelude.{filter}
use Rattle.std.specs.List.{AllByRecursion}
use Rattle.port_model.specs.declared.mail.Mail.{Mail}
use Rattle.port_model.specs.declared.mail.Mail.TheVariants as mail
use Rattle.port_model.specs.declared.signal.Signal.{Signal}
use Rattle.port_model.specs.declared.signal.Signal.TheVariants as signal
use Rattle.process_receipts.specs.Asks.{Asked}
use Rattle.process_receipts.specs.declared.receipt.Receipt.{Receipt}
use Rattle.run_output.specs.run_opening.run_end.process_job.Mails.{Came, is_closed, is_source, mail_from, noproc_mail, own_mails, readable, resumes}
use Rattle.port_history.specs.Counts.{saved_mail, saved_of}
use Rattle.run_output.specs.run_opening.run_end.Merge.{IsFromPort}
use Rattle.unframed_output.proofs.Events.{eqb-same}
use Rattle.run_laws.proofs.Lists.{all-append}

-- a mail of which nothing is saved for this port
abbrev pub IsUnsaved : ℕ → Mail → Type 0
IsUnsaved port m = saved_mail port m ≡ []

source-same : (source : Option ℕ) → is_source source source ≡ true
source-same None = refl
source-same (Some port) = eqb-same port

-- the first mail, and the others
first : (port : ℕ) (b : Bool) (c : Came) (others : List Came) → b ≡ true → AllByRecursion (IsUnsaved port) (map (λ (c : Came). c.mail) (cond b (c ∷ others) others)) → IsUnsaved port c.mail
first port true c others is all = all.0
first port false c others is all = absurd (cc)

later : (port : ℕ) (b : Bool) (c : Came) (others : List Came) → AllByRecursion (IsUnsaved port) (map (λ (c : Came). c.mail) (cond b (c ∷ others) others))
    → AllByRecursion (IsUnsaved port) (map (λ (c : Came). c.mail) others)
later port true c others all = all.1
later port false c others all = all

-- the mail of a process that isn't of this port, where that of each other source is unsaved
pub others-unsaved : (port ports : ℕ) (came : List Came) → AllByRecursion (λ (c : Came). IsFromPort ports c.from) came
    → ((source : Option ℕ) → IsFromPort ports source → is_source (Some port) source ≡ false → AllByRecursion (IsUnsaved port) (mail_from source came))
    → AllByRecursion (λ (c : Came). is_source (Some port) c.from ≡ false → IsUnsaved port c.mail) came
others-unsaved port ports [] among each = tt
others-unsaved port ports (c ∷ came) among each = (
  λ apart. first port (is_source c.from c.from) c (filter (λ (d : Came). is_source c.from d.from) came) (source-same c.from) (each c.from among.0 apart),
  others-unsaved port ports came among.1
      (λ source within apart. later port (is_source source c.from) c (filter (λ (d : Came). is_source source d.from) came) (each source within apart)),
)

-- what a process adds to its mail is unsaved
noproc-unsaved : (port at : ℕ) (s : Signal) → AllByRecursion (IsUnsaved port) (noproc_mail at s)
noproc-unsaved port at signal.Link = (refl, tt)
noproc-unsaved port at (signal.Monitor number) = (refl, tt)
noproc-unsaved port at s = tt

pub own-unsaved : (port : ℕ) (asks : List Asked) (receipts : List Receipt) → AllByRecursion (IsUnsaved port) (own_mails asks receipts)
own-unsaved port [] receipts = tt
own-unsaved port (ask ∷ asks) [] = tt
own-unsaved port (ask ∷ asks) (receipt ∷ receipts) =
    all-append (IsUnsaved port) (own_mails asks receipts) (cond (is_closed receipt.outcome) (noproc_mail ask.port ask.signal) []) (own-unsaved port asks receipts)
    (maybe (is_closed receipt.outcome))
  where
    maybe : (b : Bool) → AllByRecursion (IsUnsaved port) (cond b (noproc_mail ask.port ask.signal) [])
    maybe true = noproc-unsaved port ask.port ask.signal
    maybe false = tt

-- what is to be read of unsaved mail is unsaved
pub readable-unsaved : (port : ℕ) (mails : List Mail) → AllByRecursion (IsUnsaved port) mails → AllByRecursion (IsUnsaved port) (readable mails)
readable-unsaved port [] all = tt
readable-unsaved port (m ∷ mails) all = maybe (not (resumes m)) (readable-unsaved port mails all.1) where
  maybe : (b : Bool) → AllByRecursion (IsUnsaved port) (readable mails) → AllByRecursion (IsUnsaved port) (cond b (m ∷ readable mails) (readable mails))
  maybe true rest = (all.0, rest)
  maybe false rest = rest

-- what is saved of all mail is what is saved of the port's own, where that of others is unsaved
pub saved-from : (port : ℕ) (came : List Came) → AllByRecursion (λ (c : Came). is_source (Some port) c.from ≡ false → IsUnsaved port c.mail) came
    → saved_of port (map (λ (c : Came). c.mail) came) ≡ saved_of port (mail_from (Some port) came)
saved-from port [] none = refl
saved-from port (c ∷ came) none = at (is_source (Some port) c.from) none.0 (saved-from port came none.1) where
  at : (b : Bool) → (b ≡ false → IsUnsaved port c.mail) → saved_of port (map (λ (c : Came). c.mail) came) ≡ saved_of port (mail_from (Some port) came)
      → saved_of port (map (λ (c : Came). c.mail) (c ∷ came))
      ≡ saved_of port (map (λ (c : Came). c.mail) (cond b (c ∷ filter (λ (c : Came). is_source (Some port) c.from) came) (filter (λ (c : Came). is_source (Some port) c.from) came)))
  at true n rest = ap (λ xs. saved_mail port c.mail ++ xs) rest
  at false n rest = ap (λ xs. xs ++ saved_of port (map (λ (c : Came). c.mail) came)) (n refl) ∙ rest

-- mail that resumes is data of no port
pub readable-saved : (port : ℕ) (mails : List Mail) → saved_of port (readable mails) ≡ saved_of port mails
readable-saved port [] = refl
readable-saved port (m ∷ mails) = at m (readable-saved port mails) where
  at : (m : Mail) → saved_of port (readable mails) ≡ saved_of port mails → saved_of port (readable (m ∷ mails)) ≡ saved_of port (m ∷ mails)
  at (mail.Resume from seq word closed) rest = rest
  at m rest = ap (λ xs. saved_mail port m ++ xs) rest

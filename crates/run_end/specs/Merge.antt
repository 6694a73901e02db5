-- The mail of a process, by what each port sent to it and what it added itself.
use Rattle.std.specs.Prelude.{◌≡◌, ℕ, ◌<◌, List, All, Option, Some, None, length, map, slice_index_or}
use Rattle.run_lanes.specs.port_mail.Ends.{MailEnd}
use Rattle.port_model.specs.declared.mail.Mail.{Mail}
use Rattle.process_end.specs.Mailbox.{Mailbox}
use Rattle.process_job.specs.Mails.{Came, mail_from, own_mails, readable}
use Rattle.run_lanes.specs.Ends.{made_by}
use Rattle.run_end.specs.Ran.{RanProcess, HasRunWhole, calls_made}
use Rattle.run_end.specs.Rest.{TookRest}

-- the ends of all ports in one mailbox, in the order of ports: the end of each port has its number, and the first one made all
abbrev pub AreMailEnds : List MailEnd → Type 0
AreMailEnds ends = (q : ℕ) (d : MailEnd) → q < length ends → ((slice_index_or ends q d).number ≡ q) × ((slice_index_or ends q d).made ≡ made_by (length ends) q)

-- the mail came from one of so many ports, or from the process itself
abbrev pub IsFromPort : ℕ → Option ℕ → Type 0
IsFromPort ports None = Unit {0}
IsFromPort ports (Some port) = port < ports

-- The mail is a merge: of each port what its end sent and is to be read, in the order in which it was sent, each once; and what the process added itself, in order. No other mail is
-- among it
pub record IsMerge (ends : List MailEnd) (own mails : List Mail) : Type 0 where
  pub came : List Came
  pub mails_are : mails ≡ map (λ c. c.mail) came
  pub ports : (q : ℕ) (d : MailEnd) → q < length ends → mail_from (Some q) came ≡ readable (slice_index_or ends q d).sent
  pub own_is : mail_from None came ≡ own
  pub among : All (λ c. IsFromPort (length ends) c.from) came

-- the mail of a process that has ended, once the rest of it was taken: a merge of what the ports sent it, and of what it added itself where a closed port refused a link or a monitor
abbrev pub MailIsMerge : Type 0
MailIsMerge = (p : RanProcess) (ends : List MailEnd) (mailbox : Mailbox) (all : List Mail) → HasRunWhole p → length p.old.lanes ≡ length ends → AreMailEnds ends → TookRest ends p.end.mailbox mailbox p.mails all
    → IsMerge ends (own_mails (calls_made p).asks (calls_made p).receipts) all

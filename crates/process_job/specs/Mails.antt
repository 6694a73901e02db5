-- The mail of a process: what the ports sent it, and what it adds of its own.
use Rattle.std.specs.Prelude.{◌≡◌, ℕ, ◌+◌, ◌==◌, List, [], ◌∷◌, ◌++◌, Bool, true, false, not, ◌&&◌, Option, Some, None, length, map, filter, sum_by, Contains, codes, if◌then◌else◌}
use Rattle.port_model.specs.port_signal.declared.answer.Answer.{Answer}
use Rattle.port_model.specs.declared.mail.Mail.{Mail}
use Rattle.port_model.specs.declared.mail.Mail.TheVariants as mail
use Rattle.port_model.specs.declared.signal.Signal.{Signal}
use Rattle.port_model.specs.declared.signal.Signal.TheVariants as signal
use Rattle.process_end.specs.process_receipts.declared.receipt.Outcome.{Outcome}
use Rattle.process_end.specs.process_receipts.declared.receipt.Outcome.TheVariants as outcome
use Rattle.process_end.specs.process_receipts.declared.receipt.Receipt.{Receipt}
use Rattle.process_end.specs.process_receipts.Asks.{Asked}
use Rattle.process_end.specs.process_receipts.Receipts.{is_put}

-- a mail of a process and the port whose end put it, or none where the process added it itself
pub record Came : Type 0 where
  pub from : Option ℕ
  pub mail : Mail

abbrev pub came_from : Option ℕ → Mail → Came
came_from from mail = record { from = from; mail = mail }

-- the two are one source of mail: a port, or none
abbrev pub is_source : Option ℕ → Option ℕ → Bool
is_source (Some port) (Some other) = other == port
is_source None None = true
is_source source other = false

-- the mail from this port, or from none, in the order in which it came
abbrev pub mail_from : Option ℕ → List Came → List Mail
mail_from source came = map (λ c. c.mail) (filter (λ c. is_source source c.from) came)

-- the mail resumes a suspended process, and is for nobody to read
abbrev pub resumes : Mail → Bool
resumes (mail.Resume port seq word closed) = true
resumes _ = false

-- the mail that is to be read, in order
abbrev pub readable : List Mail → List Mail
readable mails = filter (λ m. not (resumes m)) mails

-- the call found its port closed
abbrev pub is_closed : Outcome → Bool
is_closed outcome.Closed = true
is_closed _ = false

-- what a process adds to its mail whose signal a closed port refused: a link and a monitor are told `noproc`
abbrev pub noproc_mail : ℕ → Signal → List Mail
noproc_mail port signal.Link = mail.Exit port (codes "noproc") ∷ []
noproc_mail port (signal.Monitor number) = mail.Down port number (codes "noproc") ∷ []
noproc_mail port _ = []

-- what a process adds to its mail, oldest first, by its calls and their receipts, both newest first
abbrev pub own_mails : List Asked → List Receipt → List Mail
own_mails [] receipts = []
own_mails (ask ∷ asks) [] = []
own_mails (ask ∷ asks) (receipt ∷ receipts) = own_mails asks receipts ++ (if is_closed receipt.outcome then noproc_mail ask.port ask.signal else [])

-- the signal is answered by a Reply
abbrev pub is_replied : Signal → Bool
is_replied (signal.Control op bytes) = true
is_replied (signal.Call op bytes) = true
is_replied signal.Close = true
is_replied (signal.Connect process) = true
is_replied _ = false

-- the answer to the signal of this place among those of the process to the port is among the mail
abbrev pub HasReply : ℕ → Option ℕ → List Mail → Type 0
HasReply port None mails = ⊥
HasReply port (Some seq) mails = (answer : Answer) × Contains mails (mail.Reply port seq answer)

-- each signal of these calls that is answered, and was put, has its answer among the mail. Calls and receipts are in one order
abbrev pub AreReplied : List Asked → List Receipt → List Mail → Type 0
AreReplied [] receipts mails = Unit {0}
AreReplied (ask ∷ asks) [] mails = Unit {0}
AreReplied (ask ∷ asks) (receipt ∷ receipts) mails =
    ((is_replied ask.signal && is_put receipt.outcome) ≡ true → HasReply ask.port receipt.seq mails) × AreReplied asks receipts mails

-- how many data messages of this port are among the mail, and how many bytes they have together
abbrev pub is_data_of : ℕ → Mail → Bool
is_data_of port (mail.Message from flag bytes) = from == port
is_data_of port _ = false

abbrev pub size_from : ℕ → Mail → ℕ
size_from port (mail.Message from flag bytes) = if from == port then length bytes else 0
size_from port _ = 0

abbrev pub messages_of : ℕ → List Mail → ℕ
messages_of port mails = length (filter (is_data_of port) mails)

abbrev pub bytes_of : ℕ → List Mail → ℕ
bytes_of port mails = sum_by (size_from port) mails

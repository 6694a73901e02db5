-- What a process takes of its mailbox.
use Rattle.std.specs.Prelude.{◌≡◌, ℕ, [], ◌∷◌, ◌++◌, length, Option, Some, None}
use Rattle.task_queue.specs.declared.item.Item.{Item}
use Rattle.task_queue.specs.Items.{of}
use Rattle.task_queue.specs.Ends.{Taking, KeepsOrder, TookAll, WasEmpty}
use Rattle.port_model.specs.declared.mail.Mail.{Mail}

abbrev pub Mailbox : Type 0
Mailbox = Taking Mail (Unit {0})

-- every mail fits every mailbox
abbrev pub AnyMail : Unit {0} → ℕ → Mail → Type 0
AnyMail key number mail = Unit {0}

-- this mail was taken, which is the next one of its port; the end with number q is that of port q
pub record TookMail (old new : Mailbox) (mail : Mail) : Type 0 where
  pub port : ℕ
  pub item : Item Mail
  pub is : item ≡ record { sender = port; seq = length (of port old.taken); value = mail }
  pub taken : new ≡ record old { taken = old.taken ++ item ∷ [] }
  pub order : KeepsOrder AnyMail new

-- nothing was there: at one moment the mailbox was empty, and all that came of the ends that were taken in was taken
pub record FoundNone (old new : Mailbox) : Type 0 where
  pub same : new ≡ old
  pub empty : WasEmpty AnyMail old
  pub all : TookAll old

abbrev pub HasTaken : Mailbox → Mailbox → Option Mail → Type 0
HasTaken old new None = FoundNone old new
HasTaken old new (Some mail) = TookMail old new mail

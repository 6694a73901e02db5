-- The mail that is left in a mailbox after a run.
use Rattle.std.specs.Prelude.{◌≡◌, ◌<◌, List, [], ◌++◌, length, map, filter, not, Some}
use Rattle.task_queue.specs.declared.item.Item.{Item}
use Rattle.task_queue.specs.Ends.{KeepsOrder, TookAll}
use Rattle.run_lanes.specs.port_mail.Ends.{MailEnd}
use Rattle.port_model.specs.declared.mail.Mail.{Mail}
use Rattle.process_end.specs.Mailbox.{AnyMail, Mailbox}
use Rattle.process_job.specs.Mails.{Came, came_from, resumes}
use Rattle.run_lanes.specs.Ends.{taken_in}

-- items as mail that came, each from the port whose end has its number, but for mail that resumes, which is for nobody to read
abbrev pub came_in : List (Item Mail) → List Came
came_in items = map (λ x. came_from (Some x.sender) x.value) (filter (λ x. not (resumes x.value)) items)

-- more was taken of the mailbox, and the mail among it that is to be read stands behind the mail that was there, in the order in which it came
pub record TookMore (old new : Mailbox) (mails new_mails : List Mail) : Type 0 where
  pub items : List (Item Mail)
  pub taken : new ≡ record old { taken = old.taken ++ items }
  pub mails_are : new_mails ≡ mails ++ map (λ c. c.mail) (came_in items)

-- all that the ended senders sent was taken, and what was taken keeps the order of each sender
pub record IsAllTaken (mailbox : Mailbox) : Type 0 where
  pub all : TookAll mailbox
  pub order : KeepsOrder AnyMail mailbox

-- the ends were taken in, and then all that was left was taken, behind the mail that was there. Where there is no end, nothing is taken
pub record TookRest (ends : List MailEnd) (old new : Mailbox) (mails all : List Mail) : Type 0 where
  pub more : TookMore (taken_in old ends) new mails all
  pub taken : 0 < length ends → IsAllTaken new
  pub none : ends ≡ [] → (new ≡ old) × (all ≡ mails)

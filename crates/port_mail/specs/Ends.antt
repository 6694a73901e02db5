-- A port's sending ends into the mailboxes of all processes, by the processes' numbers, and what mail does to them.
use Rattle.std.specs.Prelude.{◌≡◌, ◌≢◌, ℕ, ◌<◌, List, [], ◌∷◌, ◌++◌, length, slice_index_or, Result, Ok, Err, if◌then◌else◌}
use Rattle.task_queue.specs.Ends.{Sending}
use Rattle.port_model.specs.port_signal.Links.{has}
use Rattle.port_model.specs.declared.mail.Mail.{Mail}
use Rattle.port_links.specs.port_history.Mail.{Sent, mail_for}

-- what a sending end into the mailbox of a process shows
abbrev pub MailEnd : Type 0
MailEnd = Sending Mail (Unit {0})

-- the end after it has sent this mail too
abbrev pub end_after : MailEnd → List Mail → MailEnd
end_after end mail = record end { sent = end.sent ++ mail }

-- the mail among these that a process gets: none where it has ended
abbrev pub mail_got : List ℕ → ℕ → List Sent → List Mail
mail_got ended process sent = if has process ended then [] else mail_for process sent

-- Each end has sent what its process gets of these, behind all else. What is for a process that has no end goes nowhere
pub record Posts (ended : List ℕ) (old new : List MailEnd) (sent : List Sent) : Type 0 where
  pub processes : length new ≡ length old
  pub ends : (process : ℕ) (e : MailEnd) → process < length old
      → slice_index_or new process e ≡ end_after (slice_index_or old process e) (mail_got ended process sent)

-- The first of these were posted, and the others were left: each end may have sent more, of which the front is what it had sent
pub record Grows (ended : List ℕ) (old new : List MailEnd) (sent : List Sent) : Type 0 where
  pub first : List Sent
  pub left : List Sent
  pub all : first ++ left ≡ sent
  pub posted : Posts ended old new first

-- all of these were posted, or memory was wanting on the way
abbrev pub Puts : {T E : Type 0} → Result T E → List ℕ → List MailEnd → List MailEnd → List Sent → Type 0
Puts (Ok value) ended old new sent = Posts ended old new sent
Puts (Err error) ended old new sent = Grows ended old new sent

-- the end at this place has sent the mail behind all else, and no other end has sent anything
pub record SendsAt (old : List MailEnd) (place : ℕ) (mail : Mail) (new : List MailEnd) : Type 0 where
  pub processes : length new ≡ length old
  pub own : (e : MailEnd) → slice_index_or new place e ≡ end_after (slice_index_or old place e) (mail ∷ [])
  pub others : (process : ℕ) (e : MailEnd) → process ≢ place → slice_index_or new process e ≡ slice_index_or old process e

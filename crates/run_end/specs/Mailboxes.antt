-- The mail that is left in all mailboxes of a run.
use Rattle.std.specs.Prelude.{◌≡◌, ◌≢◌, ℕ, ◌<◌, List, All, length, map, slice_index_or}
use Rattle.run_lanes.specs.port_mail.Ends.{MailEnd}
use Rattle.port_model.specs.declared.mail.Mail.{Mail}
use Rattle.process_end.specs.Mailbox.{Mailbox}
use Rattle.process_job.specs.Mails.{own_mails}
use Rattle.run_lanes.specs.Ends.{made_by}
use Rattle.run_end.specs.Ran.{RanProcess, calls_made}
use Rattle.run_end.specs.Rest.{TookRest}
use Rattle.run_end.specs.Rows.{IsColumn}
use Rattle.run_end.specs.Tell.{HaveRunWhole}
use Rattle.run_end.specs.Merge.{AreMailEnds, IsMerge}

-- an end of this mailbox with this number, one of so many
pub record IsMailEndOf (ends number : ℕ) (mailbox : Mailbox) (end : MailEnd) : Type 0 where
  pub lane : end.lane ≡ mailbox.lane
  pub number_is : end.number ≡ number
  pub made : end.made ≡ made_by ends number

-- port by port an end of each mailbox, in the order of mailboxes. The ends of a port have its number
pub record AreMailRows (mailboxes : List Mailbox) (rows : List (List MailEnd)) : Type 0 where
  pub long : (q : ℕ) (row : List MailEnd) → q < length rows → length (slice_index_or rows q row) ≡ length mailboxes
  pub each : (q n : ℕ) (row : List MailEnd) (d : MailEnd) (m : Mailbox) → q < length rows → n < length mailboxes
      → IsMailEndOf (length rows) q (slice_index_or mailboxes n m) (slice_index_or (slice_index_or rows q row) n d)

-- for each mailbox ends of it
pub record AreMailColumns (mailboxes : List Mailbox) (columns : List (List MailEnd)) : Type 0 where
  pub many : length columns ≡ length mailboxes
  pub lanes : (n : ℕ) (m : Mailbox) (column : List MailEnd) → n < length mailboxes → All (λ e. e.lane ≡ (slice_index_or mailboxes n m).lane) (slice_index_or columns n column)

-- the rest of the mailbox at this place was taken, and the others are as they were
pub record TakesRestAt (place : ℕ) (ends : List MailEnd) (old new : List Mailbox) (mails all : List (List Mail)) : Type 0 where
  pub boxes_many : length new ≡ length old
  pub mails_many : length all ≡ length mails
  pub here : (m n : Mailbox) (a b : List Mail) → TookRest ends (slice_index_or old place m) (slice_index_or new place n) (slice_index_or mails place a) (slice_index_or all place b)
  pub boxes : (k : ℕ) (m : Mailbox) → k ≢ place → slice_index_or new k m ≡ slice_index_or old k m
  pub others : (k : ℕ) (a : List Mail) → k ≢ place → slice_index_or all k a ≡ slice_index_or mails k a

-- the rest of each mailbox was taken
pub record TakesEachRest (columns : List (List MailEnd)) (old new : List Mailbox) (mails all : List (List Mail)) : Type 0 where
  pub mails_many : length all ≡ length mails
  pub each : (k : ℕ) (m n : Mailbox) (column : List MailEnd) (a b : List Mail) → k < length old
      → TookRest (slice_index_or columns k column) (slice_index_or old k m) (slice_index_or new k n) (slice_index_or mails k a) (slice_index_or all k b)

-- the ends that the rows have at this place were taken into the mailbox, and the rest of it was taken
pub record TookColumn (place : ℕ) (rows : List (List MailEnd)) (old : Mailbox) (mails all : List Mail) : Type 0 where
  pub ends : List MailEnd
  pub column : IsColumn place rows ends
  pub numbered : AreMailEnds ends
  pub new : Mailbox
  pub took : TookRest ends old new mails all

-- so it was of each mailbox
pub record HaveTakenRows (mailboxes : List Mailbox) (rows : List (List MailEnd)) (mails all : List (List Mail)) : Type 0 where
  pub many : length all ≡ length mails
  pub each : (n : ℕ) (m : Mailbox) (a b : List Mail) → n < length mailboxes → TookColumn n rows (slice_index_or mailboxes n m) (slice_index_or mails n a) (slice_index_or all n b)

-- the mail of the process at this place is a merge of what the ends of its mailbox sent and of its own
pub record IsMergeAt (place : ℕ) (rows : List (List MailEnd)) (p : RanProcess) (mails : List Mail) : Type 0 where
  pub ends : List MailEnd
  pub column : IsColumn place rows ends
  pub merge : IsMerge ends (own_mails (calls_made p).asks (calls_made p).receipts) mails

-- so is the mail of each process of a run
abbrev pub AllMailIsMerge : Type 0
AllMailIsMerge = (processes : List RanProcess) (rows : List (List MailEnd)) (all : List (List Mail)) → HaveRunWhole (length rows) processes
    → HaveTakenRows (map (λ p. p.end.mailbox) processes) rows (map (λ p. p.mails) processes) all
    → (n : ℕ) (p : RanProcess) (mails : List Mail) → n < length processes → IsMergeAt n rows (slice_index_or processes n p) (slice_index_or all n mails)

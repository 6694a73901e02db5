-- How much data of each port is among the mail of a process.
use Rattle.std.specs.Prelude.{ℕ, ◌<◌, ◌≤◌, List, length, slice_index_or}
use Rattle.port_model.specs.declared.mail.Mail.{Mail}
use Rattle.process_job.specs.declared.log.DataCount.{DataCount}
use Rattle.process_job.specs.declared.log.DataWanted.{DataWanted}
use Rattle.process_job.specs.declared.log.DataWanted.TheVariants.{Messages, Bytes}
use Rattle.process_job.specs.Mails.{messages_of, bytes_of}

-- each count is of data that came: a count stops at the greatest `u64`
abbrev pub AreCounted : List Mail → List DataCount → Type 0
AreCounted mails counts = (port : ℕ) (d : DataCount) → port < length counts
    → ((slice_index_or counts port d).messages ≤ messages_of port mails) × ((slice_index_or counts port d).bytes ≤ bytes_of port mails)

-- so much data of this port is among the mail
abbrev pub HasData : ℕ → DataWanted → List Mail → Type 0
HasData port (Messages count) mails = count ≤ messages_of port mails
HasData port (Bytes count) mails = count ≤ bytes_of port mails

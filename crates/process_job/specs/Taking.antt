-- What kind of mail a process takes.
use Rattle.port_model.specs.declared.mail.Mail.{Mail}
use Rattle.port_model.specs.declared.mail.Mail.TheVariants as mail
use Rattle.process_job.specs.declared.taking.NextMail.{NextMail}
use Rattle.process_job.specs.declared.taking.NextMail.TheVariants as next

abbrev pub next_of : Mail → NextMail
next_of (mail.Reply port seq answer) = next.Reply port seq
next_of (mail.Resume port seq word closed) = next.Resume
next_of _ = next.Other

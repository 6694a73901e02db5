-- A history of which a report counts everything.
use Rattle.std.specs.Prelude.{List, [], ◌∷◌, codes}
use Rattle.io_vector.specs.declared.flag.Flag.TheVariants.{Plain, Eol}
use Rattle.port_model.specs.declared.signal.Signal.TheVariants.{OwnerCommand, Close}
use Rattle.port_model.specs.declared.effect.Effect.TheVariants.{Message}
use Rattle.port_model.specs.declared.mail.Mail.{Mail}
use Rattle.port_model.specs.declared.mail.Mail.TheVariants as mail
use Rattle.port_model.specs.declared.row.Row.{Row}
use Rattle.worked_histories.specs.Rows.{command, handled, late, closed}

-- a command in each form of the owner, one of another process that calls no driver, a close, and a command that comes late
abbrev pub counted_port : List Row
counted_port =
    handled 0 0 (command (codes "abc")) (Message Plain (codes "abc") ∷ [])
    ∷ handled 1 0 (OwnerCommand (codes "xy" ∷ [])) []
    ∷ handled 0 1 (OwnerCommand (codes "d" ∷ [])) (Message Plain (codes "d") ∷ [])
    ∷ handled 0 2 Close [] ∷ closed ∷ late 1 1 (command (codes "e")) ∷ []

-- mail of two ports: a line and data of the second, and data of the first
abbrev pub saved_mail : List Mail
saved_mail = mail.Message 1 Eol (codes "b") ∷ mail.Message 0 Plain (codes "a") ∷ mail.Eof 1 ∷ mail.Message 1 Plain (codes "c") ∷ []

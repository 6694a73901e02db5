-- The mail that a port's rows send, in their order: of a row the data of its effects, its answer, what its closing tells, and `closed`.
use Rattle.std.specs.Prelude.{ℕ, ◌==◌, List, [], ◌∷◌, ◌++◌, Bool, true, ◌&&◌, not, if◌then◌else◌, Option, Some, None, map, filter, codes}
use Rattle.std.specs.List.{flat_map}
use Rattle.driver_model.specs.port_signal.declared.monitor.Monitor.{Monitor as MonitorEntry}
use Rattle.driver_model.specs.port_signal.declared.answer.Answer.{Answer}
use Rattle.driver_model.specs.port_signal.declared.answer.Answer.TheVariants.{Bytes, True, Badarg}
use Rattle.driver_model.specs.port_signal.Links.{has}
use Rattle.driver_model.specs.port_signal.Reasons.{told_reason}
use Rattle.driver_model.specs.port_model.declared.signal.Sender.{Sender}
use Rattle.driver_model.specs.port_model.declared.signal.Sender.TheVariants.{Process}
use Rattle.driver_model.specs.port_model.declared.signal.Signal.{Signal}
use Rattle.driver_model.specs.port_model.declared.signal.Signal.TheVariants.{OwnerCommand, Control, Call, Close, OwnerClose, Connect, OwnerConnect, Link, Monitor}
use Rattle.driver_model.specs.port_model.declared.effect.Effect.{Effect}
use Rattle.driver_model.specs.port_model.declared.effect.Effect.TheVariants.{Message as Data, Eof as TellEof, Status as TellStatus, Reply as ReplyEffect, ReplyBadarg}
use Rattle.driver_model.specs.port_model.declared.row.Row.{Row}
use Rattle.driver_model.specs.port_model.declared.row.Row.TheVariants.{Handled, Late, Resumed}
use Rattle.driver_model.specs.port_model.declared.mail.Mail.{Mail}
use Rattle.driver_model.specs.port_model.declared.mail.Mail.TheVariants.{Message, Eof, Status, Closed, Connected, Exit, Down, Reply, Resume}
use Rattle.port_history.specs.Opening.{Opening, Taken, taken_of}
use Rattle.port_history.specs.Ties.{Ties, may_own, tied}
use Rattle.port_history.specs.State.{State, state, is_open, closing_reason, stops, closer_after}

-- a mail, and the process that it is for
pub record Sent : Type 0 where
  pub to : ℕ
  pub mail : Mail

abbrev pub send : ℕ → Mail → Sent
send process mail = record { to = process; mail = mail }

-- what an effect sends to the owner
abbrev pub effect_mail : ℕ → ℕ → Effect → List Sent
effect_mail port owner (Data flag bytes) = send owner (Message port flag bytes) ∷ []
effect_mail port owner TellEof = send owner (Eof port) ∷ []
effect_mail port owner (TellStatus status) = send owner (Status port status) ∷ []
effect_mail port owner effect = []

-- the driver's answer among the effects of a control or a call
abbrev pub answer_of : List Effect → Answer
answer_of [] = Badarg
answer_of (ReplyEffect bytes ∷ effects) = Bytes bytes
answer_of (ReplyBadarg ∷ effects) = Badarg
answer_of (effect ∷ effects) = answer_of effects

-- the exit signal for an owner form that another process used, or that names a process that can't be the owner
abbrev pub bad_signal : ℕ → ℕ → List Sent
bad_signal port owner = send owner (Exit port (codes "badsig")) ∷ []

-- what a handled signal of a process sends after the effects of its row: a control and a call get the driver's answer, a close and a connect
-- get `true` where they could be done, and an owner form that couldn't is told to the owner
abbrev pub answer_mail : Opening → Ties → ℕ → ℕ → List Effect → Signal → List Sent
answer_mail port ties from seq effects (OwnerCommand payload) = if from == ties.owner then [] else bad_signal port.number ties.owner
answer_mail port ties from seq effects (Control op bytes) = send from (Reply port.number seq (answer_of effects)) ∷ []
answer_mail port ties from seq effects (Call op bytes) = send from (Reply port.number seq (answer_of effects)) ∷ []
answer_mail port ties from seq effects Close = send from (Reply port.number seq True) ∷ []
answer_mail port ties from seq effects OwnerClose = if from == ties.owner then [] else bad_signal port.number ties.owner
answer_mail port ties from seq effects (Connect process) = send from (Reply port.number seq (if may_own port ties process then True else Badarg)) ∷ []
answer_mail port ties from seq effects (OwnerConnect process) =
    if (from == ties.owner) && may_own port ties process then send from (Connected port.number) ∷ [] else bad_signal port.number ties.owner
answer_mail port ties from seq effects signal = []

-- only processes are answered
abbrev pub answers : Opening → Ties → Sender → ℕ → List Effect → Signal → List Sent
answers port ties (Process process) seq effects signal = answer_mail port ties process seq effects signal
answers port ties from seq effects signal = []

-- what a late signal of a process sends: what is answered is answered `badarg`, a link and a monitor are told `noproc`
abbrev pub late_mail : ℕ → ℕ → ℕ → Signal → List Sent
late_mail port from seq (Control op bytes) = send from (Reply port seq Badarg) ∷ []
late_mail port from seq (Call op bytes) = send from (Reply port seq Badarg) ∷ []
late_mail port from seq Close = send from (Reply port seq Badarg) ∷ []
late_mail port from seq (Connect process) = send from (Reply port seq Badarg) ∷ []
late_mail port from seq Link = send from (Exit port (codes "noproc")) ∷ []
late_mail port from seq (Monitor number) = send from (Down port number (codes "noproc")) ∷ []
late_mail port from seq signal = []

-- the exit signals of the linked processes, and then what the monitors are told, each in rising order
abbrev pub end_mail : ℕ → List ℕ → Ties → List Sent
end_mail port reason ties =
    map (λ process. send process (Exit port reason)) ties.linked
    ++ map (λ (m : MonitorEntry). send m.process (Down port m.number reason)) ties.monitors

-- what a row sends that closes the port for this reason, if it does
abbrev pub closing_mail : ℕ → Option (List ℕ) → Ties → List Sent
closing_mail port None ties = []
closing_mail port (Some reason) ties = end_mail port (told_reason reason) ties

-- the owner that asked for the close is told in the row in which the driver is stopped
abbrev pub closed_mail : ℕ → Bool → Option ℕ → List Sent
closed_mail port true (Some process) = send process (Closed port) ∷ []
closed_mail port stops closer = []

abbrev pub handled_mail : Opening → State → Taken → List Sent
handled_mail port s t =
    flat_map (effect_mail port.number s.ties.owner) t.effects
    ++ answers port s.ties t.from t.seq t.effects t.task.signal
    ++ closing_mail port.number (closing_reason s t) (tied port s.ties t.from t.task.signal)
    ++ closed_mail port.number (stops port s t) (closer_after s t)

-- what a row sends after the state before it
abbrev pub row_mail : Opening → State → Row → List Sent
row_mail port s (Handled from seq task outside effects) = handled_mail port s (taken_of from seq task outside effects)
row_mail port s (Late (Process process) seq task) = late_mail port.number process seq task.signal
row_mail port s (Resumed (Process process) seq word) = send process (Resume port.number seq word (not (is_open s))) ∷ []
row_mail port s row = []

-- the mail among these that is for the process
abbrev pub mail_for : ℕ → List Sent → List Mail
mail_for process sent = map (λ (m : Sent). m.mail) (filter (λ (m : Sent). m.to == process) sent)

-- all mail that the rows send to a process, oldest first: none from the row on that tells of its end
abbrev pub mails : Opening → ℕ → List Row → List Mail
mails port process [] = []
mails port process (row ∷ older) =
    if has process (state port (row ∷ older)).ties.ended then mails port process older
    else mails port process older ++ mail_for process (row_mail port (state port older) row)

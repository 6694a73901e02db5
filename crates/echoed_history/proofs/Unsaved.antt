-- Mail of which nothing is saved for a port.
use Rattle.std.proofs.Common.{◌≡◌, ℕ, ◌==◌, ◌&&◌, Bool, true, false, cond, List, [], ◌∷◌, ◌++◌, Option, Some, None, refl, ap, subst, sym}
use Rattle.std.specs.Prelude.{map, filter}
use Rattle.std.specs.List.{AllByRecursion, flat_map}
use Rattle.std.proofs.lemmas.Bool.{ne_eqb}
use Rattle.driver_model.specs.port_signal.declared.monitor.Monitor.{Monitor as MonitorEntry}
use Rattle.driver_model.specs.port_signal.Reasons.{told_reason}
use Rattle.port_history.specs.port_model.declared.effect.Effect.{Effect}
use Rattle.port_history.specs.port_model.declared.effect.Effect.TheVariants.{Message as Data, Eof as TellEof, Status as TellStatus}
use Rattle.port_history.specs.port_model.declared.mail.Mail.{Mail}
use Rattle.port_history.specs.port_model.declared.mail.Mail.TheVariants as mail
use Rattle.port_history.specs.port_model.declared.signal.Sender.{Sender}
use Rattle.port_history.specs.port_model.declared.signal.Sender.TheVariants.{Process}
use Rattle.port_history.specs.port_model.declared.signal.Signal.{Signal}
use Rattle.port_history.specs.port_model.declared.signal.Signal.TheVariants.{OwnerCommand, Control, Call, Close, OwnerClose, Connect, OwnerConnect, Link, Monitor}
use Rattle.port_history.specs.Counts.{saved_mail, saved_of, line_end}
use Rattle.port_history.specs.Mail.{Sent, send, effect_mail, answer_mail, answers, late_mail, closing_mail, closed_mail, handled_mail, mail_for, bad_signal}
use Rattle.port_history.specs.Opening.{Opening, Taken}
use Rattle.port_history.specs.State.{State, closing_reason, closer_after, stops}
use Rattle.port_history.specs.Ties.{Ties, may_own, tied}
use Rattle.echoed_history.proofs.Lists.{both}

-- nothing is saved of these mails for the port
abbrev pub AreNotFor : ℕ → List Mail → Type 0
AreNotFor number mails = AllByRecursion (λ (m : Mail). saved_mail number m ≡ []) mails

abbrev pub SendNothing : ℕ → List Sent → Type 0
SendNothing number sent = AllByRecursion (λ (m : Sent). saved_mail number m.mail ≡ []) sent

-- the data of another port
effect-other : (number port owner : ℕ) (effect : Effect) → (port ≡ number → ⊥) → SendNothing number (effect_mail port owner effect)
effect-other number port owner (Data flag bytes) apart = (ap (λ b. cond b (bytes ++ line_end flag) []) (ne_eqb port number apart), tt)
effect-other number port owner TellEof apart = (refl, tt)
effect-other number port owner (TellStatus status) apart = (refl, tt)
effect-other number port owner effect apart = tt

pub effects-other : (number port owner : ℕ) (effects : List Effect) → (port ≡ number → ⊥) → SendNothing number (flat_map (effect_mail port owner) effects)
effects-other number port owner [] apart = tt
effects-other number port owner (effect ∷ effects) apart =
    both _ (effect_mail port owner effect) (flat_map (effect_mail port owner) effects) (effect-other number port owner effect apart) (effects-other number port owner effects apart)

-- an answer is no data
either : (number : ℕ) (b : Bool) (xs ys : List Sent) → SendNothing number xs → SendNothing number ys → SendNothing number (cond b xs ys)
either number true xs ys a b = a
either number false xs ys a b = b

answer-other : (number : ℕ) (port : Opening) (ties : Ties) (from seq : ℕ) (effects : List Effect) (signal : Signal) → SendNothing number (answer_mail port ties from seq effects signal)
answer-other number port ties from seq effects (OwnerCommand payload) = either number (from == ties.owner) [] (bad_signal port.number ties.owner) tt (refl, tt)
answer-other number port ties from seq effects (Control op bytes) = (refl, tt)
answer-other number port ties from seq effects (Call op bytes) = (refl, tt)
answer-other number port ties from seq effects Close = (refl, tt)
answer-other number port ties from seq effects OwnerClose = either number (from == ties.owner) [] (bad_signal port.number ties.owner) tt (refl, tt)
answer-other number port ties from seq effects (Connect process) = (refl, tt)
answer-other number port ties from seq effects (OwnerConnect process) =
    either number ((from == ties.owner) && may_own port ties process) (send from (mail.Connected port.number) ∷ []) (bad_signal port.number ties.owner) (refl, tt) (refl, tt)
answer-other number port ties from seq effects signal = tt

answers-other : (number : ℕ) (port : Opening) (ties : Ties) (from : Sender) (seq : ℕ) (effects : List Effect) (signal : Signal) → SendNothing number (answers port ties from seq effects signal)
answers-other number port ties (Process process) seq effects signal = answer-other number port ties process seq effects signal
answers-other number port ties from seq effects signal = tt

pub late-other : (number port from seq : ℕ) (signal : Signal) → SendNothing number (late_mail port from seq signal)
late-other number port from seq (Control op bytes) = (refl, tt)
late-other number port from seq (Call op bytes) = (refl, tt)
late-other number port from seq Close = (refl, tt)
late-other number port from seq (Connect process) = (refl, tt)
late-other number port from seq Link = (refl, tt)
late-other number port from seq (Monitor name) = (refl, tt)
late-other number port from seq signal = tt

-- nor is what the end of a port tells
exits-other : (number port : ℕ) (reason : List ℕ) (linked : List ℕ) → SendNothing number (map (λ process. send process (mail.Exit port reason)) linked)
exits-other number port reason [] = tt
exits-other number port reason (process ∷ linked) = (refl, exits-other number port reason linked)

downs-other : (number port : ℕ) (reason : List ℕ) (monitors : List MonitorEntry) → SendNothing number (map (λ (m : MonitorEntry). send m.process (mail.Down port m.number reason)) monitors)
downs-other number port reason [] = tt
downs-other number port reason (m ∷ monitors) = (refl, downs-other number port reason monitors)

closing-other : (number port : ℕ) (reason : Option (List ℕ)) (ties : Ties) → SendNothing number (closing_mail port reason ties)
closing-other number port None ties = tt
closing-other number port (Some reason) ties = both _ (map (λ process. send process (mail.Exit port (told_reason reason))) ties.linked) (map (λ (m : MonitorEntry). send m.process (mail.Down port m.number (told_reason reason))) ties.monitors)
    (exits-other number port (told_reason reason) ties.linked) (downs-other number port (told_reason reason) ties.monitors)

closed-other : (number port : ℕ) (stopped : Bool) (closer : Option ℕ) → SendNothing number (closed_mail port stopped closer)
closed-other number port true (Some process) = (refl, tt)
closed-other number port true None = tt
closed-other number port false closer = tt

pub mail-for-other : (number process : ℕ) (sent : List Sent) → SendNothing number sent → AreNotFor number (mail_for process sent)
mail-for-other number process [] none = tt
mail-for-other number process (m ∷ sent) none = take (m.to == process) (mail-for-other number process sent none.1)
  where
    take : (b : Bool) → AreNotFor number (mail_for process sent) → AreNotFor number (map (λ (x : Sent). x.mail) (cond b (m ∷ filter (λ (x : Sent). x.to == process) sent) (filter (λ (x : Sent). x.to == process) sent)))
    take true rest = (none.0, rest)
    take false rest = rest

pub unsaved : (number : ℕ) (mails : List Mail) → AreNotFor number mails → saved_of number mails ≡ []
unsaved number [] none = refl
unsaved number (m ∷ mails) none = (λ i. none.0 i ++ unsaved number mails none.1 i)

-- a handled row sends no data for the port but by its effects
pub handled-other : (number : ℕ) (port : Opening) (s : State) (t : Taken) → SendNothing number (flat_map (effect_mail port.number s.ties.owner) t.effects) → SendNothing number (handled_mail port s t)
handled-other number port s t none =
    let data_mail = flat_map (effect_mail port.number s.ties.owner) t.effects in
    let answer = answers port s.ties t.from t.seq t.effects t.task.signal in
    let closing = closing_mail port.number (closing_reason s t) (tied port s.ties t.from t.task.signal) in
    let closed = closed_mail port.number (stops port s t) (closer_after s t) in
    both _ (data_mail ++ answer ++ closing) closed
    (both _ (data_mail ++ answer) closing (both _ data_mail answer none (answers-other number port s.ties t.from t.seq t.effects t.task.signal))
    (closing-other number port.number (closing_reason s t) (tied port s.ties t.from t.task.signal)))
    (closed-other number port.number (stops port s t) (closer_after s t))

pub handled-unsaved : (number process : ℕ) (port : Opening) (s : State) (t : Taken) → t.effects ≡ [] → saved_of number (mail_for process (handled_mail port s t)) ≡ []
handled-unsaved number process port s t none = unsaved number (mail_for process (handled_mail port s t))
    (mail-for-other number process (handled_mail port s t)
    (handled-other number port s t (subst (λ effects. SendNothing number (flat_map (effect_mail port.number s.ties.owner) effects)) (sym none) tt)))

pub late-unsaved : (number process port from seq : ℕ) (signal : Signal) → saved_of number (mail_for process (late_mail port from seq signal)) ≡ []
late-unsaved number process port from seq signal =
    unsaved number (mail_for process (late_mail port from seq signal)) (mail-for-other number process (late_mail port from seq signal) (late-other number port from seq signal))

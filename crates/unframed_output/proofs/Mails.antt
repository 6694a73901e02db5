-- What is saved of the mail that a program's port sends its owner.
use Rattle.std.proofs.Common.{◌≡◌, ℕ, List, [], ◌∷◌, ◌++◌, ◌⊎◌, map, All, Bool, true, false, ◌&&◌, eqb, cond, Option, Some, None, refl, sym, ◌∙◌, ap, subst, inl, inr}
use Rattle.std.specs.Prelude.{filter}
use Rattle.std.specs.List.{flat_map}
use Rattle.std.proofs.lemmas.List.{append-nil, map-append}
use Rattle.std.proofs.lemmas.List.Concat.{flat_map-append}
use Rattle.std.proofs.lemmas.List.Elements.{All-head, All-tail, filter-append}
use Rattle.driver_model.specs.port_model.io_vector.declared.flag.Flag.{Flag}
use Rattle.packet_framing.specs.declared.mode.Mode.{Mode}
use Rattle.packet_framing.specs.declared.mode.Mode.TheVariants.{Packet1, Packet2, Packet4, Line, Stream}
use Rattle.packet_framing.specs.declared.message.Message.{Message}
use Rattle.packet_framing.specs.Messages.{IsServed, IsStreamed}
use Rattle.driver_model.specs.port_signal.declared.outside.Outside.{Outside}
use Rattle.driver_model.specs.port_signal.Links.{has}
use Rattle.driver_model.specs.port_signal.declared.monitor.Monitor.{Monitor as MonitorEntry}
use Rattle.driver_model.specs.port_signal.Reasons.{told_reason}
use Rattle.driver_model.specs.port_model.declared.signal.Sender.{Sender}
use Rattle.driver_model.specs.port_model.declared.signal.Sender.TheVariants.{Process}
use Rattle.driver_model.specs.port_model.declared.signal.Signal.{Signal}
use Rattle.driver_model.specs.port_model.declared.signal.Signal.TheVariants.{OwnerCommand, Control, Call, Close, OwnerClose, Connect, OwnerConnect, Link, Monitor, Ready}
use Rattle.driver_model.specs.port_model.declared.event.Dir.TheVariants.{Read}
use Rattle.driver_model.specs.port_model.declared.effect.Effect.{Effect}
use Rattle.driver_model.specs.port_model.declared.effect.Effect.TheVariants.{Message as Data, Eof as TellEof, Status as TellStatus}
use Rattle.driver_model.specs.port_model.declared.mail.Mail.{Mail}
use Rattle.driver_model.specs.port_model.declared.mail.Mail.TheVariants as mail
use Rattle.driver_model.specs.port_model.declared.row.Row.{Row}
use Rattle.driver_model.specs.port_model.declared.row.Row.TheVariants.{Handled, Late, Listed, Resumed, Mark}
use Rattle.driver_model.specs.port_model.Tasks.{TaskView}
use Rattle.port_history.specs.Counts.{is_data, line_end, saved_mail, saved_of}
use Rattle.port_history.specs.Lawful.{Lawful, KeepsLaws}
use Rattle.port_history.specs.Mail.{Sent, send, effect_mail, bad_signal, answer_mail, answers, late_mail, closing_mail, closed_mail, row_mail, mail_for, mails}
use Rattle.port_history.specs.Opening.{Opening, taken_of}
use Rattle.port_history.specs.State.{State, state, closing_reason, closer_after, stops, is_open}
use Rattle.port_history.specs.Ties.{Ties, may_own, tied}
use Rattle.unframed_output.specs.Output.{messages_in, messages_sent, effects_of, saved_messages, saved_output, bytes_kept, has_ended}
use Rattle.unframed_output.specs.Laws.{AreMessages, KeepsOwner, OutputIsSaved, is_connect}
use Rattle.unframed_output.proofs.Events.{eqb-same, bad}
use Rattle.unframed_output.proofs.Calls.{spawning}
use Rattle.unframed_output.proofs.Owners.{TellsEnd, OwnerStays, owner-stays, handled-ended}
use Rattle.unframed_output.proofs.Only.{only-input}
use Rattle.unframed_output.proofs.Messages.{is-served}
use Rattle.unframed_output.proofs.Rows.{Stands, stands, as-spawning}

-- no mail among these is data
abbrev pub HaveNoData : List Sent → Type 0
HaveNoData [] = Unit {0}
HaveNoData (m ∷ sent) = (is_data m.mail ≡ false) × HaveNoData sent

pub no-data-append : (xs ys : List Sent) → HaveNoData xs → HaveNoData ys → HaveNoData (xs ++ ys)
no-data-append [] ys x y = y
no-data-append (m ∷ xs) ys x y = (x.0, no-data-append xs ys x.1 y)

no-data-if : (b : Bool) (xs ys : List Sent) → HaveNoData xs → HaveNoData ys → HaveNoData (cond b xs ys)
no-data-if true xs ys x y = x
no-data-if false xs ys x y = y

-- what is not data isn't saved
pub unsaved : (port : ℕ) (m : Mail) → is_data m ≡ false → saved_mail port m ≡ []
unsaved port (mail.Message from flag bytes) none = absurd (cc)
unsaved port m none = refl

none-saved : (port process : ℕ) (sent : List Sent) → HaveNoData sent → saved_of port (mail_for process sent) ≡ []
none-saved port process [] none = refl
none-saved port process (m ∷ sent) none = at (eqb m.to process) (none-saved port process sent none.1) where
  at : (b : Bool) → saved_of port (mail_for process sent) ≡ [] → flat_map (saved_mail port) (map (λ (m : Sent). m.mail) (cond b (m ∷ filter (λ (m : Sent). eqb m.to process) sent) (filter (λ (m : Sent). eqb m.to process) sent))) ≡ []
  at true rest = ap (λ xs. xs ++ flat_map (saved_mail port) (map (λ (m : Sent). m.mail) (filter (λ (m : Sent). eqb m.to process) sent))) (unsaved port m.mail none.0) ∙ rest
  at false rest = rest

pub saved-append : (port : ℕ) (xs ys : List Mail) → saved_of port (xs ++ ys) ≡ saved_of port xs ++ saved_of port ys
saved-append port xs ys = flat_map-append (saved_mail port) xs ys

mail_for-append : (process : ℕ) (xs ys : List Sent) → mail_for process (xs ++ ys) ≡ mail_for process xs ++ mail_for process ys
mail_for-append process xs ys =
    ap (map (λ (m : Sent). m.mail)) (filter-append (λ (m : Sent). eqb m.to process) xs ys)
    ∙ map-append (λ (m : Sent). m.mail) (filter (λ (m : Sent). eqb m.to process) xs) (filter (λ (m : Sent). eqb m.to process) ys)

-- what the effects of a row send the owner
effects-saved : (port owner : ℕ) (effects : List Effect) → saved_of port (mail_for owner (flat_map (effect_mail port owner) effects)) ≡ saved_messages (messages_in effects)
effects-saved port owner [] = refl
effects-saved port owner (Data flag bytes ∷ effects) =
    let rest = effects-saved port owner effects in
    let sent = flat_map (effect_mail port owner) effects in
    ap (λ (b : Bool). saved_of port (map (λ (m : Sent). m.mail) (cond b (send owner (mail.Message port flag bytes) ∷ filter (λ (m : Sent). eqb m.to owner) sent) (filter (λ (m : Sent). eqb m.to owner) sent))))
    (eqb-same owner)
    ∙ (ap (λ (b : Bool). cond b (bytes ++ line_end flag) [] ++ saved_of port (mail_for owner sent)) (eqb-same port) ∙ ap (λ xs. (bytes ++ line_end flag) ++ xs) rest)
effects-saved port owner (TellEof ∷ effects) = skip (mail.Eof port) refl (flat_map (effect_mail port owner) effects) ∙ effects-saved port owner effects where
  skip : (m : Mail) → is_data m ≡ false → (sent : List Sent) → saved_of port (mail_for owner (send owner m ∷ sent)) ≡ saved_of port (mail_for owner sent)
  skip m none sent =
      ap (saved_of port) (mail_for-append owner (send owner m ∷ []) sent)
      ∙ (saved-append port (mail_for owner (send owner m ∷ [])) (mail_for owner sent) ∙ ap (λ xs. xs ++ saved_of port (mail_for owner sent)) (none-saved port owner (send owner m ∷ []) (none, tt)))
effects-saved port owner (TellStatus status ∷ effects) = skip (mail.Status port status) refl (flat_map (effect_mail port owner) effects) ∙ effects-saved port owner effects where
  skip : (m : Mail) → is_data m ≡ false → (sent : List Sent) → saved_of port (mail_for owner (send owner m ∷ sent)) ≡ saved_of port (mail_for owner sent)
  skip m none sent =
      ap (saved_of port) (mail_for-append owner (send owner m ∷ []) sent)
      ∙ (saved-append port (mail_for owner (send owner m ∷ [])) (mail_for owner sent) ∙ ap (λ xs. xs ++ saved_of port (mail_for owner sent)) (none-saved port owner (send owner m ∷ []) (none, tt)))
effects-saved port owner (effect ∷ effects) = effects-saved port owner effects

-- answers, and what a close tells, are no data
answer-none : (port : Opening) (ties : Ties) (from seq : ℕ) (effects : List Effect) (signal : Signal) → HaveNoData (answer_mail port ties from seq effects signal)
answer-none port ties from seq effects (OwnerCommand payload) = no-data-if (eqb from ties.owner) [] (bad_signal port.number ties.owner) tt (refl, tt)
answer-none port ties from seq effects (Control op bytes) = (refl, tt)
answer-none port ties from seq effects (Call op bytes) = (refl, tt)
answer-none port ties from seq effects Close = (refl, tt)
answer-none port ties from seq effects OwnerClose = no-data-if (eqb from ties.owner) [] (bad_signal port.number ties.owner) tt (refl, tt)
answer-none port ties from seq effects (Connect process) = (refl, tt)
answer-none port ties from seq effects (OwnerConnect process) =
    no-data-if (eqb from ties.owner && may_own port ties process) (send from (mail.Connected port.number) ∷ []) (bad_signal port.number ties.owner) (refl, tt) (refl, tt)
answer-none port ties from seq effects signal = tt

pub answers-none : (port : Opening) (ties : Ties) (from : Sender) (seq : ℕ) (effects : List Effect) (signal : Signal) → HaveNoData (answers port ties from seq effects signal)
answers-none port ties (Process process) seq effects signal = answer-none port ties process seq effects signal
answers-none port ties from seq effects signal = tt

exits-none : (port : ℕ) (reason processes : List ℕ) → HaveNoData (map (λ process. send process (mail.Exit port reason)) processes)
exits-none port reason [] = tt
exits-none port reason (process ∷ processes) = (refl, exits-none port reason processes)

downs-none : (port : ℕ) (reason : List ℕ) (monitors : List MonitorEntry) → HaveNoData (map (λ (m : MonitorEntry). send m.process (mail.Down port m.number reason)) monitors)
downs-none port reason [] = tt
downs-none port reason (m ∷ monitors) = (refl, downs-none port reason monitors)

pub closing-none : (port : ℕ) (reason : Option (List ℕ)) (ties : Ties) → HaveNoData (closing_mail port reason ties)
closing-none port None ties = tt
closing-none port (Some reason) ties =
    no-data-append (map (λ process. send process (mail.Exit port (told_reason reason))) ties.linked) (map (λ (m : MonitorEntry). send m.process (mail.Down port m.number (told_reason reason))) ties.monitors)
    (exits-none port (told_reason reason) ties.linked) (downs-none port (told_reason reason) ties.monitors)

pub closed-none : (port : ℕ) (stops : Bool) (closer : Option ℕ) → HaveNoData (closed_mail port stops closer)
closed-none port true (Some process) = (refl, tt)
closed-none port true None = tt
closed-none port false closer = tt

pub late-none : (port from seq : ℕ) (signal : Signal) → HaveNoData (late_mail port from seq signal)
late-none port from seq (Control op bytes) = (refl, tt)
late-none port from seq (Call op bytes) = (refl, tt)
late-none port from seq Close = (refl, tt)
late-none port from seq (Connect process) = (refl, tt)
late-none port from seq Link = (refl, tt)
late-none port from seq (Monitor number) = (refl, tt)
late-none port from seq signal = tt

-- what is no data adds nothing to what is saved
behind : (port process : ℕ) (xs ys : List Sent) → HaveNoData ys → saved_of port (mail_for process (xs ++ ys)) ≡ saved_of port (mail_for process xs)
behind port process xs ys none =
    ap (saved_of port) (mail_for-append process xs ys)
    ∙ (saved-append port (mail_for process xs) (mail_for process ys) ∙ (ap (λ zs. saved_of port (mail_for process xs) ++ zs) (none-saved port process ys none) ∙ append-nil (saved_of port (mail_for process xs))))

-- what a handled row sends the owner is the data of its effects
handled-saved : (port : Opening) (older : List Row) (from : Sender) (seq : ℕ) (task : TaskView) (outside : List Outside) (effects : List Effect) → (state port older).ties.owner ≡ port.owner
    → saved_of port.number (mail_for port.owner (row_mail port (state port older) (Handled from seq task outside effects))) ≡ saved_messages (messages_in effects)
handled-saved port older from seq task outside effects owner =
    let s = state port older in
    let t = taken_of from seq task outside effects in
    let data' = flat_map (effect_mail port.number s.ties.owner) effects in
    let told = answers port s.ties from seq effects task.signal in
    let closing = closing_mail port.number (closing_reason s t) (tied port s.ties from task.signal) in
    let closed = closed_mail port.number (stops port s t) (closer_after s t) in
    behind port.number port.owner (data' ++ told ++ closing) closed (closed-none port.number (stops port s t) (closer_after s t))
    ∙ (behind port.number port.owner (data' ++ told) closing (closing-none port.number (closing_reason s t) (tied port s.ties from task.signal))
    ∙ (behind port.number port.owner data' told (answers-none port s.ties from seq effects task.signal)
    ∙ (ap (λ n. saved_of port.number (mail_for port.owner (flat_map (effect_mail port.number n) effects))) owner ∙ effects-saved port.number port.owner effects)))

-- a row without messages that sends the owner no data
quiet-row : (port : Opening) (row : Row) (older : List Row) → messages_in (effects_of row) ≡ [] → HaveNoData (row_mail port (state port older) row)
    → saved_of port.number (mails port port.owner older) ≡ saved_messages (messages_sent older)
    → saved_of port.number (mails port port.owner (row ∷ older)) ≡ saved_messages (messages_sent (row ∷ older))
quiet-row port row older none nothing before =
    at (has port.owner (state port (row ∷ older)).ties.ended) ∙ (before ∙ ap saved_messages (sym (ap (λ ms. messages_sent older ++ ms) none ∙ append-nil (messages_sent older))))
  where
    at : (b : Bool) → saved_of port.number (cond b (mails port port.owner older) (mails port port.owner older ++ mail_for port.owner (row_mail port (state port older) row))) ≡ saved_of port.number (mails port port.owner older)
    at true = refl
    at false =
        saved-append port.number (mails port port.owner older) (mail_for port.owner (row_mail port (state port older) row))
        ∙ (ap (λ xs. saved_of port.number (mails port port.owner older) ++ xs) (none-saved port.number port.owner (row_mail port (state port older) row) nothing) ∙ append-nil _)

-- a row in which or before which the owner has ended has no messages
ended-none : (port : Opening) (from : Sender) (seq : ℕ) (task : TaskView) (outside : List Outside) (effects : List Effect) (older : List Row) → is_connect task.signal ≡ false
    → OwnerStays (spawning port) older → has port.owner (state (spawning port) (Handled from seq task outside effects ∷ older)).ties.ended ≡ true
    → (messages_in effects ≡ []) ⊎ ((is_open (state (spawning port) older) ≡ true) × ((event : ℕ) × (task.signal ≡ Ready event Read))) → messages_in effects ≡ []
ended-none port from seq task outside effects older keeps stays is (inl none) = none
ended-none port from seq task outside effects older keeps stays is (inr reads) =
    at (handled-ended (spawning port) (state (spawning port) older) (taken_of from seq task outside effects) keeps is)
  where
    no-end : (from : Sender) (event : ℕ) → TellsEnd port.owner from (Ready event Read) → ⊥
    no-end (Process from) event ends = ends
    no-end from event ends = ends

    at : TellsEnd port.owner from task.signal ⊎ (has port.owner (state (spawning port) older).ties.ended ≡ true) → messages_in effects ≡ []
    at (inl ends) = absurd (no-end from reads.1.0 (subst (λ sg. TellsEnd port.owner from sg) reads.1.1 ends))
    at (inr was) = bad (is_open (state (spawning port) older)) reads.0 (stays.closed was)

handled-row : (port : Opening) (from : Sender) (seq : ℕ) (task : TaskView) (outside : List Outside) (effects : List Effect) (older : List Row) → is_connect task.signal ≡ false
    → Stands port older → OwnerStays (spawning port) older → KeepsLaws (spawning port) (state (spawning port) older) (Handled from seq task outside effects)
    → saved_of port.number (mails (spawning port) port.owner older) ≡ saved_messages (messages_sent older)
    → saved_of port.number (mails (spawning port) port.owner (Handled from seq task outside effects ∷ older)) ≡ saved_messages (messages_sent (Handled from seq task outside effects ∷ older))
handled-row port from seq task outside effects older keeps before stays lawful saved =
    let p = spawning port in
    let row : Row = Handled from seq task outside effects in
    let sent = mail_for port.owner (row_mail p (state p older) row) in
    elim (has port.owner (state p (row ∷ older)).ties.ended) as (λ b. has port.owner (state p (row ∷ older)).ties.ended ≡ b
    → saved_of port.number (cond b (mails p port.owner older) (mails p port.owner older ++ sent)) ≡ saved_messages (messages_sent older ++ messages_in effects)) [
      | true ↦ λ is.
          let none = ended-none port from seq task outside effects older keeps stays is (only-input port from seq task outside effects older before lawful) in
          saved ∙ ap saved_messages (sym (ap (λ ms. messages_sent older ++ ms) none ∙ append-nil (messages_sent older)))
      | false ↦ λ is.
          saved-append port.number (mails p port.owner older) sent
          ∙ (ap (λ xs. xs ++ saved_of port.number sent) saved ∙ (ap (λ xs. saved_messages (messages_sent older) ++ xs) (handled-saved p older from seq task outside effects stays.owner)
          ∙ sym (flat_map-append (λ (m : Message). m.bytes ++ line_end m.flag) (messages_sent older) (messages_in effects))))
    ] refl

pub late-row : (port : Opening) (s : State) (from : Sender) (seq : ℕ) (task : TaskView) → HaveNoData (row_mail port s (Late from seq task))
late-row port s (Process process) seq task = late-none port.number process seq task.signal
late-row port s from seq task = tt

pub resumed-row : (port : Opening) (s : State) (from : Sender) (seq word : ℕ) → HaveNoData (row_mail port s (Resumed from seq word))
resumed-row port s (Process process) seq word = (refl, tt)
resumed-row port s from seq word = tt

-- what is saved of the mail to the owner is what is saved of the messages
pub messages-saved : (port : Opening) (history : List Row) → IsServed port.config.mode → Lawful (spawning port) history → KeepsOwner history
    → saved_of port.number (mails (spawning port) port.owner history) ≡ saved_messages (messages_sent history)
messages-saved port [] served lawful keeps = refl
messages-saved port (Handled from seq task outside effects ∷ older) served lawful keeps =
    handled-row port from seq task outside effects older keeps.0 (stands port older served lawful.1) (owner-stays (spawning port) older lawful.1 keeps.1) lawful.0 (messages-saved port older served lawful.1 keeps.1)
messages-saved port (Late from seq task ∷ older) served lawful keeps =
    quiet-row (spawning port) (Late from seq task) older refl (late-row (spawning port) (state (spawning port) older) from seq task) (messages-saved port older served lawful.1 keeps)
messages-saved port (Listed from seq ∷ older) served lawful keeps = quiet-row (spawning port) (Listed from seq) older refl tt (messages-saved port older served lawful.1 keeps)
messages-saved port (Resumed from seq word ∷ older) served lawful keeps =
    quiet-row (spawning port) (Resumed from seq word) older refl (resumed-row (spawning port) (state (spawning port) older) from seq word) (messages-saved port older served lawful.1 keeps)
messages-saved port (Mark kind ∷ older) served lawful keeps = quiet-row (spawning port) (Mark kind) older refl tt (messages-saved port older served lawful.1 keeps)

-- of a stream the bytes are saved
stream-saved : (messages : List Message) → All IsStreamed messages → saved_messages messages ≡ flat_map (λ (m : Message). m.bytes) messages
stream-saved [] each = refl
stream-saved (m ∷ messages) each =
    let here = All-head IsStreamed m messages each in
    ap (λ (f : Flag). (m.bytes ++ line_end f) ++ saved_messages messages) here.0
    ∙ (ap (λ xs. xs ++ saved_messages messages) (append-nil m.bytes) ∙ ap (λ xs. m.bytes ++ xs) (stream-saved messages (All-tail IsStreamed m messages each)))

-- what is saved of messages of bytes is a function of these
pub saved-is : (mode : Mode) (bytes : List ℕ) (ended : Bool) (messages : List Message) → AreMessages mode bytes ended messages → saved_messages messages ≡ saved_output mode bytes ended
saved-is Packet1 bytes ended messages are = ap saved_messages are
saved-is Packet2 bytes ended messages are = ap saved_messages are
saved-is Packet4 bytes ended messages are = ap saved_messages are
saved-is (Line limit) bytes ended messages are = ap saved_messages are
saved-is Stream bytes ended messages are = stream-saved messages are.each ∙ sym are.whole

pub output-is-saved : OutputIsSaved
output-is-saved port history of keeps =
    let served = is-served port.config.mode of.served in
    let lawful = subst (λ p. Lawful p history) (as-spawning port of.kind) of.lawful in
    ap (λ p. saved_of port.number (mails p port.owner history)) (as-spawning port of.kind)
    ∙ (messages-saved port history served lawful keeps
    ∙ saved-is port.config.mode (bytes_kept port.config.mode history) (has_ended history) (messages_sent history) (stands port history served lawful).messages)

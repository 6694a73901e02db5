-- The messages that a port sends whose driver sends the data of each command back.
use Rattle.std.proofs.Common.{◌≡◌, ℕ, ◌+◌, ◌≤◌, List, [], ◌∷◌, ◌++◌, length, Bool, true, false, cond, eqb, ◌&&◌, Option, Some, None, refl, sym, ap, ◌∙◌, arith, map, length-append}
use Rattle.std.specs.Prelude.{filter}
use Rattle.std.specs.List.{flat_map}
use Rattle.std.proofs.lemmas.Bool.{eq-eqb, ne_eqb}
use Rattle.std.proofs.lemmas.List.{map-append}
use Rattle.std.proofs.lemmas.List.Elements.{filter-append}
use Rattle.driver_model.specs.Calls.{Echo}
use Rattle.port_model.specs.port_signal.Links.{has}
use Rattle.port_model.specs.port_signal.Reasons.{told_reason}
use Rattle.port_model.specs.port_signal.declared.monitor.Monitor.{Monitor as MonitorEntry}
use Rattle.port_model.specs.port_signal.declared.outside.Outside.{Outside}
use Rattle.port_model.specs.declared.effect.Effect.{Effect}
use Rattle.port_model.specs.declared.effect.Effect.TheVariants.{Message as Data}
use Rattle.port_model.specs.declared.mail.Mail.{Mail}
use Rattle.port_model.specs.declared.mail.Mail.TheVariants.{Connected, Down, Exit, Message}
use Rattle.port_model.specs.declared.row.Row.{Row}
use Rattle.port_model.specs.declared.row.Row.TheVariants.{Handled, Late, Listed, Resumed, Mark}
use Rattle.port_model.specs.declared.signal.Sender.{Sender}
use Rattle.port_model.specs.declared.signal.Sender.TheVariants.{Process}
use Rattle.port_model.specs.declared.signal.Signal.{Signal}
use Rattle.port_model.specs.declared.signal.Signal.TheVariants.{OwnerCommand, Control, Call, Close, OwnerClose, Connect, OwnerConnect, Link, Monitor}
use Rattle.port_model.specs.Tasks.{TaskView}
use Rattle.port_history.specs.Counts.{handled_commands}
use Rattle.port_history.specs.Lawful.{Lawful}
use Rattle.port_history.specs.Mail.{Sent, answer_mail, answers, bad_signal, closed_mail, closing_mail, effect_mail, handled_mail, late_mail, mail_for, mails, row_mail, send}
use Rattle.port_history.specs.Opening.{Opening, Taken, taken_of}
use Rattle.port_history.specs.State.{State, closer_after, closing_reason, state, stops}
use Rattle.port_history.specs.Ties.{Ties, may_own, tied}
use Rattle.command_counts.specs.Rows.{is_message_of, messages_of}
use Rattle.command_counts.specs.Laws.{EchoSendsOneMessageEach}
use Rattle.command_counts.proofs.Effects.{echoes-row, message_count, one_message}

-- all mail that is sent, whoever gets it
abbrev all_mail : List Sent → List Mail
all_mail sent = map (λ (m : Sent). m.mail) sent

messages-append : (number : ℕ) (xs ys : List Mail) → messages_of number (xs ++ ys) ≡ messages_of number xs + messages_of number ys
messages-append number xs ys = ap length (filter-append (is_message_of number) xs ys) ∙ length-append (filter (is_message_of number) xs) (filter (is_message_of number) ys)

sent-append : (number : ℕ) (xs ys : List Sent) → messages_of number (all_mail (xs ++ ys)) ≡ messages_of number (all_mail xs) + messages_of number (all_mail ys)
sent-append number xs ys = ap (messages_of number) (map-append (λ (m : Sent). m.mail) xs ys) ∙ messages-append number (all_mail xs) (all_mail ys)

one-more : (number : ℕ) (m : Mail) (mails : List Mail) → messages_of number (m ∷ mails) ≡ cond (is_message_of number m) 1 0 + messages_of number mails
one-more number m mails = go (is_message_of number m)
  where
    go : (b : Bool) → length (cond b (m ∷ filter (is_message_of number) mails) (filter (is_message_of number) mails)) ≡ cond b 1 0 + messages_of number mails
    go true = omega arith
    go false = omega arith

-- one process gets no more of it than all
for-few : (number process : ℕ) (sent : List Sent) → messages_of number (mail_for process sent) ≤ messages_of number (all_mail sent)
for-few number process [] = omega arith
for-few number process (m ∷ sent) = go (eqb m.to process) (for-few number process sent)
  where
    go : (b : Bool) → messages_of number (mail_for process sent) ≤ messages_of number (all_mail sent)
        → messages_of number (all_mail (cond b (m ∷ filter (λ (x : Sent). eqb x.to process) sent) (filter (λ (x : Sent). eqb x.to process) sent))) ≤ messages_of number (m.mail ∷ all_mail sent)
    go true few = let some = one-more number m.mail (mail_for process sent) in let all = one-more number m.mail (all_mail sent) in omega (arith, few, some, all)
    go false few = let all = one-more number m.mail (all_mail sent) in omega (arith, few, all)

-- what is sent is no data
abbrev HasNone : List Sent → Type 0
HasNone sent = (number : ℕ) → messages_of number (all_mail sent) ≡ 0

if-none : (b : Bool) (xs ys : List Sent) → HasNone xs → HasNone ys → HasNone (cond b xs ys)
if-none true xs ys x y = x
if-none false xs ys x y = y

both-none : (xs ys : List Sent) → HasNone xs → HasNone ys → HasNone (xs ++ ys)
both-none xs ys x y = λ number. let parts = sent-append number xs ys in let a = x number in let b = y number in omega (arith, parts, a, b)

answer-none : (port : Opening) (ties : Ties) (from seq : ℕ) (effects : List Effect) (signal : Signal) → HasNone (answer_mail port ties from seq effects signal)
answer-none port ties from seq effects (OwnerCommand payload) = if-none (eqb from ties.owner) [] (bad_signal port.number ties.owner) (λ n. refl) (λ n. refl)
answer-none port ties from seq effects OwnerClose = if-none (eqb from ties.owner) [] (bad_signal port.number ties.owner) (λ n. refl) (λ n. refl)
answer-none port ties from seq effects (OwnerConnect process) =
    if-none (eqb from ties.owner && may_own port ties process) (send from (Connected port.number) ∷ []) (bad_signal port.number ties.owner) (λ n. refl) (λ n. refl)
answer-none port ties from seq effects signal = λ n. refl

answers-none : (port : Opening) (ties : Ties) (from : Sender) (seq : ℕ) (effects : List Effect) (signal : Signal) → HasNone (answers port ties from seq effects signal)
answers-none port ties (Process process) seq effects signal = answer-none port ties process seq effects signal
answers-none port ties from seq effects signal = λ n. refl

exits-none : (port : ℕ) (reason linked : List ℕ) → HasNone (map (λ process. send process (Exit port reason)) linked)
exits-none port reason [] = λ n. refl
exits-none port reason (process ∷ linked) = λ n. exits-none port reason linked n

downs-none : (port : ℕ) (reason : List ℕ) (monitors : List MonitorEntry) → HasNone (map (λ (m : MonitorEntry). send m.process (Down port m.number reason)) monitors)
downs-none port reason [] = λ n. refl
downs-none port reason (m ∷ monitors) = λ n. downs-none port reason monitors n

closing-none : (port : ℕ) (reason : Option (List ℕ)) (ties : Ties) → HasNone (closing_mail port reason ties)
closing-none port None ties = λ n. refl
closing-none port (Some reason) ties =
    both-none (map (λ process. send process (Exit port (told_reason reason))) ties.linked) (map (λ (m : MonitorEntry). send m.process (Down port m.number (told_reason reason))) ties.monitors)
    (exits-none port (told_reason reason) ties.linked) (downs-none port (told_reason reason) ties.monitors)

closed-none : (port : ℕ) (stops : Bool) (closer : Option ℕ) → HasNone (closed_mail port stops closer)
closed-none port true (Some process) = λ n. refl
closed-none port true None = λ n. refl
closed-none port false closer = λ n. refl

late-none : (port from seq : ℕ) (signal : Signal) → HasNone (late_mail port from seq signal)
late-none port from seq (Control op bytes) = λ n. refl
late-none port from seq (Call op bytes) = λ n. refl
late-none port from seq Close = λ n. refl
late-none port from seq (Connect process) = λ n. refl
late-none port from seq Link = λ n. refl
late-none port from seq (Monitor number) = λ n. refl
late-none port from seq signal = λ n. refl

-- the data among the effects of a row
cond-sum : (b : Bool) (n m : ℕ) → cond b n 0 + cond b m 0 ≡ cond b (n + m) 0
cond-sum true n m = refl
cond-sum false n m = refl

none-either : (b : Bool) → ◌≡◌ {A = ℕ} 0 (cond b 0 0)
none-either true = refl
none-either false = refl

effect-messages : (number port owner : ℕ) (effect : Effect) → messages_of number (all_mail (effect_mail port owner effect)) ≡ cond (eqb port number) (one_message effect) 0
effect-messages number port owner (Data flag bytes) = go (eqb port number)
  where
    go : (b : Bool) → length (cond b (Message port flag bytes ∷ []) []) ≡ cond b 1 0
    go true = refl
    go false = refl
effect-messages number port owner effect = none-either (eqb port number)

effects-messages : (number port owner : ℕ) (effects : List Effect) → messages_of number (all_mail (flat_map (effect_mail port owner) effects)) ≡ cond (eqb port number) (message_count effects) 0
effects-messages number port owner [] = none-either (eqb port number)
effects-messages number port owner (effect ∷ effects) =
    sent-append number (effect_mail port owner effect) (flat_map (effect_mail port owner) effects)
    ∙ (λ i. effect-messages number port owner effect i + effects-messages number port owner effects i)
    ∙ cond-sum (eqb port number) (one_message effect) (message_count effects)

handled-messages : (number : ℕ) (port : Opening) (s : State) (t : Taken) → messages_of number (all_mail (handled_mail port s t)) ≡ cond (eqb port.number number) (message_count t.effects) 0
handled-messages number port s t =
    let own = flat_map (effect_mail port.number s.ties.owner) t.effects in
    let answer = answers port s.ties t.from t.seq t.effects t.task.signal in
    let closing = closing_mail port.number (closing_reason s t) (tied port s.ties t.from t.task.signal) in
    let closed = closed_mail port.number (stops port s t) (closer_after s t) in
    let one = sent-append number (own ++ answer ++ closing) closed in
    let two = sent-append number (own ++ answer) closing in
    let three = sent-append number own answer in
    let a = effects-messages number port.number s.ties.owner t.effects in
    let b = answers-none port s.ties t.from t.seq t.effects t.task.signal number in
    let c = closing-none port.number (closing_reason s t) (tied port s.ties t.from t.task.signal) number in
    let d = closed-none port.number (stops port s t) (closer_after s t) number in
    omega (arith, one, two, three, a, b, c, d)

other-row : (port : Opening) (s : State) (row : Row) → ((from : Sender) (seq : ℕ) (task : TaskView) (outside : List Outside) (effects : List Effect) → row ≡ Handled from seq task outside effects → ⊥)
    → HasNone (row_mail port s row)
other-row port s (Handled from seq task outside effects) other = absurd (other from seq task outside effects refl)
other-row port s (Late (Process process) seq task) other = late-none port.number process seq task.signal
other-row port s (Late from seq task) other = λ n. refl
other-row port s (Listed from seq) other = λ n. refl
other-row port s (Resumed (Process process) seq word) other = λ n. refl
other-row port s (Resumed from seq word) other = λ n. refl
other-row port s (Mark kind) other = λ n. refl

-- one row more
more-mail : (number : ℕ) (port : Opening) (process : ℕ) (row : Row) (older : List Row)
    → messages_of number (mails port process (row ∷ older)) ≤ messages_of number (mails port process older) + messages_of number (all_mail (row_mail port (state port older) row))
more-mail number port process row older = go (has process (state port (row ∷ older)).ties.ended)
  where
    sent : List Sent
    sent = row_mail port (state port older) row

    go : (b : Bool) → messages_of number (cond b (mails port process older) (mails port process older ++ mail_for process (row_mail port (state port older) row)))
        ≤ messages_of number (mails port process older) + messages_of number (all_mail (row_mail port (state port older) row))
    go true = omega arith
    go false =
        let parts = messages-append number (mails port process older) (mail_for process (row_mail port (state port older) row)) in
        let few = for-few number process (row_mail port (state port older) row) in
        omega (arith, parts, few)

-- the messages of a number that a process is sent
few-messages : (number : ℕ) (port : Opening) (process : ℕ) (history : List Row) → port.kind ≡ Echo → Lawful port history
    → messages_of number (mails port process history) ≤ cond (eqb port.number number) (handled_commands port history) 0
few-messages number port process [] echo lawful = omega arith
few-messages number port process (Handled from seq task outside effects ∷ older) echo lawful =
    let s = state port older in
    let t = taken_of from seq task outside effects in
    let row = Handled from seq task outside effects in
    let before = few-messages number port process older echo lawful.1 in
    let more = more-mail number port process row older in
    let here = handled-messages number port s t in
    let echoes = echoes-row port s t echo lawful.0.effects in
    let calls : handled_commands port (row ∷ older) ≡ message_count effects + handled_commands port older = echoes.messages in
    let sum = cond-sum (eqb port.number number) (message_count effects) (handled_commands port older) ∙ ap (λ n. cond (eqb port.number number) n 0) (sym calls) in
    omega (arith, before, more, here, sum)
few-messages number port process (Late from seq task ∷ older) echo lawful =
    let before = few-messages number port process older echo lawful.1 in
    let more = more-mail number port process (Late from seq task) older in
    let none = other-row port (state port older) (Late from seq task) (λ f q k o e is. cc) number in
    omega (arith, before, more, none)
few-messages number port process (Listed from seq ∷ older) echo lawful =
    let before = few-messages number port process older echo lawful.1 in
    let more = more-mail number port process (Listed from seq) older in
    omega (arith, before, more)
few-messages number port process (Resumed from seq word ∷ older) echo lawful =
    let before = few-messages number port process older echo lawful.1 in
    let more = more-mail number port process (Resumed from seq word) older in
    let none = other-row port (state port older) (Resumed from seq word) (λ f q k o e is. cc) number in
    omega (arith, before, more, none)
few-messages number port process (Mark kind ∷ older) echo lawful =
    let before = few-messages number port process older echo lawful.1 in
    let more = more-mail number port process (Mark kind) older in
    omega (arith, before, more)

pub sends-one-each : EchoSendsOneMessageEach
sends-one-each port process history echo lawful = record {
  own = let few = few-messages port.number port process history echo lawful in
      let same = ap (λ b. cond b (handled_commands port history) 0) (eq-eqb port.number port.number refl) in
      omega (arith, few, same);
  other = λ number apart. let few = few-messages number port process history echo lawful in
      let none = ap (λ b. cond b (handled_commands port history) 0) (ne_eqb port.number number (λ e. apart (sym e))) in
      omega (arith, few, none);
}

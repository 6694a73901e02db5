-- What fits its types and names what is there lies in the ranges of a book.
use Rattle.std.proofs.Common.{◌≡◌, ℕ, ◌<◌, ◌^◌, List, [], ◌∷◌, length, Bool, true, false, ◌&&◌, ◌||◌, Option, refl, ap, subst, append-nil}
use Rattle.std.specs.Prelude.{All, is_none, nat_lt, if◌then◌else◌}
use Rattle.std.specs.List.{concat, list_all}
use Rattle.std.proofs.lemmas.Bool.{lt-ltb, le-leb, and_from}
use Rattle.std.proofs.lemmas.List.Elements.{All-head, All-tail}
use Rattle.port_model.specs.port_signal.declared.outside.Outside.{Outside}
use Rattle.port_model.specs.port_signal.declared.outside.Outside.TheVariants.{Took, Got, Again, End, Failed, Status}
use Rattle.port_model.specs.declared.effect.Effect.{Effect}
use Rattle.port_model.specs.declared.effect.Effect.TheVariants as effect
use Rattle.port_model.specs.declared.row.Row.{Row}
use Rattle.port_model.specs.declared.row.Row.TheVariants.{Handled, Late, Listed, Resumed, Mark}
use Rattle.port_model.specs.declared.signal.Sender.{Sender}
use Rattle.port_model.specs.declared.signal.Sender.TheVariants.{Process, Poller, Worker, Timer}
use Rattle.port_model.specs.declared.signal.Signal.{Signal}
use Rattle.port_model.specs.declared.signal.Signal.TheVariants.{Command, OwnerCommand, Control, Call, Close, OwnerClose, Connect, OwnerConnect, Link, Unlink, Monitor, Demonitor, Exit, Gone, Ready, Dropped, AsyncDone}
use Rattle.port_model.specs.Signals.{is_command}
use Rattle.port_model.specs.Tasks.{TaskView}
use Rattle.journal_text.specs.declared.book.PortReport.{PortReport}
use Rattle.journal_text.specs.Words.{are_bytes, is_name}
use Rattle.journal_text.specs.Signals.{are_flags, is_payload, is_sender, is_signal, is_task}
use Rattle.journal_text.specs.Effects.{is_answer, is_effect}
use Rattle.journal_text.specs.Rows.{is_row}
use Rattle.journal_text.specs.Ports.{is_port, is_report, is_spawn, line_of, without_program}
use Rattle.journal_text.specs.Books.{BookView, is_book}
use Rattle.run_laws.specs.Ranges.{AreBytes, IsName, SenderFits, SignalFits, TaskFits, AnswerFits, EffectFits, RowFits, PortFits}
use Rattle.run_laws.proofs.journals.Named.{IsOneSegment, SenderNames, SignalNames, EffectNames, RowNames, PortNames, IsWithin}

-- each element passes a test where it is so
all-pass : {A : Type 0} (P : A → Type 0) (test : A → Bool) (xs : List A) → ((x : A) → P x → test x ≡ true) → All P xs → list_all test xs ≡ true
all-pass P test [] passes all = refl
all-pass P test (x ∷ xs) passes all = and_from (test x) (list_all test xs) (passes x (All-head P x xs all)) (all-pass P test xs passes (All-tail P x xs all))

-- and so do those for which two things are so
all-pass-both : {A : Type 0} (P Q : A → Type 0) (test : A → Bool) (xs : List A) → ((x : A) → P x → Q x → test x ≡ true) → All P xs → All Q xs → list_all test xs ≡ true
all-pass-both P Q test [] passes all other = refl
all-pass-both P Q test (x ∷ xs) passes all other =
    and_from (test x) (list_all test xs) (passes x (All-head P x xs all) (All-head Q x xs other)) (all-pass-both P Q test xs passes (All-tail P x xs all) (All-tail Q x xs other))

bytes-pass : (bytes : List ℕ) → AreBytes bytes → are_bytes bytes ≡ true
bytes-pass bytes all = all-pass (λ byte. byte < 256) (λ byte. nat_lt byte 256) bytes (λ byte lt. lt-ltb byte 256 lt) all

name-passes : (name : List ℕ) → IsName name → is_name name ≡ true
name-passes name named = ap (λ (fault : Option ℕ). is_none fault) named

payload-passes : (payload : List (List ℕ)) → IsOneSegment payload → AreBytes (concat payload) → is_payload payload ≡ true
payload-passes [] one all = refl
payload-passes ((byte ∷ bytes) ∷ []) one all = bytes-pass (byte ∷ bytes) (subst AreBytes (append-nil (byte ∷ bytes)) all)
payload-passes payload one all = absurd one

sender-passes : (names : ℕ) (from : Sender) → SenderFits from → SenderNames names from → is_sender names from ≡ true
sender-passes names (Process process) fits named = lt-ltb process names named
sender-passes names Poller fits named = refl
sender-passes names (Worker worker) fits named = lt-ltb worker (2 ^ 32) fits
sender-passes names Timer fits named = refl

signal-passes : (names : ℕ) (signal : Signal) → SignalFits signal → SignalNames names signal → is_signal names signal ≡ true
signal-passes names (Command payload) fits named = payload-passes payload named fits
signal-passes names (OwnerCommand payload) fits named = payload-passes payload named fits
signal-passes names (Control op bytes) fits named = and_from (nat_lt op (2 ^ 32)) (are_bytes bytes) (lt-ltb op (2 ^ 32) fits.0) (bytes-pass bytes fits.1)
signal-passes names (Call op bytes) fits named = and_from (nat_lt op (2 ^ 32)) (are_bytes bytes) (lt-ltb op (2 ^ 32) fits.0) (bytes-pass bytes fits.1)
signal-passes names Close fits named = refl
signal-passes names OwnerClose fits named = refl
signal-passes names (Connect process) fits named = lt-ltb process names named
signal-passes names (OwnerConnect process) fits named = lt-ltb process names named
signal-passes names Link fits named = refl
signal-passes names Unlink fits named = refl
signal-passes names (Monitor number) fits named = lt-ltb number (2 ^ 64) fits
signal-passes names (Demonitor number) fits named = lt-ltb number (2 ^ 64) fits
signal-passes names (Exit reason) fits named = name-passes reason fits
signal-passes names (Gone reason) fits named = name-passes reason fits
signal-passes names (Ready event dir) fits named = lt-ltb event (2 ^ 32) fits
signal-passes names (Dropped event) fits named = lt-ltb event (2 ^ 32) fits
signal-passes names (AsyncDone number output) fits named = and_from (nat_lt number (2 ^ 64)) (are_bytes output) (lt-ltb number (2 ^ 64) fits.0) (bytes-pass output fits.1)

flags-pass : (command suspends forced : Bool) → (suspends && forced) ≡ false → ((suspends || forced) ≡ true → command ≡ true) → are_flags command suspends forced ≡ true
flags-pass command true true alone only = absurd cc
flags-pass command true false alone only = rw (only refl) refl
flags-pass command false true alone only = rw (only refl) refl
flags-pass true false false alone only = refl
flags-pass false false false alone only = refl

task-passes : (names : ℕ) (task : TaskView) → TaskFits task → SignalNames names task.signal → is_task names task ≡ true
task-passes names task fits named =
    and_from (are_flags (is_command task.signal) task.suspends task.forced) (is_signal names task.signal)
    (flags-pass (is_command task.signal) task.suspends task.forced fits.0.alone fits.0.command) (signal-passes names task.signal fits.1 named)

answer-passes : (answer : Outside) → AnswerFits answer → is_answer answer ≡ true
answer-passes (Took count) fits = lt-ltb count (2 ^ 32) fits
answer-passes (Got bytes) fits = bytes-pass bytes fits
answer-passes Again fits = refl
answer-passes End fits = refl
answer-passes Failed fits = refl
answer-passes (Status status) fits = fits

effect-passes : (names : ℕ) (e : Effect) → EffectFits e → EffectNames names e → is_effect names e ≡ true
effect-passes names (effect.Message flag bytes) fits named = bytes-pass bytes fits
effect-passes names effect.Eof fits named = refl
effect-passes names (effect.Status status) fits named = fits
effect-passes names (effect.Busy busy) fits named = refl
effect-passes names (effect.Select event dir on) fits named = lt-ltb event (2 ^ 32) fits
effect-passes names (effect.Unuse event) fits named = lt-ltb event (2 ^ 32) fits
effect-passes names (effect.Async number key code input) fits named =
    and_from _ _ (lt-ltb number (2 ^ 64) fits.0) (and_from _ _ (lt-ltb key (2 ^ 32) fits.1) (and_from _ _ (lt-ltb code 256 fits.2) (bytes-pass input fits.3)))
effect-passes names (effect.Watch process) fits named = lt-ltb process names named
effect-passes names (effect.Reply bytes) fits named = bytes-pass bytes fits
effect-passes names effect.ReplyBadarg fits named = refl
effect-passes names (effect.Fail reason) fits named = name-passes reason fits

row-passes : (names : ℕ) (row : Row) → RowFits row → RowNames names row → is_row names row ≡ true
row-passes names (Handled from seq task outside effects) fits named =
    and_from _ _ (sender-passes names from fits.0.0 named.0) (and_from _ _ (lt-ltb seq (2 ^ 64) fits.0.1) (and_from _ _ (task-passes names task fits.1 named.1)
    (and_from _ _ (and_from _ _ (le-leb (length outside) 1048576 fits.2.0) (all-pass AnswerFits is_answer outside answer-passes fits.2.1))
    (and_from _ _ (le-leb (length effects) 1048576 fits.3.0) (all-pass-both EffectFits (EffectNames names) (is_effect names) effects (effect-passes names) fits.3.1 named.2)))))
row-passes names (Late from seq task) fits named =
    and_from _ _ (sender-passes names from fits.0.0 named.0) (and_from _ _ (lt-ltb seq (2 ^ 64) fits.0.1) (task-passes names task fits.1 named.1))
row-passes names (Listed from seq) fits named = and_from _ _ (sender-passes names from fits.0 named) (lt-ltb seq (2 ^ 64) fits.1)
row-passes names (Resumed from seq word) fits named =
    and_from _ _ (sender-passes names from fits.0.0 named) (and_from _ _ (lt-ltb seq (2 ^ 64) fits.0.1) (lt-ltb word (2 ^ 64) fits.1))
row-passes names (Mark kind) fits named = refl

program-passes : (port : PortReport) → PortFits port → (is_spawn port.driver ≡ false → without_program port.config port.events ≡ true)
    → (if is_spawn port.driver then are_bytes port.config.run && (nat_lt port.events.0 (2 ^ 32) && nat_lt port.events.1 (2 ^ 32)) else without_program port.config port.events) ≡ true
program-passes port fits plain = at (is_spawn port.driver) refl
  where
    at : (b : Bool) → is_spawn port.driver ≡ b
        → (if b then are_bytes port.config.run && (nat_lt port.events.0 (2 ^ 32) && nat_lt port.events.1 (2 ^ 32)) else without_program port.config port.events) ≡ true
    at true is =
        let program = fits.program is in
        and_from _ _ (bytes-pass port.config.run program.0) (and_from _ _ (lt-ltb port.events.0 (2 ^ 32) program.1) (lt-ltb port.events.1 (2 ^ 32) program.2))
    at false is = plain is

report-passes : (names : ℕ) (port : PortReport) → PortFits port → PortNames names port → is_report names port ≡ true
report-passes names port fits named =
    and_from (is_port names (line_of port)) (list_all (is_row names) port.journal.rows)
    (and_from _ _ (name-passes port.name fits.name) (and_from _ _ (lt-ltb port.owner names named.owner) (and_from _ _ named.driver (and_from _ _ named.config
    (and_from _ _ named.limits (program-passes port fits named.program))))))
    (all-pass-both RowFits (RowNames names) (is_row names) port.journal.rows (row-passes names) fits.rows named.rows)

pub within-is-book : (book : BookView) → IsWithin book → is_book book ≡ true
within-is-book book within =
    let names = length book.names in
    and_from _ _ (le-leb names 32 within.few_names) (and_from _ _ (all-pass IsName is_name book.names name-passes within.fit.0)
    (and_from _ _ (le-leb (length book.ports) 32 within.few_ports) (all-pass-both PortFits (PortNames names) (is_report names) book.ports (report-passes names) within.fit.1 within.ports)))

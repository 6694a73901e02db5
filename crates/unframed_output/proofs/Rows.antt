-- The rows of a program's port, one after another.
use Rattle.std.proofs.Common.{◌≡◌, ◌<◌, ℕ, List, [], ◌∷◌, ◌++◌, length, Bool, true, false, ◌&&◌, ◌||◌, not, cond, eqb, Option, Some, None, refl, sym, ◌∙◌, ap, subst, append_assoc, codes}
use Rattle.std.specs.Prelude.{nat_le, nat_lt, is_some}
use Rattle.std.proofs.lemmas.Bool.{and_parts, leb-true, eqb-true}
use Rattle.std.proofs.lemmas.List.{append-nil}
use Rattle.packet_framing.specs.declared.mode.Mode.{Mode}
use Rattle.packet_framing.specs.declared.message.Message.{Message}
use Rattle.packet_framing.specs.Messages.{IsServed, rest_of, last_message}
use Rattle.driver_model.specs.port_config.declared.config.Config.{Config}
use Rattle.driver_model.specs.port_signal.declared.outside.Outside.{Outside}
use Rattle.driver_model.specs.port_signal.declared.outside.Outside.TheVariants.{Got, Again, End, Failed}
use Rattle.driver_model.specs.port_model.declared.event.Dir.TheVariants.{Read}
use Rattle.driver_model.specs.port_model.declared.signal.Sender.{Sender}
use Rattle.driver_model.specs.port_model.declared.signal.Signal.{Signal}
use Rattle.driver_model.specs.port_model.declared.signal.Signal.TheVariants.{Ready}
use Rattle.driver_model.specs.port_model.declared.effect.Effect.{Effect}
use Rattle.driver_model.specs.port_model.declared.effect.Effect.TheVariants.{Fail}
use Rattle.driver_model.specs.port_model.declared.row.Row.{Row}
use Rattle.driver_model.specs.port_model.declared.row.Row.TheVariants.{Handled, Late, Listed, Resumed, Mark}
use Rattle.driver_model.specs.port_model.Tasks.{TaskView}
use Rattle.driver_model.specs.Calls.{Spawn, ReadyInput, DriverCall, call_of}
use Rattle.driver_model.specs.Same.{same_effects}
use Rattle.driver_model.specs.Spawn.{got_by, taken_bytes, unended_bytes, is_refused, is_oversize, most_taken, read_event, rest, brought, end_effects, fetch_effects, answers_fetch}
use Rattle.port_history.specs.Opening.{Opening, Taken, taken_of}
use Rattle.port_history.specs.Ties.{failure, signal_reason}
use Rattle.port_history.specs.Events.{unused, event_of, arm, select, selected_by, told_of}
use Rattle.port_history.specs.Service.{callback_of, caller_of, calls_by, effects_after, stop_calls, flush_calls, first_reason}
use Rattle.port_history.specs.State.{State, state, after_handled, is_open, is_closed_by, closing_reason, signal_calls, row_calls, stops}
use Rattle.port_history.specs.Laws.{is_answered_by, is_ready, is_served}
use Rattle.port_history.specs.Lawful.{Lawful, KeepsLaws}
use Rattle.unframed_output.specs.Output.{answers_of, effects_of, bytes_taken, bytes_kept, fault_of, has_ended, messages_in, messages_sent}
use Rattle.unframed_output.specs.Laws.{AreMessages, OutputIsUnframed}
use Rattle.unframed_output.proofs.Equal.{equal}
use Rattle.unframed_output.proofs.Events.{IsRead, bad, choose, selects_reading, told, selected, after-selected, before-selected}
use Rattle.unframed_output.proofs.Messages.{is-served, none-came, more-came, end-came}
use Rattle.unframed_output.proofs.Calls.{spawning, refused-more, BringNothing, AreQuiet, IsSilent, HaveNothing, AreBare, bare, none-oversize, closing-quiet, callback-other, silent-other, silent-fetch, IsNoInput}
use Rattle.unframed_output.proofs.Ends.{brought-reads, end-messages, end-off, end-reads, end-answers}

-- the port reads what its program gives
abbrev pub is_reading : State → List Row → Bool
is_reading s history = is_open s && not (has_ended history)

-- what the driver has while its port reads
pub record Reads (config : Config) (s : State) (history : List Row) : Type 0 where
  pub kept : bytes_kept config.mode history ≡ bytes_taken history
  pub taken : taken_bytes s.calls ≡ bytes_taken history
  pub unended : unended_bytes s.calls ≡ bytes_taken history
  pub found : is_refused config s.calls ≡ false

-- what holds after the rows
pub record Stands (port : Opening) (history : List Row) : Type 0 where
  pub messages : AreMessages port.config.mode (bytes_kept port.config.mode history) (has_ended history) (messages_sent history)
  pub read : read_event (state (spawning port) history).calls ≡ port.read
  pub selected : (event : ℕ) → IsRead event (state (spawning port) history).events → (event ≡ port.read) × (is_reading (state (spawning port) history) history ≡ true)
  pub reads : is_reading (state (spawning port) history) history ≡ true → Reads port.config (state (spawning port) history) history

-- from one state to the next, nothing of the program's output came
pub record GoesOn (config : Config) (s next : State) : Type 0 where
  pub taken : taken_bytes next.calls ≡ taken_bytes s.calls
  pub unended : unended_bytes next.calls ≡ unended_bytes s.calls
  pub found : is_refused config s.calls ≡ false → is_refused config next.calls ≡ false
  pub read : read_event next.calls ≡ read_event s.calls
  pub selected : (event : ℕ) → IsRead event next.events → (is_open s ≡ true → is_open next ≡ true) × IsRead event s.events
  pub opened : is_open next ≡ true → is_open s ≡ true

cond-same : (b : Bool) (xs : List ℕ) → xs ≡ [] → cond b [] xs ≡ []
cond-same true xs none = refl
cond-same false xs none = none

pub same-messages : (mode : Mode) (kept kept' : List ℕ) (ended ended' : Bool) (messages messages' : List Message) → kept' ≡ kept → ended' ≡ ended → messages' ≡ messages
    → AreMessages mode kept ended messages → AreMessages mode kept' ended' messages'
same-messages mode kept kept' ended ended' messages messages' k e m are =
    subst (λ ms. AreMessages mode kept' ended' ms) (sym m) (subst (λ b. AreMessages mode kept' b messages) (sym e) (subst (λ xs. AreMessages mode xs ended messages) (sym k) are))

both : (a b : Bool) → a ≡ true → b ≡ true → (a && b) ≡ true
both a b e f = rw (e, f) refl

-- a row that tells nothing of the program's output
pub silent-step : (port : Opening) (row : Row) (older : List Row) → Stands port older → IsSilent (answers_of row) (effects_of row)
    → GoesOn port.config (state (spawning port) older) (state (spawning port) (row ∷ older)) → Stands port (row ∷ older)
silent-step port row older before silent goes =
    let mode = port.config.mode in
    let s = state (spawning port) older in
    let next = state (spawning port) (row ∷ older) in
    let kept : bytes_kept mode (row ∷ older) ≡ bytes_kept mode older =
    ap (λ xs. bytes_kept mode older ++ xs) (cond-same (is_some (fault_of mode (bytes_taken (row ∷ older)))) (got_by (answers_of row)) silent.got) ∙ append-nil (bytes_kept mode older) in
    let taken : bytes_taken (row ∷ older) ≡ bytes_taken older = ap (λ xs. bytes_taken older ++ xs) silent.got ∙ append-nil (bytes_taken older) in
    let ended : has_ended (row ∷ older) ≡ has_ended older = ap (λ b. b || has_ended older) silent.end in
    let messages : messages_sent (row ∷ older) ≡ messages_sent older = ap (λ ms. messages_sent older ++ ms) silent.messages ∙ append-nil (messages_sent older) in
    record {
      messages = same-messages mode (bytes_kept mode older) (bytes_kept mode (row ∷ older)) (has_ended older) (has_ended (row ∷ older)) (messages_sent older) (messages_sent (row ∷ older))
          kept ended messages before.messages;
      read = goes.read ∙ before.read;
      selected = λ event is.
          let g = goes.selected event is in
          let b = before.selected event g.1 in
          let parts = and_parts (is_open s) (not (has_ended older)) b.1 in
          (b.0, both (is_open next) (not (has_ended (row ∷ older))) (g.0 parts.0) (ap not ended ∙ parts.1));
      reads = λ is.
          let parts = and_parts (is_open next) (not (has_ended (row ∷ older))) is in
          let r = before.reads (both (is_open s) (not (has_ended older)) (goes.opened parts.0) (ap not (sym ended) ∙ parts.1)) in
          record { kept = kept ∙ (r.kept ∙ sym taken); taken = goes.taken ∙ (r.taken ∙ sym taken); unended = goes.unended ∙ (r.unended ∙ sym taken); found = goes.found r.found };
    }

-- `flush` and `stop` of a row
abbrev pub closing : Opening → State → Taken → List DriverCall
closing port s t = stop_calls (stops port s t) (caller_of s.ties t.from) ++ flush_calls port (caller_of s.ties t.from) (closing_reason s t) (signal_calls s t ++ s.calls)

row-split : (port : Opening) (s : State) (t : Taken) → row_calls port s t ≡ closing port s t ++ signal_calls s t
row-split port s t =
    sym (append_assoc (stop_calls (stops port s t) (caller_of s.ties t.from)) (flush_calls port (caller_of s.ties t.from) (closing_reason s t) (signal_calls s t ++ s.calls)) (signal_calls s t))

pub row-quiet : (port : Opening) (s : State) (t : Taken) → AreQuiet (closing port s t)
row-quiet port s t = closing-quiet port (stops port s t) (caller_of s.ties t.from) (caller_of s.ties t.from) (closing_reason s t) (signal_calls s t ++ s.calls)

-- all calls so far, with those that close the port apart
pub row-calls : (port : Opening) (s : State) (t : Taken) → row_calls port s t ++ s.calls ≡ closing port s t ++ (signal_calls s t ++ s.calls)
row-calls port s t = ap (λ cs. cs ++ s.calls) (row-split port s t) ∙ append_assoc (closing port s t) (signal_calls s t) s.calls

-- an open port that closes no more was open
open-before : (reason why : Option (List ℕ)) → not (is_some (first_reason reason why)) ≡ true → not (is_some reason) ≡ true
open-before None why is = refl
open-before (Some reason) why is = is

-- a handled row by whose calls nothing of the output came
pub handled-goes : (port : Opening) (s : State) (t : Taken) → selects_reading t.effects ≡ false → BringNothing (signal_calls s t)
    → GoesOn port.config s (after_handled (spawning port) s t)
handled-goes port s t none bring =
    let p = spawning port in
    let all = row-calls p s t in
    let quiet = (row-quiet p s t).bring in
    let more = signal_calls s t ++ s.calls in
    record {
      taken = ap taken_bytes all ∙ (quiet.taken more ∙ bring.taken s.calls);
      unended = ap unended_bytes all ∙ (quiet.unended more ∙ bring.unended s.calls);
      found = λ e. ap (is_refused port.config) all ∙ quiet.refused port.config more (bring.refused port.config s.calls e);
      read = ap read_event all ∙ (quiet.read more ∙ bring.read s.calls);
      selected = λ event is.
          let b = before-selected t.task.signal t.effects (is_closed_by s t) (stops p s t) event s.events none is in
          (λ was. ap not b.0, b.1);
      opened = λ is. open-before s.reason (closing_reason s t) is;
    }

-- what law 4 says of a handled row
pub record HasEffects (port : Opening) (s : State) (t : Taken) : Type 0 where
  pub effects : t.effects ≡ effects_after (spawning port) s.calls (signal_calls s t)
  pub answered : is_answered_by (spawning port) s (signal_calls s t) t.outside ≡ true

pub has-effects : (port : Opening) (s : State) (from : Sender) (seq : ℕ) (task : TaskView) (outside : List Outside) (effects : List Effect)
    → KeepsLaws (spawning port) s (Handled from seq task outside effects) → HasEffects port s (taken_of from seq task outside effects)
has-effects port s from seq task outside effects keeps =
    let p = spawning port in
    let t = taken_of from seq task outside effects in
    let parts = and_parts (same_effects effects (effects_after p s.calls (row_calls p s t))) (is_answered_by p s (signal_calls s t) outside) keeps.effects in
    record {
      effects = equal effects (effects_after p s.calls (row_calls p s t)) parts.0
          ∙ (ap (effects_after p s.calls) (row-split p s t) ∙ (row-quiet p s t).effects port s.calls (signal_calls s t));
      answered = parts.1;
    }

-- a late row
late-goes : (config : Config) (s next : State) → next.calls ≡ s.calls → next.reason ≡ s.reason → ((event : ℕ) → IsRead event next.events → IsRead event s.events) → GoesOn config s next
late-goes config s next calls reason events = record {
  taken = ap taken_bytes calls;
  unended = ap unended_bytes calls;
  found = λ e. ap (is_refused config) calls ∙ e;
  read = ap read_event calls;
  selected = λ event is. (λ was. ap (λ r. not (is_some r)) reason ∙ was, events event is);
  opened = λ is. ap (λ r. not (is_some r)) (sym reason) ∙ is;
}

no-row : IsSilent [] []
no-row = record { got = refl; end = refl; messages = refl; reads = refl }

-- a handled row whose signal doesn't tell of input
other-step : (port : Opening) (from : Sender) (seq : ℕ) (task : TaskView) (outside : List Outside) (effects : List Effect) (older : List Row) → Stands port older
    → KeepsLaws (spawning port) (state (spawning port) older) (Handled from seq task outside effects) → IsNoInput task.signal → Stands port (Handled from seq task outside effects ∷ older)
other-step port from seq task outside effects older before keeps input =
    let s = state (spawning port) older in
    let t = taken_of from seq task outside effects in
    let has = has-effects port s from seq task outside effects keeps in
    let row = silent-other port s t (callback_of s.ties s.watched from task.signal) (caller_of s.ties from) (callback-other s.ties s.watched from task.signal input) has.effects has.answered in
    silent-step port (Handled from seq task outside effects) older before row.silent (handled-goes port s t row.silent.reads row.bring)

pub start-stands : (port : Opening) → Stands port []
start-stands port = record {
  messages = none-came port.config.mode;
  read = refl;
  selected = start;
  reads = λ is. record { kept = refl; taken = refl; unended = refl; found = found };
}
  where
    start : (event : ℕ) → IsRead event (state (spawning port) []).events → (event ≡ port.read) × (is_reading (state (spawning port) []) [] ≡ true)
    start event is =
        choose (eqb port.read event) (arm (select Read true (unused port.read))) (unused event) is (λ here reads. (sym (eqb-true port.read event here), refl)) (λ there reads. bad false reads refl)

    found : is_refused port.config (state (spawning port) []).calls ≡ false
    found = none-oversize port.config.mode

-- the call that fetches
abbrev pub fetch : State → ℕ → Taken → DriverCall
fetch s event t = call_of (ReadyInput event) (caller_of s.ties t.from) t.outside t.effects

signal-is : (port : Opening) (s : State) (t : Taken) (event : ℕ) → t.task.signal ≡ Ready event Read → signal_calls s t ≡ fetch s event t ∷ []
signal-is port s t event is = ap (λ (sg : Signal). calls_by (callback_of s.ties s.watched t.from sg) (caller_of s.ties t.from) t) is

-- what a fetch did
pub record HasFetched (port : Opening) (s : State) (t : Taken) (event : ℕ) : Type 0 where
  pub effects : t.effects ≡ fetch_effects port.config s.calls (fetch s event t) t.outside
  pub answered : answers_fetch port.config.exit_status t.outside ≡ true

pub has-fetched : (port : Opening) (s : State) (t : Taken) (event : ℕ) → t.task.signal ≡ Ready event Read → HasEffects port s t → HasFetched port s t event
has-fetched port s t event is has = record {
  effects = has.effects ∙ ap (effects_after (spawning port) s.calls) (signal-is port s t event is);
  answered = ap (λ cs. is_answered_by (spawning port) s cs t.outside) (sym (signal-is port s t event is)) ∙ has.answered;
}

-- the calls of a fetch, with those that close the port apart
fetch-calls : (port : Opening) (s : State) (t : Taken) (event : ℕ) → t.task.signal ≡ Ready event Read
    → row_calls (spawning port) s t ++ s.calls ≡ closing (spawning port) s t ++ (fetch s event t ∷ s.calls)
fetch-calls port s t event is = row-calls (spawning port) s t ∙ ap (λ cs. closing (spawning port) s t ++ (cs ++ s.calls)) (signal-is port s t event is)

-- a callback that failed closes an open port
fails-closed : (s : State) (t : Taken) → is_open s ≡ true → is_some (failure t.effects) ≡ true → is_closed_by s t ≡ true
fails-closed s t opened fails = at s.reason opened where
  some-first : (f why : Option (List ℕ)) → is_some f ≡ true → is_some (first_reason f why) ≡ true
  some-first None why e = absurd (cc)
  some-first (Some reason) why e = refl

  at : (reason : Option (List ℕ)) → not (is_some reason) ≡ true
      → is_some (first_reason reason (cond (is_some reason) None (first_reason (failure t.effects) (signal_reason s.ties t.from t.task.signal)))) ≡ true
  at None e = some-first (failure t.effects) (signal_reason s.ties t.from t.task.signal) fails
  at (Some reason) e = absurd (cc)

-- why a chunk fails the port
pub fault-many : (mode : Mode) (bytes : List ℕ) → nat_lt most_taken (length bytes) ≡ true → fault_of mode bytes ≡ Some (codes "enospc")
fault-many mode bytes many = ap (λ (b : Bool). cond b (Some (codes "enospc")) (cond (is_oversize mode (rest_of mode bytes)) (Some (codes "emsgsize")) None)) many

pub fault-large : (mode : Mode) (bytes : List ℕ) → nat_lt most_taken (length bytes) ≡ false → is_oversize mode (rest_of mode bytes) ≡ true → fault_of mode bytes ≡ Some (codes "emsgsize")
fault-large mode bytes few large =
    ap (λ (b : Bool). cond b (Some (codes "enospc")) (cond (is_oversize mode (rest_of mode bytes)) (Some (codes "emsgsize")) None)) few
    ∙ ap (λ (b : Bool). cond {A = Option (List ℕ)} b (Some (codes "emsgsize")) None) large

pub fault-none : (mode : Mode) (bytes : List ℕ) → nat_lt most_taken (length bytes) ≡ false → is_oversize mode (rest_of mode bytes) ≡ false → fault_of mode bytes ≡ None
fault-none mode bytes few small =
    ap (λ (b : Bool). cond b (Some (codes "enospc")) (cond (is_oversize mode (rest_of mode bytes)) (Some (codes "emsgsize")) None)) few
    ∙ ap (λ (b : Bool). cond {A = Option (List ℕ)} b (Some (codes "emsgsize")) None) small

-- a chunk that failed the port
failed-step : (port : Opening) (from : Sender) (seq : ℕ) (task : TaskView) (event : ℕ) (bytes : List ℕ) (effects : List Effect) (reason : List ℕ) (older : List Row) → Stands port older
    → is_open (state (spawning port) older) ≡ true → task.signal ≡ Ready event Read → effects ≡ Fail reason ∷ []
    → is_some (fault_of port.config.mode (bytes_taken (Handled from seq task (Got bytes ∷ []) effects ∷ older))) ≡ true
    → Stands port (Handled from seq task (Got bytes ∷ []) effects ∷ older)
failed-step port from seq task event bytes effects reason older before opened signal fails fault =
    let mode = port.config.mode in
    let row : Row = Handled from seq task (Got bytes ∷ []) effects in
    let s = state (spawning port) older in
    let t = taken_of from seq task (Got bytes ∷ []) effects in
    let p = spawning port in
    let closed : is_closed_by s t ≡ true = fails-closed s t opened (ap (λ es. is_some (failure es)) fails) in
    let quiet = (row-quiet p s t).bring in
    record {
      messages = same-messages mode (bytes_kept mode older) (bytes_kept mode (row ∷ older)) (has_ended older) (has_ended older) (messages_sent older) (messages_sent (row ∷ older))
          (ap (λ b. bytes_kept mode older ++ cond b [] (bytes ++ [])) fault ∙ append-nil (bytes_kept mode older)) refl
          (ap (λ es. messages_sent older ++ messages_in es) fails ∙ append-nil (messages_sent older)) before.messages;
      read = ap read_event (fetch-calls port s t event signal) ∙ (quiet.read (fetch s event t ∷ s.calls) ∙ before.read);
      selected = λ e is. bad (is_closed_by s t) closed (after-selected task.signal effects (is_closed_by s t) (stops p s t) e s.events is).0;
      reads = λ is. bad (is_open (state p (row ∷ older))) (and_parts (is_open (state p (row ∷ older))) (not (has_ended (row ∷ older))) is).0 (ap not closed);
    }

unended-false : (b : Bool) → not b ≡ true → b ≡ false
unended-false true e = absurd (cc)
unended-false false e = refl

-- a chunk that brought messages
brought-step : (port : Opening) (from : Sender) (seq : ℕ) (task : TaskView) (event : ℕ) (bytes : List ℕ) (effects : List Effect) (older : List Row) → IsServed port.config.mode → Stands port older
    → is_reading (state (spawning port) older) older ≡ true → Reads port.config (state (spawning port) older) older → task.signal ≡ Ready event Read → 0 < length bytes
    → effects ≡ brought port.config.mode (fetch (state (spawning port) older) event (taken_of from seq task (Got bytes ∷ []) effects)).cut (unended_bytes (state (spawning port) older).calls) bytes
    → nat_lt most_taken (length (bytes_taken (Handled from seq task (Got bytes ∷ []) effects ∷ older))) ≡ false
    → is_oversize port.config.mode (rest_of port.config.mode (bytes_taken (Handled from seq task (Got bytes ∷ []) effects ∷ older))) ≡ false
    → Stands port (Handled from seq task (Got bytes ∷ []) effects ∷ older)
brought-step port from seq task event bytes effects older served before reading reads signal some brings few small =
    let mode = port.config.mode in
    let row : Row = Handled from seq task (Got bytes ∷ []) effects in
    let p = spawning port in
    let s = state p older in
    let t = taken_of from seq task (Got bytes ∷ []) effects in
    let next = state p (row ∷ older) in
    let call = fetch s event t in
    let quiet = (row-quiet p s t).bring in
    let all = fetch-calls port s t event signal in
    let parts = and_parts (is_open s) (not (has_ended older)) reading in
    let going : has_ended older ≡ false = unended-false (has_ended older) parts.1 in
    let fault : is_some (fault_of mode (bytes_taken (row ∷ older))) ≡ false = ap is_some (fault-none mode (bytes_taken (row ∷ older)) few small) in
    let kept : bytes_kept mode (row ∷ older) ≡ bytes_kept mode older ++ bytes =
    ap (λ b. bytes_kept mode older ++ cond b [] (bytes ++ [])) fault ∙ ap (λ xs. bytes_kept mode older ++ xs) (append-nil bytes) in
    let taken : taken_bytes (call ∷ s.calls) ≡ bytes_taken (row ∷ older) = ap (λ xs. xs ++ (bytes ++ [])) reads.taken in
    let unended : unended_bytes (call ∷ s.calls) ≡ bytes_taken (row ∷ older) = ap (λ xs. xs ++ (bytes ++ [])) reads.unended in
    let found : is_refused port.config (call ∷ s.calls) ≡ false =
    refused-more (is_refused port.config s.calls) _ _ reads.found (ap (λ xs. nat_lt most_taken (length xs)) taken ∙ few) (ap (λ xs. is_oversize mode (rest_of mode xs)) unended ∙ small) in
    let brings' : effects ≡ brought mode call.cut (bytes_kept mode older) bytes =
    brings ∙ ap (λ xs. brought mode call.cut xs bytes) (reads.unended ∙ sym reads.kept) in
    let came = more-came mode served call.cut (bytes_kept mode older) bytes (messages_sent older) some
    (same-messages mode (bytes_kept mode older) (bytes_kept mode older) (has_ended older) false (messages_sent older) (messages_sent older) refl (sym going) refl before.messages) in
    record {
      messages = same-messages mode (bytes_kept mode older ++ bytes) (bytes_kept mode (row ∷ older)) false (has_ended older)
          (messages_sent older ++ messages_in (brought mode call.cut (bytes_kept mode older) bytes)) (messages_sent (row ∷ older)) kept going
          (ap (λ es. messages_sent older ++ messages_in es) brings') came;
      read = ap read_event all ∙ (quiet.read (call ∷ s.calls) ∙ before.read);
      selected = λ e is.
          let b = before-selected task.signal effects (is_closed_by s t) (stops p s t) e s.events (ap selects_reading brings' ∙ brought-reads mode call.cut (bytes_kept mode older) bytes) is in
          let old = before.selected e b.1 in
          (old.0, both (is_open next) (not (has_ended (row ∷ older))) (ap not b.0) parts.1);
      reads = λ is. record {
        kept = kept ∙ (ap (λ xs. xs ++ bytes) reads.kept ∙ ap (λ xs. bytes_taken older ++ xs) (sym (append-nil bytes)));
        taken = ap taken_bytes all ∙ (quiet.taken (call ∷ s.calls) ∙ taken);
        unended = ap unended_bytes all ∙ (quiet.unended (call ∷ s.calls) ∙ unended);
        found = ap (is_refused port.config) all ∙ quiet.refused port.config (call ∷ s.calls) found;
      };
    }

-- the effects of a chunk, by all bytes that were taken
pub got-made : (port : Opening) (from : Sender) (seq : ℕ) (task : TaskView) (event : ℕ) (bytes : List ℕ) (effects : List Effect) (older : List Row) → Reads port.config (state (spawning port) older) older
    → HasFetched port (state (spawning port) older) (taken_of from seq task (Got bytes ∷ []) effects) event
    → effects ≡ cond (nat_lt most_taken (length (bytes_taken (Handled from seq task (Got bytes ∷ []) effects ∷ older)))) (Fail (codes "enospc") ∷ [])
    (cond (nat_lt most_taken (length (bytes_taken (Handled from seq task (Got bytes ∷ []) effects ∷ older))) || is_oversize port.config.mode (rest_of port.config.mode (bytes_taken (Handled from seq task (Got bytes ∷ []) effects ∷ older))))
    (Fail (codes "emsgsize") ∷ []) (brought port.config.mode (fetch (state (spawning port) older) event (taken_of from seq task (Got bytes ∷ []) effects)).cut (unended_bytes (state (spawning port) older).calls) bytes))
got-made port from seq task event bytes effects older reads fetched =
    let mode = port.config.mode in
    let s = state (spawning port) older in
    let call = fetch s event (taken_of from seq task (Got bytes ∷ []) effects) in
    let all = bytes_taken (Handled from seq task (Got bytes ∷ []) effects ∷ older) in
    let taken : taken_bytes (call ∷ s.calls) ≡ all = ap (λ xs. xs ++ (bytes ++ [])) reads.taken in
    let unended : unended_bytes (call ∷ s.calls) ≡ all = ap (λ xs. xs ++ (bytes ++ [])) reads.unended in
    let brings : List Effect = brought mode call.cut (unended_bytes s.calls) bytes in
    let refused : is_refused port.config (call ∷ s.calls) ≡ (nat_lt most_taken (length all) || is_oversize mode (rest_of mode all)) =
    ap (λ b. b || (nat_lt most_taken (length (taken_bytes (call ∷ s.calls))) || is_oversize mode (rest_of mode (unended_bytes (call ∷ s.calls))))) reads.found
    ∙ (ap (λ xs. nat_lt most_taken (length xs) || is_oversize mode (rest_of mode (unended_bytes (call ∷ s.calls)))) taken
    ∙ ap (λ xs. nat_lt most_taken (length all) || is_oversize mode (rest_of mode xs)) unended) in
    fetched.effects ∙ (ap (λ xs. cond (nat_lt most_taken (length xs)) (Fail (codes "enospc") ∷ []) (cond (is_refused port.config (call ∷ s.calls)) (Fail (codes "emsgsize") ∷ []) brings)) taken
    ∙ ap (λ b. cond (nat_lt most_taken (length all)) (Fail (codes "enospc") ∷ []) (cond b (Fail (codes "emsgsize") ∷ []) brings)) refused)

-- the three ways in which a chunk goes
pub got-cases : {P : Type 0} (effects : List Effect) (m o : Bool) (brings : List Effect) → effects ≡ cond m (Fail (codes "enospc") ∷ []) (cond (m || o) (Fail (codes "emsgsize") ∷ []) brings)
    → (m ≡ true → effects ≡ Fail (codes "enospc") ∷ [] → P) → (m ≡ false → o ≡ true → effects ≡ Fail (codes "emsgsize") ∷ [] → P) → (m ≡ false → o ≡ false → effects ≡ brings → P) → P
got-cases effects true o brings made x y z = x refl made
got-cases effects false true brings made x y z = y refl refl made
got-cases effects false false brings made x y z = z refl refl made

-- bytes came
got-step : (port : Opening) (from : Sender) (seq : ℕ) (task : TaskView) (event : ℕ) (bytes : List ℕ) (effects : List Effect) (older : List Row) → IsServed port.config.mode → Stands port older
    → is_reading (state (spawning port) older) older ≡ true → Reads port.config (state (spawning port) older) older → task.signal ≡ Ready event Read
    → HasFetched port (state (spawning port) older) (taken_of from seq task (Got bytes ∷ []) effects) event → Stands port (Handled from seq task (Got bytes ∷ []) effects ∷ older)
got-step port from seq task event bytes effects older served before reading reads signal fetched =
    let mode = port.config.mode in
    let s = state (spawning port) older in
    let all = bytes_taken (Handled from seq task (Got bytes ∷ []) effects ∷ older) in
    let opened = (and_parts (is_open s) (not (has_ended older)) reading).0 in
    let some : 0 < length bytes = leb-true 1 (length bytes) (and_parts (nat_le 1 (length bytes)) (nat_le (length bytes) 65536) fetched.answered).0 in
    let brings : List Effect = brought mode (fetch s event (taken_of from seq task (Got bytes ∷ []) effects)).cut (unended_bytes s.calls) bytes in
    got-cases effects (nat_lt most_taken (length all)) (is_oversize mode (rest_of mode all)) brings (got-made port from seq task event bytes effects older reads fetched)
    (λ many is. failed-step port from seq task event bytes effects (codes "enospc") older before opened signal is (ap is_some (fault-many mode all many)))
    (λ few large is. failed-step port from seq task event bytes effects (codes "emsgsize") older before opened signal is (ap is_some (fault-large mode all few large)))
    (λ few small is. brought-step port from seq task event bytes effects older served before reading reads signal some is few small)

-- the end came
end-step : (port : Opening) (from : Sender) (seq : ℕ) (task : TaskView) (event : ℕ) (answers : List Outside) (effects : List Effect) (older : List Row) → Stands port older
    → is_reading (state (spawning port) older) older ≡ true → Reads port.config (state (spawning port) older) older → task.signal ≡ Ready event Read
    → HasFetched port (state (spawning port) older) (taken_of from seq task (End ∷ answers) effects) event → Stands port (Handled from seq task (End ∷ answers) effects ∷ older)
end-step port from seq task event answers effects older before reading reads signal fetched =
    let mode = port.config.mode in
    let row : Row = Handled from seq task (End ∷ answers) effects in
    let p = spawning port in
    let s = state p older in
    let t = taken_of from seq task (End ∷ answers) effects in
    let call = fetch s event t in
    let quiet = (row-quiet p s t).bring in
    let got = end-answers port.config.exit_status answers fetched.answered in
    let going : has_ended older ≡ false = unended-false (has_ended older) (and_parts (is_open s) (not (has_ended older)) reading).1 in
    let left : rest port.config s.calls ≡ rest_of mode (bytes_kept mode older) =
    ap (λ b. cond b [] (rest_of mode (unended_bytes s.calls))) reads.found ∙ ap (rest_of mode) (reads.unended ∙ sym reads.kept) in
    let came = end-came mode (bytes_kept mode older) (messages_sent older)
    (same-messages mode (bytes_kept mode older) (bytes_kept mode older) (has_ended older) false (messages_sent older) (messages_sent older) refl (sym going) refl before.messages) in
    record {
      messages = same-messages mode (bytes_kept mode older) (bytes_kept mode (row ∷ older)) true true
          (messages_sent older ++ last_message mode (rest_of mode (bytes_kept mode older))) (messages_sent (row ∷ older))
          (ap (λ xs. bytes_kept mode older ++ xs) (cond-same (is_some (fault_of mode (bytes_taken (row ∷ older)))) (got_by answers) got) ∙ append-nil (bytes_kept mode older)) refl
          (ap (λ ms. messages_sent older ++ ms) (ap messages_in fetched.effects ∙ (end-messages port.config s.calls answers ∙ ap (last_message mode) left))) came;
      read = ap read_event (fetch-calls port s t event signal) ∙ (quiet.read (call ∷ s.calls) ∙ before.read);
      selected = λ e is.
          let made = (after-selected task.signal effects (is_closed_by s t) (stops p s t) e s.events is).1 in
          let off = subst (λ es. IsRead e (selected_by es (told_of false task.signal s.events))) fetched.effects made in
          let was = told false task.signal e s.events (selected e (end_effects port.config s.calls answers) (told_of false task.signal s.events) (end-reads port.config s.calls answers) off) in
          let at : e ≡ read_event s.calls = (before.selected e was).0 ∙ sym before.read in
          bad _ (subst (λ n. IsRead n (selected_by (end_effects port.config s.calls answers) (told_of false task.signal s.events))) at off)
          (end-off port.config s.calls answers (told_of false task.signal s.events));
      reads = λ is. bad false (and_parts (is_open (state p (row ∷ older))) false is).1 refl;
    }

-- an event that is ready is selected for reading
ready-selected : (s : State) (event : ℕ) → cond (is_ready s event Read) true false ≡ true → IsRead event s.events
ready-selected s event e = (and_parts (event_of event s.events).reads (event_of event s.events).armed_to_read (at (is_ready s event Read) e)).0 where
  at : (b : Bool) → cond b true false ≡ true → b ≡ true
  at true e = refl
  at false e = absurd (cc)

-- a handled row of a fetch comes while the port reads
pub fetch-reads : (port : Opening) (from : Sender) (seq : ℕ) (task : TaskView) (event : ℕ) (outside : List Outside) (effects : List Effect) (older : List Row) → Stands port older
    → KeepsLaws (spawning port) (state (spawning port) older) (Handled from seq task outside effects) → task.signal ≡ Ready event Read → is_reading (state (spawning port) older) older ≡ true
fetch-reads port from seq task event outside effects older before keeps signal =
    let s = state (spawning port) older in
    (before.selected event (ready-selected s event (subst (λ sg. is_served s true sg ≡ true) signal keeps.ready))).1

-- a row of a fetch
input-step : (port : Opening) (from : Sender) (seq : ℕ) (task : TaskView) (event : ℕ) (outside : List Outside) (effects : List Effect) (older : List Row) → IsServed port.config.mode → Stands port older
    → KeepsLaws (spawning port) (state (spawning port) older) (Handled from seq task outside effects) → task.signal ≡ Ready event Read → Stands port (Handled from seq task outside effects ∷ older)
input-step port from seq task event outside effects older served before keeps signal =
    let s = state (spawning port) older in
    let has = has-fetched port s (taken_of from seq task outside effects) event signal (has-effects port s from seq task outside effects keeps) in
    let reading = fetch-reads port from seq task event outside effects older before keeps signal in
    at outside refl has reading (before.reads reading)
  where
    silent : (answers : List Outside) (made : List Effect) → outside ≡ answers → effects ≡ made → HaveNothing answers → AreBare made
        → Stands port (Handled from seq task outside effects ∷ older)
    silent answers made is does none are =
        let s = state (spawning port) older in
        let t = taken_of from seq task outside effects in
        let row = silent-fetch t event (caller_of s.ties from) answers made is does none are in
        silent-step port (Handled from seq task outside effects) older before row.silent
        (handled-goes port s t row.silent.reads (subst BringNothing (sym (signal-is (spawning port) s t event signal)) row.bring))

    at : (answers : List Outside) → outside ≡ answers → HasFetched port (state (spawning port) older) (taken_of from seq task outside effects) event
        → is_reading (state (spawning port) older) older ≡ true → Reads port.config (state (spawning port) older) older → Stands port (Handled from seq task outside effects ∷ older)
    at (Got bytes ∷ []) is has reading reads =
        subst (λ os. HasFetched port (state (spawning port) older) (taken_of from seq task os effects) event → Stands port (Handled from seq task os effects ∷ older)) (sym is)
        (λ h. got-step port from seq task event bytes effects older served before reading reads signal h) has
    at (Again ∷ []) is has reading reads =
        silent (Again ∷ []) [] is (has.effects ∙ ap (fetch_effects port.config (state (spawning port) older).calls (fetch (state (spawning port) older) event (taken_of from seq task outside effects))) is)
        (record { got = refl; end = refl }) (bare [] refl refl)
    at (Failed ∷ []) is has reading reads =
        silent (Failed ∷ []) (Fail (codes "eio") ∷ []) is
        (has.effects ∙ ap (fetch_effects port.config (state (spawning port) older).calls (fetch (state (spawning port) older) event (taken_of from seq task outside effects))) is)
        (record { got = refl; end = refl }) (bare (Fail (codes "eio") ∷ []) refl refl)
    at (End ∷ answers) is has reading reads =
        subst (λ os. HasFetched port (state (spawning port) older) (taken_of from seq task os effects) event → Stands port (Handled from seq task os effects ∷ older)) (sym is)
        (λ h. end-step port from seq task event answers effects older before reading reads signal h) has
    at answers is has reading reads = absurd (let e = subst (λ os. answers_fetch port.config.exit_status os ≡ true) is has.answered in cc)

-- a handled row
handled-step : (port : Opening) (from : Sender) (seq : ℕ) (task : TaskView) (outside : List Outside) (effects : List Effect) (older : List Row) → IsServed port.config.mode → Stands port older
    → KeepsLaws (spawning port) (state (spawning port) older) (Handled from seq task outside effects) → Stands port (Handled from seq task outside effects ∷ older)
handled-step port from seq task outside effects older served before keeps = at task.signal refl where
  at : (signal : Signal) → task.signal ≡ signal → Stands port (Handled from seq task outside effects ∷ older)
  at (Ready event Read) is = input-step port from seq task event outside effects older served before keeps is
  at signal is = other-step port from seq task outside effects older before keeps (subst IsNoInput (sym is) tt)

pub stands : (port : Opening) (history : List Row) → IsServed port.config.mode → Lawful (spawning port) history → Stands port history
stands port [] served lawful = start-stands port
stands port (Handled from seq task outside effects ∷ older) served lawful = handled-step port from seq task outside effects older served (stands port older served lawful.1) lawful.0
stands port (Late from seq task ∷ older) served lawful =
    let s = state (spawning port) older in
    silent-step port (Late from seq task) older (stands port older served lawful.1) no-row
    (late-goes port.config s (state (spawning port) (Late from seq task ∷ older)) refl refl (λ event is. told true task.signal event s.events is))
stands port (Listed from seq ∷ older) served lawful =
    silent-step port (Listed from seq) older (stands port older served lawful.1) no-row
    (late-goes port.config (state (spawning port) older) (state (spawning port) (Listed from seq ∷ older)) refl refl (λ event is. is))
stands port (Resumed from seq word ∷ older) served lawful =
    silent-step port (Resumed from seq word) older (stands port older served lawful.1) no-row
    (late-goes port.config (state (spawning port) older) (state (spawning port) (Resumed from seq word ∷ older)) refl refl (λ event is. is))
stands port (Mark kind ∷ older) served lawful =
    silent-step port (Mark kind) older (stands port older served lawful.1) no-row
    (late-goes port.config (state (spawning port) older) (state (spawning port) (Mark kind ∷ older)) refl refl (λ event is. is))

-- a port that serves a program is one as that
pub as-spawning : (port : Opening) → port.kind ≡ Spawn → port ≡ spawning port
as-spawning port is = ap (λ k. record port { kind = k }) is

pub output-is-unframed : OutputIsUnframed
output-is-unframed port history of =
    (stands port history (is-served port.config.mode of.served) (subst (λ p. Lawful p history) (as-spawning port of.kind) of.lawful)).messages

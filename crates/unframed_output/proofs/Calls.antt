-- The calls of a handled row of a program's port: what they tell of the program's output.
use Rattle.std.proofs.Common.{◌≡◌, ℕ, List, [], ◌∷◌, ◌++◌, length, Bool, true, false, ◌&&◌, ◌||◌, not, cond, Option, Some, None, refl, ◌∙◌, ap, append_assoc, codes}
use Rattle.std.specs.Prelude.{nat_le, nat_lt}
use Rattle.std.specs.List.{concat}
use Rattle.std.proofs.lemmas.List.{append-nil}
use Rattle.packet_framing.specs.declared.mode.Mode.{Mode}
use Rattle.packet_framing.specs.declared.mode.Mode.TheVariants.{Packet1, Packet2, Packet4, Line, Stream}
use Rattle.packet_framing.specs.Messages.{rest_of}
use Rattle.driver_model.specs.port_config.declared.config.Config.{Config}
use Rattle.driver_model.specs.port_signal.declared.outside.Outside.{Outside}
use Rattle.driver_model.specs.port_signal.declared.outside.Outside.TheVariants.{Took, Failed}
use Rattle.driver_model.specs.port_model.declared.event.Dir.TheVariants.{Read, Write}
use Rattle.driver_model.specs.port_model.declared.signal.Sender.{Sender}
use Rattle.driver_model.specs.port_model.declared.signal.Sender.TheVariants.{Process}
use Rattle.driver_model.specs.port_model.declared.signal.Signal.{Signal}
use Rattle.driver_model.specs.port_model.declared.signal.Signal.TheVariants.{OwnerCommand, Ready, Gone}
use Rattle.driver_model.specs.port_model.declared.effect.Effect.{Effect}
use Rattle.driver_model.specs.port_model.declared.effect.Effect.TheVariants.{Busy, Fail, Select}
use Rattle.driver_model.specs.Calls.{Callback, Start, Outputv, Control, Call, ReadyInput, ReadyOutput, ProcessExit, Flush, Stop, DriverCall, Spawn, call_of, is_empty}
use Rattle.driver_model.specs.Spawn.{got_by, has_end, has_failed, taken_bytes, unended_bytes, is_refused, is_oversize, most_taken, read_event, read_after, spawn_queue, spawn_answered, callback_effects, output_effects, offer_effects, holds_busy, write_event, fits, is_none, answers_offer}
use Rattle.port_history.specs.Opening.{Opening, Taken, is_process}
use Rattle.port_history.specs.Ties.{Ties}
use Rattle.port_history.specs.State.{State}
use Rattle.port_history.specs.Laws.{is_answered_by}
use Rattle.driver_model.specs.port_signal.Links.{has}
use Rattle.port_history.specs.Service.{callback_of, exit_callback, calls_by, flush_calls, stop_calls, effects_after}
use Rattle.unframed_output.specs.Output.{messages_in}
use Rattle.unframed_output.proofs.Events.{selects_reading}
use Rattle.unframed_output.proofs.Messages.{messages_in-append}

-- a port as one that serves a program
abbrev pub spawning : Opening → Opening
spawning port = record port { kind = Spawn }

parts-false : (a b : Bool) → (a || b) ≡ false → (a ≡ false) × (b ≡ false)
parts-false true b e = absurd (cc)
parts-false false b e = (refl, e)

-- what is oversized of no bytes
pub none-oversize : (mode : Mode) → is_oversize mode (rest_of mode []) ≡ false
none-oversize Packet1 = refl
none-oversize Packet2 = refl
none-oversize Packet4 = refl
none-oversize (Line limit) = refl
none-oversize Stream = refl

-- as long as messages are found, few bytes were taken, and no header told too many
pub not-refused : (config : Config) (calls : List DriverCall) → is_refused config calls ≡ false
    → (nat_lt most_taken (length (taken_bytes calls)) ≡ false) × (is_oversize config.mode (rest_of config.mode (unended_bytes calls)) ≡ false)
not-refused config [] none = (refl, none-oversize config.mode)
not-refused config (call ∷ earlier) none = parts-false _ _ (parts-false (is_refused config earlier) _ none).1

pub refused-more : (r a b : Bool) → r ≡ false → a ≡ false → b ≡ false → (r || (a || b)) ≡ false
refused-more r a b e f g = rw (e, f, g) refl

-- calls by which nothing of the program's output came
pub record BringNothing (calls : List DriverCall) : Type 0 where
  pub taken : (earlier : List DriverCall) → taken_bytes (calls ++ earlier) ≡ taken_bytes earlier
  pub unended : (earlier : List DriverCall) → unended_bytes (calls ++ earlier) ≡ unended_bytes earlier
  pub refused : (config : Config) (earlier : List DriverCall) → is_refused config earlier ≡ false → is_refused config (calls ++ earlier) ≡ false
  pub read : (earlier : List DriverCall) → read_event (calls ++ earlier) ≡ read_event earlier

none-bring : BringNothing []
none-bring = record { taken = λ earlier. refl; unended = λ earlier. refl; refused = λ config earlier e. e; read = λ earlier. refl }

-- a callback that isn't `start`
abbrev pub IsLater : Callback → Type 0
IsLater (Start read write) = ⊥
IsLater callback = Unit {0}

read-later : (callback : Callback) (event : ℕ) → IsLater callback → read_after callback event ≡ event
read-later (Start read write) event later = absurd later
read-later callback event later = refl

-- a call whose answers bring nothing
pub call-brings : (call : DriverCall) → IsLater call.callback → got_by call.outside ≡ [] → has_end call.outside ≡ false → BringNothing (call ∷ [])
call-brings call later got end = record {
  taken = taken;
  unended = unended;
  refused = λ config earlier e.
      let before = not-refused config earlier e in
      refused-more (is_refused config earlier) _ _ e (ap (λ xs. nat_lt most_taken (length xs)) (taken earlier) ∙ before.0)
      (ap (λ xs. is_oversize config.mode (rest_of config.mode xs)) (unended earlier) ∙ before.1);
  read = λ earlier. read-later call.callback (read_event earlier) later;
}
  where
    taken : (earlier : List DriverCall) → taken_bytes (call ∷ earlier) ≡ taken_bytes earlier
    taken earlier = ap (λ xs. taken_bytes earlier ++ xs) got ∙ append-nil (taken_bytes earlier)

    unended : (earlier : List DriverCall) → unended_bytes (call ∷ earlier) ≡ unended_bytes earlier
    unended earlier = rw (end, got) (append-nil (unended_bytes earlier))

pub both-bring : (xs ys : List DriverCall) → BringNothing xs → BringNothing ys → BringNothing (xs ++ ys)
both-bring xs ys x y = record {
  taken = λ earlier. ap taken_bytes (append_assoc xs ys earlier) ∙ (x.taken (ys ++ earlier) ∙ y.taken earlier);
  unended = λ earlier. ap unended_bytes (append_assoc xs ys earlier) ∙ (x.unended (ys ++ earlier) ∙ y.unended earlier);
  refused = λ config earlier e. ap (is_refused config) (append_assoc xs ys earlier) ∙ x.refused config (ys ++ earlier) (y.refused config earlier e);
  read = λ earlier. ap read_event (append_assoc xs ys earlier) ∙ (x.read (ys ++ earlier) ∙ y.read earlier);
}

-- calls that do nothing
pub record AreQuiet (calls : List DriverCall) : Type 0 where
  pub effects : (port : Opening) (earlier before : List DriverCall) → effects_after (spawning port) earlier (calls ++ before) ≡ effects_after (spawning port) earlier before
  pub bring : BringNothing calls

none-quiet : AreQuiet []
none-quiet = record { effects = λ port earlier before. refl; bring = none-bring }

flush-quiet : (caller : ℕ) → AreQuiet (call_of Flush caller [] [] ∷ [])
flush-quiet caller = record {
  effects = λ port earlier before. append-nil (effects_after (spawning port) earlier before);
  bring = call-brings (call_of Flush caller [] []) tt refl refl;
}

stop-quiet : (caller : ℕ) → AreQuiet (call_of Stop caller [] [] ∷ [])
stop-quiet caller = record {
  effects = λ port earlier before. append-nil (effects_after (spawning port) earlier before);
  bring = call-brings (call_of Stop caller [] []) tt refl refl;
}

both-quiet : (xs ys : List DriverCall) → AreQuiet xs → AreQuiet ys → AreQuiet (xs ++ ys)
both-quiet xs ys x y = record {
  effects = λ port earlier before. ap (effects_after (spawning port) earlier) (append_assoc xs ys before) ∙ (x.effects port earlier (ys ++ before) ∙ y.effects port earlier before);
  bring = both-bring xs ys x.bring y.bring;
}

stops-quiet : (stops : Bool) (caller : ℕ) → AreQuiet (stop_calls stops caller)
stops-quiet true caller = stop-quiet caller
stops-quiet false caller = none-quiet

flushes-quiet : (port : Opening) (caller : ℕ) (reason : Option (List ℕ)) (earlier : List DriverCall) → AreQuiet (flush_calls port caller reason earlier)
flushes-quiet port caller None earlier = none-quiet
flushes-quiet port caller (Some reason) earlier = choose _ where
  choose : (b : Bool) → AreQuiet (cond b [] (call_of Flush caller [] [] ∷ []))
  choose true = none-quiet
  choose false = flush-quiet caller

-- `flush` and `stop` of a row
pub closing-quiet : (port : Opening) (stops : Bool) (caller other : ℕ) (reason : Option (List ℕ)) (earlier : List DriverCall)
    → AreQuiet (stop_calls stops caller ++ flush_calls port other reason earlier)
closing-quiet port stops caller other reason earlier = both-quiet (stop_calls stops caller) (flush_calls port other reason earlier) (stops-quiet stops caller) (flushes-quiet port other reason earlier)

-- a row that tells nothing of the program's output
pub record IsSilent (outside : List Outside) (effects : List Effect) : Type 0 where
  pub got : got_by outside ≡ []
  pub end : has_end outside ≡ false
  pub messages : messages_in effects ≡ []
  pub reads : selects_reading effects ≡ false

-- effects without messages, and without a selection for reading
pub record AreBare (effects : List Effect) : Type 0 where
  pub messages : messages_in effects ≡ []
  pub reads : selects_reading effects ≡ false

pub selects-append : (effects more : List Effect) → selects_reading effects ≡ false → selects_reading more ≡ false → selects_reading (effects ++ more) ≡ false
selects-append [] more e f = f
selects-append (Select event Read true ∷ effects) more e f = absurd (cc)
selects-append (Select event Read false ∷ effects) more e f = selects-append effects more e f
selects-append (Select event Write on ∷ effects) more e f = selects-append effects more e f
selects-append (effect ∷ effects) more e f = selects-append effects more e f

pub bare : (effects : List Effect) → messages_in effects ≡ [] → selects_reading effects ≡ false → AreBare effects
bare effects m r = record { messages = m; reads = r }

pub either-bare : (b : Bool) (xs ys : List Effect) → AreBare xs → AreBare ys → AreBare (cond b xs ys)
either-bare true xs ys x y = x
either-bare false xs ys x y = y

pub both-bare : (xs ys : List Effect) → AreBare xs → AreBare ys → AreBare (xs ++ ys)
both-bare xs ys x y = bare (xs ++ ys) (messages_in-append xs ys ∙ (ap (λ ms. ms ++ messages_in ys) x.messages ∙ y.messages)) (selects-append xs ys x.reads y.reads)

pub maybe-bare : (b : Bool) (effects : List Effect) → AreBare effects → AreBare (cond b effects [])
maybe-bare true effects are = are
maybe-bare false effects are = bare [] refl refl

output-bare : (config : Config) (earlier : List DriverCall) (queue : List ℕ) → AreBare (output_effects config earlier queue)
output-bare config earlier queue =
    let fills = is_empty (spawn_queue config earlier) && not (is_empty queue) in
    let stops = nat_le config.busy_high (length queue) && not (holds_busy config earlier) in
    let select : List Effect = Select (write_event earlier) Write true ∷ [] in
    let busy : List Effect = Busy true ∷ [] in
    both-bare (cond fills select []) (cond stops busy []) (maybe-bare fills select (bare select refl refl)) (maybe-bare stops busy (bare busy refl refl))

offer-bare : (config : Config) (earlier : List DriverCall) (queue : List ℕ) (answers : List Outside) → AreBare (offer_effects config earlier queue answers)
offer-bare config earlier queue answers =
    let frees = holds_busy config earlier && nat_lt (length queue) config.busy_low in
    let free : List Effect = Busy false ∷ [] in
    let select : List Effect = Select (write_event earlier) Write false ∷ [] in
    let fail : List Effect = Fail (codes "eio") ∷ [] in
    either-bare (has_failed answers) fail (cond frees free [] ++ cond (is_empty queue) select []) (bare fail refl refl)
    (both-bare (cond frees free []) (cond (is_empty queue) select []) (maybe-bare frees free (bare free refl refl)) (maybe-bare (is_empty queue) select (bare select refl refl)))

-- a callback that isn't `start` and doesn't fetch
abbrev pub IsOther : Callback → Type 0
IsOther (Start read write) = ⊥
IsOther (ReadyInput event) = ⊥
IsOther callback = Unit {0}

other-bare : (config : Config) (earlier : List DriverCall) (call : DriverCall) (queue : List ℕ) (callback : Callback) → IsOther callback → AreBare (callback_effects config earlier call queue callback)
other-bare config earlier call queue (Start read write) other = absurd other
other-bare config earlier call queue (ReadyInput event) other = absurd other
other-bare config earlier call queue (Outputv bytes) other =
    either-bare (fits config.mode (length bytes)) (output_effects config earlier queue) (Fail (codes "einval") ∷ []) (output-bare config earlier queue) (bare _ refl refl)
other-bare config earlier call queue (ReadyOutput event) other = offer-bare config earlier queue call.outside
other-bare config earlier call queue (Control op bytes) other = bare _ refl refl
other-bare config earlier call queue (Call op bytes) other = bare _ refl refl
other-bare config earlier call queue callback other = bare _ refl refl

-- answers without bytes and without an end
pub record HaveNothing (outside : List Outside) : Type 0 where
  pub got : got_by outside ≡ []
  pub end : has_end outside ≡ false

pub no-answers : (outside : List Outside) → is_none outside ≡ true → HaveNothing outside
no-answers [] none = record { got = refl; end = refl }
no-answers (answer ∷ outside) none = absurd (cc)

offered : (size : ℕ) (outside : List Outside) → answers_offer size outside ≡ true → HaveNothing outside
offered size (Took n ∷ []) answered = record { got = refl; end = refl }
offered size (Failed ∷ []) answered = record { got = refl; end = refl }
offered size outside answered = absurd (cc)

other-answers : (config : Config) (earlier : List DriverCall) (outside : List Outside) (callback : Callback) → IsOther callback → spawn_answered config earlier outside callback ≡ true
    → HaveNothing outside
other-answers config earlier outside (Start read write) other answered = absurd other
other-answers config earlier outside (ReadyInput event) other answered = absurd other
other-answers config earlier outside (ReadyOutput event) other answered = offered (length (spawn_queue config earlier)) outside answered
other-answers config earlier outside callback other answered = no-answers outside answered

-- no callback, or one that isn't `start` and doesn't fetch
abbrev pub IsOtherIf : Option Callback → Type 0
IsOtherIf None = Unit {0}
IsOtherIf (Some callback) = IsOther callback

later : (callback : Callback) → IsOther callback → IsLater callback
later (Start read write) other = absurd other
later (ReadyInput event) other = absurd other
later callback other = tt

-- the calls of such a callback
pub record IsSilentRow (outside : List Outside) (effects : List Effect) (calls : List DriverCall) : Type 0 where
  pub silent : IsSilent outside effects
  pub bring : BringNothing calls

-- a signal that doesn't tell that the program gives something
abbrev pub IsNoInput : Signal → Type 0
IsNoInput (Ready event Read) = ⊥
IsNoInput signal = Unit {0}

if-other : (b : Bool) (callback : Callback) → IsOther callback → IsOtherIf (cond b (Some callback) None)
if-other true callback other = other
if-other false callback other = tt

exit-other : (watched : List ℕ) (from : Sender) → IsOtherIf (exit_callback watched from)
exit-other watched (Process process) = if-other (has process watched) (ProcessExit process) tt
exit-other watched from = tt

pub callback-other : (ties : Ties) (watched : List ℕ) (from : Sender) (signal : Signal) → IsNoInput signal → IsOtherIf (callback_of ties watched from signal)
callback-other ties watched from (Ready event Read) input = absurd input
callback-other ties watched from (OwnerCommand payload) input = if-other (is_process ties.owner from) (Outputv (concat payload)) tt
callback-other ties watched from (Gone reason) input = exit-other watched from
callback-other ties watched from signal input = tt

-- a row with such a callback, or none
pub silent-other : (port : Opening) (s : State) (t : Taken) (callback : Option Callback) (caller : ℕ) → IsOtherIf callback
    → t.effects ≡ effects_after (spawning port) s.calls (calls_by callback caller t) → is_answered_by (spawning port) s (calls_by callback caller t) t.outside ≡ true
    → IsSilentRow t.outside t.effects (calls_by callback caller t)
silent-other port s t None caller other effects answered =
    let none = no-answers t.outside answered in
    record { silent = record { got = none.got; end = none.end; messages = ap messages_in effects; reads = ap selects_reading effects }; bring = none-bring }
silent-other port s t (Some callback) caller other effects answered =
    let call = call_of callback caller t.outside t.effects in
    let none = other-answers port.config s.calls t.outside callback other answered in
    let are = other-bare port.config s.calls call (spawn_queue port.config (call ∷ s.calls)) callback other in
    record {
      silent = record { got = none.got; end = none.end; messages = ap messages_in effects ∙ are.messages; reads = ap selects_reading effects ∙ are.reads };
      bring = call-brings call (later callback other) none.got none.end;
    }

-- a fetch that brought neither bytes nor the end
pub silent-fetch : (t : Taken) (event caller : ℕ) (outside : List Outside) (effects : List Effect) → t.outside ≡ outside → t.effects ≡ effects → HaveNothing outside → AreBare effects
    → IsSilentRow t.outside t.effects (call_of (ReadyInput event) caller t.outside t.effects ∷ [])
silent-fetch t event caller outside effects answers made none are = record {
  silent = record { got = ap got_by answers ∙ none.got; end = ap has_end answers ∙ none.end; messages = ap messages_in made ∙ are.messages; reads = ap selects_reading made ∙ are.reads };
  bring = call-brings (call_of (ReadyInput event) caller t.outside t.effects) tt (ap got_by answers ∙ none.got) (ap has_end answers ∙ none.end);
}

-- What the call of a signal and a flush leave.
use Rattle.std.proofs.Common.{◌≡◌, ◌==◌, ℕ, length, List, [], ◌∷◌, ◌++◌, Bool, true, false, ◌&&◌, ◌||◌, not, Option, Some, None, is_some, refl, sym, ap, ◌∙◌, subst}
use Rattle.std.proofs.Math.Dec.{eqb-suc-zero}
use Rattle.port_config.specs.declared.config.Config.{Config}
use Rattle.driver_model.specs.port_signal.Reasons.{is_kill}
use Rattle.driver_model.specs.port_signal.declared.outside.Outside.{Outside}
use Rattle.driver_model.specs.port_model.declared.effect.Effect.{Effect}
use Rattle.driver_model.specs.Calls as driver
use Rattle.driver_model.specs.Calls.{DriverCall, call_of, is_empty, Own, Kind, Echo, Tally, Valve, Store, Digest, Spawn, Refuse1, Refuse2, Refuse3}
use Rattle.driver_model.specs.Spawn.{is_none}
use Rattle.driver_model.specs.Drivers.{effects_of, call_answered}
use Rattle.port_driver.specs.Context.{Context}
use Rattle.port_driver.specs.Driven.{Stands}
use Rattle.port_history.specs.Opening.{Opening, Taken}
use Rattle.port_history.specs.Service.{callback_of, caller_of, calls_by, effects_after, first_reason, flush_calls, is_drained}
use Rattle.port_history.specs.Laws.{is_answered_by}
use Rattle.port_history.specs.State.{State, signal_calls}
use Rattle.recorded_calls.specs.declared.call.RecordedCall.{RecordedCall}
use Rattle.recorded_calls.specs.Told as told
use Rattle.recorded_calls.specs.Told.{told_call, DidAsTold}
use Rattle.history_driver.specs.Calling.{CalledAs, Flushed, is_flushed, is_stopped_for}

-- no answers
pub none-empty : (outside : List Outside) → (length outside == 0) ≡ is_none outside
none-empty [] = refl
none-empty (answer ∷ outside) = eqb-suc-zero (length outside)

-- a signal without a callback
pub called-none : (port : Opening) (s : State) (t : Taken) (own : Own) (context : Context) (answered : Bool) → None ≡ callback_of s.ties s.watched t.from t.task.signal
    → answered ≡ is_none t.outside → context.caller ≡ caller_of s.ties t.from → context.effects ≡ [] → Stands port.kind port.config s.calls own None context → CalledAs port s t own context answered
called-none port s t own context answered none e caller empty stands =
    let calls : signal_calls s t ≡ [] = ap (λ c. calls_by c (caller_of s.ties t.from) t) (sym none) in
    record {
      caller = caller;
      answers = e ∙ ap (λ cs. is_answered_by port s cs t.outside) (sym calls);
      called = λ _. record {
        stands = subst (λ cs. Stands port.kind port.config (cs ++ s.calls) own None context) (sym calls) stands;
        effects = empty ∙ ap (λ cs. effects_after port s.calls cs) (sym calls);
      };
    }

-- one with a callback
pub called-some : (port : Opening) (s : State) (t : Taken) (call : RecordedCall) (old_own new_own : Own) (old new : Context) (answered : Bool)
    → Some (told.callback_of call.callback) ≡ callback_of s.ties s.watched t.from t.task.signal → call.outside.now ≡ t.outside → call.effects.now ≡ t.effects
    → old.caller ≡ caller_of s.ties t.from → old.effects ≡ [] → DidAsTold port.kind call old_own new_own old new answered
    → Stands port.kind port.config s.calls old_own None old → CalledAs port s t new_own new answered
called-some port s t call old_own new_own old new answered callback outside effects caller empty did stands =
    let at : ℕ → List Outside → List Effect → List DriverCall = λ c os es. call_of (told.callback_of call.callback) c os es ∷ [] in
    let calls : signal_calls s t ≡ told_call old.caller call ∷ [] =
    ap (λ c. calls_by c (caller_of s.ties t.from) t) (sym callback)
    ∙ (ap (λ c. at c t.outside t.effects) (sym caller) ∙ (ap (λ os. at old.caller os t.effects) (sym outside) ∙ ap (λ es. at old.caller call.outside.now es) (sym effects))) in
    record {
      caller = did.caller ∙ caller;
      answers = did.answers port.config s.calls stands ∙ ap (λ cs. is_answered_by port s cs t.outside) (sym calls);
      called = λ yes.
          let r = did.did yes in
          let f = r.follows port.config s.calls stands in
          record {
            stands = subst (λ cs. Stands port.kind port.config (cs ++ s.calls) new_own None new) (sym calls) f.stands;
            effects = r.effects ∙ (ap (λ (es : List Effect). es ++ r.added) empty ∙ (f.effects ∙ ap (λ cs. effects_after port s.calls cs) (sym calls)));
          };
    }

-- `flush` asks nothing of the outside
asks-nothing : (kind : Kind) (config : Config) (earlier : List DriverCall) (caller : ℕ) → call_answered kind config earlier (call_of driver.Flush caller [] []) ≡ true
asks-nothing Echo config earlier caller = refl
asks-nothing Tally config earlier caller = refl
asks-nothing (Valve soft) config earlier caller = refl
asks-nothing Store config earlier caller = refl
asks-nothing Digest config earlier caller = refl
asks-nothing Spawn config earlier caller = refl
asks-nothing Refuse1 config earlier caller = refl
asks-nothing Refuse2 config earlier caller = refl
asks-nothing Refuse3 config earlier caller = refl

-- what is queued tells whether the calls left something
pub drained : (port : Opening) (calls : List DriverCall) (own : Own) (context : Context) → Stands port.kind port.config calls own None context
    → is_drained port calls ≡ is_empty context.queue
drained port calls own context s = ap (λ h. is_empty h.queue) (sym s.holds)

a-flush : (port : Opening) (caller : ℕ) (reason : Option (List ℕ)) (calls : List DriverCall) → is_flushed reason (is_drained port calls) ≡ true
    → flush_calls port caller reason calls ≡ call_of driver.Flush caller [] [] ∷ []
a-flush port caller None calls e = absurd (cc)
a-flush port caller (Some reason) calls e = rw (flush-yes (is_kill reason) (is_drained port calls) e) refl where
  flush-yes : (b d : Bool) → (not b && not d) ≡ true → (b || d) ≡ false
  flush-yes true d e = absurd (cc)
  flush-yes false true e = absurd (cc)
  flush-yes false false e = refl

-- a driver that is flushed
pub flushed-did : (port : Opening) (reason : Option (List ℕ)) (calls : List DriverCall) (call : RecordedCall) (old_own new_own : Own) (old new : Context) (answered : Bool)
    → told_call old.caller call ≡ call_of driver.Flush old.caller [] [] → is_flushed reason (is_empty old.queue) ≡ true
    → DidAsTold port.kind call old_own new_own old new answered → Stands port.kind port.config calls old_own None old → Flushed port reason calls new_own old new
flushed-did port reason calls call old_own new_own old new answered is e did s =
    let n = a-flush port old.caller reason calls (ap (is_flushed reason) (drained port calls old_own old s) ∙ e) in
    let yes : answered ≡ true = did.answers port.config calls s ∙ (ap (λ c. call_answered port.kind port.config calls c) is ∙ asks-nothing port.kind port.config calls old.caller) in
    let r = did.did yes in
    let f = r.follows port.config calls s in
    record {
      stands = subst (λ cs. Stands port.kind port.config (cs ++ calls) new_own None new) (sym n)
          (subst (λ c. Stands port.kind port.config (c ∷ calls) new_own None new) is f.stands);
      effects = r.effects ∙ ap (λ es. old.effects ++ es)
          (f.effects ∙ (ap (λ c. effects_of port.kind port.config (c ∷ calls)) is ∙ sym (ap (λ cs. effects_after port calls cs) n)));
    }

-- whether a driver is stopped, by the state before the row
pub stops-stopped : (stopped : Bool) (reason : Option (List ℕ)) (nothing : Bool) → true ≡ stopped → false ≡ (not stopped && is_stopped_for reason nothing)
stops-stopped true reason nothing e = refl
stops-stopped false reason nothing e = absurd (cc)

pub stops-closed : (stopped : Bool) (first reason : Option (List ℕ)) (nothing : Bool) → false ≡ stopped → true ≡ is_some first
    → is_stopped_for first nothing ≡ (not stopped && is_stopped_for (first_reason first reason) nothing)
stops-closed true first reason nothing e some = absurd (cc)
stops-closed false None reason nothing e some = absurd (cc)
stops-closed false (Some first) reason nothing e some = refl

pub stops-open : (stopped : Bool) (first reason : Option (List ℕ)) (nothing : Bool) → false ≡ stopped → false ≡ is_some first
    → is_stopped_for reason nothing ≡ (not stopped && is_stopped_for (first_reason first reason) nothing)
stops-open true first reason nothing e none = absurd (cc)
stops-open false None reason nothing e none = refl
stops-open false (Some first) reason nothing e none = absurd (cc)

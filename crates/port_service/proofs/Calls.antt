-- What the callbacks of a row leave.
use Rattle.std.proofs.Common.{◌≡◌, ℕ, List, [], ◌∷◌, ◌++◌, Bool, true, false, ◌&&◌, ◌||◌, not, Option, Some, None, refl, sym, ap, ◌∙◌, append_assoc, subst}
use Rattle.std.proofs.lemmas.List.{append-nil}
use Rattle.port_driver.specs.port_config.declared.config.Config.{Config}
use Rattle.port_model.specs.port_signal.declared.outside.Outside.{Outside}
use Rattle.port_model.specs.port_signal.Reasons.{is_kill}
use Rattle.port_model.specs.declared.effect.Effect.{Effect}
use Rattle.port_driver.specs.driver_model.Calls as driver
use Rattle.port_driver.specs.driver_model.Calls.{Callback, DriverCall, call_of, cut_of, is_empty, Own, Kind, Echo, Tally, Valve, Store, Digest, Spawn, Refuse1, Refuse2, Refuse3}
use Rattle.port_driver.specs.driver_model.Spawn.{is_none}
use Rattle.port_driver.specs.driver_model.Drivers.{effects_of, call_answered}
use Rattle.port_driver.specs.driver_model.Programs.{ToldProgram}
use Rattle.port_driver.specs.Context.{Context, did}
use Rattle.port_driver.specs.Driven.{Did, Ended, Stands}
use Rattle.port_history.specs.Opening.{Opening}
use Rattle.port_history.specs.Service.{effects_after, flush_calls, is_drained}
use Rattle.port_service.specs.Called.{Called}
use Rattle.port_service.specs.Closing.{Flushed, Halted, is_flushed}
use Rattle.port_service.proofs.Recut.{SameCut, recut-effects, recut-stands}

-- a driver that stands so in a context stands so in one of the same queue, events and jobs
pub Stands-in : (kind : Kind) (config : Config) (calls : List DriverCall) (own : Own) (program : Option ToldProgram) (old new : Context) → new.queue ≡ old.queue → new.held ≡ old.held
    → new.next_job ≡ old.next_job → Stands kind config calls own program old → Stands kind config calls own program new
Stands-in kind config calls own program old new q h n s = record {
  holds = rw q s.holds;
  jobs = rw n s.jobs;
  events = rw h s.events;
  told = s.told;
}

-- no callback
pub Called-none : (kind : Kind) (own : Own) (program : Option ToldProgram) (context : Context) → Called kind None own own program program context context
Called-none kind own program context = record {
  answers = [];
  added = [];
  outside = sym (append-nil context.outside);
  effects = sym (append-nil context.effects);
  follows = λ port s k stands. record { stands = stands; effects_are = refl; answered = refl };
}

-- a callback that answers nothing by itself
pub Called-did : (kind : Kind) (callback : Callback) (old_own new_own : Own) (old_program new_program : Option ToldProgram) (old new : Context)
    → Did kind callback old_own new_own old_program new_program old new [] → Called kind (Some callback) old_own new_own old_program new_program old new
Called-did kind callback old_own new_own old_program new_program old new d = record {
  answers = d.answers;
  added = d.added;
  outside = d.outside;
  effects = d.effects;
  follows = λ port s k stands.
      let f = (rw (← k) at d.follows) port.config s.calls stands in
      let g = rw (append-nil d.added) at f in
      record { stands = g.stands; effects_are = g.effects; answered = g.answered };
}

-- a callback whose answer is recorded behind what it did
pub Called-answered : (kind : Kind) (callback : Callback) (old_own new_own : Own) (old_program new_program : Option ToldProgram) (old mid new : Context) (answer : Effect)
    → Did kind callback old_own new_own old_program new_program old mid (answer ∷ []) → new ≡ did mid answer → Called kind (Some callback) old_own new_own old_program new_program old new
Called-answered kind callback old_own new_own old_program new_program old mid new answer d e = rw e (record {
  answers = d.answers;
  added = d.added ++ answer ∷ [];
  outside = d.outside;
  effects = ap (λ es. es ++ answer ∷ []) d.effects ∙ append_assoc old.effects d.added (answer ∷ []);
  follows = λ port s k stands.
      let f = (rw (← k) at d.follows) port.config s.calls stands in
      record {
        stands = Stands-in port.kind port.config _ new_own new_program mid (did mid answer) refl refl refl f.stands;
        effects_are = f.effects;
        answered = f.answered;
      };
})

-- `flush` and `stop` ask nothing of the outside
asks-nothing : (kind : Kind) (config : Config) (earlier : List DriverCall) (caller : ℕ) (outside : List Outside) (effects : List Effect)
    → call_answered kind config earlier (call_of driver.Flush caller outside effects) ≡ is_none outside
asks-nothing Echo config earlier caller outside effects = refl
asks-nothing Tally config earlier caller outside effects = refl
asks-nothing (Valve soft) config earlier caller outside effects = refl
asks-nothing Store config earlier caller outside effects = refl
asks-nothing Digest config earlier caller outside effects = refl
asks-nothing Spawn config earlier caller outside effects = refl
asks-nothing Refuse1 config earlier caller outside effects = refl
asks-nothing Refuse2 config earlier caller outside effects = refl
asks-nothing Refuse3 config earlier caller outside effects = refl

none-is : (outside : List Outside) → is_none outside ≡ true → outside ≡ []
none-is [] e = refl
none-is (answer ∷ outside) e = absurd cc

-- a flush of a program has no effects, so it is cut as if it had none
flush-cut : (kind : Kind) (config : Config) (earlier : List DriverCall) (caller : ℕ) (outside : List Outside) (effects : List Effect)
    → effects ≡ effects_of kind config (call_of driver.Flush caller outside effects ∷ earlier) → SameCut kind effects []
flush-cut Echo config earlier caller outside effects e = tt
flush-cut Tally config earlier caller outside effects e = tt
flush-cut (Valve soft) config earlier caller outside effects e = tt
flush-cut Store config earlier caller outside effects e = tt
flush-cut Digest config earlier caller outside effects e = tt
flush-cut Spawn config earlier caller outside effects e = ap cut_of e
flush-cut Refuse1 config earlier caller outside effects e = tt
flush-cut Refuse2 config earlier caller outside effects e = tt
flush-cut Refuse3 config earlier caller outside effects e = tt

-- what is queued tells whether the calls left something
pub drained : (port : Opening) (calls : List DriverCall) (own : Own) (program : Option ToldProgram) (context : Context) → Stands port.kind port.config calls own program context
    → is_drained port calls ≡ is_empty context.queue
drained port calls own program context s = ap (λ h. is_empty h.queue) (sym s.holds)

-- a port that doesn't close isn't flushed
pub Flushed-none : (kind : Kind) (own : Own) (program : Option ToldProgram) (context : Context) → Flushed kind None own own program program context context
Flushed-none kind own program context = record {
  follows = λ port calls k s. record { outside = refl; effects = sym (append-nil context.effects); stands = s };
}

no-flush : (port : Opening) (caller : ℕ) (reason : List ℕ) (calls : List DriverCall) → (is_kill reason || is_drained port calls) ≡ true
    → flush_calls port caller (Some reason) calls ≡ []
no-flush port caller reason calls e = rw e refl

-- nor one that is killed, or that has nothing queued
pub Flushed-not : (kind : Kind) (reason : List ℕ) (own : Own) (program : Option ToldProgram) (context : Context) → (is_kill reason || is_empty context.queue) ≡ true
    → Flushed kind (Some reason) own own program program context context
Flushed-not kind reason own program context e = record {
  follows = λ port calls k s.
      let n = no-flush port context.caller reason calls (ap (λ b. is_kill reason || b) (drained port calls own program context s) ∙ e) in
      record {
        outside = refl;
        effects = sym (ap (λ cs. context.effects ++ effects_after port calls cs) n ∙ append-nil context.effects);
        stands = subst (λ cs. Stands port.kind port.config (cs ++ calls) own program context) (sym n) s;
      };
}

a-flush : (port : Opening) (caller : ℕ) (reason : List ℕ) (calls : List DriverCall) → (is_kill reason || is_drained port calls) ≡ false
    → flush_calls port caller (Some reason) calls ≡ call_of driver.Flush caller [] [] ∷ []
a-flush port caller reason calls e = rw e refl

-- one that has bytes queued is flushed
pub Flushed-did : (kind : Kind) (reason : List ℕ) (old_own new_own : Own) (old_program new_program : Option ToldProgram) (old new : Context)
    → (is_kill reason || is_empty old.queue) ≡ false → Did kind driver.Flush old_own new_own old_program new_program old new []
    → Flushed kind (Some reason) old_own new_own old_program new_program old new
Flushed-did kind reason old_own new_own old_program new_program old new e d = record {
  follows = λ port calls k s.
      let f = rw (append-nil d.added) at ((rw (← k) at d.follows) port.config calls s) in
      let none : d.answers ≡ [] = none-is d.answers (sym (asks-nothing port.kind port.config calls old.caller d.answers d.added) ∙ f.answered) in
      let stands1 = subst (λ (os : List Outside). Stands port.kind port.config (call_of driver.Flush old.caller os d.added ∷ calls) new_own new_program new) none f.stands in
      let effects1 : d.added ≡ effects_of port.kind port.config (call_of driver.Flush old.caller [] d.added ∷ calls) =
      subst (λ (os : List Outside). d.added ≡ effects_of port.kind port.config (call_of driver.Flush old.caller os d.added ∷ calls)) none f.effects in
      let cut = flush-cut port.kind port.config calls old.caller [] d.added effects1 in
      let n = a-flush port old.caller reason calls (ap (λ b. is_kill reason || b) (drained port calls old_own old_program old s) ∙ e) in
      record {
        outside = d.outside ∙ (ap (λ (os : List Outside). old.outside ++ os) none ∙ append-nil old.outside);
        effects = d.effects ∙ ap (λ es. old.effects ++ es)
            (effects1 ∙ (recut-effects port.kind port.config calls driver.Flush old.caller [] d.added [] cut ∙ sym (ap (λ cs. effects_after port calls cs) n)));
        stands = subst (λ cs. Stands port.kind port.config (cs ++ calls) new_own new_program new) (sym n)
            (recut-stands port.kind port.config calls driver.Flush old.caller [] d.added [] new_own new_program new cut stands1);
      };
}

-- one that isn't flushed, or is
flush-not : (b d : Bool) → (not b && not d) ≡ false → (b || d) ≡ true
flush-not true d e = refl
flush-not false true e = refl
flush-not false false e = absurd cc

flush-yes : (b d : Bool) → (not b && not d) ≡ true → (b || d) ≡ false
flush-yes true d e = absurd cc
flush-yes false true e = absurd cc
flush-yes false false e = refl

pub Flushed-if-not : (kind : Kind) (reason : Option (List ℕ)) (own : Own) (program : Option ToldProgram) (context : Context) → is_flushed reason (is_empty context.queue) ≡ false
    → Flushed kind reason own own program program context context
Flushed-if-not kind None own program context e = Flushed-none kind own program context
Flushed-if-not kind (Some reason) own program context e = Flushed-not kind reason own program context (flush-not (is_kill reason) (is_empty context.queue) e)

pub Flushed-if : (kind : Kind) (reason : Option (List ℕ)) (old_own new_own : Own) (old_program new_program : Option ToldProgram) (old new : Context)
    → is_flushed reason (is_empty old.queue) ≡ true → Did kind driver.Flush old_own new_own old_program new_program old new [] → Flushed kind reason old_own new_own old_program new_program old new
Flushed-if kind None old_own new_own old_program new_program old new e d = absurd cc
Flushed-if kind (Some reason) old_own new_own old_program new_program old new e d =
    Flushed-did kind reason old_own new_own old_program new_program old new (flush-yes (is_kill reason) (is_empty old.queue) e) d

-- a driver that isn't stopped
pub Halted-not : (kind : Kind) (own : Own) (program : Option ToldProgram) → Halted kind false own own program program
Halted-not kind own program = record { follows = λ port calls context k s. (s, refl) }

-- one that is
pub Halted-ended : (kind : Kind) (old_own new_own : Own) (old_program new_program : Option ToldProgram) → Ended kind old_own new_own old_program new_program
    → Halted kind true old_own new_own old_program new_program
Halted-ended kind old_own new_own old_program new_program d = record {
  follows = λ port calls context k s.
      let f = (rw (← k) at d.follows) port.config calls context s in
      (f.stands, sym f.effects);
}

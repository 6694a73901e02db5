-- What the row of a handled task leaves.
use Rattle.std.proofs.Common.{◌≡◌, ℕ, List, [], ◌∷◌, ◌++◌, ◌+◌, Bool, true, false, ◌&&◌, ◌||◌, not, Option, Some, None, refl, sym, ap, ◌∙◌, append_assoc, subst}
use Rattle.std.specs.List.{concat}
use Rattle.std.proofs.lemmas.List.{append-nil}
use Rattle.driver_model.specs.port_signal.Reasons.{is_kill}
use Rattle.driver_model.specs.port_model.declared.effect.Effect.{Effect}
use Rattle.driver_model.specs.Calls.{DriverCall, is_empty, Own}
use Rattle.driver_model.specs.Drivers.{effects_of, held_by, held_events, job_count, jobs_by}
use Rattle.driver_model.specs.Same.{same_effects}
use Rattle.port_driver.specs.Context.{Context, SameEvents}
use Rattle.port_driver.specs.Driven.{Stands}
use Rattle.port_driver.proofs.Events.{SameEvents-held_by}
use Rattle.port_history.specs.Opening.{Opening, Taken}
use Rattle.port_history.specs.Service.{caller_of, effects_after, first_reason, flush_calls, is_drained, must_stop, stop_calls}
use Rattle.port_history.specs.State.{State, closing_reason, row_calls, signal_calls, stops}
use Rattle.port_history.specs.Laws.{has_effects, is_answered_by}
use Rattle.history_tables.specs.JobsKept.{are_next}
use Rattle.history_state.specs.declared.rows.RowEnd.{RowEnd}
use Rattle.history_driver.specs.declared.driver.HistoryDriver.{HistoryDriver}
use Rattle.history_driver.specs.Calling.{AfterSignal, CalledAs, Flushed, is_stopped_for}
use Rattle.history_driver.specs.Handled.{IsDriverOf, Judged, NumbersJobs, standing}
use Rattle.history_driver.specs.Running.{kind_in, own_in}
use Rattle.history_driver.proofs.Calls.{drained}
use Rattle.history_driver.proofs.Equal.{equal}
use Rattle.history_driver.proofs.Numbered.{leads, submitted-count}
use Rattle.history_driver.proofs.Replied.{Stands-in}
use Rattle.history_driver.proofs.Stopped.{stop-effects, stop-stands}

-- the effects of calls after others
effects-append : (port : Opening) (earlier xs ys : List DriverCall) → effects_after port earlier (xs ++ ys) ≡ effects_after port earlier ys ++ effects_after port (ys ++ earlier) xs
effects-append port earlier [] ys = sym (append-nil (effects_after port earlier ys))
effects-append port earlier (x ∷ xs) ys =
    ap (λ es. es ++ effects_of port.kind port.config (x ∷ (xs ++ ys) ++ earlier)) (effects-append port earlier xs ys)
    ∙ (append_assoc (effects_after port earlier ys) (effects_after port (ys ++ earlier) xs) (effects_of port.kind port.config (x ∷ (xs ++ ys) ++ earlier))
    ∙ ap (λ cs. effects_after port earlier ys ++ (effects_after port (ys ++ earlier) xs ++ effects_of port.kind port.config (x ∷ cs))) (append_assoc xs ys earlier))

-- the context of a row's calls, as they begin
pub fresh-stands : (port : Opening) (calls : List DriverCall) (own : Own) (next_job caller : ℕ) (held queue held' queue' : List ℕ) (context : Context)
    → context ≡ record { caller = caller; next_job = next_job; held = held'; queue = queue'; outside = []; effects = [] } → held' ≡ held → queue' ≡ queue
    → Stands port.kind port.config calls own None (standing next_job held queue) → Stands port.kind port.config calls own None context
fresh-stands port calls own next_job caller held queue held' queue' context e h q s =
    Stands-in port.kind port.config calls own None (standing next_job held queue) context (ap (λ x. x.queue) e ∙ q) (ap (λ x. x.held) e ∙ h) (ap (λ x. x.next_job) e) s

-- `stop`, if it is called
stops-stands : (b : Bool) (port : Opening) (calls : List DriverCall) (caller : ℕ) (own : Own) (context : Context) → Stands port.kind port.config calls own None context
    → Stands port.kind port.config (stop_calls b caller ++ calls) own None context
stops-stands true port calls caller own context s = stop-stands port.kind port.config calls caller own context s
stops-stands false port calls caller own context s = s

stops-effects : (b : Bool) (port : Opening) (calls : List DriverCall) (caller : ℕ) → effects_after port calls (stop_calls b caller) ≡ []
stops-effects true port calls caller = stop-effects port.kind port.config calls caller
stops-effects false port calls caller = refl

-- the driver stands as it does after all calls of the row, and had their effects
pub record AfterRow (port : Opening) (s : State) (t : Taken) (own : Own) (context : Context) : Type 0 where
  pub stands : Stands port.kind port.config (row_calls port s t ++ s.calls) own None context
  pub effects : context.effects ≡ effects_after port s.calls (row_calls port s t)
  pub stops_it : stops port s t ≡ (not s.stopped && is_stopped_for (first_reason s.reason (closing_reason s t)) (is_empty context.queue))

must-stop : (port : Opening) (reason : Option (List ℕ)) (calls : List DriverCall) (nothing : Bool) → is_drained port calls ≡ nothing
    → must_stop port reason calls ≡ is_stopped_for reason nothing
must-stop port None calls nothing e = refl
must-stop port (Some reason) calls nothing e = ap (λ b. is_kill reason || b) e

pub after-row : (port : Opening) (s : State) (t : Taken) (own1 own2 : Own) (done last : Context) → done.caller ≡ caller_of s.ties t.from → AfterSignal port s t own1 done
    → Flushed port (closing_reason s t) (signal_calls s t ++ s.calls) own2 done last → AfterRow port s t own2 last
after-row port s t own1 own2 done last caller after flushed =
    let c = caller_of s.ties t.from in
    let first : List DriverCall = signal_calls s t in
    let flush : List DriverCall = flush_calls port c (closing_reason s t) (first ++ s.calls) in
    let stop : List DriverCall = stop_calls (stops port s t) c in
    let stands2 : Stands port.kind port.config (flush ++ (first ++ s.calls)) own2 None last =
    subst (λ x. Stands port.kind port.config (flush_calls port x (closing_reason s t) (first ++ s.calls) ++ (first ++ s.calls)) own2 None last) caller flushed.stands in
    let effects2 : last.effects ≡ done.effects ++ effects_after port (first ++ s.calls) flush =
    subst (λ x. last.effects ≡ done.effects ++ effects_after port (first ++ s.calls) (flush_calls port x (closing_reason s t) (first ++ s.calls))) caller flushed.effects in
    let shape : (stop ++ (flush ++ first)) ++ s.calls ≡ stop ++ (flush ++ (first ++ s.calls)) =
    append_assoc stop (flush ++ first) s.calls ∙ ap (λ cs. stop ++ cs) (append_assoc flush first s.calls) in
    let whole : effects_after port s.calls (stop ++ (flush ++ first)) ≡ last.effects =
    effects-append port s.calls stop (flush ++ first)
    ∙ (ap (λ es. effects_after port s.calls (flush ++ first) ++ es) (stops-effects (stops port s t) port ((flush ++ first) ++ s.calls) c)
    ∙ (append-nil (effects_after port s.calls (flush ++ first))
    ∙ (effects-append port s.calls flush first
    ∙ (ap (λ es. es ++ effects_after port (first ++ s.calls) flush) (sym after.effects) ∙ sym effects2)))) in
    record {
      stands = subst (λ cs. Stands port.kind port.config cs own2 None last) (sym shape)
          (stops-stands (stops port s t) port (flush ++ (first ++ s.calls)) c own2 last stands2);
      effects = sym whole;
      stops_it = ap (λ b. not s.stopped && b) (must-stop port (first_reason s.reason (closing_reason s t)) ((flush ++ first) ++ s.calls) (is_empty last.queue)
          (ap (λ cs. is_drained port cs) (append_assoc flush first s.calls) ∙ drained port (flush ++ (first ++ s.calls)) own2 last stands2));
    }

and-false : (b : Bool) → (b && false) ≡ false
and-false true = refl
and-false false = refl

-- a row whose answers aren't those that its call asks for breaks the law
pub judged-unanswered : (port : Opening) (s : State) (t : Taken) (own : Own) (context : Context) → CalledAs port s t own context false
    → has_effects port s t ≡ false
judged-unanswered port s t own context called =
    ap (λ b. same_effects t.effects (effects_after port s.calls (row_calls port s t)) && b) (sym called.answers)
    ∙ and-false (same_effects t.effects (effects_after port s.calls (row_calls port s t)))

-- and one with other effects
pub judged-other : (port : Opening) (s : State) (t : Taken) (own : Own) (last : Context) → AfterRow port s t own last
    → false ≡ same_effects t.effects last.effects → has_effects port s t ≡ false
judged-other port s t own last row other =
    ap (λ es. same_effects t.effects es && is_answered_by port s (signal_calls s t) t.outside) (sym row.effects)
    ∙ ap (λ b. b && is_answered_by port s (signal_calls s t) t.outside) (sym other)

-- the jobs of some calls
numbers-jobs : (port : Opening) (before calls : List DriverCall) (effects : List Effect) → effects ≡ effects_after port before calls
    → NumbersJobs port before (calls ++ before) effects
numbers-jobs port before calls effects e =
    let l = leads port before calls in
    record {
      next_jobs = ap (are_next (job_count port.kind port.config before)) e ∙ l.proper.next_jobs;
      jobs = l.jobs ∙ ap (λ n. job_count port.kind port.config before + n) (sym (ap jobs_by e) ∙ submitted-count effects);
    }

-- what is kept is what the driver holds, where its events went on by the effects
pub is-driver : (port : Opening) (before calls : List DriverCall) (old_held : List ℕ) (last : Context) (driver : HistoryDriver) → kind_in driver.driver ≡ port.kind
    → SameEvents old_held (held_events port.kind port.config before) → last.effects ≡ effects_after port before calls
    → Stands port.kind port.config (calls ++ before) (own_in driver.driver) None last
    → driver.next_job ≡ last.next_job → concat driver.queue.segments ≡ last.queue → driver.held ≡ held_by last.effects old_held
    → IsDriverOf driver port (calls ++ before)
is-driver port before calls old_held last driver kind events e stands n q h =
    let l = leads port before calls in
    let made : List Effect = effects_after port before calls in
    let same : SameEvents (held_by made old_held) (held_by made (held_events port.kind port.config before)) =
    SameEvents-held_by made old_held (held_events port.kind port.config before) l.proper.none events in
    let held : driver.held ≡ held_by made old_held = h ∙ ap (λ es. held_by es old_held) e in
    record {
      kind_is = kind;
      stands = record {
        holds = rw q stands.holds;
        jobs = n ∙ stands.jobs;
        events = subst (λ x. SameEvents x (held_events port.kind port.config (calls ++ before))) (sym held)
            (subst (λ x. SameEvents (held_by made old_held) x) (sym l.held) same);
        told = tt;
      };
    }

-- a row that keeps the law
pub judged-same : (port : Opening) (s : State) (t : Taken) (own : Own) (done last : Context) (old_held : List ℕ) (closing : RowEnd) (driver : HistoryDriver)
    → AfterRow port s t (own_in driver.driver) last → CalledAs port s t own done true → true ≡ same_effects t.effects last.effects
    → closing.reason ≡ closing_reason s t → closing.stops ≡ (not s.stopped && is_stopped_for (first_reason s.reason closing.reason) (is_empty last.queue))
    → kind_in driver.driver ≡ port.kind → SameEvents old_held (held_events port.kind port.config s.calls)
    → driver.next_job ≡ last.next_job → concat driver.queue.segments ≡ last.queue → driver.held ≡ held_by last.effects old_held
    → Judged port s t (Some closing) driver
judged-same port s t own done last old_held closing driver row called same reason stopped kind events n q h =
    let kept : has_effects port s t ≡ true =
    ap (λ es. same_effects t.effects es && is_answered_by port s (signal_calls s t) t.outside) (sym row.effects)
    ∙ (ap (λ b. b && is_answered_by port s (signal_calls s t) t.outside) (sym same) ∙ sym called.answers) in
    let effects : t.effects ≡ last.effects = equal t.effects last.effects (sym same) in (
      kept,
      record {
        closes = reason;
        stops_it = stopped ∙ (ap (λ r. not s.stopped && is_stopped_for (first_reason s.reason r) (is_empty last.queue)) reason ∙ sym row.stops_it);
        driver_is = is-driver port s.calls (row_calls port s t) old_held last driver kind events row.effects row.stands n q h;
        numbers = numbers-jobs port s.calls (row_calls port s t) t.effects (effects ∙ row.effects);
      },
    )

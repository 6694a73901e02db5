-- What a row's calls leave together.
use Rattle.std.proofs.Common.{◌≡◌, ◌≤◌, ℕ, length, List, [], ◌∷◌, ◌++◌, Bool, true, false, ◌&&◌, ◌||◌, Option, Some, None, is_some, refl, sym, ap, ◌∙◌, append_assoc, subst}
use Rattle.std.specs.Prelude.{IsSomeAnd, not, if◌then◌else◌}
use Rattle.std.proofs.lemmas.List.{append-nil}
use Rattle.port_model.specs.port_signal.declared.outside.Outside.{Outside}
use Rattle.port_model.specs.port_signal.Reasons.{is_kill}
use Rattle.port_model.specs.declared.effect.Effect.{Effect}
use Rattle.port_model.specs.declared.effect.Effect.TheVariants as effect
use Rattle.port_model.specs.declared.signal.Sender.{Sender}
use Rattle.port_model.specs.declared.signal.Sender.TheVariants.{Process, Poller, Worker, Timer}
use Rattle.port_model.specs.declared.signal.Signal.{Signal}
use Rattle.port_model.specs.declared.signal.Signal.TheVariants as signal
use Rattle.port_model.specs.declared.event.Dir.TheVariants.{Read, Write}
use Rattle.port_model.specs.Tasks.{TaskView}
use Rattle.port_driver.specs.driver_model.Calls as driver
use Rattle.port_driver.specs.driver_model.Calls.{Callback, DriverCall, call_of, cut_of, is_empty, Own, Kind, Echo, Tally, Valve, Store, Digest, Spawn, Refuse1, Refuse2, Refuse3}
use Rattle.port_driver.specs.driver_model.Drivers.{effects_of}
use Rattle.port_driver.specs.driver_model.Programs.{ToldProgram}
use Rattle.port_driver.specs.Context.{Context}
use Rattle.port_driver.specs.Driven.{Stands}
use Rattle.port_history.specs.Opening.{Opening, Taken, taken_of, is_process}
use Rattle.port_history.specs.Ties.{Ties, failure, signal_reason}
use Rattle.port_history.specs.Service.{callback_of, caller_of, calls_by, effects_after, first_reason, flush_calls, is_drained, must_stop, stop_calls}
use Rattle.port_history.specs.State.{State, closing_reason, flushed_calls, row_calls, signal_calls, stops}
use Rattle.port_history.specs.Laws.{is_answered_by}
use Rattle.port_service.specs.Callbacks.{callback_by, is_told_of}
use Rattle.port_service.specs.Called.{Called, made}
use Rattle.port_service.specs.Closing.{Flushed, Halted, ends_driver}
use Rattle.port_service.specs.Service.{ServiceView}
use Rattle.port_service.specs.Serves.{IsServed, Serves, Served, standing}
use Rattle.port_service.proofs.Recut.{SameCut, recut-effects, recut-stands, recut-answered}
use Rattle.port_service.proofs.Calls.{drained, Stands-in}

-- the effects of calls after others
effects-append : (port : Opening) (earlier xs ys : List DriverCall) → effects_after port earlier (xs ++ ys) ≡ effects_after port earlier ys ++ effects_after port (ys ++ earlier) xs
effects-append port earlier [] ys = sym (append-nil (effects_after port earlier ys))
effects-append port earlier (x ∷ xs) ys =
    ap (λ es. es ++ effects_of port.kind port.config (x ∷ (xs ++ ys) ++ earlier)) (effects-append port earlier xs ys)
    ∙ (append_assoc (effects_after port earlier ys) (effects_after port (ys ++ earlier) xs) (effects_of port.kind port.config (x ∷ (xs ++ ys) ++ earlier))
    ∙ ap (λ cs. effects_after port earlier ys ++ (effects_after port (ys ++ earlier) xs ++ effects_of port.kind port.config (x ∷ cs))) (append_assoc xs ys earlier))

-- the callback of a signal by what a port knows of its sender
pub callback-by : (ties : Ties) (watched : List ℕ) (from : Sender) (s : Signal)
    → callback_by (is_process ties.owner from) (is_told_of watched from) (caller_of ties from) s ≡ callback_of ties watched from s
callback-by ties watched from (signal.Command payload) = refl
callback-by ties watched from (signal.OwnerCommand payload) = refl
callback-by ties watched from (signal.Control op bytes) = refl
callback-by ties watched from (signal.Call op bytes) = refl
callback-by ties watched from signal.Close = refl
callback-by ties watched from signal.OwnerClose = refl
callback-by ties watched from (signal.Connect process) = refl
callback-by ties watched from (signal.OwnerConnect process) = refl
callback-by ties watched from signal.Link = refl
callback-by ties watched from signal.Unlink = refl
callback-by ties watched from (signal.Monitor number) = refl
callback-by ties watched from (signal.Demonitor number) = refl
callback-by ties watched from (signal.Exit reason) = refl
callback-by ties watched (Process process) (signal.Gone reason) = refl
callback-by ties watched Poller (signal.Gone reason) = refl
callback-by ties watched (Worker worker) (signal.Gone reason) = refl
callback-by ties watched Timer (signal.Gone reason) = refl
callback-by ties watched from (signal.Ready event Read) = refl
callback-by ties watched from (signal.Ready event Write) = refl
callback-by ties watched from (signal.Dropped event) = refl
callback-by ties watched from (signal.AsyncDone number output) = refl

calls_by-made : (callback : Option Callback) (caller : ℕ) (from : Sender) (seq : ℕ) (task : TaskView) (outside : List Outside) (effects : List Effect)
    → calls_by callback caller (taken_of from seq task outside effects) ≡ made callback caller outside effects
calls_by-made None caller from seq task outside effects = refl
calls_by-made (Some callback) caller from seq task outside effects = refl

-- a flush has no failure among its effects, and none at all for a program
a-flush-fails-not : (kind : Kind) (port : Opening) (calls : List DriverCall) (caller : ℕ) → port.kind ≡ kind
    → failure (effects_of port.kind port.config (call_of driver.Flush caller [] [] ∷ calls)) ≡ None
a-flush-fails-not Echo port calls caller e = rw e refl
a-flush-fails-not Tally port calls caller e = rw e refl
a-flush-fails-not (Valve soft) port calls caller e = rw e refl
a-flush-fails-not Store port calls caller e = rw e refl
a-flush-fails-not Digest port calls caller e = rw e refl
a-flush-fails-not Spawn port calls caller e = rw e refl
a-flush-fails-not Refuse1 port calls caller e = rw e refl
a-flush-fails-not Refuse2 port calls caller e = rw e refl
a-flush-fails-not Refuse3 port calls caller e = rw e refl

flush-if-fails-not : (b : Bool) (port : Opening) (calls : List DriverCall) (caller : ℕ)
    → failure (effects_after port calls (if b then [] else call_of driver.Flush caller [] [] ∷ [])) ≡ None
flush-if-fails-not true port calls caller = refl
flush-if-fails-not false port calls caller = a-flush-fails-not port.kind port calls caller refl

flush-fails-not : (reason : Option (List ℕ)) (port : Opening) (calls : List DriverCall) (caller : ℕ) → failure (effects_after port calls (flush_calls port caller reason calls)) ≡ None
flush-fails-not None port calls caller = refl
flush-fails-not (Some reason) port calls caller = flush-if-fails-not (is_kill reason || is_drained port calls) port calls caller

flush-if-of-program : (b : Bool) (port : Opening) (calls : List DriverCall) (caller : ℕ) → port.kind ≡ Spawn
    → effects_after port calls (if b then [] else call_of driver.Flush caller [] [] ∷ []) ≡ []
flush-if-of-program true port calls caller e = refl
flush-if-of-program false port calls caller e = rw e refl

flush-of-program : (reason : Option (List ℕ)) (port : Opening) (calls : List DriverCall) (caller : ℕ) → port.kind ≡ Spawn
    → effects_after port calls (flush_calls port caller reason calls) ≡ []
flush-of-program None port calls caller e = refl
flush-of-program (Some reason) port calls caller e = flush-if-of-program (is_kill reason || is_drained port calls) port calls caller e

cut-with : (kind : Kind) (effects more : List Effect) → (kind ≡ Spawn → more ≡ []) → SameCut kind effects (effects ++ more)
cut-with Echo effects more none = tt
cut-with Tally effects more none = tt
cut-with (Valve soft) effects more none = tt
cut-with Store effects more none = tt
cut-with Digest effects more none = tt
cut-with Spawn effects more none = ap cut_of (sym (ap (λ m. effects ++ m) (none refl) ∙ append-nil effects))
cut-with Refuse1 effects more none = tt
cut-with Refuse2 effects more none = tt
cut-with Refuse3 effects more none = tt

recut-made : (callback : Option Callback) (port : Opening) (calls : List DriverCall) (caller : ℕ) (outside : List Outside) (a b : List Effect) (own : Own) (program : Option ToldProgram)
    (context : Context) → SameCut port.kind a b → Stands port.kind port.config (made callback caller outside a ++ calls) own program context
    → Stands port.kind port.config (made callback caller outside b ++ calls) own program context
recut-made None port calls caller outside a b own program context same s = s
recut-made (Some callback) port calls caller outside a b own program context same s =
    recut-stands port.kind port.config calls callback caller outside a b own program context same s

recut-made-effects : (callback : Option Callback) (port : Opening) (calls : List DriverCall) (caller : ℕ) (outside : List Outside) (a b : List Effect) → SameCut port.kind a b
    → effects_after port calls (made callback caller outside a) ≡ effects_after port calls (made callback caller outside b)
recut-made-effects None port calls caller outside a b same = refl
recut-made-effects (Some callback) port calls caller outside a b same = recut-effects port.kind port.config calls callback caller outside a b same

recut-made-answered : (callback : Option Callback) (port : Opening) (s : State) (caller : ℕ) (outside : List Outside) (a b : List Effect)
    → is_answered_by port s (made callback caller outside a) outside ≡ is_answered_by port s (made callback caller outside b) outside
recut-made-answered None port s caller outside a b = refl
recut-made-answered (Some callback) port s caller outside a b = recut-answered port.kind port.config s.calls callback caller outside a b

failure-append : (effects more : List Effect) → failure more ≡ None → failure (effects ++ more) ≡ failure effects
failure-append [] more e = e
failure-append (effect.Fail reason ∷ effects) more e = refl
failure-append (effect.Message flag bytes ∷ effects) more e = failure-append effects more e
failure-append (effect.Eof ∷ effects) more e = failure-append effects more e
failure-append (effect.Status status ∷ effects) more e = failure-append effects more e
failure-append (effect.Busy busy ∷ effects) more e = failure-append effects more e
failure-append (effect.Select event dir on ∷ effects) more e = failure-append effects more e
failure-append (effect.Unuse event ∷ effects) more e = failure-append effects more e
failure-append (effect.Async number key code input ∷ effects) more e = failure-append effects more e
failure-append (effect.Watch process ∷ effects) more e = failure-append effects more e
failure-append (effect.Reply bytes ∷ effects) more e = failure-append effects more e
failure-append (effect.ReplyBadarg ∷ effects) more e = failure-append effects more e

-- the reason for which a row closes its port, by whether the port was closing
closes-for : (closing : Bool) (s : State) (effects : List Effect) (signal_reason : Option (List ℕ)) → IsServed s closing
    → (if closing then None else first_reason (failure effects) signal_reason) ≡ (if is_some s.reason then None else first_reason (failure effects) signal_reason)
closes-for false s effects signal_reason served = rw (served.opened refl) refl
closes-for true s effects signal_reason served = closing-none s.reason _ (served.closing_for refl) where
  closing-none : (reason other : Option (List ℕ)) → IsSomeAnd reason (λ r. is_kill r ≡ false) → None ≡ (if is_some reason then None else other)
  closing-none None other some = absurd some
  closing-none (Some reason) other some = refl

-- whether it stops the driver
must-stop : (closing : Bool) (s : State) (reason : Option (List ℕ)) (port : Opening) (calls : List DriverCall) (nothing : Bool) → IsServed s closing → (closing ≡ true → reason ≡ None)
    → is_drained port calls ≡ nothing → (not s.stopped && must_stop port (first_reason s.reason reason) calls) ≡ ends_driver reason closing nothing
must-stop false s None port calls nothing served none e = rw (served.runs, served.opened refl) refl
must-stop false s (Some reason) port calls nothing served none e = rw (served.runs, served.opened refl, e) refl
must-stop true s reason port calls nothing served none e = rw (served.runs, none refl) (still s.reason (served.closing_for refl)) where
  still : (first : Option (List ℕ)) → IsSomeAnd first (λ r. is_kill r ≡ false) → must_stop port (first_reason first None) calls ≡ ends_driver None true nothing
  still None some = absurd some
  still (Some first) some = rw (some, e) refl

-- what handling a task leaves, from what its callback, its flush and its stop left
pub Serves-by : (port : Opening) (s : State) (from : Sender) (seq : ℕ) (task : TaskView) (closing halts : Bool) (own0 own1 own2 own3 : Own) (program0 program1 program2 program3 : Option ToldProgram)
    (next_job : ℕ) (held queue : List ℕ) (done last : Context) (reason why : Option (List ℕ))
    → Called port.kind (callback_of s.ties s.watched from task.signal) own0 own1 program0 program1
    (record { caller = caller_of s.ties from; next_job = next_job; held = held; queue = queue; outside = []; effects = [] }) done
    → Flushed port.kind reason own1 own2 program1 program2 done last → Halted port.kind halts own2 own3 program2 program3
    → done.caller ≡ caller_of s.ties from → last.caller ≡ caller_of s.ties from
    → why ≡ signal_reason s.ties from task.signal → reason ≡ (if closing then None else first_reason (failure done.effects) why)
    → halts ≡ ends_driver reason closing (is_empty last.queue) → IsServed s closing
    → Stands port.kind port.config s.calls own0 program0 (record { caller = caller_of s.ties from; next_job = next_job; held = held; queue = queue; outside = []; effects = [] })
    → Serves port s (taken_of from seq task last.outside last.effects) reason halts own3 program3 last
Serves-by port s from seq task closing halts own0 own1 own2 own3 program0 program1 program2 program3 next_job held queue done last reason why
    called flushed halted dc lc why_is reason_is halts_is served stands =
    let c = caller_of s.ties from in
    let callback = callback_of s.ties s.watched from task.signal in
    let f = called.follows port s refl stands in
    let calls0 : List DriverCall = made callback c called.answers called.added ++ s.calls in
    let a0 = flushed.follows port calls0 refl f.stands in
    let more : List Effect = effects_after port calls0 (flush_calls port done.caller reason calls0) in
    let oa : last.outside ≡ called.answers = a0.outside ∙ called.outside in
    let ea : last.effects ≡ called.added ++ more = a0.effects ∙ ap (λ es. es ++ more) called.effects in
    let cut : SameCut port.kind called.added (called.added ++ more) = cut-with port.kind called.added more (λ e. flush-of-program reason port calls0 done.caller e) in
    let t : Taken = taken_of from seq task last.outside last.effects in
    let first : List DriverCall = made callback c last.outside last.effects in
    let first_is : first ≡ made callback c called.answers (called.added ++ more) = ap (λ os. made callback c os last.effects) oa ∙ ap (λ es. made callback c called.answers es) ea in
    let stands1 : Stands port.kind port.config (first ++ s.calls) own1 program1 done =
    subst (λ cs. Stands port.kind port.config (cs ++ s.calls) own1 program1 done) (sym first_is)
    (recut-made callback port s.calls c called.answers called.added (called.added ++ more) own1 program1 done cut f.stands) in
    let effects1 : effects_after port s.calls first ≡ called.added =
    ap (λ cs. effects_after port s.calls cs) first_is
    ∙ (sym (recut-made-effects callback port s.calls c called.answers called.added (called.added ++ more) cut) ∙ sym f.effects_are) in
    let answered1 : is_answered_by port s first last.outside ≡ true =
    ap (λ cs. is_answered_by port s cs last.outside) first_is
    ∙ (ap (λ os. is_answered_by port s (made callback c called.answers (called.added ++ more)) os) oa
    ∙ (sym (recut-made-answered callback port s c called.answers called.added (called.added ++ more)) ∙ f.answered)) in
    let failed : failure last.effects ≡ failure done.effects =
    ap failure a0.effects ∙ failure-append done.effects more (flush-fails-not reason port calls0 done.caller) in
    let closes : reason ≡ closing_reason s t =
    reason_is ∙ (closes-for closing s done.effects why served
    ∙ (ap (λ x. if is_some s.reason then None else first_reason x why) (sym failed) ∙ ap (λ x. if is_some s.reason then None else first_reason (failure last.effects) x) why_is)) in
    let a1 = (subst (λ r. Flushed port.kind r own1 own2 program1 program2 done last) closes flushed).follows port (first ++ s.calls) refl stands1 in
    let flush : List DriverCall = flush_calls port c (closing_reason s t) (first ++ s.calls) in
    let effects2 : last.effects ≡ done.effects ++ effects_after port (first ++ s.calls) flush =
    subst (λ x. last.effects ≡ done.effects ++ effects_after port (first ++ s.calls) (flush_calls port x (closing_reason s t) (first ++ s.calls))) dc a1.effects in
    let stands2 : Stands port.kind port.config (flush ++ (first ++ s.calls)) own2 program2 last =
    subst (λ x. Stands port.kind port.config (flush_calls port x (closing_reason s t) (first ++ s.calls) ++ (first ++ s.calls)) own2 program2 last) dc a1.stands in
    let h = halted.follows port (flush ++ (first ++ s.calls)) last refl stands2 in
    let halted_effects : effects_after port (flush ++ (first ++ s.calls)) (stop_calls halts c) ≡ [] = subst (λ x. effects_after port (flush ++ (first ++ s.calls)) (stop_calls halts x) ≡ []) lc h.1 in
    let stands3 : Stands port.kind port.config (stop_calls halts c ++ (flush ++ (first ++ s.calls))) own3 program3 last =
    subst (λ x. Stands port.kind port.config (stop_calls halts x ++ (flush ++ (first ++ s.calls))) own3 program3 last) lc h.0 in
    let sc : signal_calls s t ≡ first = calls_by-made callback c from seq task last.outside last.effects in
    let fc : flushed_calls port s t ≡ flush ++ first = ap (λ x. flush_calls port c (closing_reason s t) (x ++ s.calls) ++ x) sc in
    let none : closing ≡ true → closing_reason s t ≡ None = λ e. sym closes ∙ (reason_is ∙ (rw e refl)) in
    let st : stops port s t ≡ halts =
    ap (λ cs. not s.stopped && must_stop port (first_reason s.reason (closing_reason s t)) (cs ++ s.calls)) fc
    ∙ (must-stop closing s (closing_reason s t) port ((flush ++ first) ++ s.calls) (is_empty last.queue) served none
    (ap (λ cs. is_drained port cs) (append_assoc flush first s.calls) ∙ drained port (flush ++ (first ++ s.calls)) own2 program2 last stands2)
    ∙ (ap (λ r. ends_driver r closing (is_empty last.queue)) (sym closes) ∙ sym halts_is)) in
    let rc : row_calls port s t ≡ stop_calls halts c ++ (flush ++ first) =
    ap (λ b. stop_calls b c ++ flushed_calls port s t) st ∙ ap (λ cs. stop_calls halts c ++ cs) fc in
    let whole : effects_after port s.calls (stop_calls halts c ++ (flush ++ first)) ≡ last.effects =
    effects-append port s.calls (stop_calls halts c) (flush ++ first)
    ∙ (ap (λ cs. effects_after port s.calls (flush ++ first) ++ effects_after port cs (stop_calls halts c)) (append_assoc flush first s.calls)
    ∙ (ap (λ es. effects_after port s.calls (flush ++ first) ++ es) halted_effects
    ∙ (append-nil (effects_after port s.calls (flush ++ first))
    ∙ (effects-append port s.calls flush first
    ∙ (ap (λ es. es ++ effects_after port (first ++ s.calls) flush) (effects1 ∙ sym called.effects) ∙ sym effects2))))) in
    record {
      effects = sym whole ∙ sym (ap (λ cs. effects_after port s.calls cs) rc);
      answered = ap (λ cs. is_answered_by port s cs last.outside) sc ∙ answered1;
      closes = closes;
      stops_it = sym st;
      stands = subst (λ cs. Stands port.kind port.config (cs ++ s.calls) own3 program3 last) (sym rc)
          (subst (λ cs. Stands port.kind port.config cs own3 program3 last)
          (sym (append_assoc (stop_calls halts c) (flush ++ first) s.calls ∙ ap (λ cs. stop_calls halts c ++ cs) (append_assoc flush first s.calls))) stands3);
    }

-- the callback of a signal, from what its caller knows of the sender
pub Called-as : (kind : Kind) (port : Opening) (s : State) (from : Sender) (task : TaskView) (process : ℕ) (owns watched : Bool) (sent : Signal) (fresh : Context) (next_job : ℕ)
    (held queue : List ℕ) (own0 own1 : Own) (program0 program1 : Option ToldProgram) (done : Context) → port.kind ≡ kind
    → fresh ≡ record { caller = process; next_job = next_job; held = held; queue = queue; outside = []; effects = [] } → process ≡ caller_of s.ties from
    → owns ≡ is_process s.ties.owner from → watched ≡ is_told_of s.watched from → task.signal ≡ sent
    → Called kind (callback_by owns watched fresh.caller sent) own0 own1 program0 program1 fresh done
    → Called port.kind (callback_of s.ties s.watched from task.signal) own0 own1 program0 program1
    (record { caller = caller_of s.ties from; next_job = next_job; held = held; queue = queue; outside = []; effects = [] }) done
Called-as kind port s from task process owns watched sent fresh next_job held queue own0 own1 program0 program1 done k f p o w e called =
    let at : ℕ → Context = λ x. record { caller = x; next_job = next_job; held = held; queue = queue; outside = []; effects = [] } in
    let owner = caller_of s.ties from in
    subst (λ m. Called m (callback_of s.ties s.watched from task.signal) own0 own1 program0 program1 (at owner) done) (sym k)
    (subst (λ x. Called kind x own0 own1 program0 program1 (at owner) done) (callback-by s.ties s.watched from task.signal)
    (subst (λ x. Called kind (callback_by (is_process s.ties.owner from) (is_told_of s.watched from) owner x) own0 own1 program0 program1 (at owner) done) (sym e)
    (subst (λ x. Called kind (callback_by (is_process s.ties.owner from) x owner sent) own0 own1 program0 program1 (at owner) done) w
    (subst (λ x. Called kind (callback_by x watched owner sent) own0 own1 program0 program1 (at owner) done) o
    (subst (λ x. Called kind (callback_by owns watched x sent) own0 own1 program0 program1 (at x) done) p
    (subst (λ (x : Context). Called kind (callback_by owns watched x.caller sent) own0 own1 program0 program1 x done) f called))))))

-- the same of a service that keeps the context's queue and the number of its next job
pub Served-by : (port : Opening) (s : State) (from : Sender) (seq : ℕ) (task : TaskView) (reason : Option (List ℕ)) (halts : Bool) (service : ServiceView) (last : Context)
    (outside : List Outside) (effects : List Effect) → Serves port s (taken_of from seq task last.outside last.effects) reason halts service.own service.program last
    → outside ≡ last.outside → effects ≡ last.effects → service.queue ≡ last.queue → service.next_job ≡ last.next_job → length last.held ≤ 64
    → Served port s (taken_of from seq task outside effects) reason halts service
Served-by port s from seq task reason halts service last outside effects serves o e q n few = rw (o, e) (record {
  held = last.held;
  few = few;
  serves = record {
    effects = serves.effects;
    answered = serves.answered;
    closes = serves.closes;
    stops_it = serves.stops_it;
    stands = Stands-in port.kind port.config _ service.own service.program last (standing service.next_job last.held service.queue) q refl n serves.stands;
  };
})

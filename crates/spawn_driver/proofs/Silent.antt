-- What is done where the answers of a program are told: what its driver does, though no program is there.
use Rattle.std.proofs.Common.{◌≡◌, ◌≤◌, ◌<◌, ◌+◌, ℕ, min, List, [], ◌∷◌, ◌++◌, length, take, Bool, true, false, Option, None, Some, refl, sym, ◌∙◌, ap, subst, append_assoc, get_or, arith}
use Rattle.std.specs.Prelude.{◌==◌, codes}
use Rattle.std.proofs.Math.Dec.{eqb-suc-zero}
use Rattle.std.proofs.lemmas.Bool.{eqb-true}
use Rattle.std.proofs.lemmas.List.{append-nil, append_cancel_left}
use Rattle.port_config.specs.declared.config.Config.{Config}
use Rattle.port_signal.specs.declared.outside.Outside.{Outside}
use Rattle.port_signal.specs.declared.outside.Outside.TheVariants.{Took, Again, Failed, End}
use Rattle.port_model.specs.declared.effect.Effect.{Effect}
use Rattle.port_model.specs.declared.effect.Effect.TheVariants.{Fail, ReplyBadarg}
use Rattle.driver_model.specs.Calls.{Callback, Outputv, Control, Call, ReadyInput, ReadyOutput, ReadyAsync, ProcessExit, Flush, DriverCall, call_of, Program, Running, Spawn}
use Rattle.driver_model.specs.Spawn.{asked, given, taken_bytes, fits, is_none, spawn_effects, spawn_answered, answers_fetch}
use Rattle.driver_model.specs.Drivers.{job_count, jobs_by, held_events, held_by}
use Rattle.driver_model.specs.Programs.{ToldProgram, Tells, output_ended}
use Rattle.outside.specs.declared.child.StatusGot.{StatusGot}
use Rattle.outside.specs.declared.child.StatusGot.TheVariants as got
use Rattle.outside.specs.Children.{ChildView}
use Rattle.port_driver.specs.Context.{Context, SameEvents, did}
use Rattle.port_driver.specs.Driven.{Stands, Follows, Did}
use Rattle.spawn_driver.specs.Recorded.{with_effects, with_answers}
use Rattle.spawn_driver.specs.Steps.{Queues, Takes, Ends, answers_to}
use Rattle.spawn_driver.specs.Told.{GoesOnBy, DoesAsTold, Refuses}
use Rattle.spawn_driver.specs.Serving.{Serving, told, told_of}
use Rattle.recorded_calls.specs.declared.call.RecordedCall.{RecordedCall}
use Rattle.recorded_calls.specs.Told.{DidAsTold, callback_of}
use Rattle.spawn_driver.proofs.Quiet.{IsQuiet, Did-quiet, Did-badarg}
use Rattle.spawn_driver.proofs.Commands.{Did-output}
use Rattle.spawn_driver.proofs.Offers.{Did-took, Did-failed, Did-waits, MayFail, output-may-fail, input-may-fail}
use Rattle.spawn_driver.proofs.Endings.{Did-ended, IsStatus, status-unasked, status-told, status-failed, tells-asked}

-- a child that doesn't tell how it stands
abbrev pub silent : List ℕ → List ℕ → List ℕ → Bool → ChildView
silent command given fetched at_end = record {
  read_event = 0;
  write_event = 0;
  command = command;
  given = given;
  fetched = fetched;
  at_end = at_end;
  stopped = false;
  stand = None;
}

-- what is said of a driver that tells of its program is said of one that doesn't
Follows-untold : (config : Config) (earlier : List DriverCall) (call : DriverCall) (new : Program) (program : Option ToldProgram) (context : Context) (recorded : List Effect)
    → Follows Spawn config earlier call (Running new) program context recorded → Follows Spawn config earlier call (Running new) None context recorded
Follows-untold config earlier call new program context recorded f = record {
  stands = record { holds = f.stands.holds; jobs = f.stands.jobs; events = f.stands.events; told = tt };
  effects = f.effects;
  answered = f.answered;
}

-- what a driver did whatever its silent program was given and gave, it does without a program
pub Did-untold : (callback : Callback) (old new : Program) (before after : Context) (answer : List Effect) (next : List ℕ → List ℕ → List ℕ → Bool → ChildView)
    → ((command given' fetched : List ℕ) (over : Bool)
    → Did Spawn callback (Running old) (Running new) (told (silent command given' fetched over)) (told (next command given' fetched over)) before after answer)
    → Did Spawn callback (Running old) (Running new) None None before after answer
Did-untold callback old new before after answer next did' = record {
  answers = (did' [] [] [] false).answers;
  added = (did' [] [] [] false).added;
  outside = (did' [] [] [] false).outside;
  effects = (did' [] [] [] false).effects;
  follows = λ config earlier stands.
      let given' = take (given config earlier) (asked config earlier) in
      let fetched = taken_bytes earlier in
      let over = output_ended earlier in
      let first = did' [] [] [] false in
      let d = did' config.run given' fetched over in
      let answers : d.answers ≡ first.answers = append_cancel_left before.outside d.answers first.answers (sym d.outside ∙ first.outside) in
      let added : d.added ≡ first.added = append_cancel_left before.effects d.added first.added (sym d.effects ∙ first.effects) in
      let tells : Tells config earlier (told_of (silent config.run given' fetched over) None) = record { command = refl; given = refl; taken = refl; at_end = refl; ended = λ e. tt; status = tt } in
      let f = d.follows config earlier (record { holds = stands.holds; jobs = stands.jobs; events = stands.events; told = tells }) in
      let g = Follows-untold config earlier (call_of callback before.caller d.answers (d.added ++ answer)) new (told (next config.run given' fetched over)) after (d.added ++ answer) f in
      subst (λ (os : List Outside). Follows Spawn config earlier (call_of callback before.caller os (first.added ++ answer)) (Running new) None after (first.added ++ answer)) answers
      (subst (λ (es : List Effect). Follows Spawn config earlier (call_of callback before.caller d.answers (es ++ answer)) (Running new) None after (es ++ answer)) added g);
}

-- the call of a row leaves what the one with the recorded effects does, where both have the same effects
Follows-recut : (config : Config) (earlier : List DriverCall) (callback : Callback) (caller : ℕ) (outside : List Outside) (effects row : List Effect) (new : Program)
    (context : Context) (added : List Effect)
    → spawn_effects config earlier (call_of callback caller outside effects) ≡ spawn_effects config earlier (call_of callback caller outside row)
    → Follows Spawn config earlier (call_of callback caller outside effects) (Running new) None context added
    → Follows Spawn config earlier (call_of callback caller outside row) (Running new) None context added
Follows-recut config earlier callback caller outside effects row new context added same f = record {
  stands = record {
    holds = f.stands.holds;
    jobs = f.stands.jobs ∙ ap (λ (es : List Effect). job_count Spawn config earlier + jobs_by es) same;
    events = subst (λ (es : List Effect). SameEvents context.held (held_by es (held_events Spawn config earlier))) same f.stands.events;
    told = tt;
  };
  effects = f.effects ∙ same;
  answered = f.answered;
}

-- what is said of the queue, the events and the jobs of a context is said of each with the same
Stands-same : (config : Config) (calls : List DriverCall) (kept : Program) (old new : Context) → new.queue ≡ old.queue → new.held ≡ old.held → new.next_job ≡ old.next_job
    → Stands Spawn config calls (Running kept) None old → Stands Spawn config calls (Running kept) None new
Stands-same config calls kept old new queue held jobs stands =
    record { holds = rw queue stands.holds; jobs = jobs ∙ stands.jobs; events = rw held stands.events; told = tt }

-- a driver goes on by a row as one of a silent program did
pub goes-on : (callback : Callback) (outside : List Outside) (row : List Effect) (old new : Program) (before did after : Context) (answer : List Effect)
    (d : Did Spawn callback (Running old) (Running new) None None before did answer) → did.outside ≡ before.outside ++ outside
    → after.queue ≡ did.queue → after.held ≡ did.held → after.next_job ≡ did.next_job → after.effects ≡ did.effects ++ answer
    → ((config : Config) (earlier : List DriverCall) → Stands Spawn config earlier (Running old) None before
    → d.added ++ answer ≡ spawn_effects config earlier (call_of callback before.caller outside (d.added ++ answer))
    → spawn_effects config earlier (call_of callback before.caller outside (d.added ++ answer)) ≡ spawn_effects config earlier (call_of callback before.caller outside row))
    → GoesOnBy callback outside row old new before after
goes-on callback outside row old new before did after answer d told queue held jobs effects same = record {
  added = d.added ++ answer;
  effects = effects ∙ (ap (λ (es : List Effect). es ++ answer) d.effects ∙ append_assoc before.effects d.added answer);
  follows = λ config earlier stands.
      let answers : d.answers ≡ outside = append_cancel_left before.outside d.answers outside (sym d.outside ∙ told) in
      let f : Follows Spawn config earlier (call_of callback before.caller outside (d.added ++ answer)) (Running new) None did (d.added ++ answer) =
      subst (λ (os : List Outside). Follows Spawn config earlier (call_of callback before.caller os (d.added ++ answer)) (Running new) None did (d.added ++ answer)) answers
      (d.follows config earlier stands) in
      let r = Follows-recut config earlier callback before.caller outside (d.added ++ answer) row new did (d.added ++ answer) (same config earlier stands f.effects) f in
      record {
        stands = Stands-same config (call_of callback before.caller outside row ∷ earlier) new did after queue held jobs r.stands;
        effects = r.effects;
        answered = r.answered;
      };
}

-- and so does one whose context has the answers not yet
pub goes-on-by : (callback : Callback) (outside : List Outside) (row : List Effect) (old new : Program) (before after : Context)
    (d : Did Spawn callback (Running old) (Running new) None None before (with_answers after outside) []) → after.outside ++ outside ≡ before.outside ++ outside
    → ((config : Config) (earlier : List DriverCall) → Stands Spawn config earlier (Running old) None before
    → d.added ++ [] ≡ spawn_effects config earlier (call_of callback before.caller outside (d.added ++ []))
    → spawn_effects config earlier (call_of callback before.caller outside (d.added ++ [])) ≡ spawn_effects config earlier (call_of callback before.caller outside row))
    → GoesOnBy callback outside row old new before after
goes-on-by callback outside row old new before after d told same =
    goes-on callback outside row old new before (with_answers after outside) after [] d told refl refl refl (sym (append-nil after.effects)) same

-- a driver that went on was answered as it asked
pub does : (callback : Callback) (outside : List Outside) (row : List Effect) (old new : Program) (before after : Context) → after.caller ≡ before.caller
    → GoesOnBy callback outside row old new before after → DoesAsTold callback outside row old new before after true
does callback outside row old new before after caller goes =
    record { caller = caller; answers = λ config earlier stands. sym (goes.follows config earlier stands).answered; did = λ yes. goes }

-- the program took bytes of the queue
pub took-told : (event count : ℕ) (row : List Effect) (old new : Program) (before after : Context) → count ≤ min (length before.queue) 65536
    → Takes count old new before (with_answers after (Took count ∷ [])) → GoesOnBy (ReadyOutput event) (Took count ∷ []) row old new before after
took-told event count row old new before after within takes =
    goes-on-by (ReadyOutput event) (Took count ∷ []) row old new before after
    (Did-untold (ReadyOutput event) old new before (with_answers after (Took count ∷ [])) [] (λ command given' fetched over. silent command (given' ++ take count before.queue) fetched over)
    (λ command given' fetched over.
    Did-took event count (silent command given' fetched over) (silent command (given' ++ take count before.queue) fetched over) old new before (with_answers after (Took count ∷ [])) within
    (record { shown = refl; stand = refl }) takes))
    (ap (λ (c : Context). c.outside) takes.context) (λ config earlier stands is. refl)

-- a call of the program failed
failed-told : (callback : Callback) (row : List Effect) (old new : Program) (before after : Context) → MayFail callback → new ≡ record old { failed = true }
    → after ≡ record (with_effects before (Fail (codes "eio") ∷ [])) { queue = [] }
    → ((config : Config) (earlier : List DriverCall) (effects : List Effect)
    → spawn_effects config earlier (call_of callback before.caller (Failed ∷ []) effects) ≡ spawn_effects config earlier (call_of callback before.caller (Failed ∷ []) row))
    → GoesOnBy callback (Failed ∷ []) row old new before after
failed-told callback row old new before after may same context uncut =
    let d : Did Spawn callback (Running old) (Running new) None None before (with_answers after (Failed ∷ [])) [] =
    Did-untold callback old new before (with_answers after (Failed ∷ [])) [] silent
    (λ command given' fetched over.
    Did-failed callback (silent command given' fetched over) (silent command given' fetched over) old new before (with_answers after (Failed ∷ [])) may (record { shown = refl; stand = refl }) same
    (ap (λ (c : Context). with_answers c (Failed ∷ [])) context)) in
    goes-on-by callback (Failed ∷ []) row old new before after d (ap (λ (c : Context). c.outside ++ Failed ∷ []) context)
    (λ config earlier stands is. uncut config earlier (d.added ++ []))

pub offer-failed : (event : ℕ) (row : List Effect) (old new : Program) (before after : Context) → new ≡ record old { failed = true }
    → after ≡ record (with_effects before (Fail (codes "eio") ∷ [])) { queue = [] } → GoesOnBy (ReadyOutput event) (Failed ∷ []) row old new before after
offer-failed event row old new before after same context =
    failed-told (ReadyOutput event) row old new before after (output-may-fail event) same context (λ config earlier effects. refl)

pub fetch-failed : (event : ℕ) (row : List Effect) (old new : Program) (before after : Context) → new ≡ record old { failed = true }
    → after ≡ record (with_effects before (Fail (codes "eio") ∷ [])) { queue = [] } → GoesOnBy (ReadyInput event) (Failed ∷ []) row old new before after
fetch-failed event row old new before after same context =
    failed-told (ReadyInput event) row old new before after (input-may-fail event) same context (λ config earlier effects. refl)

-- the program gave nothing
pub waits-told : (event : ℕ) (row : List Effect) (kept : Program) (context : Context) → GoesOnBy (ReadyInput event) (Again ∷ []) row kept kept context context
waits-told event row kept context =
    goes-on-by (ReadyInput event) (Again ∷ []) row kept kept context context
    (Did-untold (ReadyInput event) kept kept context (with_answers context (Again ∷ [])) [] silent
    (λ command given' fetched over.
    Did-waits event (silent command given' fetched over) (silent command given' fetched over) kept context (with_answers context (Again ∷ [])) (record { shown = refl; stand = refl }) refl)) refl
    (λ config earlier stands is. refl)

-- the status was answered as it is asked for
status-asked : (asks : Bool) (status : Option StatusGot) → answers_fetch asks (End ∷ answers_to status) ≡ true → IsStatus asks (answers_to status)
status-asked false None answered = status-unasked false refl
status-asked true None answered = absurd (cc)
status-asked true (Some (got.Ended status)) answered = status-told true status refl
status-asked false (Some (got.Ended status)) answered = absurd (cc)
status-asked true (Some got.Failed) answered = status-failed true refl
status-asked false (Some got.Failed) answered = absurd (cc)

-- the output ended
pub ended-told : (event : ℕ) (status : Option StatusGot) (row : List Effect) (old new : Program) (before after : Context)
    → answers_fetch old.config.exit_status (End ∷ answers_to status) ≡ true → Ends (answers_to status) old new before (with_answers after (End ∷ answers_to status))
    → GoesOnBy (ReadyInput event) (End ∷ answers_to status) row old new before after
ended-told event status row old new before after answered ends =
    goes-on-by (ReadyInput event) (End ∷ answers_to status) row old new before after
    (Did-untold (ReadyInput event) old new before (with_answers after (End ∷ answers_to status)) [] (λ command given' fetched over. silent command given' fetched true)
    (λ command given' fetched over.
    let child = silent command given' fetched over in
    let ended = silent command given' fetched true in
    let is = status-asked old.config.exit_status status answered in
    Did-ended event (answers_to status) child ended old new before (with_answers after (End ∷ answers_to status)) is
    (λ config earlier effects.
    tells-asked config earlier event before.caller (answers_to status) effects child ended ended tt refl refl refl refl refl refl is.took is.got (λ st_e st' none. absurd (cc)))
    ends))
    (ap (λ (c : Context). c.outside) ends.context) (λ config earlier stands is. refl)

-- data of a command was taken
pub output-told : (bytes : List ℕ) (row : List Effect) (old new : Program) (before after : Context) → Queues bytes old new before after
    → GoesOnBy (Outputv bytes) [] row old new before after
output-told bytes row old new before after queues =
    goes-on (Outputv bytes) [] row old new before after after [] (Did-untold (Outputv bytes) old new before after [] silent
    (λ command given' fetched over. Did-output bytes (silent command given' fetched over) old new before after queues)) (unchanged ∙ sym (append-nil before.outside))
    refl refl refl (sym (append-nil after.effects)) (λ config earlier stands is. refl)
  where
    unchanged : after.outside ≡ before.outside
    unchanged = elim (fits old.config.mode (length bytes)) as (λ (f : Bool). fits old.config.mode (length bytes) ≡ f → after.outside ≡ before.outside) [
      | true ↦ λ fit. ap (λ (c : Context). c.outside) (queues.framed fit).context
      | false ↦ λ fit. ap (λ (c : Context). c.outside) (queues.refused fit).1
    ] refl

-- one answer alone
pub one-answer : (outside : List Outside) (answer same : Outside) → 1 ≤ length outside → length outside < 2 → answer ≡ get_or outside 0 answer → answer ≡ same
    → outside ≡ same ∷ []
one-answer [] answer same some few is are = absurd (omega arith)
one-answer (o ∷ []) answer same some few is are = ap (λ (x : Outside). x ∷ []) (sym is ∙ are)
one-answer (o ∷ p ∷ outside) answer same some few is are = absurd (omega arith)

-- no answer
pub no-answers : (outside : List Outside) → true ≡ (length outside == 0) → outside ≡ []
no-answers [] none = refl
no-answers (o ∷ outside) none = absurd (omega (arith, eqb-true (length (o ∷ outside)) 0 (sym none)))

pub is_none-length : (outside : List Outside) → is_none outside ≡ (length outside == 0)
is_none-length [] = refl
is_none-length (o ∷ outside) = sym (eqb-suc-zero (length outside))

is_none-true : (outside : List Outside) → true ≡ is_none outside → outside ≡ []
is_none-true [] none = refl
is_none-true (o ∷ outside) none = absurd (cc)

-- a callback for which nothing is asked of the program, and these effects
pub record IsUnasked (callback : Callback) (recorded : List Effect) : Type 0 where
  pub quiet : IsQuiet callback recorded
  pub uncut : (config : Config) (earlier : List DriverCall) (caller : ℕ) (effects row : List Effect)
      → spawn_effects config earlier (call_of callback caller [] effects) ≡ spawn_effects config earlier (call_of callback caller [] row)
  pub asks : (config : Config) (earlier : List DriverCall) (outside : List Outside) → spawn_answered config earlier outside callback ≡ is_none outside

pub control-unasked : (op : ℕ) (bytes : List ℕ) → IsUnasked (Control op bytes) (ReplyBadarg ∷ [])
control-unasked op bytes = record {
  quiet = record { framed = λ config. refl; busy = λ config busy size. refl; read = λ event. refl; write = λ event. refl; effects = λ config earlier caller. refl; answered = λ config earlier. refl };
  uncut = λ config earlier caller effects row. refl;
  asks = λ config earlier outside. refl;
}

pub call-unasked : (op : ℕ) (bytes : List ℕ) → IsUnasked (Call op bytes) (ReplyBadarg ∷ [])
call-unasked op bytes = record {
  quiet = record { framed = λ config. refl; busy = λ config busy size. refl; read = λ event. refl; write = λ event. refl; effects = λ config earlier caller. refl; answered = λ config earlier. refl };
  uncut = λ config earlier caller effects row. refl;
  asks = λ config earlier outside. refl;
}

pub async-unasked : (number : ℕ) (output : List ℕ) → IsUnasked (ReadyAsync number output) []
async-unasked number output = record {
  quiet = record { framed = λ config. refl; busy = λ config busy size. refl; read = λ event. refl; write = λ event. refl; effects = λ config earlier caller. refl; answered = λ config earlier. refl };
  uncut = λ config earlier caller effects row. refl;
  asks = λ config earlier outside. refl;
}

pub exit-unasked : (process : ℕ) → IsUnasked (ProcessExit process) []
exit-unasked process = record {
  quiet = record { framed = λ config. refl; busy = λ config busy size. refl; read = λ event. refl; write = λ event. refl; effects = λ config earlier caller. refl; answered = λ config earlier. refl };
  uncut = λ config earlier caller effects row. refl;
  asks = λ config earlier outside. refl;
}

pub flush-unasked : IsUnasked Flush []
flush-unasked = record {
  quiet = record { framed = λ config. refl; busy = λ config busy size. refl; read = λ event. refl; write = λ event. refl; effects = λ config earlier caller. refl; answered = λ config earlier. refl };
  uncut = λ config earlier caller effects row. refl;
  asks = λ config earlier outside. refl;
}

-- the program that a driver keeps, silent
abbrev serves : Program → List ℕ → List ℕ → List ℕ → Bool → Serving
serves kept command given' fetched over = record { child = silent command given' fetched over; faults = 0; kept = kept }

-- nothing was asked and done
pub unasked-told : (callback : Callback) (outside : List Outside) (row : List Effect) (kept : Program) (context : Context) (answered : Bool) → IsUnasked callback []
    → answered ≡ is_none outside → DoesAsTold callback outside row kept kept context context answered
unasked-told callback outside row kept context answered unasked none = record {
  caller = refl;
  answers = λ config earlier stands. none ∙ sym (unasked.asks config earlier outside);
  did = λ yes. rw (is_none-true outside (sym yes ∙ none)) goes;
}
  where
    goes : GoesOnBy callback [] row kept kept context context
    goes =
        let d : Did Spawn callback (Running kept) (Running kept) None None context context [] =
        Did-untold callback kept kept context context [] silent (λ command given' fetched over. Did-quiet callback (serves kept command given' fetched over) context unasked.quiet) in
        goes-on callback [] row kept kept context context context [] d (sym (append-nil context.outside)) refl refl refl (sym (append-nil context.effects))
        (λ config earlier stands is. unasked.uncut config earlier context.caller (d.added ++ []) row)

-- a control or a call was refused
pub refused-told : (callback : Callback) (outside : List Outside) (row : List Effect) (kept : Program) (before after : Context) (answered : Bool)
    → IsUnasked callback (ReplyBadarg ∷ []) → Refuses outside before after answered → DoesAsTold callback outside row kept kept before after answered
refused-told callback outside row kept before after answered unasked refuses = record {
  caller = refuses.caller;
  answers = λ config earlier stands. refuses.answers ∙ sym (unasked.asks config earlier outside);
  did = λ yes. rw (is_none-true outside (sym yes ∙ refuses.answers)) (goes (refuses.refused yes));
}
  where
    goes : after ≡ did before ReplyBadarg → GoesOnBy callback [] row kept kept before after
    goes context =
        let d : Did Spawn callback (Running kept) (Running kept) None None before before (ReplyBadarg ∷ []) =
        Did-untold callback kept kept before before (ReplyBadarg ∷ []) silent (λ command given' fetched over. Did-badarg callback (serves kept command given' fetched over) before unasked.quiet) in
        goes-on callback [] row kept kept before before after (ReplyBadarg ∷ []) d (sym (append-nil before.outside))
        (ap (λ (c : Context). c.queue) context) (ap (λ (c : Context). c.held) context) (ap (λ (c : Context). c.next_job) context) (ap (λ (c : Context). c.effects) context)
        (λ config earlier stands is. unasked.uncut config earlier before.caller (d.added ++ ReplyBadarg ∷ []) row)

-- a call by such a callback
pub did-told : (call : RecordedCall) (callback : Callback) (old new : Program) (before after : Context) (answered : Bool) → callback_of call.callback ≡ callback
    → DoesAsTold callback call.outside.now call.effects.now old new before after answered → DidAsTold Spawn call (Running old) (Running new) before after answered
did-told call callback old new before after answered is does' =
    let d = rw (← is) at does' in
    record {
      caller = d.caller;
      answers = d.answers;
      did = λ yes. let g = d.did yes in record { added = g.added; effects = g.effects; follows = g.follows };
    }

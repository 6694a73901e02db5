-- What a callback did, from what it recorded and what it left.
use Rattle.std.proofs.Common.{◌≡◌, ℕ, ◌+◌, Bool, true, false, List, [], ◌∷◌, ◌++◌, Option, IfSome, refl, sym, ap, ◌∙◌, subst, arith}
use Rattle.std.proofs.lemmas.List.{append-nil}
use Rattle.port_config.specs.declared.config.Config.{Config}
use Rattle.driver_model.specs.port_model.port_signal.declared.outside.Outside.{Outside}
use Rattle.driver_model.specs.port_model.declared.effect.Effect.{Effect}
use Rattle.driver_model.specs.port_model.declared.effect.Effect.TheVariants.{Message, Eof, Status, Busy, Select, Unuse, Async, Watch, Reply, ReplyBadarg, Fail}
use Rattle.driver_model.specs.Calls.{Callback, DriverCall, call_of, Own, Kind}
use Rattle.driver_model.specs.Drivers.{holds, job_count, jobs_by, held_events, held_by, effects_of, is_answered}
use Rattle.driver_model.specs.Programs.{ToldProgram, Tells}
use Rattle.port_driver.specs.declared.reply.ReplyTo.{ReplyTo}
use Rattle.port_driver.specs.declared.reply.ReplyTo.TheVariants.{Bytes, Badarg}
use Rattle.port_driver.specs.Context.{Context, SameEvents}
use Rattle.port_driver.specs.Driven.{held_of, Stands, Follows, Did}
use Rattle.port_driver.specs.Replies.{reply_effect}
use Rattle.port_driver.proofs.Events.{gives_up_none, SameEvents-held_by}

-- this call leaves what the driver keeps and its queue so, has these effects, was answered by the outside as it asked, and leaves a program that
-- tells what the calls say
pub record Goes (kind : Kind) (config : Config) (earlier : List DriverCall) (call : DriverCall) (own : Own) (program : Option ToldProgram) (queue : List ℕ)
    (recorded : List Effect) : Type 0 where
  pub holds : held_of own queue ≡ holds kind config (call ∷ earlier)
  pub effects : recorded ≡ effects_of kind config (call ∷ earlier)
  pub answered : is_answered kind config (call ∷ earlier) ≡ true
  pub told : IfSome program (Tells config (call ∷ earlier))

-- the jobs and the events go on by the effects
pub Follows-from_Goes : (kind : Kind) (config : Config) (earlier : List DriverCall) (call : DriverCall) (old_own new_own : Own) (old_program new_program : Option ToldProgram)
    (old new : Context) (recorded : List Effect) → gives_up_none recorded ≡ true → new.next_job ≡ old.next_job + jobs_by recorded → new.held ≡ held_by recorded old.held
    → Stands kind config earlier old_own old_program old → Goes kind config earlier call new_own new_program new.queue recorded
    → Follows kind config earlier call new_own new_program new recorded
Follows-from_Goes kind config earlier call old_own new_own old_program new_program old new recorded none jobs held before after = record {
  stands = record {
    holds = after.holds;
    jobs = jobs ∙ (ap (λ n. n + jobs_by recorded) before.jobs ∙ ap (λ effects. job_count kind config earlier + jobs_by effects) after.effects);
    events = subst (λ effects. SameEvents new.held (held_by effects (held_events kind config earlier))) after.effects
        (subst (λ now. SameEvents now (held_by recorded (held_events kind config earlier))) (sym held)
        (SameEvents-held_by recorded old.held (held_events kind config earlier) none before.events));
    told = after.told;
  };
  effects = after.effects;
  answered = after.answered;
}

-- a callback that recorded these answers and effects, of which none gives an event up
pub Did-recorded : (kind : Kind) (callback : Callback) (old_own new_own : Own) (old_program new_program : Option ToldProgram) (old new : Context)
    (answers : List Outside) (added answer : List Effect) → new.outside ≡ old.outside ++ answers → new.effects ≡ old.effects ++ added
    → gives_up_none (added ++ answer) ≡ true → new.next_job ≡ old.next_job + jobs_by (added ++ answer) → new.held ≡ held_by (added ++ answer) old.held
    → ((config : Config) (earlier : List DriverCall) → Stands kind config earlier old_own old_program old
    → Goes kind config earlier (call_of callback old.caller answers (added ++ answer)) new_own new_program new.queue (added ++ answer))
    → Did kind callback old_own new_own old_program new_program old new answer
Did-recorded kind callback old_own new_own old_program new_program old new answers added answer outside effects none jobs held goes = record {
  answers = answers;
  added = added;
  outside = outside;
  effects = effects;
  follows = λ config earlier before.
      Follows-from_Goes kind config earlier (call_of callback old.caller answers (added ++ answer)) old_own new_own old_program new_program old new (added ++ answer)
      none jobs held before (goes config earlier before);
}

-- no event and no job is among the effects
abbrev pub is_plain : List Effect → Bool
is_plain [] = true
is_plain (Select event dir on ∷ effects) = false
is_plain (Unuse event ∷ effects) = false
is_plain (Async number key code input ∷ effects) = false
is_plain (effect ∷ effects) = is_plain effects

-- effects without an event and a job submit none and leave the events
record Keeps (effects : List Effect) : Type 0 where
  jobs : jobs_by effects ≡ 0
  events : (held : List ℕ) → held_by effects held ≡ held
  none : gives_up_none effects ≡ true

Keeps-is_plain : (effects : List Effect) → is_plain effects ≡ true → Keeps effects
Keeps-is_plain [] plain = record { jobs = refl; events = λ held. refl; none = refl }
Keeps-is_plain (Message flag bytes ∷ effects) plain = let k = Keeps-is_plain effects plain in record { jobs = k.jobs; events = k.events; none = k.none }
Keeps-is_plain (Eof ∷ effects) plain = let k = Keeps-is_plain effects plain in record { jobs = k.jobs; events = k.events; none = k.none }
Keeps-is_plain (Status status ∷ effects) plain = let k = Keeps-is_plain effects plain in record { jobs = k.jobs; events = k.events; none = k.none }
Keeps-is_plain (Busy busy ∷ effects) plain = let k = Keeps-is_plain effects plain in record { jobs = k.jobs; events = k.events; none = k.none }
Keeps-is_plain (Select event dir on ∷ effects) plain = absurd (cc)
Keeps-is_plain (Unuse event ∷ effects) plain = absurd (cc)
Keeps-is_plain (Async number key code input ∷ effects) plain = absurd (cc)
Keeps-is_plain (Watch process ∷ effects) plain = let k = Keeps-is_plain effects plain in record { jobs = k.jobs; events = k.events; none = k.none }
Keeps-is_plain (Reply bytes ∷ effects) plain = let k = Keeps-is_plain effects plain in record { jobs = k.jobs; events = k.events; none = k.none }
Keeps-is_plain (ReplyBadarg ∷ effects) plain = let k = Keeps-is_plain effects plain in record { jobs = k.jobs; events = k.events; none = k.none }
Keeps-is_plain (Fail reason ∷ effects) plain = let k = Keeps-is_plain effects plain in record { jobs = k.jobs; events = k.events; none = k.none }

-- this queue, and these effects after those before
abbrev pub went : Context → List ℕ → List Effect → Context
went context queue added = record context { queue = queue; effects = context.effects ++ added }

-- a callback that asked the outside nothing, and left this queue and these effects, without events and jobs
pub Did-went : (kind : Kind) (callback : Callback) (old_own new_own : Own) (old_program new_program : Option ToldProgram) (old new : Context) (queue : List ℕ)
    (added answer : List Effect) → new ≡ went old queue added → is_plain (added ++ answer) ≡ true
    → ((config : Config) (earlier : List DriverCall) → Stands kind config earlier old_own old_program old
    → Goes kind config earlier (call_of callback old.caller [] (added ++ answer)) new_own new_program queue (added ++ answer))
    → Did kind callback old_own new_own old_program new_program old new answer
Did-went kind callback old_own new_own old_program new_program old new queue added answer changed plain goes =
    let k = Keeps-is_plain (added ++ answer) plain in
    subst (λ now. Did kind callback old_own new_own old_program new_program old now answer) (sym changed)
    (Did-recorded kind callback old_own new_own old_program new_program old (went old queue added) [] added answer (sym (append-nil old.outside)) refl k.none
    (let j = k.jobs in omega (arith, j)) (sym (k.events old.held)) goes)

-- a callback that recorded and changed nothing
pub Did-nothing : (kind : Kind) (callback : Callback) (own : Own) (program : Option ToldProgram) (context : Context)
    → ((config : Config) (earlier : List DriverCall) → Stands kind config earlier own program context
    → Goes kind config earlier (call_of callback context.caller [] []) own program context.queue [])
    → Did kind callback own own program program context context []
Did-nothing kind callback own program context goes =
    Did-went kind callback own own program program context context context.queue [] []
    (ap (λ effects. record context { effects = effects }) (sym (append-nil context.effects))) refl goes

-- a callback that answered and changed nothing
pub Did-answered : (kind : Kind) (callback : Callback) (own : Own) (program : Option ToldProgram) (context : Context) (answer : ReplyTo)
    → ((config : Config) (earlier : List DriverCall) → Stands kind config earlier own program context
    → Goes kind config earlier (call_of callback context.caller [] (reply_effect answer ∷ [])) own program context.queue (reply_effect answer ∷ []))
    → Did kind callback own own program program context context (reply_effect answer ∷ [])
Did-answered kind callback own program context answer goes =
    Did-went kind callback own own program program context context context.queue [] (reply_effect answer ∷ [])
    (ap (λ effects. record context { effects = effects }) (sym (append-nil context.effects))) (plain answer) goes
  where
    plain : (answer : ReplyTo) → is_plain (reply_effect answer ∷ []) ≡ true
    plain (Bytes bytes) = refl
    plain Badarg = refl

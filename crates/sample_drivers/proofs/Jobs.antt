-- What a digest submits, call by call.
use Rattle.std.proofs.Common.{◌≡◌, ℕ, ◌+◌, Bool, true, false, List, [], ◌∷◌, ◌++◌, cond, refl, sym, ap, ◌∙◌, subst, arith, codes}
use Rattle.std.specs.Prelude.{None}
use Rattle.std.proofs.lemmas.List.{append-nil}
use Rattle.port_config.specs.declared.config.Config.{Config}
use Rattle.io_vector.specs.declared.flag.Flag.TheVariants.{Plain}
use Rattle.port_model.specs.declared.effect.Effect.{Effect}
use Rattle.port_model.specs.declared.effect.Effect.TheVariants.{Message, Async, Fail}
use Rattle.driver_model.specs.Calls.{Callback, Start, Outputv, Control, Call, ReadyInput, ReadyOutput, ReadyAsync, ProcessExit, Flush, Stop, DriverCall, Submitted, Digest}
use Rattle.driver_model.specs.Digest.{is_code, is_job, submitted, command_effects, digest_effects}
use Rattle.driver_model.specs.Digest as digest
use Rattle.driver_model.specs.Drivers.{job_count, jobs_by, held_by}
use Rattle.port_driver.specs.Context.{Context, did}
use Rattle.port_driver.specs.Driven.{held_of, Did}
use Rattle.port_driver.proofs.Events.{gives_up_none}
use Rattle.sample_drivers.specs.Digests.{Commands}
use Rattle.port_driver.proofs.Driven.{Did-recorded}

-- a command submits one job or fails the port: how many jobs, and no event
record Submits (effects : List Effect) (count : ℕ) : Type 0 where
  jobs : jobs_by effects ≡ count
  events : (held : List ℕ) → held_by effects held ≡ held
  none : gives_up_none effects ≡ true

Submits-command : (next : ℕ) (bytes : List ℕ) → Submits (command_effects next bytes) (cond (is_job bytes) 1 0)
Submits-command next [] = record { jobs = refl; events = λ held. refl; none = refl }
Submits-command next (key ∷ []) = record { jobs = refl; events = λ held. refl; none = refl }
Submits-command next (key ∷ code ∷ input) =
    elim (is_code code) as (λ b. Submits (cond b (Async next key code input ∷ []) (Fail (codes "einval") ∷ [])) (cond b 1 0)) [
      | true ↦ record { jobs = refl; events = λ held. refl; none = refl }
      | false ↦ record { jobs = refl; events = λ held. refl; none = refl }
    ]

Submits-digest : (next : ℕ) (callback : Callback) → Submits (digest_effects next callback) (digest.job_count callback)
Submits-digest next (Start read write) = record { jobs = refl; events = λ held. refl; none = refl }
Submits-digest next (Outputv bytes) = Submits-command next bytes
Submits-digest next (Control op bytes) = record { jobs = refl; events = λ held. refl; none = refl }
Submits-digest next (Call op bytes) = record { jobs = refl; events = λ held. refl; none = refl }
Submits-digest next (ReadyInput event) = record { jobs = refl; events = λ held. refl; none = refl }
Submits-digest next (ReadyOutput event) = record { jobs = refl; events = λ held. refl; none = refl }
Submits-digest next (ReadyAsync number output) = record { jobs = refl; events = λ held. refl; none = refl }
Submits-digest next (ProcessExit process) = record { jobs = refl; events = λ held. refl; none = refl }
Submits-digest next Flush = record { jobs = refl; events = λ held. refl; none = refl }
Submits-digest next Stop = record { jobs = refl; events = λ held. refl; none = refl }

-- the jobs that a digest submitted are all of its port
job_count-submitted : (config : Config) (calls : List DriverCall) → job_count Digest config calls ≡ submitted calls
job_count-submitted config [] = refl
job_count-submitted config (call ∷ earlier) =
    let e = job_count-submitted config earlier in
    let s = Submits-digest (submitted earlier) call.callback in
    let j = s.jobs in
    rw (e, j) refl

-- a digest that recorded these effects
pub Did-digest : (callback : Callback) (jobs jobs' : ℕ) (old new : Context) (added answer : List Effect)
    → new ≡ record old { effects = old.effects ++ added; next_job = old.next_job + digest.job_count callback }
    → added ++ answer ≡ digest_effects old.next_job callback → jobs' ≡ jobs + digest.job_count callback
    → Did Digest callback (Submitted jobs) (Submitted jobs') None None old new answer
Did-digest callback jobs jobs' old new added answer changed effects more =
    let s = Submits-digest old.next_job callback in
    Did-recorded Digest callback (Submitted jobs) (Submitted jobs') None None old new [] added answer
    (ap (λ c. c.outside) changed ∙ sym (append-nil old.outside)) (ap (λ c. c.effects) changed) (ap gives_up_none effects ∙ s.none)
    (ap (λ c. c.next_job) changed ∙ ap (λ n. old.next_job + n) (sym (ap jobs_by effects ∙ s.jobs)))
    (ap (λ c. c.held) changed ∙ sym (ap (λ effects. held_by effects old.held) effects ∙ s.events old.held))
    (λ config earlier before.
    let kept : jobs ≡ submitted earlier = let own = ap (λ h. h.own) before.holds in cc in
    let next : old.next_job ≡ submitted earlier = before.jobs ∙ job_count-submitted config earlier in
    record {
      holds = ap (λ n. held_of (Submitted n) new.queue) (more ∙ ap (λ n. n + digest.job_count callback) kept)
          ∙ ap (λ queue. held_of (Submitted (submitted earlier + digest.job_count callback)) queue) (ap (λ c. c.queue) changed ∙ ap (λ h. h.queue) before.holds);
      effects = effects ∙ ap (λ n. digest_effects n callback) next;
      answered = refl;
      told = tt;
    })

-- a digest that only answered, or did nothing
pub digest_kept : (callback : Callback) (jobs : ℕ) (context : Context) (answer : List Effect) → digest.job_count callback ≡ 0
    → answer ≡ digest_effects context.next_job callback → Did Digest callback (Submitted jobs) (Submitted jobs) None None context context answer
digest_kept callback jobs context answer none effects =
    Did-digest callback jobs jobs context context [] answer
    (ap (λ n. record context { next_job = n }) (let e : context.next_job ≡ context.next_job + digest.job_count callback = omega (arith, none) in e)
    ∙ ap (λ effects. record context { effects = effects; next_job = context.next_job + digest.job_count callback }) (sym (append-nil context.effects)))
    effects (omega (arith, none))

-- a digest that sent a job's output
pub digest_told : (number jobs : ℕ) (output : List ℕ) (old new : Context) → new ≡ did old (Message Plain output)
    → Did Digest (ReadyAsync number output) (Submitted jobs) (Submitted jobs) None None old new []
digest_told number jobs output old new sent =
    Did-digest (ReadyAsync number output) jobs jobs old new (Message Plain output ∷ []) []
    (sent ∙ ap (λ n. record old { effects = old.effects ++ Message Plain output ∷ []; next_job = n }) (let e : old.next_job ≡ old.next_job + 0 = omega arith in e))
    refl (omega arith)

one_more : (test : Bool) (n : ℕ) → cond test (n + 1) n ≡ n + cond test 1 0
one_more true n = refl
one_more false n = omega arith

-- a digest that had a command
pub digest_commanded : (data' bytes : List ℕ) (jobs jobs' : ℕ) (old new : Context) → bytes ≡ data' → Commands bytes old new → jobs' ≡ cond (is_job bytes) (jobs + 1) jobs
    → Did Digest (Outputv data') (Submitted jobs) (Submitted jobs') None None old new []
digest_commanded data' bytes jobs jobs' old new same commands count =
    subst (λ told. Did Digest (Outputv told) (Submitted jobs) (Submitted jobs') None None old new []) same
    (Did-digest (Outputv bytes) jobs jobs' old new (command_effects old.next_job bytes) []
    (commands ∙ ap (λ n. record old { effects = old.effects ++ command_effects old.next_job bytes; next_job = n }) (one_more (is_job bytes) old.next_job))
    (append-nil (command_effects old.next_job bytes)) (count ∙ one_more (is_job bytes) jobs))

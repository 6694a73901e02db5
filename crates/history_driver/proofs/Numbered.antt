-- The jobs that drivers submit have the next numbers, and no driver gives an event up.
use Rattle.std.proofs.Common.{◌≡◌, ◌==◌, ◌+◌, ℕ, List, [], ◌∷◌, ◌++◌, length, map, drop, Bool, true, false, ◌&&◌, ◌||◌, not, refl, sym, ap, ◌∙◌, subst, arith, eq-eqb, codes}
use Rattle.std.specs.Prelude.{if◌then◌else◌, nat_le, nat_lt}
use Rattle.port_config.specs.packet_framing.declared.mode.Mode.{Mode}
use Rattle.port_config.specs.packet_framing.declared.mode.Mode.TheVariants.{Stream}
use Rattle.port_config.specs.packet_framing.declared.message.Message.{Message as Unframed}
use Rattle.port_config.specs.packet_framing.Messages.{last_message, messages_of}
use Rattle.port_config.specs.declared.config.Config.{Config}
use Rattle.driver_model.specs.port_signal.declared.outside.Outside.{Outside}
use Rattle.driver_model.specs.port_signal.declared.outside.Outside.TheVariants as answer
use Rattle.driver_model.specs.port_model.declared.event.Dir.TheVariants.{Read, Write}
use Rattle.driver_model.specs.port_model.declared.effect.Effect.{Effect}
use Rattle.driver_model.specs.port_model.declared.effect.Effect.TheVariants.{Message, Eof, Status, Busy, Select, Unuse, Async, Watch, Reply, ReplyBadarg, Fail}
use Rattle.driver_model.specs.Calls.{Callback, Outputv, Control, Call, ReadyInput, ReadyOutput, DriverCall, is_empty, Kind, Echo, Tally, Valve, Store, Digest, Spawn, Refuse1, Refuse2, Refuse3}
use Rattle.driver_model.specs.Echo.{echo_effects}
use Rattle.driver_model.specs.Tally.{commands, command_bytes, tally_effects}
use Rattle.driver_model.specs.Valve.{valve_effects}
use Rattle.driver_model.specs.Store.{stored, store_effects, may_take, may_put}
use Rattle.driver_model.specs.Digest.{submitted, digest_effects, command_effects, is_code, is_job}
use Rattle.driver_model.specs.Digest as digest
use Rattle.driver_model.specs.Spawn.{brought, callback_effects, cut_into, end_effects, fetch_effects, fits, has_failed, holds_busy, is_refused, most_taken, output_effects, plain_message, read_event, rest, sent, spawn_queue, status_effects, taken_bytes, unended_bytes, write_event}
use Rattle.driver_model.specs.Drivers.{effects_of, held_by, held_events, job_count, jobs_by}
use Rattle.port_driver.proofs.Events.{gives_up_none}
use Rattle.port_history.specs.Jobs.{submitted_by}
use Rattle.port_history.specs.Opening.{Opening}
use Rattle.port_history.specs.Service.{effects_after}
use Rattle.history_tables.specs.JobsKept.{are_next}
use Rattle.spawn_driver.proofs.Recorded.{held_by-append}

-- these effects submit jobs with the numbers from the next one on, and give no event up
pub record Proper (next : ℕ) (effects : List Effect) : Type 0 where
  pub next_jobs : are_next next effects ≡ true
  pub none : gives_up_none effects ≡ true

-- no job and no event that is given up
abbrev pub is_simple : List Effect → Bool
is_simple [] = true
is_simple (Unuse event ∷ effects) = false
is_simple (Async number key code input ∷ effects) = false
is_simple (effect ∷ effects) = is_simple effects

Proper-simple : (next : ℕ) (effects : List Effect) → is_simple effects ≡ true → Proper next effects
Proper-simple next [] e = record { next_jobs = refl; none = refl }
Proper-simple next (Message flag bytes ∷ effects) e = let p = Proper-simple next effects e in record { next_jobs = p.next_jobs; none = p.none }
Proper-simple next (Eof ∷ effects) e = let p = Proper-simple next effects e in record { next_jobs = p.next_jobs; none = p.none }
Proper-simple next (Status status ∷ effects) e = let p = Proper-simple next effects e in record { next_jobs = p.next_jobs; none = p.none }
Proper-simple next (Busy busy ∷ effects) e = let p = Proper-simple next effects e in record { next_jobs = p.next_jobs; none = p.none }
Proper-simple next (Select event dir on ∷ effects) e = let p = Proper-simple next effects e in record { next_jobs = p.next_jobs; none = p.none }
Proper-simple next (Unuse event ∷ effects) e = absurd (cc)
Proper-simple next (Async number key code input ∷ effects) e = absurd (cc)
Proper-simple next (Watch process ∷ effects) e = let p = Proper-simple next effects e in record { next_jobs = p.next_jobs; none = p.none }
Proper-simple next (Reply bytes ∷ effects) e = let p = Proper-simple next effects e in record { next_jobs = p.next_jobs; none = p.none }
Proper-simple next (ReplyBadarg ∷ effects) e = let p = Proper-simple next effects e in record { next_jobs = p.next_jobs; none = p.none }
Proper-simple next (Fail reason ∷ effects) e = let p = Proper-simple next effects e in record { next_jobs = p.next_jobs; none = p.none }

simple-append : (xs ys : List Effect) → is_simple xs ≡ true → is_simple ys ≡ true → is_simple (xs ++ ys) ≡ true
simple-append [] ys e f = f
simple-append (Message flag bytes ∷ xs) ys e f = simple-append xs ys e f
simple-append (Eof ∷ xs) ys e f = simple-append xs ys e f
simple-append (Status status ∷ xs) ys e f = simple-append xs ys e f
simple-append (Busy busy ∷ xs) ys e f = simple-append xs ys e f
simple-append (Select event dir on ∷ xs) ys e f = simple-append xs ys e f
simple-append (Unuse event ∷ xs) ys e f = absurd (cc)
simple-append (Async number key code input ∷ xs) ys e f = absurd (cc)
simple-append (Watch process ∷ xs) ys e f = simple-append xs ys e f
simple-append (Reply bytes ∷ xs) ys e f = simple-append xs ys e f
simple-append (ReplyBadarg ∷ xs) ys e f = simple-append xs ys e f
simple-append (Fail reason ∷ xs) ys e f = simple-append xs ys e f

simple-if : (b : Bool) (xs ys : List Effect) → is_simple xs ≡ true → is_simple ys ≡ true → is_simple (if b then xs else ys) ≡ true
simple-if true xs ys e f = e
simple-if false xs ys e f = f

simple-one : (b : Bool) (x y : Effect) → is_simple (x ∷ []) ≡ true → is_simple (y ∷ []) ≡ true → is_simple ((if b then x else y) ∷ []) ≡ true
simple-one true x y e f = e
simple-one false x y e f = f

simple-sent : (ms : List Unframed) → is_simple (map sent ms) ≡ true
simple-sent [] = refl
simple-sent (m ∷ ms) = simple-sent ms

simple-plain : (pieces : List (List ℕ)) → is_simple (map plain_message pieces) ≡ true
simple-plain [] = refl
simple-plain (piece ∷ pieces) = simple-plain pieces

simple-echo : (callback : Callback) → is_simple (echo_effects callback) ≡ true
simple-echo (Control op bytes) = simple-if (op == 1) (Reply bytes ∷ []) (ReplyBadarg ∷ []) refl refl
simple-echo (Call op bytes) = simple-if (op == 1) (Reply bytes ∷ []) (ReplyBadarg ∷ []) refl refl
simple-echo callback = refl

simple-tally : (caller count bytes : ℕ) (callback : Callback) → is_simple (tally_effects caller count bytes callback) ≡ true
simple-tally caller count bytes (Control op data') =
    simple-if (op == 1) _ _ refl (simple-if (op == 2) (Watch caller ∷ Reply [] ∷ []) (ReplyBadarg ∷ []) refl refl)
simple-tally caller count bytes (Call op data') = simple-if (op == 1) _ _ refl refl
simple-tally caller count bytes callback = refl

simple-valve : (callback : Callback) → is_simple (valve_effects callback) ≡ true
simple-valve (Control op bytes) =
    simple-if (op == 1) (Busy true ∷ Reply [] ∷ []) _ refl (simple-if (op == 2) (Busy false ∷ Reply [] ∷ []) (ReplyBadarg ∷ []) refl refl)
simple-valve callback = refl

simple-store : (queue : List ℕ) (callback : Callback) → is_simple (store_effects queue callback) ≡ true
simple-store queue (Control op bytes) =
    simple-one (op == 1) _ _ (simple-one (may_take bytes queue) _ _ refl refl)
    (simple-one (op == 2) _ _ refl
    (simple-one (op == 3) _ _ refl
    (simple-one (op == 4) _ _ refl
    (simple-one (op == 5) _ _ (simple-one (may_put bytes) _ _ refl refl) refl))))
simple-store queue callback = refl

simple-brought : (mode : Mode) (cut before bytes : List ℕ) → is_simple (brought mode cut before bytes) ≡ true
simple-brought Stream cut before bytes = simple-plain (cut_into cut bytes)
simple-brought mode cut before bytes = simple-sent (drop (length (messages_of mode before)) (messages_of mode (before ++ bytes)))

simple-status : (answers : List Outside) → is_simple (status_effects answers) ≡ true
simple-status (answer.Status status ∷ answers) = refl
simple-status (answer.Failed ∷ answers) = refl
simple-status answers = refl

simple-end : (config : Config) (earlier : List DriverCall) (answers : List Outside) → is_simple (end_effects config earlier answers) ≡ true
simple-end config earlier answers =
    let last : List Effect = map sent (last_message config.mode (rest config earlier)) in
    let eof : List Effect = if config.eof then Eof ∷ [] else [] in
    let status : List Effect = if config.exit_status then status_effects answers else [] in
    let select : List Effect = Select (read_event earlier) Read false ∷ [] in
    let fail : List Effect = if config.eof || has_failed answers then [] else Fail (codes "normal") ∷ [] in
    simple-append (last ++ eof ++ status ++ select) fail
    (simple-append (last ++ eof ++ status) select
    (simple-append (last ++ eof) status
    (simple-append last eof (simple-sent (last_message config.mode (rest config earlier))) (simple-if config.eof (Eof ∷ []) [] refl refl))
    (simple-if config.exit_status (status_effects answers) [] (simple-status answers) refl))
    refl)
    (simple-if (config.eof || has_failed answers) [] (Fail (codes "normal") ∷ []) refl refl)

simple-fetch : (config : Config) (earlier : List DriverCall) (call : DriverCall) (answers : List Outside) → is_simple (fetch_effects config earlier call answers) ≡ true
simple-fetch config earlier call (answer.Got bytes ∷ answers) =
    let brings : List Effect = brought config.mode call.cut (unended_bytes earlier) bytes in
    simple-if (nat_lt most_taken (length (taken_bytes (call ∷ earlier)))) (Fail (codes "enospc") ∷ [])
    (if is_refused config (call ∷ earlier) then Fail (codes "emsgsize") ∷ [] else brings) refl
    (simple-if (is_refused config (call ∷ earlier)) (Fail (codes "emsgsize") ∷ []) brings refl
    (simple-brought config.mode call.cut (unended_bytes earlier) bytes))
simple-fetch config earlier call (answer.Failed ∷ answers) = refl
simple-fetch config earlier call (answer.End ∷ answers) = simple-end config earlier answers
simple-fetch config earlier call answers = refl

simple-callback : (config : Config) (earlier : List DriverCall) (call : DriverCall) (queue : List ℕ) (callback : Callback)
    → is_simple (callback_effects config earlier call queue callback) ≡ true
simple-callback config earlier call queue (Outputv bytes) =
    let write : Bool = is_empty (spawn_queue config earlier) && not (is_empty queue) in
    let busy : Bool = nat_le config.busy_high (length queue) && not (holds_busy config earlier) in
    simple-if (fits config.mode (length bytes)) (output_effects config earlier queue) (Fail (codes "einval") ∷ [])
    (simple-append (if write then Select (write_event earlier) Write true ∷ [] else []) (if busy then Busy true ∷ [] else [])
    (simple-if write (Select (write_event earlier) Write true ∷ []) [] refl refl) (simple-if busy (Busy true ∷ []) [] refl refl))
    refl
simple-callback config earlier call queue (ReadyOutput event) =
    let free : List Effect = if holds_busy config earlier && nat_lt (length queue) config.busy_low then Busy false ∷ [] else [] in
    let write : List Effect = if is_empty queue then Select (write_event earlier) Write false ∷ [] else [] in
    simple-if (has_failed call.outside) (Fail (codes "eio") ∷ []) (free ++ write) refl
    (simple-append free write (simple-if (holds_busy config earlier && nat_lt (length queue) config.busy_low) (Busy false ∷ []) [] refl refl)
    (simple-if (is_empty queue) (Select (write_event earlier) Write false ∷ []) [] refl refl))
simple-callback config earlier call queue (ReadyInput event) = simple-fetch config earlier call call.outside
simple-callback config earlier call queue callback = refl

-- a command submits one job or fails the port
Proper-command : (next : ℕ) (bytes : List ℕ) → Proper next (command_effects next bytes)
Proper-command next [] = record { next_jobs = refl; none = refl }
Proper-command next (key ∷ []) = record { next_jobs = refl; none = refl }
Proper-command next (key ∷ code ∷ input) =
    elim (is_code code) as (λ b. Proper next (if b then Async next key code input ∷ [] else Fail (codes "einval") ∷ [])) [
      | true ↦ record { next_jobs = rw (eq-eqb next next refl) refl; none = refl }
      | false ↦ record { next_jobs = refl; none = refl }
    ]

Proper-digest : (next : ℕ) (callback : Callback) → Proper next (digest_effects next callback)
Proper-digest next (Outputv bytes) = Proper-command next bytes
Proper-digest next callback = record { next_jobs = refl; none = refl }

submits-command : (next : ℕ) (bytes : List ℕ) → jobs_by (command_effects next bytes) ≡ (if is_job bytes then 1 else 0)
submits-command next [] = refl
submits-command next (key ∷ []) = refl
submits-command next (key ∷ code ∷ input) =
    elim (is_code code) as (λ b. jobs_by (if b then Async next key code input ∷ [] else Fail (codes "einval") ∷ []) ≡ (if b then 1 else 0)) [ true ↦ refl | false ↦ refl ]

submits-digest : (next : ℕ) (callback : Callback) → jobs_by (digest_effects next callback) ≡ digest.job_count callback
submits-digest next (Outputv bytes) = submits-command next bytes
submits-digest next callback = refl

digest-count : (config : Config) (calls : List DriverCall) → job_count Digest config calls ≡ submitted calls
digest-count config [] = refl
digest-count config (call ∷ earlier) =
    let e = digest-count config earlier in
    let j = submits-digest (submitted earlier) call.callback in
    rw (e, j) refl

-- the effects of one call
Proper-call : (kind : Kind) (config : Config) (call : DriverCall) (earlier : List DriverCall) → Proper (job_count kind config earlier) (effects_of kind config (call ∷ earlier))
Proper-call Echo config call earlier = Proper-simple _ _ (simple-echo call.callback)
Proper-call Tally config call earlier = Proper-simple _ _ (simple-tally call.caller (commands earlier) (command_bytes earlier) call.callback)
Proper-call (Valve soft) config call earlier = Proper-simple _ _ (simple-valve call.callback)
Proper-call Store config call earlier = Proper-simple _ _ (simple-store (stored earlier) call.callback)
Proper-call Digest config call earlier =
    subst (λ n. Proper n (digest_effects (submitted earlier) call.callback)) (sym (digest-count config earlier)) (Proper-digest (submitted earlier) call.callback)
Proper-call Spawn config call earlier = Proper-simple _ _ (simple-callback config earlier call (spawn_queue config (call ∷ earlier)) call.callback)
Proper-call Refuse1 config call earlier = record { next_jobs = refl; none = refl }
Proper-call Refuse2 config call earlier = record { next_jobs = refl; none = refl }
Proper-call Refuse3 config call earlier = record { next_jobs = refl; none = refl }

-- the effects of several, one after another

jobs-append : (xs ys : List Effect) → jobs_by (xs ++ ys) ≡ jobs_by xs + jobs_by ys
jobs-append [] ys = omega arith
jobs-append (Message flag bytes ∷ xs) ys = jobs-append xs ys
jobs-append (Eof ∷ xs) ys = jobs-append xs ys
jobs-append (Status status ∷ xs) ys = jobs-append xs ys
jobs-append (Busy busy ∷ xs) ys = jobs-append xs ys
jobs-append (Select event dir on ∷ xs) ys = jobs-append xs ys
jobs-append (Unuse event ∷ xs) ys = jobs-append xs ys
jobs-append (Async number key code input ∷ xs) ys = let e = jobs-append xs ys in omega (arith, e)
jobs-append (Watch process ∷ xs) ys = jobs-append xs ys
jobs-append (Reply bytes ∷ xs) ys = jobs-append xs ys
jobs-append (ReplyBadarg ∷ xs) ys = jobs-append xs ys
jobs-append (Fail reason ∷ xs) ys = jobs-append xs ys

and-both : (a b : Bool) → (a && b) ≡ true → (a ≡ true) × (b ≡ true)
and-both true b e = (refl, e)
and-both false b e = absurd (cc)

next-append : (n : ℕ) (xs ys : List Effect) → are_next n xs ≡ true → are_next (n + jobs_by xs) ys ≡ true → are_next n (xs ++ ys) ≡ true
next-append n [] ys e f = subst (λ m. are_next m ys ≡ true) (let z : n + 0 ≡ n = omega arith in z) f
next-append n (Message flag bytes ∷ xs) ys e f = next-append n xs ys e f
next-append n (Eof ∷ xs) ys e f = next-append n xs ys e f
next-append n (Status status ∷ xs) ys e f = next-append n xs ys e f
next-append n (Busy busy ∷ xs) ys e f = next-append n xs ys e f
next-append n (Select event dir on ∷ xs) ys e f = next-append n xs ys e f
next-append n (Unuse event ∷ xs) ys e f = next-append n xs ys e f
next-append n (Async number key code input ∷ xs) ys e f =
    let both = and-both (number == n) (are_next (n + 1) xs) e in
    let shift : n + (1 + jobs_by xs) ≡ (n + 1) + jobs_by xs = omega arith in
    ap (λ b. b && are_next (n + 1) (xs ++ ys)) both.0 ∙ next-append (n + 1) xs ys both.1 (subst (λ m. are_next m ys ≡ true) shift f)
next-append n (Watch process ∷ xs) ys e f = next-append n xs ys e f
next-append n (Reply bytes ∷ xs) ys e f = next-append n xs ys e f
next-append n (ReplyBadarg ∷ xs) ys e f = next-append n xs ys e f
next-append n (Fail reason ∷ xs) ys e f = next-append n xs ys e f

none-append : (xs ys : List Effect) → gives_up_none xs ≡ true → gives_up_none ys ≡ true → gives_up_none (xs ++ ys) ≡ true
none-append [] ys e f = f
none-append (Message flag bytes ∷ xs) ys e f = none-append xs ys e f
none-append (Eof ∷ xs) ys e f = none-append xs ys e f
none-append (Status status ∷ xs) ys e f = none-append xs ys e f
none-append (Busy busy ∷ xs) ys e f = none-append xs ys e f
none-append (Select event dir on ∷ xs) ys e f = none-append xs ys e f
none-append (Unuse event ∷ xs) ys e f = absurd (cc)
none-append (Async number key code input ∷ xs) ys e f = none-append xs ys e f
none-append (Watch process ∷ xs) ys e f = none-append xs ys e f
none-append (Reply bytes ∷ xs) ys e f = none-append xs ys e f
none-append (ReplyBadarg ∷ xs) ys e f = none-append xs ys e f
none-append (Fail reason ∷ xs) ys e f = none-append xs ys e f

-- what the effects of calls after earlier ones make of the jobs and the events
pub record Leads (port : Opening) (earlier calls : List DriverCall) : Type 0 where
  pub proper : Proper (job_count port.kind port.config earlier) (effects_after port earlier calls)
  pub jobs : job_count port.kind port.config (calls ++ earlier) ≡ job_count port.kind port.config earlier + jobs_by (effects_after port earlier calls)
  pub held : held_events port.kind port.config (calls ++ earlier) ≡ held_by (effects_after port earlier calls) (held_events port.kind port.config earlier)

pub leads : (port : Opening) (earlier calls : List DriverCall) → Leads port earlier calls
leads port earlier [] = record {
  proper = record { next_jobs = refl; none = refl };
  jobs = omega arith;
  held = refl;
}
leads port earlier (call ∷ before) =
    let l = leads port earlier before in
    let xs : List Effect = effects_after port earlier before in
    let ys : List Effect = effects_of port.kind port.config (call ∷ before ++ earlier) in
    let p = Proper-call port.kind port.config call (before ++ earlier) in
    record {
      proper = record {
        next_jobs = next-append (job_count port.kind port.config earlier) xs ys l.proper.next_jobs (subst (λ n. are_next n ys ≡ true) l.jobs p.next_jobs);
        none = none-append xs ys l.proper.none p.none;
      };
      jobs = let j = l.jobs in omega (arith, j, jobs-append xs ys);
      held = ap (λ hs. held_by ys hs) l.held ∙ sym (held_by-append xs ys (held_events port.kind port.config earlier));
    }

-- how many jobs effects submit
pub submitted-count : (effects : List Effect) → jobs_by effects ≡ length (submitted_by effects)
submitted-count [] = refl
submitted-count (Message flag bytes ∷ effects) = submitted-count effects
submitted-count (Eof ∷ effects) = submitted-count effects
submitted-count (Status status ∷ effects) = submitted-count effects
submitted-count (Busy busy ∷ effects) = submitted-count effects
submitted-count (Select event dir on ∷ effects) = submitted-count effects
submitted-count (Unuse event ∷ effects) = submitted-count effects
submitted-count (Async number key code input ∷ effects) = let e = submitted-count effects in omega (arith, e)
submitted-count (Watch process ∷ effects) = submitted-count effects
submitted-count (Reply bytes ∷ effects) = submitted-count effects
submitted-count (ReplyBadarg ∷ effects) = submitted-count effects
submitted-count (Fail reason ∷ effects) = submitted-count effects

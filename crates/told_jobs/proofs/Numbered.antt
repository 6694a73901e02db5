-- The jobs of a lawful history are numbered 0, 1, 2 and so on, as the drivers number them.
use Rattle.std.proofs.Common.{◌≡◌, ℕ, suc, ◌+◌, eqb, cond, Bool, true, false, ◌&&◌, ◌||◌, not, List, [], ◌∷◌, ◌++◌, length, map, refl, sym, ap, ◌∙◌, subst, arith, length-append, eqb-true, codes}
use Rattle.std.specs.Prelude.{nat_le, nat_lt}
use Rattle.std.specs.List.{range_with_len}
use Rattle.std.proofs.lemmas.Bool.{and_parts}
use Rattle.std.proofs.lemmas.List.{length-map, map-append}
use Rattle.packet_framing.specs.declared.mode.Mode.{Mode}
use Rattle.packet_framing.specs.declared.mode.Mode.TheVariants.{Stream}
use Rattle.packet_framing.specs.declared.message.Message.{Message as Unframed}
use Rattle.packet_framing.specs.Messages.{last_message}
use Rattle.port_config.specs.declared.config.Config.{Config}
use Rattle.port_signal.specs.declared.outside.Outside.{Outside}
use Rattle.port_signal.specs.declared.outside.Outside.TheVariants.{Got, End, Failed, Status as ToldStatus}
use Rattle.port_model.specs.declared.event.Dir.TheVariants.{Read, Write}
use Rattle.port_model.specs.declared.effect.Effect.{Effect}
use Rattle.port_model.specs.declared.effect.Effect.TheVariants.{Async, Eof, Reply, ReplyBadarg, Fail, Select, Watch, Busy}
use Rattle.port_model.specs.declared.row.Row.{Row}
use Rattle.port_model.specs.declared.row.Row.TheVariants.{Handled, Late, Listed, Resumed, Mark}
use Rattle.driver_model.specs.Calls.{Callback, Start, Outputv, Control, Call, ReadyInput, ReadyOutput, ReadyAsync, ProcessExit, Flush, DriverCall, Kind, Echo, Tally, Valve, Store, Digest, Spawn, Refuse1, Refuse2, Refuse3, is_empty}
use Rattle.driver_model.specs.Digest.{is_code, is_job, submitted, command_effects, digest_effects}
use Rattle.driver_model.specs.Digest as digest
use Rattle.driver_model.specs.Drivers.{job_count, jobs_by, call_effects, effects_of}
use Rattle.driver_model.specs.Echo.{echo_effects}
use Rattle.driver_model.specs.Tally.{tally_effects, tally_term}
use Rattle.driver_model.specs.Valve.{valve_effects}
use Rattle.driver_model.specs.Store.{store_answer, store_effects, may_take, may_put}
use Rattle.driver_model.specs.Spawn as spawn
use Rattle.driver_model.specs.Same.{same_bytes, same_effect, same_effects}
use Rattle.port_history.specs.Jobs.{Submitted, submitted_by}
use Rattle.port_history.specs.Laws.{is_answered_by}
use Rattle.port_history.specs.Opening.{Opening, taken_of}
use Rattle.port_history.specs.Service.{effects_after}
use Rattle.port_history.specs.State.{State, state, start_call, row_calls, signal_calls}
use Rattle.port_jobs.proofs.Effects.{submitted-append, submitted-cons}
use Rattle.port_body.specs.recorded_port.Laws.{IsLawful}

-- the numbers of these are those from this one on
abbrev pub AreFrom : ℕ → List Submitted → Type 0
AreFrom first [] = Unit {0}
AreFrom first (job ∷ jobs) = (job.number ≡ first) × AreFrom (first + 1) jobs

from-append : (first : ℕ) (xs ys : List Submitted) → AreFrom first xs → AreFrom (first + length xs) ys → AreFrom first (xs ++ ys)
from-append first [] ys front behind = subst (λ n. AreFrom n ys) (let e : first + 0 ≡ first = omega arith in e) behind
from-append first (x ∷ xs) ys front behind =
    (front.0, from-append (first + 1) xs ys front.1 (subst (λ n. AreFrom n ys) (let e : first + suc (length xs) ≡ first + 1 + length xs = omega arith in e) behind))

in-range : (first : ℕ) (jobs : List Submitted) → AreFrom first jobs → map (λ (job : Submitted). job.number) jobs ≡ range_with_len first (length jobs)
in-range first [] from = refl
in-range first (job ∷ jobs) from = λ i. from.0 i ∷ in-range (first + 1) jobs from.1 i

from-range : (first : ℕ) (jobs others : List Submitted) → map (λ (job : Submitted). job.number) jobs ≡ map (λ (job : Submitted). job.number) others → AreFrom first others → AreFrom first jobs
from-range first [] others e from = tt
from-range first (job ∷ jobs) [] e from = absurd cc
from-range first (job ∷ jobs) (other ∷ others) e from =
    let at : job.number ≡ other.number = cc in
    let rest : map (λ (job : Submitted). job.number) jobs ≡ map (λ (job : Submitted). job.number) others = cc in
    (at ∙ from.0, from-range (first + 1) jobs others rest from.1)

-- no job is submitted
record Jobless (effects : List Effect) : Type 0 where
  pub none : submitted_by effects ≡ []

jobless : (effects : List Effect) → submitted_by effects ≡ [] → Jobless effects
jobless effects none = record { none = none }

either : (b : Bool) (xs ys : List Effect) → Jobless xs → Jobless ys → Jobless (cond b xs ys)
either true xs ys x y = x
either false xs ys x y = y

either-one : (b : Bool) (x y : Effect) → Jobless (x ∷ []) → Jobless (y ∷ []) → Jobless (cond b x y ∷ [])
either-one true x y a b = a
either-one false x y a b = b

both : (xs ys : List Effect) → Jobless xs → Jobless ys → Jobless (xs ++ ys)
both xs ys x y = record { none = submitted-append xs ys ∙ (λ i. x.none i ++ y.none i) }

none-echo : (callback : Callback) → Jobless (echo_effects callback)
none-echo (Outputv bytes) = jobless _ refl
none-echo (Control op bytes) = either (eqb op 1) (Reply bytes ∷ []) (ReplyBadarg ∷ []) (jobless _ refl) (jobless _ refl)
none-echo (Call op bytes) = either (eqb op 1) (Reply bytes ∷ []) (ReplyBadarg ∷ []) (jobless _ refl) (jobless _ refl)
none-echo callback = jobless _ refl

none-tally : (caller count bytes : ℕ) (callback : Callback) → Jobless (tally_effects caller count bytes callback)
none-tally caller count bytes (Control op data') =
    either (eqb op 1) _ _ (jobless _ refl) (either (eqb op 2) (Watch caller ∷ Reply [] ∷ []) (ReplyBadarg ∷ []) (jobless _ refl) (jobless _ refl))
none-tally caller count bytes (Call op data') = either (eqb op 1) (Reply (tally_term count bytes) ∷ []) (ReplyBadarg ∷ []) (jobless _ refl) (jobless _ refl)
none-tally caller count bytes (ProcessExit process) = jobless _ refl
none-tally caller count bytes callback = jobless _ refl

none-valve : (callback : Callback) → Jobless (valve_effects callback)
none-valve (Outputv bytes) = jobless _ refl
none-valve (Control op bytes) = either (eqb op 1) (Busy true ∷ Reply [] ∷ []) _ (jobless _ refl) (either (eqb op 2) (Busy false ∷ Reply [] ∷ []) (ReplyBadarg ∷ []) (jobless _ refl) (jobless _ refl))
none-valve (Call op bytes) = jobless _ refl
none-valve callback = jobless _ refl

none-answer : (op : ℕ) (bytes queue : List ℕ) → Jobless (store_answer op bytes queue ∷ [])
none-answer op bytes queue =
    either-one (eqb op 1) _ _ (either-one (may_take bytes queue) _ _ (jobless _ refl) (jobless _ refl))
    (either-one (eqb op 2) _ _ (jobless _ refl)
    (either-one (eqb op 3) _ _ (jobless _ refl)
    (either-one (eqb op 4) _ _ (jobless _ refl)
    (either-one (eqb op 5) _ _ (either-one (may_put bytes) _ _ (jobless _ refl) (jobless _ refl)) (jobless _ refl)))))

none-store : (queue : List ℕ) (callback : Callback) → Jobless (store_effects queue callback)
none-store queue (Control op bytes) = none-answer op bytes queue
none-store queue (Call op bytes) = jobless _ refl
none-store queue Flush = jobless _ refl
none-store queue callback = jobless _ refl

none-sent : (messages : List Unframed) → Jobless (map spawn.sent messages)
none-sent [] = jobless _ refl
none-sent (m ∷ messages) = record { none = (none-sent messages).none }

none-plain : (pieces : List (List ℕ)) → Jobless (map spawn.plain_message pieces)
none-plain [] = jobless _ refl
none-plain (piece ∷ pieces) = record { none = (none-plain pieces).none }

none-brought : (mode : Mode) (cut before bytes : List ℕ) → Jobless (spawn.brought mode cut before bytes)
none-brought Stream cut before bytes = none-plain (spawn.cut_into cut bytes)
none-brought mode cut before bytes = none-sent _

none-status : (answers : List Outside) → Jobless (spawn.status_effects answers)
none-status [] = jobless _ refl
none-status (ToldStatus status ∷ answers) = jobless _ refl
none-status (Failed ∷ answers) = jobless _ refl
none-status (answer ∷ answers) = jobless _ refl

none-end : (config : Config) (earlier : List DriverCall) (answers : List Outside) → Jobless (spawn.end_effects config earlier answers)
none-end config earlier answers =
    let messages = last_message config.mode (spawn.rest config earlier) in
    let eof = cond config.eof (Eof ∷ []) [] in
    let status = cond config.exit_status (spawn.status_effects answers) [] in
    let fail = Fail (codes "normal") ∷ [] in
    let last = cond (config.eof || spawn.has_failed answers) [] fail in
    let select = Select (spawn.read_event earlier) Read false ∷ [] in
    both (map spawn.sent messages ++ eof ++ status ++ select) last
    (both (map spawn.sent messages ++ eof ++ status) select
    (both (map spawn.sent messages ++ eof) status
    (both (map spawn.sent messages) eof (none-sent messages) (either config.eof (Eof ∷ []) [] (jobless _ refl) (jobless _ refl)))
    (either config.exit_status (spawn.status_effects answers) [] (none-status answers) (jobless _ refl)))
    (jobless _ refl))
    (either (config.eof || spawn.has_failed answers) [] fail (jobless _ refl) (jobless _ refl))

none-got : (config : Config) (earlier : List DriverCall) (call : DriverCall) (bytes : List ℕ) → Jobless (spawn.got_effects config earlier call bytes)
none-got config earlier call bytes =
    let all = call ∷ earlier in
    let brought = spawn.brought config.mode call.cut (spawn.unended_bytes earlier) bytes in
    let refused = Fail (codes "emsgsize") ∷ [] in
    either (nat_lt spawn.most_taken (length (spawn.taken_bytes all))) (Fail (codes "enospc") ∷ []) (cond (spawn.is_refused config all) refused brought) (jobless _ refl)
    (either (spawn.is_refused config all) refused brought (jobless _ refl) (none-brought config.mode call.cut (spawn.unended_bytes earlier) bytes))

none-fetch : (config : Config) (earlier : List DriverCall) (call : DriverCall) (answers : List Outside) → Jobless (spawn.fetch_effects config earlier call answers)
none-fetch config earlier call [] = jobless _ refl
none-fetch config earlier call (Got bytes ∷ answers) = none-got config earlier call bytes
none-fetch config earlier call (Failed ∷ answers) = jobless _ refl
none-fetch config earlier call (End ∷ answers) = none-end config earlier answers
none-fetch config earlier call (answer ∷ answers) = jobless _ refl

none-output : (config : Config) (earlier : List DriverCall) (queue : List ℕ) → Jobless (spawn.output_effects config earlier queue)
none-output config earlier queue =
    let writes = is_empty (spawn.spawn_queue config earlier) && not (is_empty queue) in
    let fills = nat_le config.busy_high (length queue) && not (spawn.holds_busy config earlier) in
    let select = Select (spawn.write_event earlier) Write true ∷ [] in
    both (cond writes select []) (cond fills (Busy true ∷ []) []) (either writes select [] (jobless _ refl) (jobless _ refl)) (either fills (Busy true ∷ []) [] (jobless _ refl) (jobless _ refl))

none-offer : (config : Config) (earlier : List DriverCall) (queue : List ℕ) (answers : List Outside) → Jobless (spawn.offer_effects config earlier queue answers)
none-offer config earlier queue answers =
    let frees = spawn.holds_busy config earlier && nat_lt (length queue) config.busy_low in
    let select = Select (spawn.write_event earlier) Write false ∷ [] in
    let free = cond frees (Busy false ∷ []) [] in
    let empty = cond (is_empty queue) select [] in
    either (spawn.has_failed answers) (Fail (codes "eio") ∷ []) (free ++ empty) (jobless _ refl)
    (both free empty (either frees (Busy false ∷ []) [] (jobless _ refl) (jobless _ refl)) (either (is_empty queue) select [] (jobless _ refl) (jobless _ refl)))

none-spawn : (config : Config) (earlier : List DriverCall) (call : DriverCall) (queue : List ℕ) (callback : Callback) → Jobless (spawn.callback_effects config earlier call queue callback)
none-spawn config earlier call queue (Start read write) = jobless _ refl
none-spawn config earlier call queue (Outputv bytes) =
    either (spawn.fits config.mode (length bytes)) (spawn.output_effects config earlier queue) (Fail (codes "einval") ∷ []) (none-output config earlier queue) (jobless _ refl)
none-spawn config earlier call queue (ReadyOutput event) = none-offer config earlier queue call.outside
none-spawn config earlier call queue (ReadyInput event) = none-fetch config earlier call call.outside
none-spawn config earlier call queue (Control op bytes) = jobless _ refl
none-spawn config earlier call queue (Call op bytes) = jobless _ refl
none-spawn config earlier call queue callback = jobless _ refl

-- a digest numbers its jobs
command-from : (next : ℕ) (bytes : List ℕ) → AreFrom next (submitted_by (command_effects next bytes)) × (jobs_by (command_effects next bytes) ≡ cond (is_job bytes) 1 0)
command-from next [] = (tt, refl)
command-from next (key ∷ []) = (tt, refl)
command-from next (key ∷ code ∷ input) = elim (is_code code)
    as (λ b. AreFrom next (submitted_by (cond b (Async next key code input ∷ []) (Fail (codes "einval") ∷ []))) × (jobs_by (cond b (Async next key code input ∷ []) (Fail (codes "einval") ∷ [])) ≡ cond b 1 0)) [
      | true ↦ ((refl, tt), refl)
      | false ↦ (tt, refl)
    ]

digest-from : (next : ℕ) (callback : Callback) → AreFrom next (submitted_by (digest_effects next callback)) × (jobs_by (digest_effects next callback) ≡ digest.job_count callback)
digest-from next (Outputv bytes) = command-from next bytes
digest-from next (Control op bytes) = (tt, refl)
digest-from next (Call op bytes) = (tt, refl)
digest-from next (ReadyAsync number output) = (tt, refl)
digest-from next callback = (tt, refl)

digest-count : (config : Config) (calls : List DriverCall) → job_count Digest config calls ≡ submitted calls
digest-count config [] = refl
digest-count config (call ∷ earlier) =
    let e = digest-count config earlier in
    let j = (digest-from (submitted earlier) call.callback).1 in
    rw (e, j) refl

none-from : (next : ℕ) (effects : List Effect) → Jobless effects → AreFrom next (submitted_by effects)
none-from next effects none = subst (AreFrom next) (sym none.none) tt

-- each call's jobs go on behind those before it
call-from : (kind : Kind) (config : Config) (earlier : List DriverCall) (call : DriverCall) → AreFrom (job_count kind config earlier) (submitted_by (call_effects kind config earlier call))
call-from Echo config earlier call = none-from _ _ (none-echo call.callback)
call-from Tally config earlier call = none-from _ _ (none-tally call.caller _ _ call.callback)
call-from (Valve soft) config earlier call = none-from _ _ (none-valve call.callback)
call-from Store config earlier call = none-from _ _ (none-store _ call.callback)
call-from Digest config earlier call =
    subst (λ n. AreFrom n (submitted_by (digest_effects (submitted earlier) call.callback))) (sym (digest-count config earlier)) (digest-from (submitted earlier) call.callback).0
call-from Spawn config earlier call = none-from _ _ (none-spawn config earlier call (spawn.spawn_queue config (call ∷ earlier)) call.callback)
call-from Refuse1 config earlier call = tt
call-from Refuse2 config earlier call = tt
call-from Refuse3 config earlier call = tt

counted : (effects : List Effect) → jobs_by effects ≡ length (submitted_by effects)
counted [] = refl
counted (Async number key code input ∷ effects) = let e = counted effects in omega (arith, e)
counted (effect ∷ effects) = counted effects

-- the jobs of some calls after earlier ones
record After (port : Opening) (earlier calls : List DriverCall) : Type 0 where
  pub from : AreFrom (job_count port.kind port.config earlier) (submitted_by (effects_after port earlier calls))
  pub count : job_count port.kind port.config (calls ++ earlier) ≡ job_count port.kind port.config earlier + length (submitted_by (effects_after port earlier calls))

after-from : (port : Opening) (earlier calls : List DriverCall) → After port earlier calls
after-from port earlier [] = record { from = tt; count = omega arith }
after-from port earlier (call ∷ before) =
    let a = after-from port earlier before in
    let all = before ++ earlier in
    let front = effects_after port earlier before in
    let effects = effects_of port.kind port.config (call ∷ all) in
    let split = submitted-append front effects in
    record {
      from = subst (AreFrom (job_count port.kind port.config earlier)) (sym split)
          (from-append (job_count port.kind port.config earlier) (submitted_by front) (submitted_by effects) a.from
          (subst (λ n. AreFrom n (submitted_by effects)) a.count (call-from port.kind port.config all call)));
      count =
          let more = counted effects in
          let long = ap length split ∙ length-append (submitted_by front) (submitted_by effects) in
          let n = a.count in
          omega (arith, more, long, n);
    }

same-one : (x y : Effect) → same_effect x y ≡ true → map (λ (job : Submitted). job.number) (submitted_by (x ∷ [])) ≡ map (λ (job : Submitted). job.number) (submitted_by (y ∷ []))
same-one (Async n k c i) (Async m l d j) e =
    ap (λ x. x ∷ []) (eqb-true n m (and_parts (eqb n m) (eqb k l) (and_parts (eqb n m && eqb k l) (eqb c d) (and_parts (eqb n m && eqb k l && eqb c d) (same_bytes i j) e).0).0).0)
same-one (Async n k c i) y e = absurd cc
same-one x (Async m l d j) e = absurd cc
same-one x y e = refl

abbrev numbers : List Effect → List ℕ
numbers effects = map (λ (job : Submitted). job.number) (submitted_by effects)

numbers-cons : (x : Effect) (xs : List Effect) → numbers (x ∷ xs) ≡ numbers (x ∷ []) ++ numbers xs
numbers-cons x xs = ap (map (λ (job : Submitted). job.number)) (submitted-cons x xs) ∙ map-append (λ (job : Submitted). job.number) (submitted_by (x ∷ [])) (submitted_by xs)

same-numbers : (xs ys : List Effect) → same_effects xs ys ≡ true → numbers xs ≡ numbers ys
same-numbers [] [] e = refl
same-numbers [] (y ∷ ys) e = absurd cc
same-numbers (x ∷ xs) [] e = absurd cc
same-numbers (x ∷ xs) (y ∷ ys) e =
    let parts = and_parts (same_effect x y) (same_effects xs ys) e in
    numbers-cons x xs ∙ (λ i. same-one x y parts.0 i ++ same-numbers xs ys parts.1 i) ∙ sym (numbers-cons y ys)

-- the jobs after some rows are numbered, and so many were submitted in the calls so far
record Counts (port : Opening) (s : State) : Type 0 where
  pub from : AreFrom 0 s.jobs
  pub count : job_count port.kind port.config s.calls ≡ length s.jobs

start-counts : (port : Opening) → Counts port (state port [])
start-counts port = record {
  from = call-from port.kind port.config [] (start_call port);
  count = let e = counted (effects_of port.kind port.config (start_call port ∷ [])) in omega (arith, e);
}

row-counts : (port : Opening) (s : State) (calls : List DriverCall) (effects : List Effect) → Counts port s → same_effects effects (effects_after port s.calls calls) ≡ true
    → AreFrom 0 (s.jobs ++ submitted_by effects) × (job_count port.kind port.config (calls ++ s.calls) ≡ length (s.jobs ++ submitted_by effects))
row-counts port s calls effects before same =
    let a = after-from port s.calls calls in
    let made = effects_after port s.calls calls in
    let numbered = same-numbers effects made same in
    let number : Submitted → ℕ = λ job. job.number in (
      from-append 0 s.jobs (submitted_by effects) before.from
          (from-range (0 + length s.jobs) (submitted_by effects) (submitted_by made) numbered
          (subst (λ n. AreFrom n (submitted_by made)) (before.count ∙ (let e : length s.jobs ≡ 0 + length s.jobs = omega arith in e)) a.from)),
      (let n = a.count in
          let c = before.count in
          let few = sym (length-map (submitted_by effects) number) ∙ ap length numbered ∙ length-map (submitted_by made) number in
          let long = length-append s.jobs (submitted_by effects) in
          omega (arith, n, c, few, long)),
    )

counts : (port : Opening) (rows : List Row) → IsLawful port rows → Counts port (state port rows)
counts port [] lawful = start-counts port
counts port (Handled from seq task outside effects ∷ rows) lawful =
    let s = state port rows in
    let t = taken_of from seq task outside effects in
    let row = row-counts port s (row_calls port s t) effects (counts port rows lawful.1)
    (and_parts (same_effects effects (effects_after port s.calls (row_calls port s t))) (is_answered_by port s (signal_calls s t) outside) lawful.0.effects).0 in
    record { from = row.0; count = row.1 }
counts port (Late from seq task ∷ rows) lawful = let c = counts port rows lawful.1 in record { from = c.from; count = c.count }
counts port (Listed from seq ∷ rows) lawful = let c = counts port rows lawful.1 in record { from = c.from; count = c.count }
counts port (Resumed from seq word ∷ rows) lawful = let c = counts port rows lawful.1 in record { from = c.from; count = c.count }
counts port (Mark kind ∷ rows) lawful = let c = counts port rows lawful.1 in record { from = c.from; count = c.count }

pub numbered-jobs : (port : Opening) (rows : List Row) → IsLawful port rows
    → map (λ (job : Submitted). job.number) (state port rows).jobs ≡ range_with_len 0 (length (state port rows).jobs)
numbered-jobs port rows lawful = in-range 0 (state port rows).jobs (counts port rows lawful).from

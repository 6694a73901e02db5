-- The effects of a driver watch no process but the one whose control is handled.
use Rattle.std.proofs.Common.{◌≡◌, ℕ, ◌<◌, ◌==◌, List, [], ◌∷◌, ◌++◌, length, drop, map, Bool, true, false, cond, ◌||◌, sym, subst}
use Rattle.std.specs.Prelude.{nat_le, nat_lt, not, ◌&&◌, codes}
use Rattle.std.specs.List.{AllByRecursion}
use Rattle.std.proofs.lemmas.Bool.{and_parts, eqb-true}
use Rattle.port_config.specs.declared.config.Config.{Config}
use Rattle.port_config.specs.packet_framing.declared.mode.Mode.{Mode}
use Rattle.port_config.specs.packet_framing.declared.mode.Mode.TheVariants.{Stream}
use Rattle.port_config.specs.packet_framing.Messages.{last_message, messages_of}
use Rattle.port_model.specs.port_signal.declared.outside.Outside.{Outside}
use Rattle.port_model.specs.port_signal.declared.outside.Outside.TheVariants.{Got, End, Failed, Status as TellsStatus}
use Rattle.port_model.specs.declared.event.Dir.TheVariants.{Read, Write}
use Rattle.port_model.specs.declared.effect.Effect.{Effect}
use Rattle.port_model.specs.declared.effect.Effect.TheVariants.{Eof, Busy, Select, Watch, Reply, ReplyBadarg, Fail}
use Rattle.driver_model.specs.Calls as driver
use Rattle.driver_model.specs.Calls.{Callback, DriverCall, Kind, is_empty}
use Rattle.driver_model.specs.Digest.{command_effects, digest_effects, is_code}
use Rattle.driver_model.specs.Drivers.{call_effects, effects_of}
use Rattle.driver_model.specs.Echo.{echo_effects}
use Rattle.driver_model.specs.Same.{same_effect, same_effects}
use Rattle.driver_model.specs.Spawn.{brought, callback_effects, cut_into, end_effects, fetch_effects, fits, got_effects, has_failed, holds_busy, is_refused, most_taken, offer_effects, output_effects, plain_message, read_event, rest, sent, spawn_queue, status_effects, taken_bytes, unended_bytes, write_event}
use Rattle.driver_model.specs.Store.{may_put, may_take, store_answer, store_effects}
use Rattle.driver_model.specs.Tally.{tally_effects, commands, command_bytes}
use Rattle.driver_model.specs.Valve.{valve_effects}
use Rattle.port_history.specs.Opening.{Opening}
use Rattle.port_history.specs.Service.{effects_after}
use Rattle.run_laws.proofs.journals.Named.{EffectNames}
use Rattle.run_laws.proofs.Lists.{all-append, all-either, all-map}

-- the process that a control's call comes from is one of so many
abbrev pub CallbackNames : ℕ → ℕ → Callback → Type 0
CallbackNames names caller (driver.Control op bytes) = caller < names
CallbackNames names caller callback = Unit {0}

abbrev pub CallNames : ℕ → DriverCall → Type 0
CallNames names call = CallbackNames names call.caller call.callback

-- each effect names such a process
abbrev pub AllNamed : ℕ → List Effect → Type 0
AllNamed names effects = AllByRecursion (EffectNames names) effects

either : (names : ℕ) (b : Bool) (xs ys : List Effect) → AllNamed names xs → AllNamed names ys → AllNamed names (cond b xs ys)
either names b xs ys x y = all-either (EffectNames names) b xs ys x y

both : (names : ℕ) (xs ys : List Effect) → AllNamed names xs → AllNamed names ys → AllNamed names (xs ++ ys)
both names xs ys x y = all-append (EffectNames names) xs ys x y

one-of : (names : ℕ) (b : Bool) (x y : Effect) → EffectNames names x → EffectNames names y → EffectNames names (cond b x y)
one-of names true x y p q = p
one-of names false x y p q = q

echo-named : (names : ℕ) (callback : Callback) → AllNamed names (echo_effects callback)
echo-named names (driver.Outputv bytes) = (tt, tt)
echo-named names (driver.Control op bytes) = either names (op == 1) (Reply bytes ∷ []) (ReplyBadarg ∷ []) (tt, tt) (tt, tt)
echo-named names (driver.Call op bytes) = either names (op == 1) (Reply bytes ∷ []) (ReplyBadarg ∷ []) (tt, tt) (tt, tt)
echo-named names callback = tt

tally-named : (names caller count bytes : ℕ) (callback : Callback) → CallbackNames names caller callback → AllNamed names (tally_effects caller count bytes callback)
tally-named names caller count bytes (driver.Control op asked) named =
    either names (op == 1) _ _ (tt, tt) (either names (op == 2) (Watch caller ∷ Reply [] ∷ []) (ReplyBadarg ∷ []) (named, (tt, tt)) (tt, tt))
tally-named names caller count bytes (driver.Call op asked) named = either names (op == 1) _ (ReplyBadarg ∷ []) (tt, tt) (tt, tt)
tally-named names caller count bytes (driver.ProcessExit process) named = (tt, tt)
tally-named names caller count bytes callback named = tt

valve-named : (names : ℕ) (callback : Callback) → AllNamed names (valve_effects callback)
valve-named names (driver.Outputv bytes) = (tt, tt)
valve-named names (driver.Control op bytes) =
    either names (op == 1) (Busy true ∷ Reply [] ∷ []) _ (tt, (tt, tt)) (either names (op == 2) (Busy false ∷ Reply [] ∷ []) (ReplyBadarg ∷ []) (tt, (tt, tt)) (tt, tt))
valve-named names (driver.Call op bytes) = (tt, tt)
valve-named names callback = tt

answer-named : (names op : ℕ) (bytes queue : List ℕ) → EffectNames names (store_answer op bytes queue)
answer-named names op bytes queue =
    one-of names (op == 1) _ _ (one-of names (may_take bytes queue) (Reply _) ReplyBadarg tt tt)
    (one-of names (op == 2) (Reply _) _ tt
    (one-of names (op == 3) (Reply queue) _ tt
    (one-of names (op == 4) (Reply []) _ tt
    (one-of names (op == 5) _ ReplyBadarg (one-of names (may_put bytes) (Reply []) ReplyBadarg tt tt) tt))))

store-named : (names : ℕ) (queue : List ℕ) (callback : Callback) → AllNamed names (store_effects queue callback)
store-named names queue (driver.Control op bytes) = (answer-named names op bytes queue, tt)
store-named names queue (driver.Call op bytes) = (tt, tt)
store-named names queue driver.Flush = (tt, tt)
store-named names queue callback = tt

job-named : (names next : ℕ) (bytes : List ℕ) → AllNamed names (command_effects next bytes)
job-named names next [] = (tt, tt)
job-named names next (key ∷ []) = (tt, tt)
job-named names next (key ∷ code ∷ input) = either names (is_code code) _ _ (tt, tt) (tt, tt)

digest-named : (names next : ℕ) (callback : Callback) → AllNamed names (digest_effects next callback)
digest-named names next (driver.Outputv bytes) = job-named names next bytes
digest-named names next (driver.Control op bytes) = (tt, tt)
digest-named names next (driver.Call op bytes) = (tt, tt)
digest-named names next (driver.ReadyAsync job output) = (tt, tt)
digest-named names next callback = tt

output-named : (names : ℕ) (config : Config) (earlier : List DriverCall) (queue : List ℕ) → AllNamed names (output_effects config earlier queue)
output-named names config earlier queue =
    both names _ _ (either names (is_empty (spawn_queue config earlier) && not (is_empty queue)) (Select (write_event earlier) Write true ∷ []) [] (tt, tt) tt)
    (either names (nat_le config.busy_high (length queue) && not (holds_busy config earlier)) (Busy true ∷ []) [] (tt, tt) tt)

offer-named : (names : ℕ) (config : Config) (earlier : List DriverCall) (queue : List ℕ) (answers : List Outside) → AllNamed names (offer_effects config earlier queue answers)
offer-named names config earlier queue answers =
    either names (has_failed answers) (Fail (codes "eio") ∷ []) _ (tt, tt)
    (both names _ _ (either names (holds_busy config earlier && nat_lt (length queue) config.busy_low) (Busy false ∷ []) [] (tt, tt) tt)
    (either names (is_empty queue) (Select (write_event earlier) Write false ∷ []) [] (tt, tt) tt))

brought-named : (names : ℕ) (mode : Mode) (cut before bytes : List ℕ) → AllNamed names (brought mode cut before bytes)
brought-named names Stream cut before bytes = all-map (EffectNames names) plain_message (cut_into cut bytes) (λ m. tt)
brought-named names mode cut before bytes =
    all-map (EffectNames names) sent (drop (length (messages_of mode before)) (messages_of mode (before ++ bytes))) (λ m. tt)

got-named : (names : ℕ) (config : Config) (earlier : List DriverCall) (call : DriverCall) (bytes : List ℕ) → AllNamed names (got_effects config earlier call bytes)
got-named names config earlier call bytes =
    either names (nat_lt most_taken (length (taken_bytes (call ∷ earlier)))) (Fail (codes "enospc") ∷ []) _ (tt, tt)
    (either names (is_refused config (call ∷ earlier)) (Fail (codes "emsgsize") ∷ []) _ (tt, tt) (brought-named names config.mode call.cut (unended_bytes earlier) bytes))

status-named : (names : ℕ) (answers : List Outside) → AllNamed names (status_effects answers)
status-named names [] = tt
status-named names (TellsStatus status ∷ answers) = (tt, tt)
status-named names (Failed ∷ answers) = (tt, tt)
status-named names (answer ∷ answers) = tt

end-named : (names : ℕ) (config : Config) (earlier : List DriverCall) (answers : List Outside) → AllNamed names (end_effects config earlier answers)
end-named names config earlier answers =
    let ends = cond (config.eof || has_failed answers) [] (Fail (codes "normal") ∷ []) in
    let status = cond config.exit_status (status_effects answers) [] in
    let eof = cond config.eof (Eof ∷ []) [] in
    let last = map sent (last_message config.mode (rest config earlier)) in
    let select = Select (read_event earlier) Read false ∷ [] in
    both names (last ++ eof ++ status ++ select) ends
    (both names (last ++ eof ++ status) select
    (both names (last ++ eof) status
    (both names last eof (all-map (EffectNames names) sent (last_message config.mode (rest config earlier)) (λ m. tt)) (either names config.eof (Eof ∷ []) [] (tt, tt) tt))
    (either names config.exit_status (status_effects answers) [] (status-named names answers) tt))
    (tt, tt))
    (either names (config.eof || has_failed answers) [] (Fail (codes "normal") ∷ []) tt (tt, tt))

fetch-named : (names : ℕ) (config : Config) (earlier : List DriverCall) (call : DriverCall) (answers : List Outside) → AllNamed names (fetch_effects config earlier call answers)
fetch-named names config earlier call [] = tt
fetch-named names config earlier call (Got bytes ∷ answers) = got-named names config earlier call bytes
fetch-named names config earlier call (Failed ∷ answers) = (tt, tt)
fetch-named names config earlier call (End ∷ answers) = end-named names config earlier answers
fetch-named names config earlier call (answer ∷ answers) = tt

spawn-named : (names : ℕ) (config : Config) (earlier : List DriverCall) (call : DriverCall) (queue : List ℕ) (callback : Callback) → AllNamed names (callback_effects config earlier call queue callback)
spawn-named names config earlier call queue (driver.Start read write) = (tt, tt)
spawn-named names config earlier call queue (driver.Outputv bytes) =
    either names (fits config.mode (length bytes)) (output_effects config earlier queue) (Fail (codes "einval") ∷ []) (output-named names config earlier queue) (tt, tt)
spawn-named names config earlier call queue (driver.ReadyOutput event) = offer-named names config earlier queue call.outside
spawn-named names config earlier call queue (driver.ReadyInput event) = fetch-named names config earlier call call.outside
spawn-named names config earlier call queue (driver.Control op bytes) = (tt, tt)
spawn-named names config earlier call queue (driver.Call op bytes) = (tt, tt)
spawn-named names config earlier call queue callback = tt

-- the effects of one call
call-named : (names : ℕ) (kind : Kind) (config : Config) (earlier : List DriverCall) (call : DriverCall) → CallNames names call → AllNamed names (call_effects kind config earlier call)
call-named names driver.Echo config earlier call named = echo-named names call.callback
call-named names driver.Tally config earlier call named = tally-named names call.caller (commands earlier) (command_bytes earlier) call.callback named
call-named names (driver.Valve soft) config earlier call named = valve-named names call.callback
call-named names driver.Store config earlier call named = store-named names _ call.callback
call-named names driver.Digest config earlier call named = digest-named names _ call.callback
call-named names driver.Spawn config earlier call named = spawn-named names config earlier call (spawn_queue config (call ∷ earlier)) call.callback
call-named names kind config earlier call named = tt

-- the effects of all calls of a row
pub after-named : (names : ℕ) (port : Opening) (earlier calls : List DriverCall) → AllByRecursion (CallNames names) calls → AllNamed names (effects_after port earlier calls)
after-named names port earlier [] named = tt
after-named names port earlier (call ∷ before) named =
    both names (effects_after port earlier before) (effects_of port.kind port.config (call ∷ before ++ earlier)) (after-named names port earlier before named.1)
    (call-named names port.kind port.config (before ++ earlier) call named.0)

-- effects that are the same name the same processes
same-name : (names : ℕ) (x y : Effect) → same_effect x y ≡ true → EffectNames names y → EffectNames names x
same-name names (Watch n) (Watch m) same named = subst (λ p. p < names) (sym (eqb-true n m same)) named
same-name names (Watch n) y same named = absurd cc
same-name names x y same named = tt

pub same-names : (names : ℕ) (xs ys : List Effect) → same_effects xs ys ≡ true → AllNamed names ys → AllNamed names xs
same-names names [] ys same named = tt
same-names names (x ∷ xs) [] same named = absurd cc
same-names names (x ∷ xs) (y ∷ ys) same named =
    let parts = and_parts (same_effect x y) (same_effects xs ys) same in
    (same-name names x y parts.0 named.0, same-names names xs ys parts.1 named.1)

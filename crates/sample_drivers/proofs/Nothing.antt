-- The drivers that keep nothing and queue nothing.
use Rattle.std.proofs.Common.{◌≡◌, ℕ, ◌==◌, Bool, true, false, List, [], ◌∷◌, ◌++◌, cond, refl, sym, ap, ◌∙◌}
use Rattle.std.specs.Prelude.{None}
use Rattle.std.proofs.lemmas.List.{append-nil}
use Rattle.io_vector.specs.declared.flag.Flag.TheVariants.{Plain}
use Rattle.port_model.specs.declared.effect.Effect.{Effect}
use Rattle.port_model.specs.declared.effect.Effect.TheVariants.{Message, Busy, Reply, ReplyBadarg}
use Rattle.driver_model.specs.Calls.{Callback, Start, Outputv, Control, Call, ReadyInput, ReadyOutput, ReadyAsync, ProcessExit, Flush, Stop, Nothing, Echo, Valve}
use Rattle.driver_model.specs.Echo.{echo_effects}
use Rattle.driver_model.specs.Valve.{valve_effects}
use Rattle.port_driver.specs.declared.reply.ReplyTo.{ReplyTo}
use Rattle.port_driver.specs.Context.{Context, did}
use Rattle.port_driver.specs.Driven.{Did}
use Rattle.port_driver.specs.Replies.{reply_effect}
use Rattle.sample_drivers.specs.Valves.{Sets, busy_effects}
use Rattle.port_driver.proofs.Driven.{is_plain, went, Did-went}

-- a context where nothing was recorded
pub unchanged : (context : Context) → context ≡ went context context.queue []
unchanged context = ap (λ effects. record context { effects = effects }) (sym (append-nil context.effects))

-- a reply, whatever the test
plain-reply : (test : Bool) (bytes : List ℕ) → is_plain (cond test (Reply bytes ∷ []) (ReplyBadarg ∷ [])) ≡ true
plain-reply true bytes = refl
plain-reply false bytes = refl

plain-echo : (callback : Callback) → is_plain (echo_effects callback) ≡ true
plain-echo (Start read write) = refl
plain-echo (Outputv bytes) = refl
plain-echo (Control op bytes) = plain-reply (op == 1) bytes
plain-echo (Call op bytes) = plain-reply (op == 1) bytes
plain-echo (ReadyInput event) = refl
plain-echo (ReadyOutput event) = refl
plain-echo (ReadyAsync number output) = refl
plain-echo (ProcessExit process) = refl
plain-echo Flush = refl
plain-echo Stop = refl

-- an echo that recorded these effects
pub Did-echo : (callback : Callback) (old new : Context) (added answer : List Effect) → new ≡ went old old.queue added → added ++ answer ≡ echo_effects callback
    → Did Echo callback Nothing Nothing None None old new answer
Did-echo callback old new added answer changed effects =
    Did-went Echo callback Nothing Nothing None None old new old.queue added answer changed (ap is_plain effects ∙ plain-echo callback)
    (λ config earlier before. record { holds = before.holds; effects = effects; answered = refl; told = tt })

-- an echo that only answered, or did nothing
pub echo_kept : (callback : Callback) (context : Context) (answer : List Effect) → answer ≡ echo_effects callback → Did Echo callback Nothing Nothing None None context context answer
echo_kept callback context answer effects = Did-echo callback context context [] answer (unchanged context) effects

-- an echo that sent the data
pub echo_sent : (data' bytes : List ℕ) (old new : Context) → new ≡ did old (Message Plain bytes) → bytes ≡ data' → Did Echo (Outputv data') Nothing Nothing None None old new []
echo_sent data' bytes old new sent same = Did-echo (Outputv data') old new (Message Plain bytes ∷ []) [] sent (ap (λ b. Message Plain b ∷ []) same)

plain-valve : (callback : Callback) → is_plain (valve_effects callback) ≡ true
plain-valve (Start read write) = refl
plain-valve (Outputv bytes) = refl
plain-valve (Control op bytes) =
    elim (op == 1) as (λ one. is_plain (cond one (Busy true ∷ Reply [] ∷ []) (cond (op == 2) (Busy false ∷ Reply [] ∷ []) (ReplyBadarg ∷ []))) ≡ true) [
      | true ↦ refl
      | false ↦ elim (op == 2) as (λ two. is_plain (cond two (Busy false ∷ Reply [] ∷ []) (ReplyBadarg ∷ [])) ≡ true) [ true ↦ refl | false ↦ refl ]
    ]
plain-valve (Call op bytes) = refl
plain-valve (ReadyInput event) = refl
plain-valve (ReadyOutput event) = refl
plain-valve (ReadyAsync number output) = refl
plain-valve (ProcessExit process) = refl
plain-valve Flush = refl
plain-valve Stop = refl

-- a valve that recorded these effects
pub Did-valve : (soft : Bool) (callback : Callback) (old new : Context) (added answer : List Effect) → new ≡ went old old.queue added → added ++ answer ≡ valve_effects callback
    → Did (Valve soft) callback Nothing Nothing None None old new answer
Did-valve soft callback old new added answer changed effects =
    Did-went (Valve soft) callback Nothing Nothing None None old new old.queue added answer changed (ap is_plain effects ∙ plain-valve callback)
    (λ config earlier before. record { holds = before.holds; effects = effects; answered = refl; told = tt })

-- a valve that only answered, or did nothing
pub valve_kept : (soft : Bool) (callback : Callback) (context : Context) (answer : List Effect) → answer ≡ valve_effects callback
    → Did (Valve soft) callback Nothing Nothing None None context context answer
valve_kept soft callback context answer effects = Did-valve soft callback context context [] answer (unchanged context) effects

-- a valve that sent the data
pub valve_sent : (soft : Bool) (data' bytes : List ℕ) (old new : Context) → new ≡ did old (Message Plain bytes) → bytes ≡ data'
    → Did (Valve soft) (Outputv data') Nothing Nothing None None old new []
valve_sent soft data' bytes old new sent same = Did-valve soft (Outputv data') old new (Message Plain bytes ∷ []) [] sent (ap (λ b. Message Plain b ∷ []) same)

-- a valve that made an operation
pub valve_set : (soft : Bool) (op : ℕ) (bytes : List ℕ) (old new : Context) (answer : ReplyTo) → Sets op bytes old new answer
    → Did (Valve soft) (Control op bytes) Nothing Nothing None None old new (reply_effect answer ∷ [])
valve_set soft op bytes old new answer sets = Did-valve soft (Control op bytes) old new (busy_effects op) (reply_effect answer ∷ []) sets.context sets.answered

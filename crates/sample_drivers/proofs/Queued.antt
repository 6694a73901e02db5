-- What a store queues and answers, call by call.
use Rattle.std.proofs.Common.{◌≡◌, ℕ, true, List, [], ◌∷◌, ◌++◌, drop, refl, sym, ap, ◌∙◌}
use Rattle.std.specs.Prelude.{None}
use Rattle.std.proofs.lemmas.List.{append-nil}
use Rattle.io_vector.specs.declared.flag.Flag.TheVariants.{Plain}
use Rattle.port_model.specs.declared.effect.Effect.{Effect}
use Rattle.port_model.specs.declared.effect.Effect.TheVariants.{Message}
use Rattle.driver_model.specs.Calls.{Callback, Outputv, Control, Flush, Nothing, Store}
use Rattle.driver_model.specs.Store.{queue_after, queue_controlled, store_effects}
use Rattle.port_driver.specs.declared.reply.ReplyTo.{ReplyTo}
use Rattle.port_driver.specs.declared.reply.ReplyTo.TheVariants.{Bytes, Badarg}
use Rattle.port_driver.specs.Context.{Context, did}
use Rattle.port_driver.specs.Driven.{held_of, Did}
use Rattle.port_driver.specs.Replies.{reply_effect}
use Rattle.sample_drivers.specs.Stores.{Answers}
use Rattle.port_driver.proofs.Driven.{is_plain, went, Did-went}

-- a store whose queue went on by the callback, and that recorded these effects
pub Did-store : (callback : Callback) (old new : Context) (added answer : List Effect) → new ≡ went old (queue_after callback old.queue) added
    → added ++ answer ≡ store_effects old.queue callback → is_plain (added ++ answer) ≡ true → Did Store callback Nothing Nothing None None old new answer
Did-store callback old new added answer changed effects plain =
    Did-went Store callback Nothing Nothing None None old new (queue_after callback old.queue) added answer changed plain
    (λ config earlier before.
    let queued = ap (λ h. h.queue) before.holds in
    record {
      holds = ap (λ queue. held_of Nothing (queue_after callback queue)) queued;
      effects = effects ∙ ap (λ queue. store_effects queue callback) queued;
      answered = refl;
      told = tt;
    })

-- a store that only answered, or did nothing
pub store_kept : (callback : Callback) (context : Context) (answer : List Effect) → queue_after callback context.queue ≡ context.queue
    → answer ≡ store_effects context.queue callback → is_plain answer ≡ true → Did Store callback Nothing Nothing None None context context answer
store_kept callback context answer queue effects plain =
    Did-store callback context context [] answer
    (ap (λ effects. record context { effects = effects }) (sym (append-nil context.effects)) ∙ ap (λ queue. went context queue []) (sym queue)) effects plain

-- a store that queued the data
pub store_queued : (data' : List ℕ) (old new : Context) → new ≡ record old { queue = old.queue ++ drop 0 data' } → Did Store (Outputv data') Nothing Nothing None None old new []
store_queued data' old new queued =
    Did-store (Outputv data') old new [] []
    (queued ∙ ap (λ effects. record old { queue = old.queue ++ data'; effects = effects }) (sym (append-nil old.effects))) refl refl

plain-answer : (answer : ReplyTo) → is_plain (reply_effect answer ∷ []) ≡ true
plain-answer (Bytes bytes) = refl
plain-answer Badarg = refl

-- a store that made an operation
pub store_controlled : (op : ℕ) (bytes : List ℕ) (old new : Context) (answer : ReplyTo) → Answers op bytes old new answer
    → Did Store (Control op bytes) Nothing Nothing None None old new (reply_effect answer ∷ [])
store_controlled op bytes old new answer answers =
    Did-store (Control op bytes) old new [] (reply_effect answer ∷ [])
    (answers.context ∙ ap (λ effects. record old { queue = queue_controlled op bytes old.queue; effects = effects }) (sym (append-nil old.effects)))
    (ap (λ effect. effect ∷ []) answers.replied) (plain-answer answer)

-- a store that sent its queue and emptied it
pub store_flushed : (all : List ℕ) (old joined sent new : Context) → joined ≡ old → all ≡ old.queue → sent ≡ did joined (Message Plain all)
    → new ≡ record sent { queue = [] } → Did Store Flush Nothing Nothing None None old new []
store_flushed all old joined sent new same whole told emptied =
    Did-store Flush old new (Message Plain all ∷ []) []
    (emptied ∙ ap (λ (c : Context). record c { queue = [] }) (told ∙ ap (λ (c : Context). did c (Message Plain all)) same)) (ap (λ b. Message Plain b ∷ []) whole) refl

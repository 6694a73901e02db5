-- The callbacks for which nothing is asked of the program.
use Rattle.std.proofs.Common.{◌≡◌, ℕ, List, [], ◌∷◌, ◌++◌, length, Bool, true, Option, None, Some, IfSome, refl, sym, ◌∙◌, ap, arith}
use Rattle.std.specs.Option.{option_map}
use Rattle.std.proofs.lemmas.List.{append-nil}
use Rattle.port_config.specs.declared.config.Config.{Config}
use Rattle.port_model.specs.declared.effect.Effect.{Effect}
use Rattle.port_driver.specs.declared.reply.ReplyTo.TheVariants.{Badarg}
use Rattle.driver_model.specs.Calls.{Callback, Stop, DriverCall, call_of, Program, Nothing, Running, Spawn}
use Rattle.driver_model.specs.Spawn.{framed, asked, given, program_failed, spawn_queue, held_busy, holds_busy, read_after, write_after, read_event, write_event, program, spawn_effects, spawn_answered}
use Rattle.driver_model.specs.Drivers.{holds}
use Rattle.driver_model.specs.Programs.{ToldProgram, Tells}
use Rattle.outside.specs.Children.{ChildView, Shows}
use Rattle.port_driver.specs.Context.{Context}
use Rattle.port_driver.specs.Replies.{reply_effect}
use Rattle.port_driver.specs.Driven.{held_of, Did, Ended, Stands}
use Rattle.port_driver.proofs.Driven.{Goes, Did-nothing, Did-answered, Follows-from_Goes}
use Rattle.spawn_driver.specs.Serving.{Serving, own_of, program_of, status_of, told, told_of}
use Rattle.spawn_driver.proofs.Lists.{left-quiet, front-quiet}
use Rattle.spawn_driver.proofs.Histories.{kept-is, goes, given-within, unread-program, tells-same, tells-call, statuses-stay}

-- such a callback
pub record IsQuiet (callback : Callback) (recorded : List Effect) : Type 0 where
  pub framed : (config : Config) → framed config callback ≡ []
  pub busy : (config : Config) (busy : Bool) (size : ℕ) → held_busy config busy size callback [] ≡ busy
  pub read : (event : ℕ) → read_after callback event ≡ event
  pub write : (event : ℕ) → write_after callback event ≡ event
  pub effects : (config : Config) (earlier : List DriverCall) (caller : ℕ) → recorded ≡ spawn_effects config earlier (call_of callback caller [] recorded)
  pub answered : (config : Config) (earlier : List DriverCall) → spawn_answered config earlier [] callback ≡ true

quiet-asked : (config : Config) (earlier : List DriverCall) (callback : Callback) (caller : ℕ) (recorded : List Effect) → framed config callback ≡ []
    → asked config (call_of callback caller [] recorded ∷ earlier) ≡ asked config earlier ++ []
quiet-asked config earlier callback caller recorded none = ap (λ f. asked config earlier ++ f) none

quiet-queue : (config : Config) (earlier : List DriverCall) (callback : Callback) (caller : ℕ) (recorded : List Effect) → framed config callback ≡ []
    → spawn_queue config earlier ≡ spawn_queue config (call_of callback caller [] recorded ∷ earlier)
quiet-queue config earlier callback caller recorded none =
    rw none (sym (left-quiet (program_failed earlier) (given config earlier) (asked config earlier) (given-within config earlier)))

-- the calls go on over one
quiet-goes : (config : Config) (earlier : List DriverCall) (callback : Callback) (caller : ℕ) (recorded : List Effect) (kept : Program) (queue : List ℕ) (tells : Option ToldProgram)
    → IsQuiet callback recorded → held_of (Running kept) queue ≡ holds Spawn config earlier → IfSome tells (Tells config (call_of callback caller [] recorded ∷ earlier))
    → Goes Spawn config earlier (call_of callback caller [] recorded) (Running kept) tells queue recorded
quiet-goes config earlier callback caller recorded kept queue tells quiet before told' =
    let e = kept-is config earlier kept queue before in
    let call : DriverCall = call_of callback caller [] recorded in
    let same : program config earlier ≡ program config (call ∷ earlier) =
    unread-program config earlier call (holds_busy config earlier) (program_failed earlier) refl refl (quiet.read (read_event earlier)) (quiet.write (write_event earlier))
    (sym (quiet.busy config (holds_busy config earlier) (length (spawn_queue config (call ∷ earlier))))) refl in
    goes config earlier call kept queue tells recorded (e.0 ∙ same) (e.1 ∙ quiet-queue config earlier callback caller recorded (quiet.framed config))
    (quiet.effects config earlier caller) (quiet.answered config earlier) told'

pub quiet-tells : (config : Config) (earlier : List DriverCall) (callback : Callback) (caller : ℕ) (recorded : List Effect) (child : ChildView)
    → Tells config earlier (told_of child child.stand) → Tells config (call_of callback caller [] recorded ∷ earlier) (told_of child child.stand)
quiet-tells config earlier callback caller recorded child before =
    tells-call config earlier (call_of callback caller [] recorded) (told_of child child.stand) (told_of child child.stand) refl
    (before.given ∙ sym (front-quiet (given config earlier) (asked config earlier) (framed config callback) (given-within config earlier))) (sym (append-nil _)) refl
    (statuses-stay (option_map status_of child.stand)) before

-- a callback that changed nothing
pub Did-quiet : (callback : Callback) (s : Serving) (context : Context) → IsQuiet callback []
    → Did Spawn callback (Running s.kept) (Running s.kept) (told s.child) (told s.child) context context []
Did-quiet callback s context quiet =
    Did-nothing Spawn callback (Running s.kept) (told s.child) context
    (λ config earlier before.
    quiet-goes config earlier callback context.caller [] s.kept context.queue (told s.child) quiet before.holds
    (quiet-tells config earlier callback context.caller [] s.child before.told))

-- and one that answered
pub Did-badarg : (callback : Callback) (s : Serving) (context : Context) → IsQuiet callback (reply_effect Badarg ∷ [])
    → Did Spawn callback (Running s.kept) (Running s.kept) (told s.child) (told s.child) context context (reply_effect Badarg ∷ [])
Did-badarg callback s context quiet =
    Did-answered Spawn callback (Running s.kept) (told s.child) context Badarg
    (λ config earlier before.
    quiet-goes config earlier callback context.caller (reply_effect Badarg ∷ []) s.kept context.queue (told s.child) quiet before.holds
    (quiet-tells config earlier callback context.caller (reply_effect Badarg ∷ []) s.child before.told))

-- no calls led to a driver that keeps nothing
none-stands : {P : Type 0} (config : Config) (earlier : List DriverCall) (context : Context) → Stands Spawn config earlier Nothing None context → P
none-stands config earlier context stands =
    let e : Nothing ≡ Running (program config earlier) = ap (λ h. h.own) stands.holds in absurd (cc)

-- the same of a driver with or without a program
pub Did-quiet-of : (callback : Callback) (p : Option Serving) (context : Context) → IsQuiet callback []
    → Did Spawn callback (own_of p) (own_of p) (program_of p) (program_of p) context context []
Did-quiet-of callback (Some s) context quiet = Did-quiet callback s context quiet
Did-quiet-of callback None context quiet = Did-nothing Spawn callback Nothing None context (λ config earlier stands. none-stands config earlier context stands)

pub Did-badarg-of : (callback : Callback) (p : Option Serving) (context : Context) → IsQuiet callback (reply_effect Badarg ∷ [])
    → Did Spawn callback (own_of p) (own_of p) (program_of p) (program_of p) context context (reply_effect Badarg ∷ [])
Did-badarg-of callback (Some s) context quiet = Did-badarg callback s context quiet
Did-badarg-of callback None context quiet = Did-answered Spawn callback Nothing None context Badarg (λ config earlier stands. none-stands config earlier context stands)

-- what `stop` left
pub Ended-stop : (kept : Program) (old new : ChildView) → Shows (record old { stopped = true }) new → Ended Spawn (Running kept) (Running kept) (told old) (told new)
Ended-stop kept old new shows = record {
  follows = λ config earlier context stands.
      Follows-from_Goes Spawn config earlier (call_of Stop context.caller [] []) (Running kept) (Running kept) (told old) (told new) context context [] refl
      (let n = context.next_job in omega arith) refl stands
      (quiet-goes config earlier Stop context.caller [] kept context.queue (told new)
      (record { framed = λ config'. refl; busy = λ config' busy size. refl; read = λ event. refl; write = λ event. refl; effects = λ config' earlier' caller. refl; answered = λ config' earlier'. refl })
      stands.holds (stop-tells config earlier context.caller stands.told));
}
  where
    stop-tells : (config : Config) (earlier : List DriverCall) (caller : ℕ) → Tells config earlier (told_of old old.stand)
        → Tells config (call_of Stop caller [] [] ∷ earlier) (told_of new new.stand)
    stop-tells config earlier caller before =
        tells-same config earlier (call_of Stop caller [] []) old new (ap (λ c. c.command) shows.shown)
        (ap (λ c. c.given) shows.shown ∙ (before.given ∙ sym (front-quiet (given config earlier) (asked config earlier) [] (given-within config earlier))))
        (ap (λ c. c.fetched) shows.shown ∙ sym (append-nil old.fetched)) (ap (λ c. c.at_end) shows.shown) shows.stand refl refl before

-- What a tally counts, call by call.
use Rattle.std.proofs.Common.{◌≡◌, ℕ, ◌+◌, ◌==◌, ◌%◌, length, Bool, true, false, List, [], ◌∷◌, ◌++◌, cond, refl, ap, ◌∙◌, arith, codes}
use Rattle.std.specs.Prelude.{None}
use Rattle.std.specs.Int.{w64, to_be_bytes}
use Rattle.std.specs.Str.{chars}
use Rattle.std.proofs.lemmas.List.Sums.{sum_by-cons}
use Rattle.std.proofs.lemmas.Str.{chars-IsAscii}
use Rattle.io_vector.specs.declared.flag.Flag.TheVariants.{Plain}
use Rattle.port_config.specs.declared.config.Config.{Config}
use Rattle.port_model.specs.declared.effect.Effect.{Effect}
use Rattle.port_model.specs.declared.effect.Effect.TheVariants.{Message, Watch, Reply, ReplyBadarg}
use Rattle.port_signal.proofs.Names.{IsAscii-fault_from}
use Rattle.driver_model.specs.Calls.{Callback, Start, Outputv, Control, Call, ReadyInput, ReadyOutput, ReadyAsync, ProcessExit, Flush, Stop, DriverCall, call_of, Counted, Tally}
use Rattle.driver_model.specs.Tally.{commands, command_bytes, command_count, command_length, tally_term, tally_effects}
use Rattle.driver_model.specs.Drivers.{holds}
use Rattle.port_driver.specs.Context.{Context, did}
use Rattle.port_driver.specs.Driven.{held_of, Did}
use Rattle.port_driver.proofs.Driven.{is_plain, went, Did-went}
use Rattle.sample_drivers.proofs.Nothing.{unchanged}

-- what a tally holds tells both numbers
pub counts : (c b : ℕ) (queue : List ℕ) (config : Config) (earlier : List DriverCall) → held_of (Counted c b) queue ≡ holds Tally config earlier
    → (c ≡ commands earlier) × (b ≡ command_bytes earlier)
counts c b queue config earlier e = let own = ap (λ h. h.own) e in (cc, cc)

-- both numbers after one call more
pub counts-more : (c b : ℕ) (queue : List ℕ) (config : Config) (earlier : List DriverCall) (call : DriverCall) → held_of (Counted c b) queue ≡ holds Tally config earlier
    → held_of (Counted (command_count call.callback + c) (command_length call.callback + b)) queue ≡ holds Tally config (call ∷ earlier)
counts-more c b queue config earlier call e =
    let n = counts c b queue config earlier e in
    rw (sum_by-cons (λ k. command_count k.callback) call earlier, sum_by-cons (λ k. command_length k.callback) call earlier, n.0, n.1)
    (ap (λ q. held_of (Counted (command_count call.callback + commands earlier) (command_length call.callback + command_bytes earlier)) q) (ap (λ h. h.queue) e))

-- a reply, whatever the test, and what else there is
plain-answers : (test : Bool) (bytes : List ℕ) (others : List Effect) → is_plain others ≡ true → is_plain (cond test (Reply bytes ∷ []) others) ≡ true
plain-answers true bytes others plain = refl
plain-answers false bytes others plain = plain

plain-watch : (test : Bool) (caller : ℕ) → is_plain (cond test (Watch caller ∷ Reply [] ∷ []) (ReplyBadarg ∷ [])) ≡ true
plain-watch true caller = refl
plain-watch false caller = refl

plain-tally : (caller c b : ℕ) (callback : Callback) → is_plain (tally_effects caller c b callback) ≡ true
plain-tally caller c b (Start read write) = refl
plain-tally caller c b (Outputv bytes) = refl
plain-tally caller c b (Control op bytes) = plain-answers (op == 1) (to_be_bytes w64 c ++ to_be_bytes w64 b) _ (plain-watch (op == 2) caller)
plain-tally caller c b (Call op bytes) = plain-answers (op == 1) (tally_term c b) (ReplyBadarg ∷ []) refl
plain-tally caller c b (ReadyInput event) = refl
plain-tally caller c b (ReadyOutput event) = refl
plain-tally caller c b (ReadyAsync number output) = refl
plain-tally caller c b (ProcessExit process) = refl
plain-tally caller c b Flush = refl
plain-tally caller c b Stop = refl

-- a tally that counted the callback and recorded these effects
pub Did-tally : (callback : Callback) (c b c' b' : ℕ) (old new : Context) (added answer : List Effect) → new ≡ went old old.queue added
    → c' ≡ command_count callback + c → b' ≡ command_length callback + b → added ++ answer ≡ tally_effects old.caller c b callback
    → Did Tally callback (Counted c b) (Counted c' b') None None old new answer
Did-tally callback c b c' b' old new added answer changed more_commands more_bytes effects =
    Did-went Tally callback (Counted c b) (Counted c' b') None None old new old.queue added answer changed (ap is_plain effects ∙ plain-tally old.caller c b callback)
    (λ config earlier before.
    let n = counts c b old.queue config earlier before.holds in
    record {
      holds = rw (more_commands, more_bytes) (counts-more c b old.queue config earlier (call_of callback old.caller [] (added ++ answer)) before.holds);
      effects = effects ∙ (ap (λ m. tally_effects old.caller m b callback) n.0 ∙ ap (λ m. tally_effects old.caller (commands earlier) m callback) n.1);
      answered = refl;
      told = tt;
    })

-- a tally that only answered, or did nothing
pub tally_kept : (callback : Callback) (c b : ℕ) (context : Context) (answer : List Effect) → command_count callback ≡ 0 → command_length callback ≡ 0
    → answer ≡ tally_effects context.caller c b callback → Did Tally callback (Counted c b) (Counted c b) None None context context answer
tally_kept callback c b context answer none empty effects =
    Did-tally callback c b c b context context [] answer (unchanged context) (omega (arith, none)) (omega (arith, empty)) effects

-- a tally that counted a command
pub tally_counted : (data' : List ℕ) (c b c' b' : ℕ) (context : Context) → c' ≡ c + 1 → b' ≡ b + length data'
    → Did Tally (Outputv data') (Counted c b) (Counted c' b') None None context context []
tally_counted data' c b c' b' context more_commands more_bytes =
    Did-tally (Outputv data') c b c' b' context context [] [] (unchanged context) (omega (arith, more_commands)) (omega (arith, more_bytes)) refl

-- a tally that watches its caller
pub tally_watches : (op : ℕ) (bytes : List ℕ) (c b : ℕ) (old new : Context) (answer : Effect) → op ≡ 2 → new ≡ did old (Watch old.caller) → answer ≡ Reply []
    → Did Tally (Control op bytes) (Counted c b) (Counted c b) None None old new (answer ∷ [])
tally_watches op bytes c b old new answer two watches replied =
    Did-tally (Control op bytes) c b c b old new (Watch old.caller ∷ []) (answer ∷ []) watches (omega arith) (omega arith)
    (rw (two, replied) refl)

-- a tally that told the end of a process
pub tally_told : (process c b : ℕ) (bytes : List ℕ) (old new : Context) → new ≡ did old (Message Plain bytes) → bytes ≡ process % 256 ∷ []
    → Did Tally (ProcessExit process) (Counted c b) (Counted c b) None None old new []
tally_told process c b bytes old new sent byte =
    Did-tally (ProcessExit process) c b c b old new (Message Plain bytes ∷ []) [] sent (omega arith) (omega arith) (ap (λ bs. Message Plain bs ∷ []) byte)

-- the name of a tally is ASCII
pub name-chars : chars (codes "tally") ≡ codes "tally"
name-chars = chars-IsAscii (codes "tally") (IsAscii-fault_from 0 (codes "tally") refl)

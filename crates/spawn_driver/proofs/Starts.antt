-- What `start` did.
use Rattle.std.proofs.Common.{◌≡◌, ◌+◌, ◌<◌, ◌-◌, ◌^◌, ℕ, min, List, [], ◌∷◌, Bool, true, false, Option, None, Some, IfSome, refl, sym, inl, inr, arith, ◌⊎◌}
use Rattle.std.proofs.lemmas.Bool.{cases_lt}
use Rattle.std.specs.Prelude.{ℤ, All, if◌then◌else◌}
use Rattle.std.specs.Option.{option_map}
use Rattle.std.proofs.lemmas.List.Elements.{All-nil}
use Rattle.packet_framing.specs.declared.mode.Mode.{Mode}
use Rattle.packet_framing.specs.Messages.{rest_of}
use Rattle.port_config.specs.declared.config.Config.{Config}
use Rattle.port_model.specs.declared.event.Dir.TheVariants.{Read}
use Rattle.port_model.specs.declared.effect.Effect.{Effect}
use Rattle.port_model.specs.declared.effect.Effect.TheVariants.{Select}
use Rattle.outside.specs.Children.{ChildView, Starts}
use Rattle.outside.specs.Causes as outside
use Rattle.driver_model.specs.Calls.{Start, DriverCall, call_of, Program, Running, Spawn}
use Rattle.driver_model.specs.Spawn.{program, is_refused}
use Rattle.driver_model.specs.Programs.{Tells, TellsOfProgram}
use Rattle.port_driver.specs.Context.{Context}
use Rattle.port_driver.specs.Driven.{Began}
use Rattle.spawn_driver.specs.Recorded.{with_effects}
use Rattle.spawn_driver.specs.Serving.{Serving, own_of, program_of, status_of, told, told_of}
use Rattle.spawn_driver.proofs.Rests.{rest_of-nil}
use Rattle.spawn_driver.proofs.Oversize.{oversize-nil}
use Rattle.spawn_driver.proofs.Histories.{same-program, holds-is}

-- the call of `start` with these events
abbrev start_call : ℕ → ℕ → ℕ → List Effect → DriverCall
start_call read write caller effects = call_of (Start read write) caller [] effects

-- a fresh program
abbrev pub fresh_program : Config → ℕ → ℕ → Program
fresh_program config read write = record { config = config; read = read; write = write; rest = []; refused = false; taken = 0; busy = false; failed = false }

start-refused : (config : Config) (read write caller : ℕ) (effects : List Effect) → false ≡ is_refused config (start_call read write caller effects ∷ [])
start-refused config read write caller effects = sym (oversize-nil config.mode)

start-rest : (mode : Mode) (refused : Bool) → [] ≡ (if refused then [] else rest_of mode [])
start-rest mode true = refl
start-rest mode false = sym (rest_of-nil mode)

start-told : (config : Config) (read write caller : ℕ) (effects : List Effect) (child : ChildView) → Starts config.run child
    → Tells config (start_call read write caller effects ∷ []) (told_of child child.stand)
start-told config read write caller effects child starts =
    record { command = starts.command; given = starts.given; taken = starts.fetched; at_end = starts.at_end; ended = λ e. absurd (cc); status = none (option_map status_of child.stand) }
  where
    none : (o : Option (Option ℤ)) → IfSome o (λ (own : Option ℤ). All (λ (status : ℤ). own ≡ Some status) [])
    none None = tt
    none (Some own) = All-nil _

-- a driver tells of the program that it has
pub tells-of-program : (program : Option Serving) → TellsOfProgram (own_of program) (program_of program)
tells-of-program None = tt
tells-of-program (Some s) = refl

pub Began-start : (config : Config) (child : ChildView) (kept : Program) (before after : Context) (read write : ℕ) → kept ≡ fresh_program config read write → before.queue ≡ []
    → before.held ≡ [] → before.next_job ≡ 0 → Starts config.run child → after ≡ with_effects before (Select read Read true ∷ [])
    → Began Spawn config (Running kept) (told child) before after
Began-start config child kept before after read write fresh empty none no_job starts context = rw (fresh, context) (record {
  added = Select read Read true ∷ [];
  outside = refl;
  effects = refl;
  follows = record {
    stands = record {
      holds = holds-is config (start_call read write before.caller (Select read Read true ∷ []) ∷ []) (fresh_program config read write) before.queue
          (same-program (fresh_program config read write) (program config (start_call read write before.caller (Select read Read true ∷ []) ∷ [])) refl refl refl
          (start-rest config.mode (is_refused config (start_call read write before.caller (Select read Read true ∷ []) ∷ [])))
          (start-refused config read write before.caller (Select read Read true ∷ [])) refl refl refl) empty;
      jobs = no_job;
      events = rw none (record { each = λ event. refl; count = refl });
      told = start-told config read write before.caller (Select read Read true ∷ []) child starts;
    };
    effects = refl;
    answered = refl;
  };
})

-- a rise of the spawner's count is one of all faults
pub Rose-starts : (a b most : ℕ) → most ≡ 2 ^ 64 - 1 → outside.Rose a b → (min (a + 0) most < min (b + 0) most) ⊎ (min (b + 0) most ≡ most)
Rose-starts a b most is rose =
    elim (cases_lt b most) [
      | inl below ↦ inl (omega arith)
      | inr above ↦ inr (omega arith)
    ]

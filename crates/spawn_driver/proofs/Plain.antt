-- Effects that submit no job and give no event up, and what a callback with such effects did.
use Rattle.std.proofs.Common.{◌≡◌, ℕ, List, [], ◌∷◌, ◌++◌, Bool, true, false, Option, refl, sym, ◌∙◌, ap, subst, arith}
use Rattle.std.specs.Prelude.{if◌then◌else◌, map}
use Rattle.std.proofs.lemmas.List.{append-nil}
use Rattle.packet_framing.specs.declared.message.Message.{Message as Unframed}
use Rattle.port_config.specs.declared.config.Config.{Config}
use Rattle.port_signal.specs.declared.outside.Outside.{Outside}
use Rattle.port_model.specs.declared.event.Dir.{Dir}
use Rattle.port_model.specs.declared.effect.Effect.{Effect}
use Rattle.port_model.specs.declared.effect.Effect.TheVariants.{Eof, Busy, Select, Fail}
use Rattle.driver_model.specs.Calls.{Callback, DriverCall, call_of, Own, Spawn}
use Rattle.driver_model.specs.Spawn.{sent}
use Rattle.driver_model.specs.Drivers.{jobs_by, held_by}
use Rattle.driver_model.specs.Programs.{ToldProgram}
use Rattle.port_driver.specs.Context.{Context}
use Rattle.port_driver.specs.Driven.{Did, Stands}
use Rattle.port_driver.proofs.Driven.{Goes, Did-recorded}
use Rattle.port_driver.proofs.Events.{gives_up_none}
use Rattle.spawn_driver.specs.Recorded.{with_effects}

pub record IsPlain (effects : List Effect) : Type 0 where
  pub jobs : jobs_by effects ≡ 0
  pub none : gives_up_none effects ≡ true

pub plain-nil : IsPlain []
plain-nil = record { jobs = refl; none = refl }

pub plain-fail : (reason : List ℕ) → IsPlain (Fail reason ∷ [])
plain-fail reason = record { jobs = refl; none = refl }

pub plain-if-select : (b : Bool) (event : ℕ) (dir : Dir) (on : Bool) (more : List Effect) → IsPlain more → IsPlain ((if b then Select event dir on ∷ [] else []) ++ more)
plain-if-select true event dir on more plain = record { jobs = plain.jobs; none = plain.none }
plain-if-select false event dir on more plain = plain

pub plain-if-busy : (b busy : Bool) (more : List Effect) → IsPlain more → IsPlain ((if b then Busy busy ∷ [] else []) ++ more)
plain-if-busy true busy more plain = record { jobs = plain.jobs; none = plain.none }
plain-if-busy false busy more plain = plain

pub plain-if-eof : (b : Bool) (more : List Effect) → IsPlain more → IsPlain ((if b then Eof ∷ [] else []) ++ more)
plain-if-eof true more plain = record { jobs = plain.jobs; none = plain.none }
plain-if-eof false more plain = plain

pub plain-messages : (ms : List Unframed) (more : List Effect) → IsPlain more → IsPlain (map sent ms ++ more)
plain-messages [] more plain = plain
plain-messages (m ∷ ms) more plain = let p = plain-messages ms more plain in record { jobs = p.jobs; none = p.none }

-- a callback with such effects and these answers
pub Did-plain : (callback : Callback) (old_own new_own : Own) (old_program new_program : Option ToldProgram) (before after : Context) (queue : List ℕ)
    (outside answers : List Outside) (added : List Effect) → after ≡ record (with_effects before added) { queue = queue; outside = outside }
    → outside ≡ before.outside ++ answers → IsPlain added
    → ((config : Config) (earlier : List DriverCall) → Stands Spawn config earlier old_own old_program before
    → Goes Spawn config earlier (call_of callback before.caller answers added) new_own new_program queue added)
    → Did Spawn callback old_own new_own old_program new_program before after []
Did-plain callback old_own new_own old_program new_program before after queue outside answers added changed told plain goes =
    let same : added ++ [] ≡ added = append-nil added in
    subst (λ now. Did Spawn callback old_own new_own old_program new_program before now []) (sym changed)
    (Did-recorded Spawn callback old_own new_own old_program new_program before (record (with_effects before added) { queue = queue; outside = outside }) answers added []
    told refl (ap gives_up_none same ∙ plain.none) (let j = ap jobs_by same ∙ plain.jobs in omega (arith, j)) (ap (λ effects. held_by effects before.held) (sym same))
    (λ config earlier stands.
    subst (λ effects. Goes Spawn config earlier (call_of callback before.caller answers effects) new_own new_program queue effects) (sym same) (goes config earlier stands)))

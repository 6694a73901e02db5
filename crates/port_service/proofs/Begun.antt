-- A driver that just began to serve a port.
use Rattle.std.proofs.Common.{◌≡◌, ◌≤◌, ℕ, List, [], ◌∷◌, ◌++◌, length, Option, refl, sym, ap, ◌∙◌, subst}
use Rattle.port_driver.specs.port_config.declared.config.Config.{Config}
use Rattle.port_model.specs.declared.effect.Effect.{Effect}
use Rattle.port_driver.specs.driver_model.Calls as driver
use Rattle.port_driver.specs.driver_model.Calls.{call_of, cut_of, Own, Kind, Echo, Tally, Valve, Store, Digest, Spawn, Refuse1, Refuse2, Refuse3}
use Rattle.port_driver.specs.driver_model.Drivers.{effects_of, read_event_of, write_event_of, start_of}
use Rattle.port_driver.specs.driver_model.Programs.{ToldProgram}
use Rattle.port_driver.specs.Context.{Context}
use Rattle.port_driver.specs.Driven.{Began, Stands}
use Rattle.port_history.specs.Opening.{Opening}
use Rattle.port_history.specs.Ties.{watched_by}
use Rattle.port_history.specs.State.{start_call}
use Rattle.port_service.specs.Service.{ServiceView}
use Rattle.port_service.specs.Serves.{Watches, standing}
use Rattle.port_service.specs.Opened.{IsOpening, Starts}
use Rattle.port_service.proofs.Recut.{SameCut, recut-effects, recut-stands}
use Rattle.port_service.proofs.Calls.{Stands-in}

-- the start of a program sends nothing
start-cut : (kind : Kind) (config : Config) (own : Own) (caller : ℕ) (effects : List Effect)
    → effects ≡ effects_of kind config (call_of (start_of own) caller [] effects ∷ []) → SameCut kind effects []
start-cut Echo config own caller effects e = tt
start-cut Tally config own caller effects e = tt
start-cut (Valve soft) config own caller effects e = tt
start-cut Store config own caller effects e = tt
start-cut Digest config own caller effects e = tt
start-cut Spawn config own caller effects e = ap cut_of e
start-cut Refuse1 config own caller effects e = tt
start-cut Refuse2 config own caller effects e = tt
start-cut Refuse3 config own caller effects e = tt

-- what `start` did begins a history
starts-at : (port : Opening) (own : Own) (program : Option ToldProgram) (context : Context) (fresh : Context) → fresh.effects ≡ [] → fresh.caller ≡ port.owner
    → port.read ≡ read_event_of own → port.write ≡ write_event_of own → Began port.kind port.config own program fresh context
    → (context.effects ≡ effects_of port.kind port.config (start_call port ∷ [])) × Stands port.kind port.config (start_call port ∷ []) own program context
starts-at port own program context fresh none owner reads writes began =
    let f = began.follows in
    let added : context.effects ≡ began.added = began.effects ∙ ap (λ (es : List Effect). es ++ began.added) none in
    let cut = start-cut port.kind port.config own fresh.caller began.added f.effects in
    let effects = f.effects ∙ recut-effects port.kind port.config [] (start_of own) fresh.caller [] began.added [] cut in
    let stands = recut-stands port.kind port.config [] (start_of own) fresh.caller [] began.added [] own program context cut f.stands in
    let call : call_of (start_of own) fresh.caller [] [] ≡ start_call port =
    ap (λ c. call_of (start_of own) c [] []) owner
    ∙ (ap (λ r. call_of (driver.Start r (write_event_of own)) port.owner [] []) (sym reads) ∙ ap (λ w. call_of (driver.Start port.read w) port.owner [] []) (sym writes)) in
    (added ∙ (effects ∙ ap (λ c. effects_of port.kind port.config (c ∷ [])) call), subst (λ c. Stands port.kind port.config (c ∷ []) own program context) call stands)

pub Starts-by : (kind : Kind) (config : Config) (owner : ℕ) (own : Own) (program : Option ToldProgram) (context fresh : Context) (port : Opening) (service : ServiceView) (effects : List Effect)
    → fresh.effects ≡ [] → fresh.caller ≡ owner → Began kind config own program fresh context → IsOpening kind config owner own port
    → service.own ≡ own → service.program ≡ program → service.queue ≡ context.queue → service.next_job ≡ context.next_job → effects ≡ context.effects → length context.held ≤ 64
    → Watches service.watched (watched_by effects []) → Starts port service effects
Starts-by kind config owner own program context fresh port service effects none caller began opening o p q n e few watches =
    let began' : Began port.kind port.config own program fresh context =
    subst (λ x. Began port.kind x own program fresh context) (sym opening.config_is) (subst (λ x. Began x config own program fresh context) (sym opening.kind_is) began) in
    let s = starts-at port own program context fresh none (caller ∙ sym opening.owner_is) opening.read_is opening.write_is began' in
    record {
      effects_are = e ∙ s.0;
      held = context.held;
      few = few;
      stands = rw (o, p) (Stands-in port.kind port.config _ own program context (standing service.next_job context.held service.queue) q refl n s.1);
      watches = subst (λ es. Watches service.watched (watched_by es [])) (e ∙ s.0) watches;
    }

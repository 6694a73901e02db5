-- A script with one more port.
use Rattle.std.proofs.Common.{◌≡◌, ℕ, ◌<◌, ◌≤◌, [], ◌∷◌, ◌++◌, length, true, arith}
use Rattle.std.proofs.lemmas.List.Elements.{All-push, All-weaker}
use Rattle.std.proofs.lemmas.List.{length_push}
use Rattle.port_config.specs.Config.{is_config}
use Rattle.script_plan.specs.declared.decl.PortDecl.{PortDecl}
use Rattle.script_plan.specs.declared.step.Act.{Act}
use Rattle.script_plan.specs.declared.step.Act.TheVariants.{Command, File, Send, Control, Call, Close, Connect, SendClose, SendConnect, Link, Unlink, Monitor, Demonitor, Exit, Expect, Bytes, Die}
use Rattle.script_plan.specs.Plan.{Plan, IsPlan, IsWithin, SaveWithin}

IsWithin-more : (a : Act) (processes ports more : ℕ) → ports ≤ more → IsWithin processes ports a → IsWithin processes more a
IsWithin-more (Command port bytes force nosuspend) processes ports more le h = omega arith
IsWithin-more (File port size file force nosuspend) processes ports more le h = (omega (arith, h.0), h.1, h.2)
IsWithin-more (Send port bytes) processes ports more le h = omega arith
IsWithin-more (Control port op bytes) processes ports more le h = omega arith
IsWithin-more (Call port op bytes) processes ports more le h = omega arith
IsWithin-more (Close port) processes ports more le h = omega arith
IsWithin-more (Connect port to) processes ports more le h = (omega (arith, h.0), h.1)
IsWithin-more (SendClose port) processes ports more le h = omega arith
IsWithin-more (SendConnect port to) processes ports more le h = (omega (arith, h.0), h.1)
IsWithin-more (Link port) processes ports more le h = omega arith
IsWithin-more (Unlink port) processes ports more le h = omega arith
IsWithin-more (Monitor port number) processes ports more le h = omega arith
IsWithin-more (Demonitor port number) processes ports more le h = omega arith
IsWithin-more (Exit port reason) processes ports more le h = omega arith
IsWithin-more (Expect port count) processes ports more le h = omega arith
IsWithin-more (Bytes port count) processes ports more le h = omega arith
IsWithin-more (Die reason) processes ports more le h = tt

pub IsPlan-port : (plan : Plan) (port : PortDecl) → IsPlan plan → length plan.ports < 32 → port.owner < length plan.processes → is_config port.config ≡ true → IsPlan (record plan { ports = plan.ports ++ port ∷ [] })
IsPlan-port plan port is few owner config =
    let more : length plan.ports ≤ length (plan.ports ++ port ∷ []) = omega (arith, length_push plan.ports port) in
    record {
      few_processes = is.few_processes;
      few_ports = omega (arith, length_push plan.ports port);
      few_steps = is.few_steps;
      owners = All-push (λ p. p.owner < length plan.processes) plan.ports port is.owners owner;
      configs = All-push (λ p. is_config p.config ≡ true) plan.ports port is.configs config;
      saved = All-weaker (SaveWithin (length plan.processes) (length plan.ports)) (SaveWithin (length plan.processes) (length (plan.ports ++ port ∷ []))) (λ s h. (h.0, omega (arith, h.1))) plan.saves is.saved;
      senders = is.senders;
      named = All-weaker (λ s. IsWithin (length plan.processes) (length plan.ports) s.act) (λ s. IsWithin (length plan.processes) (length (plan.ports ++ port ∷ [])) s.act)
          (λ s h. IsWithin-more s.act (length plan.processes) (length plan.ports) (length (plan.ports ++ port ∷ [])) more h) plan.steps is.named;
      numbered = is.numbered;
    }

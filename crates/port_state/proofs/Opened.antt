-- The state of a port that was just opened.
use Rattle.std.proofs.Common.{◌≡◌, ℕ, List, ◌∷◌, [], false, None, sym, ap, ◌∙◌}
use Rattle.port_service.specs.port_driver.port_config.declared.config.Config.{Config}
use Rattle.port_model.specs.declared.effect.Effect.{Effect}
use Rattle.port_service.specs.port_driver.driver_model.Calls.{Kind}
use Rattle.port_service.specs.port_driver.driver_model.Drivers.{effects_of}
use Rattle.port_mail.specs.port_links.Table.{LinkTable}
use Rattle.port_mail.specs.port_links.port_history.Opening.{Opening}
use Rattle.port_mail.specs.port_links.port_history.Ties.{opened}
use Rattle.port_mail.specs.port_links.port_history.State.{start_call, state_at_start}
use Rattle.port_service.specs.Opened.{Opened}
use Rattle.port_state.specs.View.{StateView, IsStateOf, IsOpeningOf, due_marks}
use Rattle.port_state.proofs.Rows.{stands-held}

pub opened-state : (number : ℕ) (kind : Kind) (config : Config) (owner processes faults : ℕ) (c : StateView) (effects : List Effect) (port : Opening)
    → Opened kind config owner processes faults c.service effects
    → c.number ≡ number → c.links ≡ record { ties = opened owner; processes = processes } → c.reason ≡ None → c.closer ≡ None → c.stopped ≡ false
    → c.busy ≡ false → c.change ≡ None → c.closes ≡ false → IsOpeningOf number kind config owner processes c port
    → IsStateOf c port (state_at_start port) × (effects ≡ effects_of port.kind port.config (start_call port ∷ []))
opened-state number kind config owner processes faults c effects port o n l r cl st b ch clo is =
    let starts = o.starts port is.opening in (
      record {
        number = n ∙ sym is.number_is;
        processes = ap (λ (x : LinkTable). x.processes) l ∙ sym is.processes_is;
        kind = o.kind_is ∙ sym is.opening.kind_is;
        ties = ap (λ (x : LinkTable). x.ties) l ∙ ap opened (sym is.opening.owner_is);
        flags = o.flags ∙ sym is.processes_is;
        watches = starts.watches;
        reason = r;
        closer = cl;
        stopped = st;
        stage = o.started;
        busy = b;
        due = ap (λ x. due_marks x c.closes) ch ∙ ap (λ x. due_marks None x) clo;
        served = λ e. tt;
        stands = stands-held port (start_call port ∷ []) c.service.own c.service.program c.service.next_job starts.held c.service.queue starts.stands;
      },
      starts.effects_are,
    )

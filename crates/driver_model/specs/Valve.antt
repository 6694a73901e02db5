-- A valve sends the data of each command back; control 1 sets its port busy, control 2 frees it.
use Rattle.std.specs.Prelude.{◌==◌, List, [], ◌∷◌, true, false, if◌then◌else◌}
use Rattle.port_model.specs.io_vector.declared.flag.Flag.TheVariants.{Plain}
use Rattle.port_model.specs.declared.effect.Effect.{Effect}
use Rattle.port_model.specs.declared.effect.Effect.TheVariants.{Message, Busy, Reply, ReplyBadarg}
use Rattle.driver_model.specs.Calls.{Callback, Outputv, Control, Call}

abbrev pub valve_effects : Callback → List Effect
valve_effects (Outputv bytes) = Message Plain bytes ∷ []
valve_effects (Control op bytes) =
    if op == 1 then Busy true ∷ Reply [] ∷ [] else (if op == 2 then Busy false ∷ Reply [] ∷ [] else ReplyBadarg ∷ [])
valve_effects (Call op bytes) = ReplyBadarg ∷ []
valve_effects callback = []

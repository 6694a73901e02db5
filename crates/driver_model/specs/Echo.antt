-- Echo sends the data of each command back, and answers control 1 and call 1 with their bytes.
use Rattle.std.specs.Prelude.{◌==◌, List, [], ◌∷◌, if◌then◌else◌}
use Rattle.port_model.specs.io_vector.declared.flag.Flag.TheVariants.{Plain}
use Rattle.port_model.specs.declared.effect.Effect.{Effect}
use Rattle.port_model.specs.declared.effect.Effect.TheVariants.{Message, Reply, ReplyBadarg}
use Rattle.driver_model.specs.Calls.{Callback, Outputv, Control, Call}

abbrev pub echo_effects : Callback → List Effect
echo_effects (Outputv bytes) = Message Plain bytes ∷ []
echo_effects (Control op bytes) = if op == 1 then Reply bytes ∷ [] else ReplyBadarg ∷ []
echo_effects (Call op bytes) = if op == 1 then Reply bytes ∷ [] else ReplyBadarg ∷ []
echo_effects callback = []

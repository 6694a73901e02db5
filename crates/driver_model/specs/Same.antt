-- Whether two effects are the same.
use Rattle.std.specs.Prelude.{◌==◌, ◌&&◌, ℕ, List, [], ◌∷◌, Bool, true, false, not, nat_eq}
use Rattle.std.specs.Cmp.Lexicographic.{pointwise}
use Rattle.std.specs.Ordering.{int_eq}
use Rattle.port_model.specs.io_vector.declared.flag.Flag.{Flag}
use Rattle.port_model.specs.io_vector.declared.flag.Flag.TheVariants.{Plain, Eol, Noeol}
use Rattle.port_model.specs.declared.event.Dir.{Dir}
use Rattle.port_model.specs.declared.event.Dir.TheVariants.{Read, Write}
use Rattle.port_model.specs.declared.effect.Effect.{Effect}
use Rattle.port_model.specs.declared.effect.Effect.TheVariants.{Message, Eof, Status, Busy, Select, Unuse, Async, Watch, Reply, ReplyBadarg, Fail}

abbrev pub same_bytes : List ℕ → List ℕ → Bool
same_bytes bytes others = pointwise nat_eq bytes others

abbrev pub same_bool : Bool → Bool → Bool
same_bool true b = b
same_bool false b = not b

abbrev pub same_flag : Flag → Flag → Bool
same_flag Plain Plain = true
same_flag Eol Eol = true
same_flag Noeol Noeol = true
same_flag flag other = false

abbrev pub same_dir : Dir → Dir → Bool
same_dir Read Read = true
same_dir Write Write = true
same_dir dir other = false

abbrev pub same_effect : Effect → Effect → Bool
same_effect (Message flag bytes) (Message flag' bytes') = same_flag flag flag' && same_bytes bytes bytes'
same_effect Eof Eof = true
same_effect (Status status) (Status status') = int_eq status status'
same_effect (Busy busy) (Busy busy') = same_bool busy busy'
same_effect (Select event dir on) (Select event' dir' on') = event == event' && same_dir dir dir' && same_bool on on'
same_effect (Unuse event) (Unuse event') = event == event'
same_effect (Async number key code input) (Async number' key' code' input') =
    number == number' && key == key' && code == code' && same_bytes input input'
same_effect (Watch process) (Watch process') = process == process'
same_effect (Reply bytes) (Reply bytes') = same_bytes bytes bytes'
same_effect ReplyBadarg ReplyBadarg = true
same_effect (Fail reason) (Fail reason') = same_bytes reason reason'
same_effect effect other = false

abbrev pub same_effects : List Effect → List Effect → Bool
same_effects [] [] = true
same_effects (effect ∷ effects) (other ∷ others) = same_effect effect other && same_effects effects others
same_effects effects others = false

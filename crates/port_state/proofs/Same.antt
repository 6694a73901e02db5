-- Each effect is the same as itself.
use Rattle.std.proofs.Common.{◌≡◌, ℕ, List, [], ◌∷◌, Bool, true, false, ◌&&◌, refl}
use Rattle.std.specs.Prelude.{◌==◌}
use Rattle.std.proofs.lemmas.Bool.Decides.{Decides-eqb, Decides-int_eq}
use Rattle.std.proofs.lemmas.Slice.Eq.{slice_eq-Decides}
use Rattle.port_model.specs.io_vector.declared.flag.Flag.{Flag}
use Rattle.port_model.specs.io_vector.declared.flag.Flag.TheVariants.{Plain, Eol, Noeol}
use Rattle.port_model.specs.declared.event.Dir.{Dir}
use Rattle.port_model.specs.declared.event.Dir.TheVariants.{Read, Write}
use Rattle.port_model.specs.declared.effect.Effect.{Effect}
use Rattle.port_model.specs.declared.effect.Effect.TheVariants.{Message, Eof, Status, Busy, Select, Unuse, Async, Watch, Reply, ReplyBadarg, Fail}
use Rattle.port_service.specs.port_driver.driver_model.Same.{same_bytes, same_bool, same_flag, same_dir, same_effect, same_effects}

both : {a b : Bool} → a ≡ true → b ≡ true → (a && b) ≡ true
both e f = rw (e, f) refl

bytes : (bs : List ℕ) → same_bytes bs bs ≡ true
bytes bs = (slice_eq-Decides Decides-eqb bs bs (same_bytes bs bs) refl).1 refl

number : (n : ℕ) → (n == n) ≡ true
number n = (Decides-eqb n n).1 refl

bool : (b : Bool) → same_bool b b ≡ true
bool true = refl
bool false = refl

flags : (f : Flag) → same_flag f f ≡ true
flags Plain = refl
flags Eol = refl
flags Noeol = refl

dirs : (d : Dir) → same_dir d d ≡ true
dirs Read = refl
dirs Write = refl

effects : (e : Effect) → same_effect e e ≡ true
effects (Message flag bs) = both (flags flag) (bytes bs)
effects Eof = refl
effects (Status status) = (Decides-int_eq status status).1 refl
effects (Busy busy) = bool busy
effects (Select event dir on) = both (both (number event) (dirs dir)) (bool on)
effects (Unuse event) = number event
effects (Async n key code input) = both (both (both (number n) (number key)) (number code)) (bytes input)
effects (Watch process) = number process
effects (Reply bs) = bytes bs
effects ReplyBadarg = refl
effects (Fail reason) = bytes reason

pub same : (es : List Effect) → same_effects es es ≡ true
same [] = refl
same (e ∷ es) = both (effects e) (same es)

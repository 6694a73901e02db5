-- Digest makes a job of each command: its first byte is the key, its second the code of the work, 1 to 3, and the rest the input. A job's
-- output is sent.
use Rattle.std.specs.Prelude.{◌&&◌, ℕ, ◌+◌, List, [], ◌∷◌, nat_le, Bool, false, if◌then◌else◌, codes}
use Rattle.port_model.specs.io_vector.declared.flag.Flag.TheVariants.{Plain}
use Rattle.port_model.specs.declared.effect.Effect.{Effect}
use Rattle.port_model.specs.declared.effect.Effect.TheVariants.{Message, Async, ReplyBadarg, Fail}
use Rattle.driver_model.specs.Calls.{Callback, Outputv, Control, Call, ReadyAsync, DriverCall}

-- there is work of this code
abbrev pub is_code : ℕ → Bool
is_code code = nat_le 1 code && nat_le code 3

-- the data of a command makes a job
abbrev pub is_job : List ℕ → Bool
is_job (key ∷ code ∷ input) = is_code code
is_job bytes = false

abbrev pub job_count : Callback → ℕ
job_count (Outputv bytes) = if is_job bytes then 1 else 0
job_count callback = 0

-- how many jobs were submitted: this is the number of the next one
abbrev pub submitted : List DriverCall → ℕ
submitted [] = 0
submitted (call ∷ earlier) = submitted earlier + job_count call.callback

abbrev pub command_effects : ℕ → List ℕ → List Effect
command_effects next (key ∷ code ∷ input) = if is_code code then Async next key code input ∷ [] else Fail (codes "einval") ∷ []
command_effects next bytes = Fail (codes "einval") ∷ []

-- the effects of a callback where the next job has this number
abbrev pub digest_effects : ℕ → Callback → List Effect
digest_effects next (Outputv bytes) = command_effects next bytes
digest_effects next (Control op bytes) = ReplyBadarg ∷ []
digest_effects next (Call op bytes) = ReplyBadarg ∷ []
digest_effects next (ReadyAsync number output) = Message Plain output ∷ []
digest_effects next callback = []

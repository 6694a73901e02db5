-- Tally counts commands and their bytes. Control 1 answers both numbers in 8 bytes each, most significant first, and call 1 answers them
-- in a term; by control 2 it watches the caller, and when a process that it watches ends it sends that process's number in one byte.
use Rattle.std.specs.Prelude.{◌==◌, ◌%◌, ℕ, List, [], ◌∷◌, ◌++◌, length, sum_by, if◌then◌else◌, codes, pos}
use Rattle.std.specs.Int.{w64, to_be_bytes}
use Rattle.port_model.specs.io_vector.declared.flag.Flag.TheVariants.{Plain}
use Rattle.port_model.specs.declared.effect.Effect.{Effect}
use Rattle.port_model.specs.declared.effect.Effect.TheVariants.{Message, Watch, Reply, ReplyBadarg}
use Rattle.port_terms.specs.Tree.{int, atom, tuple, none, more}
use Rattle.port_terms.specs.Written.{external}
use Rattle.driver_model.specs.Calls.{Callback, Outputv, Control, Call, ProcessExit, DriverCall}

abbrev pub command_count : Callback → ℕ
command_count (Outputv bytes) = 1
command_count callback = 0

abbrev pub command_length : Callback → ℕ
command_length (Outputv bytes) = length bytes
command_length callback = 0

-- how many commands there were
abbrev pub commands : List DriverCall → ℕ
commands calls = sum_by (λ call. command_count call.callback) calls

-- how many bytes the commands had together
abbrev pub command_bytes : List DriverCall → ℕ
command_bytes calls = sum_by (λ call. command_length call.callback) calls

-- the external form of `{tally, Commands, Bytes}`
abbrev pub tally_term : ℕ → ℕ → List ℕ
tally_term count bytes = external (tuple (more (atom (codes "tally")) (more (int (pos count)) (more (int (pos bytes)) none))))

abbrev pub tally_effects : ℕ → ℕ → ℕ → Callback → List Effect
tally_effects caller count bytes (Control op data') =
    if op == 1 then Reply (to_be_bytes w64 count ++ to_be_bytes w64 bytes) ∷ []
    else (if op == 2 then Watch caller ∷ Reply [] ∷ [] else ReplyBadarg ∷ [])
tally_effects caller count bytes (Call op data') = if op == 1 then Reply (tally_term count bytes) ∷ [] else ReplyBadarg ∷ []
tally_effects caller count bytes (ProcessExit process) = Message Plain (process % 256 ∷ []) ∷ []
tally_effects caller count bytes callback = []

-- Store puts the data of each command into its queue, answers what is asked of the queue, and sends all of it when it is flushed.
-- Numbers in data have the most significant byte first.
use Rattle.std.specs.Prelude.{◌==◌, ◌&&◌, ◌-◌, ℕ, List, [], ◌∷◌, ◌++◌, length, take, drop, nat_le, Bool, if◌then◌else◌}
use Rattle.std.specs.Int.{w32, w64, to_be_bytes, from_be_bytes}
use Rattle.port_model.specs.io_vector.declared.flag.Flag.TheVariants.{Plain}
use Rattle.port_model.specs.declared.effect.Effect.{Effect}
use Rattle.port_model.specs.declared.effect.Effect.TheVariants.{Message, Reply, ReplyBadarg}
use Rattle.driver_model.specs.Calls.{Callback, Outputv, Control, Call, Flush, DriverCall}

-- the number in the first 4 of these bytes
abbrev pub number : List ℕ → ℕ
number bytes = from_be_bytes w32 (take 4 bytes)

-- control 1 takes so many of the first bytes, told in 4 bytes
abbrev pub may_take : List ℕ → List ℕ → Bool
may_take bytes queue = length bytes == 4 && nat_le (number bytes) (length queue)

-- control 5 puts the bytes behind the first 4, but for so many of the first, told in these 4
abbrev pub may_put : List ℕ → Bool
may_put bytes = nat_le 4 (length bytes) && nat_le (number bytes) (length bytes - 4)

-- the queue after a control
abbrev pub queue_controlled : ℕ → List ℕ → List ℕ → List ℕ
queue_controlled op bytes queue =
    if op == 1 then (if may_take bytes queue then drop (number bytes) queue else queue)
    else (if op == 4 then bytes ++ queue
    else (if op == 5 then (if may_put bytes then queue ++ drop (number bytes) (drop 4 bytes) else queue) else queue))

-- the queue after a callback
abbrev pub queue_after : Callback → List ℕ → List ℕ
queue_after (Outputv bytes) queue = queue ++ bytes
queue_after (Control op bytes) queue = queue_controlled op bytes queue
queue_after Flush queue = []
queue_after callback queue = queue

-- the bytes that a store has queued
abbrev pub stored : List DriverCall → List ℕ
stored [] = []
stored (call ∷ earlier) = queue_after call.callback (stored earlier)

-- the answer to a control, with the queue before it
abbrev pub store_answer : ℕ → List ℕ → List ℕ → Effect
store_answer op bytes queue =
    if op == 1 then (if may_take bytes queue then Reply (take (number bytes) queue) else ReplyBadarg)
    else (if op == 2 then Reply (to_be_bytes w64 (length queue))
    else (if op == 3 then Reply queue
    else (if op == 4 then Reply []
    else (if op == 5 then (if may_put bytes then Reply [] else ReplyBadarg) else ReplyBadarg))))

abbrev pub store_effects : List ℕ → Callback → List Effect
store_effects queue (Control op bytes) = store_answer op bytes queue ∷ []
store_effects queue (Call op bytes) = ReplyBadarg ∷ []
store_effects queue Flush = Message Plain queue ∷ []
store_effects queue callback = []

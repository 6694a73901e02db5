-- MSGQ is period * 2^40 + bytes, and the message queue is busy in an odd period.
use Rattle.std.specs.Prelude.{◌≡◌, ℕ, ◌+◌, ◌-◌, ◌*◌, ◌/◌, ◌%◌, ◌^◌, ◌<◌, ◌≤◌, Bool, true, false, List, [], ◌∷◌, ◌==◌, ◌&&◌, nat_lt, nat_le}
use Rattle.port_words.specs.sums.Counts.{one_if}
use Rattle.port_words.specs.declared.busy.view.AddHow.{AddHow}
use Rattle.port_words.specs.declared.busy.view.AddHow.TheVariants.{Plain, NoSuspend, Forced}
use Rattle.port_words.specs.declared.busy.view.QueueLimits.{QueueLimits}
use Rattle.port_words.specs.declared.busy.view.QueueAdd.{QueueAdd}

abbrev pub period_of : ℕ → ℕ
period_of word = word / 2 ^ 40

abbrev pub bytes_of : ℕ → ℕ
bytes_of word = word % 2 ^ 40

-- an add of n bytes that leaves bytes at the high limit or above makes an even period odd
abbrev pub fills : QueueLimits → ℕ → ℕ → Bool
fills limits word n = limits.on && ((period_of word % 2 == 0) && nat_le limits.high (bytes_of word + n))

-- a removal of n bytes that leaves bytes below the low limit makes an odd period even
abbrev pub frees : QueueLimits → ℕ → ℕ → Bool
frees limits word n = (period_of word % 2 == 1) && nat_lt (bytes_of word - n) limits.low

-- the word after an add, and after a removal
abbrev pub added : QueueLimits → ℕ → ℕ → ℕ
added limits word n = word + n + 2 ^ 40 * one_if (fills limits word n)

abbrev pub taken : QueueLimits → ℕ → ℕ → ℕ
taken limits word n = word - n + 2 ^ 40 * one_if (frees limits word n)

-- the periods of the words rise, from one period up to another
abbrev pub Climbs : ℕ → List ℕ → ℕ → Type 0
Climbs from [] to = from ≤ to
Climbs from (w ∷ ws) to = (from ≤ period_of w) × Climbs (period_of w) ws to

-- 1 of an add that left this period
abbrev pub is_left_at : ℕ → QueueAdd → ℕ
is_left_at period a = one_if (period_of a.word == period)

-- the size of an add that left this period
abbrev pub left_in : ℕ → QueueAdd → ℕ
left_in period a = is_left_at period a * a.name.size

abbrev pub is_nosuspend : AddHow → Bool
is_nosuspend Plain = false
is_nosuspend NoSuspend = true
is_nosuspend Forced = false

-- 1 of an add without suspension that left this period
abbrev pub unsuspended_in : ℕ → QueueAdd → ℕ
unsuspended_in period a = is_left_at period a * one_if (is_nosuspend a.how)

-- 1 of an add that left this period with at least so many bytes
abbrev pub filled_in : ℕ → ℕ → QueueAdd → ℕ
filled_in high period a = is_left_at period a * one_if (nat_le high (bytes_of a.word))

abbrev pub add_size : QueueAdd → ℕ
add_size a = a.name.size

-- The bound on the bytes of a word: with an even period below high, and with an odd one below high and the sizes of the adds that left that period together
pub record IsWithin (limits : QueueLimits) (left : ℕ → ℕ) (word : ℕ) : Type 0 where
  pub even : period_of word % 2 ≡ 0 → bytes_of word < limits.high
  pub odd : period_of word % 2 ≡ 1 → bytes_of word < limits.high + left (period_of word)

-- what holds of every word of a table with these limits
pub record IsQueueWord (limits : QueueLimits) (word : ℕ) : Type 0 where
  pub period : period_of word ≤ 2 ^ 23
  pub bytes : bytes_of word ≤ 2 ^ 40 - 2 ^ 22
  pub off : limits.on ≡ false → period_of word ≡ 0
  pub even : limits.on ≡ true → period_of word % 2 ≡ 0 → bytes_of word < limits.high
  pub odd : limits.on ≡ true → period_of word % 2 ≡ 1 → limits.low ≤ bytes_of word

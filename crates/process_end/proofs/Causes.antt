-- What the cause of an outcome tells.
use Rattle.std.proofs.Common.{arith, ◌≡◌, ℕ, ◌≤◌, Bool, true, false, Option, Some, None, refl}
use Rattle.std.specs.Prelude.{unwrap_or, nat_lt}
use Rattle.std.proofs.lemmas.Bool.Decides.{nat_tests}
use Rattle.port_words.specs.busy.Known.{SendKnown}
use Rattle.port_model.specs.declared.signal.Signal.{Signal}
use Rattle.port_model.specs.declared.signal.Signal.TheVariants.{Command, OwnerCommand}
use Rattle.port_model.specs.Signals.{is_command, data_size}
use Rattle.process_receipts.specs.declared.receipt.Outcome.{Outcome}
use Rattle.process_receipts.specs.declared.receipt.Outcome.TheVariants.{Accepted, Suspended, Dropped, Closed, NotSupported, TooLong, SentOut}
use Rattle.process_receipts.specs.Asks.{Asked, is_gone, is_long, is_suspended}
use Rattle.process_receipts.specs.Receipts.{HasCause, is_put}
use Rattle.process_end.specs.Views.{LaneEnd}
use Rattle.process_end.specs.Steps.{HasSent, HasStepped}

-- a suspended command left a word
pub word-left : (calls : ℕ) (soft : Bool) (ask : Asked) (outcome : Outcome) (stat msgq : Option ℕ) → HasCause calls soft ask outcome stat msgq → is_suspended outcome ≡ true
    → msgq ≡ Some (unwrap_or msgq 0)
word-left calls soft ask Suspended (Some stat) (Some msgq) cause stops = refl
word-left calls soft ask Suspended (Some stat) None cause stops = absurd cause
word-left calls soft ask Suspended None (Some msgq) cause stops = absurd cause
word-left calls soft ask Suspended None None cause stops = absurd cause
word-left calls soft ask outcome stat msgq cause stops = absurd cc

-- a call that was refused without a look put nothing
pub not-put : (calls : ℕ) (soft : Bool) (ask : Asked) (outcome : Outcome) → HasCause calls soft ask outcome None None → is_put outcome ≡ false
not-put calls soft ask Accepted cause = absurd cause
not-put calls soft ask Suspended cause = absurd cause
not-put calls soft ask outcome cause = refl

pub not-sent : (ask : Asked) (lane : LaneEnd) (outcome : Outcome) → is_put outcome ≡ false → HasSent ask lane lane outcome
not-sent ask lane Accepted e = absurd cc
not-sent ask lane Suspended e = absurd cc
not-sent ask lane outcome e = refl

pub no-step : (ask : Asked) (seat : SendKnown) (outcome : Outcome) → HasStepped ask seat seat outcome None None
no-step ask seat Accepted = refl
no-step ask seat Suspended = refl
no-step ask seat Dropped = refl
no-step ask seat Closed = refl
no-step ask seat NotSupported = refl
no-step ask seat TooLong = refl
no-step ask seat SentOut = refl

pub command-stays : (signal : Signal) → is_command signal ≡ true → is_gone signal ≡ false
command-stays (Command payload) e = refl
command-stays (OwnerCommand payload) e = refl
command-stays signal e = absurd cc

short-number : (n : ℕ) → nat_lt 262143 n ≡ false → n ≤ 262143
short-number n e = grind (arith, nat_tests)

pub is-short : (signal : Signal) → is_long signal ≡ false → data_size signal ≤ 262143
is-short signal e = short-number (data_size signal) e

-- A process is free after a signal that is no command.
use Rattle.std.proofs.Common.{◌≡◌, ℕ, Bool, true, false, ◌&&◌, Option, Some, None, Result, Ok, Err, refl}
use Rattle.std.specs.Result.{IfOk, OnErr}
use Rattle.port_model.specs.Signals.{is_command}
use Rattle.process_receipts.specs.declared.receipt.Outcome.{Outcome}
use Rattle.process_receipts.specs.declared.receipt.Outcome.TheVariants.{Suspended}
use Rattle.process_receipts.specs.declared.receipt.Receipt.{Receipt}
use Rattle.process_receipts.specs.Asks.{Asked, is_stopping, is_suspended}
use Rattle.process_receipts.specs.Receipts.{HasCause, soft_at}
use Rattle.process_end.specs.Views.{ProcView, calls_of}
use Rattle.process_end.specs.Calls.{HasMade}
use Rattle.process_end.specs.Ports.{AllFree}
use Rattle.process_end.proofs.Adds.{contrary}

and-left : (a b : Bool) → (a && b) ≡ true → a ≡ true
and-left true b e = refl
and-left false b e = absurd cc

plain-stays : (calls : ℕ) (soft : Bool) (ask : Asked) (outcome : Outcome) (stat msgq : Option ℕ) → HasCause calls soft ask outcome stat msgq → is_command ask.signal ≡ false
    → is_suspended outcome ≡ false
plain-stays calls soft ask Suspended (Some stat) (Some msgq) cause plain = contrary (is_command ask.signal) (and-left (is_command ask.signal) (is_stopping ask.how) cause.1) plain
plain-stays calls soft ask Suspended (Some stat) None cause plain = absurd cause
plain-stays calls soft ask Suspended None (Some msgq) cause plain = absurd cause
plain-stays calls soft ask Suspended None None cause plain = absurd cause
plain-stays calls soft ask outcome stat msgq cause plain = refl

pub answered-free : {E : Type 0} (r : Result Receipt E) (old new : ProcView) (ask : Asked) → IfOk r (λ receipt. is_suspended receipt.outcome ≡ false → AllFree new)
    → IfOk r (λ receipt. HasMade old ask new receipt) → OnErr r (AllFree new) → is_command ask.signal ≡ false → AllFree new
answered-free (Ok receipt) old new ask free made none plain =
    free (plain-stays (calls_of old) (soft_at ask.port old.soft) ask receipt.outcome receipt.stat receipt.msgq made.is_receipt.cause plain)
answered-free (Err e) old new ask free made none plain = none

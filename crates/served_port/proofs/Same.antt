-- What stays the same, and what an answer gives.
use Rattle.std.proofs.Common.{◌≡◌, Bool, true, false, refl, sym, ap, ◌∙◌}
use Rattle.std.specs.Prelude.{not, Result, Ok, Err, OnOk, IfOk}
use Rattle.port_events.specs.Table.{EventTable, KeepsEnd}

pub on-ok : {T E : Type 0} (r : Result T E) {P Q : Type 0} → (P → Q) → OnOk r P → OnOk r Q
on-ok (Ok value) f p = f p
on-ok (Err error) f p = tt

-- a table whose selector alone changed keeps its end
pub keeps-end : (old new : EventTable) → new ≡ record old { selector = new.selector } → KeepsEnd old new
keeps-end old new e = e ∙ ap (λ x. record old { selector = new.selector; asks = record old.asks { sent = x } }) (sym (ap (λ (t : EventTable). t.asks.sent) e))

pub if-ok : {T E : Type 0} (r : Result T E) {P Q : T → Type 0} → ((value : T) → P value → Q value) → IfOk r P → IfOk r Q
if-ok (Ok value) f p = f value p
if-ok (Err error) f p = tt

pub on-any : {T E : Type 0} (r : Result T E) {P : Type 0} → P → OnOk r P
on-any (Ok value) p = p
on-any (Err error) p = tt

pub not-not : (b : Bool) → not (not b) ≡ b
not-not true = refl
not-not false = refl

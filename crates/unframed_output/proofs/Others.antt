-- A port's mail is data of no other port.
use Rattle.std.proofs.Common.{◌≡◌, ℕ, List, [], ◌∷◌, ◌++◌, map, Bool, true, false, eqb, cond, refl, ap}
use Rattle.std.specs.Prelude.{filter}
use Rattle.std.specs.List.{AllByRecursion, flat_map}
use Rattle.driver_model.specs.port_signal.Links.{has}
use Rattle.driver_model.specs.port_model.declared.effect.Effect.{Effect}
use Rattle.driver_model.specs.port_model.declared.effect.Effect.TheVariants.{Message as Data, Eof as TellEof, Status as TellStatus}
use Rattle.driver_model.specs.port_model.declared.mail.Mail.{Mail}
use Rattle.driver_model.specs.port_model.declared.row.Row.{Row}
use Rattle.driver_model.specs.port_model.declared.row.Row.TheVariants.{Handled, Late, Listed, Resumed, Mark}
use Rattle.port_history.specs.Counts.{line_end, saved_mail}
use Rattle.port_history.specs.Mail.{Sent, effect_mail, answers, closing_mail, closed_mail, row_mail, mail_for, mails}
use Rattle.port_history.specs.Opening.{Opening, taken_of}
use Rattle.port_history.specs.State.{State, state, closing_reason, closer_after, stops}
use Rattle.port_history.specs.Ties.{tied}
use Rattle.unframed_output.proofs.Mails.{HaveNoData, unsaved, answers-none, closing-none, closed-none, late-row, resumed-row}

-- nothing of this mail is saved for this port
abbrev pub IsOfOther : ℕ → Sent → Type 0
IsOfOther port m = saved_mail port m.mail ≡ []

append : (port : ℕ) (xs ys : List Sent) → AllByRecursion (IsOfOther port) xs → AllByRecursion (IsOfOther port) ys → AllByRecursion (IsOfOther port) (xs ++ ys)
append port [] ys x y = y
append port (m ∷ xs) ys x y = (x.0, append port xs ys x.1 y)

no-data : (port : ℕ) (sent : List Sent) → HaveNoData sent → AllByRecursion (IsOfOther port) sent
no-data port [] none = tt
no-data port (m ∷ sent) none = (unsaved port m.mail none.0, no-data port sent none.1)

effects-other : (port other owner : ℕ) (effects : List Effect) → eqb other port ≡ false → AllByRecursion (IsOfOther port) (flat_map (effect_mail other owner) effects)
effects-other port other owner [] apart = tt
effects-other port other owner (Data flag bytes ∷ effects) apart = (ap (λ (b : Bool). cond b (bytes ++ line_end flag) []) apart, effects-other port other owner effects apart)
effects-other port other owner (TellEof ∷ effects) apart = (refl, effects-other port other owner effects apart)
effects-other port other owner (TellStatus status ∷ effects) apart = (refl, effects-other port other owner effects apart)
effects-other port other owner (effect ∷ effects) apart = effects-other port other owner effects apart

row-other : (number : ℕ) (port : Opening) (s : State) (row : Row) → eqb port.number number ≡ false → AllByRecursion (IsOfOther number) (row_mail port s row)
row-other number port s (Handled from seq task outside effects) apart =
    let t = taken_of from seq task outside effects in
    let data' = flat_map (effect_mail port.number s.ties.owner) effects in
    let told = answers port s.ties from seq effects task.signal in
    let closing = closing_mail port.number (closing_reason s t) (tied port s.ties from task.signal) in
    let closed = closed_mail port.number (stops port s t) (closer_after s t) in
    append number (data' ++ told ++ closing) closed
    (append number (data' ++ told) closing
    (append number data' told (effects-other number port.number s.ties.owner effects apart) (no-data number told (answers-none port s.ties from seq effects task.signal)))
    (no-data number closing (closing-none port.number (closing_reason s t) (tied port s.ties from task.signal))))
    (no-data number closed (closed-none port.number (stops port s t) (closer_after s t)))
row-other number port s (Late from seq task) apart = no-data number (row_mail port s (Late from seq task)) (late-row port s from seq task)
row-other number port s (Listed from seq) apart = tt
row-other number port s (Resumed from seq word) apart = no-data number (row_mail port s (Resumed from seq word)) (resumed-row port s from seq word)
row-other number port s (Mark kind) apart = tt

for-other : (number process : ℕ) (sent : List Sent) → AllByRecursion (IsOfOther number) sent → AllByRecursion (λ (m : Mail). saved_mail number m ≡ []) (mail_for process sent)
for-other number process [] all = tt
for-other number process (m ∷ sent) all = at (eqb m.to process) (for-other number process sent all.1) where
  at : (b : Bool) → AllByRecursion (λ (m : Mail). saved_mail number m ≡ []) (mail_for process sent)
      → AllByRecursion (λ (m : Mail). saved_mail number m ≡ []) (map (λ (m : Sent). m.mail) (cond b (m ∷ filter (λ (m : Sent). eqb m.to process) sent) (filter (λ (m : Sent). eqb m.to process) sent)))
  at true rest = (all.0, rest)
  at false rest = rest

join : (number : ℕ) (xs ys : List Mail) → AllByRecursion (λ (m : Mail). saved_mail number m ≡ []) xs → AllByRecursion (λ (m : Mail). saved_mail number m ≡ []) ys
    → AllByRecursion (λ (m : Mail). saved_mail number m ≡ []) (xs ++ ys)
join number [] ys x y = y
join number (m ∷ xs) ys x y = (x.0, join number xs ys x.1 y)

-- all mail of a port to a process is unsaved for another port
pub mails-other : (number process : ℕ) (port : Opening) (history : List Row) → eqb port.number number ≡ false → AllByRecursion (λ (m : Mail). saved_mail number m ≡ []) (mails port process history)
mails-other number process port [] apart = tt
mails-other number process port (row ∷ older) apart =
    either (has process (state port (row ∷ older)).ties.ended) (mails-other number process port older apart)
    (for-other number process (row_mail port (state port older) row) (row-other number port (state port older) row apart))
  where
    either : (b : Bool) → AllByRecursion (λ (m : Mail). saved_mail number m ≡ []) (mails port process older)
        → AllByRecursion (λ (m : Mail). saved_mail number m ≡ []) (mail_for process (row_mail port (state port older) row))
        → AllByRecursion (λ (m : Mail). saved_mail number m ≡ []) (cond b (mails port process older) (mails port process older ++ mail_for process (row_mail port (state port older) row)))
    either true o n = o
    either false o n = join number (mails port process older) (mail_for process (row_mail port (state port older) row)) o n

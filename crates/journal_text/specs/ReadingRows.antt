-- Reading a row: all of a line.
use Rattle.std.specs.Prelude.{ℕ, zero, suc, ◌^◌, ◌==◌, if◌then◌else◌, List, [], ◌∷◌, Option, Some, None, codes}
use Rattle.std.specs.Str.{bytes_eq}
use Rattle.port_signal.specs.declared.mark.MarkKind.{MarkKind}
use Rattle.port_signal.specs.declared.mark.MarkKind.TheVariants.{Busy, Free, Closed}
use Rattle.port_signal.specs.declared.outside.Outside.{Outside}
use Rattle.port_signal.specs.declared.items.TheConstants.{MAX_ITEMS}
use Rattle.port_model.specs.declared.effect.Effect.{Effect}
use Rattle.port_model.specs.declared.signal.Sender.{Sender}
use Rattle.port_model.specs.declared.row.Row.{Row}
use Rattle.port_model.specs.declared.row.Row.TheVariants.{Handled, Late, Listed, Resumed, Mark}
use Rattle.port_model.specs.Tasks.{TaskView}
use Rattle.journal_text.specs.Reading.{◌>>=◌, after, field_at, by_word, spaced_at, pair_at, made, number_at, sender_at, task_at, answer_at, effect_at}

-- an item, and the others where a comma follows, behind it and a space
abbrev pub next_at : {A : Type 0} → (List ℕ → Option (List A × List ℕ)) → A → List ℕ → Option (List ℕ) → Option (List A × List ℕ)
next_at others x behind None = Some (x ∷ [], behind)
next_at others x behind (Some rest) = after 32 rest >>= λ inner. (others inner >>= λ xs. Some (x ∷ xs.0, xs.1))

-- one or more items, at most n
unfoldable pub some_at : {A : Type 0} → (List ℕ → Option (A × List ℕ)) → ℕ → List ℕ → Option (List A × List ℕ)
some_at item zero bytes = None
some_at item (suc n) bytes = item bytes >>= λ first. next_at (some_at item n) first.0 first.1 (after 44 first.1)

-- the items of a list: none at the end, and none where ` ;` stands
unfoldable pub list_at : {A : Type 0} → (List ℕ → Option (A × List ℕ)) → List ℕ → Option (List A × List ℕ)
list_at item [] = Some ([], [])
list_at item (byte ∷ []) = None
list_at item (byte ∷ next ∷ rest) =
    if next == 59 then Some ([], byte ∷ next ∷ rest) else spaced_at (some_at item MAX_ITEMS) (byte ∷ next ∷ rest)

-- what stands behind ` ;`
abbrev pub semicolon_at : List ℕ → Option (List ℕ)
semicolon_at bytes = after 32 bytes >>= after 59

-- the value, if nothing stands behind it
abbrev pub whole : {A : Type 0} → A → List ℕ → Option A
whole value [] = Some value
whole value (byte ∷ rest) = None

-- all of a line
abbrev pub all_of : {A : Type 0} → Option (A × List ℕ) → Option A
all_of read = read >>= λ x. whole x.0 x.1

-- the answers and the effects of a row
unfoldable pub calls_at : ℕ → List ℕ → Option ((List Outside × List Effect) × List ℕ)
calls_at names bytes = do
  answers ← semicolon_at bytes
  outside ← list_at answer_at answers
  effects ← semicolon_at outside.1
  made (λ effects. (outside.0, effects)) (list_at (effect_at names) effects)

-- a sender, a number and a task
abbrev pub sent_at : ℕ → List ℕ → Option ((Sender × (ℕ × TaskView)) × List ℕ)
sent_at names = pair_at (sender_at names) (pair_at (number_at (2 ^ 64)) (task_at names))

unfoldable pub handled_at : ℕ → List ℕ → Option (Row × List ℕ)
handled_at names bytes = do
  sent ← spaced_at (sent_at names) bytes
  made (λ calls. Handled sent.0.0 sent.0.1.0 sent.0.1.1 calls.0 calls.1) (calls_at names sent.1)

unfoldable pub mark_of : List ℕ → Option MarkKind
mark_of word =
    if bytes_eq word (codes "busy") then Some Busy
    else (if bytes_eq word (codes "free") then Some Free
    else (if bytes_eq word (codes "closed") then Some Closed else None))

unfoldable pub row_by : ℕ → List ℕ → List ℕ → Option (Row × List ℕ)
row_by names word rest =
    if bytes_eq word (codes "h") then handled_at names rest
    else (if bytes_eq word (codes "l") then made (λ p. Late p.0 p.1.0 p.1.1) (spaced_at (sent_at names) rest)
    else (if bytes_eq word (codes "s") then made (λ p. Listed p.0 p.1) (spaced_at (pair_at (sender_at names) (number_at (2 ^ 64))) rest)
    else (if bytes_eq word (codes "r") then made (λ p. Resumed p.0 p.1.0 p.1.1) (spaced_at (pair_at (sender_at names) (pair_at (number_at (2 ^ 64)) (number_at (2 ^ 64)))) rest)
    else (if bytes_eq word (codes "m") then made Mark (spaced_at (field_at mark_of) rest)
    else None))))

-- the row of a line
unfoldable pub row_of : ℕ → List ℕ → Option Row
row_of names line = all_of (by_word (row_by names) line)

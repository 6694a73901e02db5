-- CommandFlags the rows of a port are written, each as a line, among so many processes.
use Rattle.std.specs.Prelude.{ℕ, List, [], ◌∷◌, ◌++◌, length, Bool, true, ◌&&◌, nat_le, codes}
use Rattle.std.specs.List.{list_all}
use Rattle.std.specs.Fmt.{decimal}
use Rattle.port_signal.specs.declared.mark.MarkKind.{MarkKind}
use Rattle.port_signal.specs.declared.mark.MarkKind.TheVariants.{Busy, Free, Closed}
use Rattle.port_signal.specs.declared.items.TheConstants.{MAX_ITEMS}
use Rattle.port_model.specs.declared.row.Row.{Row}
use Rattle.port_model.specs.declared.row.Row.TheVariants.{Handled, Late, Listed, Resumed, Mark}
use Rattle.journal_text.specs.Words.{spaced, listed, is_64}
use Rattle.journal_text.specs.Signals.{sender_text, is_sender, task_text, is_task}
use Rattle.journal_text.specs.Effects.{answer_text, is_answer, effect_text, is_effect}

abbrev pub mark_text : MarkKind → List ℕ
mark_text Busy = codes "busy"
mark_text Free = codes "free"
mark_text Closed = codes "closed"

-- the line of a row, without the byte 10 that ends it
abbrev pub row_text : Row → List ℕ
row_text (Handled from seq task outside effects) =
    spaced (codes "h" ∷ sender_text from ∷ decimal seq ∷ task_text task ∷ codes ";" ∷ []) ++ listed answer_text outside ++ codes " ;" ++ listed effect_text effects
row_text (Late from seq task) = spaced (codes "l" ∷ sender_text from ∷ decimal seq ∷ task_text task ∷ [])
row_text (Listed from seq) = spaced (codes "s" ∷ sender_text from ∷ decimal seq ∷ [])
row_text (Resumed from seq word) = spaced (codes "r" ∷ sender_text from ∷ decimal seq ∷ decimal word ∷ [])
row_text (Mark kind) = spaced (codes "m" ∷ mark_text kind ∷ [])

-- each item passes, and there aren't more than 1,048,576
abbrev pub is_list : {A : Type 0} → (A → Bool) → List A → Bool
is_list is_item items = nat_le (length items) MAX_ITEMS && list_all is_item items

abbrev pub is_row : ℕ → Row → Bool
is_row names (Handled from seq task outside effects) =
    is_sender names from && (is_64 seq && (is_task names task && (is_list is_answer outside && is_list (is_effect names) effects)))
is_row names (Late from seq task) = is_sender names from && (is_64 seq && is_task names task)
is_row names (Listed from seq) = is_sender names from && is_64 seq
is_row names (Resumed from seq word) = is_sender names from && (is_64 seq && is_64 word)
is_row names (Mark kind) = true

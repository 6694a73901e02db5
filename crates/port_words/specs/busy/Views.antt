-- Sums and facts over the views of a table's seats.
use Rattle.std.specs.Prelude.{ℕ, ◌*◌, Bool, false, List, [], ◌∷◌, ◌==◌, ◌&&◌, sum_by, All, length}
use Rattle.port_words.specs.sums.Counts.{one_if}
use Rattle.port_words.specs.declared.busy.view.BusySetup.{BusySetup}
use Rattle.port_words.specs.declared.busy.view.StatMark.{StatMark}
use Rattle.port_words.specs.declared.busy.view.AddName.{AddName}
use Rattle.port_words.specs.declared.busy.view.QueueAdd.{QueueAdd}
use Rattle.port_words.specs.declared.busy.view.SenderLedger.{SenderLedger}
use Rattle.port_words.specs.declared.busy.view.SenderView.{SenderView}
use Rattle.port_words.specs.declared.busy.view.BusyView.{BusyView}

-- over the senders that a view has, and over all views
abbrev pub of_senders : (SenderLedger → ℕ) → BusyView → ℕ
of_senders g v = sum_by (λ s. g s.ledger) v.senders

abbrev pub over_senders : (SenderLedger → ℕ) → List BusyView → ℕ
over_senders g views = sum_by (of_senders g) views

-- the same over the adds
abbrev pub adds_of : (QueueAdd → ℕ) → SenderLedger → ℕ
adds_of f l = sum_by f l.adds

abbrev pub adds_by : (QueueAdd → ℕ) → BusyView → ℕ
adds_by f v = of_senders (adds_of f) v

abbrev pub over_adds : (QueueAdd → ℕ) → List BusyView → ℕ
over_adds f views = over_senders (adds_of f) views

-- the adds, the adds taken back, the weights that are out and those that were removed, by what their names weigh
abbrev pub adds_weigh : (AddName → ℕ) → BusyView → ℕ
adds_weigh h v = adds_by (λ a. h a.name) v

abbrev pub undone_weigh : (AddName → ℕ) → BusyView → ℕ
undone_weigh h v = of_senders (λ l. sum_by h l.undone) v

abbrev pub weights_weigh : (AddName → ℕ) → BusyView → ℕ
weights_weigh h v = sum_by h v.weights

abbrev pub removed_weigh : (AddName → ℕ) → BusyView → ℕ
removed_weigh h v = sum_by h v.removed

abbrev pub size_of : AddName → ℕ
size_of n = n.size

-- 1 of the add at this place of this sender, and else 0
abbrev pub is_add : ℕ → ℕ → AddName → ℕ
is_add sender place n = one_if ((n.sender == sender) && (n.place == place))

abbrev pub senders_in : BusyView → ℕ
senders_in v = length v.senders

abbrev pub is_numbered : ℕ → SenderLedger → ℕ
is_numbered n l = one_if (l.number == n)

-- the number of adds of the sender of this number
abbrev pub adds_made_by : ℕ → SenderLedger → ℕ
adds_made_by n l = one_if (l.number == n) * length l.adds

-- P holds of each list of MSGQ words of a view
abbrev pub WordsIn : (List ℕ → Type 0) → BusyView → Type 0
WordsIn P v = P v.words × All (λ s. P s.words) v.senders

abbrev pub fresh_sender : ℕ → SenderView
fresh_sender n = record { stats = []; ledger = record { number = n; adds = []; undone = [] }; words = [] }

abbrev pub view_of : BusySetup → Bool → List StatMark → List SenderView → List AddName → List AddName → List ℕ → BusyView
view_of setup port marks senders weights removed words =
    record { setup = setup; port = port; marks = marks; senders = senders; weights = weights; removed = removed; words = words }

-- the view of a sender's seat, with the weights that it has taken in
abbrev pub seat_view : BusySetup → SenderView → List AddName → BusyView
seat_view setup s weights = view_of setup false [] (s ∷ []) weights [] []

abbrev pub weight_view : BusySetup → List AddName → BusyView
weight_view setup weights = view_of setup false [] [] weights [] []

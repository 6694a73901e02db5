-- What a call has found after it tried again.
use Rattle.std.proofs.Common.{◌≡◌, ◌≢◌, ℕ, ◌%◌, List, [], ◌∷◌, ◌++◌, ap, ◌∙◌, true, append_assoc}
use Rattle.std.proofs.lemmas.List.Elements.{All-push}
use Rattle.port_words.specs.declared.busy.view.AddHow.{AddHow}
use Rattle.port_words.specs.declared.busy.view.AddName.{AddName}
use Rattle.port_words.specs.declared.busy.view.BusySetup.{BusySetup}
use Rattle.port_words.specs.declared.busy.view.BusyView.{BusyView}
use Rattle.port_words.specs.declared.busy.view.PlannedAdd.{PlannedAdd}
use Rattle.port_words.specs.declared.busy.view.SenderView.{SenderView}
use Rattle.atomic_table.specs.Table.{Me}
use Rattle.port_words.specs.busy.Queue.{is_nosuspend, period_of}
use Rattle.port_words.specs.busy.Views.{seat_view}
use Rattle.port_words.specs.busy.Steps.{own, heard, port_heard}
use Rattle.port_words.specs.busy.Known.{SendKnown, send_known, name_of, ChangedFrom, EachChanged, LetsAdd}

changed_again : (word : ℕ) (ns : List ℕ) (last n : ℕ) → ChangedFrom word (ns ++ last ∷ []) → n ≢ last → ChangedFrom word ((ns ++ last ∷ []) ++ n ∷ [])
changed_again word [] last n c differ = (c.0, (differ, tt))
changed_again word (m ∷ ns) last n c differ = (c.0, changed_again m ns last n c.1 differ)

-- one more try found another word than it expected
pub tried_again : (ns : List ℕ) (last n : ℕ) → EachChanged (ns ++ last ∷ []) → n ≢ last → EachChanged ((ns ++ last ∷ []) ++ n ∷ [])
tried_again [] last n c differ = (differ, tt)
tried_again (m ∷ ns) last n c differ = changed_again m ns last n c differ

-- one more word let the add try
pub lets_again : (how : AddHow) (ns : List ℕ) (word : ℕ) → LetsAdd how ns → (is_nosuspend how ≡ true → period_of word % 2 ≡ 0) → LetsAdd how (ns ++ word ∷ [])
lets_again how ns word lets one is = All-push (λ w. period_of w % 2 ≡ 0) ns word (lets is) (one is)

-- a seat that has heard these words heard one more
pub heard_again : (old mid new : SendKnown) (ns : List ℕ) (last n : ℕ) → mid ≡ send_known old.table old.setup (heard old.sender (ns ++ last ∷ []))
    → new ≡ send_known mid.table mid.setup (heard mid.sender (n ∷ [])) → new ≡ send_known old.table old.setup (heard old.sender ((ns ++ last ∷ []) ++ n ∷ []))
heard_again old mid new ns last n before then =
    then ∙ (λ i. send_known (before i).table (before i).setup (heard (before i).sender (n ∷ [])))
    ∙ ap (λ ws. send_known old.table old.setup record old.sender { words = ws }) (append_assoc old.sender.words (ns ++ last ∷ []) (n ∷ []))

-- the same of a sender's seat that has taken a weight in
pub sender_again : (setup : BusySetup) (s : SenderView) (name : AddName) (mid : Me PlannedAdd BusyView) (ns : List ℕ) (last n : ℕ) → mid ≡ (seat_view setup (heard s (ns ++ last ∷ [])) (name ∷ []), [])
    → ◌≡◌ {A = Me PlannedAdd BusyView} (seat_view setup (heard (own mid.0) (n ∷ [])) (name_of mid.0.weights ∷ []), []) (seat_view setup (heard s ((ns ++ last ∷ []) ++ n ∷ [])) (name ∷ []), [])
sender_again setup s name mid ns last n is =
    (λ i. (seat_view setup (heard (own (is i).0) (n ∷ [])) (name_of (is i).0.weights ∷ []), []))
    ∙ ap (λ ws. (seat_view setup record s { words = ws } (name ∷ []), [])) (append_assoc s.words (ns ++ last ∷ []) (n ∷ []))

-- and of the port's
pub port_again : (v : BusyView) (mid : Me PlannedAdd BusyView) (ns : List ℕ) (last n : ℕ) → mid ≡ (port_heard v (ns ++ last ∷ []), [])
    → ◌≡◌ {A = Me PlannedAdd BusyView} (port_heard mid.0 (n ∷ []), []) (port_heard v ((ns ++ last ∷ []) ++ n ∷ []), [])
port_again v mid ns last n is =
    (λ i. (port_heard (is i).0 (n ∷ []), []))
    ∙ ap (λ ws. (record v { words = ws }, [])) (append_assoc v.words (ns ++ last ∷ []) (n ∷ []))

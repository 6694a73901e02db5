-- The places of the tasks that suspend, in a list of a sender's tasks, and what receipts tell of them.
use Rattle.std.proofs.Common.{◌≡◌, ℕ, ◌+◌, cond, eqb, Bool, true, false, ◌&&◌, List, [], ◌∷◌, ◌++◌, length, refl, sym, ap, ◌∙◌, arith, append_assoc, eqb-true}
use Rattle.std.specs.Prelude.{Option, Some, None}
use Rattle.std.proofs.lemmas.List.{append-nil}
use Rattle.port_model.specs.Tasks.{TaskView}
use Rattle.process_receipts.specs.declared.receipt.Outcome.{Outcome}
use Rattle.process_receipts.specs.declared.receipt.Outcome.TheVariants.{Accepted, Suspended}
use Rattle.process_receipts.specs.declared.receipt.Receipt.{Receipt}
use Rattle.process_receipts.specs.Asks.{Asked, is_suspended, task_of}
use Rattle.process_receipts.specs.Receipts.{is_put, task_put, accepted, AreReceipts, word_list}
use Rattle.suspended_calls.specs.Numbers.{number_suspended, suspended_numbers}

-- the place of a task, if it suspends
abbrev pub place_of : ℕ → TaskView → List ℕ
place_of place task = cond task.suspends (place ∷ []) []

-- the places of the tasks that suspend, where the first task has this place
abbrev pub places : ℕ → List TaskView → List ℕ
places first [] = []
places first (task ∷ tasks) = place_of first task ++ places (first + 1) tasks

pub places-push : (first : ℕ) (tasks : List TaskView) (task : TaskView) → places first (tasks ++ task ∷ []) ≡ places first tasks ++ place_of (first + length tasks) task
places-push first [] task = append-nil (place_of first task) ∙ ap (λ n. place_of n task) (let e : first ≡ first + 0 = omega arith in e)
places-push first (x ∷ tasks) task =
    ap (λ ns. place_of first x ++ ns) (places-push (first + 1) tasks task)
    ∙ sym (append_assoc (place_of first x) (places (first + 1) tasks) (place_of (first + 1 + length tasks) task))
    ∙ ap (λ n. (place_of first x ++ places (first + 1) tasks) ++ place_of n task) (let e : first + 1 + length tasks ≡ first + length (x ∷ tasks) = omega arith in e)

pub places-more : (tasks : List TaskView) (task : TaskView) → places 0 (tasks ++ task ∷ []) ≡ places 0 tasks ++ place_of (length tasks) task
places-more tasks task = places-push 0 tasks task ∙ ap (λ n. places 0 tasks ++ place_of n task) (let e : 0 + length tasks ≡ length tasks = omega arith in e)

none-more : (tasks : List TaskView) → places 0 (tasks ++ []) ≡ places 0 tasks ++ []
none-more tasks = ap (places 0) (append-nil tasks) ∙ sym (append-nil (places 0 tasks))

-- a call with this outcome
by-outcome : (ask : Asked) (tasks : List TaskView) (outcome : Outcome) (seq : Option ℕ) → seq ≡ cond (is_put outcome) (Some (length tasks)) None
    → places 0 (tasks ++ cond (is_put outcome) (task_of ask outcome ∷ []) []) ≡ places 0 tasks ++ cond (is_suspended outcome) (word_list seq) []
by-outcome ask tasks Suspended seq is = places-more tasks (task_of ask Suspended) ∙ ap (λ o. places 0 tasks ++ word_list o) (sym is)
by-outcome ask tasks Accepted seq is = places-more tasks (task_of ask Accepted)
by-outcome ask tasks outcome seq is = none-more tasks

-- a call to this port, or to another one
by-port : (port : ℕ) (ask : Asked) (asks : List Asked) (receipt : Receipt) (receipts : List Receipt) → receipt.port ≡ ask.port
    → receipt.seq ≡ cond (is_put receipt.outcome) (Some (length (accepted ask.port asks receipts))) None
    → places 0 (accepted port asks receipts ++ task_put port ask receipt) ≡ places 0 (accepted port asks receipts) ++ number_suspended port receipt
by-port port ask asks receipt receipts to seq =
    let tasks = accepted port asks receipts in
    let put = is_put receipt.outcome in
    let stops = is_suspended receipt.outcome in
    let sent : (b : Bool) → eqb ask.port port ≡ b
    → places 0 (tasks ++ cond (b && put) (task_of ask receipt.outcome ∷ []) []) ≡ places 0 tasks ++ cond (b && stops) (word_list receipt.seq) [] =
    λ b. elim b as (λ b. eqb ask.port port ≡ b → places 0 (tasks ++ cond (b && put) (task_of ask receipt.outcome ∷ []) []) ≡ places 0 tasks ++ cond (b && stops) (word_list receipt.seq) []) [
      | true ↦ λ same. by-outcome ask tasks receipt.outcome receipt.seq
          (seq ∙ ap (λ p. cond put (Some (length (accepted p asks receipts))) None) (eqb-true ask.port port same))
      | false ↦ λ _. none-more tasks
    ] in
    sent (eqb ask.port port) refl ∙ ap (λ p. places 0 tasks ++ cond (eqb p port && stops) (word_list receipt.seq) []) (sym to)

-- what receipts tell suspended are the places of the tasks that suspend
pub suspended-are-places : (port : ℕ) (soft : List Bool) (asks : List Asked) (receipts : List Receipt) → AreReceipts soft asks receipts
    → suspended_numbers port receipts ≡ places 0 (accepted port asks receipts)
suspended-are-places port soft [] [] are = refl
suspended-are-places port soft [] (receipt ∷ receipts) are = absurd are
suspended-are-places port soft (ask ∷ asks) [] are = absurd are
suspended-are-places port soft (ask ∷ asks) (receipt ∷ receipts) are =
    ap (λ ns. ns ++ number_suspended port receipt) (suspended-are-places port soft asks receipts are.1)
    ∙ sym (by-port port ask asks receipt receipts are.0.port are.0.seq)

-- Few calls, and short ones: none is refused for its size or its number.
use Rattle.std.proofs.Common.{◌≡◌, ℕ, ◌≤◌, ◌||◌, zero, suc, Bool, true, false, cond, List, [], ◌∷◌, length, map, take, drop, Some, refl, sym, ap, ◌∙◌, arith, sum_by}
use Rattle.std.specs.List.{AllByRecursion}
use Rattle.std.proofs.lemmas.Bool.{eqb-true, true≢false}
use Rattle.std.proofs.lemmas.List.{length-append, length-take}
use Rattle.std.proofs.lemmas.List.Sums.{sum_by-cons}
use Rattle.echoed_history.specs.port_history.port_model.Signals.{data_size}
use Rattle.run_output.specs.script_run.run_opening.run_end.process_job.Asks.{asks_of, command_ask, ends_file, made_of, made_of_step, pieces_up_to}
use Rattle.process_end.specs.process_receipts.Asks.{Asked}
use Rattle.process_end.specs.process_receipts.declared.how.How.TheVariants.{Plain}
use Rattle.process_end.specs.process_receipts.declared.receipt.Receipt.{Receipt}
use Rattle.run_output.specs.script_run.run_opening.run_end.process_job.script_plan.declared.step.Act.{Act}
use Rattle.run_output.specs.script_run.run_opening.run_end.process_job.script_plan.declared.step.Act.TheVariants.{Command, File, Close, SendClose}
use Rattle.run_output.specs.script_run.run_opening.run_end.process_job.script_plan.Plan.{IsWithin}
use Rattle.run_laws.specs.Sending.{IsShort, closes, is_plain, sends_to}
use Rattle.run_laws.proofs.echoed.Answered.{IsShortAsk}
use Rattle.run_laws.proofs.echoed.Asked.{asks-for}
use Rattle.echoed_history.proofs.Lists.{weaker}
use Rattle.run_laws.proofs.echoed.Content.{vector-data}

plain-size : (line port : ℕ) (bytes : List ℕ) → data_size (command_ask line port Plain bytes).signal ≡ length bytes
plain-size line port bytes = ap length (vector-data bytes)

short-pieces : (number line port size count : ℕ) (bytes : List ℕ) → size ≤ 262143 → AllByRecursion (IsShortAsk number) (map (command_ask line port Plain) (pieces_up_to count size bytes))
short-pieces number line port size zero bytes small = tt
short-pieces number line port size (suc count) [] small = tt
short-pieces number line port size (suc count) (b ∷ bytes) small = (
  λ same. let long = plain-size line port (take size (b ∷ bytes)) in
      let least = length-take size (b ∷ bytes) in
      omega (arith, long, least, small),
  short-pieces number line port size count (drop size (b ∷ bytes)) small,
)

plain-short : (number processes ports line : ℕ) (act : Act) (content : List ℕ) → is_plain act ≡ true → IsShort number act → IsWithin processes ports act → AllByRecursion (IsShortAsk number) (asks_of line act content)
plain-short number processes ports line (Command port bytes false false) content plain short within =
    (λ same. let long = plain-size line port bytes in let few = short (eqb-true port number same) in omega (arith, long, few), tt)
plain-short number processes ports line (File port size file false false) content plain short within = short-pieces number line port size (length content) content within.2
plain-short number processes ports line act content plain short within = absurd cc

-- a close has no data
close-short : (number line : ℕ) (act : Act) (content : List ℕ) → closes act ≡ true → AllByRecursion (IsShortAsk number) (asks_of line act content)
close-short number line (Close port) content is = (λ same. omega arith, tt)
close-short number line (SendClose port) content is = (λ same. omega arith, tt)
close-short number line act content is = absurd cc

-- of the owner's steps each call for the port is short
pub short-asks : (number processes ports line : ℕ) (act : Act) (content : List ℕ) → (sends_to act ≡ Some number → (is_plain act || closes act) ≡ true) → IsShort number act → IsWithin processes ports act
    → AllByRecursion (IsShortAsk number) (asks_of line act content)
short-asks number processes ports line act content sent short within = by (is_plain act) (closes act) refl refl
  where
    by : (b c : Bool) → is_plain act ≡ b → closes act ≡ c → AllByRecursion (IsShortAsk number) (asks_of line act content)
    by true c is closed = plain-short number processes ports line act content is short within
    by false true is closed = close-short number line act content closed
    by false false is closed = weaker (λ (a : Asked). sends_to act ≡ Some a.port) (IsShortAsk number) (asks_of line act content)
        (λ a to same. absurd (true≢false (sym (sent (to ∙ ap Some (eqb-true a.port number same))) ∙ (λ i. is i || closed i)))) (asks-for line act content)

-- no more calls were made than the steps make
step-few : (asks : List Asked) (receipts : List Receipt) → length (made_of_step asks receipts) ≤ length asks
step-few [] receipts = omega arith
step-few (ask ∷ asks) [] = omega arith
step-few (ask ∷ asks) (r ∷ receipts) = by (ends_file r.outcome) (step-few asks receipts)
  where
    by : (b : Bool) → length (made_of_step asks receipts) ≤ length asks → suc (length (cond b [] (made_of_step asks receipts))) ≤ suc (length asks)
    by true few = omega arith
    by false few = omega (arith, few)

pub made-few : (calls : List (List Asked)) (receipts : List Receipt) → length (made_of calls receipts) ≤ sum_by length calls
made-few [] receipts = omega arith
made-few (asks ∷ later) receipts =
    let made = made_of_step asks receipts in
    let first = step-few asks receipts in
    let rest = made-few later (drop (length made) receipts) in
    let both = length-append made (made_of later (drop (length made) receipts)) in
    let all = sum_by-cons (length {A = Asked}) asks later in
    omega (arith, first, rest, both, all)

-- What holds of each call that the steps of a process make, and of each by which its ports are told of its end, holds of each that was made, and of what these put.
use Rattle.std.proofs.Common.{◌≡◌, ℕ, zero, suc, ◌+◌, List, [], ◌∷◌, length, drop, reverse, Bool, true, false, ◌&&◌, eqb, cond, refl}
use Rattle.std.specs.List.{AllByRecursion}
use Rattle.port_model.specs.Tasks.{TaskView}
use Rattle.process_receipts.specs.Asks.{Asked, task_of}
use Rattle.process_receipts.specs.Receipts.{accepted, is_put}
use Rattle.process_receipts.specs.declared.receipt.Outcome.{Outcome}
use Rattle.process_receipts.specs.declared.receipt.Receipt.{Receipt}
use Rattle.run_output.specs.run_opening.run_end.process_end.Ended.{gone_ask, gone_asks}
use Rattle.run_output.specs.run_opening.run_end.process_job.Asks.{asks_of, calls_of, end_reason, ends_file, files_after, made_asks, made_of, made_of_step, next_content}
use Rattle.script_plan.specs.Monitors.{is_die}
use Rattle.script_plan.specs.declared.step.Step.{Step}
use Rattle.run_laws.proofs.Lists.{all-append, all-either, all-reverse}

module _ (P : Asked → Type 0) where
  step-made : (asks : List Asked) (receipts : List Receipt) → AllByRecursion P asks → AllByRecursion P (made_of_step asks receipts)
  step-made [] receipts all = tt
  step-made (ask ∷ asks) [] all = tt
  step-made (ask ∷ asks) (receipt ∷ receipts) all = (all.0, all-either P (ends_file receipt.outcome) [] (made_of_step asks receipts) tt (step-made asks receipts all.1))

  steps-made : (calls : List (List Asked)) (receipts : List Receipt) → AllByRecursion (AllByRecursion P) calls → AllByRecursion P (made_of calls receipts)
  steps-made [] receipts all = tt
  steps-made (asks ∷ later) receipts all =
      all-append P (made_of_step asks receipts) (made_of later (drop (length (made_of_step asks receipts)) receipts)) (step-made asks receipts all.0)
      (steps-made later (drop (length (made_of_step asks receipts)) receipts) all.1)

  told-gone : ((reason : List ℕ) (port : ℕ) → P (gone_ask reason port)) → (reason : List ℕ) (from count : ℕ) → AllByRecursion P (gone_asks reason from count)
  told-gone told reason from zero = tt
  told-gone told reason from (suc count) = (told reason (from + count), told-gone told reason from count)

  module _ (Q : Step → Type 0) (asks-have : (step : Step) (content : List ℕ) → Q step → AllByRecursion P (asks_of step.line step.act content)) where
    calls-have : (steps : List Step) (files : List (List ℕ)) → AllByRecursion Q steps → AllByRecursion (AllByRecursion P) (calls_of steps files)
    calls-have [] files all = tt
    calls-have (step ∷ steps) files all =
        all-either (AllByRecursion P) (is_die step.act) [] (asks_of step.line step.act (next_content files) ∷ calls_of steps (files_after step.act files)) tt
        (asks-have step (next_content files) all.0, calls-have steps (files_after step.act files) all.1)

    -- all calls of a process, newest first
    pub all-made : ((reason : List ℕ) (port : ℕ) → P (gone_ask reason port)) → (ports : ℕ) (steps : List Step) (files : List (List ℕ)) (receipts : List Receipt) → AllByRecursion Q steps
        → AllByRecursion P (reverse (made_asks ports steps files receipts))
    all-made told ports steps files receipts all =
        all-reverse P (made_asks ports steps files receipts)
        (all-append P (made_of (calls_of steps files) receipts) (reverse (gone_asks (end_reason steps) 0 ports)) (steps-made (calls_of steps files) receipts (calls-have steps files all))
        (all-reverse P (gone_asks (end_reason steps) 0 ports) (told-gone told (end_reason steps) 0 ports)))

  -- the tasks that they put into the lane of a port
  pub all-accepted : (R : TaskView → Type 0) (port : ℕ) → ((ask : Asked) (outcome : Outcome) → P ask → eqb ask.port port ≡ true → R (task_of ask outcome)) → (asks : List Asked) (receipts : List Receipt)
      → AllByRecursion P asks → AllByRecursion R (accepted port asks receipts)
  all-accepted R port puts [] receipts all = tt
  all-accepted R port puts (ask ∷ asks) [] all = tt
  all-accepted R port puts (ask ∷ asks) (receipt ∷ receipts) all =
      all-append R (accepted port asks receipts) (cond (eqb ask.port port && is_put receipt.outcome) (task_of ask receipt.outcome ∷ []) []) (all-accepted R port puts asks receipts all.1)
      (put (eqb ask.port port) (is_put receipt.outcome) (puts ask receipt.outcome all.0))
    where
      put : (b c : Bool) → (b ≡ true → R (task_of ask receipt.outcome)) → AllByRecursion R (cond (b && c) (task_of ask receipt.outcome ∷ []) [])
      put true true r = (r refl, tt)
      put true false r = tt
      put false c r = tt

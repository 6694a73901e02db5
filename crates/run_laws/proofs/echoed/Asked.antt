-- The calls that a process makes by its steps, and their order.
use Rattle.std.proofs.Common.{◌≡◌, ℕ, ◌==◌, ◌||◌, Bool, true, false, cond, List, [], ◌∷◌, ◌++◌, length, map, drop, Option, Some, None, refl, sym, ap, ◌∙◌, subst, inl, inr, ◌⊎◌, ⊎_elim, append_assoc}
use Rattle.std.specs.Prelude.{reverse}
use Rattle.std.specs.List.{AllByRecursion}
use Rattle.std.proofs.lemmas.Bool.{cases_eq, eqb-true, true≢false}
use Rattle.std.proofs.lemmas.List.{reverse-append, reverse-reverse}
use Rattle.std.proofs.lemmas.List.Elements.{recursion_from_All}
use Rattle.process_end.specs.Ended.{gone_asks}
use Rattle.run_output.specs.script_run.run_opening.run_end.process_job.Asks.{asks_of, calls_of, command_ask, end_reason, ends_file, files_after, made_asks, made_of, made_of_step, next_content, pieces}
use Rattle.process_end.specs.process_receipts.Asks.{Asked}
use Rattle.process_end.specs.process_receipts.declared.how.How.{How}
use Rattle.process_end.specs.process_receipts.declared.how.How.TheVariants.{Plain}
use Rattle.process_end.specs.process_receipts.declared.receipt.Receipt.{Receipt}
use Rattle.run_output.specs.script_run.run_opening.run_end.process_job.script_plan.declared.step.Step.{Step}
use Rattle.run_output.specs.script_run.run_opening.run_end.process_job.script_plan.declared.step.Act.{Act}
use Rattle.run_output.specs.script_run.run_opening.run_end.process_job.script_plan.declared.step.Act.TheVariants.{Command, File, Send, Control, Call, Close, Connect, SendClose, SendConnect, Link, Unlink, Monitor, Demonitor, Exit}
use Rattle.run_output.specs.script_run.run_opening.run_end.process_job.script_plan.Monitors.{is_die}
use Rattle.run_laws.specs.Sending.{ClosesLast, OnlyClose, closes, is_plain, sends_to}
use Rattle.run_laws.proofs.echoed.Answered.{IsCloseCall, IsOwn}
use Rattle.echoed_history.specs.Commands.{is_plain_command}
use Rattle.echoed_history.proofs.Lists.{both, reversed, weaker}

-- each call of a step is for the port to which its act sends
pieces-for : (line port : ℕ) (how : How) (ps : List (List ℕ)) → AllByRecursion (λ (a : Asked). Some port ≡ Some a.port) (map (command_ask line port how) ps)
pieces-for line port how [] = tt
pieces-for line port how (p ∷ ps) = (refl, pieces-for line port how ps)

pub asks-for : (line : ℕ) (act : Act) (content : List ℕ) → AllByRecursion (λ (a : Asked). sends_to act ≡ Some a.port) (asks_of line act content)
asks-for line (Command port bytes force nosuspend) content = (refl, tt)
asks-for line (File port size file force nosuspend) content = pieces-for line port _ (pieces size content)
asks-for line (Send port bytes) content = (refl, tt)
asks-for line (Control port op bytes) content = (refl, tt)
asks-for line (Call port op bytes) content = (refl, tt)
asks-for line (Close port) content = (refl, tt)
asks-for line (Connect port to) content = (refl, tt)
asks-for line (SendClose port) content = (refl, tt)
asks-for line (SendConnect port to) content = (refl, tt)
asks-for line (Link port) content = (refl, tt)
asks-for line (Unlink port) content = (refl, tt)
asks-for line (Monitor port number) content = (refl, tt)
asks-for line (Demonitor port number) content = (refl, tt)
asks-for line (Exit port reason) content = (refl, tt)
asks-for line act content = tt

-- a step of commands without options makes no other call
abbrev IsCommand : Asked → Type 0
IsCommand ask = (is_plain_command ask.signal ≡ true) × (ask.how ≡ Plain)

plain-pieces : (line port : ℕ) (ps : List (List ℕ)) → AllByRecursion IsCommand (map (command_ask line port Plain) ps)
plain-pieces line port [] = tt
plain-pieces line port (p ∷ ps) = ((refl, refl), plain-pieces line port ps)

plain-asks : (line : ℕ) (act : Act) (content : List ℕ) → is_plain act ≡ true → AllByRecursion IsCommand (asks_of line act content)
plain-asks line (Command port bytes false false) content plain = ((refl, refl), tt)
plain-asks line (File port size file false false) content plain = plain-pieces line port (pieces size content)
plain-asks line act content plain = absurd cc

-- a step that doesn't send to the port makes no call for it
pub other-asks : (number line : ℕ) (act : Act) (content : List ℕ) → (sends_to act ≡ Some number → ⊥) → AllByRecursion (λ (a : Asked). (a.port == number) ≡ true → ⊥) (asks_of line act content)
other-asks number line act content none = weaker (λ (a : Asked). sends_to act ≡ Some a.port) (λ (a : Asked). (a.port == number) ≡ true → ⊥) (asks_of line act content)
    (λ a to same. none (to ∙ ap Some (eqb-true a.port number same))) (asks-for line act content)

-- a step that closes the port makes no other call for it
close-asks : (number line : ℕ) (act : Act) (content : List ℕ) → closes act ≡ true → AllByRecursion (IsCloseCall number) (asks_of line act content)
close-asks number line (Close port) content is = (λ same. refl, tt)
close-asks number line (SendClose port) content is = (λ same. refl, tt)
close-asks number line act content is = absurd cc

only-close : (number line : ℕ) (act : Act) (content : List ℕ) → (sends_to act ≡ Some number → closes act ≡ true) → AllByRecursion (IsCloseCall number) (asks_of line act content)
only-close number line act content only = by (closes act) refl
  where
    by : (b : Bool) → closes act ≡ b → AllByRecursion (IsCloseCall number) (asks_of line act content)
    by true is = close-asks number line act content is
    by false is = weaker (λ (a : Asked). sends_to act ≡ Some a.port) (IsCloseCall number) (asks_of line act content)
        (λ a to same. absurd (true≢false (sym (only (to ∙ ap Some (eqb-true a.port number same))) ∙ is))) (asks-for line act content)

same-port : (o : Option ℕ) (number : ℕ) → (o ≡ Some number) ⊎ (o ≡ Some number → ⊥)
same-port None number = inr (λ e. absurd cc)
same-port (Some port) number = ⊎_elim (λ (own : port ≡ number). inl (ap Some own)) (λ (apart : port ≡ number → ⊥). inr (λ e. let own : port ≡ number = cc in apart own)) (cases_eq port number)

-- of the owner's steps each makes calls for the port that are commands without options, or closes the port
step-asks : (number line : ℕ) (act : Act) (content : List ℕ) → (sends_to act ≡ Some number → (is_plain act || closes act) ≡ true)
    → ((sends_to act ≡ Some number) × (closes act ≡ true)) ⊎ AllByRecursion (IsOwn number) (asks_of line act content)
step-asks number line act content sent = ⊎_elim
    (λ (to : sends_to act ≡ Some number). by (is_plain act) refl to)
    (λ (none : sends_to act ≡ Some number → ⊥). inr (weaker (λ (a : Asked). (a.port == number) ≡ true → ⊥) (IsOwn number) (asks_of line act content) (λ a apart same. absurd (apart same))
    (other-asks number line act content none)))
    (same-port (sends_to act) number)
  where
    by : (b : Bool) → is_plain act ≡ b → sends_to act ≡ Some number → ((sends_to act ≡ Some number) × (closes act ≡ true)) ⊎ AllByRecursion (IsOwn number) (asks_of line act content)
    by true is to = inr (weaker IsCommand (IsOwn number) (asks_of line act content) (λ a command same. command) (plain-asks line act content is))
    by false is to = inl (to, subst (λ b. (b || closes act) ≡ true) is (sent to))

-- what holds of the calls of each step holds of those that were made
all-calls : (P : Asked → Type 0) (steps : List Step) (files : List (List ℕ)) → AllByRecursion (λ (s : Step). (content : List ℕ) → AllByRecursion P (asks_of s.line s.act content)) steps
    → AllByRecursion (AllByRecursion P) (calls_of steps files)
all-calls P [] files all = tt
all-calls P (step ∷ steps) files all = ends (is_die step.act) (all-calls P steps (files_after step.act files) all.1)
  where
    ends : (b : Bool) → AllByRecursion (AllByRecursion P) (calls_of steps (files_after step.act files))
        → AllByRecursion (AllByRecursion P) (cond b [] (asks_of step.line step.act (next_content files) ∷ calls_of steps (files_after step.act files)))
    ends true rest = tt
    ends false rest = (all.0 (next_content files), rest)

pub step-made : (P : Asked → Type 0) (asks : List Asked) (receipts : List Receipt) → AllByRecursion P asks → AllByRecursion P (made_of_step asks receipts)
step-made P [] receipts all = tt
step-made P (ask ∷ asks) [] all = tt
step-made P (ask ∷ asks) (r ∷ receipts) all = (all.0, more (ends_file r.outcome) (step-made P asks receipts all.1))
  where
    more : (b : Bool) → AllByRecursion P (made_of_step asks receipts) → AllByRecursion P (cond b [] (made_of_step asks receipts))
    more true rest = tt
    more false rest = rest

all-made : (P : Asked → Type 0) (calls : List (List Asked)) (receipts : List Receipt) → AllByRecursion (AllByRecursion P) calls → AllByRecursion P (made_of calls receipts)
all-made P [] receipts all = tt
all-made P (asks ∷ later) receipts all =
    both P (made_of_step asks receipts) (made_of later (drop (length (made_of_step asks receipts)) receipts)) (step-made P asks receipts all.0)
    (all-made P later (drop (length (made_of_step asks receipts)) receipts) all.1)

-- the calls of these steps that were made, oldest first: for the port commands without options, and behind them closes
record Parted (number : ℕ) (made : List Asked) : Type 0 where
  pub commands : List Asked
  pub closing : List Asked
  pub are : made ≡ commands ++ closing
  pub own : AllByRecursion (IsOwn number) commands
  pub close : AllByRecursion (IsCloseCall number) closing

only-closed : (number : ℕ) (steps : List Step) (files : List (List ℕ)) (receipts : List Receipt) → OnlyClose number steps → AllByRecursion (IsCloseCall number) (made_of (calls_of steps files) receipts)
only-closed number steps files receipts only = all-made (IsCloseCall number) (calls_of steps files) receipts
    (all-calls (IsCloseCall number) steps files
    (weaker (λ (s : Step). sends_to s.act ≡ Some number → closes s.act ≡ true) (λ (s : Step). (content : List ℕ) → AllByRecursion (IsCloseCall number) (asks_of s.line s.act content)) steps
    (λ s closed content. only-close number s.line s.act content closed) (recursion_from_All (λ (s : Step). sends_to s.act ≡ Some number → closes s.act ≡ true) steps only)))

parted : (number : ℕ) (steps : List Step) (files : List (List ℕ)) (receipts : List Receipt) → AllByRecursion (λ (s : Step). sends_to s.act ≡ Some number → (is_plain s.act || closes s.act) ≡ true) steps
    → ClosesLast number steps → Parted number (made_of (calls_of steps files) receipts)
parted number [] files receipts sent last = record { commands = []; closing = []; are = refl; own = tt; close = tt }
parted number (step ∷ steps) files receipts sent last = ends (is_die step.act) (parted number steps files' behind sent.1 last.1)
  where
    asks : List Asked
    asks = asks_of step.line step.act (next_content files)

    files' : List (List ℕ)
    files' = files_after step.act files

    first : List Asked
    first = made_of_step asks receipts

    behind : List Receipt
    behind = drop (length first) receipts

    step-parted : Parted number (made_of (calls_of steps files') behind) → Parted number (first ++ made_of (calls_of steps files') behind)
    step-parted rest = ⊎_elim
        (λ (closing : (sends_to step.act ≡ Some number) × (closes step.act ≡ true)). record {
          commands = [];
          closing = first ++ made_of (calls_of steps files') behind;
          are = refl;
          own = tt;
          close = both (IsCloseCall number) first (made_of (calls_of steps files') behind) (step-made (IsCloseCall number) asks receipts (close-asks number step.line step.act (next_content files) closing.1))
              (only-closed number steps files' behind (last.0 closing.0 closing.1));
        })
        (λ (own : AllByRecursion (IsOwn number) asks). record {
          commands = first ++ rest.commands;
          closing = rest.closing;
          are = ap (λ made. first ++ made) rest.are ∙ sym (append_assoc first rest.commands rest.closing);
          own = both (IsOwn number) first rest.commands (step-made (IsOwn number) asks receipts own) rest.own;
          close = rest.close;
        })
        (step-asks number step.line step.act (next_content files) sent.0)

    ends : (b : Bool) → Parted number (made_of (calls_of steps files') behind) → Parted number (made_of (cond b [] (asks ∷ calls_of steps files')) receipts)
    ends true rest = record { commands = []; closing = []; are = refl; own = tt; close = tt }
    ends false rest = step-parted rest

-- the calls that were made, newest first
abbrev pub made_by : List Step → List (List ℕ) → List Receipt → List Asked
made_by steps files receipts = reverse (made_of (calls_of steps files) receipts)

pub steps-made : (P : Asked → Type 0) (steps : List Step) (files : List (List ℕ)) (receipts : List Receipt)
    → AllByRecursion (λ (s : Step). (content : List ℕ) → AllByRecursion P (asks_of s.line s.act content)) steps → AllByRecursion P (made_by steps files receipts)
steps-made P steps files receipts all = reversed P (made_of (calls_of steps files) receipts) (all-made P (calls_of steps files) receipts (all-calls P steps files all))

-- the calls of the owner's steps for its port that were made, newest first: closes behind commands without options
pub record OwnMade (number : ℕ) (made : List Asked) : Type 0 where
  pub commands : List Asked
  pub closing : List Asked
  pub are : closing ++ commands ≡ made
  pub own : AllByRecursion (IsOwn number) commands
  pub close : AllByRecursion (IsCloseCall number) closing

pub own-made : (number : ℕ) (steps : List Step) (files : List (List ℕ)) (receipts : List Receipt) → AllByRecursion (λ (s : Step). sends_to s.act ≡ Some number → (is_plain s.act || closes s.act) ≡ true) steps
    → ClosesLast number steps → OwnMade number (made_by steps files receipts)
own-made number steps files receipts sent last =
    let parts = parted number steps files receipts sent last in
    record {
      commands = reverse parts.commands;
      closing = reverse parts.closing;
      are = sym (ap reverse parts.are ∙ reverse-append parts.commands parts.closing);
      own = reversed (IsOwn number) parts.commands parts.own;
      close = reversed (IsCloseCall number) parts.closing parts.close;
    }

-- and behind them those that tell the ports of the end
pub made-newest : (ports : ℕ) (steps : List Step) (files : List (List ℕ)) (receipts : List Receipt)
    → reverse (made_asks ports steps files receipts) ≡ gone_asks (end_reason steps) 0 ports ++ made_by steps files receipts
made-newest ports steps files receipts =
    let made = made_of (calls_of steps files) receipts in
    let gone = gone_asks (end_reason steps) 0 ports in
    reverse-append made (reverse gone) ∙ ap (λ g. g ++ reverse made) (reverse-reverse gone)

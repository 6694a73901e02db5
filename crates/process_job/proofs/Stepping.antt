-- The steps of a process, one after another.
use Rattle.std.proofs.Common.{◌≡◌, ℕ, ◌+◌, ◌<◌, ◌≤◌, List, [], ◌∷◌, ◌++◌, length, Bool, true, false, cond, Result, Ok, Err, refl, sym, ap, ◌∙◌, subst, append_assoc, arith, inl, inr, nat_lt}
use Rattle.std.specs.Prelude.{map, reverse, drop, filter, IfOk, codes}
use Rattle.std.proofs.lemmas.List.{append-nil, length-append, length-reverse, reverse-append}
use Rattle.std.proofs.lemmas.List.Elements.{filter-append}
use Rattle.std.proofs.lemmas.List.Sums.{sum_by-append}
use Rattle.std.proofs.lemmas.Bool.Decides.{nat_tests}
use Rattle.std.proofs.Math.Seq.{drop-append_seam}
use Rattle.port_model.specs.declared.mail.Mail.{Mail}
use Rattle.port_words.specs.busy.Known.{SendKnown}
use Rattle.process_end.specs.process_receipts.declared.receipt.Receipt.{Receipt}
use Rattle.process_end.specs.process_receipts.Asks.{Asked}
use Rattle.script_plan.specs.declared.step.Step.{Step}
use Rattle.script_plan.specs.declared.step.Act.{Act}
use Rattle.script_plan.specs.declared.step.Act.TheVariants.{Command, File, Send, Control, Call, Close, Connect, SendClose, SendConnect, Link, Unlink, Monitor, Demonitor, Exit, Expect, Bytes, Die}
use Rattle.script_plan.specs.Monitors.{is_die}
use Rattle.script_plan.specs.Plan.{IsWithin}
use Rattle.process_job.specs.declared.action.StepAction.{StepAction}
use Rattle.process_job.specs.declared.action.StepAction.TheVariants as action
use Rattle.process_job.specs.Asks.{is_file, asks_of, calls_of, end_reason, reason_of, files_after, made_of, made_of_step, next_content}
use Rattle.process_job.specs.Mails.{Came, messages_of, bytes_of, is_data_of, size_from}
use Rattle.process_job.specs.Waits.{HasWaited, WaitIsShown, WaitsAreShown}
use Rattle.process_job.specs.Actions.{action_of, asks_by, ActionWithin, EndedWait}
use Rattle.process_job.specs.Going.{ProcessState, Goes}
use Rattle.process_job.specs.Steps.{AreMadeOf, HasComeTo, HasMadeSteps, IsLater, MakesCallsOf}
use Rattle.process_job.proofs.Goings.{goes_none, makes_then}
use Rattle.process_job.proofs.Shut.{stays_closed}

-- what an action is of its step
pub record IsActionOf (line : ℕ) (act : Act) (content : List ℕ) (action : StepAction) : Type 0 where
  pub asks : asks_by action ≡ asks_of line act content
  pub alive : is_die act ≡ false
  pub waited : (mails : List Mail) (seats : List SendKnown) → EndedWait action mails seats → HasWaited mails seats act
  pub within : (processes ports : ℕ) → IsWithin processes ports act → ActionWithin processes ports action

below_true : (n m : ℕ) → n < m → nat_lt n m ≡ true
below_true n m lt = grind (arith, nat_tests)

of_action : (line : ℕ) (act : Act) (content : List ℕ) → IfOk (action_of line act content) (IsActionOf line act content)
of_action line (Command port bytes force nosuspend) content = record { asks = refl; alive = refl; waited = λ m s e. tt; within = λ p q w. w }
of_action line (File port size file force nosuspend) content = record { asks = refl; alive = refl; waited = λ m s e. tt; within = λ p q w. (w.0, w.1) }
of_action line (Send port bytes) content = record { asks = refl; alive = refl; waited = λ m s e. tt; within = λ p q w. w }
of_action line (Control port op bytes) content = record { asks = refl; alive = refl; waited = λ m s e. tt; within = λ p q w. (w, refl) }
of_action line (Call port op bytes) content = record { asks = refl; alive = refl; waited = λ m s e. tt; within = λ p q w. (w, refl) }
of_action line (Close port) content = record { asks = refl; alive = refl; waited = λ m s e. tt; within = λ p q w. (w, refl) }
of_action line (Connect port to) content = record { asks = refl; alive = refl; waited = λ m s e. tt; within = λ p q w. (w.0, below_true to p w.1) }
of_action line (SendClose port) content = record { asks = refl; alive = refl; waited = λ m s e. tt; within = λ p q w. (w, refl) }
of_action line (SendConnect port to) content = record { asks = refl; alive = refl; waited = λ m s e. tt; within = λ p q w. (w.0, below_true to p w.1) }
of_action line (Link port) content = record { asks = refl; alive = refl; waited = λ m s e. tt; within = λ p q w. (w, refl) }
of_action line (Unlink port) content = record { asks = refl; alive = refl; waited = λ m s e. tt; within = λ p q w. (w, refl) }
of_action line (Monitor port number) content = record { asks = refl; alive = refl; waited = λ m s e. tt; within = λ p q w. (w, refl) }
of_action line (Demonitor port number) content = record { asks = refl; alive = refl; waited = λ m s e. tt; within = λ p q w. (w, refl) }
of_action line (Exit port reason) content = record { asks = refl; alive = refl; waited = λ m s e. tt; within = λ p q w. (w, refl) }
of_action line (Expect port count) content = record { asks = refl; alive = refl; waited = λ m s e. e; within = λ p q w. w }
of_action line (Bytes port count) content = record { asks = refl; alive = refl; waited = λ m s e. e; within = λ p q w. w }
of_action line (Die reason) content = tt

-- a step that sends no file comes to the same with any content
pub unread_content : (line : ℕ) (act : Act) (x y : List ℕ) → is_file act ≡ false → action_of line act x ≡ action_of line act y
unread_content line (File port size file force nosuspend) x y e = absurd cc
unread_content line _ x y e = refl

pub is_action : (line : ℕ) (act : Act) (content : List ℕ) (action : StepAction) → Ok action ≡ action_of line act content → IsActionOf line act content action
is_action line act content action e = let h = of_action line act content in subst (λ r. IfOk r (IsActionOf line act content)) (sym e) h

-- where there is no port, no action is within
pub no_action : (processes ports : ℕ) (a : StepAction) → ActionWithin processes ports a → ports ≡ 0 → ⊥
no_action processes ports (action.Command form bytes) within none = omega (arith, within, none)
no_action processes ports (action.File file) within none = (let w = within.0 in omega (arith, w, none))
no_action processes ports (action.Signal call) within none = (let w = within.0 in omega (arith, w, none))
no_action processes ports (action.Wait port wanted) within none = omega (arith, within, none)

-- and the reason for which a step ends the process
pub ends_with : (line : ℕ) (act : Act) (content reason : List ℕ) (r : Result StepAction (List ℕ)) → r ≡ Err reason → r ≡ action_of line act content → (is_die act ≡ true) × ((later : List ℕ) → reason_of act later ≡ reason)
ends_with line (Die why) content reason r e f = (refl, λ later. same_error why reason r f e)
  where
    same_error : (a b : List ℕ) (r : Result StepAction (List ℕ)) → r ≡ Err a → r ≡ Err b → a ≡ b
    same_error a b r e f = cc
ends_with line _ content reason r e f = absurd cc

-- later there is as much data, and what was found closed stays so
more_messages : (port : ℕ) (mails more : List Mail) (count : ℕ) → count ≤ messages_of port mails → count ≤ messages_of port (mails ++ more)
more_messages port mails more count h = let e = ap length (filter-append (is_data_of port) mails more) ∙ length-append (filter (is_data_of port) mails) (filter (is_data_of port) more) in omega arith

more_bytes : (port : ℕ) (mails more : List Mail) (count : ℕ) → count ≤ bytes_of port mails → count ≤ bytes_of port (mails ++ more)
more_bytes port mails more count h = let e = sum_by-append (size_from port) mails more in omega arith

-- what an act has waited for is shown, whatever comes later
step_shown : (now : ProcessState) (mails : List Mail) (later : List Receipt) (act : Act) → IsLater now mails later → HasWaited now.mails now.proc.seats act → WaitIsShown mails later act
step_shown now mails later (Expect port count) l (inl h) = inl (subst (λ m. count ≤ messages_of port m) (sym l.mails_are) (more_messages port now.mails l.more count h))
step_shown now mails later (Expect port count) l (inr h) = inr (l.closed port h)
step_shown now mails later (Bytes port count) l (inl h) = inl (subst (λ m. count ≤ bytes_of port m) (sym l.mails_are) (more_bytes port now.mails l.more count h))
step_shown now mails later (Bytes port count) l (inr h) = inr (l.closed port h)
step_shown now mails later _ l h = tt

later_goes : (asks : List Asked) (receipts : List Receipt) (came : List Came) (old new : ProcessState) (mails : List Mail) (later : List Receipt)
    → Goes asks receipts came old new → IsLater new mails later → IsLater old mails (reverse receipts ++ later)
later_goes asks receipts came old new mails later f l = record {
  more = map (λ (c : Came). c.mail) came ++ l.more;
  mails_are = l.mails_are ∙ ap (λ m. m ++ l.more) f.mails_are ∙ append_assoc old.mails (map (λ (c : Came). c.mail) came) l.more;
  closed = λ k found. stays_closed k receipts later (f.closed k found) (l.closed k (λ d. (f.ports.same_seats k d).closed (found d)));
}

pub come_none : (steps : List Step) (files : List (List ℕ)) (s : ProcessState) → HasComeTo steps files s steps files s
come_none steps files s = record {
  asks = [];
  receipts = [];
  came = [];
  makes = record { goes = goes_none s; replied = tt };
  made = λ later. refl;
  reason = refl;
  waited = λ mails later l h. h;
}

pub empty_list : {A : Type 0} (xs : List A) → length xs ≡ 0 → xs ≡ []
empty_list [] e = refl
empty_list (x ∷ xs) e = absurd (omega arith)

same_many : (asks : List Asked) (receipts : List Receipt) → length asks ≡ length receipts → length (reverse asks) ≡ length (reverse receipts)
same_many asks receipts e = length-reverse asks ∙ e ∙ sym (length-reverse receipts)

made_first : (calls : List Asked) (rest : List (List Asked)) (asks : List Asked) (receipts : List Receipt) → length asks ≡ length receipts → AreMadeOf calls asks receipts
    → (later : List Receipt) → made_of (calls ∷ rest) (reverse receipts ++ later) ≡ reverse asks ++ made_of rest later
made_first calls rest asks receipts many made later =
    ap (λ l. l ++ made_of rest (drop (length l) (reverse receipts ++ later))) (made later)
    ∙ ap (λ n. reverse asks ++ made_of rest (drop n (reverse receipts ++ later))) (same_many asks receipts many)
    ∙ ap (λ l. reverse asks ++ made_of rest l) (drop-append_seam (reverse receipts) later)

-- a step that waits makes no call
no_receipts : (asks : List Asked) (receipts : List Receipt) → length asks ≡ length receipts → [] ≡ reverse asks → reverse receipts ≡ []
no_receipts asks receipts many none = let n : length (reverse receipts) ≡ 0 = sym (ap length none ∙ same_many asks receipts many) in empty_list (reverse receipts) n

act_shown : (line : ℕ) (act : Act) (content : List ℕ) (asks : List Asked) (receipts : List Receipt) (new : ProcessState) (mails : List Mail) (later : List Receipt)
    → length asks ≡ length receipts → AreMadeOf (asks_of line act content) asks receipts → IsLater new mails later → HasWaited new.mails new.proc.seats act
    → WaitIsShown mails (reverse receipts ++ later) act
act_shown line (Expect port count) content asks receipts new mails later many made l h =
    subst (λ r. WaitIsShown mails (r ++ later) (Expect port count)) (sym (no_receipts asks receipts many (made later))) (step_shown new mails later (Expect port count) l h)
act_shown line (Bytes port count) content asks receipts new mails later many made l h =
    subst (λ r. WaitIsShown mails (r ++ later) (Bytes port count)) (sym (no_receipts asks receipts many (made later))) (step_shown new mails later (Bytes port count) l h)
act_shown line _ content asks receipts new mails later many made l h = tt

-- what comes behind a step whose calls were made
behind_step : (calls : List Asked) (asks : List Asked) (receipts later : List Receipt) → length asks ≡ length receipts → AreMadeOf calls asks receipts
    → drop (length (made_of_step calls (reverse receipts ++ later))) (reverse receipts ++ later) ≡ later
behind_step calls asks receipts later many made =
    ap (λ l. drop (length l) (reverse receipts ++ later)) (made later)
    ∙ ap (λ n. drop n (reverse receipts ++ later)) (same_many asks receipts many)
    ∙ drop-append_seam (reverse receipts) later

calls_alive : (step : Step) (rest : List Step) (files : List (List ℕ)) → is_die step.act ≡ false
    → calls_of (step ∷ rest) files ≡ asks_of step.line step.act (next_content files) ∷ calls_of rest (files_after step.act files)
calls_alive step rest files e = ap (λ b. cond b [] (asks_of step.line step.act (next_content files) ∷ calls_of rest (files_after step.act files))) e

reason_alive : (act : Act) (later : List ℕ) → is_die act ≡ false → reason_of act later ≡ later
reason_alive (Die reason) later e = absurd cc
reason_alive _ later e = refl

pub come_more : (steps rest : List Step) (files rest_files : List (List ℕ)) (step : Step) (old mid new : ProcessState) → HasComeTo steps files old (step ∷ rest) rest_files mid
    → is_die step.act ≡ false → (m : MakesCallsOf (asks_of step.line step.act (next_content rest_files)) mid new) → HasWaited new.mails new.proc.seats step.act
    → HasComeTo steps files old rest (files_after step.act rest_files) new
come_more steps rest files rest_files step old mid new h alive m waited = record {
  asks = m.asks ++ h.asks;
  receipts = m.receipts ++ h.receipts;
  came = h.came ++ m.came;
  makes = makes_then h.asks m.asks h.receipts m.receipts h.came m.came old mid new h.makes m.makes;
  made = λ later.
      ap (λ l. made_of (calls_of steps files) (l ++ later)) (reverse-append m.receipts h.receipts)
      ∙ ap (made_of (calls_of steps files)) (append_assoc (reverse h.receipts) (reverse m.receipts) later)
      ∙ h.made (reverse m.receipts ++ later)
      ∙ ap (λ l. reverse h.asks ++ made_of l (reverse m.receipts ++ later)) (calls_alive step rest rest_files alive)
      ∙ ap (λ l. reverse h.asks ++ l) (made_first (asks_of step.line step.act (next_content rest_files)) (calls_of rest (files_after step.act rest_files)) m.asks m.receipts m.makes.goes.many m.made later)
      ∙ sym (append_assoc (reverse h.asks) (reverse m.asks) (made_of (calls_of rest (files_after step.act rest_files)) later))
      ∙ ap (λ l. l ++ made_of (calls_of rest (files_after step.act rest_files)) later) (sym (reverse-append m.asks h.asks));
  reason = h.reason ∙ reason_alive step.act (end_reason rest) alive;
  waited = λ mails later l behind.
      subst (λ r. WaitsAreShown mails r steps files) (sym (ap (λ r. r ++ later) (reverse-append m.receipts h.receipts) ∙ append_assoc (reverse h.receipts) (reverse m.receipts) later))
      (h.waited mails (reverse m.receipts ++ later) (later_goes m.asks m.receipts m.came mid new mails later m.makes.goes l) (
        act_shown step.line step.act (next_content rest_files) m.asks m.receipts new mails later m.makes.goes.many m.made l waited,
        λ _. subst (λ r. WaitsAreShown mails r rest (files_after step.act rest_files))
            (sym (behind_step (asks_of step.line step.act (next_content rest_files)) m.asks m.receipts later m.makes.goes.many m.made)) behind,
      ));
}

calls_ended : (step : Step) (rest : List Step) (files : List (List ℕ)) → is_die step.act ≡ true → calls_of (step ∷ rest) files ≡ []
calls_ended step rest files e = ap (λ b. cond b [] (asks_of step.line step.act (next_content files) ∷ calls_of rest (files_after step.act files))) e

dies_shown : (mails : List Mail) (behind : List Receipt) (act : Act) → is_die act ≡ true → WaitIsShown mails behind act
dies_shown mails behind (Expect port count) e = absurd cc
dies_shown mails behind (Bytes port count) e = absurd cc
dies_shown mails behind _ e = tt

contrary_die : (b : Bool) {X : Type 0} → b ≡ true → b ≡ false → X
contrary_die b e f = absurd cc

pub come_end : (steps rest : List Step) (files rest_files : List (List ℕ)) (step : Step) (reason : List ℕ) (old new : ProcessState) → HasComeTo steps files old (step ∷ rest) rest_files new
    → is_die step.act ≡ true → ((later : List ℕ) → reason_of step.act later ≡ reason) → HasMadeSteps steps files old new reason
come_end steps rest files rest_files step reason old new h dies is = record {
  asks = h.asks;
  receipts = h.receipts;
  came = h.came;
  makes = h.makes;
  made = λ later. h.made later ∙ ap (λ l. reverse h.asks ++ made_of l later) (calls_ended step rest rest_files dies) ∙ append-nil (reverse h.asks);
  reason_is = sym (h.reason ∙ is (end_reason rest));
  waited = λ mails later l. h.waited mails later l (dies_shown mails later step.act dies, λ alive. contrary_die (is_die step.act) dies alive);
}

pub come_all : (steps : List Step) (files rest_files : List (List ℕ)) (reason : List ℕ) (old new : ProcessState) → HasComeTo steps files old [] rest_files new → reason ≡ codes "normal"
    → HasMadeSteps steps files old new reason
come_all steps files rest_files reason old new h is = record {
  asks = h.asks;
  receipts = h.receipts;
  came = h.came;
  makes = h.makes;
  made = λ later. h.made later ∙ append-nil (reverse h.asks);
  reason_is = is ∙ sym h.reason;
  waited = λ mails later l. h.waited mails later l tt;
}

-- what is shown stays so with more mail
wait_more : (mails more : List Mail) (behind : List Receipt) (act : Act) → WaitIsShown mails behind act → WaitIsShown (mails ++ more) behind act
wait_more mails more behind (Expect port count) (inl h) = inl (more_messages port mails more count h)
wait_more mails more behind (Expect port count) (inr h) = inr h
wait_more mails more behind (Bytes port count) (inl h) = inl (more_bytes port mails more count h)
wait_more mails more behind (Bytes port count) (inr h) = inr h
wait_more mails more behind _ h = tt

pub waits_more : (mails more : List Mail) (receipts : List Receipt) (steps : List Step) (files : List (List ℕ)) → WaitsAreShown mails receipts steps files → WaitsAreShown (mails ++ more) receipts steps files
waits_more mails more receipts [] files h = tt
waits_more mails more receipts (step ∷ steps) files h = (wait_more mails more receipts step.act h.0, λ alive. waits_more mails more _ steps _ (h.1 alive))

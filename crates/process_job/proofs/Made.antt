-- The calls of a step that were made.
use Rattle.std.proofs.Common.{◌≡◌, ℕ, ◌-◌, ◌≤◌, List, [], ◌∷◌, ◌++◌, length, Bool, true, false, cond, ◌&&◌, not, Some, None, Result, zero, suc, refl, sym, ap, ◌∙◌, subst, append_assoc, arith, Ok, Err, inl, inr}
use Rattle.std.specs.Prelude.{◌↔◌, IsTrue, map, reverse, take, drop, unwrap_or}
use Rattle.std.proofs.lemmas.Bool.{false≢true}
use Rattle.std.proofs.lemmas.List.{append-nil, reverse-append, length-drop}
use Rattle.port_model.specs.declared.mail.Mail.{Mail}
use Rattle.process_end.specs.process_receipts.declared.how.How.{How}
use Rattle.process_end.specs.process_receipts.declared.how.How.TheVariants.{Plain, Owner, NoSuspend, Force, ForceNoSuspend}
use Rattle.process_end.specs.process_receipts.declared.receipt.Receipt.{Receipt}
use Rattle.process_end.specs.process_receipts.Asks.{Asked, asked}
use Rattle.process_end.specs.process_receipts.Receipts.{is_put}
use Rattle.process_end.specs.declared.answers.Commanded.{Commanded}
use Rattle.process_end.specs.declared.answers.Commanded.TheVariants as commanded
use Rattle.process_end.specs.declared.answers.SendRefusal.{SendRefusal}
use Rattle.process_end.specs.declared.answers.SendRefusal.TheVariants as refused
use Rattle.process_end.specs.Commanded.{command_of, proc_in, HasCommanded, IsCommanded, HasSignalled, IsRefusal}
use Rattle.process_end.specs.process_receipts.declared.receipt.Outcome.TheVariants.{Accepted}
use Rattle.process_end.proofs.Adds.{split}
use Rattle.process_end.specs.Views.{ProcView}
use Rattle.process_end.specs.Calls.{HasMade}
use Rattle.process_job.specs.Asks.{pieces, pieces_up_to, made_of_step, ends_file}
use Rattle.process_job.specs.Mails.{Came, came_from, noproc_mail, is_replied, is_closed, HasReply}
use Rattle.process_job.specs.Going.{ProcessState, state, MakesCalls, Waits}
use Rattle.process_job.specs.Steps.{AreMadeOf, MakesCallsOf, MakesCommand}
use Rattle.process_job.proofs.Goings.{goes_made, goes_none, goes_then, makes_then}

pub made_one : (ask : Asked) (receipt : Receipt) → AreMadeOf (ask ∷ []) (ask ∷ []) (receipt ∷ [])
made_one ask receipt = λ later. split (ends_file receipt.outcome) (λ e. rw e refl) (λ e. rw e refl)

pub reverse_one : {A : Type 0} (x : A) (xs : List A) → reverse (x ∷ xs) ≡ reverse xs ++ x ∷ []
reverse_one x xs = reverse-append (x ∷ []) xs

-- a step that makes no call
pub makes_none : (old new : ProcessState) → Waits old new → MakesCallsOf [] old new
makes_none old new w = record { asks = []; receipts = []; came = w.0; makes = record { goes = w.1; replied = tt }; made = λ later. refl }

-- the calls of a step so far, and those that are left
pub record HasSentOf (all rest : List Asked) (old new : ProcessState) : Type 0 where
  pub asks : List Asked
  pub receipts : List Receipt
  pub came : List Came
  pub makes : MakesCalls asks receipts came old new
  pub made : (later : List Receipt) → made_of_step all (reverse receipts ++ later) ≡ reverse asks ++ made_of_step rest later

pub sent_none : (all : List Asked) (s : ProcessState) → HasSentOf all all s s
sent_none all s = record { asks = []; receipts = []; came = []; makes = record { goes = goes_none s; replied = tt }; made = λ later. refl }

pub sent_all : (all : List Asked) (old new : ProcessState) → HasSentOf all [] old new → MakesCallsOf all old new
sent_all all old new h = record { asks = h.asks; receipts = h.receipts; came = h.came; makes = h.makes; made = λ later. h.made later ∙ append-nil (reverse h.asks) }

-- one more call, with what it leaves of the rest
made_next : (all rest : List Asked) (ask : Asked) (receipt : Receipt) (asks : List Asked) (receipts : List Receipt)
    → ((later : List Receipt) → made_of_step all (reverse receipts ++ later) ≡ reverse asks ++ made_of_step (ask ∷ rest) later)
    → (later : List Receipt) → made_of_step all (reverse (receipt ∷ receipts) ++ later) ≡ reverse (ask ∷ asks) ++ cond (ends_file receipt.outcome) [] (made_of_step rest later)
made_next all rest ask receipt asks receipts made later =
    ap (λ l. made_of_step all (l ++ later)) (reverse_one receipt receipts)
    ∙ ap (made_of_step all) (append_assoc (reverse receipts) (receipt ∷ []) later)
    ∙ made (receipt ∷ later)
    ∙ sym (append_assoc (reverse asks) (ask ∷ []) (cond (ends_file receipt.outcome) [] (made_of_step rest later)))
    ∙ ap (λ l. l ++ cond (ends_file receipt.outcome) [] (made_of_step rest later)) (sym (reverse_one ask asks))

pub sent_more : (all rest : List Asked) (ask : Asked) (one two three : ProcessState) (more : Bool) → HasSentOf all (ask ∷ rest) one two → MakesCommand ask two three more → more ≡ true
    → HasSentOf all rest one three
sent_more all rest ask one two three more h m e = record {
  asks = ask ∷ h.asks;
  receipts = m.receipt ∷ h.receipts;
  came = h.came ++ m.came;
  makes = makes_then h.asks (ask ∷ []) h.receipts (m.receipt ∷ []) h.came m.came one two three h.makes m.makes;
  made = λ later. made_next all rest ask m.receipt h.asks h.receipts h.made later
      ∙ ap (λ b. reverse (ask ∷ h.asks) ++ cond b [] (made_of_step rest later)) (not_true (ends_file m.receipt.outcome) (sym m.more_is ∙ e));
} where
  not_true : (b : Bool) → not b ≡ true → b ≡ false
  not_true true e = absurd cc
  not_true false e = refl

pub sent_last : (all rest : List Asked) (ask : Asked) (one two three : ProcessState) (more : Bool) → HasSentOf all (ask ∷ rest) one two → MakesCommand ask two three more → more ≡ false
    → MakesCallsOf all one three
sent_last all rest ask one two three more h m e = record {
  asks = ask ∷ h.asks;
  receipts = m.receipt ∷ h.receipts;
  came = h.came ++ m.came;
  makes = makes_then h.asks (ask ∷ []) h.receipts (m.receipt ∷ []) h.came m.came one two three h.makes m.makes;
  made = λ later. made_next all rest ask m.receipt h.asks h.receipts h.made later
      ∙ ap (λ b. reverse (ask ∷ h.asks) ++ cond b [] (made_of_step rest later)) (not_false (ends_file m.receipt.outcome) (sym m.more_is ∙ e))
      ∙ append-nil (reverse (ask ∷ h.asks));
} where
  not_false : (b : Bool) → not b ≡ false → b ≡ true
  not_false true e = refl
  not_false false e = absurd cc

pub one_made : (ask : Asked) (old new : ProcessState) (more : Bool) → MakesCommand ask old new more → MakesCallsOf (ask ∷ []) old new
one_made ask old new more m = record { asks = ask ∷ []; receipts = m.receipt ∷ []; came = m.came; makes = m.makes; made = made_one ask m.receipt }

-- pieces
enough : (n m size : ℕ) (xs : List ℕ) → 1 ≤ size → length xs ≤ n → length xs ≤ m → pieces_up_to n size xs ≡ pieces_up_to m size xs
enough zero zero size xs pos a b = refl
enough zero (suc m) size [] pos a b = refl
enough zero (suc m) size (x ∷ xs) pos a b = absurd (omega arith)
enough (suc n) zero size [] pos a b = refl
enough (suc n) zero size (x ∷ xs) pos a b = absurd (omega arith)
enough (suc n) (suc m) size [] pos a b = refl
enough (suc n) (suc m) size (x ∷ xs) pos a b =
    let l = length-drop size (x ∷ xs) in
    ap (λ ps. take size (x ∷ xs) ∷ ps) (enough n m size (drop size (x ∷ xs)) pos (omega arith) (omega arith))

pub pieces_more : (size : ℕ) (content : List ℕ) → 1 ≤ size → (content ≡ [] → ⊥) → pieces size content ≡ take size content ∷ pieces size (drop size content)
pieces_more size [] pos some = absurd (some refl)
pieces_more size (x ∷ xs) pos some =
    let l = length-drop size (x ∷ xs) in
    ap (λ ps. take size (x ∷ xs) ∷ ps) (enough (length xs) (length (drop size (x ∷ xs))) size (drop size (x ∷ xs)) pos (omega arith) (omega arith))

pub pieces_none : (size : ℕ) (content : List ℕ) → content ≡ [] → pieces size content ≡ []
pieces_none size content e = ap (pieces size) e

-- a command is told nothing where its port is closed, and isn't answered
pub command_adds_none : (b : Bool) (line port : ℕ) (how : How) (payload : List (List ℕ)) → cond b (noproc_mail port (command_of how payload)) [] ≡ []
command_adds_none b line port Plain payload = split b (λ e. rw e refl) (λ e. rw e refl)
command_adds_none b line port Owner payload = split b (λ e. rw e refl) (λ e. rw e refl)
command_adds_none b line port NoSuspend payload = split b (λ e. rw e refl) (λ e. rw e refl)
command_adds_none b line port Force payload = split b (λ e. rw e refl) (λ e. rw e refl)
command_adds_none b line port ForceNoSuspend payload = split b (λ e. rw e refl) (λ e. rw e refl)

command_unanswered : (how : How) (payload : List (List ℕ)) (b : Bool) → (is_replied (command_of how payload) && b) ≡ true → ⊥
command_unanswered Plain payload b e = cc
command_unanswered Owner payload b e = cc
command_unanswered NoSuspend payload b e = cc
command_unanswered Force payload b e = cc
command_unanswered ForceNoSuspend payload b e = cc

-- a command that was made, and what the process waited after it
pub command_made : (line port : ℕ) (how : How) (payload : List (List ℕ)) (receipt : Receipt) (old mid new : ProcView) (mails new_mails : List Mail) (more : Bool)
    → HasMade old (asked line port (command_of how payload) how) mid receipt → Waits (state mid mails) (state new new_mails) → more ≡ not (ends_file receipt.outcome)
    → MakesCommand (asked line port (command_of how payload) how) (state old mails) (state new new_mails) more
command_made line port how payload receipt old mid new mails new_mails more h w is =
    let ask : Asked = asked line port (command_of how payload) how in
    record {
      receipt = receipt;
      came = w.0;
      makes = record {
        goes = goes_then (ask ∷ []) [] (receipt ∷ []) [] [] w.0 (state old mails) (state mid mails) (state new new_mails)
            (goes_made ask receipt old mid mails mails [] h (command_adds_none (is_closed receipt.outcome) line port how payload) (sym (append-nil mails))) w.1;
        replied = (λ e. absurd (command_unanswered how payload (is_put receipt.outcome) e), tt);
      };
      more_is = is;
    }

-- by what it answers
pub command_goes : (line port : ℕ) (how : How) (payload : List (List ℕ)) (answer : Commanded) (old new : ProcView) (mails new_mails : List Mail) (more : Bool)
    → HasCommanded old (asked line port (command_of how payload) how) answer → (answer ≡ commanded.Refused (proc_in answer) refused.NoMemory → ⊥)
    → Waits (state (proc_in answer) mails) (state new new_mails)
    → ((receipt : Receipt) (len : ℕ) → IsCommanded receipt len answer → more ≡ not (ends_file receipt.outcome))
    → MakesCommand (asked line port (command_of how payload) how) (state old mails) (state new new_mails) more
command_goes line port how payload answer old new mails new_mails more (inl h) some w is =
    command_made line port how payload h.0 old (proc_in answer) new mails new_mails more h.1 w (is h.0 _ h.2)
command_goes line port how payload answer old new mails new_mails more (inr h) some w is = absurd (some h.1)

put_memory : (n : ℕ) (r : Result ℕ SendRefusal) → r ≡ Ok n → r ≡ Err refused.NoMemory → ⊥
put_memory n r e f = cc

same_refusal : (why : SendRefusal) (r s : Result ℕ SendRefusal) → r ≡ Err why → s ≡ Err refused.NoMemory → r ≡ s → why ≡ refused.NoMemory
same_refusal why r s e f g = cc

pub same_command_refusal : (p q : ProcView) (why other : SendRefusal) (a b : Commanded) → a ≡ commanded.Refused p why → b ≡ commanded.Refused q other → a ≡ b → why ≡ other
same_command_refusal p q why other a b e f g = cc

pub some_bytes : (b : Bool) (bytes : List ℕ) → IsTrue b ↔ (bytes ≡ []) → b ≡ false → bytes ≡ [] → ⊥
some_bytes b bytes h e is = false≢true (sym e ∙ h.1 is)

pub not_true : (b : Bool) → not b ≡ true → b ≡ false
not_true true e = absurd cc
not_true false e = refl

pub not_false : (b : Bool) → not b ≡ false → b ≡ true
not_false true e = refl
not_false false e = absurd cc

-- a signal that was put and isn't answered
pub signal_put : (ask : Asked) (old mid : ProcView) (mails : List Mail) (seq : ℕ) → HasSignalled old ask mid (Ok seq) → is_replied ask.signal ≡ false
    → MakesCallsOf (ask ∷ []) (state old mails) (state mid mails)
signal_put ask old mid mails seq (inl h) quiet = record {
  asks = ask ∷ [];
  receipts = h.0 ∷ [];
  came = [];
  makes = record {
    goes = goes_made ask h.0 old mid mails mails [] h.1 (ap (λ o. cond (is_closed o) (noproc_mail ask.port ask.signal) []) h.2.0) (sym (append-nil mails));
    replied = (λ e. absurd (not_both (is_replied ask.signal) (is_put h.0.outcome) quiet e), tt);
  };
  made = made_one ask h.0;
} where
  not_both : (a b : Bool) → a ≡ false → (a && b) ≡ true → ⊥
  not_both true b e f = cc
  not_both false b e f = cc
signal_put ask old mid mails seq (inr h) quiet = absurd (put_memory seq (Ok seq) refl h.1)

seq_put : (receipt : Receipt) (number seq : ℕ) → receipt.seq ≡ cond (is_put receipt.outcome) (Some number) None → receipt.outcome ≡ Accepted → seq ≡ unwrap_or receipt.seq 0 → receipt.seq ≡ Some seq
seq_put receipt number seq is put e =
    let some : receipt.seq ≡ Some number = is ∙ ap (λ o. cond (is_put o) (Some number) None) put in
    some ∙ ap Some (sym (e ∙ ap (λ o. unwrap_or o 0) some))

-- one whose answer came
pub signal_replied : (ask : Asked) (old mid new : ProcView) (mails new_mails : List Mail) (seq : ℕ) → HasSignalled old ask mid (Ok seq) → Waits (state mid mails) (state new new_mails)
    → HasReply ask.port (Some seq) new_mails → MakesCallsOf (ask ∷ []) (state old mails) (state new new_mails)
signal_replied ask old mid new mails new_mails seq (inl h) w reply = record {
  asks = ask ∷ [];
  receipts = h.0 ∷ [];
  came = w.0;
  makes = record {
    goes = goes_then (ask ∷ []) [] (h.0 ∷ []) [] [] w.0 (state old mails) (state mid mails) (state new new_mails)
        (goes_made ask h.0 old mid mails mails [] h.1 (ap (λ o. cond (is_closed o) (noproc_mail ask.port ask.signal) []) h.2.0) (sym (append-nil mails))) w.1;
    replied = (λ e. subst (λ s. HasReply ask.port s new_mails) (sym (seq_put h.0 _ seq h.1.is_receipt.seq h.2.0 h.2.1)) reply, tt);
  };
  made = made_one ask h.0;
}
signal_replied ask old mid new mails new_mails seq (inr h) w reply = absurd (put_memory seq (Ok seq) refl h.1)

-- one that was refused
pub signal_refused : (ask : Asked) (old new : ProcView) (mails new_mails own added : List Mail) (refusal : SendRefusal) → HasSignalled old ask new (Err refusal)
    → (refusal ≡ refused.NoMemory → ⊥) → ((receipt : Receipt) (len : ℕ) → IsRefusal receipt len refusal → is_put receipt.outcome ≡ false)
    → own ≡ noproc_mail ask.port ask.signal → ((receipt : Receipt) (len : ℕ) → IsRefusal receipt len refusal → added ≡ cond (is_closed receipt.outcome) own [])
    → new_mails ≡ mails ++ added → MakesCallsOf (ask ∷ []) (state old mails) (state new new_mails)
signal_refused ask old new mails new_mails own added refusal (inl h) some unput owns adds are = record {
  asks = ask ∷ [];
  receipts = h.0 ∷ [];
  came = map (came_from None) added;
  makes = record {
    goes = goes_made ask h.0 old new mails new_mails added h.1 (sym (adds h.0 _ h.2 ∙ ap (λ l. cond (is_closed h.0.outcome) l []) owns)) are;
    replied = (λ e. absurd (not_put (is_replied ask.signal) (is_put h.0.outcome) (unput h.0 _ h.2) e), tt);
  };
  made = made_one ask h.0;
} where
  not_put : (a b : Bool) → b ≡ false → (a && b) ≡ true → ⊥
  not_put true b e f = cc
  not_put false b e f = cc
signal_refused ask old new mails new_mails own added refusal (inr h) some unput owns adds are = absurd (some (same_refusal refusal (Err refusal) (Err refused.NoMemory) refl refl h.1))

-- The receipts of the owner: the port was open for one of its closes or for its end, and so for each command before.
use Rattle.std.proofs.Common.{◌≡◌, ℕ, ◌+◌, ◌==◌, ◌<◌, ◌≤◌, ◌&&◌, ◌||◌, zero, suc, Bool, true, false, cond, List, [], ◌∷◌, ◌++◌, length, Option, Some, None, refl, sym, ap, ◌∙◌, subst, arith, inl, inr, ◌⊎◌, ⊎_elim, append_assoc}
use Rattle.std.specs.List.{AllByRecursion, list_any}
use Rattle.std.proofs.lemmas.Bool.{ltb-true, eqb-true, eq-eqb, ne_eqb, cases_eq, or_parts, true≢false}
use Rattle.std.proofs.lemmas.List.{append-nil}
use Rattle.std.proofs.lemmas.List.Folds.{list_any-append}
use Rattle.run_output.specs.script_run.run_opening.run_end.port_words.busy.Stat.{Rises, tells_closed}
use Rattle.run_output.specs.script_run.run_opening.run_end.port_words.declared.busy.view.StatMark.{StatMark}
use Rattle.echoed_history.specs.port_history.port_model.declared.signal.Signal.{Signal}
use Rattle.echoed_history.specs.port_history.port_model.declared.signal.Signal.TheVariants.{Command, Close, OwnerClose}
use Rattle.echoed_history.specs.port_history.port_model.Signals.{data_size}
use Rattle.echoed_history.specs.port_history.port_model.Tasks.{TaskView}
use Rattle.process_end.specs.process_receipts.Asks.{Asked, is_dropping, is_forcing, task_of}
use Rattle.process_end.specs.process_receipts.declared.how.How.TheVariants.{Plain}
use Rattle.process_end.specs.process_receipts.declared.receipt.Outcome.{Outcome}
use Rattle.process_end.specs.process_receipts.declared.receipt.Outcome.TheVariants.{Accepted, Suspended, Dropped, Closed, NotSupported, TooLong, SentOut}
use Rattle.process_end.specs.process_receipts.declared.receipt.Receipt.{Receipt}
use Rattle.process_end.specs.process_receipts.Ledgers.{saw_closed}
use Rattle.process_end.specs.process_receipts.Receipts.{is_put, task_put, accepted, HasCause, AreReceipts, soft_at, stats_shown, word_list}
use Rattle.echoed_history.specs.Commands.{AreClosings, is_close, is_closing, is_plain_command}
use Rattle.run_laws.specs.Echoed.{EachBeforeClose, closes_port, is_taken}
use Rattle.process_end.proofs.Stats.{never-closed}
use Rattle.process_end.specs.Ended.{gone_ask, gone_asks}
use Rattle.echoed_history.proofs.Lists.{both}

-- a call for the port is a command without options
abbrev pub IsOwn : ℕ → Asked → Type 0
IsOwn number ask = (ask.port == number) ≡ true → (is_plain_command ask.signal ≡ true) × (ask.how ≡ Plain)

-- a call for the port closes it
abbrev pub IsCloseCall : ℕ → Asked → Type 0
IsCloseCall number ask = (ask.port == number) ≡ true → is_close ask.signal ≡ true

plain-stays : (signal : Signal) → is_plain_command signal ≡ true → is_close signal ≡ false
plain-stays (Command payload) is = refl
plain-stays signal is = absurd cc

pub close-closing : (signal : Signal) → is_close signal ≡ true → is_closing signal ≡ true
close-closing Close is = refl
close-closing OwnerClose is = refl
close-closing signal is = absurd cc

-- no command closes the port
pub own-none : (number : ℕ) (asks : List Asked) → AllByRecursion (IsOwn number) asks → list_any (closes_port number) asks ≡ false
own-none number [] own = refl
own-none number (ask ∷ asks) own = by (ask.port == number) refl (own-none number asks own.1)
  where
    by : (b : Bool) → (ask.port == number) ≡ b → list_any (closes_port number) asks ≡ false → ((b && is_close ask.signal) || list_any (closes_port number) asks) ≡ false
    by true is rest = (λ i. plain-stays ask.signal (own.0 is).0 i || rest i)
    by false is rest = rest

-- what holds of the signal of each call for the port holds of the tasks that were put
task-all : (Q : Signal → Type 0) (number : ℕ) (ask : Asked) (receipt : Receipt) → ((ask.port == number) ≡ true → Q ask.signal) → AllByRecursion (λ (t : TaskView). Q t.signal) (task_put number ask receipt)
task-all Q number ask receipt all = put (ask.port == number) (is_put receipt.outcome) refl
  where
    put : (b p : Bool) → (ask.port == number) ≡ b → AllByRecursion (λ (t : TaskView). Q t.signal) (cond (b && p) (task_of ask receipt.outcome ∷ []) [])
    put true true is = (all is, tt)
    put true false is = tt
    put false p is = tt

pub tasks-all : (Q : Signal → Type 0) (number : ℕ) (asks : List Asked) (receipts : List Receipt) → AllByRecursion (λ (a : Asked). (a.port == number) ≡ true → Q a.signal) asks
    → AllByRecursion (λ (t : TaskView). Q t.signal) (accepted number asks receipts)
tasks-all Q number [] receipts all = tt
tasks-all Q number (ask ∷ asks) [] all = tt
tasks-all Q number (ask ∷ asks) (receipt ∷ receipts) all =
    both _ (accepted number asks receipts) (task_put number ask receipt) (tasks-all Q number asks receipts all.1) (task-all Q number ask receipt all.0)

-- calls for other ports were made behind these
record Aside (number : ℕ) (soft : List Bool) (made asks : List Asked) (receipts : List Receipt) : Type 0 where
  pub rest : List Receipt
  pub made_are : AreReceipts soft made rest
  pub tasks : accepted number asks receipts ≡ accepted number made rest
  pub stats : stats_shown number receipts ≡ stats_shown number rest
  pub each : (test : Outcome → Bool) → EachBeforeClose number test made rest → EachBeforeClose number test asks receipts

-- and the call that tells the port of the end among them
pub record AtEnd (number : ℕ) (soft : List Bool) (reason : List ℕ) (made asks : List Asked) (receipts : List Receipt) : Type 0 where
  pub rest : List Receipt
  pub made_are : AreReceipts soft made rest
  pub end : Receipt
  pub calls : ℕ
  pub cause : HasCause calls (soft_at number soft) (gone_ask reason number) end.outcome end.stat end.msgq
  pub tasks : accepted number asks receipts ≡ accepted number made rest ++ cond (is_put end.outcome) (task_of (gone_ask reason number) end.outcome ∷ []) []
  pub stats : stats_shown number receipts ≡ stats_shown number rest ++ word_list end.stat
  pub each : (test : Outcome → Bool) → EachBeforeClose number test made rest → (list_any (closes_port number) made ≡ false → test end.outcome ≡ true) → EachBeforeClose number test asks receipts

-- a call for another port puts nothing into this one and shows nothing of it
no-task : (number : ℕ) (ask : Asked) (receipt : Receipt) (tasks : List TaskView) → (ask.port ≡ number → ⊥) → tasks ++ task_put number ask receipt ≡ tasks
no-task number ask receipt tasks apart = ap (λ b. tasks ++ cond (b && is_put receipt.outcome) (task_of ask receipt.outcome ∷ []) []) (ne_eqb ask.port number apart) ∙ append-nil tasks

no-stat : (number : ℕ) (receipt : Receipt) (stats : List ℕ) → (receipt.port ≡ number → ⊥) → stats ++ cond (receipt.port == number) (word_list receipt.stat) [] ≡ stats
no-stat number receipt stats apart = ap (λ b. stats ++ cond b (word_list receipt.stat) []) (ne_eqb receipt.port number apart) ∙ append-nil stats

aside : (number : ℕ) (soft : List Bool) (reason : List ℕ) (made : List Asked) (count : ℕ) (receipts : List Receipt) → count ≤ number → AreReceipts soft (gone_asks reason 0 count ++ made) receipts
    → Aside number soft made (gone_asks reason 0 count ++ made) receipts
aside number soft reason made zero receipts few are = record { rest = receipts; made_are = are; tasks = refl; stats = refl; each = λ test all. all }
aside number soft reason made (suc count) [] few are = absurd are
aside number soft reason made (suc count) (r ∷ receipts) few are =
    let below = aside number soft reason made count receipts (omega (arith, few)) are.1 in
    let port = are.0.port in
    record {
      rest = below.rest;
      made_are = below.made_are;
      tasks = no-task number (gone_ask reason (0 + count)) r (accepted number (gone_asks reason 0 count ++ made) receipts) (λ e. omega (arith, e, few)) ∙ below.tasks;
      stats = no-stat number r (stats_shown number receipts) (λ e. omega (arith, e, port, few)) ∙ below.stats;
      each = λ test all. (λ e none. absurd (omega (arith, e, port, few)), below.each test all);
    }

-- where no call closes the port none of the earlier ones does
back-none : (number : ℕ) (later asks : List Asked) → list_any (closes_port number) (later ++ asks) ≡ false → list_any (closes_port number) asks ≡ false
back-none number later asks none = (or_parts (list_any (closes_port number) later) (list_any (closes_port number) asks) (sym (list_any-append (closes_port number) later asks) ∙ none)).1

pub at-end : (number : ℕ) (soft : List Bool) (reason : List ℕ) (made : List Asked) (count : ℕ) (receipts : List Receipt) → number < count → AreReceipts soft (gone_asks reason 0 count ++ made) receipts
    → AtEnd number soft reason made (gone_asks reason 0 count ++ made) receipts
at-end number soft reason made zero receipts within are = absurd (omega (arith, within))
at-end number soft reason made (suc count) [] within are = absurd are
at-end number soft reason made (suc count) (r ∷ receipts) within are = ⊎_elim
    (λ (same : 0 + count ≡ number).
    let before = aside number soft reason made count receipts (omega (arith, same)) are.1 in
    record {
      rest = before.rest;
      made_are = before.made_are;
      end = r;
      calls = length receipts;
      cause = subst (λ p. HasCause (length receipts) (soft_at p soft) (gone_ask reason p) r.outcome r.stat r.msgq) same are.0.cause;
      tasks = (λ i. before.tasks i ++ cond (eq-eqb (0 + count) number same i && is_put r.outcome) (task_of (gone_ask reason number) r.outcome ∷ []) []);
      stats = (λ i. before.stats i ++ cond (eq-eqb r.port number (are.0.port ∙ same) i) (word_list r.stat) []);
      each = λ test all end. (λ e none. end (back-none number (gone_asks reason 0 (suc count)) made none), before.each test all);
    })
    (λ apart.
    let port = are.0.port in
    let below = at-end number soft reason made count receipts (let e : count ≡ number → ⊥ = λ s. apart (omega (arith, s)) in omega (arith, within, e)) are.1 in
    record {
      rest = below.rest;
      made_are = below.made_are;
      end = below.end;
      calls = below.calls;
      cause = below.cause;
      tasks = no-task number (gone_ask reason (0 + count)) r (accepted number (gone_asks reason 0 count ++ made) receipts) apart ∙ below.tasks;
      stats = no-stat number r (stats_shown number receipts) (λ e. apart (sym port ∙ e)) ∙ below.stats;
      each = λ test all end. (λ e none. absurd (apart (sym port ∙ e)), below.each test all end);
    })
    (cases_eq (0 + count) number)

-- a task that was put found its port open
pub put-open : (calls : ℕ) (soft : Bool) (ask : Asked) (outcome : Outcome) (stat msgq : Option ℕ) → HasCause calls soft ask outcome stat msgq → is_put outcome ≡ true
    → (word : ℕ) × (stat ≡ Some word) × (tells_closed word ≡ false)
put-open calls soft ask Accepted (Some stat) None cause put = (stat, refl, cause.0.opened)
put-open calls soft ask Accepted (Some stat) (Some msgq) cause put = (stat, refl, cause.0.opened)
put-open calls soft ask Suspended (Some stat) (Some msgq) cause put = (stat, refl, cause.0.opened)
put-open calls soft ask Accepted None msgq cause put = absurd cause
put-open calls soft ask Suspended None msgq cause put = absurd cause
put-open calls soft ask Suspended (Some stat) None cause put = absurd cause
put-open calls soft ask outcome stat msgq cause put = absurd cc

-- a command without options that didn't find its port closed is refused for its size or its number alone
taken-cause : (calls : ℕ) (soft : Bool) (ask : Asked) (outcome : Outcome) (stat msgq : Option ℕ) → HasCause calls soft ask outcome stat msgq → ask.how ≡ Plain
    → list_any tells_closed (word_list stat) ≡ false → is_taken outcome ≡ true
taken-cause calls soft ask Accepted stat msgq cause plain opened = refl
taken-cause calls soft ask Suspended stat msgq cause plain opened = refl
taken-cause calls soft ask TooLong stat msgq cause plain opened = refl
taken-cause calls soft ask SentOut stat msgq cause plain opened = refl
taken-cause calls soft ask NotSupported None None cause plain opened = absurd (true≢false (sym cause.2 ∙ ap is_forcing plain))
taken-cause calls soft ask NotSupported None (Some msgq) cause plain opened = absurd cause
taken-cause calls soft ask NotSupported (Some stat) msgq cause plain opened = absurd cause
taken-cause calls soft ask Closed (Some stat) None cause plain opened = absurd (true≢false (sym cause.1 ∙ (or_parts (tells_closed stat) false opened).0))
taken-cause calls soft ask Closed (Some stat) (Some msgq) cause plain opened = absurd cause
taken-cause calls soft ask Closed None msgq cause plain opened = absurd cause
taken-cause calls soft ask Dropped (Some stat) None cause plain opened = absurd (true≢false (sym cause.2 ∙ ap is_dropping plain))
taken-cause calls soft ask Dropped (Some stat) (Some msgq) cause plain opened = absurd (true≢false (sym cause.2 ∙ ap is_dropping plain))
taken-cause calls soft ask Dropped None msgq cause plain opened = absurd cause

-- so no command is refused otherwise where no word told that the port was closed
pub all-taken : (number : ℕ) (soft : List Bool) (asks : List Asked) (receipts : List Receipt) → AreReceipts soft asks receipts → AllByRecursion (IsOwn number) asks
    → saw_closed (stats_shown number receipts) ≡ false → EachBeforeClose number is_taken asks receipts
all-taken number soft [] [] are own opened = tt
all-taken number soft [] (r ∷ receipts) are own opened = absurd are
all-taken number soft (ask ∷ asks) [] are own opened = absurd are
all-taken number soft (ask ∷ asks) (r ∷ receipts) are own opened =
    let shown = cond (r.port == number) (word_list r.stat) [] in
    let parts = or_parts (list_any tells_closed (stats_shown number receipts)) (list_any tells_closed shown) (sym (list_any-append tells_closed (stats_shown number receipts) shown) ∙ opened) in (
      λ same none. taken-cause (length receipts) (soft_at ask.port soft) ask r.outcome r.stat r.msgq are.0.cause (own.0 (eq-eqb ask.port number (sym are.0.port ∙ same))).1
          (sym (ap (λ b. list_any tells_closed (cond b (word_list r.stat) [])) (eq-eqb r.port number same)) ∙ parts.1),
      all-taken number soft asks receipts are.1 own.1 parts.0,
    )

-- of words that rise the first ones do
rises-front : (marks : List StatMark) (from : ℕ) (ts us : List ℕ) → Rises marks from (ts ++ us) → Rises marks from ts
rises-front marks from [] us r = tt
rises-front marks from (t ∷ ts) us r = (r.0, r.1, r.2, r.3, rises-front marks r.0 ts us r.4)

open-front : (ts us : List ℕ) → saw_closed (ts ++ us) ≡ false → saw_closed ts ≡ false
open-front ts us opened = (or_parts (list_any tells_closed ts) (list_any tells_closed us) (sym (list_any-append tells_closed ts us) ∙ opened)).0

-- where a task was put the port was open, and so before
found-open : (calls : ℕ) (soft : Bool) (ask : Asked) (r : Receipt) (marks : List StatMark) (shown : List ℕ) → HasCause calls soft ask r.outcome r.stat r.msgq → is_put r.outcome ≡ true
    → Rises marks 0 (shown ++ word_list r.stat) → saw_closed shown ≡ false
found-open calls soft ask r marks shown cause put rises =
    let found = put-open calls soft ask r.outcome r.stat r.msgq cause put in
    open-front shown (found.0 ∷ []) (never-closed marks 0 shown found.0 (subst (λ stat. Rises marks 0 (shown ++ word_list stat)) found.1 rises) found.2)

-- calls behind these commands, of which those for the port close it. Where one of these was put the port was open for the commands
pub record Behind (number : ℕ) (soft : List Bool) (commands asks : List Asked) (receipts : List Receipt) : Type 0 where
  pub rest : List Receipt
  pub made_are : AreReceipts soft commands rest
  pub closings : List TaskView
  pub closings_are : AreClosings closings
  pub tasks : accepted number asks receipts ≡ accepted number commands rest ++ closings
  pub later : List ℕ
  pub stats : stats_shown number receipts ≡ stats_shown number rest ++ later
  pub opened : (marks : List StatMark) → Rises marks 0 (stats_shown number receipts) → (closings ≡ []) ⊎ (saw_closed (stats_shown number rest) ≡ false)
  pub none : list_any (closes_port number) asks ≡ false → closings ≡ []
  pub each : (test : Outcome → Bool) → EachBeforeClose number test commands rest → EachBeforeClose number test asks receipts

-- one call more
more-opened : (number calls : ℕ) (soft : Bool) (ask : Asked) (r : Receipt) (closings : List TaskView) (shown rest later : List ℕ) (marks : List StatMark) → r.port ≡ ask.port
    → HasCause calls soft ask r.outcome r.stat r.msgq → shown ≡ rest ++ later → Rises marks 0 (shown ++ cond (r.port == number) (word_list r.stat) []) → (closings ≡ []) ⊎ (saw_closed rest ≡ false)
    → (closings ++ task_put number ask r ≡ []) ⊎ (saw_closed rest ≡ false)
more-opened number calls soft ask r closings shown rest later marks port cause stats rises before = by (ask.port == number) (is_put r.outcome) refl refl
  where
    as-before : (closings ++ [] ≡ []) ⊎ (saw_closed rest ≡ false)
    as-before = ⊎_elim (λ (none : closings ≡ []). inl (append-nil closings ∙ none)) (λ (opened : saw_closed rest ≡ false). inr opened) before

    by : (b p : Bool) → (ask.port == number) ≡ b → is_put r.outcome ≡ p → (closings ++ cond (b && p) (task_of ask r.outcome ∷ []) [] ≡ []) ⊎ (saw_closed rest ≡ false)
    by true true same put =
        let told : Rises marks 0 (shown ++ word_list r.stat) = subst (λ b. Rises marks 0 (shown ++ cond b (word_list r.stat) [])) (eq-eqb r.port number (port ∙ eqb-true ask.port number same)) rises in
        inr (open-front rest later (subst (λ s. saw_closed s ≡ false) stats (found-open calls soft ask r marks shown cause put told)))
    by true false same put = as-before
    by false p same put = as-before

close-none : (number : ℕ) (ask : Asked) (r : Receipt) → IsCloseCall number ask → closes_port number ask ≡ false → task_put number ask r ≡ []
close-none number ask r close none = by (ask.port == number) refl
  where
    by : (b : Bool) → (ask.port == number) ≡ b → cond (b && is_put r.outcome) (task_of ask r.outcome ∷ []) [] ≡ []
    by true same = absurd (true≢false (sym (λ i. same i && close same i) ∙ none))
    by false same = refl

pub behind : (number : ℕ) (soft : List Bool) (commands closes : List Asked) (receipts : List Receipt) → AreReceipts soft (closes ++ commands) receipts → AllByRecursion (IsCloseCall number) closes
    → Behind number soft commands (closes ++ commands) receipts
behind number soft commands [] receipts are close = record {
  rest = receipts;
  made_are = are;
  closings = [];
  closings_are = tt;
  tasks = sym (append-nil (accepted number commands receipts));
  later = [];
  stats = sym (append-nil (stats_shown number receipts));
  opened = λ marks rises. inl refl;
  none = λ no. refl;
  each = λ test all. all;
}
behind number soft commands (ask ∷ closes) [] are close = absurd are
behind number soft commands (ask ∷ closes) (r ∷ receipts) are close =
    let below = behind number soft commands closes receipts are.1 close.1 in
    let put = task_put number ask r in
    let shown = cond (r.port == number) (word_list r.stat) [] in
    record {
      rest = below.rest;
      made_are = below.made_are;
      closings = below.closings ++ put;
      closings_are = both _ below.closings put below.closings_are (task-all (λ s. is_closing s ≡ true) number ask r (λ same. close-closing ask.signal (close.0 same)));
      tasks = (λ i. below.tasks i ++ put) ∙ append_assoc (accepted number commands below.rest) below.closings put;
      later = below.later ++ shown;
      stats = (λ i. below.stats i ++ shown) ∙ append_assoc (stats_shown number below.rest) below.later shown;
      opened = λ marks rises. more-opened number (length receipts) (soft_at ask.port soft) ask r below.closings (stats_shown number receipts) (stats_shown number below.rest) below.later marks are.0.port
          are.0.cause below.stats rises (below.opened marks (rises-front marks 0 (stats_shown number receipts) shown rises));
      none = λ no.
          let parts = or_parts (closes_port number ask) (list_any (closes_port number) (closes ++ commands)) no in
          (λ i. below.none parts.1 i ++ close-none number ask r close.0 parts.0 i);
      each = λ test all. (
        λ same no.
            let parts = or_parts (closes_port number ask) (list_any (closes_port number) (closes ++ commands)) no in
            let for : (ask.port == number) ≡ true = eq-eqb ask.port number (sym are.0.port ∙ same) in
            absurd (true≢false (sym (λ i. for i && close.0 for i) ∙ parts.0)),
        below.each test all,
      );
    }

-- the port was open for the owner's commands, since a close or its end was put
pub commands-open : (number : ℕ) (soft : List Bool) (reason : List ℕ) (commands made asks : List Asked) (receipts : List Receipt) (marks : List StatMark) → (told : AtEnd number soft reason made asks receipts)
    → (b : Behind number soft commands made told.rest)
    → (b.closings ++ cond (is_put told.end.outcome) (task_of (gone_ask reason number) told.end.outcome ∷ []) [] ≡ [] → ⊥) → Rises marks 0 (stats_shown number receipts)
    → saw_closed (stats_shown number b.rest) ≡ false
commands-open number soft reason commands made asks receipts marks told b some rises = by (is_put told.end.outcome) refl
  where
    all-rise : Rises marks 0 (stats_shown number told.rest ++ word_list told.end.stat)
    all-rise = subst (Rises marks 0) told.stats rises

    by : (put : Bool) → is_put told.end.outcome ≡ put → saw_closed (stats_shown number b.rest) ≡ false
    by true put = open-front (stats_shown number b.rest) b.later
        (subst (λ s. saw_closed s ≡ false) b.stats (found-open told.calls (soft_at number soft) (gone_ask reason number) told.end marks (stats_shown number told.rest) told.cause put all-rise))
    by false put = ⊎_elim
        (λ (none : b.closings ≡ []). absurd (some (λ i. none i ++ cond (put i) (task_of (gone_ask reason number) told.end.outcome ∷ []) [])))
        (λ (opened : saw_closed (stats_shown number b.rest) ≡ false). opened)
        (b.opened marks (rises-front marks 0 (stats_shown number told.rest) (word_list told.end.stat) all-rise))

pub put-taken : (outcome : Outcome) → is_put outcome ≡ true → is_taken outcome ≡ true
put-taken Accepted put = refl
put-taken Suspended put = refl
put-taken outcome put = absurd cc

-- a command that is taken is put, where it isn't long and few calls were made before
put-cause : (calls : ℕ) (soft : Bool) (ask : Asked) (outcome : Outcome) (stat msgq : Option ℕ) → HasCause calls soft ask outcome stat msgq → is_taken outcome ≡ true → calls < 131072
    → data_size ask.signal ≤ 262143 → is_put outcome ≡ true
put-cause calls soft ask Accepted stat msgq cause taken few short = refl
put-cause calls soft ask Suspended stat msgq cause taken few short = refl
put-cause calls soft ask TooLong None None cause taken few short = absurd (let long = ltb-true 262143 (data_size ask.signal) cause.1 in omega (arith, long, short))
put-cause calls soft ask TooLong None (Some msgq) cause taken few short = absurd cause
put-cause calls soft ask TooLong (Some stat) msgq cause taken few short = absurd cause
put-cause calls soft ask SentOut None None cause taken few short = absurd (let many = cause.1 in omega (arith, many, few))
put-cause calls soft ask SentOut None (Some msgq) cause taken few short = absurd cause
put-cause calls soft ask SentOut (Some stat) msgq cause taken few short = absurd cause
put-cause calls soft ask outcome stat msgq cause taken few short = absurd cc

-- a call for the port has no more data than a port takes
abbrev pub IsShortAsk : ℕ → Asked → Type 0
IsShortAsk number ask = (ask.port == number) ≡ true → data_size ask.signal ≤ 262143

pub as-many : (soft : List Bool) (asks : List Asked) (receipts : List Receipt) → AreReceipts soft asks receipts → length receipts ≡ length asks
as-many soft [] [] are = refl
as-many soft [] (r ∷ receipts) are = absurd are
as-many soft (ask ∷ asks) [] are = absurd are
as-many soft (ask ∷ asks) (r ∷ receipts) are = ap suc (as-many soft asks receipts are.1)

pub made-put : (number : ℕ) (soft : List Bool) (asks : List Asked) (receipts : List Receipt) → AreReceipts soft asks receipts → EachBeforeClose number is_taken asks receipts
    → AllByRecursion (IsShortAsk number) asks → length asks ≤ 131072 → EachBeforeClose number is_put asks receipts
made-put number soft [] [] are taken short few = tt
made-put number soft [] (r ∷ receipts) are taken short few = absurd are
made-put number soft (ask ∷ asks) [] are taken short few = absurd are
made-put number soft (ask ∷ asks) (r ∷ receipts) are taken short few = (
  λ same none. put-cause (length receipts) (soft_at ask.port soft) ask r.outcome r.stat r.msgq are.0.cause (taken.0 same none) (let many = as-many soft asks receipts are.1 in omega (arith, many, few))
      (short.0 (eq-eqb ask.port number (sym are.0.port ∙ same))),
  made-put number soft asks receipts are.1 taken.1 short.1 (omega (arith, few)),
)
